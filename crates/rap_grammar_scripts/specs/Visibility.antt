-- Visibilities.
-- In the Rust crate: `grammar.rs`.
use Rattle.std.specs.Prelude.{Bool, [], ◌∷◌}
use Rattle.rap_base.specs.TokenKind.{PUB_KW, L_PAREN, R_PAREN, COLON, IDENT, SELF_KW, SUPER_KW, CRATE_KW, IN_KW}
use Rattle.rap_base.specs.NodeKind.{VISIBILITY, VISIBILITY_INNER}
use Rattle.rap_grammar_scripts.specs.First.{one_of}
use Rattle.rap_grammar_scripts.specs.Paths.{vis_path}
use Rattle.rap_grammar_scripts.specs.declared.rule.Rule.{Rule}
use Rattle.rap_grammar_scripts.specs.Script.{Script, nothing, give, token, start, finish}
use Rattle.rap_grammar_scripts.specs.Test.{Test, kind_so, comes, negated, also, told}
use Rattle.rap_grammar_scripts.specs.Words.{done, expect, ◌▸◌, call, choose, only_if, kind_is, is_at}

-- A restriction to a module comes next. In a tuple's field, parentheses around a name or around nothing are its type.
abbrev pub starts_restriction : Bool → Test
starts_restriction in_tuple_field =
    also (is_at L_PAREN)
    (also (kind_so 1 (one_of (CRATE_KW ∷ SELF_KW ∷ SUPER_KW ∷ IDENT ∷ R_PAREN ∷ [])))
    (also (negated (kind_is 2 COLON))
    (negated (also (told in_tuple_field) (kind_so 1 (one_of (IDENT ∷ R_PAREN ∷ [])))))))

-- the same with `in`
abbrev pub starts_in_restriction : Test
starts_in_restriction = also (is_at L_PAREN) (comes 1 IN_KW)

-- a restriction in its parentheses
unfoldable pub restriction : Script Rule
restriction = start ▸ token L_PAREN ▸ call vis_path ▸ expect R_PAREN ▸ finish VISIBILITY_INNER ▸ done

unfoldable pub in_restriction : Script Rule
in_restriction = start ▸ token L_PAREN ▸ token IN_KW ▸ call vis_path ▸ expect R_PAREN ▸ finish VISIBILITY_INNER ▸ done

unfoldable pub opt_visibility_inner : Bool → Script Rule
opt_visibility_inner in_tuple_field =
    choose
    ((starts_restriction in_tuple_field, restriction)
    ∷ (starts_in_restriction, in_restriction)
    ∷ [])
    (give nothing)

-- `pub`, and what it is restricted to; in a tuple's field, parentheses may be the field's type
unfoldable pub opt_visibility : Bool → Script Rule
opt_visibility in_tuple_field =
    only_if (is_at PUB_KW)
    (start ▸ token PUB_KW ▸ call (opt_visibility_inner in_tuple_field) ▸ finish VISIBILITY ▸ done)
