-- Names, lifetimes, and what is named after `as` and `extern`.
-- In the Rust crate: `grammar.rs`.
use Rattle.std.specs.Prelude.{codes, ℕ, Bool, false, [], ◌∷◌}
use Rattle.rap_base.specs.TokenKind.{LIFETIME_IDENT, IDENT, SELF_TYPE_KW, EXTERN_KW, STRING, SELF_KW, AS_KW, UNDERSCORE}
use Rattle.rap_base.specs.NodeKind.{NAME_REF, LIFETIME, NAME, ABI, RENAME}
use Rattle.rap_grammar_scripts.specs.First.{is_path_name, is_path_name_or_index, one_of}
use Rattle.rap_grammar_scripts.specs.Script.{Script, test, any, skip, start, finish, token, bear}
use Rattle.rap_grammar_scripts.specs.Words.{done, ◌▸◌, recover, eat, call, optional, next_so, is_at}
use Rattle.rap_grammar_scripts.specs.declared.rule.Rule.{Rule}

-- a name in a path
unfoldable pub name_ref_mod_path : Script Rule
name_ref_mod_path =
    test (next_so is_path_name) (start ▸ any ▸ finish NAME_REF ▸ done)
    (skip (codes "expected identifier, `self`, `super`, `crate`, or `Self`") ▸ done)

-- a name in a path, or a field's number
unfoldable pub name_ref_mod_path_or_index : Script Rule
name_ref_mod_path_or_index =
    test (next_so is_path_name_or_index) (start ▸ any ▸ finish NAME_REF ▸ done)
    (skip (codes "expected integer, identifier, `self`, `super`, `crate`, or `Self`") ▸ done)

unfoldable pub lifetime : Script Rule
lifetime = start ▸ token LIFETIME_IDENT ▸ finish LIFETIME ▸ done

-- a declared name; where it is missing, the next token is skipped too unless it is kept
unfoldable pub name_r : (ℕ → Bool) → Script Rule
name_r kept =
    test (is_at IDENT) (start ▸ token IDENT ▸ finish NAME ▸ done) (recover (codes "expected a name") kept done done)

unfoldable pub name : Script Rule
name = name_r (λ kind. false)

unfoldable pub name_ref_or_index : Script Rule
name_ref_or_index = start ▸ any ▸ finish NAME_REF ▸ done

unfoldable pub name_ref_or_upper_self : Script Rule
name_ref_or_upper_self =
    test (next_so (one_of (IDENT ∷ SELF_TYPE_KW ∷ []))) (start ▸ any ▸ finish NAME_REF ▸ done)
    (skip (codes "expected identifier or `Self`") ▸ done)

unfoldable pub abi : Script Rule
abi = start ▸ token EXTERN_KW ▸ eat STRING ▸ finish ABI ▸ done

unfoldable pub name_ref_or_self : Script Rule
name_ref_or_self =
    test (next_so (one_of (IDENT ∷ SELF_KW ∷ []))) (start ▸ any ▸ finish NAME_REF ▸ done)
    (skip (codes "expected identifier or `self`") ▸ done)

-- a name that may be a keyword
unfoldable pub name_any_identifier : Script Rule
name_any_identifier = start ▸ bear IDENT ▸ finish NAME ▸ done

-- a name after `as`
unfoldable pub opt_rename : Script Rule
opt_rename =
    optional (is_at AS_KW)
    (start ▸ token AS_KW ▸
    test (is_at UNDERSCORE) (token UNDERSCORE ▸ finish RENAME ▸ done) (call name ▸ finish RENAME ▸ done))

abbrev pub given_name : Script Rule
given_name = start ▸ token IDENT ▸ finish NAME ▸ done
