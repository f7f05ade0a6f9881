-- What may stand before the keyword of an item.
-- In the Rust crate: `grammar/items.rs`.
use Rattle.std.specs.Prelude.{ℕ, Bool, true, false, [], ◌∷◌, codes}
use Rattle.rap_base.specs.TokenKind.{L_PAREN, R_PAREN, L_CURLY, PIPE, CRATE_KW, SUPER_KW, SELF_KW, IN_KW, IMPL_KW, CONST_KW, ASYNC_KW, GEN_KW, MOVE_KW, FN_KW, UNSAFE_KW, SAFE_KW, EXTERN_KW, AUTO_KW, TRAIT_KW, DEFAULT_KW, TYPE_KW}
use Rattle.rap_base.specs.NodeKind.{IMPL_RESTRICTION}
use Rattle.rap_grammar_scripts.specs.First.{one_of}
use Rattle.rap_grammar_scripts.specs.Names.{abi}
use Rattle.rap_grammar_scripts.specs.declared.rule.Rule.{Rule}
use Rattle.rap_grammar_scripts.specs.Script.{Script, Outcome, nothing, something, block, again, give, token, bear, report, start, finish, after}
use Rattle.rap_grammar_scripts.specs.Test.{Test, kind_so, comes, negated, also, or_else, told}
use Rattle.rap_grammar_scripts.specs.Visibility.{opt_visibility_inner}
use Rattle.rap_grammar_scripts.specs.Words.{done, if_some, reads_as, eat, ◌▸◌, choose, only_if, kind_is, is_at}

-- whether a modifier was there, and whether one of two was
abbrev pub found : Outcome → Bool
found nothing = false
found something = true
found block = true
found (again a b) = true

abbrev pub either_of : Outcome → Outcome → Outcome
either_of nothing w = w
either_of something w = something
either_of block w = something
either_of (again a b) w = something

-- the `impl` restriction of a trait
abbrev pub is_impl_restriction : Test
is_impl_restriction =
    also (is_at IMPL_KW)
    (also (kind_is 1 L_PAREN)
    (or_else
    (also (kind_so 2 (one_of (CRATE_KW ∷ SUPER_KW ∷ SELF_KW ∷ []))) (kind_is 3 R_PAREN))
    (kind_is 2 IN_KW)))

unfoldable pub impl_restriction : Script Rule
impl_restriction =
    start ▸ token IMPL_KW ▸
    after (opt_visibility_inner false) (λ v.
    if_some v (finish IMPL_RESTRICTION ▸ done)
    (report (codes "expected an impl restriction") ▸ finish IMPL_RESTRICTION ▸ done))

unfoldable pub opt_impl_restriction : Script Rule
opt_impl_restriction = only_if is_impl_restriction impl_restriction

-- a modifier that is a keyword, or an identifier that is read as one, if the tokens that come next say so
unfoldable pub modifier : Test → ℕ → Script Rule
modifier h kind = only_if h (token kind ▸ done)

unfoldable pub modifier_as : Test → ℕ → Script Rule
modifier_as h kind = only_if h (bear kind ▸ done)

-- a keyword before an item, and before no block and no closure
abbrev pub is_const_modifier : Test
is_const_modifier = also (is_at CONST_KW) (negated (kind_is 1 L_CURLY))

abbrev pub is_async_modifier : Test
is_async_modifier =
    also (is_at ASYNC_KW)
    (or_else (negated (kind_so 1 (one_of (L_CURLY ∷ GEN_KW ∷ MOVE_KW ∷ PIPE ∷ []))))
    (also (kind_is 1 GEN_KW) (kind_is 2 FN_KW)))

abbrev pub is_gen_modifier : Test
is_gen_modifier = also (is_at GEN_KW) (kind_is 1 FN_KW)

abbrev pub is_unsafe_modifier : Test
is_unsafe_modifier = also (is_at UNSAFE_KW) (negated (kind_is 1 L_CURLY))

abbrev pub is_safe_modifier : Bool → Test
is_safe_modifier is_in_extern = also (told is_in_extern) (reads_as SAFE_KW)

abbrev pub is_auto_modifier : Test
is_auto_modifier = also (reads_as AUTO_KW) (kind_is 1 TRAIT_KW)

unfoldable pub qualifiers : Script Rule
qualifiers =
    after (modifier is_const_modifier CONST_KW) (λ a.
    after (modifier is_async_modifier ASYNC_KW) (λ b.
    after (modifier is_gen_modifier GEN_KW) (λ c.
    give (either_of a (either_of b c)))))

unfoldable pub safety : Bool → Script Rule
safety is_in_extern =
    after (modifier is_unsafe_modifier UNSAFE_KW) (λ a.
    after (modifier_as (is_safe_modifier is_in_extern) SAFE_KW) (λ b.
    give (either_of a b)))

unfoldable pub opt_abi : Script Rule
opt_abi = only_if (is_at EXTERN_KW) abi

-- a `default` before an item, and with the modifier after it
abbrev pub is_default : Test
is_default = also (reads_as DEFAULT_KW) (kind_so 1 (one_of (FN_KW ∷ TYPE_KW ∷ CONST_KW ∷ IMPL_KW ∷ [])))

abbrev pub is_default_unsafe : Test
is_default_unsafe =
    also (reads_as DEFAULT_KW) (also (comes 1 UNSAFE_KW) (kind_so 2 (one_of (IMPL_KW ∷ FN_KW ∷ []))))

abbrev pub is_default_async : Test
is_default_async =
    also (reads_as DEFAULT_KW)
    (also (comes 1 ASYNC_KW) (or_else (comes 2 FN_KW) (also (comes 2 UNSAFE_KW) (comes 3 FN_KW))))

unfoldable pub opt_default : Script Rule
opt_default =
    choose
    ((is_default, bear DEFAULT_KW ▸ done)
    ∷ (is_default_unsafe, bear DEFAULT_KW ▸ token UNSAFE_KW ▸ done)
    ∷ (is_default_async, bear DEFAULT_KW ▸ token ASYNC_KW ▸ eat UNSAFE_KW ▸ done)
    ∷ [])
    (give nothing)

unfoldable pub auto_or_default : Script Rule
auto_or_default =
    after (modifier_as is_auto_modifier AUTO_KW) (λ a. after opt_default (λ b. give (either_of a b)))

-- Whether there were modifiers, and whether `extern` was one, as an outcome. `again` stands for a pair here.
abbrev pub of_modifiers : Bool → Bool → Outcome
of_modifiers any is_extern = again any is_extern

-- all modifiers
unfoldable pub modifiers : Bool → Script Rule
modifiers is_in_extern =
    after opt_impl_restriction (λ a.
    after qualifiers (λ b.
    after (safety is_in_extern) (λ c.
    after opt_abi (λ d.
    after auto_or_default (λ e.
    give (of_modifiers (found (either_of a (either_of b (either_of c (either_of d e))))) (found d)))))))
