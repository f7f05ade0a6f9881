-- Traits and implementations.
use Rattle.std.specs.Prelude.{[], ◌∷◌, Bool, true, false, codes}
use Rattle.rap_base.specs.TokenKind.{EOF, L_CURLY, R_CURLY, L_ANGLE, R_ANGLE, POUND, COMMA, COLON, SEMICOLON, EQ, BANG, IDENT, LIFETIME_IDENT, TRAIT_KW, IMPL_KW, CONST_KW, FOR_KW}
use Rattle.rap_base.specs.NodeKind.{TRAIT, IMPL, ASSOC_ITEM_LIST}
use Rattle.rap_grammar_scripts.specs.Attributes.{inner_attrs}
use Rattle.rap_grammar_scripts.specs.Blocks.{error_block}
use Rattle.rap_grammar_scripts.specs.Test.{Test, kind_so, comes, negated, also, or_else}
use Rattle.rap_grammar_scripts.specs.ThroughKnot.{type_, item_or_macro, bounds, bounds_without_colon, opt_generic_param_list, opt_where_clause}
use Rattle.rap_grammar_scripts.specs.First.{one_of}
use Rattle.rap_grammar_scripts.specs.Names.{name_r}
use Rattle.rap_grammar_scripts.specs.declared.rule.Rule.{Rule}
use Rattle.rap_grammar_scripts.specs.Recovery.{is_item_recovery}
use Rattle.rap_grammar_scripts.specs.Script.{Script, give, test, token, report, start, finish, loop, again}
use Rattle.rap_grammar_scripts.specs.Words.{done, eat, expect, ◌▸◌, call, choose, optional, is_at}

-- an item of a trait or an implementation, or a block in its place
unfoldable pub assoc_item : Script Rule
assoc_item = test (is_at L_CURLY) (error_block (codes "expected an item")) (item_or_macro true false)

abbrev pub assoc_turn : Bool → Bool → Script Rule
assoc_turn a b = choose ((is_at EOF, done) ∷ (is_at R_CURLY, done) ∷ []) (call assoc_item ▸ give (again a b))

unfoldable pub assoc_items : Script Rule
assoc_items = loop assoc_turn false false

unfoldable pub assoc_item_list : Script Rule
assoc_item_list =
    start ▸ token L_CURLY ▸ call inner_attrs ▸ call assoc_items ▸ expect R_CURLY ▸ finish ASSOC_ITEM_LIST ▸ done

-- the same, whose missing is reported
unfoldable pub expect_assoc_item_list : Script Rule
expect_assoc_item_list = test (is_at L_CURLY) assoc_item_list (report (codes "expected `{`") ▸ done)

-- what a trait stands for, after its `=`
unfoldable pub trait_alias : Script Rule
trait_alias = call bounds_without_colon ▸ call opt_where_clause ▸ expect SEMICOLON ▸ done

unfoldable pub opt_bounds : Script Rule
opt_bounds = optional (is_at COLON) bounds

-- what stands after a trait's name and parameters
unfoldable pub trait_body : Script Rule
trait_body = test (is_at EQ) (token EQ ▸ trait_alias) (call opt_bounds ▸ call opt_where_clause ▸ expect_assoc_item_list)

unfoldable pub trait_ : Script Rule
trait_ =
    token TRAIT_KW ▸ call (name_r is_item_recovery) ▸ call opt_generic_param_list ▸ call trait_body ▸ finish TRAIT ▸
    done

-- After an `impl`, a `<` begins parameters, and no type. Where both may be meant, as in `<T> ::a`, it is parameters.
abbrev pub not_a_qualified_path : Test
not_a_qualified_path =
    or_else (kind_so 1 (one_of (POUND ∷ R_ANGLE ∷ CONST_KW ∷ [])))
    (also (kind_so 1 (one_of (LIFETIME_IDENT ∷ IDENT ∷ [])))
    (kind_so 2 (one_of (R_ANGLE ∷ COMMA ∷ COLON ∷ EQ ∷ []))))

abbrev pub is_impl_params_start : Test
is_impl_params_start = also (is_at L_ANGLE) not_a_qualified_path

unfoldable pub impl_params : Script Rule
impl_params = optional is_impl_params_start opt_generic_param_list

-- a `!` before a trait, and not before the braces: there it is the type
abbrev pub is_negative_start : Test
is_negative_start = also (is_at BANG) (negated (comes 1 L_CURLY))

unfoldable pub opt_negative : Script Rule
opt_negative = optional is_negative_start (token BANG ▸ done)

-- a trait or a type
unfoldable pub impl_type : Script Rule
impl_type = test (is_at IMPL_KW) (report (codes "expected trait or type") ▸ done) type_

-- the type of an implementation, with the trait before it
unfoldable pub impl_types : Script Rule
impl_types = call impl_type ▸ optional (is_at FOR_KW) (token FOR_KW ▸ impl_type)

unfoldable pub impl_ : Script Rule
impl_ =
    token IMPL_KW ▸ call impl_params ▸ eat CONST_KW ▸ call opt_negative ▸ call impl_types ▸ call opt_where_clause ▸
    call expect_assoc_item_list ▸ finish IMPL ▸ done
