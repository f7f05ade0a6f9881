-- Modules, lists of items, `extern crate` and type aliases.
-- In the Rust crate: `grammar/items.rs`.
use Rattle.std.specs.Prelude.{Bool, false, true, [], ◌∷◌, codes}
use Rattle.rap_base.specs.TokenKind.{SEMICOLON, EXTERN_KW, CRATE_KW, R_CURLY, EOF, L_CURLY, MOD_KW, COLON, EQ, TYPE_KW, CONST_KW}
use Rattle.rap_base.specs.NodeKind.{EXTERN_CRATE, ITEM_LIST, EXTERN_ITEM_LIST, MODULE, TYPE_ALIAS}
use Rattle.rap_grammar_scripts.specs.Attributes.{inner_attrs}
use Rattle.rap_grammar_scripts.specs.Consts.{konst}
use Rattle.rap_grammar_scripts.specs.Names.{name_ref_or_self, opt_rename, name}
use Rattle.rap_grammar_scripts.specs.Script.{Outcome, nothing, something, block, again, Script, token, finish, give, loop, start, report, test}
use Rattle.rap_grammar_scripts.specs.Test.{Test, comes, also, told}
use Rattle.rap_grammar_scripts.specs.ThroughKnot.{bounds, type_, opt_generic_param_list, opt_where_clause}
use Rattle.rap_grammar_scripts.specs.Words.{done, expect, ◌▸◌, call, recur, choose, optional, is_at}
use Rattle.rap_grammar_scripts.specs.declared.rule.Rule.{Rule}
use Rattle.rap_grammar_scripts.specs.declared.rule.Rule.TheVariants as knot

-- whether there were modifiers, and whether `extern` was one
abbrev pub has_mods : Outcome → Bool
has_mods nothing = false
has_mods something = false
has_mods block = false
has_mods (again a b) = a

abbrev pub has_extern : Outcome → Bool
has_extern nothing = false
has_extern something = false
has_extern block = false
has_extern (again a b) = b

unfoldable pub extern_crate : Script Rule
extern_crate =
    token EXTERN_KW ▸ token CRATE_KW ▸ call name_ref_or_self ▸ call opt_rename ▸ expect SEMICOLON ▸
    finish EXTERN_CRATE ▸ done

-- items in a list, up to the end, or up to a brace that closes
abbrev pub ends_items : Bool → Test
ends_items stop_on_r_curly = also (is_at R_CURLY) (told stop_on_r_curly)

abbrev pub item_turn : Bool → Bool → Bool → Script Rule
item_turn stop_on_r_curly a b =
    choose
    ((is_at EOF, done)
    ∷ (ends_items stop_on_r_curly, done)
    ∷ [])
    (recur (knot.ItemOrMacro stop_on_r_curly true) ▸ give (again a b))

unfoldable pub items : Bool → Script Rule
items stop_on_r_curly = loop (item_turn stop_on_r_curly) false false

-- the same after inner attributes
unfoldable pub mod_contents : Bool → Script Rule
mod_contents stop_on_r_curly = call inner_attrs ▸ items stop_on_r_curly

unfoldable pub item_list : Script Rule
item_list = start ▸ token L_CURLY ▸ call (mod_contents true) ▸ expect R_CURLY ▸ finish ITEM_LIST ▸ done

unfoldable pub extern_item_list : Script Rule
extern_item_list = start ▸ token L_CURLY ▸ call (mod_contents true) ▸ expect R_CURLY ▸ finish EXTERN_ITEM_LIST ▸ done

-- what a module holds, or the semicolon in its place
unfoldable pub mod_body : Script Rule
mod_body =
    choose
    ((is_at L_CURLY, item_list)
    ∷ (is_at SEMICOLON, token SEMICOLON ▸ done)
    ∷ [])
    (report (codes "expected `;` or `{`") ▸ done)

unfoldable pub mod_item : Script Rule
mod_item = token MOD_KW ▸ call name ▸ call mod_body ▸ finish MODULE ▸ done

unfoldable pub alias_bounds : Script Rule
alias_bounds = optional (is_at COLON) bounds

unfoldable pub aliased_type : Script Rule
aliased_type = optional (is_at EQ) (token EQ ▸ type_)

unfoldable pub type_alias : Script Rule
type_alias =
    token TYPE_KW ▸ call name ▸ call opt_generic_param_list ▸ call alias_bounds ▸ call opt_where_clause ▸
    call aliased_type ▸ call opt_where_clause ▸ expect SEMICOLON ▸ finish TYPE_ALIAS ▸ done

-- what begins with `type`
unfoldable pub type_item : Script Rule
type_item = test (comes 1 CONST_KW) konst type_alias
