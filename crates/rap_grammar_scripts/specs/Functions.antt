-- Functions.
-- In the Rust crate: `grammar/items.rs`.
use Rattle.std.specs.Prelude.{codes, ℕ, Bool, [], ◌∷◌, false}
use Rattle.rap_base.specs.TokenKind.{L_PAREN, R_PAREN, R_BRACK, R_ANGLE, SEMICOLON, FN_KW}
use Rattle.rap_base.specs.NodeKind.{FN}
use Rattle.rap_grammar_scripts.specs.Blocks.{block_expr}
use Rattle.rap_grammar_scripts.specs.First.{one_of}
use Rattle.rap_grammar_scripts.specs.ItemNames.{is_item_paren_recovery}
use Rattle.rap_grammar_scripts.specs.Names.{name_r}
use Rattle.rap_grammar_scripts.specs.Params.{param_list_fn_def}
use Rattle.rap_grammar_scripts.specs.Script.{Script, test, report, after, give, skip, again, loop, token, finish}
use Rattle.rap_grammar_scripts.specs.ThroughKnot.{opt_ret_type, opt_no_arrow_ret_type, opt_where_clause, opt_generic_param_list}
use Rattle.rap_grammar_scripts.specs.Words.{done, ◌▸◌, if_some, call, optional, next_so, is_at}
use Rattle.rap_grammar_scripts.specs.declared.rule.Rule.{Rule}

unfoldable pub fn_params : Script Rule
fn_params = test (is_at L_PAREN) param_list_fn_def (report (codes "expected function arguments") ▸ done)

-- the return type of a function, if there is one; a missing arrow is reported
unfoldable pub fn_ret_type : Script Rule
fn_ret_type = after opt_ret_type (λ v. if_some v done (call opt_no_arrow_ret_type ▸ done))

abbrev pub is_unbalanced : ℕ → Bool
is_unbalanced kind = one_of (R_PAREN ∷ R_BRACK ∷ R_ANGLE ∷ []) kind

abbrev pub bracket_turn : Bool → Bool → Script Rule
bracket_turn a b =
    optional (next_so is_unbalanced) (skip (codes "expected a curly brace") ▸ give (again a b))

-- brackets that close nothing
unfoldable pub unbalanced_brackets : Script Rule
unbalanced_brackets = loop bracket_turn false false

unfoldable pub fn_body : Script Rule
fn_body = test (is_at SEMICOLON) (token SEMICOLON ▸ done) block_expr

-- what stands after a function's name and its generic parameters
unfoldable pub signature : Script Rule
signature = call fn_params ▸ call fn_ret_type ▸ call unbalanced_brackets ▸ opt_where_clause

unfoldable pub fn_ : Script Rule
fn_ =
    token FN_KW ▸ call (name_r is_item_paren_recovery) ▸ call opt_generic_param_list ▸ call signature ▸ call fn_body ▸
    finish FN ▸ done
