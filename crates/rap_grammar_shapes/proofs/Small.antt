-- The small rules keep to what they bring.
use Rattle.std.proofs.Common.{◌≡◌, true, refl}
use Rattle.rap_grammar_scripts.specs.Knot.{script_of}
use Rattle.rap_grammar_scripts.specs.declared.rule.Rule.{Rule}
use Rattle.rap_grammar_scripts.specs.declared.rule.Rule.TheVariants as knot
use Rattle.rap_grammar_scripts.proofs.Scripts.{scripts}
use Rattle.rap_grammar_table.proofs.Tests.{tests}
use Rattle.rap_grammar_shapes.proofs.Claims.{brings}
use Rattle.rap_grammar_shapes.proofs.Ends.{brings_all}

-- The ends of a rule's script are what it brings.
abbrev pub Keeps : Rule → Type 0
Keeps c = brings_all (script_of c) (brings c) ≡ true

pub token_tree_keeps : Keeps knot.TokenTree
unfolding scripts tests
token_tree_keeps = refl

pub cfg_predicate_keeps : Keeps knot.CfgPredicate
unfolding scripts tests
cfg_predicate_keeps = refl

pub meta_keeps : Keeps knot.Meta
unfolding scripts tests
meta_keeps = refl

pub use_tree_keeps : Keeps knot.UseTree
unfolding scripts tests
use_tree_keeps = refl

pub if_expr_keeps : Keeps knot.IfExpr
unfolding scripts tests
if_expr_keeps = refl
