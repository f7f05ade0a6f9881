use Rattle.std.proofs.lemmas.Result.{IfOk-weaker}
use Rattle.rap_grammar.proofs.Depth.{more}
use Rattle.rap_grammar.proofs.knot.AllRulesGrammar.run.Goals as goal

pub returns : goal.returns
returns c = IfOk-weaker _ _ _ (more _ _ c.requires.left _ _ _) c.run.ensures
