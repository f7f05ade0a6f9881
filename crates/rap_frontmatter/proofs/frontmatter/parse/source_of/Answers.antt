use Rattle.std.proofs.Common.{refl, sym, subst, ◌∙◌, arith}
use Rattle.rap_frontmatter.specs.Refusal.{Refusal, IsRefused}
use Rattle.rap_frontmatter.proofs.ScriptRefused.{no_memory, reported_same, refused_short}
use Rattle.rap_frontmatter.proofs.frontmatter.parse.source_of.Goals as goal

pub returns-in_err-error-clause-refused : goal.returns-in_err-error-clause-refused
returns-in_err-error-clause-refused c =
    no_memory _ _ _ c.from_residual.ensures.1 (refused_short _ _ _ _ c.find_opening-opening.ensures (omega arith) c.if-opening-lt-SHORTEST_FENCE.true)

pub returns-then-opening-lt-SHORTEST_FENCE-clause-refused : goal.returns-then-opening-lt-SHORTEST_FENCE-clause-refused
returns-then-opening-lt-SHORTEST_FENCE-clause-refused c =
    let refused = refused_short _ _ _ _ c.find_opening-opening.ensures (omega arith) c.if-opening-lt-SHORTEST_FENCE.true in
    let same = c.in_ok-error.ensures ∙ reported_same _ _ _ _ _ _ refl refl c.span.ensures in
    subst (λ (e : Refusal). IsRefused c.args.raw.now e) (sym same) refused
