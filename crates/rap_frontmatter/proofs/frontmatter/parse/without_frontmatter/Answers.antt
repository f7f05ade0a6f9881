use Rattle.std.proofs.Common.{sym, subst}
use Rattle.rap_frontmatter.specs.Script.{Script, IsScript, AtBorders}
use Rattle.rap_frontmatter.proofs.ScriptAccepted.{plain_same, accepts_plain, plain_borders}
use Rattle.rap_frontmatter.proofs.frontmatter.parse.without_frontmatter.Goals as goal

pub invariant_of-result : goal.invariant_of-result
invariant_of-result c =
    subst (λ (s : Script). AtBorders s) (sym (plain_same _ _ _ _ c.span_to.ensures c.unwrap_or.ensures)) (plain_borders _ _ _ _ c.requires.opens c.utf8.raw)

pub returns-clause-accepted : goal.returns-clause-accepted
returns-clause-accepted c =
    subst (λ (s : Script). IsScript c.args.raw.now s) (sym (plain_same _ _ _ _ c.span_to.ensures c.unwrap_or.ensures)) (accepts_plain _ _ _ _ c.requires.opens c.requires.none)

pub returns-clause-borders : goal.returns-clause-borders
returns-clause-borders c =
    subst (λ (s : Script). AtBorders s) (sym (plain_same _ _ _ _ c.span_to.ensures c.unwrap_or.ensures)) (plain_borders _ _ _ _ c.requires.opens c.utf8.raw)
