use Rattle.std.proofs.Common.{◌≡◌, ℕ, IfOk, IsCharBoundary, slice_range, refl, sym, ap, subst, ◌∙◌}
use Rattle.rap_frontmatter.specs.Refusal.{Refusal, unclosed}
use Rattle.rap_frontmatter.proofs.ScriptParts.{opening_dashes, cut_past_dashes, dashes_slice}
use Rattle.rap_frontmatter.proofs.ScriptRefused.{reported_same}
use Rattle.rap_frontmatter.proofs.frontmatter.parse.unclosed.Goals as goal

pub range-fence-requires-clause-end_boundary : goal.range-fence-requires-clause-end_boundary
range-fence-requires-clause-end_boundary c =
    subst (λ (k : ℕ). IsCharBoundary c.args.raw.now k) (sym c.end.ensures) (cut_past_dashes _ _ _ _ (opening_dashes _ _ _ _ c.requires.opens) c.requires.some c.utf8.raw)

pub returns : goal.returns
returns c =
    let d = opening_dashes _ _ _ _ c.requires.opens in
    let start = c.args.opening.now.dashes.start in
    let fence = c.range-fence.ensures.value ∙ (ap (λ k. slice_range c.args.raw.now start k) c.end.ensures ∙ dashes_slice _ _ _ _ d) in
    subst (λ (m : Refusal). IfOk c.lacks_close.result (λ e. e ≡ m)) (reported_same _ _ _ _ _ _ (ap unclosed fence) refl c.span-open.ensures) c.lacks_close.ensures
