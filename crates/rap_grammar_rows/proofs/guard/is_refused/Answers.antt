use Rattle.std.proofs.Common.{ℕ, ◌<◌, ◌≤◌, length, sym, subst, ◌∙◌, arith}
use Rattle.rap_grammar_rows.specs.Claims.{IsRefused}
use Rattle.rap_grammar_rows.proofs.Excluded.{refused_by_tokens, refused_at_end, refused_before_end}
use Rattle.rap_grammar_rows.proofs.guard.is_refused.Goals as goal

pub returns-then-end-at : goal.returns-then-end-at
returns-then-end-at c h =
    subst (λ (g : ℕ). IsRefused g c.args.input.now c.args.at c.args.end) (sym c.if-guard-eq18.true)
    (subst (λ (e : ℕ). IsRefused 18 c.args.input.now c.args.at e) (sym c.if-end-at.true)
    (refused_before_end c.args.input.now c.args.at))

pub returns-then-end-at-eq1 : goal.returns-then-end-at-eq1
returns-then-end-at-eq1 c h =
    let a : c.args.at < c.args.end = omega (arith, c.if-at-end.false) in
    let l : c.args.end ≤ length c.args.input.now = omega (arith, c.if-end-len.false, c.len.ensures.len) in
    subst (λ (g : ℕ). IsRefused g c.args.input.now c.args.at c.args.end) (sym c.if-guard-eq4.true)
    (refused_at_end c.args.input.now c.args.at c.args.end c.if-end-at-eq1.true (omega arith) l)

pub returns : goal.returns
returns c h =
    let a : c.args.at < c.args.end = omega (arith, c.if-at-end.false) in
    let l : c.args.end ≤ length c.args.input.now = omega (arith, c.if-end-len.false, c.len.ensures.len) in
    refused_by_tokens c.args.input.now c.args.at c.args.end c.args.guard c.coming.result a l c.coming.ensures
    (sym c.is_excluded.ensures ∙ h)
