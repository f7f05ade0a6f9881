use Rattle.std.proofs.Common.{ℕ, IsCharBoundary, subst, arith, ap, sym}
use Rattle.std.proofs.lemmas.List.{get_or_read}
use Rattle.rap_lexed.proofs.Cuts.{count, range}
use Rattle.rap_lexed.proofs.lexed_str.LexedStr.range_text.Goals as goal

pub index-requires : goal.index-requires
index-requires c = omega (arith, c.self.invariant.0.long, count _ _ _ c.self.invariant.0 _ (ap (λ l. l.tokens) c.self.view_is))

pub index-requires-2 : goal.index-requires-2
index-requires-2 c = omega (arith, c.self.invariant.0.long, count _ _ _ c.self.invariant.0 _ (ap (λ l. l.tokens) c.self.view_is))

pub range-requires-clause-start_le_end : goal.range-requires-clause-start_le_end
range-requires-clause-start_le_end c =
    let n = count _ _ _ c.self.invariant.0 _ (ap (λ l. l.tokens) c.self.view_is) in
    let low = get_or_read _ c.args.r.start _ (omega (arith, n, c.self.invariant.0.long)) c.index.ensures 0 in
    let high = get_or_read _ c.args.r.end _ (omega (arith, n, c.self.invariant.0.long)) c.index-2.ensures 0 in
    rw (low, high) (omega (arith, c.self.invariant.0.rising c.args.r.start c.args.r.end c.requires.rising (omega (arith, n))))

pub range-requires-clause-start_boundary : goal.range-requires-clause-start_boundary
range-requires-clause-start_boundary c =
    let n = count _ _ _ c.self.invariant.0 _ (ap (λ l. l.tokens) c.self.view_is) in
    let low = get_or_read _ c.args.r.start _ (omega (arith, n, c.self.invariant.0.long)) c.index.ensures 0 in
    λ _. subst (λ (i : ℕ). IsCharBoundary c.self.inside.text.now i) (sym low) (c.self.invariant.0.borders c.args.r.start (omega (arith, n)))

pub range-requires-clause-end_boundary : goal.range-requires-clause-end_boundary
range-requires-clause-end_boundary c =
    let n = count _ _ _ c.self.invariant.0 _ (ap (λ l. l.tokens) c.self.view_is) in
    let high = get_or_read _ c.args.r.end _ (omega (arith, n, c.self.invariant.0.long)) c.index-2.ensures 0 in
    subst (λ (i : ℕ). IsCharBoundary c.self.inside.text.now i) (sym high) (c.self.invariant.0.borders c.args.r.end (omega (arith, n)))

pub returns : goal.returns
returns c =
    let seen = ap (λ l. l.tokens) c.self.view_is in
    let n = count _ _ _ c.self.invariant.0 _ seen in
    let low = get_or_read _ c.args.r.start _ (omega (arith, n, c.self.invariant.0.long)) c.index.ensures 0 in
    let high = get_or_read _ c.args.r.end _ (omega (arith, n, c.self.invariant.0.long)) c.index-2.ensures 0 in
    rw (range _ _ _ c.self.invariant.0 _ seen c.args.r.start c.args.r.end (omega (arith, n)) (omega (arith, n)), ← low, ← high) c.range.ensures.value
