use Rattle.std.proofs.Common.{◌≤◌, length, arith, ap}
use Rattle.std.proofs.lemmas.List.{get_or_read}
use Rattle.rap_lexed.proofs.Cuts.{count, start}
use Rattle.rap_lexed.proofs.lexed_str.LexedStr.text_start.Goals as goal

pub index-requires : goal.index-requires
index-requires c = omega (arith, count _ _ _ c.self.invariant.0 _ (ap (λ l. l.tokens) c.self.view_is), c.self.invariant.0.long)

pub returns : goal.returns
returns c =
    let seen = ap (λ l. l.tokens) c.self.view_is in
    let inside : c.args.i ≤ length c.self.inside.kind.items = omega (arith, count _ _ _ c.self.invariant.0 _ seen) in
    rw (start _ _ _ c.self.invariant.0 _ seen c.args.i inside) (get_or_read _ c.args.i _ (omega (arith, c.self.invariant.0.long)) c.index.ensures 0)
