use Rattle.std.proofs.Common.{subst, sym, ◌<◌, length, arith, ap}
use Rattle.std.proofs.lemmas.List.{get_or_read}
use Rattle.rap_base.specs.TokenTests.{IsTokenKind}
use Rattle.rap_lexed.proofs.Cuts.{count, token}
use Rattle.rap_lexed.proofs.lexed_str.LexedStr.kind.Goals as goal

pub index-requires : goal.index-requires
index-requires c = omega (arith, count _ _ _ c.self.invariant.0 _ (ap (λ l. l.tokens) c.self.view_is))

pub returns-clause-kind : goal.returns-clause-kind
returns-clause-kind c =
    let seen = ap (λ l. l.tokens) c.self.view_is in
    let inside : c.args.i < length c.self.inside.kind.items = omega (arith, count _ _ _ c.self.invariant.0 _ seen) in
    rw (token _ _ _ c.self.invariant.0 _ seen c.args.i inside) (get_or_read _ c.args.i _ inside c.index.ensures 0)

pub returns-clause-token : goal.returns-clause-token
returns-clause-token c =
    let inside : c.args.i < length c.self.inside.kind.items = omega (arith, count _ _ _ c.self.invariant.0 _ (ap (λ l. l.tokens) c.self.view_is)) in
    subst IsTokenKind (sym c.index.ensures) (c.self.invariant.1 c.args.i c.index.result.now inside)
