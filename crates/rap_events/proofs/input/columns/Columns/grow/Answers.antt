use Rattle.std.proofs.Common.{ℕ, ◌/◌, List, refl, ap, arith}
use Rattle.rap_base.specs.Bits.{bit}
use Rattle.rap_base.specs.TokenKind.{EOF}
use Rattle.rap_events.proofs.Columns.{kept, filled, grew, bit-filled}
use Rattle.rap_events.proofs.input.columns.Columns.grow.Goals as goal

pub returns-in_err-resize-clause-records : goal.returns-in_err-resize-clause-records
returns-in_err-resize-clause-records c =
    let old = c.args.self.now in
    let holds = c.requires in
    kept old _ c.args.len
    (λ i small. c.resize.ensures.by_index.0 i EOF (omega (arith, c.in-Some.ensures)) (omega (arith, holds.room, holds.codes, old.codes.ok.0)))
    (λ i small. refl)
    (λ i small. refl)

pub returns-in_err-fill_if_used-clause-records : goal.returns-in_err-fill_if_used-clause-records
returns-in_err-fill_if_used-clause-records c =
    let old = c.args.self.now in
    let holds = c.requires in
    kept old _ c.args.len
    (λ i small. c.resize.ensures.by_index.0 i EOF (omega (arith, c.in-Some.ensures)) (omega (arith, holds.room, holds.codes, old.codes.ok.0)))
    (λ i small. filled old.editions.items _ c.in-Some.room c.args.len c.fill_if_used.ensures.kept c.fill_if_used.ensures.unused (omega (arith, c.in-Some.ensures)) (λ used. omega (arith, holds.room, holds.editions used)) i old.edition small)
    (λ i small. refl)

pub returns-in_err-resize-2-clause-records : goal.returns-in_err-resize-2-clause-records
returns-in_err-resize-2-clause-records c =
    let old = c.args.self.now in
    let holds = c.requires in
    kept old _ c.args.len
    (λ i small. c.resize.ensures.by_index.0 i EOF (omega (arith, c.in-Some.ensures)) (omega (arith, holds.room, holds.codes, old.codes.ok.0)))
    (λ i small. filled old.editions.items _ c.in-Some.room c.args.len c.fill_if_used.ensures.kept c.fill_if_used.ensures.unused (omega (arith, c.in-Some.ensures)) (λ used. omega (arith, holds.room, holds.editions used)) i old.edition small)
    (λ i small. ap (λ (words : List ℕ). bit words i) c.in_err-resize-2.ensures.items)

pub returns-clause-records : goal.returns-clause-records
returns-clause-records c =
    let old = c.args.self.now in
    let holds = c.requires in
    kept old _ c.args.len
    (λ i small. c.resize.ensures.by_index.0 i EOF (omega (arith, c.in-Some.ensures)) (omega (arith, holds.room, holds.codes, old.codes.ok.0)))
    (λ i small. filled old.editions.items _ c.in-Some.room c.args.len c.fill_if_used.ensures.kept c.fill_if_used.ensures.unused (omega (arith, c.in-Some.ensures)) (λ used. omega (arith, holds.room, holds.editions used)) i old.edition small)
    (λ i small. bit-filled old.joints.items _ (c.in-Some.room / 64) _ i (omega (arith, c.in-Some.ensures, c.if-len.false, holds.room)) c.in_ok-resize-2.ensures.items)

pub returns-clause-holds : goal.returns-clause-holds
returns-clause-holds c =
    let old = c.args.self.now in
    let holds = c.requires in
    grew old _ c.args.len c.in-Some.room holds
    (omega (arith, c.in_ok-resize-2.ensures.len, c.resize-2.new.self.ok.0))
    (omega (arith, c.in-Some.ensures, c.if-len.false, holds.room, c.in_ok-resize-2.ensures.len, c.resize-2.new.self.ok.0))
    (omega (arith, c.in_ok-resize.ensures.len, c.resize.new.self.ok.0))
    c.in_ok-fill_if_used.ensures.ok
    (λ i. bit-filled old.joints.items _ (c.in-Some.room / 64) _ i (omega (arith, c.in-Some.ensures, c.if-len.false, holds.room)) c.in_ok-resize-2.ensures.items)
