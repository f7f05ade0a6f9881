use Rattle.std.proofs.Common.{◌≡◌, ◌++◌, ◌+◌, List, take, sym, ap, ◌∙◌, subst, All}
use Rattle.std.proofs.lemmas.List.Elements.{All-append, All-take}
use Rattle.rap_base.specs.TokenTests.{IsTokenKind}
use Rattle.rap_base.specs.declared.edition.Edition.{Edition}
use Rattle.rap_events.specs.Input.{records}
use Rattle.rap_events.specs.KindRecords.{kind_records}
use Rattle.rap_events.specs.Record.{Record, IsTokenRecord}
use Rattle.rap_events.proofs.KindRecords.{All-kind_records}
use Rattle.rap_events.proofs.input.Input.push_kinds_in_room.Goals as goal

pub invariant_of-self : goal.invariant_of-self
invariant_of-self c =
    let kinds = take (c.write_kinds-end.result.1 + 1) c.args.kinds.now in (
      c.write_kinds-end.ensures.holds,
      subst (λ (rs : List Record). All IsTokenRecord rs) (sym c.write_kinds-end.ensures.records) (All-append IsTokenRecord _ _ c.self.invariant.1 (All-kind_records kinds c.self.inside.columns.edition (All-take IsTokenKind (c.write_kinds-end.result.1 + 1) c.args.kinds.now c.requires))),
    )

pub returns-clause-pushed : goal.returns-clause-pushed
returns-clause-pushed c =
    let kinds = take (c.write_kinds-end.result.1 + 1) c.args.kinds.now in
    let has = c.has_room.ensures.0 c.if-not-has_room.false in
    let one : c.self.inside.columns.edition ≡ c.args.edition = has.0.same has.1 in
    c.write_kinds-end.ensures.records
    ∙ ap (λ (e : Edition). records c.self.inside.columns c.self.inside.len ++ kind_records kinds e) one
    ∙ ap (λ (rs : List Record). rs ++ kind_records kinds c.args.edition) c.self.view_is
