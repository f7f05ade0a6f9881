use Rattle.std.proofs.Common.{◌≡◌, ◌≢◌, ℕ, ◌+◌, ◌-◌, ◌<◌, ◌++◌, List, All, length, length-drop, take, drop, slice_range, append_assoc, refl, ap, subst, ◌∙◌, arith}
use Rattle.std.proofs.lemmas.List.{take_rest}
use Rattle.rap_base.specs.declared.edition.Edition.{Edition}
use Rattle.rap_base.specs.TokenKind.{FLOAT_NUMBER}
use Rattle.rap_events.specs.Input.{records}
use Rattle.rap_events.specs.KindRecords.{kind_records}
use Rattle.rap_events.specs.Record.{Record}
use Rattle.rap_events.proofs.KindRecords.{kind_records-further, All-further}
use Rattle.rap_events.proofs.input.columns.Columns.write_kinds.Goals as goal

pub returns-clause-records : goal.returns-clause-records
returns-clause-records c =
    let old = records c.args.self.now c.args.place in
    let kinds = c.args.kinds.now in
    let edition = c.args.self.now.edition in
    let one = c.put_few-end.ensures.room.edition in
    let few = c.put_few-end.result.1 in
    let more = c.put_eights-end.result.1 in
    let rest : slice_range kinds few (length kinds) ≡ drop few kinds = take_rest kinds few in
    let left : length (slice_range kinds few (length kinds)) ≡ length kinds - few = ap length rest ∙ length-drop few kinds in
    let inside : few + more < length kinds = omega (arith, left, c.put_eights-end.ensures.within) in
    c.put_eights-end.ensures.records
    ∙ ap (λ (e : Edition). records c.put_few-end.new.self c.put_few-end.result.0 ++ kind_records (take (more + 1) (slice_range kinds few (length kinds))) e) one
    ∙ ap (λ (rs : List Record). rs ++ kind_records (take (more + 1) (slice_range kinds few (length kinds))) edition) c.put_few-end.ensures.records
    ∙ append_assoc old (kind_records (take (few + 1) kinds) edition) (kind_records (take (more + 1) (slice_range kinds few (length kinds))) edition)
    ∙ ap (λ (ks : List ℕ). old ++ (kind_records (take (few + 1) kinds) edition ++ kind_records (take (more + 1) ks) edition)) rest
    ∙ ap (λ (rs : List Record). old ++ rs) (kind_records-further kinds few more edition inside)

pub returns-clause-floats : goal.returns-clause-floats
returns-clause-floats c =
    let kinds = c.args.kinds.now in
    let few = c.put_few-end.result.1 in
    let more = c.put_eights-end.result.1 in
    All-further (λ (kind : ℕ). kind ≢ FLOAT_NUMBER) kinds few more (few + more) refl c.put_few-end.ensures.floats
    (subst (λ (ks : List ℕ). All (λ (kind : ℕ). kind ≢ FLOAT_NUMBER) (take more ks)) (take_rest kinds few) c.put_eights-end.ensures.floats)
