use Rattle.std.proofs.Common.{◌≡◌, ◌≢◌, ℕ, ◌+◌, ◌<◌, ◌-◌, List, All, length, length-drop, take, drop, slice_range, refl, ap, subst, ◌∙◌, arith}
use Rattle.std.proofs.lemmas.List.{take_rest}
use Rattle.std.proofs.lemmas.List.Elements.{All-nil}
use Rattle.rap_base.specs.TokenKind.{EOF, FLOAT_NUMBER}
use Rattle.rap_events.specs.Input.{records}
use Rattle.rap_events.specs.KindRecords.{touches}
use Rattle.rap_events.proofs.KindRecords.{get_or-range, none_yet, put_further, All-further}
use Rattle.rap_events.proofs.input.columns.Columns.put_eights.Goals as goal

pub eights-init : goal.eights-init
eights-init c = record {
  within = c.requires.some;
  touching = c.requires.touching;
  keeps = record { words = refl; edition = refl; editions = refl };
  holds = c.requires.holds;
  records = none_yet (records c.args.self.now c.args.start) c.args.kinds.now (0 + 1) c.args.self.now.edition (omega arith);
  floats = All-nil (λ (kind : ℕ). kind ≢ FLOAT_NUMBER);
  kinds = λ more. (c.takes_eight-more.ensures.0 more).0;
  room = λ more. (c.takes_eight-more.ensures.0 more).1;
  next_floats = λ more. (c.takes_eight-more.ensures.0 more).2;
}

pub eights-preserved : goal.eights-preserved
eights-preserved c =
    let i = c.eights.invariant in
    let old = records c.args.self.now c.args.start in
    let kinds = c.args.kinds.now in
    let edition = c.args.self.now.edition in
    let first = c.put_four-middle.ensures.room in
    let second = c.put_four-end.ensures.room in
    let taken = c.eights.taken in
    let long : taken + 8 < length kinds = i.kinds c.eights-test.true in
    let rest : slice_range kinds (taken + 8) (length kinds) ≡ drop (taken + 8) kinds = take_rest kinds (taken + 8) in
    let rest_long : length (slice_range kinds (taken + 8) (length kinds)) ≡ length kinds - (taken + 8) = ap length rest ∙ length-drop (taken + 8) kinds in
    let middle = put_further old _ _ kinds _ taken (taken + 5) (taken + 1) (taken + 5) edition _ (omega arith) (omega arith) refl refl i.keeps.edition i.records refl c.put_four-middle.ensures.records in
    record {
      within = long;
      touching = c.put_four-end.ensures.touching ∙ ap touches (get_or-range kinds (taken + 4) (taken + 9) 4 (taken + 8) EOF (omega arith) (omega arith));
      keeps = record { words = second.words ∙ first.words ∙ i.keeps.words; edition = second.edition ∙ first.edition ∙ i.keeps.edition; editions = second.editions ∙ first.editions ∙ i.keeps.editions };
      holds = c.put_four-end.ensures.holds;
      records = put_further old _ _ kinds _ (taken + 4) (taken + 9) (taken + 5) (taken + 8 + 1) edition _ (omega arith) (omega arith) (omega arith) (omega arith) (first.edition ∙ i.keeps.edition) middle refl c.put_four-end.ensures.records;
      floats = All-further (λ (kind : ℕ). kind ≢ FLOAT_NUMBER) kinds taken 8 (taken + 8) refl i.floats (i.next_floats c.eights-test.true);
      kinds = λ more. omega (arith, rest_long, (c.takes_eight-more-in-eights.ensures.0 more).0);
      room = λ more. (c.takes_eight-more-in-eights.ensures.0 more).1;
      next_floats = λ more. subst (λ (ks : List ℕ). All (λ (kind : ℕ). kind ≢ FLOAT_NUMBER) (take 8 ks)) rest (c.takes_eight-more-in-eights.ensures.0 more).2;
    }
