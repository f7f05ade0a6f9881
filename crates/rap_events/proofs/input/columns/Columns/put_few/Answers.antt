use Rattle.std.proofs.Common.{◌≡◌, ◌≢◌, ℕ, ◌+◌, ◌<◌, length, get_or, refl, ap, sym, ◌∙◌, arith}
use Rattle.std.proofs.lemmas.Bool.{eqb-false}
use Rattle.std.proofs.lemmas.List.{get_or_read}
use Rattle.std.proofs.lemmas.List.Elements.{All-nil, All-more}
use Rattle.rap_base.specs.TokenKind.{EOF, FLOAT_NUMBER}
use Rattle.rap_events.specs.Input.{records}
use Rattle.rap_events.specs.KindRecords.{touches}
use Rattle.rap_events.proofs.KindRecords.{get_or-range, none_yet, put_further}
use Rattle.rap_events.proofs.input.columns.Columns.put_few.Goals as goal

pub tokens-init : goal.tokens-init
tokens-init c = record {
  few = omega arith;
  near = omega arith;
  touching = c.touches-touching.ensures ∙ ap touches (get_or_read c.args.kinds.now 0 c.index-kinds-0.result (omega (arith, c.requires.within)) c.index-kinds-0.is EOF);
  keeps = record { words = refl; edition = refl; editions = refl };
  holds = c.requires.holds;
  records = none_yet (records c.args.self.now c.args.start) c.args.kinds.now (0 + 1) c.args.self.now.edition (omega arith);
  floats = All-nil (λ (kind : ℕ). kind ≢ FLOAT_NUMBER);
}

pub tokens-preserved : goal.tokens-preserved
tokens-preserved c =
    let i = c.tokens.invariant in
    let kinds = c.args.kinds.now in
    let taken = c.tokens.taken in
    let put = c.put_one-next_place.ensures in
    let next : taken + 1 < length kinds = omega (arith, c.requires.within, c.tokens-test.true) in
    let read : c.index-kinds-taken.result ≡ get_or kinds taken EOF = get_or_read kinds taken c.index-kinds-taken.result (omega arith) c.index-kinds-taken.is EOF in
    record {
      few = omega (arith, c.tokens-test.true);
      near = omega (arith, i.near, put.near);
      touching = put.touching ∙ ap touches (get_or-range kinds taken (taken + 2) 1 (taken + 1) EOF (omega arith) (omega arith));
      keeps = record { words = put.room.words ∙ i.keeps.words; edition = put.room.edition ∙ i.keeps.edition; editions = put.room.editions ∙ i.keeps.editions };
      holds = put.holds;
      records = put_further (records c.args.self.now c.args.start) _ _ kinds _ taken (taken + 2) (taken + 1) (taken + 1 + 1) c.args.self.now.edition _ (omega arith) (omega arith) (omega arith) (omega arith) i.keeps.edition i.records refl put.records;
      floats = All-more (λ (kind : ℕ). kind ≢ FLOAT_NUMBER) kinds taken EOF (omega arith) i.floats (λ e. eqb-false c.index-kinds-taken.result FLOAT_NUMBER (sym c.eq.ensures ∙ c.if-eq.false) (read ∙ e));
    }
