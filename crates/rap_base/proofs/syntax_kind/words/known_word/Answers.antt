use Rattle.std.proofs.Common.{ap, sym, ◌∙◌, arith}
use Rattle.rap_base.specs.Word.{place}
use Rattle.rap_base.proofs.WordTable.{number-is_kind, hit, miss, short, long}
use Rattle.rap_base.proofs.syntax_kind.words.known_word.Goals as goal
use Rattle.rap_base.proofs.syntax_kind.words.known_word.Goals.{then-len-lt2-via-then-len-lt2, then-len-lt2-via-else-len-lt2+then-len-gt15}

pub invariant_of-result : goal.invariant_of-result
invariant_of-result c =
    number-is_kind c.word_table.result.now c.args.text.now c.place.result _ c.word_table.ensures
    (c.place.ensures ∙ ap place c.as_bytes.ensures.value)

pub returns-then-eq : goal.returns-then-eq
returns-then-eq c =
    hit c.word_table.result.now c.args.text.now c.place.result _ c.word_table.ensures
    (c.place.ensures ∙ ap place c.as_bytes.ensures.value) (omega (arith, c.if-len-lt2.false)) (sym c.eq.ensures ∙ c.if-eq.true)

pub returns-else-eq : goal.returns-else-eq
returns-else-eq c =
    sym (miss c.word_table.result.now c.args.text.now c.place.result _ c.word_table.ensures
    (c.place.ensures ∙ ap place c.as_bytes.ensures.value) (sym c.eq.ensures ∙ c.if-eq.false))

pub returns-then-len-lt2 : goal.returns-then-len-lt2
returns-then-len-lt2 c = elim c.then-len-lt2.branch [
  | then-len-lt2-via-then-len-lt2 w ↦ sym (short c.args.text.now (omega (arith, w.if-len-lt2.true)))
  | then-len-lt2-via-else-len-lt2+then-len-gt15 w ↦ sym (long c.args.text.now (omega (arith, w.if-len-gt15.true)))
]
