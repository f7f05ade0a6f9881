use Rattle.std.proofs.Common.{ℕ, inl, inr, subst, arith}
use Rattle.std.proofs.lemmas.Bool.{both_ways, cases_lt}
use Rattle.rast_frames.specs.Header.{IsLengthField}
use Rattle.rast_frames.proofs.header.length_field.Goals as goal

pub bytes-preserved : goal.bytes-preserved
bytes-preserved c k from small field =
    elim (cases_lt k c.bytes.index) [
      | inl below ↦ c.bytes.invariant k from below field
      | inr above ↦ let here = subst (λ (i : ℕ). IsLengthField c.args.header.now i) (omega arith) field in
          both_ways _ c.if-is_length_field.false (c.is_length_field.ensures.1 here)
    ]
