use Rattle.std.proofs.Common.{◌≡◌, ◌+◌, ◌<◌, ℕ, List, ap, arith, drop, get_or, length, subst}
use Rattle.std.proofs.lemmas.List.{length-drop}
use Rattle.json.specs.Print.{escape_byte}
use Rattle.rast_messages.proofs.Escapes.{escape_longer, len_more}
use Rattle.rast_messages.proofs.pieces.left_by_text.Goals as goal
use Rattle.rast_messages.proofs.pieces.left_by_text.Goals.{then-is_escaped+else-left-more, else-is_escaped}

pub returns-then-bytes-text-clause-none : goal.returns-then-bytes-text-clause-none
returns-then-bytes-text-clause-none c = omega (arith, c.if-bytes-text.true, escape_longer c.args.text.now)

pub returns-then-left-more-clause-none : goal.returns-then-left-more-clause-none
returns-then-left-more-clause-none c =
    let text = c.args.text.now in
    let i = c.loop-byte.byte-index in
    let value = c.as_bytes-byte-items.ensures.value in
    let low : i < length text = subst (λ (t : List ℕ). i < length t) value c.loop-byte-test.true in
    omega (
      arith,
      c.if-left-more.true,
      c.width-more.ensures.value,
      c.width-more.ensures.some,
      ap (λ (t : List ℕ). length (escape_byte (get_or t i 0))) value,
      c.loop-byte.invariant,
      len_more text i low,
      escape_longer (drop (i + 1) text),
      length-drop i text,
      length-drop (i + 1) text,
      low,
    )

pub loop-byte-preserved : goal.loop-byte-preserved
loop-byte-preserved c =
    let text = c.args.text.now in
    let i = c.loop-byte.byte-index in
    let value = c.as_bytes-byte-items.ensures.value in
    let low : i < length text = subst (λ (t : List ℕ). i < length t) value c.loop-byte-test.true in
    let byte = ap (λ (t : List ℕ). length (escape_byte (get_or t i 0))) value in
    let step = len_more text i low in
    let next : length (drop i text) ≡ length (drop (i + 1) text) + 1 = omega (arith, length-drop i text, length-drop (i + 1) text, low) in
    elim c.if-is_escaped.branch [
      | then-is_escaped+else-left-more w ↦ omega (
        arith,
        w.left-is,
        w.if-left-more.false,
        w.width-more.ensures.value,
        w.width-more.ensures.some,
        byte,
        step,
        next,
        c.loop-byte.invariant,
      )
      | else-is_escaped w ↦ omega (arith, w.left-is, ap length (c.is_escaped.ensures.plain w.if-is_escaped.false), byte, step, next, c.loop-byte.invariant)
    ]
