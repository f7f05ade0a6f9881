use Rattle.std.proofs.Common.{◌≡◌, ◌<◌, ◌+◌, ◌∷◌, ◌++◌, [], ℕ, List, length, get_or, slice_range, ap, sym, subst, ◌∙◌, string_bytes}
use Rattle.json.specs.Print.{escape_byte}
use Rattle.rast_messages.proofs.Escapes.{IsEscapedTo, escape_written, none_escaped, plain_passed}
use Rattle.rast_messages.proofs.pieces.push_escaped.Goals as goal
use Rattle.rast_messages.proofs.pieces.push_escaped.Goals.{then-is_escaped+in_ok-push_str+in_ok-push_escape, else-is_escaped}

pub loop-at-init : goal.loop-at-init
loop-at-init c = none_escaped (string_bytes c.args.json.now) c.args.text.now c.utf8.text

pub loop-at-preserved : goal.loop-at-preserved
loop-at-preserved c =
    let text = c.args.text.now in
    let bytes = c.as_bytes-byte-items.result.now in
    let start = string_bytes c.args.json.now in
    let at = c.loop-at.at in
    let same : bytes ≡ text = c.as_bytes-byte-items.ensures.value in
    let low : at < length text = subst (λ (t : List ℕ). at < length t) same c.loop-at-test.true in
    elim c.if-is_escaped.branch [
      | then-is_escaped+in_ok-push_str+in_ok-push_escape w ↦
          let ascii : get_or text at 0 < 128 = subst (λ (t : List ℕ). get_or t at 0 < 128) same (c.is_escaped.ensures.ascii w.if-is_escaped.true) in
          let json : string_bytes c.if-is_escaped.json ≡ (string_bytes c.loop-at.json ++ slice_range text c.loop-at.from at) ++ escape_byte (get_or text at 0)
          = ap string_bytes w.json-is ∙ w.in_ok-push_escape.ensures
          ∙ ap (λ l. l ++ escape_byte (get_or bytes at 0)) (w.in_ok-push_str.ensures.bytes ∙ ap (λ l. string_bytes c.loop-at.json ++ l) w.range.ensures.value)
          ∙ ap (λ (t : List ℕ). (string_bytes c.loop-at.json ++ slice_range text c.loop-at.from at) ++ escape_byte (get_or t at 0)) same in
          subst (λ (n : ℕ). IsEscapedTo (string_bytes c.if-is_escaped.json) start text n (at + 1)) (sym w.from-is)
          (escape_written (string_bytes c.loop-at.json) (string_bytes c.if-is_escaped.json) start text c.loop-at.from at c.loop-at.invariant c.utf8.text low ascii json)
      | else-is_escaped w ↦
          let plain : escape_byte (get_or text at 0) ≡ get_or text at 0 ∷ []
          = subst (λ (t : List ℕ). escape_byte (get_or t at 0) ≡ get_or t at 0 ∷ []) same (c.is_escaped.ensures.plain w.if-is_escaped.false) in
          rw (w.json-is, w.from-is) (plain_passed (string_bytes c.loop-at.json) start text c.loop-at.from at c.loop-at.invariant low plain)
    ]
