-- What the room for messages holds after a step.
use Rattle.std.proofs.Common.{◌≡◌, ℕ, zero, suc, ◌+◌, ◌-◌, ◌^◌, ◌<◌, ◌≤◌, List, [], ◌∷◌, ◌++◌, refl, ap, sym, ◌∙◌, append_assoc, append-nil, get_or, length, length-append, map, min, take, drop, arith, inl, inr}
use Rattle.std.specs.Prelude.{slice_set}
use Rattle.std.proofs.lemmas.Bool.{cases_lt}
use Rattle.std.proofs.lemmas.List.{set_past}
use Rattle.rap_ranged.specs.Listing.{Noting, all_ranged, with_end}
use Rattle.rap_ranged.specs.RangedMessages.{RangedMessage}
use Rattle.rap_c.specs.Element.{message_row, message_rows, message_texts}
use Rattle.rap_c.specs.Filling.{overwritten, write_at}
use Rattle.rap_c.specs.Item.{counted}
use Rattle.rap_c.specs.Lays.{AddsNote, EndsRanges, HoldsNotes, PutsNote, ends_at, MessageRoom}
use Rattle.rap_c.specs.declared.element.RapMessage.{RapMessage}
use Rattle.rap_c.proofs.Cells.{set_next}
use Rattle.rap_c.proofs.Written.{overwritten-length, overwritten-twice, write_at-past}

-- a message whose bytes have this range
abbrev pub said_from : RangedMessage → ℕ → ℕ → RapMessage
said_from m from to = record { at = m.at; start = m.start; end = m.end; text_start = from; text_end = to }

-- one message more
pub texts_more : (ms : List RangedMessage) (m : RangedMessage) → message_texts (ms ++ m ∷ []) ≡ message_texts ms ++ m.text
texts_more [] m = append-nil m.text
texts_more (n ∷ ns) m = ap (λ l. n.text ++ l) (texts_more ns m) ∙ sym (append_assoc n.text (message_texts ns) m.text)

rows_more : (said : ℕ) (ms : List RangedMessage) (m : RangedMessage) → message_rows said (ms ++ m ∷ []) ≡ message_rows said ms ++ message_row (said + length (message_texts ms)) m ∷ []
rows_more said [] m = ap (λ n. message_row n m ∷ []) (omega arith)
rows_more said (n ∷ ns) m =
    ap (λ l. message_row said n ∷ l) (rows_more (said + length n.text) ns m)
    ∙ ap (λ k. message_row said n ∷ (message_rows (said + length n.text) ns ++ message_row k m ∷ [])) (omega (arith, length-append n.text (message_texts ns)))

pub rows_count : (said : ℕ) (ms : List RangedMessage) → length (message_rows said ms) ≡ length ms
rows_count said [] = refl
rows_count said (m ∷ ms) = ap suc (rows_count (said + length m.text) ms)

-- a place above 2^64 - 1 is past the end of the room
set_far : (room rows : List RapMessage) (c : ℕ) (r : RapMessage) → c ≡ counted (length rows) → length room < 2 ^ 64 → slice_set (overwritten room rows) c r ≡ overwritten room (rows ++ r ∷ [])
set_far room rows c r e short = elim (cases_lt (length rows) (2 ^ 64)) [
  | inl low ↦
      let same : c ≡ length rows = omega (arith, e, low) in
      ap (λ n. slice_set (overwritten room rows) n r) same ∙ set_next room rows r
  | inr high ↦
      let c_past : length (overwritten room rows) ≤ c = omega (arith, e, short, high, overwritten-length room rows) in
      let past : length (overwritten room rows) ≤ length rows = omega (arith, short, high, overwritten-length room rows) in
      set_past (overwritten room rows) c r c_past ∙ (sym (set_past (overwritten room rows) (length rows) r past) ∙ set_next room rows r)
]

write_far : (room us vs : List ℕ) (c : ℕ) → c ≡ counted (length us) → length room < 2 ^ 64 → write_at (overwritten room us) c vs ≡ overwritten room (us ++ vs)
write_far room us vs c e short = elim (cases_lt (length us) (2 ^ 64)) [
  | inl low ↦
      let same : c ≡ length us = omega (arith, e, low) in
      ap (λ n. write_at (overwritten room us) n vs) same ∙ overwritten-twice room us vs
  | inr high ↦
      let c_past : length (overwritten room us) ≤ c = omega (arith, e, short, high, overwritten-length room us) in
      let past : length (overwritten room us) ≤ length us = omega (arith, short, high, overwritten-length room us) in
      write_at-past (overwritten room us) c vs c_past ∙ (sym (write_at-past (overwritten room us) (length us) vs past) ∙ overwritten-twice room us vs)
]

pub note_added : (m : RangedMessage) (old new : MessageRoom) (room : List RapMessage) (byte_room : List ℕ) (notes : List RangedMessage) (ranged : ℕ) → HoldsNotes room byte_room notes ranged old
    → new.messages ≡ slice_set old.messages old.count (said_from m old.said (counted (old.said + length m.text)))
    → new.bytes ≡ write_at old.bytes old.said m.text → new.count ≡ counted (old.count + 1) → new.said ≡ counted (old.said + length m.text) → new.ranged ≡ old.ranged
    → HoldsNotes room byte_room (notes ++ m ∷ []) ranged new
note_added m old new room byte_room notes ranged h written bytes count said ranged_is =
    let texts : List ℕ = message_texts notes in
    let make : ℕ → ℕ → RapMessage = λ s e. said_from m s e in
    let row : make old.said (counted (old.said + length m.text)) ≡ message_row (0 + length texts) m =
    ap (λ n. make n (counted (old.said + length m.text))) (h.said ∙ ap counted (omega arith))
    ∙ ap (λ n. make (counted (0 + length texts)) n) (omega (arith, h.said)) in
    let index : old.count ≡ counted (length (message_rows 0 notes)) = h.count ∙ ap counted (sym (rows_count 0 notes)) in
    record {
      is =
          written
          ∙ (ap (λ l. slice_set l old.count (make old.said (counted (old.said + length m.text)))) h.is
          ∙ (ap (λ r. slice_set (overwritten room (message_rows 0 notes)) old.count r) row
          ∙ (set_far room (message_rows 0 notes) old.count (message_row (0 + length texts) m) index h.short_room ∙ ap (overwritten room) (sym (rows_more 0 notes m)))));
      bytes =
          bytes
          ∙ (ap (λ l. write_at l old.said m.text) h.bytes
          ∙ (write_far byte_room texts m.text old.said h.said h.short_bytes ∙ ap (overwritten byte_room) (sym (texts_more notes m))));
      count = omega (arith, count, h.count, length-append notes (m ∷ []));
      said = omega (arith, said, h.said, ap length (texts_more notes m), length-append texts m.text);
      ranged_is = ranged_is ∙ h.ranged_is;
      first = omega (arith, h.first, length-append notes (m ∷ []));
      short_room = h.short_room;
      short_bytes = h.short_bytes;
    }

pub puts_note : (text : List ℕ) (at start end : ℕ) (old new : MessageRoom) → PutsNote text at start end old new → AddsNote (record { text = text; at = at; start = start; end = end }) old new
puts_note text at start end old new p = record {
  holds = λ room byte_room notes ranged h. note_added (record { text = text; at = at; start = start; end = end }) old new room byte_room notes ranged h p.messages p.bytes p.count p.said p.ranged;
}

-- ends come to those without
pub ends_at-none : (i end : ℕ) (rs : List RapMessage) → ends_at i 0 end rs ≡ rs
ends_at-none zero end rs = refl
ends_at-none (suc i) end [] = refl
ends_at-none (suc i) end (r ∷ rs) = ap (λ l. r ∷ l) (ends_at-none i end rs)

ends_at-past : (i n end : ℕ) (rs : List RapMessage) → length rs ≤ i → ends_at i n end rs ≡ rs
ends_at-past zero zero end rs h = refl
ends_at-past zero (suc n) end [] h = refl
ends_at-past zero (suc n) end (r ∷ rs) h = absurd (omega (arith, h))
ends_at-past (suc i) n end [] h = refl
ends_at-past (suc i) n end (r ∷ rs) h = ap (λ l. r ∷ l) (ends_at-past i n end rs (omega (arith, h)))

abbrev with_row_end : ℕ → RapMessage → RapMessage
with_row_end end r = record r { end = end }

ends_at-one : (i n end : ℕ) (rs : List RapMessage) (d : RapMessage) → i < length rs → ends_at (suc i) n end (slice_set rs i (with_row_end end (get_or rs i d))) ≡ ends_at i (suc n) end rs
ends_at-one zero n end [] d h = absurd (omega (arith, h))
ends_at-one zero n end (r ∷ rs) d h = refl
ends_at-one (suc i) n end [] d h = absurd (omega (arith, h))
ends_at-one (suc i) n end (r ∷ rs) d h = ap (λ l. r ∷ l) (ends_at-one i n end rs d (omega (arith, h)))

-- the step of a loop
pub ends_on : (i m end : ℕ) (rs : List RapMessage) (d : RapMessage) (whole : List RapMessage) → i < m → i < length rs → ends_at i (m - i) end rs ≡ whole → let read : RapMessage = get_or rs i d in
    ends_at (i + 1) (m - (i + 1)) end (slice_set rs i (record { at = read.at; start = read.start; end = end; text_start = read.text_start; text_end = read.text_end })) ≡ whole
ends_on i m end rs d whole low inside h =
    let n : ℕ = m - (i + 1) in
    let left : suc n ≡ m - i = omega (arith, low) in
    let next : i + 1 ≡ suc i = omega arith in
    ap (λ k. ends_at k n end (slice_set rs i (with_row_end end (get_or rs i d)))) next
    ∙ (ends_at-one i n end rs d inside ∙ (ap (λ k. ends_at i k end rs) left ∙ h))

pub ends_done : (i m end : ℕ) (rs whole : List RapMessage) → m ≤ i → ends_at i (m - i) end rs ≡ whole → rs ≡ whole
ends_done i m end rs whole past h =
    let none : m - i ≡ 0 = omega (arith, past) in
    sym (ap (λ n. ends_at i n end rs) none ∙ ends_at-none i end rs) ∙ h

-- of a list that is written into a room
ends_filled : (room rows : List RapMessage) (i n end : ℕ) → i + n ≤ length rows → ends_at i (min (i + n) (length room) - i) end (overwritten room rows) ≡ overwritten room (ends_at i n end rows)
ends_filled [] rows i n end h = ends_at-past i (min (i + n) 0 - i) end [] (omega arith)
ends_filled (x ∷ xs) [] i n end h =
    let none : min (i + n) (length (x ∷ xs)) - i ≡ 0 = omega (arith, h) in
    ap (λ k. ends_at i k end (x ∷ xs)) none
    ∙ (ends_at-none i end (x ∷ xs) ∙ ap (overwritten (x ∷ xs)) (sym (ends_at-past i n end [] (omega arith))))
ends_filled (x ∷ xs) (r ∷ rs) zero zero end h =
    let none : min (0 + 0) (length (x ∷ xs)) - 0 ≡ 0 = omega arith in
    ap (λ k. ends_at 0 k end (r ∷ overwritten xs rs)) none
ends_filled (x ∷ xs) (r ∷ rs) zero (suc n) end h =
    let some : min (0 + suc n) (length (x ∷ xs)) - 0 ≡ suc (min (0 + n) (length xs) - 0) = omega arith in
    ap (λ k. ends_at 0 k end (r ∷ overwritten xs rs)) some
    ∙ ap (λ l. with_row_end end r ∷ l) (ends_filled xs rs 0 n end (omega (arith, h)))
ends_filled (x ∷ xs) (r ∷ rs) (suc i) n end h =
    let same : min (suc i + n) (length (x ∷ xs)) - suc i ≡ min (i + n) (length xs) - i = omega arith in
    ap (λ k. ends_at (suc i) k end (r ∷ overwritten xs rs)) same
    ∙ ap (λ l. r ∷ l) (ends_filled xs rs i n end (omega (arith, h)))

-- of messages
abbrev ended_notes : ℕ → ℕ → List RangedMessage → List RangedMessage
ended_notes i end ms = take i ms ++ map (with_end end) (drop i ms)

rows_ended : (said : ℕ) (ms : List RangedMessage) (i end : ℕ) → ends_at i (length ms - i) end (message_rows said ms) ≡ message_rows said (ended_notes i end ms)
rows_ended said [] zero end = refl
rows_ended said [] (suc i) end = refl
rows_ended said (m ∷ ms) zero end =
    let some : length (m ∷ ms) - 0 ≡ suc (length ms - 0) = omega arith in
    ap (λ k. ends_at 0 k end (message_rows said (m ∷ ms))) some
    ∙ ap (λ l. message_row said (with_end end m) ∷ l) (rows_ended (said + length m.text) ms 0 end)
rows_ended said (m ∷ ms) (suc i) end =
    let same : length (m ∷ ms) - suc i ≡ length ms - i = omega arith in
    ap (λ k. ends_at (suc i) k end (message_rows said (m ∷ ms))) same
    ∙ ap (λ l. message_row said m ∷ l) (rows_ended (said + length m.text) ms i end)

texts_ended : (ms : List RangedMessage) (i end : ℕ) → message_texts (ended_notes i end ms) ≡ message_texts ms
texts_ended [] zero end = refl
texts_ended [] (suc i) end = refl
texts_ended (m ∷ ms) zero end = ap (λ l. m.text ++ l) (texts_ended ms 0 end)
texts_ended (m ∷ ms) (suc i) end = ap (λ l. m.text ++ l) (texts_ended ms i end)

pub count_ended : (ms : List RangedMessage) (i end : ℕ) → length (ended_notes i end ms) ≡ length ms
count_ended [] zero end = refl
count_ended [] (suc i) end = refl
count_ended (m ∷ ms) zero end = ap suc (count_ended ms 0 end)
count_ended (m ∷ ms) (suc i) end = ap suc (count_ended ms i end)

pub notes_ended : (end : ℕ) (old new : MessageRoom) (room : List RapMessage) (byte_room : List ℕ) (n : Noting) → HoldsNotes room byte_room n.notes n.ranged old
    → new.messages ≡ ends_at old.ranged (min old.count (length old.messages) - old.ranged) end old.messages → new.bytes ≡ old.bytes
    → new.count ≡ old.count → new.said ≡ old.said → new.ranged ≡ old.count
    → HoldsNotes room byte_room (all_ranged end n).notes (all_ranged end n).ranged new
notes_ended end old new room byte_room n h written bytes count said ranged_is =
    let ms : List RangedMessage = n.notes in
    let i : ℕ = n.ranged in
    let rows : List RapMessage = message_rows 0 ms in
    let left : ℕ = length ms - i in
    let inside : i + left ≤ length rows = omega (arith, h.first, rows_count 0 ms) in
    let wide : length (overwritten room rows) ≡ length room = overwritten-length room rows in
    let filled = ends_filled room rows i left end inside in
    let before : new.messages ≡ ends_at old.ranged (min old.count (length (overwritten room rows)) - old.ranged) end (overwritten room rows) =
    written ∙ ap (λ l. ends_at old.ranged (min old.count (length l) - old.ranged) end l) h.is in
    let now : new.messages ≡ overwritten room (ends_at i left end rows) = elim (cases_lt i (2 ^ 64)) [
      | inl low ↦
          let first : old.ranged ≡ i = omega (arith, h.ranged_is, low) in
          let some : min old.count (length (overwritten room rows)) - old.ranged ≡ min (i + left) (length room) - i = omega (arith, h.count, h.short_room, h.first, wide, first) in
          before ∙ (ap (λ k. ends_at old.ranged k end (overwritten room rows)) some
          ∙ (ap (λ j. ends_at j (min (i + left) (length room) - i) end (overwritten room rows)) first ∙ filled))
      | inr high ↦
          let far : length (overwritten room rows) ≤ old.ranged = omega (arith, h.ranged_is, h.short_room, high, wide) in
          let past : length (overwritten room rows) ≤ i = omega (arith, h.short_room, high, wide) in
          before ∙ (ends_at-past old.ranged (min old.count (length (overwritten room rows)) - old.ranged) end (overwritten room rows) far
          ∙ (sym (ends_at-past i (min (i + left) (length room) - i) end (overwritten room rows) past) ∙ filled))
    ] in
    record {
      is = now ∙ ap (overwritten room) (rows_ended 0 ms i end);
      bytes = bytes ∙ (h.bytes ∙ ap (overwritten byte_room) (sym (texts_ended ms i end)));
      count = count ∙ (h.count ∙ ap counted (sym (count_ended ms i end)));
      said = said ∙ (h.said ∙ ap (λ l. counted (length l)) (sym (texts_ended ms i end)));
      ranged_is = ranged_is ∙ h.count;
      first = omega (arith, count_ended ms i end);
      short_room = h.short_room;
      short_bytes = h.short_bytes;
    }

-- none is left without a range
pub all_ended : (end : ℕ) (r : MessageRoom) → r.ranged ≡ r.count → EndsRanges end r r
all_ended end r all = record {
  holds = λ room byte_room n h.
      let none : min r.count (length r.messages) - r.ranged ≡ 0 = omega (arith, all) in
      notes_ended end r r room byte_room n h (sym (ap (λ k. ends_at r.ranged k end r.messages) none ∙ ends_at-none r.ranged end r.messages)) refl refl refl all;
}
