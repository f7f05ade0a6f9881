-- The lexer's messages at a leaf, added one after another.
use Rattle.std.proofs.Common.{◌≡◌, ℕ, ◌<◌, ◌≤◌, ◌^◌, true, List, [], ◌∷◌, ◌++◌, refl, ap, sym, subst, ◌∙◌, append_assoc, append-nil, length, map, arith}
use Rattle.std.specs.Prelude.{nat_lt}
use Rattle.std.proofs.lemmas.Bool.{cond-true, cond-false, le-ltb, lt-ltb}
use Rattle.rap_ranged.specs.Listing.{Noting, all_added, note, standing_before, standing_past}
use Rattle.rap_ranged.specs.RangedMessages.{RangedMessage}
use Rattle.rap_ranged.specs.Reports.{ReportValue}
use Rattle.rap_c.specs.Lays.{AddsNote, HoldsNotes, MessageRoom}
use Rattle.rap_c.specs.declared.element.RapMessage.{RapMessage}
use Rattle.rap_c.proofs.Written.{overwritten-nothing}

-- some have been added, and with those that wait it will be the same as before
pub record Going (start end : ℕ) (room : List RapMessage) (byte_room : List ℕ) (n0 : Noting) (waiting : List ReportValue) (r : MessageRoom) : Type 0 where
  pub n : Noting
  pub full : n.ranged ≡ length n.notes
  pub holds : HoldsNotes room byte_room n.notes n.ranged r
  pub waits : waiting ≡ n.waiting
  pub same : all_added start end n ≡ all_added start end n0

abbrev make : List RangedMessage → List ReportValue → Noting
make notes waiting = record { notes = notes; ranged = length notes; waiting = waiting }

-- one more
pub going_on : (start end : ℕ) (room : List RapMessage) (byte_room : List ℕ) (n0 : Noting) (w : ReportValue) (ws : List ReportValue) (r s t : MessageRoom)
    → w.at < end → (g : Going start end room byte_room n0 (w ∷ ws) r) → AddsNote (note w start end) r s
    → ((notes : List RangedMessage) (ranged : ℕ) → HoldsNotes room byte_room notes ranged s → HoldsNotes room byte_room notes (length notes) t) → Going start end room byte_room n0 ws t
going_on start end room byte_room n0 w ws r s t low g k whole =
    let f = λ (x : ReportValue). note x start end in
    let notes : List RangedMessage = g.n.notes ++ f w ∷ [] in
    let m : Noting = make notes ws in
    let test : nat_lt w.at end ≡ true = lt-ltb w.at end low in
    let front : standing_before end g.n.waiting ≡ w ∷ standing_before end ws =
    ap (standing_before end) (sym g.waits) ∙ cond-true (nat_lt w.at end) (w ∷ standing_before end ws) [] test in
    let back : standing_past end g.n.waiting ≡ standing_past end ws =
    ap (standing_past end) (sym g.waits) ∙ cond-true (nat_lt w.at end) (standing_past end ws) (w ∷ ws) test in
    let one : all_added start end m ≡ all_added start end g.n =
    ap (λ l. make l (standing_past end ws)) (append_assoc g.n.notes (f w ∷ []) (map f (standing_before end ws)))
    ∙ (ap (λ l. make (g.n.notes ++ map f l) (standing_past end ws)) (sym front)
    ∙ ap (λ l. make (g.n.notes ++ map f (standing_before end g.n.waiting)) l) (sym back)) in
    record {
      n = m;
      full = refl;
      holds = whole notes g.n.ranged (k.holds room byte_room g.n.notes g.n.ranged g.holds);
      waits = refl;
      same = one ∙ g.same;
    }

-- no more
pub record Ended (start end : ℕ) (room : List RapMessage) (byte_room : List ℕ) (n0 : Noting) (waiting : List ReportValue) (r : MessageRoom) : Type 0 where
  pub holds : HoldsNotes room byte_room (all_added start end n0).notes (all_added start end n0).ranged r
  pub waits : waiting ≡ (all_added start end n0).waiting

gone : (start end : ℕ) (room : List RapMessage) (byte_room : List ℕ) (n0 : Noting) (waiting : List ReportValue) (r : MessageRoom) (g : Going start end room byte_room n0 waiting r)
    → standing_before end waiting ≡ [] → standing_past end waiting ≡ waiting → Ended start end room byte_room n0 waiting r
gone start end room byte_room n0 waiting r g none all =
    let f = λ (x : ReportValue). note x start end in
    let is : all_added start end g.n ≡ make g.n.notes waiting =
    ap (λ l. make (g.n.notes ++ map f l) (standing_past end g.n.waiting)) (ap (standing_before end) (sym g.waits) ∙ none)
    ∙ (ap (λ l. make l (standing_past end g.n.waiting)) (append-nil g.n.notes)
    ∙ ap (make g.n.notes) (ap (standing_past end) (sym g.waits) ∙ all)) in
    let last : make g.n.notes waiting ≡ all_added start end n0 = sym is ∙ g.same in
    let P : Noting → Type 0 = λ m. HoldsNotes room byte_room m.notes m.ranged r in
    record {
      holds = subst P last (subst (λ k. HoldsNotes room byte_room g.n.notes k r) g.full g.holds);
      waits = ap (λ (m : Noting). m.waiting) last;
    }

pub gone_late : (start end : ℕ) (room : List RapMessage) (byte_room : List ℕ) (n0 : Noting) (w : ReportValue) (ws : List ReportValue) (r : MessageRoom) → end ≤ w.at
    → Going start end room byte_room n0 (w ∷ ws) r → Ended start end room byte_room n0 (w ∷ ws) r
gone_late start end room byte_room n0 w ws r late g =
    gone start end room byte_room n0 (w ∷ ws) r g
    (cond-false (nat_lt w.at end) (w ∷ standing_before end ws) [] (le-ltb w.at end late)) (cond-false (nat_lt w.at end) (standing_past end ws) (w ∷ ws) (le-ltb w.at end late))

pub gone_all : (start end : ℕ) (room : List RapMessage) (byte_room : List ℕ) (n0 : Noting) (r : MessageRoom) → Going start end room byte_room n0 [] r → Ended start end room byte_room n0 [] r
gone_all start end room byte_room n0 r g = gone start end room byte_room n0 [] r g refl refl

-- nothing is written yet
pub nothing_noted : (room : List RapMessage) (byte_room : List ℕ) (r : MessageRoom) → r.messages ≡ room → r.bytes ≡ byte_room → r.count ≡ 0 → r.said ≡ 0 → r.ranged ≡ 0
    → length room < 2 ^ 64 → length byte_room < 2 ^ 64 → HoldsNotes room byte_room [] 0 r
nothing_noted room byte_room r messages bytes count said ranged short_room short_bytes = record {
  is = messages ∙ sym (overwritten-nothing room);
  bytes = bytes ∙ sym (overwritten-nothing byte_room);
  count = omega (arith, count);
  said = omega (arith, said);
  ranged_is = omega (arith, ranged);
  first = omega arith;
  short_room = short_room;
  short_bytes = short_bytes;
}

-- all have their ranges
pub all_have_ranges : (room : List RapMessage) (byte_room : List ℕ) (s t : MessageRoom) → t.messages ≡ s.messages → t.bytes ≡ s.bytes → t.count ≡ s.count → t.said ≡ s.said → t.ranged ≡ s.count
    → (notes : List RangedMessage) (ranged : ℕ) → HoldsNotes room byte_room notes ranged s → HoldsNotes room byte_room notes (length notes) t
all_have_ranges room byte_room s t messages bytes count said ranged_is notes ranged h = record {
  is = messages ∙ h.is;
  bytes = bytes ∙ h.bytes;
  count = count ∙ h.count;
  said = said ∙ h.said;
  ranged_is = ranged_is ∙ h.count;
  first = omega arith;
  short_room = h.short_room;
  short_bytes = h.short_bytes;
}

-- a message of the lexer by its parts
pub add_as : (w : ReportValue) (text : List ℕ) (at start end : ℕ) (r s : MessageRoom) → text ≡ w.text → at ≡ w.at → AddsNote (record { text = text; at = at; start = start; end = end }) r s → AddsNote (note w start end) r s
add_as w text at start end r s e d k =
    let P : List ℕ → ℕ → Type 0 = λ l n. AddsNote (record { text = l; at = n; start = start; end = end }) r s in
    subst (P w.text) d (subst (λ l. P l at) e k)
