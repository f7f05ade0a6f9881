-- What the rooms hold after the steps of a tree.
use Rattle.std.proofs.Common.{◌≡◌, ℕ, zero, suc, ◌+◌, ◌^◌, ◌<◌, ◌≤◌, Bool, true, false, List, [], ◌∷◌, refl, ap, sym, subst, ◌∙◌, length, length-append, length-set, map, take, drop, arith, inl, inr}
use Rattle.std.specs.Prelude.{◌==◌, nat_lt}
use Rattle.std.specs.List.{slice_get}
use Rattle.std.specs.Prelude.{Some, None}
use Rattle.std.proofs.lemmas.Bool.{cases_lt, cond-true, cond-false, eqb-true, le-ltb, lt-ltb}
use Rattle.std.proofs.lemmas.List.{drop_all}
use Rattle.rap_events.specs.Forest.{Forest}
use Rattle.rap_lexed.specs.LexedStr.{Token}
use Rattle.rap_lexed.specs.StrForest.{str_flat, str_joined, str_one_tree}
use Rattle.rap_lexed.specs.StrSink.{Takes}
use Rattle.rap_lexed.specs.StrStep.{StrStepValue, str_enter, str_exit, str_token, str_error}
use Rattle.rap_lexed.specs.Trivia.{with_trivia}
use Rattle.rap_ranged.specs.Listed.{ListedElement, listed, listed_tree, no_parent}
use Rattle.rap_ranged.specs.Listing.{Listing, Noting, Rising, all_added, all_ranged, closed, ended, listing_after, listing_after_all, noting_after, noting_after_all, step_end}
use Rattle.rap_ranged.specs.MergedMessages.{merged}
use Rattle.rap_ranged.specs.Ranged.{end_from, ranged}
use Rattle.rap_ranged.specs.RangedForest.{RangedForest, alone}
use Rattle.rap_ranged.specs.RangedMessages.{RangedMessage, ranged_message}
use Rattle.rap_ranged.specs.Reports.{ReportValue, reports_of}
use Rattle.rap_ranged.proofs.Listings.{listing-whole}
use Rattle.rap_ranged.proofs.Notings.{end_of_flat, steps_end, told_tree}
use Rattle.rap_ranged.proofs.Roots.{one_node}
use Rattle.rap_ranged.proofs.Seats.{StepsSeated}
use Rattle.rap_c.specs.Element.{cell}
use Rattle.rap_c.specs.Filling.{overwritten}
use Rattle.rap_c.specs.Lays.{AddsNote, AddsWaiting, AreSameRooms, ElementRoom, EndsRanges, HoldsElements, HoldsNodes, HoldsNotes, IsShort, LaysElements, LaysStep, MessageRoom, elements_of, messages_of, places}
use Rattle.rap_c.specs.Listed.{IsListGiven, Rooms}
use Rattle.rap_c.specs.Words.{as_word}
use Rattle.rap_c.specs.declared.element.RapElement.{RapElement}
use Rattle.rap_c.specs.declared.element.RapNodesAnswer.{RapNodesAnswer}
use Rattle.rap_c.specs.declared.node_filler.NodeFiller.{NodeFiller}
use Rattle.rap_c.proofs.Noted.{count_ended}
use Rattle.rap_c.proofs.Told.{Going, gone_all}

pub rooms_refl : (f : NodeFiller) → AreSameRooms f f
rooms_refl f = record { elements = refl; messages = refl; bytes = refl }

pub rooms_trans : (f g h : NodeFiller) → AreSameRooms f g → AreSameRooms g h → AreSameRooms f h
rooms_trans f g h a b = record { elements = b.elements ∙ a.elements; messages = b.messages ∙ a.messages; bytes = b.bytes ∙ a.bytes }

-- the place after a node's end is that before it
closed_at : (es : List ListedElement) (at : ℕ) (open_nodes : List ℕ) → (closed es at open_nodes).at ≡ at
closed_at es at [] = refl
closed_at es at (i ∷ others) = refl

pub place_after : (l : Listing) (s : StrStepValue) → (listing_after l s).at ≡ step_end l.at s
place_after l (str_enter kind) = refl
place_after l str_exit = closed_at l.elements l.at l.opened
place_after l (str_token kind text) = refl
place_after l (str_error bytes pos) = refl

-- a border of a node changes the elements alone
border_laid : (s : StrStepValue) (old new : NodeFiller) (rooms : Rooms) (l : Listing) (n : Noting) → noting_after l.at n s ≡ n → step_end l.at s ≡ l.at → LaysElements old.at s (elements_of old) (elements_of new)
    → messages_of new ≡ messages_of old → new.waiting.now ≡ old.waiting.now → new.next ≡ old.next → new.at ≡ old.at → IsShort l s → HoldsNodes rooms l n old
    → HoldsNodes rooms (listing_after l s) (noting_after l.at n s) new
border_laid s old new rooms l n same_notes same_place k messages waiting next at short h =
    let P : Noting → Type 0 = λ m. HoldsNodes rooms (listing_after l s) m new in
    let Q : MessageRoom → Type 0 = λ r. HoldsNotes rooms.messages rooms.bytes n.notes n.ranged r in
    subst P (sym same_notes) (record {
      elements = k.holds rooms.elements l (sym h.place) short.count h.elements;
      notes = subst Q (sym messages) h.notes;
      waits = ap (λ i. drop i new.waiting.now) next ∙ (ap (λ w. drop old.next w) waiting ∙ h.waits);
      place = at ∙ (h.place ∙ (sym same_place ∙ sym (place_after l s)));
    })

pub enter_laid : (kind : ℕ) (old new : NodeFiller) → LaysElements old.at (str_enter kind) (elements_of old) (elements_of new) → messages_of new ≡ messages_of old → new.waiting.now ≡ old.waiting.now
    → new.next ≡ old.next → new.at ≡ old.at → AreSameRooms old new → LaysStep old (str_enter kind) new
enter_laid kind old new k messages waiting next at same = record {
  holds = λ rooms l n short h. border_laid (str_enter kind) old new rooms l n refl refl k messages waiting next at short h;
  same = same;
}

pub exit_laid : (old new : NodeFiller) → LaysElements old.at str_exit (elements_of old) (elements_of new) → messages_of new ≡ messages_of old → new.waiting.now ≡ old.waiting.now → new.next ≡ old.next
    → new.at ≡ old.at → AreSameRooms old new → LaysStep old str_exit new
exit_laid old new k messages waiting next at same = record {
  holds = λ rooms l n short h. border_laid str_exit old new rooms l n refl refl k messages waiting next at short h;
  same = same;
}

-- a message of the parser
pub error_laid : (bytes : List ℕ) (pos : ℕ) (old new : NodeFiller) → AddsNote (record { text = bytes; at = pos; start = pos; end = pos }) (messages_of old) (messages_of new)
    → elements_of new ≡ elements_of old → new.waiting.now ≡ old.waiting.now → new.next ≡ old.next → new.at ≡ old.at → AreSameRooms old new → LaysStep old (str_error bytes pos) new
error_laid bytes pos old new k elements waiting next at same = record {
  holds = λ rooms l n short h.
      let Q : ElementRoom → Type 0 = λ r. HoldsElements rooms.elements l.elements l.opened r in
      record {
        elements = subst Q (sym elements) h.elements;
        notes = k.holds rooms.messages rooms.bytes n.notes n.ranged h.notes;
        waits = ap (λ i. drop i new.waiting.now) next ∙ (ap (λ w. drop old.next w) waiting ∙ h.waits);
        place = at ∙ h.place;
      };
  same = same;
}

-- a leaf that is not empty
pub leaf_laid : (kind end : ℕ) (text : List ℕ) (old mid new : NodeFiller) → 0 < length text → end ≡ as_word (old.at + length text)
    → ((t : List ℕ) → end ≡ old.at + length t → LaysElements old.at (str_token kind t) (elements_of old) (elements_of mid))
    → EndsRanges end (messages_of old) (messages_of mid) → AddsWaiting old.at end mid new → mid.waiting.now ≡ old.waiting.now → mid.next ≡ old.next → mid.at ≡ end → AreSameRooms old mid
    → LaysStep old (str_token kind text) new
leaf_laid kind end text old mid new some end_is leaf ends adds waiting next at same = record {
  holds = λ rooms l n short h.
      let s : StrStepValue = str_token kind text in
      let e : ℕ = l.at + length text in
      let last : end ≡ old.at + length text = omega (arith, end_is, h.place, short.end) in
      let last_l : end ≡ e = last ∙ ap (λ a. a + length text) h.place in
      let k = leaf text last in
      let first = ends.holds rooms.messages rooms.bytes n h.notes in
      let waits : drop mid.next mid.waiting.now ≡ n.waiting = ap (λ i. drop i mid.waiting.now) next ∙ (ap (λ w. drop old.next w) waiting ∙ h.waits) in
      let full : (all_ranged end n).ranged ≡ length (all_ranged end n).notes = sym (count_ended n.notes n.ranged end) in
      let added = adds.holds rooms.messages rooms.bytes (all_ranged end n) full first waits in
      let told : all_added old.at end (all_ranged end n) ≡ noting_after l.at n s =
      ap (λ a. all_added a end (all_ranged end n)) h.place
      ∙ (ap (λ b. all_added l.at b (all_ranged b n)) last_l
      ∙ sym (cond-true (nat_lt 0 (length text)) (all_added l.at e (all_ranged e n)) n (lt-ltb 0 (length text) some))) in
      let Q : ElementRoom → Type 0 = λ r. HoldsElements rooms.elements (listing_after l s).elements (listing_after l s).opened r in
      let R : Noting → Type 0 = λ m. HoldsNodes rooms (listing_after l s) m new in
      subst R told (record {
        elements = subst Q (sym adds.elements) (k.holds rooms.elements l (sym h.place) short.count h.elements);
        notes = added.0;
        waits = added.1;
        place = adds.place ∙ (at ∙ last_l);
      });
  same = rooms_trans old mid new same adds.same;
}

-- an empty one
pub empty_laid : (kind end : ℕ) (text : List ℕ) (old new : NodeFiller) → length text ≡ 0 → end ≡ as_word (old.at + length text)
    → ((t : List ℕ) → end ≡ old.at + length t → LaysElements old.at (str_token kind t) (elements_of old) (elements_of new))
    → messages_of new ≡ messages_of old → new.waiting.now ≡ old.waiting.now → new.next ≡ old.next → new.at ≡ end → AreSameRooms old new → LaysStep old (str_token kind text) new
empty_laid kind end text old new none end_is leaf messages waiting next at same = record {
  holds = λ rooms l n short h.
      let s : StrStepValue = str_token kind text in
      let e : ℕ = l.at + length text in
      let last : end ≡ old.at + length text = omega (arith, end_is, h.place, short.end) in
      let k = leaf text last in
      let told : noting_after l.at n s ≡ n = cond-false (nat_lt 0 (length text)) (all_added l.at e (all_ranged e n)) n (le-ltb 0 (length text) (omega (arith, none))) in
      let Q : MessageRoom → Type 0 = λ r. HoldsNotes rooms.messages rooms.bytes n.notes n.ranged r in
      let R : Noting → Type 0 = λ m. HoldsNodes rooms (listing_after l s) m new in
      subst R (sym told) (record {
        elements = k.holds rooms.elements l (sym h.place) short.count h.elements;
        notes = subst Q (sym messages) h.notes;
        waits = ap (λ i. drop i new.waiting.now) next ∙ (ap (λ w. drop old.next w) waiting ∙ h.waits);
        place = at ∙ (last ∙ ap (λ a. a + length text) h.place);
      });
  same = same;
}

-- none of the lexer's messages is left
pub nothing_waits : (start end : ℕ) (f : NodeFiller) → length f.waiting.now ≤ f.next → AddsWaiting start end f f
nothing_waits start end f past =
    let none : drop f.next f.waiting.now ≡ [] = drop_all f.next f.waiting.now past in
    record {
      holds = λ room byte_room n full k waits.
          let g : Going start end room byte_room n [] (messages_of f) = record { n = n; full = full; holds = k; waits = sym none ∙ waits; same = refl } in
          let e = gone_all start end room byte_room n (messages_of f) g in
          (e.holds, none ∙ e.waits);
      elements = refl;
      place = refl;
      same = rooms_refl f;
    }

-- the numbers rise
end_later : (ss : List StrStepValue) (at : ℕ) → at ≤ steps_end at ss
end_later [] at = omega arith
end_later (str_enter kind ∷ ss) at = end_later ss at
end_later (str_exit ∷ ss) at = end_later ss at
end_later (str_token kind text ∷ ss) at = omega (arith, end_later ss (at + length text))
end_later (str_error bytes pos ∷ ss) at = end_later ss at

ended_count : (es : List ListedElement) (i at : ℕ) → length (ended es i at (slice_get es i)) ≡ length es
ended_count es i at = elim (slice_get es i) as (λ o. length (ended es i at o) ≡ length es) [
  | None ↦ refl
  | Some e ↦ length-set es i (record e { end = at; after = length es })
]

closed_count : (es : List ListedElement) (at : ℕ) (open_nodes : List ℕ) → length (closed es at open_nodes).elements ≡ length es
closed_count es at [] = refl
closed_count es at (i ∷ others) = ended_count es i at

count_after : (l : Listing) (s : StrStepValue) → length (listing_after l s).elements ≤ length l.elements + 1
count_after l (str_enter kind) = simp length-append (omega arith)
count_after l str_exit = omega (arith, closed_count l.elements l.at l.opened)
count_after l (str_token kind text) = simp length-append (omega arith)
count_after l (str_error bytes pos) = omega arith

-- along the steps of a tree
pub laid_along : (ss : List StrStepValue) (f g : NodeFiller) (rooms : Rooms) (l : Listing) (n : Noting) → Takes LaysStep f ss g → length l.elements + length ss < 2 ^ 64 → steps_end l.at ss < 2 ^ 32
    → HoldsNodes rooms l n f → HoldsNodes rooms (listing_after_all l ss) (noting_after_all l.at n ss) g
laid_along [] f g rooms l n h few low k = subst (HoldsNodes rooms l n) h k
laid_along (s ∷ ss) f g rooms l n h few low k =
    let at : (listing_after l s).at ≡ step_end l.at s = place_after l s in
    let short : IsShort l s = record { count = omega (arith, few); end = omega (arith, low, end_later ss (step_end l.at s)) } in
    let here : HoldsNodes rooms (listing_after l s) (noting_after l.at n s) h.0 = h.1.holds rooms l n short k in
    let P : ℕ → Type 0 = λ a. HoldsNodes rooms (listing_after_all (listing_after l s) ss) (noting_after_all a (noting_after l.at n s) ss) g in
    subst P at (laid_along ss h.0 g rooms (listing_after l s) (noting_after l.at n s) h.2 (omega (arith, few, count_after l s)) (omega (arith, low, ap (λ a. steps_end a ss) at)) here)

pub same_along : (ss : List StrStepValue) (f g : NodeFiller) → Takes LaysStep f ss g → AreSameRooms f g
same_along [] f g h = subst (AreSameRooms f) h (rooms_refl f)
same_along (s ∷ ss) f g h = rooms_trans f h.0 g h.1.same (same_along ss h.0 g h.2)

-- as many as the room has places for
overwritten_few : {A : Type 0} (xs ys : List A) (n : ℕ) → length xs ≤ n → overwritten xs (take n ys) ≡ overwritten xs ys
overwritten_few [] ys n h = refl
overwritten_few (x ∷ xs) ys zero h = absurd (omega (arith, h))
overwritten_few (x ∷ xs) [] (suc n) h = refl
overwritten_few (x ∷ xs) (y ∷ ys) (suc n) h = ap (λ l. y ∷ l) (overwritten_few xs ys n (omega (arith, h)))

as_many : (room rows : List RapElement) → overwritten room (take (places room) rows) ≡ overwritten room (take no_parent rows)
as_many room rows = elim (cases_lt (length room) no_parent) [
  | inl low ↦
      let all : places room ≡ length room = omega (arith, low) in
      ap (λ n. overwritten room (take n rows)) all
      ∙ (overwritten_few room rows (length room) (omega arith) ∙ sym (overwritten_few room rows no_parent (omega (arith, low))))
  | inr high ↦
      let all : places room ≡ no_parent = omega (arith, high) in
      ap (λ n. overwritten room (take n rows)) all
]

-- what is returned of one tree
pub list_given : (ts : List Token) (output : Forest) (others : List ReportValue) (used : ℕ) (rooms rooms_after : Rooms) (f g : NodeFiller) (answer : RapNodesAnswer)
    → str_one_tree (with_trivia ts output) ≡ true → StepsSeated 0 (str_flat (with_trivia ts output)) → length (str_flat (with_trivia ts output)) < 2 ^ 64 → length (str_joined (with_trivia ts output)) < 2 ^ 32
    → Rising 0 others (length (str_joined (with_trivia ts output)))
    → HoldsNodes rooms (record { elements = []; opened = []; at = 0 }) (record { notes = []; ranged = 0; waiting = others }) f → Takes LaysStep f (str_flat (with_trivia ts output)) g
    → rooms_after.elements ≡ g.elements.now → rooms_after.messages ≡ g.messages.now → rooms_after.bytes ≡ g.bytes.now
    → answer ≡ record { status = 0; elements = g.element_counts.count; messages = g.message_counts.count; message_bytes = g.message_counts.said; used = used }
    → IsListGiven ts output others used rooms rooms_after answer
list_given ts output others used rooms rooms_after f g answer one seats few low waits start taken elements messages bytes is =
    let t = with_trivia ts output in
    let ss : List StrStepValue = str_flat t in
    let node = one_node t one in
    let l : Listing = record { elements = []; opened = []; at = 0 } in
    let n : Noting = record { notes = []; ranged = 0; waiting = others } in
    let end : end_from 0 t ≡ length (str_joined t) = omega arith in
    let all : HoldsNodes rooms (listing_after_all l ss) (noting_after_all 0 n ss) g =
    laid_along ss f g rooms l n taken (omega (arith, few)) (omega (arith, low, end, end_of_flat t)) start in
    let made : listing_after_all l ss ≡ record { elements = listed 0 no_parent (ranged 0 t); opened = []; at = end_from 0 t } = listing-whole t [] in
    let list : (listing_after_all l ss).elements ≡ listed_tree node.0 = ap (λ (x : Listing). x.elements) made ∙ ap (listed 0 no_parent) node.1 in
    let Place : RangedForest → List RangedMessage = λ r. merged (map (ranged_message r) (reports_of ss)) (map (ranged_message r) others) in
    let notes : (noting_after_all 0 n ss).notes ≡ Place (alone node.0) =
    told_tree t others seats (subst (Rising 0 others) (sym end) waits) ∙ ap Place node.1 in
    let E : List ListedElement → Type 0 = λ es. HoldsElements rooms.elements es (listing_after_all l ss).opened (elements_of g) in
    let N : List RangedMessage → Type 0 = λ ms. HoldsNotes rooms.messages rooms.bytes ms (noting_after_all 0 n ss).ranged (messages_of g) in
    let es : HoldsElements rooms.elements (listed_tree node.0) (listing_after_all l ss).opened (elements_of g) = subst E list all.elements in
    let ms : HoldsNotes rooms.messages rooms.bytes (Place (alone node.0)) (noting_after_all 0 n ss).ranged (messages_of g) = subst N notes all.notes in
    record {
      root = node.0;
      ranged = sym node.1;
      given = record {
        elements_are = elements ∙ (es.is ∙ as_many rooms.elements (map cell (listed_tree node.0)));
        messages_are = messages ∙ ms.is;
        bytes_are = bytes ∙ ms.bytes;
        status = ap (λ (a : RapNodesAnswer). a.status) is;
        count = ap (λ (a : RapNodesAnswer). a.elements) is ∙ es.count;
        message_count = ap (λ (a : RapNodesAnswer). a.messages) is ∙ ms.count;
        byte_count = ap (λ (a : RapNodesAnswer). a.message_bytes) is ∙ ms.said;
        used_is = ap (λ (a : RapNodesAnswer). a.used) is;
      };
    }

-- whether a text is empty
pub some_bytes : (n : ℕ) (b : Bool) → b ≡ (n == 0) → b ≡ false → 0 < n
some_bytes zero b e h = absurd (cc)
some_bytes (suc n) b e h = omega arith

pub no_bytes : (n : ℕ) (b : Bool) → b ≡ (n == 0) → b ≡ true → n ≡ 0
no_bytes n b e h = eqb-true n 0 (sym e ∙ h)
