-- One event back, on the code's own lists.
use Rattle.std.proofs.Common.{◌≡◌, ℕ, ◌+◌, ◌<◌, List, [], ◌∷◌, ◌++◌, length, take, drop, map, get_or, sym, ap, ◌∙◌, arith}
use Rattle.std.specs.Prelude.{string_bytes}
use Rattle.std.proofs.lemmas.List.{take_more, drop-drop}
use Rattle.rap_events.specs.History.{Call, reports, reported_by, call_of, history}
use Rattle.rap_events.specs.Unwind.{back, unwind, unread, walk_with, walk_of, texts, texts_read, calls_left, nothing_yet, Taken, EventBacked, Same}
use Rattle.rap_events.specs.declared.event.Event.{Event}
use Rattle.rap_events.specs.declared.event.walk.Walk as kept
use Rattle.rap_events.proofs.HistoryLemmas.{history-more, reported_by-append}
use Rattle.rap_events.proofs.Unwinding.{unwind-push}

-- the event at a place is the last of those up to it
pub last_event : (es : List Event) (i : ℕ) (e : Event) → i < length es → e ≡ get_or es i e → take (i + 1) es ≡ take i es ++ e ∷ []
last_event es i e h g = take_more es i e h ∙ ap (λ (x : Event). take i es ++ x ∷ []) (sym g)

-- the messages of the steps begin with that of the event that was read, if it reports one
pub texts_after : (es : List Event) (ts : List (List ℕ)) (i : ℕ) (e : Event) → i < length es → e ≡ get_or es i e → drop (reports e) (drop (reported_by (take i es)) ts) ≡ drop (reported_by (take (i + 1) es)) ts
texts_after es ts i e h g =
    let more : reported_by (take i es) + reports e ≡ reported_by (take (i + 1) es) = omega (arith, ap reported_by (last_event es i e h g), reported_by-append (take i es) (e ∷ [])) in
    drop-drop (reports e) (reported_by (take i es)) ts ∙ ap (λ (n : ℕ). drop n ts) more

-- an event that was read, and its call taken back
pub event_back : (e : Event) (before old new : kept.Walk) → Taken e before old → EventBacked e old new → Same before new
event_back e before old new t b =
    let es : unread new ≡ unread old = ap (λ (n : ℕ). take n new.events.items) b.kept.left ∙ b.kept.events in
    let read : texts old ≡ texts before = ap (map string_bytes) t.messages in
    let ms : texts new ≡ texts before = ap (map string_bytes) b.kept.messages ∙ read in
    let x : Call = call_of (drop (reported_by (unread old)) (texts before)) e in
    let same : call_of (texts_read old) e ≡ x = ap (λ (m : List (List ℕ)). call_of (drop (reported_by (unread old)) m) e) read in
    record {
      left = ap (λ (n : ℕ). n + 1) b.kept.left ∙ t.left;
      unwound =
          ap (λ (xs : List Call). unwind xs (walk_of new)) (ap (λ (xs : List Event). history xs (texts new)) es ∙ ap (history (unread old)) ms)
          ∙ ap (unwind (history (unread old) (texts before))) (b.walk ∙ ap (back (call_of (texts_read old) e)) t.walk ∙ ap (λ (y : Call). back y (walk_of before)) same)
          ∙ sym (unwind-push (history (unread old) (texts before)) x (walk_of before))
          ∙ ap (λ (xs : List Call). unwind xs (walk_of before)) (sym (ap (λ (xs : List Event). history xs (texts before)) t.events ∙ history-more (unread old) (texts before) e));
    }

-- no event is left, so all messages are reported by the steps
pub all_back : (w : kept.Walk) (xs : List Call) → w.left ≡ 0 → unwind (calls_left w) (walk_of w) ≡ unwind xs nothing_yet → walk_with (texts w) w ≡ unwind xs nothing_yet
all_back w xs z e =
    let all : walk_of w ≡ walk_with (texts w) w = ap (λ (n : ℕ). walk_with (drop (reported_by (take n w.events.items)) (texts w)) w) z in
    sym all ∙ ap (λ (n : ℕ). unwind (history (take n w.events.items) (texts w)) (walk_of w)) (sym z) ∙ e
