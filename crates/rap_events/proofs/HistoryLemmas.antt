-- Histories of longer lists of events.
use Rattle.std.proofs.Common.{◌≡◌, ℕ, ◌+◌, ◌≤◌, List, [], ◌∷◌, ◌++◌, length, length-drop, drop, Bool, refl, sym, ap, ◌∙◌, arith}
use Rattle.std.proofs.lemmas.List.{drop-drop, drop-append-le, drop_at}
use Rattle.rap_events.specs.History.{Call, reports, reported_by, in_turn, first_message, call_of, history}
use Rattle.rap_events.specs.History as call
use Rattle.rap_events.specs.declared.event.Event.{Event}
use Rattle.rap_events.specs.declared.event.Event.TheVariants as event

-- how a call that reports no message is recorded
pub data Shows : Event → Call → Type 0 where
  start : Shows event.Start call.start
  precede : Shows event.Precede call.precede
  finish : (k : ℕ) → Shows (event.Finish k) (call.finish k)
  extend : Shows event.Extend call.extend
  abandon : Shows event.Abandon call.abandon
  token : (k w : ℕ) → Shows (event.Token w k) (call.token k w)
  float_split : (d : Bool) → Shows (event.FloatSplit d) (call.float_split d)
  enter : (k : ℕ) → Shows (event.Enter k) call.start
  exit : Shows event.Exit call.start

shown : (ms : List (List ℕ)) (e : Event) (x : Call) → Shows e x → call_of ms e ≡ x
shown ms e x start = refl
shown ms e x precede = refl
shown ms e x (finish k) = refl
shown ms e x extend = refl
shown ms e x abandon = refl
shown ms e x (token k w) = refl
shown ms e x (float_split d) = refl
shown ms e x (enter k) = refl
shown ms e x exit = refl

-- it reports none
silent : (e : Event) (x : Call) → Shows e x → reports e ≡ 0
silent e x start = refl
silent e x precede = refl
silent e x (finish k) = refl
silent e x extend = refl
silent e x abandon = refl
silent e x (token k w) = refl
silent e x (float_split d) = refl
silent e x (enter k) = refl
silent e x exit = refl

-- one event more, shown with the messages that those before it do not report
pub in_turn-more : {A : Type 0} (show : List (List ℕ) → Event → A) (es : List Event) (ms : List (List ℕ)) (e : Event) → in_turn show (es ++ e ∷ []) ms ≡ in_turn show es ms ++ show (drop (reported_by es) ms) e ∷ []
in_turn-more show [] ms e = refl
in_turn-more {A} show (x ∷ es) ms e =
    ap (λ (ys : List A). show ms x ∷ ys) (in_turn-more show es (drop (reports x) ms) e)
    ∙ ap (λ (ts : List (List ℕ)). show ms x ∷ (in_turn show es (drop (reports x) ms) ++ show ts e ∷ [])) (drop-drop (reported_by es) (reports x) ms)

pub in_turn-length : {A : Type 0} (show : List (List ℕ) → Event → A) (es : List Event) (ms : List (List ℕ)) → length (in_turn show es ms) ≡ length es
in_turn-length show [] ms = refl
in_turn-length show (e ∷ es) ms = omega (arith, in_turn-length show es (drop (reports e) ms))

pub history-more : (es : List Event) (ms : List (List ℕ)) (e : Event) → history (es ++ e ∷ []) ms ≡ history es ms ++ call_of (drop (reported_by es) ms) e ∷ []
history-more es ms e = in_turn-more call_of es ms e

-- one event more that is no message
pub history-push : (es : List Event) (ms : List (List ℕ)) (e : Event) (x : Call) → Shows e x → history (es ++ e ∷ []) ms ≡ history es ms ++ x ∷ []
history-push es ms e x h = history-more es ms e ∙ ap (λ (y : Call). history es ms ++ y ∷ []) (shown (drop (reported_by es) ms) e x h)

pub reported_by-append : (es fs : List Event) → reported_by (es ++ fs) ≡ reported_by es + reported_by fs
reported_by-append [] fs = omega arith
reported_by-append (e ∷ es) fs = omega (arith, reported_by-append es fs)

pub reported_by-push : (es : List Event) (e : Event) (x : Call) → Shows e x → reported_by (es ++ e ∷ []) ≡ reported_by es
reported_by-push es e x h = omega (arith, reported_by-append es (e ∷ []), silent e x h)

-- a later message changes no call
call_of-more : (ms : List (List ℕ)) (m : List ℕ) (e : Event) → reports e ≤ length ms → call_of (ms ++ m ∷ []) e ≡ call_of ms e
call_of-more ms m event.Start h = refl
call_of-more ms m event.Precede h = refl
call_of-more ms m (event.Finish k) h = refl
call_of-more ms m event.Extend h = refl
call_of-more ms m event.Abandon h = refl
call_of-more ms m (event.Token w k) h = refl
call_of-more ms m (event.FloatSplit d) h = refl
call_of-more [] m (event.Error number) h = absurd (omega arith)
call_of-more (t ∷ ms) m (event.Error number) h = refl
call_of-more ms m (event.Enter k) h = refl
call_of-more ms m event.Exit h = refl

history-later : (es : List Event) (ms : List (List ℕ)) (m : List ℕ) → reported_by es ≤ length ms → history es (ms ++ m ∷ []) ≡ history es ms
history-later [] ms m h = refl
history-later (e ∷ es) ms m h =
    let own : reports e ≤ length ms = omega arith in
    let others : reported_by es ≤ length (drop (reports e) ms) = omega (arith, length-drop (reports e) ms) in
    ap (λ (x : Call). x ∷ history es (drop (reports e) (ms ++ m ∷ []))) (call_of-more ms m e own)
    ∙ ap (λ (ts : List (List ℕ)). call_of ms e ∷ history es ts) (drop-append-le (reports e) ms (m ∷ []) own)
    ∙ ap (λ (xs : List Call). call_of ms e ∷ xs) (history-later es (drop (reports e) ms) m others)

-- one message more
pub history-report : (es : List Event) (ms : List (List ℕ)) (m : List ℕ) (number : ℕ) → reported_by es ≡ length ms → history (es ++ event.Error number ∷ []) (ms ++ m ∷ []) ≡ history es ms ++ call.error m ∷ []
history-report es ms m number h =
    let own : drop (reported_by es) (ms ++ m ∷ []) ≡ m ∷ [] = drop_at ms (m ∷ []) (reported_by es) (sym h) in
    history-more es (ms ++ m ∷ []) (event.Error number)
    ∙ ap (λ (ts : List (List ℕ)). history es (ms ++ m ∷ []) ++ call.error (first_message ts) ∷ []) own
    ∙ ap (λ (xs : List Call). xs ++ call.error m ∷ []) (history-later es ms m (omega arith))

-- how many calls there are
pub length-history : (es : List Event) (ms : List (List ℕ)) → length (history es ms) ≡ length es
length-history es ms = in_turn-length call_of es ms
