-- The last event that takes a token shows the last token.
use Rattle.std.proofs.Common.{◌≡◌, ℕ, ◌+◌, ◌<◌, List, [], ◌∷◌, ◌++◌, length, take, drop, get_or, Bool, true, false, refl, ap, ◌∙◌}
use Rattle.rap_base.specs.TokenKind.{EOF}
use Rattle.rap_events.specs.Forest.{Forest, none, node, leaf, message, split, ◌⧺◌}
use Rattle.rap_events.specs.History.{Call, history, first_message}
use Rattle.rap_events.specs.History as call
use Rattle.rap_events.specs.LastToken.{last_after, last_below}
use Rattle.rap_events.specs.Machine.{Stack, floor, push, Config, close, merge, wrap, stretch, step, run, initial}
use Rattle.rap_events.specs.declared.event.Event.{Event}
use Rattle.rap_events.specs.declared.event.Event.TheVariants as event
use Rattle.rap_events.proofs.Backing.{last_event}

-- the kind of an event's token, or else this kind
abbrev pub kind_after : ℕ → Event → ℕ
kind_after k event.Start = k
kind_after k event.Precede = k
kind_after k (event.Finish kind) = k
kind_after k event.Extend = k
kind_after k event.Abandon = k
kind_after k (event.Token width kind) = kind
kind_after k (event.FloatSplit ends_in_dot) = k
kind_after k (event.Error number) = k
kind_after k (event.Enter kind) = k
kind_after k event.Exit = k

-- the same of events one after another
abbrev pub kind_of_last : ℕ → List Event → ℕ
kind_of_last k [] = k
kind_of_last k (e ∷ es) = kind_of_last (kind_after k e) es

kind_of_last-push : (k : ℕ) (es : List Event) (e : Event) → kind_of_last k (es ++ e ∷ []) ≡ kind_after (kind_of_last k es) e
kind_of_last-push k [] e = refl
kind_of_last-push k (x ∷ es) e = kind_of_last-push (kind_after k x) es e

-- up to an event's place
pub one_more : (k : ℕ) (es : List Event) (i : ℕ) (e : Event) → i < length es → e ≡ get_or es i e →
    kind_of_last k (take (i + 1) es) ≡ kind_after (kind_of_last k (take i es)) e
one_more k es i e h g = ap (kind_of_last k) (last_event es i e h g) ∙ kind_of_last-push k (take i es) e

last_after-⧺ : (k : ℕ) (f g : Forest) → last_after k (f ⧺ g) ≡ last_after (last_after k f) g
last_after-⧺ k f none = refl
last_after-⧺ k f (node b kind x) = ap (λ (n : ℕ). last_after n x) (last_after-⧺ k f b)
last_after-⧺ k f (leaf b kind w) = refl
last_after-⧺ k f (message b m) = last_after-⧺ k f b
last_after-⧺ k f (split b d) = last_after-⧺ k f b

-- the last token of all that a history has made
abbrev pub last_of : Config → ℕ
last_of c = last_after (last_below c.below) c.forest

last_of-close : (kind : ℕ) (c : Config) (s : Stack) → s ≡ c.below → last_of (close kind c s) ≡ last_of c
last_of-close kind c floor e = ap (λ (s : Stack). last_after (last_below s) c.forest) e
last_of-close kind c (push r m b) e = ap (λ (s : Stack). last_after (last_below s) c.forest) e

last_of-merge : (c : Config) (s : Stack) → s ≡ c.below → last_of (merge c s) ≡ last_of c
last_of-merge c floor e = ap (λ (s : Stack). last_after (last_below s) c.forest) e
last_of-merge c (push r m b) e = last_after-⧺ (last_below r) b c.forest ∙ ap (λ (s : Stack). last_after (last_below s) c.forest) e

last_of-wrap : (c : Config) (closed : Bool) (f : Forest) → f ≡ c.forest → last_of (wrap c closed f) ≡ last_of c
last_of-wrap c closed none e = refl
last_of-wrap c closed (leaf f k w) e = refl
last_of-wrap c closed (message f m) e = refl
last_of-wrap c closed (split f d) e = refl
last_of-wrap c false (node f k x) e = refl
last_of-wrap c true (node f k x) e = ap (last_after (last_below c.below)) e

last_of-stretch : (c : Config) (f : Forest) (s : Stack) → f ≡ c.forest → s ≡ c.below → last_of (stretch c f s) ≡ last_of c
last_of-stretch c f floor e g = refl
last_of-stretch c none (push r m t) e g = refl
last_of-stretch c (leaf f k w) (push r m t) e g = refl
last_of-stretch c (message f b) (push r m t) e g = refl
last_of-stretch c (split f d) (push r m t) e g = refl
last_of-stretch c (node f k x) (push r m t) e g =
    last_after-⧺ (last_after (last_below r) t) f x
    ∙ ap (λ (s : Stack). last_after (last_below s) (node f k x)) g
    ∙ ap (last_after (last_below c.below)) e

-- an event more
last_of-run : (c : Config) (es : List Event) (ms : List (List ℕ)) → last_of (run c (history es ms)) ≡ kind_of_last (last_of c) es
last_of-run c [] ms = refl
last_of-run c (event.Start ∷ es) ms = last_of-run (step c call.start) es ms
last_of-run c (event.Precede ∷ es) ms =
    last_of-run (step c call.precede) es ms ∙ ap (λ (n : ℕ). kind_of_last n es) (last_of-wrap c c.closed c.forest refl)
last_of-run c (event.Finish kind ∷ es) ms =
    last_of-run (step c (call.finish kind)) es ms ∙ ap (λ (n : ℕ). kind_of_last n es) (last_of-close kind c c.below refl)
last_of-run c (event.Extend ∷ es) ms =
    last_of-run (step c call.extend) es ms ∙ ap (λ (n : ℕ). kind_of_last n es) (last_of-stretch c c.forest c.below refl refl)
last_of-run c (event.Abandon ∷ es) ms =
    last_of-run (step c call.abandon) es ms ∙ ap (λ (n : ℕ). kind_of_last n es) (last_of-merge c c.below refl)
last_of-run c (event.Token width kind ∷ es) ms = last_of-run (step c (call.token kind width)) es ms
last_of-run c (event.FloatSplit ends_in_dot ∷ es) ms = last_of-run (step c (call.float_split ends_in_dot)) es ms
last_of-run c (event.Enter kind ∷ es) ms = last_of-run (step c call.start) es ms
last_of-run c (event.Exit ∷ es) ms = last_of-run (step c call.start) es ms
last_of-run c (event.Error number ∷ es) ms = last_of-run (step c (call.error (first_message ms))) es (drop 1 ms)

-- the last token of all is that of the last event that takes one
pub last_shown : (es : List Event) (ms : List (List ℕ)) → last_of (run initial (history es ms)) ≡ kind_of_last EOF es
last_shown es ms = last_of-run initial es ms

-- an event that takes no token
pub no_token : (k : ℕ) (e : Event) → ((width kind : ℕ) → e ≡ event.Token width kind → ⊥) → kind_after k e ≡ k
no_token k event.Start h = refl
no_token k event.Precede h = refl
no_token k (event.Finish kind) h = refl
no_token k event.Extend h = refl
no_token k event.Abandon h = refl
no_token k (event.Token width kind) h = absurd (h width kind refl)
no_token k (event.FloatSplit ends_in_dot) h = refl
no_token k (event.Error number) h = refl
no_token k (event.Enter kind) h = refl
no_token k event.Exit h = refl
