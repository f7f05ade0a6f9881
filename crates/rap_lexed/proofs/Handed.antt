-- Steps handed to a sink, some after others.
use Rattle.std.proofs.Common.{◌≡◌, refl, sym, ◌∙◌, ap, subst, List, [], ◌∷◌, ◌++◌, append_assoc, Result, Ok, Err}
use Rattle.std.specs.Prelude.{MatchResult, IsErrAnd, OnOk}
use Rattle.rap_lexed.specs.StrStep.{StrStepValue}
use Rattle.rap_lexed.specs.StrSink.{Takes, Stops, HandsOut}

-- a fact holds whatever the call returns
pub OnOk-from : {T R : Type 0} {P : Type 0} (r : Result T R) → P → OnOk r P
OnOk-from (Ok v) h = h
OnOk-from (Err e) h = tt

pub takes-append : {S : Type 0} (takes : S → StrStepValue → S → Type 0) (s m t : S) (xs ys : List StrStepValue) → Takes takes s xs m → Takes takes m ys t → Takes takes s (xs ++ ys) t
takes-append takes s m t [] ys h k = rw h k
takes-append takes s m t (x ∷ xs) ys h k = (h.0, h.1, takes-append takes h.0 m t xs ys h.2 k)

pub takes-one : {S : Type 0} (takes : S → StrStepValue → S → Type 0) (x : StrStepValue) (s t : S) → takes s x t → Takes takes s (x ∷ []) t
takes-one takes x s t h = (t, h, refl)

-- the first step is refused
pub stops-here : {S R : Type 0} (takes : S → StrStepValue → S → Type 0) (refuses : S → StrStepValue → R → S → Type 0) (x : StrStepValue) (xs : List StrStepValue) (s t : S) (e : R) → refuses s x e t → Stops takes refuses s (x ∷ xs) e t
stops-here takes refuses x xs s t e h = record { prefix = []; next = x; back = xs; before = s; split = refl; taken = refl; refused = h }

-- a step is refused among the first ones
pub stops-within : {S R : Type 0} (takes : S → StrStepValue → S → Type 0) (refuses : S → StrStepValue → R → S → Type 0) (xs ys : List StrStepValue) (s t : S) (e : R) → Stops takes refuses s xs e t → Stops takes refuses s (xs ++ ys) e t
stops-within takes refuses xs ys s t e h = record {
  prefix = h.prefix;
  next = h.next;
  back = h.back ++ ys;
  before = h.before;
  split = ap (λ l. l ++ ys) h.split ∙ append_assoc h.prefix (h.next ∷ h.back) ys;
  taken = h.taken;
  refused = h.refused;
}

-- a step is refused after the first ones
pub stops-after : {S R : Type 0} (takes : S → StrStepValue → S → Type 0) (refuses : S → StrStepValue → R → S → Type 0) (xs ys : List StrStepValue) (s m t : S) (e : R) → Takes takes s xs m → Stops takes refuses m ys e t → Stops takes refuses s (xs ++ ys) e t
stops-after takes refuses xs ys s m t e h k = record {
  prefix = xs ++ k.prefix;
  next = k.next;
  back = k.back;
  before = k.before;
  split = ap (λ l. xs ++ l) k.split ∙ sym (append_assoc xs k.prefix (k.next ∷ k.back));
  taken = takes-append takes s m k.before xs k.prefix h k.taken;
  refused = k.refused;
}

-- one step
pub hands-one : {S R T : Type 0} (takes : S → StrStepValue → S → Type 0) (refuses : S → StrStepValue → R → S → Type 0) (x : StrStepValue) (s t : S) (r : Result T R) → MatchResult r (λ _. takes s x t) (λ e. refuses s x e t) → HandsOut takes refuses s (x ∷ []) r t
hands-one takes refuses x s t (Ok v) h = takes-one takes x s t h
hands-one takes refuses x s t (Err e) h = stops-here takes refuses x [] s t e h

-- the last call's steps, after those before it
pub hands-after : {S R T : Type 0} (takes : S → StrStepValue → S → Type 0) (refuses : S → StrStepValue → R → S → Type 0) (xs ys : List StrStepValue) (s m t : S) (r : Result T R) → Takes takes s xs m → HandsOut takes refuses m ys r t → HandsOut takes refuses s (xs ++ ys) r t
hands-after takes refuses xs ys s m t (Ok v) h k = takes-append takes s m t xs ys h k
hands-after takes refuses xs ys s m t (Err e) h k = stops-after takes refuses xs ys s m t e h k

-- a refusal is handed on
pub hands-refused : {S R T : Type 0} (takes : S → StrStepValue → S → Type 0) (refuses : S → StrStepValue → R → S → Type 0) (xs : List StrStepValue) (s t : S) (r : Result T R) (e : R) → IsErrAnd r (λ d. d ≡ e) → Stops takes refuses s xs e t → HandsOut takes refuses s xs r t
hands-refused takes refuses xs s t (Ok v) e h k = absurd h
hands-refused takes refuses xs s t (Err d) e h k = subst (λ (x : _). Stops takes refuses s xs x t) (sym h) k

-- a sink was handed the steps of a list that come before what remains
pub record Reached {S : Type 0} (takes : S → StrStepValue → S → Type 0) (all : List StrStepValue) (s : S) (rest : List StrStepValue) (t : S) : Type 0 where
  pub done : List StrStepValue
  pub split : all ≡ done ++ rest
  pub taken : Takes takes s done t

pub reached-none : {S : Type 0} (takes : S → StrStepValue → S → Type 0) (all : List StrStepValue) (s : S) → Reached takes all s all s
reached-none takes all s = record { done = []; split = refl; taken = refl }

pub reached-more : {S : Type 0} (takes : S → StrStepValue → S → Type 0) (all xs rest : List StrStepValue) (s m t : S) → Reached takes all s (xs ++ rest) m → Takes takes m xs t → Reached takes all s rest t
reached-more takes all xs rest s m t r k = record {
  done = r.done ++ xs;
  split = r.split ∙ sym (append_assoc r.done xs rest);
  taken = takes-append takes s m t r.done xs r.taken k;
}

pub reached-stops : {S R : Type 0} (takes : S → StrStepValue → S → Type 0) (refuses : S → StrStepValue → R → S → Type 0) (all xs rest : List StrStepValue) (s m t : S) (e : R) → Reached takes all s (xs ++ rest) m → Stops takes refuses m xs e t → Stops takes refuses s all e t
reached-stops takes refuses all xs rest s m t e r k =
    subst (λ (l : List StrStepValue). Stops takes refuses s l e t) (sym r.split)
    (stops-after takes refuses r.done (xs ++ rest) s m t e r.taken (stops-within takes refuses xs rest m t e k))

-- what remains is handed out by a last call
pub reached-hands : {S R T : Type 0} (takes : S → StrStepValue → S → Type 0) (refuses : S → StrStepValue → R → S → Type 0) (all rest : List StrStepValue) (s m t : S) (r : Result T R) → Reached takes all s rest m → HandsOut takes refuses m rest r t → HandsOut takes refuses s all r t
reached-hands takes refuses all rest s m t r h k =
    subst (λ (l : List StrStepValue). HandsOut takes refuses s l r t) (sym h.split)
    (hands-after takes refuses h.done rest s m t r h.taken k)
