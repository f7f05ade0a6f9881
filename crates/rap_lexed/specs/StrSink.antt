-- What a sink takes, one step after another.
use Rattle.std.specs.Prelude.{◌≡◌, List, [], ◌∷◌, ◌++◌, Result, MatchResult}
use Rattle.rap_lexed.specs.StrStep.{StrStepValue}

-- the steps, taken one after another, take the first value to the last
abbrev pub Takes : {S : Type 0} → (S → StrStepValue → S → Type 0) → S → List StrStepValue → S → Type 0
Takes takes s [] t = s ≡ t
Takes {S} takes s (x ∷ xs) t = (m : S) × takes s x m × Takes takes m xs t

-- a prefix of the steps is taken, and the next one is refused
pub record Stops {S R : Type 0} (takes : S → StrStepValue → S → Type 0) (refuses : S → StrStepValue → R → S → Type 0)
    (s : S) (steps : List StrStepValue) (e : R) (t : S) : Type 0 where
  pub prefix : List StrStepValue
  pub next : StrStepValue
  pub back : List StrStepValue
  pub before : S
  pub split : steps ≡ prefix ++ next ∷ back
  pub taken : Takes takes s prefix before
  pub refused : refuses before next e t

-- the steps are handed to a sink, all of them, or a prefix until one is refused
abbrev pub HandsOut : {S R T : Type 0} → (S → StrStepValue → S → Type 0) → (S → StrStepValue → R → S → Type 0) → S →
    List StrStepValue → Result T R → S → Type 0
HandsOut takes refuses s steps result t =
    MatchResult result (λ _. Takes takes s steps t) (λ e. Stops takes refuses s steps e t)
