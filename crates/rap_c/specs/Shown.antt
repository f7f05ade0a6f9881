-- Steps that are given as numbers.
use Rattle.std.specs.Prelude.{◌≡◌, ℕ, ◌+◌, ◌≤◌, List, [], ◌∷◌, length, if◌then◌else◌, slice_range, IsUtf8, true}
use Rattle.rap_base.specs.declared.edition.Edition.{Edition}
use Rattle.rap_events.specs.Cover.{covers}
use Rattle.rap_events.specs.Forest.{Forest, flat, one_tree, splits_placed}
use Rattle.rap_events.specs.StepValue.{StepValue, enter, exit, token, float_split, error}
use Rattle.rap_lexed.specs.Input.{records}
use Rattle.rap_lexed.specs.LexedStr.{Token}
use Rattle.rap_c.specs.declared.step.RapStep.{RapStep}

-- a message is at these bytes of the messages
pub record IsMessageAt (messages : List ℕ) (start end : ℕ) (bytes : List ℕ) : Type 0 where
  pub rising : start ≤ end
  pub within : end ≤ length messages
  pub bytes_are : bytes ≡ slice_range messages start end
  pub utf8 : IsUtf8 bytes

-- The numbers are those of this step.
abbrev pub IsStepOf : List ℕ → RapStep → StepValue → Type 0
IsStepOf messages s (enter kind) = (s.what ≡ 0) × (s.kind ≡ kind) × (kind ≤ 329)
IsStepOf messages s exit = s.what ≡ 1
IsStepOf messages s (token kind width) = (s.what ≡ 2) × (s.kind ≡ kind) × (kind ≤ 329) × (s.start + width ≡ s.end) × (width ≤ 255)
IsStepOf messages s (error bytes) = (s.what ≡ 3) × IsMessageAt messages s.start s.end bytes
IsStepOf messages s (float_split ends_in_dot) = (s.what ≡ 4) × (s.kind ≡ (if ends_in_dot then 1 else 0))

-- the same of one step after another
abbrev pub AreStepsOf : List ℕ → List RapStep → List StepValue → Type 0
AreStepsOf messages [] [] = Unit {0}
AreStepsOf messages [] (v ∷ vs) = ⊥
AreStepsOf messages (s ∷ ss) [] = ⊥
AreStepsOf messages (s ∷ ss) (v ∷ vs) = IsStepOf messages s v × AreStepsOf messages ss vs

-- The numbers are the steps of this tree, whose leaves match the first of the text's tokens that are no trivia, and in
-- which each split float is in a valid place.
pub record IsTreeOf (ts : List Token) (edition : Edition) (given : List RapStep) (given_messages : List ℕ) (tree : Forest) : Type 0 where
  pub steps_are : AreStepsOf given_messages given (flat tree)
  pub one : one_tree tree ≡ true
  pub placed : splits_placed tree ≡ true
  pub covering : covers (records ts edition) tree ≡ true
