-- The texts of the leaves that a builder has taken.
use Rattle.std.proofs.Common.{◌≡◌, ℕ, List, [], ◌∷◌}
use Rattle.rap_lexed.specs.LexedStr.{AreTokens, joined}
use Rattle.rap_lexed.specs.StrForest.{StrForest, str_flat, str_joined}
use Rattle.rap_lexed.specs.StrSink.{Takes}
use Rattle.rap_lexed.specs.StrStep.{StrStepValue}
use Rattle.rap_lexed.specs.Token.{Token}
use Rattle.rap_lexed.specs.Trivia.{front_of}
use Rattle.rap_ranged.proofs.Fronts.{places_of_front as places_of_texts_of_front}
use Rattle.rap_ranged.proofs.Texts.{AreTexts, places_of as places_of_texts}
use Rattle.syntax_tree.specs.Building.{Builds}
use Rattle.syntax_tree.specs.Places.{HavePlaces}
use Rattle.syntax_tree.specs.Ranged.{ranged}
use Rattle.syntax_tree.specs.declared.builder.Builder.{Builder}

texts_along : (steps : List StrStepValue) (s t : Builder) → Takes Builds s steps t → AreTexts steps
texts_along [] s t h = tt
texts_along (x ∷ xs) s t h = (h.1.text, texts_along xs h.0 t h.2)

-- the nodes and leaves of a forest whose leaves joined are the text
pub places_of : (f : StrForest) (s t : Builder) (text : List ℕ) → Takes Builds s (str_flat f) t → str_joined f ≡ text → HavePlaces text (ranged 0 f)
places_of f s t text h whole = places_of_texts f text (texts_along (str_flat f) s t h) whole

-- and those of a forest whose leaves joined are the text of a front
pub places_of_front : (f : StrForest) (s t : Builder) (ts : List Token) (n : ℕ) → AreTokens ts → Takes Builds s (str_flat f) t
    → str_joined f ≡ joined (front_of n ts) → HavePlaces (joined ts) (ranged 0 f)
places_of_front f s t ts n tokens h front = places_of_texts_of_front f ts n tokens (texts_along (str_flat f) s t h) front
