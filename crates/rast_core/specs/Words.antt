-- The program's words: how a command line is read.
use Rattle.std.specs.Prelude.{◌≡◌, ◌<◌, ◌≤◌, List, [], ◌∷◌, ℕ, Result, MatchResult, length}
use Rattle.rap_base.specs.Edition.{year_text}
use Rattle.rast_common.specs.Words.{IsNoEdition, IsWrongAfter, edition_place, texts}
use Rattle.rast_common.specs.declared.words.WrongWords.{WrongWords}
use Rattle.rast_common.specs.declared.words.WrongWords.TheVariants.{Number, Word}
use Rattle.rast_core.specs.declared.request.Request.{Request}

-- the words of a request
abbrev pub words_of : Request → List (List ℕ)
words_of r = year_text r.edition ∷ texts r.files.now

-- words are those of a request, with at least one file
abbrev pub IsAsked : List (List ℕ) → Request → Type 0
IsAsked words r = (words ≡ words_of r) × (1 ≤ length r.files.now)

-- why words are refused
abbrev pub IsRefused : List (List ℕ) → WrongWords → Type 0
IsRefused words Number = length words < 2
IsRefused words (Word word place) = (2 ≤ length words) × IsWrongAfter [] words IsNoEdition edition_place (Word word place)

-- words are read as the request that they are the words of, or refused
abbrev pub IsRead : List (List ℕ) → Result Request WrongWords → Type 0
IsRead words result = MatchResult result (IsAsked words) (IsRefused words)
