-- The program's words.
use Rattle.std.specs.Prelude.{◌≡◌, ◌≢◌, ◌⊎◌, List, [], ◌∷◌, ℕ, Result, MatchResult, length}
use Rattle.rap_base.specs.Edition.{year_text}
use Rattle.rap_base.specs.declared.edition.Edition.{Edition}
use Rattle.rast_common.specs.Words.{IsNoEdition, IsWrongAfter, edition_place}
use Rattle.rast_common.specs.declared.words.WrongWords.{WrongWords}
use Rattle.rast_common.specs.declared.words.WrongWords.TheVariants.{Number, Word}
use Rattle.rast_print.specs.EntryName.{IsNoEntry, entry_place, name_of_entry}
use Rattle.rast_page.specs.declared.request.Request.{Request}

-- the words of a request
abbrev pub words_of : Request → List (List ℕ)
words_of r = year_text r.edition ∷ name_of_entry r.entry ∷ r.file.now ∷ []

-- why words are refused
abbrev pub IsRefused : List (List ℕ) → WrongWords → Type 0
IsRefused words Number = length words ≢ 3
IsRefused words (Word word place) =
    (length words ≡ 3)
    × (IsWrongAfter [] words IsNoEdition edition_place (Word word place)
    ⊎ ((edition : Edition) × IsWrongAfter (year_text edition ∷ []) words IsNoEntry entry_place (Word word place)))

-- words are read as the request that they are the words of, or refused
abbrev pub IsRead : List (List ℕ) → Result Request WrongWords → Type 0
IsRead words result = MatchResult result (λ request. words ≡ words_of request) (IsRefused words)
