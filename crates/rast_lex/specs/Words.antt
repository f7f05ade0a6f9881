-- The program's words: what is requested.
use Rattle.std.specs.Prelude.{◌≡◌, ◌≢◌, ◌⊎◌, List, [], ◌∷◌, ℕ, Option, None, Some, Result, MatchResult, codes, length}
use Rattle.std.specs.Option.{option_to_list}
use Rattle.rap_base.specs.Edition.{year_text}
use Rattle.rap_base.specs.declared.edition.Edition.{Edition}
use Rattle.rast_common.specs.Words.{IsNoEdition, IsWord, IsWrongAfter, edition_place}
use Rattle.rast_common.specs.declared.words.WrongWords.{WrongWords}
use Rattle.rast_common.specs.declared.words.WrongWords.TheVariants.{Number, Word}
use Rattle.rast_lex.specs.declared.request.Request.{Request}
use Rattle.rast_lex.specs.declared.run.Listing.{Listing}
use Rattle.rast_lex.specs.declared.run.Listing.TheVariants.{Tokens, Input, Single, Script}

-- the word that requests a listing; the tokens are listed if there is none
abbrev pub word_of : Listing → Option (List ℕ)
word_of Tokens = None
word_of Input = Some (codes "input")
word_of Single = Some (codes "single")
word_of Script = Some (codes "script")

-- a word is read as the request that it names, and rejected if it names none
abbrev pub IsAsked : {Refusal : Type 0} → List ℕ → Result Listing Refusal → Type 0
IsAsked word result =
    MatchResult result
    (λ listing. Some word ≡ word_of listing)
    (λ _. (listing : Listing) → Some word ≢ word_of listing)

-- what the place of a listing takes
abbrev pub listing_place : List ℕ
listing_place = codes "listing (input, single or script)"

-- a word is no listing
abbrev pub IsNoListing : List ℕ → Type 0
IsNoListing word = (listing : Listing) → Some word ≢ word_of listing

-- a word is read as the listing that it names, and refused where it names none
abbrev pub IsListing : List ℕ → Result Listing WrongWords → Type 0
IsListing word result =
    MatchResult result
    (λ listing. Some word ≡ word_of listing)
    (λ wrong. IsWord word listing_place wrong × IsNoListing word)

-- the words of a request
abbrev pub words_of : Request → List (List ℕ)
words_of r = year_text r.edition ∷ r.file.now ∷ option_to_list (word_of r.listing)

-- there are as many words as a request may have
abbrev pub IsCounted : List (List ℕ) → Type 0
IsCounted words = (length words ≡ 2) ⊎ (length words ≡ 3)

-- the word after an edition and a file is no listing
abbrev pub IsWrongListing : List (List ℕ) → WrongWords → Type 0
IsWrongListing words wrong =
    (edition : Edition) × (file : List ℕ) × IsWrongAfter (year_text edition ∷ file ∷ []) words IsNoListing listing_place wrong

-- why words are refused
abbrev pub IsRefused : List (List ℕ) → WrongWords → Type 0
IsRefused words Number = ¬ IsCounted words
IsRefused words (Word word place) =
    IsCounted words × (IsWrongAfter [] words IsNoEdition edition_place (Word word place) ⊎ IsWrongListing words (Word word place))

-- words are read as the request that they are the words of, or refused
abbrev pub IsRead : List (List ℕ) → Result Request WrongWords → Type 0
IsRead words result = MatchResult result (λ request. words ≡ words_of request) (IsRefused words)
