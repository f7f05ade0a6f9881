-- The words of a command line.
use Rattle.std.specs.Prelude.{◌≡◌, ◌≢◌, ℕ, List, [], ◌∷◌, ◌++◌, Option, None, Some, Result, String, MatchResult, codes, map, string_bytes}
use Rattle.std.specs.declared.alloc.Global.{Global}
use Rattle.rap_base.specs.Edition.{year_text}
use Rattle.rap_base.specs.declared.edition.Edition.{Edition}
use Rattle.rast_common.specs.declared.words.Common.{Common}
use Rattle.rast_common.specs.declared.words.Common.TheVariants.{Help, Version}
use Rattle.rast_common.specs.declared.words.WrongWords.{WrongWords}
use Rattle.rast_common.specs.declared.words.WrongWords.TheVariants.{Number, Word}

-- the texts of words
abbrev pub texts : List (String Global) → List (List ℕ)
texts words = map string_bytes words

-- the words that ask for what every program tells
abbrev pub words_of : Common → List (List ℕ)
words_of Help = codes "--help" ∷ []
words_of Version = codes "--version" ∷ []

-- words ask for what every program tells, or for nothing of it
abbrev pub IsCommon : List (List ℕ) → Option Common → Type 0
IsCommon words None = (common : Common) → words ≢ words_of common
IsCommon words (Some common) = words ≡ words_of common

-- a word is refused since its place takes no such word
abbrev pub IsWord : List ℕ → List ℕ → WrongWords → Type 0
IsWord word place Number = ⊥
IsWord word place (Word w p) = (w.now ≡ word) × (p.now ≡ place)

-- what the place of an edition takes
abbrev pub edition_place : List ℕ
edition_place = codes "EDITION (2015, 2018, 2021 or 2024)"

-- a word is no edition
abbrev pub IsNoEdition : List ℕ → Type 0
IsNoEdition word = (edition : Edition) → word ≢ year_text edition

-- a word is read as the edition that is written so, and refused where no edition is
abbrev pub IsEdition : List ℕ → Result Edition WrongWords → Type 0
IsEdition word result =
    MatchResult result (λ edition. word ≡ year_text edition) (λ wrong. IsWord word edition_place wrong × IsNoEdition word)

-- words are refused since the one after these is unfit for its place
pub record IsWrongAfter (before words : List (List ℕ)) (IsUnfit : List ℕ → Type 0) (place : List ℕ) (wrong : WrongWords) : Type 0 where
  pub word : List ℕ
  pub after : List (List ℕ)
  pub are : words ≡ before ++ (word ∷ after)
  pub unfit : IsUnfit word
  pub said : IsWord word place wrong
