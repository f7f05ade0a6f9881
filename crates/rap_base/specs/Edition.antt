-- Editions by their years.
use Rattle.std.specs.Prelude.{◌≡◌, ◌≢◌, ℕ, Bool, List, Result, MatchResult, codes, nat_le}
use Rattle.rap_base.specs.declared.edition.Edition.{Edition}
use Rattle.rap_base.specs.declared.edition.Edition.TheVariants.{Edition2015, Edition2018, Edition2021, Edition2024}

-- the year in which an edition came out
abbrev pub year : Edition → ℕ
year Edition2015 = 2015
year Edition2018 = 2018
year Edition2021 = 2021
year Edition2024 = 2024

-- whether an edition is that of 2018 or a later one
abbrev pub at_least_2018 : Edition → Bool
at_least_2018 edition = nat_le 2018 (year edition)

-- whether an edition is that of 2024 or a later one
abbrev pub at_least_2024 : Edition → Bool
at_least_2024 edition = nat_le 2024 (year edition)

-- how an edition is written
abbrev pub year_text : Edition → List ℕ
year_text Edition2015 = codes "2015"
year_text Edition2018 = codes "2018"
year_text Edition2021 = codes "2021"
year_text Edition2024 = codes "2024"

-- a text is read as the edition that is written so, and refused where no edition is
abbrev pub IsRead : {Refusal : Type 0} → List ℕ → Result Edition Refusal → Type 0
IsRead text result =
    MatchResult result
    (λ edition. text ≡ year_text edition)
    (λ _. (edition : Edition) → text ≢ year_text edition)
