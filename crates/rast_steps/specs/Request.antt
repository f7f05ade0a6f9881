-- The words of a command line.
use Rattle.std.specs.Prelude.{◌≡◌, ◌≢◌, ◌⊎◌, ◌<◌, ◌++◌, List, [], ◌∷◌, ℕ, Option, Result, MatchOption, MatchResult, codes, length}
use Rattle.rap_base.specs.Edition.{year_text}
use Rattle.rap_base.specs.Names.{name_of}
use Rattle.rap_base.specs.declared.edition.Edition.{Edition}
use Rattle.ra_ap_parser.specs.declared.entry_point.PrefixEntryPoint.{PrefixEntryPoint}
use Rattle.ra_ap_parser.specs.declared.entry_point.TopEntryPoint.{TopEntryPoint}
use Rattle.rast_common.specs.Words.{IsNoEdition, IsWord, IsWrongAfter, edition_place}
use Rattle.rast_common.specs.declared.words.WrongWords.{WrongWords}
use Rattle.rast_common.specs.declared.words.WrongWords.TheVariants.{Number, Word}
use Rattle.rast_print.specs.AskedName.{name_of_kind, name_of_prefix}
use Rattle.rast_print.specs.EntryName.{IsNoEntry, entry_place, name_of_entry}
use Rattle.rast_print.specs.declared.asked.Asked.{Asked}
use Rattle.rast_print.specs.declared.asked.Asked.TheVariants.{Steps as steps, Prefix as prefix, Reparse as reparse}
use Rattle.rast_steps.specs.declared.request.Request.{Request}
use Rattle.rast_steps.specs.declared.request.Way.{Way}
use Rattle.rast_steps.specs.declared.request.Way.TheVariants.{Steps, Prefix, Reparse}

-- the first word
abbrev pub way_text : Way → List ℕ
way_text Steps = codes "--steps"
way_text Prefix = codes "--prefix"
way_text Reparse = codes "--reparse"

-- how many words there are, by the first
abbrev pub count_of : Way → ℕ
count_of Steps = 4
count_of Prefix = 4
count_of Reparse = 6

-- what the places take

abbrev pub way_place : List ℕ
way_place = codes "first word (--steps, --prefix or --reparse)"

abbrev pub prefix_place : List ℕ
prefix_place = codes "PREFIX (Vis, Block, Stmt, Pat, PatTop, Ty, Expr, Path, Item or MetaItem)"

abbrev pub node_place : List ℕ
node_place = codes "NODE (a kind of nodes, as BLOCK_EXPR)"

abbrev pub first_place : List ℕ
first_place = codes "FIRST (a kind, as LET_STMT, or -)"

abbrev pub parent_place : List ℕ
parent_place = codes "PARENT (a kind of nodes, as FN, or -)"

-- words that are none of what a place takes

abbrev pub IsNoWay : List ℕ → Type 0
IsNoWay word = (way : Way) → word ≢ way_text way

abbrev pub IsNoPrefix : List ℕ → Type 0
IsNoPrefix word = (entry : PrefixEntryPoint) → word ≢ name_of_prefix entry

abbrev pub IsNoKind : List ℕ → Type 0
IsNoKind word = (kind : ℕ) → kind < 330 → word ≢ name_of kind

abbrev pub IsNoKindOrDash : List ℕ → Type 0
IsNoKindOrDash word = (word ≢ codes "-") × IsNoKind word

-- how words are read

abbrev pub IsWay : List ℕ → Result Way WrongWords → Type 0
IsWay word result = MatchResult result (λ way. word ≡ way_text way) (λ wrong. IsWord word way_place wrong × IsNoWay word)

abbrev pub IsPrefix : List ℕ → Result PrefixEntryPoint WrongWords → Type 0
IsPrefix word result =
    MatchResult result (λ entry. word ≡ name_of_prefix entry) (λ wrong. IsWord word prefix_place wrong × IsNoPrefix word)

abbrev pub IsKindOrDash : List ℕ → Option (Option ℕ) → Type 0
IsKindOrDash word result = MatchOption result (IsNoKindOrDash word) (λ kind. word ≡ name_of_kind kind)

-- the words before the edition
abbrev pub words_before : Asked → List (List ℕ)
words_before (steps entry) = codes "--steps" ∷ name_of_entry entry ∷ []
words_before (prefix entry) = codes "--prefix" ∷ name_of_prefix entry ∷ []
words_before (reparse node first parent) = codes "--reparse" ∷ name_of node ∷ name_of_kind first ∷ name_of_kind parent ∷ []

-- the words of a request
abbrev pub words_of : Request → List (List ℕ)
words_of r = words_before r.asked ++ (year_text r.edition ∷ r.file.now ∷ [])

-- the words after the first are too few or too many
pub record IsMiscounted (words : List (List ℕ)) : Type 0 where
  pub way : Way
  pub others : List (List ℕ)
  pub are : words ≡ way_text way ∷ others
  pub miscounted : length words ≢ count_of way

-- the word after `--steps` is no entry point
abbrev pub IsWrongEntry : List (List ℕ) → WrongWords → Type 0
IsWrongEntry words wrong = (length words ≡ 4) × IsWrongAfter (codes "--steps" ∷ []) words IsNoEntry entry_place wrong

-- the word after `--prefix` is no prefix entry point
abbrev pub IsWrongPrefix : List (List ℕ) → WrongWords → Type 0
IsWrongPrefix words wrong = (length words ≡ 4) × IsWrongAfter (codes "--prefix" ∷ []) words IsNoPrefix prefix_place wrong

-- the first word after `--reparse` that should be a kind is none
abbrev pub IsWrongNode : List (List ℕ) → WrongWords → Type 0
IsWrongNode words wrong = IsWrongAfter (codes "--reparse" ∷ []) words IsNoKind node_place wrong

abbrev pub IsWrongFirst : List (List ℕ) → WrongWords → Type 0
IsWrongFirst words wrong =
    (node : ℕ) × IsWrongAfter (codes "--reparse" ∷ name_of node ∷ []) words IsNoKindOrDash first_place wrong

abbrev pub IsWrongParent : List (List ℕ) → WrongWords → Type 0
IsWrongParent words wrong =
    (node : ℕ) × (first : Option ℕ) × IsWrongAfter (codes "--reparse" ∷ name_of node ∷ name_of_kind first ∷ []) words IsNoKindOrDash parent_place wrong

abbrev pub IsWrongKind : List (List ℕ) → WrongWords → Type 0
IsWrongKind words wrong =
    (length words ≡ 6) × (IsWrongNode words wrong ⊎ (IsWrongFirst words wrong ⊎ IsWrongParent words wrong))

-- the word after those of what is asked is no edition

abbrev pub IsWrongEditionOfSteps : List (List ℕ) → WrongWords → Type 0
IsWrongEditionOfSteps words wrong =
    (length words ≡ 4)
    × ((entry : TopEntryPoint) × IsWrongAfter (codes "--steps" ∷ name_of_entry entry ∷ []) words IsNoEdition edition_place wrong)

abbrev pub IsWrongEditionOfPrefix : List (List ℕ) → WrongWords → Type 0
IsWrongEditionOfPrefix words wrong =
    (length words ≡ 4)
    × ((entry : PrefixEntryPoint) × IsWrongAfter (codes "--prefix" ∷ name_of_prefix entry ∷ []) words IsNoEdition edition_place wrong)

abbrev pub IsWrongEditionOfNode : List (List ℕ) → WrongWords → Type 0
IsWrongEditionOfNode words wrong =
    (length words ≡ 6)
    × ((node : ℕ) × (first : Option ℕ) × (parent : Option ℕ)
    × IsWrongAfter (codes "--reparse" ∷ name_of node ∷ name_of_kind first ∷ name_of_kind parent ∷ []) words IsNoEdition edition_place wrong)

abbrev pub IsWrongEdition : List (List ℕ) → WrongWords → Type 0
IsWrongEdition words wrong =
    IsWrongEditionOfSteps words wrong ⊎ (IsWrongEditionOfPrefix words wrong ⊎ IsWrongEditionOfNode words wrong)

-- why words are refused
abbrev pub IsRefused : List (List ℕ) → WrongWords → Type 0
IsRefused words Number = (words ≡ []) ⊎ IsMiscounted words
IsRefused words (Word w p) =
    IsWrongAfter [] words IsNoWay way_place (Word w p)
    ⊎ (IsWrongEntry words (Word w p) ⊎ (IsWrongPrefix words (Word w p) ⊎ (IsWrongKind words (Word w p) ⊎ IsWrongEdition words (Word w p))))

-- words are read as the request that they are the words of, or refused
abbrev pub IsRead : List (List ℕ) → Result Request WrongWords → Type 0
IsRead words result = MatchResult result (λ request. words ≡ words_of request) (IsRefused words)
