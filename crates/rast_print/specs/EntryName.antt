-- The names of entry points.
use Rattle.std.specs.Prelude.{◌≡◌, ◌≢◌, List, ℕ, Result, MatchResult, codes}
use Rattle.ra_ap_parser.specs.declared.entry_point.TopEntryPoint.{TopEntryPoint}
use Rattle.ra_ap_parser.specs.declared.entry_point.TopEntryPoint.TheVariants.{SourceFile, MacroStmts, MacroItems, Pattern, Ty, Expr, MetaItem}
use Rattle.rast_common.specs.Words.{IsWord}
use Rattle.rast_common.specs.declared.words.WrongWords.{WrongWords}
use Rattle.rast_print.specs.declared.entry.Entry.{Entry}

-- an entry point's name
abbrev pub name_of_entry : TopEntryPoint → List ℕ
name_of_entry MacroStmts = codes "MacroStmts"
name_of_entry SourceFile = codes "SourceFile"
name_of_entry MacroItems = codes "MacroItems"
name_of_entry Pattern = codes "Pattern"
name_of_entry Ty = codes "Type"
name_of_entry Expr = codes "Expr"
name_of_entry MetaItem = codes "MetaItem"

-- a word is read as the entry point that it names, and rejected if it names none
abbrev pub IsNamed : {Refusal : Type 0} → List ℕ → Result Entry Refusal → Type 0
IsNamed word result =
    MatchResult result
    (λ entry. word ≡ name_of_entry entry.0)
    (λ _. (entry : TopEntryPoint) → word ≢ name_of_entry entry)

-- what the place of an entry point takes
abbrev pub entry_place : List ℕ
entry_place = codes "ENTRY (SourceFile, MacroItems, MacroStmts, Pattern, Type, Expr or MetaItem)"

-- a word is no entry point
abbrev pub IsNoEntry : List ℕ → Type 0
IsNoEntry word = (entry : TopEntryPoint) → word ≢ name_of_entry entry

-- a word is read as the entry point that it names, and refused where it names none
abbrev pub IsEntry : List ℕ → Result TopEntryPoint WrongWords → Type 0
IsEntry word result =
    MatchResult result (λ entry. word ≡ name_of_entry entry) (λ wrong. IsWord word entry_place wrong × IsNoEntry word)
