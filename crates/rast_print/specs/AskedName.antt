-- The names of the listings of a text.
use Rattle.std.specs.Prelude.{◌≡◌, ◌≢◌, ◌<◌, List, ℕ, Option, Some, None, Result, MatchOption, MatchResult, codes}
use Rattle.rap_base.specs.Names.{name_of}
use Rattle.ra_ap_parser.specs.declared.entry_point.PrefixEntryPoint.{PrefixEntryPoint}
use Rattle.ra_ap_parser.specs.declared.entry_point.PrefixEntryPoint.TheVariants.{Vis, Block, Stmt, Pat, PatTop, Ty, Expr, Path, Item, MetaItem}
use Rattle.rast_print.specs.declared.asked.Prefix.{Prefix}

-- a prefix entry point's name
abbrev pub name_of_prefix : PrefixEntryPoint → List ℕ
name_of_prefix Vis = codes "Vis"
name_of_prefix Block = codes "Block"
name_of_prefix Stmt = codes "Stmt"
name_of_prefix Pat = codes "Pat"
name_of_prefix PatTop = codes "PatTop"
name_of_prefix Ty = codes "Ty"
name_of_prefix Expr = codes "Expr"
name_of_prefix Path = codes "Path"
name_of_prefix Item = codes "Item"
name_of_prefix MetaItem = codes "MetaItem"

-- a word is read as the prefix entry point that it names, and rejected if it names none
abbrev pub IsNamed : {Refusal : Type 0} → List ℕ → Result Prefix Refusal → Type 0
IsNamed word result =
    MatchResult result
    (λ entry. word ≡ name_of_prefix entry.0)
    (λ _. (entry : PrefixEntryPoint) → word ≢ name_of_prefix entry)

-- a word is a kind's name, or none
abbrev pub IsKindOf : List ℕ → Option ℕ → Type 0
IsKindOf word result = MatchOption result ((kind : ℕ) → kind < 330 → word ≢ name_of kind) (λ kind. word ≡ name_of kind)

-- a word is a dash, which means no kind, or it is read as a kind's name
abbrev pub IsReadAs : List ℕ → Option (Option ℕ) → Type 0
IsReadAs word result =
    MatchOption result
    ((word ≢ codes "-") × IsKindOf word None)
    (λ kind. MatchOption kind (word ≡ codes "-") (λ k. word ≡ name_of k))

-- a kind's name, or a dash where there is none
abbrev pub name_of_kind : Option ℕ → List ℕ
name_of_kind None = codes "-"
name_of_kind (Some kind) = name_of kind
