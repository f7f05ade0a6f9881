-- Editions, entries and kinds by their numbers.
use Rattle.std.specs.Prelude.{◌≡◌, ◌≢◌, ℕ, Option, Some, None, nat_le, if◌then◌else◌}
use Rattle.rap_base.specs.Edition.{year}
use Rattle.rap_base.specs.declared.edition.Edition.{Edition}
use Rattle.ra_ap_parser.specs.declared.entry_point.PrefixEntryPoint.{PrefixEntryPoint}
use Rattle.ra_ap_parser.specs.declared.entry_point.PrefixEntryPoint.TheVariants as prefix
use Rattle.ra_ap_parser.specs.declared.entry_point.TopEntryPoint.{TopEntryPoint}
use Rattle.ra_ap_parser.specs.declared.entry_point.TopEntryPoint.TheVariants as top

abbrev pub top_number : TopEntryPoint → ℕ
top_number top.SourceFile = 0
top_number top.MacroStmts = 1
top_number top.MacroItems = 2
top_number top.Pattern = 3
top_number top.Ty = 4
top_number top.Expr = 5
top_number top.MetaItem = 6

abbrev pub prefix_number : PrefixEntryPoint → ℕ
prefix_number prefix.Vis = 0
prefix_number prefix.Block = 1
prefix_number prefix.Stmt = 2
prefix_number prefix.Pat = 3
prefix_number prefix.PatTop = 4
prefix_number prefix.Ty = 5
prefix_number prefix.Expr = 6
prefix_number prefix.Path = 7
prefix_number prefix.Item = 8
prefix_number prefix.MetaItem = 9

-- the edition of this year
abbrev pub IsEditionOf : ℕ → Edition → Type 0
IsEditionOf number edition = year edition ≡ number

abbrev pub IsNoEdition : ℕ → Type 0
IsNoEdition number = (edition : Edition) → year edition ≢ number

-- the top entry with this number
abbrev pub IsTopOf : ℕ → TopEntryPoint → Type 0
IsTopOf number entry = top_number entry ≡ number

abbrev pub IsNoTop : ℕ → Type 0
IsNoTop number = (entry : TopEntryPoint) → top_number entry ≢ number

-- the prefix entry with this number
abbrev pub IsPrefixOf : ℕ → PrefixEntryPoint → Type 0
IsPrefixOf number entry = prefix_number entry ≡ number

abbrev pub IsNoPrefix : ℕ → Type 0
IsNoPrefix number = (entry : PrefixEntryPoint) → prefix_number entry ≢ number

-- the kind with this number, if there is one
abbrev pub kind_in : ℕ → Option ℕ
kind_in number = if nat_le number 329 then Some number else None
