-- A macro call as the whole input.
use Rattle.std.specs.Prelude.{◌≡◌, List, All}
use Rattle.rap_base.specs.NodeKind.{SOURCE_FILE, MACRO_ITEMS}
use Rattle.rap_events.specs.Record.{Record, IsTokenRecord}
use Rattle.rap_events.specs.Forest.{Forest, none, node}
use Rattle.rap_small_grammar.specs.MacroCall.{IsMacroCall}
use Rattle.ra_ap_parser.specs.EntryScript.{IsCore}
use Rattle.ra_ap_parser.specs.declared.entry_point.TopEntryPoint.{TopEntryPoint}
use Rattle.ra_ap_parser.specs.declared.entry_point.TopEntryPoint.TheVariants as entry

-- The whole input is a macro call in the place of an item, and this tree is the entry's node over it.
abbrev pub IsCall : TopEntryPoint → List Record → Forest → Type 0
IsCall entry.SourceFile input tree = (call : Forest) × IsMacroCall input call × (tree ≡ node none SOURCE_FILE call)
IsCall entry.MacroStmts input tree = ⊥
IsCall entry.MacroItems input tree = (call : Forest) × IsMacroCall input call × (tree ≡ node none MACRO_ITEMS call)
IsCall entry.Pattern input tree = ⊥
IsCall entry.Ty input tree = ⊥
IsCall entry.Expr input tree = ⊥
IsCall entry.MetaItem input tree = ⊥

-- Such a call is in the core grammar.
abbrev pub CallsAreCore : Type 0
CallsAreCore =
    (e : TopEntryPoint) (input : List Record) (tree : Forest) → All IsTokenRecord input → IsCall e input tree →
    IsCore e input tree
