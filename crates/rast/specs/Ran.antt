-- What the program shows of a text.
use Rattle.std.specs.Prelude.{◌≡◌, ℕ, Bool, true, false, List, Result, string_bytes}
use Rattle.rap_base.specs.declared.edition.Edition.{Edition}
use Rattle.rap_base.specs.declared.no_memory.NoMemory.{NoMemory as Memory}
use Rattle.rap_events.specs.Forest.{Forest}
use Rattle.rap_lexed.specs.LexedStr.{Lexed}
use Rattle.rap_lexed.specs.StrForest.{StrForest, str_flat}
use Rattle.rap_lexed.specs.Trivia.{with_trivia}
use Rattle.ra_ap_parser.specs.Headline.{IsParsed}
use Rattle.ra_ap_parser.specs.declared.entry_point.TopEntryPoint.{TopEntryPoint}
use Rattle.rast_common.specs.Ran.{IsMade}
use Rattle.rast_common.specs.declared.fault.Fault.{Fault}
use Rattle.rast_print.specs.Printed.{printed}
use Rattle.rast_print.specs.Shown.{Comes, all_reported, fault_of}
use Rattle.rast.specs.RangedLines.{ranged_lines}
use Rattle.syntax_tree.specs.Ranged.{ranged}
use Rattle.rast_print.specs.declared.printer.Printer.{Printer}

-- the lines of a tree, with the places of its nodes and leaves if they are requested
abbrev pub tree_lines : Bool → List ℕ → StrForest → List ℕ
tree_lines true text f = ranged_lines text 0 (ranged 0 f)
tree_lines false text f = printed 0 (str_flat f)

-- The lines of the text's one tree, and those of its messages.
pub record ArePrinted (ranges : Bool) (text : List ℕ) (edition : Edition) (entry : TopEntryPoint) (printer : Printer) : Type 0 where
  pub lexed : Lexed
  pub forest : Forest
  pub parsed : IsParsed text edition entry lexed forest
  pub tree : printer.tree ≡ tree_lines ranges text (with_trivia lexed.tokens forest)
  pub messages : string_bytes printer.messages ≡ all_reported lexed forest

-- these lines, or a fault in their place
abbrev pub Makes : Bool → List ℕ → Edition → TopEntryPoint → Result Printer Fault → Type 0
Makes ranges text edition entry made =
    IsMade (ArePrinted ranges text edition entry) (Comes {R = Memory} text edition) fault_of made
