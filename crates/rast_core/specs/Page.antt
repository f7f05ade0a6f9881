-- What the program tells of a text, and when it tells nothing.
use Rattle.std.specs.Prelude.{◌≡◌, ℕ, List, [], Result, Ok, string_bytes}
use Rattle.rap_base.specs.declared.edition.Edition.{Edition}
use Rattle.rap_base.specs.declared.no_memory.NoMemory.{NoMemory as Memory}
use Rattle.rap_core.specs.Derived.{IsDerived, IsListed}
use Rattle.rap_core.specs.declared.listing.Places.{Places}
use Rattle.rast_common.specs.Ran.{IsMade}
use Rattle.rast_common.specs.Shown.{Shown}
use Rattle.rast_common.specs.declared.fault.Fault.{Fault}
use Rattle.rast_print.specs.Shown.{Comes, fault_of}
use Rattle.rast_core.specs.Listed.{all_lines}
use Rattle.rast_core.specs.declared.page.Lines.{Lines}

-- The lines are those of what is outside: of tokens of the text that the lexer has a message of, and of nodes of its tree.
pub record AreLines (front text : List ℕ) (edition : Edition) (lines : Lines) : Type 0 where
  pub places : Places
  pub listed : IsListed text edition places
  pub are : string_bytes lines.text ≡ all_lines front places

-- the lines of what is outside, or a fault in their place
abbrev pub Makes : List ℕ → Edition → Result Lines Fault → Type 0
Makes text edition made = IsMade (AreLines [] text edition) (Comes {R = Memory} text edition) fault_of made

-- what is shown of lines: the status is 1
abbrev pub shown_of : Lines → Shown
shown_of lines = record { bytes = string_bytes lines.text; status = 1 }

-- The text is in the core grammar: the status is 0, and nothing was written or reported.
pub record Accepts {E W V : Type 0} (text : List ℕ) (edition : Edition)
    (out_before out_after : W) (err_before err_after : V) (result : Result ℕ E) : Type 0 where
  pub derived : IsDerived text edition
  pub status : result ≡ Ok 0
  pub unwritten : out_after ≡ out_before
  pub unreported : err_after ≡ err_before
