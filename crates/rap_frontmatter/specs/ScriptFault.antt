-- The error of a text that is not a script source.
use Rattle.std.specs.Prelude.{List, ℕ, ⊤, codes}
use Rattle.rap_frontmatter.specs.Refusal.{Refusal, LiesAtBorders, IsRefused}
use Rattle.rap_frontmatter.specs.declared.frontmatter.error.ScriptFault.{ScriptFault}
use Rattle.rap_frontmatter.specs.declared.frontmatter.error.ScriptFault.TheVariants.{Refused, NoMemory}

-- The spans of a refusal end at character boundaries.
abbrev pub IsShownAtBorders : List ℕ → ScriptFault → Type 0
IsShownAtBorders text (Refused e) = LiesAtBorders text e
IsShownAtBorders text NoMemory = ⊤

-- The value is the reason for the refusal, or out of memory for its report.
abbrev pub IsFault : List ℕ → ScriptFault → Type 0
IsFault text (Refused e) = IsRefused text e
IsFault text NoMemory = (e : Refusal) × IsRefused text e

-- the message of a fault
abbrev pub script_fault_text : ScriptFault → List ℕ
script_fault_text (Refused e) = e.message
script_fault_text NoMemory = codes "no memory"
