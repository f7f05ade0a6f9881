-- How the program ends with one of several files.
use Rattle.std.specs.Prelude.{◌≡◌, ◌⊎◌, ℕ, List, ◌++◌, Option, Some, Result, Ok, IfErr, IfOk, MatchOption, chars, codes, string_bytes}
use Rattle.std.specs.Io.KnownBytes.{Appends}
use Rattle.rap_base.specs.declared.edition.Edition.{Edition}
use Rattle.rap_base.specs.declared.no_memory.NoMemory.{NoMemory as Memory}
use Rattle.ra_ap_parser.specs.Fault.{text_fault_text}
use Rattle.ra_ap_parser.specs.declared.whole_text.TextFault.{TextFault}
use Rattle.rap_core.specs.Derived.{IsDerived}
use Rattle.rast_common.specs.Fault as common
use Rattle.rast_common.specs.Quote.{quoted}
use Rattle.rast_common.specs.Written.{AppendsFront}
use Rattle.rast_common.specs.declared.fault.Fault.TheVariants.{CannotWrite}
use Rattle.rast_print.specs.Shown.{Comes}
use Rattle.rast_core.specs.Page.{AreLines}
use Rattle.rast_core.specs.declared.page.Lines.{Lines}

-- the line about a fault of a file
abbrev pub fault_line : List ℕ → TextFault Memory → List ℕ
fault_line file fault =
    codes "rast_core: cannot read " ++ (quoted (chars file) ++ (codes ": " ++ (text_fault_text fault ++ codes "\n")))

-- something holds of this line, or, as memory ran out, of the line that says so
abbrev pub Reports : List ℕ → TextFault Memory → (List ℕ → Type 0) → Type 0
Reports file fault Holds = Holds (fault_line file fault) ⊎ Holds (codes "rast_core: no memory\n")

-- The file is in the core grammar: its status is 0, and nothing was written or reported.
pub record AcceptsAmong {E W V : Type 0} (text : List ℕ) (edition : Edition)
    (out_before out_after : W) (err_before err_after : V) (result : Result (Option ℕ) E) : Type 0 where
  pub derived : IsDerived text edition
  pub status : result ≡ Ok (Some 0)
  pub unwritten : out_after ≡ out_before
  pub unreported : err_after ≡ err_before

-- The lines were written, and the status is 1; or the output refused a write, which was reported.
pub record ShowsAmong {E W V : Type 0} (lines : List ℕ)
    (out_bytes : W → Option (List ℕ)) (out_before out_after : W)
    (err_bytes : V → Option (List ℕ)) (err_before err_after : V) (result : Result (Option ℕ) E) : Type 0 where
  pub shown : IfOk result (λ status. MatchOption status
      (Appends (err_bytes err_before) (err_bytes err_after) (common.fault_line (codes "rast_core") CannotWrite))
      (λ n. (n ≡ 1) × Appends (out_bytes out_before) (out_bytes out_after) lines × (err_after ≡ err_before)))
  pub unreported : IfErr result (λ _.
      AppendsFront (err_bytes err_before) (err_bytes err_after) (common.fault_line (codes "rast_core") CannotWrite))

-- A fault of the file was reported, and the status is 2; nothing was written.
pub record ReportsAmong {E W V : Type 0} (file text : List ℕ) (edition : Edition) (out_before out_after : W)
    (err_bytes : V → Option (List ℕ)) (err_before err_after : V) (result : Result (Option ℕ) E) : Type 0 where
  pub fault : TextFault Memory
  pub comes : Comes text edition fault
  pub unwritten : out_after ≡ out_before
  pub reported : IfOk result (λ status.
      (status ≡ Some 2) × Reports file fault (Appends (err_bytes err_before) (err_bytes err_after)))
  pub unreported : IfErr result (λ _.
      Reports file fault (AppendsFront (err_bytes err_before) (err_bytes err_after)))

-- The file is in the core grammar, or the lines of what is outside were made, each with the file, or a fault came.
pub data RanAmong {E W V : Type 0} (file text : List ℕ) (edition : Edition)
    (out_bytes : W → Option (List ℕ)) (out_before out_after : W)
    (err_bytes : V → Option (List ℕ)) (err_before err_after : V) (result : Result (Option ℕ) E) : Type 0 where
  accepts : AcceptsAmong text edition out_before out_after err_before err_after result
      → RanAmong file text edition out_bytes out_before out_after err_bytes err_before err_after result
  shows : (lines : Lines) → AreLines (file ++ codes ":") text edition lines
      → ShowsAmong (string_bytes lines.text) out_bytes out_before out_after err_bytes err_before err_after result
      → RanAmong file text edition out_bytes out_before out_after err_bytes err_before err_after result
  reports : ReportsAmong file text edition out_before out_after err_bytes err_before err_after result
      → RanAmong file text edition out_bytes out_before out_after err_bytes err_before err_after result
