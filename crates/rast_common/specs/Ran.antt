-- How a program ends that makes something of a text and shows it: what it made is a page, or a fault in its place.
use Rattle.std.specs.Prelude.{◌≡◌, ◌<◌, ◌≤◌, ℕ, List, Option, Result, Ok, Err, IfErr, IfOk}
use Rattle.std.specs.Io.KnownBytes.{Appends}
use Rattle.rast_common.specs.Fault.{fault_line}
use Rattle.rast_common.specs.Shown.{Shown}
use Rattle.rast_common.specs.Written.{AppendsFront}
use Rattle.rast_common.specs.declared.fault.Fault.{Fault}
use Rattle.rast_common.specs.declared.fault.Fault.TheVariants.{CannotWrite}

-- What is made: a page that is as it should be, or a fault. The program has faults of a type of its own, which come
-- when they should; `fault_of` gives the fault that is reported.
abbrev pub IsMade : {P F : Type 0} → (P → Type 0) → (F → Type 0) → (F → Fault) → Result P Fault → Type 0
IsMade IsPage Comes fault_of (Ok page) = IsPage page
IsMade {P} {F} IsPage Comes fault_of (Err fault) = (own : F) × Comes own × (fault ≡ fault_of own)

-- the page was written whole, and the status is its own
abbrev pub IsShown : {P : Type 0} → (P → Shown) → Result P Fault → ℕ → Option (List ℕ) → Option (List ℕ) → Type 0
IsShown shown_of (Ok page) status before after =
    Appends before after (shown_of page).bytes × (status ≡ (shown_of page).status)
IsShown shown_of (Err fault) status before after = ⊥

-- what stopped the program: the output refused a write of the page; or a fault was made in its place, and the output
-- is as it was; the condition holds for the line that reports it
abbrev pub IfStops : {P W : Type 0} → List ℕ → Result P Fault → W → W → (List ℕ → Type 0) → Type 0
IfStops name (Ok page) before after Holds = Holds (fault_line name CannotWrite)
IfStops name (Err fault) before after Holds = (after ≡ before) × Holds (fault_line name fault)

-- With what was made the program of this name ended with this result. Its status is 2 where a fault was reported, and
-- else the page was written, and nothing was reported. It is an error where the report was refused.
pub record Ends {P E W V : Type 0} (name : List ℕ) (shown_of : P → Shown) (made : Result P Fault)
    (out_bytes : W → Option (List ℕ)) (out_before out_after : W)
    (err_bytes : V → Option (List ℕ)) (err_before err_after : V) (result : Result ℕ E) : Type 0 where
  pub status : IfOk result (λ n. n ≤ 2)
  pub shown : IfOk result (λ n. n < 2
      → IsShown shown_of made n (out_bytes out_before) (out_bytes out_after) × (err_after ≡ err_before))
  pub reported : IfOk result (λ n. n ≡ 2
      → IfStops name made out_before out_after (Appends (err_bytes err_before) (err_bytes err_after)))
  pub unreported : IfErr result (λ _.
      IfStops name made out_before out_after (AppendsFront (err_bytes err_before) (err_bytes err_after)))

-- The program of this name made what it should, and ended with it.
pub record Ran {P E W V : Type 0} (name : List ℕ) (shown_of : P → Shown) (Makes : Result P Fault → Type 0)
    (out_bytes : W → Option (List ℕ)) (out_before out_after : W)
    (err_bytes : V → Option (List ℕ)) (err_before err_after : V) (result : Result ℕ E) : Type 0 where
  pub made : Result P Fault
  pub is_made : Makes made
  pub ends : Ends name shown_of made out_bytes out_before out_after err_bytes err_before err_after result
