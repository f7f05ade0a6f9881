-- How a program ends.
use Rattle.std.proofs.Common.{◌≡◌, ◌<◌, ℕ, List, Option, Result, Ok, Err, IfOk, OnErr, OnOk, refl, sym, subst, arith}
use Rattle.std.specs.Io.KnownBytes.{Appends}
use Rattle.rast_common.specs.Fault.{fault_line}
use Rattle.rast_common.specs.Ran.{Ends, IfStops, IsShown}
use Rattle.rast_common.specs.Shown.{Shown}
use Rattle.rast_common.specs.Written.{AppendsFront}
use Rattle.rast_common.specs.declared.fault.Fault.{Fault}
use Rattle.rast_common.specs.declared.fault.Fault.TheVariants.{CannotWrite}

-- a fault was made, and nothing was written
pub stops_before : {P W : Type 0} (name : List ℕ) (made : Result P Fault) (fault : Fault) (out : W) → made ≡ Err fault
    → (Holds : List ℕ → Type 0) → Holds (fault_line name fault) → IfStops name made out out Holds
stops_before {P} {W} name made fault out is Holds h =
    let Q : Result P Fault → Type 0 = λ m. IfStops name m out out Holds in
    subst Q (sym is) (refl, h)

-- a page was made, and the output refused a write
pub stops_writing : {P W : Type 0} (name : List ℕ) (made : Result P Fault) (page : P) (before after : W)
    → made ≡ Ok page → (Holds : List ℕ → Type 0) → Holds (fault_line name CannotWrite) → IfStops name made before after Holds
stops_writing {P} {W} name made page before after is Holds h =
    let Q : Result P Fault → Type 0 = λ m. IfStops name m before after Holds in
    subst Q (sym is) h

-- what stopped the program was reported, or its report was refused
pub ends_stopped : {P E W V : Type 0} (name line : List ℕ) (shown_of : P → Shown) (made : Result P Fault)
    (out_bytes : W → Option (List ℕ)) (before after : W) (err_bytes : V → Option (List ℕ)) (err_before err_after : V)
    → ((Holds : List ℕ → Type 0) → Holds line → IfStops name made before after Holds)
    → (result : Result ℕ E) → IfOk result (λ n. n ≡ 2)
    → OnOk result (Appends (err_bytes err_before) (err_bytes err_after) line)
    → OnErr result (AppendsFront (err_bytes err_before) (err_bytes err_after) line)
    → Ends name shown_of made out_bytes before after err_bytes err_before err_after result
ends_stopped name line shown_of made out_bytes before after err_bytes err_before err_after stops (Ok n) two said front = record {
  status = omega (arith, two);
  shown = λ less. absurd (omega (arith, two, less));
  reported = λ _. stops (Appends (err_bytes err_before) (err_bytes err_after)) said;
  unreported = tt;
}
ends_stopped name line shown_of made out_bytes before after err_bytes err_before err_after stops (Err e) two said front = record {
  status = tt;
  shown = tt;
  reported = tt;
  unreported = stops (AppendsFront (err_bytes err_before) (err_bytes err_after)) front;
}

-- the page was written
pub ends_shown : {P E W V : Type 0} (name : List ℕ) (shown_of : P → Shown) (made : Result P Fault) (page : P)
    (out_bytes : W → Option (List ℕ)) (before after : W) (err_bytes : V → Option (List ℕ)) (err : V) (n : ℕ)
    → made ≡ Ok page → n ≡ (shown_of page).status → n < 2
    → Appends (out_bytes before) (out_bytes after) (shown_of page).bytes
    → Ends {E = E} name shown_of made out_bytes before after err_bytes err err (Ok n)
ends_shown {P} {E} {W} {V} name shown_of made page out_bytes before after err_bytes err n is own few written =
    let Q : Result P Fault → Type 0 = λ m. IsShown shown_of m n (out_bytes before) (out_bytes after) in
    record {
      status = omega arith;
      shown = λ _. (subst Q (sym is) (written, own), refl);
      reported = λ two. absurd (omega (arith, two, few));
      unreported = tt;
    }
