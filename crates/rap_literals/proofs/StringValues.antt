-- A string's body stands for something just where nothing is reported about it.
use Rattle.std.proofs.Common.{◌≡◌, ℕ, false, List, [], ◌∷◌, ◌++◌, Result, Ok, Err, refl, sym, ◌∙◌, subst}
use Rattle.std.specs.Prelude.{◌↔◌}
use Rattle.std.proofs.lemmas.List.{append-nil}
use Rattle.rap_lexer.proofs.EscapeWalks.{reported_is}
use Rattle.rap_lexer.specs.Escape.{Character, StringReports, Reports, BeginsNot, is_single, reported}
use Rattle.rap_lexer.specs.Escape.StringReports.{end, gap, next}
use Rattle.rap_lexer.specs.declared.escape.Fault.{Fault}
use Rattle.rap_lexer.specs.declared.escape.Mode.{Mode}
use Rattle.rap_lexer.specs.declared.escape.Mode.TheVariants.{Char, Byte, Str, ByteStr, CStr}
use Rattle.rap_literals.specs.Value.{StringValue}
use Rattle.rap_literals.specs.Value.StringValue.{end as nothing, gap as past_gap, next as and_then}

none_of_two : (a b : List Fault) → a ++ b ≡ [] → (a ≡ []) × (b ≡ [])
none_of_two [] b e = (refl, e)
none_of_two (x ∷ a) b e = let wrong : ⊥ = cc in absurd wrong

pub fault_reported : (mode : Mode) (fault : Fault) → reported mode (Err fault) ≡ fault ∷ []
fault_reported Char fault = refl
fault_reported Byte fault = refl
fault_reported Str fault = refl
fault_reported ByteStr fault = refl
fault_reported CStr fault = refl

abbrev pub HasValue : Mode → List ℕ → Type 0
HasValue mode body = (bytes : List ℕ) × StringValue mode body bytes

module _ (mode : Mode) where
  one_more : (body : List ℕ) (outcome : Result ℕ Fault) (rest : List ℕ) → BeginsNot (92 ∷ 10 ∷ []) body → Character mode body outcome rest → reported mode outcome ≡ [] → HasValue mode rest → HasValue mode body
  one_more body (Ok value) rest n r q v = (_, and_then body value rest v.0 n r q v.1)
  one_more body (Err fault) rest n r q v = let e : fault ∷ [] ≡ [] = sym (fault_reported mode fault) ∙ q in let wrong : ⊥ = cc in absurd wrong

  has_value : {body : List ℕ} {faults : List Fault} → StringReports mode body faults → faults ≡ [] → HasValue mode body
  has_value end e = ([], nothing)
  has_value (gap cs faults t) e = let v = has_value t e in (v.0, past_gap cs v.0 v.1)
  has_value (next body outcome rest faults n r t) e =
      let none = none_of_two (reported mode outcome) faults e in
      one_more body outcome rest n r none.0 (has_value t none.1)

  pub reports_none : {body bytes : List ℕ} → StringValue mode body bytes → StringReports mode body []
  reports_none nothing = end
  reports_none (past_gap cs bytes t) = gap cs [] (reports_none t)
  reports_none (and_then body value rest bytes n r q t) =
      subst (λ l. StringReports mode body l) (append-nil (reported mode (Ok value)) ∙ q) (next body (Ok value) rest [] n r (reports_none t))

pub of_string : (mode : Mode) (body : List ℕ) (faults : List Fault) → is_single mode ≡ false → StringReports mode body faults → Reports mode body faults
of_string Char body l e t = cc
of_string Byte body l e t = cc
of_string Str body l e t = t
of_string ByteStr body l e t = t
of_string CStr body l e t = t

to_string : (mode : Mode) (body : List ℕ) (faults : List Fault) → is_single mode ≡ false → Reports mode body faults → StringReports mode body faults
to_string Char body l e t = cc
to_string Byte body l e t = cc
to_string Str body l e t = t
to_string ByteStr body l e t = t
to_string CStr body l e t = t

-- two lists of faults of one body are the same
pub one_report : (mode : Mode) (body : List ℕ) (faults others : List Fault) → Reports mode body faults → Reports mode body others → faults ≡ others
one_report mode body faults others t u = reported_is mode body faults t ∙ sym (reported_is mode body others u)

pub string_has_value : (mode : Mode) (body : List ℕ) (faults : List Fault) → is_single mode ≡ false → Reports mode body faults → (faults ≡ []) ↔ HasValue mode body
string_has_value mode body faults e t = (
  λ none. has_value mode (to_string mode body faults e t) none,
  λ v. one_report mode body faults [] t (of_string mode body [] e (reports_none mode v.1)),
)

-- what has a fault stands for nothing
pub no_value : (mode : Mode) (body : List ℕ) (fault : Fault) (faults : List Fault) → is_single mode ≡ false → StringReports mode body (fault ∷ faults) → (bytes : List ℕ) → ¬ StringValue mode body bytes
no_value mode body fault faults e t bytes v =
    let none : fault ∷ faults ≡ [] = one_report mode body (fault ∷ faults) [] (of_string mode body _ e t) (of_string mode body [] e (reports_none mode v)) in
    let wrong : ⊥ = cc in wrong
