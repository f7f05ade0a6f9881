-- The body of a character or byte stands for a character just where nothing is reported about it and it does not begin
-- with a carriage return.
use Rattle.std.proofs.Common.{◌≡◌, ◌≢◌, ℕ, true, List, [], ◌∷◌, Ok, Err, refl}
use Rattle.std.specs.Prelude.{◌↔◌}
use Rattle.rap_lexer.specs.Escape.{Character, CharacterReports, Reports, BeginsNot, is_single}
use Rattle.rap_lexer.specs.Escape.CharacterReports.{empty, bare_return, faulty, more, one}
use Rattle.rap_lexer.specs.declared.escape.Fault.{Fault}
use Rattle.rap_lexer.specs.declared.escape.Fault.TheVariants.{ZeroChars, MoreThanOneChar}
use Rattle.rap_lexer.specs.declared.escape.Mode.{Mode}
use Rattle.rap_lexer.specs.declared.escape.Mode.TheVariants.{Char, Byte, Str, ByteStr, CStr}
use Rattle.rap_literals.proofs.StringValues.{one_report}
use Rattle.rap_literals.specs.Value.{CharacterValue}

of_single : (mode : Mode) (body : List ℕ) (faults : List Fault) → is_single mode ≡ true → CharacterReports mode body faults → Reports mode body faults
of_single Char body l e t = t
of_single Byte body l e t = t
of_single Str body l e t = cc
of_single ByteStr body l e t = cc
of_single CStr body l e t = cc

to_single : (mode : Mode) (body : List ℕ) (faults : List Fault) → is_single mode ≡ true → Reports mode body faults → CharacterReports mode body faults
to_single Char body l e t = t
to_single Byte body l e t = t
to_single Str body l e t = cc
to_single ByteStr body l e t = cc
to_single CStr body l e t = cc

abbrev HasValue : Mode → List ℕ → Type 0
HasValue mode body = (value : ℕ) × CharacterValue mode body value

module _ (mode : Mode) where
  reports_none : (body : List ℕ) (value : ℕ) → CharacterValue mode body value → CharacterReports mode body []
  reports_none body value v = one body value v.escaped_return v.whole

  has_value : {body : List ℕ} {faults : List Fault} → CharacterReports mode body faults → faults ≡ [] → BeginsNot (13 ∷ []) body → HasValue mode body
  has_value empty e n = let wrong : ⊥ = cc in absurd wrong
  has_value (bare_return rest) e n = absurd (n rest refl)
  has_value (faulty body fault rest m r) e n = let wrong : ⊥ = cc in absurd wrong
  has_value (more body value c rest m r) e n = let wrong : ⊥ = cc in absurd wrong
  has_value (one body value m r) e n = (value, record { escaped_return = m; whole = r })

  module _ (single : is_single mode ≡ true) where
    pub character_has_value : (body : List ℕ) (faults : List Fault) → Reports mode body faults → ((faults ≡ []) × BeginsNot (13 ∷ []) body) ↔ HasValue mode body
    character_has_value body faults t = (
      λ h. has_value (to_single mode body faults single t) h.0 h.1,
      λ v. (one_report mode body faults [] t (of_single mode body [] single (reports_none body v.0 v.1)), v.1.escaped_return),
    )

    no_value : (body : List ℕ) (fault : Fault) → CharacterReports mode body (fault ∷ []) → (value : ℕ) → ¬ CharacterValue mode body value
    no_value body fault t value v =
        let none : fault ∷ [] ≡ [] = one_report mode body (fault ∷ []) [] (of_single mode body _ single t) (of_single mode body [] single (reports_none body value v)) in
        let wrong : ⊥ = cc in wrong

    pub none_of_empty : (value : ℕ) → ¬ CharacterValue mode [] value
    none_of_empty = no_value [] ZeroChars empty

    pub none_of_return : (rest : List ℕ) (value : ℕ) → ¬ CharacterValue mode (13 ∷ rest) value
    none_of_return rest value v = v.escaped_return rest refl

    module _ (c : ℕ) (cs rest : List ℕ) (n : c ≢ 13) where
      no_return : BeginsNot (13 ∷ []) (c ∷ cs)
      no_return ds e = let f : c ≡ 13 = cc in n f

      pub none_of_fault : (fault : Fault) → Character mode (c ∷ cs) (Err fault) rest → (value : ℕ) → ¬ CharacterValue mode (c ∷ cs) value
      none_of_fault fault r = no_value (c ∷ cs) fault (faulty (c ∷ cs) fault rest no_return r)

      pub none_of_more : (found d : ℕ) (ds : List ℕ) → rest ≡ d ∷ ds → Character mode (c ∷ cs) (Ok found) rest → (value : ℕ) → ¬ CharacterValue mode (c ∷ cs) value
      none_of_more found d ds e r = no_value (c ∷ cs) MoreThanOneChar (more (c ∷ cs) found d ds no_return (rw e at r))

      pub value_of : (found : ℕ) → rest ≡ [] → Character mode (c ∷ cs) (Ok found) rest → CharacterValue mode (c ∷ cs) found
      value_of found e r = record { escaped_return = no_return; whole = rw e at r }
