-- Each body reports some list of faults.
use Rattle.std.proofs.Common.{◌≡◌, ◌≢◌, ℕ, zero, suc, ◌<◌, ◌≤◌, Bool, true, false, if◌then◌else◌, List, [], ◌∷◌, ◌++◌, ◌⊎◌, inl, inr, length, Option, Some, None, MatchOption, Result, nat_eq, refl, sym, ap, subst, arith}
use Rattle.std.proofs.lemmas.Bool.Decides.{eqb_tells}
use Rattle.rap_lexer.specs.declared.escape.Mode.{Mode}
use Rattle.rap_lexer.specs.declared.escape.Mode.TheVariants.{Char, Byte, Str, ByteStr, CStr}
use Rattle.rap_lexer.specs.declared.escape.Fault.{Fault}
use Rattle.rap_lexer.specs.Escape.{Character, CharacterReports, StringReports, Reports, is_single, plain_character, is_gap, reported}
use Rattle.rap_lexer.specs.EscapeWalk.{faults_from}
use Rattle.rap_lexer.specs.EscapeWalk.Place.{before_character}
use Rattle.rap_lexer.specs.Run.{after_run}
use Rattle.rap_lexer.specs.Escape.Character.{plain, escaped}
use Rattle.rap_lexer.specs.Escape.StringReports.{end, gap, next}
use Rattle.std.specs.Option.{option_to_list}
use Rattle.std.specs.Iterator.{YieldsFirst, MakesProgress, item_count}
use Rattle.std.specs.Prelude.{⊤}
use Rattle.rap_lexer.proofs.EscapeWalks.{by_string}
use Rattle.rap_lexer.proofs.EscapeReadings.{some_reading}
use Rattle.rap_lexer.proofs.EscapeGaps.{no_longer}
use Rattle.rap_lexer.proofs.EscapeStrings.{begins_line, is_no_gap, is_gap_from}

record First (mode : Mode) (body : List ℕ) : Type 0 where
  outcome : Result ℕ Fault
  rest : List ℕ
  character : Character mode body outcome rest
  shorter : length rest < length body

some_character : (mode : Mode) (c : ℕ) (cs : List ℕ) → First mode (c ∷ cs)
some_character mode c cs = elim (eqb_tells c 92) [ inl e ↦ rw e.1 with_backslash | inr e ↦ record { outcome = plain_character mode c; rest = cs; character = plain c cs e.1; shorter = omega arith } ]
  where
    with_backslash : First mode (92 ∷ cs)
    with_backslash = let r = some_reading mode cs in record { outcome = r.outcome; rest = r.rest; character = escaped cs r.outcome r.rest r.escape; shorter = omega (arith, r.no_longer) }

abbrev pub SomeList : Mode → List ℕ → Type 0
SomeList mode body = (faults : List Fault) × StringReports mode body faults

-- from the lists of all shorter bodies
one_more : (mode : Mode) (c : ℕ) (cs : List ℕ) → ((rest : List ℕ) → length rest < length (c ∷ cs) → SomeList mode rest) → SomeList mode (c ∷ cs)
one_more mode c cs shorter = goes_on (eqb_tells c 92) (begins_line cs) refl
  where
    after : ((c ≢ 92) ⊎ (begins_line cs ≡ false)) → SomeList mode (c ∷ cs)
    after n =
        let f = some_character mode c cs in
        let l = shorter f.rest f.shorter in
        (reported mode f.outcome ++ l.0, next (c ∷ cs) f.outcome f.rest l.0 (is_no_gap (c ∷ cs) c cs refl n) f.character l.1)

    goes_on : ((nat_eq c 92 ≡ true) × (c ≡ 92)) ⊎ ((nat_eq c 92 ≡ false) × (c ≢ 92)) → (b : Bool) → begins_line cs ≡ b → SomeList mode (c ∷ cs)
    goes_on (inl e) true f =
        let g = is_gap_from (c ∷ cs) c cs refl e.1 f in
        let l = shorter (after_run is_gap g.0) (omega (arith, no_longer is_gap g.0, ap length g.1)) in
        (l.0, subst (λ b. StringReports mode b l.0) (sym g.1) (gap g.0 l.0 l.1))
    goes_on (inl e) false f = after (inr f)
    goes_on (inr e) b f = after (inl e.1)

-- a body of at most so many characters
pub some_list : (most : ℕ) (mode : Mode) (body : List ℕ) → length body ≤ most → SomeList mode body
some_list most mode [] h = ([], end)
some_list zero mode (c ∷ cs) h = absurd (omega arith)
some_list (suc most) mode (c ∷ cs) h = one_more mode c cs (λ rest k. some_list most mode rest (omega arith))

walk_reported : (mode : Mode) (body : List ℕ) → is_single mode ≡ false → StringReports mode body (faults_from mode before_character body)
walk_reported mode body e = let l = some_list (length body) mode body (omega arith) in subst (λ f. StringReports mode body f) (by_string mode e l.1) l.1

of_single : (mode : Mode) (body : List ℕ) (reported_faults : List Fault) → is_single mode ≡ true → CharacterReports mode body reported_faults → Reports mode body reported_faults
of_single Char body l e t = t
of_single Byte body l e t = t
of_single Str body l e t = cc
of_single ByteStr body l e t = cc
of_single CStr body l e t = cc

of_string : (mode : Mode) (body : List ℕ) (reported_faults : List Fault) → is_single mode ≡ false → StringReports mode body reported_faults → Reports mode body reported_faults
of_string Char body l e t = cc
of_string Byte body l e t = cc
of_string Str body l e t = t
of_string ByteStr body l e t = t
of_string CStr body l e t = t

-- what the two kinds of bodies report, as the contract of `Faults` has it
module _ (mode : Mode) (body : List ℕ) (fault : Option Fault) (rest : List ℕ) where
  abbrev left : List Fault
  left = if is_single mode then option_to_list fault else faults_from mode before_character rest

  pub reported_by_single : is_single mode ≡ true → CharacterReports mode body (option_to_list fault) → Reports mode body left
  reported_by_single e t = rw e (of_single mode body (option_to_list fault) e t)

  pub reported_by_string : is_single mode ≡ false → rest ≡ body → Reports mode body left
  reported_by_string e f = rw (e, f) (of_string mode body _ e (walk_reported mode body e))

-- one step of the walk
step : (mode : Mode) (old new : List ℕ) (fault : Option Fault) → is_single mode ≡ false → MatchOption fault ((new ≡ []) × StringReports mode old []) (λ f. (later : List Fault) → StringReports mode new later → StringReports mode old (f ∷ later)) → MatchOption fault ((faults_from mode before_character old ≡ []) × (faults_from mode before_character new ≡ [])) (λ f. faults_from mode before_character old ≡ f ∷ faults_from mode before_character new)
unfolding faults_from
step mode old new None e k = (sym (by_string mode e k.1), rw k.0 refl)
step mode old new (Some f) e k = sym (by_string mode e (k _ (walk_reported mode new e)))

-- the same, as the contract of `next` has it
pub step_of_list : (mode : Mode) (old new : List ℕ) (single fault : Option Fault) (list : List Fault) → is_single mode ≡ false → (if is_single mode then option_to_list single else faults_from mode before_character old) ≡ list → MatchOption fault ((new ≡ []) × StringReports mode old []) (λ f. (later : List Fault) → StringReports mode new later → StringReports mode old (f ∷ later)) → YieldsFirst (λ l. l) list fault (if is_single mode then option_to_list single else faults_from mode before_character new)
step_of_list mode old new single fault list e v k =
    let h : faults_from mode before_character old ≡ list = rw e at v in
    rw (e, ← h) (step mode old new fault e k)

pub progress : (old new : List Fault) (fault : Option Fault) → YieldsFirst (λ l. l) old fault new → MakesProgress (λ _. ⊤) (item_count (λ (l : List Fault). l)) old fault new
progress old new None h = record { on = λ _. tt; keeps = tt; rests = λ _. tt }
progress old new (Some f) h = record { on = λ _. (tt, tt, omega (arith, ap length h)); keeps = tt; rests = λ _. tt }
