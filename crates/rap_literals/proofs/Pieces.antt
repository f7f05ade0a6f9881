-- The pieces of a string's body, one after another.
use Rattle.std.proofs.Common.{◌≡◌, ℕ, ◌<◌, ◌≤◌, Bool, true, false, ◌&&◌, ◌||◌, if◌then◌else◌, List, [], ◌∷◌, ◌++◌, length, Option, Some, None, Result, Ok, Err, nat_eq, nat_lt, refl, ap, ◌∙◌, subst, arith, append_assoc, length-append}
use Rattle.std.proofs.lemmas.Bool.{eqb-true, ltb-false}
use Rattle.std.proofs.lemmas.List.{append-nil}
use Rattle.std.specs.Str.Parse.{digits_value}
use Rattle.rap_lexer.proofs.EscapeFaults.{some_list}
use Rattle.rap_lexer.specs.Escape.{Escape, Character, StringReports, BeginsNot, is_gap, simple_escape, plain_character, unicode_escape, hex_limit, hex_escape, reported}
use Rattle.rap_lexer.specs.Escape.Escape.{alone, simple, unknown, hex_short_first, hex_short_second, hex_wrong_first, hex_wrong_second, hex, no_brace_at_end, no_brace, leading_underscore, empty, unclosed, foreign, closed}
use Rattle.rap_lexer.specs.Escape.Character.{plain, escaped}
use Rattle.rap_lexer.specs.Escape.StringReports.{gap, next}
use Rattle.rap_lexer.specs.Run.{next_is, after_run}
use Rattle.rap_lexer.specs.declared.escape.Fault.{Fault}
use Rattle.rap_lexer.specs.declared.escape.Fault.TheVariants.{EscapeOnlyChar, NonAsciiCharInByte, OverlongUnicodeEscape, UnicodeEscapeInByte}
use Rattle.rap_lexer.specs.declared.escape.Mode.{Mode}
use Rattle.rap_lexer.specs.declared.escape.Mode.TheVariants.{Char, Byte, Str, ByteStr, CStr}
use Rattle.rap_literals.proofs.StringValues.{fault_reported}
use Rattle.rap_literals.specs.Piece.{begins_gap, Continues, HasFault}
use Rattle.rap_literals.specs.Value.{StringValue, begins_hex, bytes_of}
use Rattle.rap_literals.specs.Value.StringValue.{end as nothing, gap as past_gap, next as and_then}

both : (a b : Bool) → (a && b) ≡ true → (a ≡ true) × (b ≡ true)
both true true e = (refl, refl)
both true false e = (refl, e)
both false b e = let wrong : ⊥ = cc in absurd wrong

-- ---- a piece

module _ (mode : Mode) (c : ℕ) (cs : List ℕ) where
  pub gap_continues : (rest : List ℕ) → begins_gap (c ∷ cs) ≡ true → rest ≡ after_run is_gap cs → Continues mode (c ∷ cs) [] rest
  gap_continues rest e f = at_line cs refl (both (nat_eq c 92) (next_is 10 cs) e)
    where
      at_line : (ds : List ℕ) → cs ≡ ds → ((nat_eq c 92 ≡ true) × (next_is 10 ds ≡ true)) → Continues mode (c ∷ cs) [] rest
      at_line [] g h = let k = h.1 in let wrong : ⊥ = cc in absurd wrong
      at_line (d ∷ ds) g h =
          let l : cs ≡ 10 ∷ ds = g ∙ ap (λ x. x ∷ ds) (eqb-true d 10 h.1) in
          rw (eqb-true c 92 h.0, f, l) (record { value = λ more v. past_gap ds more v; reports = λ faults t. gap ds faults t })

  no_gap : begins_gap (c ∷ cs) ≡ false → BeginsNot (92 ∷ 10 ∷ []) (c ∷ cs)
  no_gap e rest f = let t : begins_gap (c ∷ cs) ≡ true = ap begins_gap f in let wrong : ⊥ = cc in wrong

  pub character_continues : (value : ℕ) (bytes rest : List ℕ) → begins_gap (c ∷ cs) ≡ false → Character mode (c ∷ cs) (Ok value) rest → reported mode (Ok value) ≡ [] → bytes ≡ bytes_of (c ∷ cs) value → Continues mode (c ∷ cs) bytes rest
  character_continues value bytes rest e r q f = record {
    value = λ more v. rw f (and_then (c ∷ cs) value rest more (no_gap e) r q v);
    reports = λ faults t. subst (λ l. StringReports mode (c ∷ cs) (l ++ faults)) q (next (c ∷ cs) (Ok value) rest faults (no_gap e) r t);
  }

  pub fault_first : (outcome : Result ℕ Fault) (fault : Fault) (rest : List ℕ) → begins_gap (c ∷ cs) ≡ false → Character mode (c ∷ cs) outcome rest → reported mode outcome ≡ fault ∷ [] → HasFault mode (c ∷ cs)
  fault_first outcome fault rest e r q =
      let later = some_list (length rest) mode rest (omega arith) in
      (fault, later.0, subst (λ l. StringReports mode (c ∷ cs) (l ++ later.0)) q (next (c ∷ cs) outcome rest later.0 (no_gap e) r later.1))

  pub faulty_first : (fault : Fault) (rest : List ℕ) → begins_gap (c ∷ cs) ≡ false → Character mode (c ∷ cs) (Err fault) rest → HasFault mode (c ∷ cs)
  faulty_first fault rest e r = fault_first (Err fault) fault rest e r (fault_reported mode fault)

-- ---- pieces in order

module _ (mode : Mode) where
  pub begin : (body : List ℕ) → Continues mode body [] body
  begin body = record { value = λ more v. v; reports = λ faults t. t }

  pub then_more : (body middle rest a b : List ℕ) → Continues mode body a middle → Continues mode middle b rest → Continues mode body (a ++ b) rest
  then_more body middle rest a b k l = record {
    value = λ more v. rw append_assoc (k.value (b ++ more) (l.value more v));
    reports = λ faults t. k.reports faults (l.reports faults t);
  }

  pub finish : (body bytes rest : List ℕ) → rest ≡ [] → Continues mode body bytes rest → StringValue mode body bytes
  finish body bytes rest e k = subst (λ l. StringValue mode body l) (append-nil bytes) (k.value [] (rw e nothing))

  pub fault_later : (body bytes rest : List ℕ) → Continues mode body bytes rest → HasFault mode rest → HasFault mode body
  fault_later body bytes rest k f = (f.0, f.1, k.reports (f.0 ∷ f.1) f.2)

-- ---- what a character takes

module _ (mode : Mode) where
  escape_no_longer : {cs rest : List ℕ} {outcome : Result ℕ Fault} → Escape mode cs outcome rest → length rest ≤ length cs
  escape_no_longer alone = omega arith
  escape_no_longer (simple c value rest e) = omega arith
  escape_no_longer (unknown c rest e f g) = omega arith
  escape_no_longer hex_short_first = omega arith
  escape_no_longer (hex_wrong_first a rest h) = omega arith
  escape_no_longer (hex_short_second a h) = omega arith
  escape_no_longer (hex_wrong_second a b rest h k) = omega arith
  escape_no_longer (hex a b rest h k) = omega arith
  escape_no_longer no_brace_at_end = omega arith
  escape_no_longer (no_brace c rest e) = omega arith
  escape_no_longer (leading_underscore rest) = omega arith
  escape_no_longer (empty rest) = omega arith
  escape_no_longer (unclosed cs a) = omega arith
  escape_no_longer (foreign cs c rest a f) = omega (arith, length-append cs (c ∷ rest))
  escape_no_longer (closed cs rest a) = omega (arith, length-append cs (125 ∷ rest))

  pub takes_one : {body rest : List ℕ} {outcome : Result ℕ Fault} → Character mode body outcome rest → length rest < length body
  takes_one (plain c rest e) = omega arith
  takes_one (escaped cs outcome rest e) = omega (arith, escape_no_longer e)

  abbrev begins_u : List ℕ → Bool
  begins_u [] = false
  begins_u (c ∷ cs) = nat_eq c 117

  no_u_x : (cs ds : List ℕ) → 117 ∷ cs ≡ 120 ∷ ds → ⊥
  no_u_x cs ds e = let f : true ≡ false = ap begins_u e in cc

  hex_within : (n value : ℕ) → hex_escape mode n ≡ Ok value → value ≤ hex_limit mode
  hex_within n value e = by_test (nat_lt (hex_limit mode) n) refl
    where
      by_test : (b : Bool) → nat_lt (hex_limit mode) n ≡ b → value ≤ hex_limit mode
      by_test true f = let g : Err _ ≡ Ok value = rw f at e in let wrong : ⊥ = cc in absurd wrong
      by_test false f = let g : Ok n ≡ Ok value = rw f at e in let h : n ≡ value = cc in omega (arith, ltb-false (hex_limit mode) n f)

  escape_within : {cs rest : List ℕ} {outcome : Result ℕ Fault} → Escape mode cs outcome rest → (ds : List ℕ) (value : ℕ) → cs ≡ 120 ∷ ds → outcome ≡ Ok value → value ≤ hex_limit mode
  escape_within alone ds value e f = let wrong : ⊥ = cc in absurd wrong
  escape_within (simple c v rest q) ds value e f =
      let g : c ≡ 120 = cc in
      let h : None ≡ Some v = rw g at q in
      let wrong : ⊥ = cc in absurd wrong
  escape_within (unknown c rest q no_x no_u) ds value e f = let wrong : ⊥ = cc in absurd wrong
  escape_within hex_short_first ds value e f = let wrong : ⊥ = cc in absurd wrong
  escape_within (hex_wrong_first a rest h) ds value e f = let wrong : ⊥ = cc in absurd wrong
  escape_within (hex_short_second a h) ds value e f = let wrong : ⊥ = cc in absurd wrong
  escape_within (hex_wrong_second a b rest h k) ds value e f = let wrong : ⊥ = cc in absurd wrong
  escape_within (hex a b rest h k) ds value e f = hex_within (digits_value 16 (a ∷ b ∷ [])) value f
  escape_within no_brace_at_end ds value e f = let wrong : ⊥ = cc in absurd wrong
  escape_within (no_brace c rest q) ds value e f = let wrong : ⊥ = cc in absurd wrong
  escape_within (leading_underscore rest) ds value e f = let wrong : ⊥ = cc in absurd wrong
  escape_within (empty rest) ds value e f = let wrong : ⊥ = cc in absurd wrong
  escape_within (unclosed cs a) ds value e f = let wrong : ⊥ = cc in absurd wrong
  escape_within (foreign cs c rest a q) ds value e f = let wrong : ⊥ = cc in absurd wrong
  escape_within (closed cs rest a) ds value e f = absurd (no_u_x _ ds e)

  character_within : {body rest : List ℕ} {outcome : Result ℕ Fault} → Character mode body outcome rest → (ds : List ℕ) (value : ℕ) → body ≡ 92 ∷ 120 ∷ ds → outcome ≡ Ok value → value ≤ hex_limit mode
  character_within (plain c rest n) ds value e f = let g : c ≡ 92 = cc in absurd (n g)
  character_within (escaped cs outcome rest r) ds value e f = let g : cs ≡ 120 ∷ ds = cc in escape_within r ds value g f

  pub within_limit : (c : ℕ) (cs rest : List ℕ) (value : ℕ) → begins_hex (c ∷ cs) ≡ true → Character mode (c ∷ cs) (Ok value) rest → value ≤ hex_limit mode
  within_limit c cs rest value e r = at_x cs refl (both (nat_eq c 92) (next_is 120 cs) e)
    where
      at_x : (ds : List ℕ) → cs ≡ ds → ((nat_eq c 92 ≡ true) × (next_is 120 ds ≡ true)) → value ≤ hex_limit mode
      at_x [] g h = let k = h.1 in let wrong : ⊥ = cc in absurd wrong
      at_x (d ∷ ds) g h =
          let body : c ∷ cs ≡ 92 ∷ 120 ∷ ds = rw (eqb-true c 92 h.0, g, eqb-true d 120 h.1) refl in
          character_within r ds value body refl

pub limit_of_byte : (mode : Mode) → hex_limit mode < 256
limit_of_byte Char = omega arith
limit_of_byte Byte = omega arith
limit_of_byte Str = omega arith
limit_of_byte ByteStr = omega arith
limit_of_byte CStr = omega arith

-- ---- the characters of a byte

small_or : (b : Bool) (a v : ℕ) (other : Option ℕ) → a < 256 → (other ≡ Some v → v < 256) → (if b then Some a else other) ≡ Some v → v < 256
small_or true a v other h k e = let f : a ≡ v = cc in omega (arith, h)
small_or false a v other h k e = k e

simple_small : (c v : ℕ) → simple_escape c ≡ Some v → v < 256
simple_small c v =
    small_or (nat_eq c 110) 10 v _ (omega arith)
    (small_or (nat_eq c 114) 13 v _ (omega arith)
    (small_or (nat_eq c 116) 9 v _ (omega arith)
    (small_or (nat_eq c 92) 92 v _ (omega arith)
    (small_or (nat_eq c 39) 39 v _ (omega arith)
    (small_or (nat_eq c 34) 34 v _ (omega arith)
    (small_or (nat_eq c 48) 0 v None (omega arith)
    (λ e. let wrong : ⊥ = cc in absurd wrong)))))))

no_fault : (b : Bool) (fault : Fault) (other : Result ℕ Fault) (v : ℕ) → (if b then Err fault else other) ≡ Ok v → (b ≡ false) × (other ≡ Ok v)
no_fault true fault other v e = let wrong : ⊥ = cc in absurd wrong
no_fault false fault other v e = (refl, e)

plain_small : (c v : ℕ) → plain_character Byte c ≡ Ok v → v < 256
plain_small c v e =
    let f = no_fault (nat_eq c 10 || nat_eq c 9 || nat_eq c 39) EscapeOnlyChar (if nat_lt 127 c then Err NonAsciiCharInByte else Ok c) v e in
    let g = no_fault (nat_lt 127 c) NonAsciiCharInByte (Ok c) v f.1 in
    let one : Ok c ≡ Ok v = g.1 in
    let same : c ≡ v = cc in
    omega (arith, ltb-false 127 c g.0, same)

no_unicode : (digits : List ℕ) (v : ℕ) → unicode_escape Byte digits ≡ Ok v → ⊥
no_unicode digits v e =
    let f : Err UnicodeEscapeInByte ≡ Ok v = (no_fault (nat_lt 6 (length digits)) OverlongUnicodeEscape (Err UnicodeEscapeInByte) v e).1 in
    let wrong : ⊥ = cc in wrong

escape_small : {cs rest : List ℕ} {outcome : Result ℕ Fault} → Escape Byte cs outcome rest → (v : ℕ) → outcome ≡ Ok v → v < 256
escape_small alone v e = let f : 92 ≡ v = cc in omega arith
escape_small (simple c value rest q) v e = let f : value ≡ v = cc in simple_small c v (q ∙ ap Some f)
escape_small (unknown c rest q no_x no_u) v e = let wrong : ⊥ = cc in absurd wrong
escape_small hex_short_first v e = let wrong : ⊥ = cc in absurd wrong
escape_small (hex_wrong_first a rest h) v e = let wrong : ⊥ = cc in absurd wrong
escape_small (hex_short_second a h) v e = let wrong : ⊥ = cc in absurd wrong
escape_small (hex_wrong_second a b rest h k) v e = let wrong : ⊥ = cc in absurd wrong
escape_small (hex a b rest h k) v e = omega (arith, hex_within Byte (digits_value 16 (a ∷ b ∷ [])) v e)
escape_small no_brace_at_end v e = let wrong : ⊥ = cc in absurd wrong
escape_small (no_brace c rest q) v e = let wrong : ⊥ = cc in absurd wrong
escape_small (leading_underscore rest) v e = let wrong : ⊥ = cc in absurd wrong
escape_small (empty rest) v e = let wrong : ⊥ = cc in absurd wrong
escape_small (unclosed cs a) v e = let wrong : ⊥ = cc in absurd wrong
escape_small (foreign cs c rest a q) v e = let wrong : ⊥ = cc in absurd wrong
escape_small (closed cs rest a) v e = absurd (no_unicode _ v e)

-- a byte's character is a byte
pub byte_small : {body rest : List ℕ} {outcome : Result ℕ Fault} → Character Byte body outcome rest → (v : ℕ) → outcome ≡ Ok v → v < 256
byte_small (plain c rest n) v e = plain_small c v e
byte_small (escaped cs outcome rest r) v e = escape_small r v e
