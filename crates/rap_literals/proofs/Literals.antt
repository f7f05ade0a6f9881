-- What a text that is no literal, or whose body has a fault, stands for: nothing.
use Rattle.std.proofs.Common.{◌≡◌, ℕ, false, List, Option, Some, None, MatchOption, Result, Ok, Err, IfOk, chars, subst, [], ◌∷◌, true}
use Rattle.std.specs.Prelude.{◌↔◌}
use Rattle.rap_lexer.specs.Escape.{is_single, BeginsNot, Reports}
use Rattle.rap_lexer.specs.declared.escape.Fault.{Fault}
use Rattle.rap_lexer.specs.declared.escape.Mode.{Mode}
use Rattle.rap_literals.proofs.Cuts.{quoted_once}
use Rattle.rap_literals.proofs.CharacterValues.{character_has_value}
use Rattle.rap_literals.proofs.StringValues.{no_value, string_has_value}
use Rattle.rap_literals.specs.Cut.{IsQuoted}
use Rattle.rap_literals.specs.Literal.{StringLiteral, CharacterLiteral}
use Rattle.rap_literals.specs.Literal.StringLiteral.{escaped, raw}
use Rattle.rap_literals.specs.Piece.{HasFault}
use Rattle.rap_literals.specs.Value.{StringValue, CharacterValue}
use Rattle.rap_literals.specs.declared.cut.Form.{Form}
use Rattle.rap_literals.specs.declared.cut.Form.TheVariants.{Escaped, Raw}

module _ (mode : Mode) (text : List ℕ) where
  pub no_string : ((form : Form) (body after : List ℕ) → ¬ IsQuoted mode text form body after) → (bytes : List ℕ) → ¬ StringLiteral mode text bytes
  no_string h bytes (escaped body after given q v) = h Escaped body after q
  no_string h bytes (raw body after q) = h Raw body after q

  pub faulty_string : (body after : List ℕ) → is_single mode ≡ false → IsQuoted mode text Escaped body after → HasFault mode (chars body) → (bytes : List ℕ) → ¬ StringLiteral mode text bytes
  faulty_string body after e q f bytes (escaped other rest given r v) =
      let o = quoted_once mode text Escaped Escaped other body rest after r q in
      no_value mode (chars body) f.0 f.1 e f.2 given (subst (λ (l : List ℕ). StringValue mode (chars l) given) o.1 v)
  faulty_string body after e q f bytes (raw other rest r) =
      let o = quoted_once mode text Raw Escaped other body rest after r q in
      let n = o.0 in let wrong : ⊥ = cc in wrong

  pub no_character : ((form : Form) (body after : List ℕ) → ¬ IsQuoted mode text form body after) → (value : ℕ) → ¬ CharacterLiteral mode text value
  no_character h value v = h Escaped v.body v.after v.quoted

  pub raw_character : (body after : List ℕ) → IsQuoted mode text Raw body after → (value : ℕ) → ¬ CharacterLiteral mode text value
  raw_character body after q value v =
      let o = quoted_once mode text Raw Escaped body v.body after v.after q v.quoted in
      let n = o.0 in let wrong : ⊥ = cc in wrong

  pub faulty_character : (body after : List ℕ) → IsQuoted mode text Escaped body after → ((value : ℕ) → ¬ CharacterValue mode (chars body) value) → (value : ℕ) → ¬ CharacterLiteral mode text value
  faulty_character body after q h value v =
      let o = quoted_once mode text Escaped Escaped v.body body v.after after v.quoted q in
      h value (subst (λ (l : List ℕ). CharacterValue mode (chars l) value) o.1 v.stands)

  -- what reading the body of a string came to
  pub string_outcome : {X E : Type 0} (view : X → List ℕ) (body after : List ℕ) → is_single mode ≡ false → IsQuoted mode text Escaped body after → (r : Result (Option X) E) → IfOk r (λ value. MatchOption value (HasFault mode (chars body)) (λ x. StringValue mode (chars body) (view x))) → IfOk r (λ value. MatchOption value ((bytes : List ℕ) → ¬ StringLiteral mode text bytes) (λ x. StringLiteral mode text (view x)))
  string_outcome view body after e q (Ok (Some x)) h = escaped body after (view x) q h
  string_outcome view body after e q (Ok None) h = faulty_string body after e q h
  string_outcome view body after e q (Err x) h = tt

  -- what reading the body of a character came to
  pub character_outcome : (body after : List ℕ) → IsQuoted mode text Escaped body after → (r : Option ℕ) → MatchOption r ((value : ℕ) → ¬ CharacterValue mode (chars body) value) (CharacterValue mode (chars body)) → MatchOption r ((value : ℕ) → ¬ CharacterLiteral mode text value) (CharacterLiteral mode text)
  character_outcome body after q None h = faulty_character body after q h
  character_outcome body after q (Some value) h = record { body = body; after = after; quoted = q; stands = h }

  -- a string literal stands for something just where nothing is reported about its body
  pub literal_has_value : (body after : List ℕ) (faults : List Fault) → is_single mode ≡ false → IsQuoted mode text Escaped body after → Reports mode (chars body) faults → (faults ≡ []) ↔ ((bytes : List ℕ) × StringLiteral mode text bytes)
  literal_has_value body after faults e q t = (
    λ none. let v = (string_has_value mode (chars body) faults e t).0 none in (v.0, escaped body after v.0 q v.1),
    λ v. (string_has_value mode (chars body) faults e t).1 (v.0, stands body after q v.0 v.1),
  )
    where
      stands : (inner rest : List ℕ) → IsQuoted mode text Escaped inner rest → (bytes : List ℕ) → StringLiteral mode text bytes → StringValue mode (chars inner) bytes
      stands inner rest q bytes (escaped other later _ r v) =
          let o = quoted_once mode text Escaped Escaped other inner later rest r q in
          subst (λ (l : List ℕ). StringValue mode (chars l) bytes) o.1 v
      stands inner rest q bytes (raw other later r) =
          let o = quoted_once mode text Raw Escaped other inner later rest r q in
          let n = o.0 in let wrong : ⊥ = cc in absurd wrong

  -- and so does a character, if its body begins with no carriage return
  pub character_literal_has_value : (body after : List ℕ) (faults : List Fault) → is_single mode ≡ true → IsQuoted mode text Escaped body after → Reports mode (chars body) faults → ((faults ≡ []) × BeginsNot (13 ∷ []) (chars body)) ↔ ((value : ℕ) × CharacterLiteral mode text value)
  character_literal_has_value body after faults e q t = (
    λ none. let v = (character_has_value mode e (chars body) faults t).0 none in (v.0, record { body = body; after = after; quoted = q; stands = v.1 }),
    λ v. (character_has_value mode e (chars body) faults t).1 (v.0, let o = quoted_once mode text Escaped Escaped v.1.body body v.1.after after v.1.quoted q in subst (λ (l : List ℕ). CharacterValue mode (chars l) v.0) o.1 v.1.stands),
  )
