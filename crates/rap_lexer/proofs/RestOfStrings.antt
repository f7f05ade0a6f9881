-- A string of which the rules take what follows a place.
use Rattle.std.proofs.Common.{◌≡◌, ◌≤◌, ◌+◌, ◌-◌, ℕ, true, List, ◌∷◌, [], length, drop, length-drop, chars, encode_utf8_all, IsUtf8, IsCharBoundary, ap, sym, ◌∙◌, arith}
use Rattle.std.proofs.lemmas.Bool.{eqb-true}
use Rattle.std.proofs.lemmas.List.{drop-drop}
use Rattle.std.proofs.lemmas.Str.{IsUtf8-drop, IsCharBoundary-from_drop, IsCharBoundary-from_rest}
use Rattle.std.specs.Str.{byte}
use Rattle.rap_base.specs.TokenKind.{STRING}
use Rattle.rap_base.specs.TokenTests.{IsTokenKind}
use Rattle.rap_base.specs.declared.edition.Edition.{Edition}
use Rattle.rap_base.specs.declared.edition.Edition.TheVariants.{Edition2015}
use Rattle.rap_lexer.specs.First.{First}
use Rattle.rap_lexer.specs.Quoted.{IsLiteral, StringRun}
use Rattle.rap_lexer.specs.Run.{next_is}
use Rattle.rap_lexer.specs.declared.escape.Mode.TheVariants.{Str}
use Rattle.rap_lexer.specs.declared.lexer.lexeme.Lexeme.{Lexeme}
use Rattle.rap_lexer.proofs.CommonTokens.{chars_head}
use Rattle.rap_lexer.proofs.Ends.{IsEnd}
use Rattle.rap_lexer.proofs.PlainStrings.{Passed, first_literal}
use Rattle.rap_lexer.proofs.Prefixes as prefix
use Rattle.rap_lexer.proofs.TokenEnds.{string_literal_end}
use Rattle.rap_lexer.proofs.TokenKinds.{token_kind}

-- ---- The rules from the place on

module _ (text : List ℕ) (at : ℕ) (token : Lexeme) (cs out : List ℕ) (u : IsUtf8 text) (b : IsCharBoundary text at)
    (h : IsLiteral StringRun STRING Str (chars (drop at text)) token cs) (left : out ≡ encode_utf8_all cs) where
  place : IsUtf8 (drop at text)
  place = IsUtf8-drop text at u b

  ends : IsEnd (chars (drop at text)) cs
  ends = string_literal_end STRING Str (chars (drop at text)) token cs h

  inside : length out ≤ length (drop at text)
  inside = prefix.within (drop at text) out ends.prefix cs place ends.join left

  size : length text - length out ≡ at + (length (drop at text) - length out)
  size = omega (arith, inside, length-drop at text, b.0)

  pub within : length out ≤ length text
  within = omega (arith, inside, length-drop at text)

  pub further : at ≤ length text - length out
  further = omega (arith, size)

  pub border : IsUtf8 out → IsCharBoundary text (length text - length out)
  border v = rw size (IsCharBoundary-from_rest text at (length (drop at text) - length out) b.0 (prefix.border (drop at text) out ends.prefix cs place ends.join left v))

  after : drop (length text - length out) text ≡ out
  after = ap (λ i. drop i text) size ∙ (sym (drop-drop (length (drop at text) - length out) at text) ∙ prefix.after_prefix (drop at text) out ends.prefix cs place ends.join left)

  pub taken : chars out ≡ cs → IsLiteral StringRun STRING Str (chars (drop at text)) token (chars (drop (length text - length out) text))
  taken same = rw (after, same) h

-- ---- The whole string

pub border_at : (text : List ℕ) (at : ℕ) → Passed text at → IsCharBoundary text at
border_at text at p = IsCharBoundary-from_drop text at p.within p.left

module _ (text : List ℕ) (at : ℕ) (token : Lexeme) (rest : List ℕ) (u : IsUtf8 text) (q : next_is (byte "\"") text ≡ true) (p : Passed text at)
    (h : IsLiteral StringRun STRING Str (chars (drop at text)) token rest) where
  from_start : IsLiteral StringRun STRING Str (chars (drop 1 text)) token rest
  from_start = (h.0, h.1, p.leads.back h.0 h.1 h.2, h.3, h.4)

  pub first : (edition : Edition) → First edition (chars text) token rest
  first edition = by_head text u q from_start
    where
      by_head : (text : List ℕ) → IsUtf8 text → next_is (byte "\"") text ≡ true → IsLiteral StringRun STRING Str (chars (drop 1 text)) token rest → First edition (chars text) token rest
      by_head [] u q h = cc
      by_head (c ∷ t) u q h =
          let quote : c ≡ 34 = eqb-true c 34 q in
          let head : chars (c ∷ t) ≡ 34 ∷ chars t = chars_head c t u (omega (arith, quote)) ∙ ap (λ x. x ∷ chars t) quote in
          rw head (first_literal edition (chars t) token rest h)

  pub kind : IsTokenKind token.kind
  kind = token_kind Edition2015 (chars text) token rest (first Edition2015)
