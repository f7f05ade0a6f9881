-- Nothing is reported about a plain literal.
use Rattle.std.proofs.Common.{◌≡◌, ℕ, ◌+◌, ◌-◌, List, [], ◌∷◌, ◌++◌, length, length-append, take, slice_range, inl, refl, ap, sym, ◌∙◌, subst, arith}
use Rattle.std.proofs.lemmas.List.{append_assoc}
use Rattle.std.proofs.lemmas.List.Elements.{All-nil}
use Rattle.std.proofs.Math.Seq.{take-append_seam}
use Rattle.rap_lexer.specs.PlainLiteral.{IsPlainLiteral}
use Rattle.rap_lexer.specs.PlainLiteral as lexer
use Rattle.rap_lexer.specs.declared.escape.Mode.{Mode}
use Rattle.rap_lexer.specs.declared.escape.Mode.TheVariants.{Char, Byte, Str, ByteStr, CStr}
use Rattle.rap_lexer.specs.declared.lexer.lexeme.Remark.TheVariants.{Escapes}
use Rattle.rap_lexed.specs.About.{IsQuiet}
use Rattle.rap_lexed.specs.Reported.{quote_of, IsBetween}

same_quote : (mode : Mode) → lexer.quote_of mode ≡ quote_of mode
same_quote Char = refl
same_quote Byte = refl
same_quote Str = refl
same_quote ByteStr = refl
same_quote CStr = refl

-- the literal alone
alone : (text body rest : List ℕ) (q n : ℕ) → text ≡ q ∷ (body ++ q ∷ rest) → n ≡ length body + 2 → slice_range text 0 n ≡ q ∷ (body ++ q ∷ [])
alone text body rest q n e l =
    let xs : List ℕ = q ∷ (body ++ q ∷ []) in
    let size : n - 0 ≡ length xs = omega (arith, l, length-append body (q ∷ [])) in
    let whole : text ≡ xs ++ rest = e ∙ ap (λ x. q ∷ x) (sym (append_assoc body (q ∷ []) rest)) in
    ap (λ k. take k text) size ∙ (ap (take (length xs)) whole ∙ take-append_seam xs rest)

pub quiet_literal : (text : List ℕ) (kind : ℕ) (mode : Mode) (n : ℕ) → IsPlainLiteral text kind mode n → IsQuiet (slice_range text 0 n) (Escapes mode)
quiet_literal text kind mode n h note =
    let between : IsBetween (lexer.quote_of mode) (slice_range text 0 n) h.body = record {
      before = [];
      after = [];
      split = alone text h.body h.rest (lexer.quote_of mode) n h.split h.size;
      first = All-nil _;
      last = All-nil _;
    } in
    (h.body, inl (subst (λ q. IsBetween q (slice_range text 0 n) h.body) (same_quote mode) between), ([], h.nothing, refl))
