-- A `/` or `#` alone, by the bytes.
use Rattle.std.proofs.Common.{◌≡◌, ◌<◌, ℕ, Bool, true, false, ◌&&◌, ◌||◌, ◌==◌, not, List, [], ◌∷◌, ◌++◌, chars, IsUtf8, refl, ap, sym, ◌∙◌, arith}
use Rattle.std.proofs.lemmas.Bool.{and_parts, eqb-true, true≢false}
use Rattle.std.proofs.lemmas.Str.{encode_ascii, encodes-chars, IsUtf8-past_char, IsCharBoundary-at_seam}
use Rattle.rap_base.specs.TokenKind.{POUND, SLASH, STRING}
use Rattle.rap_base.specs.declared.edition.Edition.{Edition}
use Rattle.rap_lexer.specs.First.{First, is_reserved_hash}
use Rattle.rap_lexer.specs.Lexeme.{plain}
use Rattle.rap_lexer.specs.Plain.{is_plain_slash, is_plain_hash, IsPlainSign}
use Rattle.rap_lexer.specs.Run.{next_is}
use Rattle.rap_lexer.proofs.CommonTokens.{chars_head}
use Rattle.rap_lexer.proofs.FirstCharacters.{slash_first, hash_first}
use Rattle.rap_lexer.proofs.NextBytes.{next_byte}
use Rattle.rap_lexer.proofs.TokenKinds.{token_kind}

is_no : (x : Bool) → not x ≡ true → x ≡ false
is_no true e = cc
is_no false e = refl

or_second : (x y : Bool) → y ≡ true → (x || y) ≡ true
or_second true y h = refl
or_second false y h = h

-- past an ASCII byte the text goes on
tail_utf8 : (b : ℕ) (t : List ℕ) → IsUtf8 (b ∷ t) → b < 128 → IsUtf8 t
tail_utf8 b t u l = IsUtf8-past_char (b ∷ t) t b u (ap (λ x. x ++ t) (sym (encode_ascii b l)))

-- an ASCII character stands first exactly if its byte does
next_same : (c : ℕ) (t : List ℕ) → c < 128 → IsUtf8 t → next_is c (chars t) ≡ next_is c t
next_same c t l u = next_byte c l (chars t) ∙ ap (next_is c) (encodes-chars t u)

pub slash_plain : (edition : Edition) (text : List ℕ) → IsUtf8 text → is_plain_slash text ≡ true → IsPlainSign edition text SLASH 1
slash_plain edition [] u h = cc
slash_plain edition (b ∷ t) u h =
    let parts = and_parts (b == 47) (not (next_is 47 t) && not (next_is 42 t)) h in
    let after = and_parts (not (next_is 47 t)) (not (next_is 42 t)) parts.1 in
    let is : b ≡ 47 = eqb-true b 47 parts.0 in
    let l : b < 128 = omega (arith, is) in
    let v = tail_utf8 b t u l in
    let line : next_is 47 (chars t) ≡ false = next_same 47 t (omega arith) v ∙ is_no (next_is 47 t) after.0 in
    let block : next_is 42 (chars t) ≡ false = next_same 42 t (omega arith) v ∙ is_no (next_is 42 t) after.1 in
    let first : First edition (chars (b ∷ t)) (plain SLASH) (chars t) = slash_first edition (chars t) (plain SLASH) (chars t) b (chars (b ∷ t)) (chars_head b t u l) is (rw (line, block) (refl, refl)) in
    record {
      token = first;
      sign = token_kind edition (chars (b ∷ t)) (plain SLASH) (chars t) first;
      no_string = λ e. true≢false (sym (ap (λ k. k == STRING) e));
      positive = omega arith;
      border = IsCharBoundary-at_seam (b ∷ t) (b ∷ []) t refl v;
      plain = ap (λ x. x || is_plain_hash edition (b ∷ t)) h;
    }

pub hash_plain : (edition : Edition) (text : List ℕ) → IsUtf8 text → is_plain_hash edition text ≡ true → IsPlainSign edition text POUND 1
hash_plain edition [] u h = cc
hash_plain edition (b ∷ t) u h =
    let parts = and_parts (b == 35) (not (is_reserved_hash edition t)) h in
    let is : b ≡ 35 = eqb-true b 35 parts.0 in
    let l : b < 128 = omega (arith, is) in
    let v = tail_utf8 b t u l in
    let quote = next_same 34 t (omega arith) v in
    let hash = next_same 35 t (omega arith) v in
    let free : is_reserved_hash edition (chars t) ≡ false = rw (quote, hash) (is_no (is_reserved_hash edition t) parts.1) in
    let first : First edition (chars (b ∷ t)) (plain POUND) (chars t) = hash_first edition (chars t) (plain POUND) (chars t) b (chars (b ∷ t)) (chars_head b t u l) is (rw free (refl, refl)) in
    record {
      token = first;
      sign = token_kind edition (chars (b ∷ t)) (plain POUND) (chars t) first;
      no_string = λ e. true≢false (sym (ap (λ k. k == STRING) e));
      positive = omega arith;
      border = IsCharBoundary-at_seam (b ∷ t) (b ∷ []) t refl v;
      plain = or_second (is_plain_slash (b ∷ t)) (is_plain_hash edition (b ∷ t)) h;
    }
