-- A number and a literal in quotes have one suffix, and a number one radix and one list of digits.
use Rattle.std.proofs.Common.{◌≡◌, ℕ, if◌then◌else◌, List, ◌++◌, nat_eq, refl, sym, ap, ◌∙◌, subst}
use Rattle.std.proofs.lemmas.List.{append_cancel_left, append_cancel_right}
use Rattle.rap_lexer.specs.Class.{is_in}
use Rattle.rap_lexer.specs.Run.{after_run}
use Rattle.rap_lexer.specs.declared.escape.Mode.{Mode}
use Rattle.rap_lexer.specs.declared.escape.Mode.TheVariants.{Char, Byte, Str, ByteStr, CStr}
use Rattle.rap_lexer.specs.declared.lexer.lexeme.Lexeme.{Lexeme}
use Rattle.rap_lexer.specs.declared.lexer.lexeme.Remark.TheVariants.{Nothing, Escapes}
use Rattle.rap_lexer.specs.declared.lexer.run.Class.TheVariants.{Hash}
use Rattle.rap_literals.proofs.Cuts.{token_once, quoted_once}
use Rattle.rap_literals.specs.Cut.{IsForm, IsQuoted, kind_of}
use Rattle.rap_literals.specs.Number.{prefix_of, after_digits, IntegerLiteral, FloatLiteral}
use Rattle.rap_literals.specs.Suffix.{HasSuffix}
use Rattle.rap_literals.specs.declared.cut.Form.{Form}
use Rattle.rap_literals.specs.declared.cut.Form.TheVariants.{Escaped, Raw}
use Rattle.rap_literals.specs.declared.digits.Radix.{Radix}

-- ---- numbers

same_parts : (a b c d : List ℕ) → a ++ b ≡ c ++ d → b ≡ d → (a ≡ c) × (b ≡ d)
same_parts a b c d e f = (append_cancel_right a c b (e ∙ ap (λ l. c ++ l) (sym f)), f)

pub integer_once : (text : List ℕ) (r s : Radix) (a b c d : List ℕ) → IntegerLiteral text r a b → IntegerLiteral text s c d → (r ≡ s) × (a ≡ c) × (b ≡ d)
integer_once text r s a b c d h k =
    let base : r ≡ s = h.base ∙ sym k.base in
    let split : prefix_of s ++ (a ++ b) ≡ prefix_of s ++ (c ++ d) = ap (λ q. prefix_of q ++ (a ++ b)) (sym base) ∙ (sym h.split ∙ k.split) in
    let joined : a ++ b ≡ c ++ d = append_cancel_left (prefix_of s) (a ++ b) (c ++ d) split in
    let rest : b ≡ d = h.rest ∙ (ap (λ q. after_digits q (a ++ b)) base ∙ (ap (after_digits s) joined ∙ sym k.rest)) in
    let parts = same_parts a b c d joined rest in
    (base, parts.0, parts.1)

pub float_once : (text a b c d : List ℕ) → FloatLiteral text a b → FloatLiteral text c d → (a ≡ c) × (b ≡ d)
float_once text a b c d h k = same_parts a b c d (sym h.split ∙ k.split) (h.rest ∙ sym k.rest)

-- ---- literals in quotes

abbrev mode_of : ℕ → Mode
mode_of kind =
    if nat_eq kind 143 then Char
    else (if nat_eq kind 144 then Byte
    else (if nat_eq kind 145 then Str
    else (if nat_eq kind 146 then ByteStr
    else CStr)))

mode_back : (mode : Mode) → mode_of (kind_of mode) ≡ mode
mode_back Char = refl
mode_back Byte = refl
mode_back Str = refl
mode_back ByteStr = refl
mode_back CStr = refl

mode_once : (m n : Mode) (a b : Lexeme) (f g : Form) → a ≡ b → IsForm f m a → IsForm g n b → m ≡ n
mode_once m n a b Escaped Escaped e h k = let same : Escapes m ≡ Escapes n = sym h ∙ (ap (λ (t : Lexeme). t.remark) e ∙ k) in cc
mode_once m n a b Escaped Raw e h k = let same : Escapes m ≡ Nothing = sym h ∙ (ap (λ (t : Lexeme). t.remark) e ∙ k.0) in cc
mode_once m n a b Raw Escaped e h k = let same : Nothing ≡ Escapes n = sym h.0 ∙ (ap (λ (t : Lexeme). t.remark) e ∙ k) in cc
mode_once m n a b Raw Raw e h k =
    let same : kind_of m ≡ kind_of n = sym h.1 ∙ (ap (λ (t : Lexeme). t.kind) e ∙ k.1) in
    sym (mode_back m) ∙ (ap mode_of same ∙ mode_back n)

pub suffix_once : (text a b : List ℕ) → HasSuffix text a → HasSuffix text b → a ≡ b
suffix_once text a b h k =
    let token = token_once text h.quoted.token k.quoted.token h.quoted.whole k.quoted.whole in
    let mode = mode_once h.mode k.mode h.quoted.token k.quoted.token h.form k.form token h.quoted.written k.quoted.written in
    let same = quoted_once k.mode text h.form k.form h.body k.body h.after k.after (subst (λ (m : Mode). IsQuoted m text h.form h.body h.after) mode h.quoted) k.quoted in
    h.rest ∙ (ap (after_run (is_in Hash)) same.2 ∙ sym k.rest)
