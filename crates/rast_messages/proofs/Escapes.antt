-- Bytes between the quotes of a JSON string.
use Rattle.std.proofs.Common.{◌≡◌, ◌≢◌, ℕ, ◌+◌, ◌-◌, ◌/◌, ◌%◌, ◌<◌, ◌≤◌, Bool, true, false, cond, nat_lt, List, [], ◌∷◌, ◌++◌, IsCharBoundary, IsUtf8, length, get_or, drop, take, slice_range, refl, ap, sym, ◌∙◌, append_assoc, arith}
use Rattle.std.proofs.lemmas.Bool.{le-ltb, ne_eqb}
use Rattle.std.proofs.lemmas.List.{drop_more, get_or-drop, length-append, length-drop, take_more}
use Rattle.std.proofs.lemmas.Str.{IsCharBoundary-after_ascii, IsCharBoundary-start}
use Rattle.std.specs.Char.{digit_char}
use Rattle.json.specs.Print.{escape, escape_byte, escape_letter}

-- a byte that stands for itself
pub plain_byte : (x : ℕ) → x ≢ 34 → x ≢ 92 → 32 ≤ x → escape_byte x ≡ x ∷ []
unfolding escape_byte
plain_byte x q b l =
    rw (
      ne_eqb x 34 q,
      ne_eqb x 92 b,
      ne_eqb x 8 (λ e. omega arith),
      ne_eqb x 12 (λ e. omega arith),
      ne_eqb x 10 (λ e. omega arith),
      ne_eqb x 13 (λ e. omega arith),
      ne_eqb x 9 (λ e. omega arith),
      le-ltb x 32 l,
    )

-- what is escaped of a text from a byte on
pub escape_more : (text : List ℕ) (at : ℕ) → at < length text → escape (drop at text) ≡ escape_byte (get_or text at 0) ++ escape (drop (at + 1) text)
escape_more text at h = ap escape (drop_more text at 0 h)

-- a byte that stands for itself is one more of those that are not yet written
pub plain_more : (text : List ℕ) (from at : ℕ) → from ≤ at → at < length text → escape_byte (get_or text at 0) ≡ get_or text at 0 ∷ []
    → slice_range text from (at + 1) ++ escape (drop (at + 1) text) ≡ slice_range text from at ++ escape (drop at text)
plain_more text from at le h plain =
    let n : (at + 1) - from ≡ (at - from) + 1 = omega arith in
    let low : at - from < length (drop from text) = omega (arith, length-drop from text) in
    let place : from + (at - from) ≡ at = omega arith in
    let more : slice_range text from (at + 1) ≡ slice_range text from at ++ get_or text at 0 ∷ [] =
    ap (λ k. take k (drop from text)) n ∙ take_more (drop from text) (at - from) 0 low
    ∙ ap (λ x. take (at - from) (drop from text) ++ x ∷ []) (get_or-drop from text (at - from) 0 ∙ ap (λ k. get_or text k 0) place) in
    ap (λ l. l ++ escape (drop (at + 1) text)) more
    ∙ append_assoc (slice_range text from at) (get_or text at 0 ∷ []) (escape (drop (at + 1) text))
    ∙ ap (λ l. slice_range text from at ++ l) (ap (λ l. l ++ escape (drop (at + 1) text)) (sym plain) ∙ sym (escape_more text at h))

-- Of a text that is added to a start, all bytes before a place are escaped and written, and those from there on up to
-- another one stand for themselves.
pub record IsEscapedTo (json start text : List ℕ) (from at : ℕ) : Type 0 where
  pub written : json ++ (slice_range text from at ++ escape (drop at text)) ≡ start ++ escape text
  pub order : from ≤ at
  pub border : IsCharBoundary text from

pub none_escaped : (start text : List ℕ) → IsUtf8 text → IsEscapedTo start start text 0 0
none_escaped start text u = record { written = refl; order = omega arith; border = IsCharBoundary-start text u }

pub plain_passed : (json start text : List ℕ) (from at : ℕ) → IsEscapedTo json start text from at → at < length text
    → escape_byte (get_or text at 0) ≡ get_or text at 0 ∷ [] → IsEscapedTo json start text from (at + 1)
plain_passed json start text from at h low plain = record {
  written = ap (λ l. json ++ l) (plain_more text from at h.order low plain) ∙ h.written;
  order = omega (arith, h.order);
  border = h.border;
}

pub escape_written : (json more start text : List ℕ) (from at : ℕ) → IsEscapedTo json start text from at → IsUtf8 text → at < length text → get_or text at 0 < 128
    → more ≡ (json ++ slice_range text from at) ++ escape_byte (get_or text at 0) → IsEscapedTo more start text (at + 1) (at + 1)
escape_written json more start text from at h u low ascii e =
    let none : (at + 1) - (at + 1) ≡ 0 = omega arith in
    let front : List ℕ = slice_range text from at in
    let byte : List ℕ = escape_byte (get_or text at 0) in
    let rest : List ℕ = escape (drop (at + 1) text) in
    record {
      written =
          ap (λ k. more ++ (take k (drop (at + 1) text) ++ rest)) none
          ∙ ap (λ l. l ++ rest) e
          ∙ append_assoc (json ++ front) byte rest
          ∙ append_assoc json front (byte ++ rest)
          ∙ ap (λ l. json ++ (front ++ l)) (sym (escape_more text at low))
          ∙ h.written;
      order = omega arith;
      border = IsCharBoundary-after_ascii text at u low ascii;
    }

-- a byte takes at least one
one_of : (a b : Bool) (l h k x : ℕ) → 1 ≤ length (cond a (92 ∷ l ∷ []) (cond b (92 ∷ 117 ∷ 48 ∷ 48 ∷ h ∷ k ∷ []) (x ∷ [])))
one_of true b l h k x = omega arith
one_of false true l h k x = omega arith
one_of false false l h k x = omega arith

byte_longer : (x : ℕ) → 1 ≤ length (escape_byte x)
unfolding escape_byte
byte_longer x = one_of (nat_lt 0 (escape_letter x)) (nat_lt x 32) (escape_letter x) (digit_char (x / 16)) (digit_char (x % 16)) x

-- a text takes no fewer bytes than it has
pub escape_longer : (text : List ℕ) → length text ≤ length (escape text)
escape_longer [] = omega arith
escape_longer (x ∷ xs) = omega (arith, escape_longer xs, byte_longer x, length-append (escape_byte x) (escape xs))

-- what is taken from a byte on
pub len_more : (text : List ℕ) (at : ℕ) → at < length text
    → length (escape (drop at text)) ≡ length (escape_byte (get_or text at 0)) + length (escape (drop (at + 1) text))
len_more text at h = ap length (escape_more text at h) ∙ length-append (escape_byte (get_or text at 0)) (escape (drop (at + 1) text))
