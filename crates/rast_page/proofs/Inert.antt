-- A page's data has no `<`.
use Rattle.std.proofs.Common.{◌≡◌, ◌≢◌, ℕ, zero, suc, ◌/◌, ◌%◌, ◌<◌, Bool, true, false, ◌||◌, ◌==◌, cond, List, [], ◌∷◌, ◌++◌, sym, ◌∙◌, length, get_or, refl, codes, chars, arith, append-nil}
use Rattle.std.proofs.lemmas.Bool.{eqb-false, or_parts, and_parts}
use Rattle.std.proofs.lemmas.List.{get_or_default}
use Rattle.std.proofs.lemmas.List.Elements.{All-append, All-cons, All-nil}
use Rattle.std.proofs.lemmas.Str.{inside_one}
use Rattle.std.specs.Fmt.{decimal, digits, digits_onto, digit_glyph}
use Rattle.std.specs.List.{flat_map, list_all}
use Rattle.std.specs.Prelude.{nat_lt, not, encode_utf8}
use Rattle.rap_base.specs.Names.{name_of}
use Rattle.rast_common.specs.Quote.{hex_digit}
use Rattle.rap_lexed.specs.LexedStr.{Token, Message, start_of}
use Rattle.rap_lexed.specs.StrStep.{StrStepValue, str_enter, str_exit, str_token, str_error}
use Rattle.rast_page.specs.Inert.{IsInert}
use Rattle.rast_page.specs.Json.{number_escape, json_escaped, json_text}
use Rattle.rast_page.specs.Page.{object}
use Rattle.rast_page.specs.Rows.{step_row, step_rows, message_row, step_message_row, message_rows, lexer_message_rows}

both : (xs ys : List ℕ) → IsInert xs → IsInert ys → IsInert (xs ++ ys)
both xs ys h k = record { all = All-append (λ b. b ≢ 60) xs ys h.all k.all }

one : (x : ℕ) (xs : List ℕ) → x ≢ 60 → IsInert xs → IsInert (x ∷ xs)
one x xs h k = record { all = All-cons (λ b. b ≢ 60) x xs h k.all }

none : IsInert []
none = record { all = All-nil (λ b. b ≢ 60) }

-- a literal text, by a test
written : (xs : List ℕ) → list_all (λ b. not (b == 60)) xs ≡ true → IsInert xs
written [] e = none
written (x ∷ xs) e = let p = and_parts (not (x == 60)) (list_all (λ b. not (b == 60)) xs) e in one x xs (λ is. other x is p.0) (written xs p.1)
  where
    other : (x : ℕ) → x ≡ 60 → not (x == 60) ≡ true → ⊥
    other x is e = cc

either : (b : Bool) (xs ys : List ℕ) → IsInert xs → (b ≡ false → IsInert ys) → IsInert (cond b xs ys)
either true xs ys h k = h
either false xs ys h k = k refl

hex : (n : ℕ) → hex_digit n ≢ 60
hex n = grind arith

glyph : (n : ℕ) → digit_glyph false n ≢ 60
glyph n = grind arith

-- the bytes of a character other than `<`
encoded : (c : ℕ) → c ≢ 60 → IsInert (encode_utf8 c)
encoded c other = record { all = reads }
  where
    reads : (k d : ℕ) → k < length (encode_utf8 c) → get_or (encode_utf8 c) k d ≢ 60
    reads k d below is =
        let read : get_or (encode_utf8 c) k 0 ≡ 60 = get_or_default (encode_utf8 c) k 0 d below ∙ is in
        other (inside_one c [] (encode_utf8 c) k (sym (append-nil (encode_utf8 c))) below (omega (arith, read)) ∙ read)

number : (c : ℕ) → IsInert (number_escape c)
number c = both (codes "\\u00") _ (written (codes "\\u00") refl) (one (hex_digit (c / 16)) _ (hex (c / 16)) (one (hex_digit (c % 16)) [] (hex (c % 16)) none))

escape : (c : ℕ) → IsInert (json_escaped c)
escape c =
    either (c == 34) _ _ (written (codes "\\\"") refl) (λ _.
    either (c == 92) _ _ (written (codes "\\\\") refl) (λ _.
    either (c == 10) _ _ (written (codes "\\n") refl) (λ _.
    either (c == 13) _ _ (written (codes "\\r") refl) (λ _.
    either (c == 9) _ _ (written (codes "\\t") refl) (λ _.
    either (nat_lt c 32 || (c == 127) || (c == 60) || (c == 62) || (c == 38)) _ _ (number c) (λ tests.
    either (c == 8232) _ _ (written (codes "\\u2028") refl) (λ _.
    either (c == 8233) _ _ (written (codes "\\u2029") refl) (λ _.
    encoded c (is_other tests)))))))))
  where
    is_other : (nat_lt c 32 || (c == 127) || (c == 60) || (c == 62) || (c == 38)) ≡ false → c ≢ 60
    is_other tests =
        let a = or_parts (nat_lt c 32 || (c == 127) || (c == 60) || (c == 62)) (c == 38) tests in
        let b = or_parts (nat_lt c 32 || (c == 127) || (c == 60)) (c == 62) a.0 in
        let d = or_parts (nat_lt c 32 || (c == 127)) (c == 60) b.0 in
        eqb-false c 60 d.1

escapes : (cs : List ℕ) → IsInert (flat_map json_escaped cs)
escapes [] = none
escapes (c ∷ cs) = both (json_escaped c) (flat_map json_escaped cs) (escape c) (escapes cs)

pub text_inert : (cs : List ℕ) → IsInert (json_text cs)
text_inert cs = one 34 _ (λ is. cc) (both (flat_map json_escaped cs) _ (escapes cs) (written (codes "\"") refl))

digits_before : (k n : ℕ) (acc : List ℕ) → IsInert acc → IsInert (digits_onto k 10 false n acc)
digits_before zero n acc h = h
digits_before (suc k) n acc h =
    let d = digit_glyph false (n % 10) in
    let more = one d acc (glyph (n % 10)) h in
    either (n / 10 == 0) (d ∷ acc) _ more (λ _. digits_before k (n / 10) (d ∷ acc) more)

numeral : (n : ℕ) → IsInert (decimal n)
unfolding digits
numeral n = digits_before 64 n [] none

message : (pos : ℕ) (bytes : List ℕ) → IsInert (message_row pos bytes)
message pos bytes =
    let said = both (codes ",") (json_text (chars bytes)) (written (codes ",") refl) (text_inert (chars bytes)) in
    both (codes ",") (decimal pos ++ (codes "," ++ json_text (chars bytes))) (written (codes ",") refl)
    (both (decimal pos) (codes "," ++ json_text (chars bytes)) (numeral pos) said)

begun : (name : List ℕ) → IsInert (codes ",1," ++ json_text name)
begun name = both (codes ",1,") (json_text name) (written (codes ",1,") refl) (text_inert name)

token : (name bytes : List ℕ) → IsInert (codes ",2," ++ (json_text name ++ (codes "," ++ json_text bytes)))
token name bytes =
    both (codes ",2,") (json_text name ++ (codes "," ++ json_text bytes)) (written (codes ",2,") refl)
    (both (json_text name) (codes "," ++ json_text bytes) (text_inert name)
    (both (codes ",") (json_text bytes) (written (codes ",") refl) (text_inert bytes)))

step : (x : StrStepValue) → IsInert (step_row x)
step (str_enter kind) = begun (chars (name_of kind))
step (str_token kind bytes) = token (chars (name_of kind)) (chars bytes)
step str_exit = written (codes ",0") refl
step (str_error bytes pos) = none

pub steps_inert : (xs : List StrStepValue) → IsInert (step_rows xs)
steps_inert [] = none
steps_inert (x ∷ xs) = both (step_row x) (step_rows xs) (step x) (steps_inert xs)

step_message : (x : StrStepValue) → IsInert (step_message_row x)
step_message (str_enter kind) = none
step_message (str_token kind bytes) = none
step_message str_exit = none
step_message (str_error bytes pos) = message pos bytes

step_messages : (xs : List StrStepValue) → IsInert (message_rows xs)
step_messages [] = none
step_messages (x ∷ xs) = both (step_message_row x) (message_rows xs) (step_message x) (step_messages xs)

lexer_messages : (tokens : List Token) (ms : List Message) → IsInert (lexer_message_rows tokens ms)
lexer_messages tokens [] = none
lexer_messages tokens (m ∷ ms) = both (message_row (start_of tokens m.token) m.text) (lexer_message_rows tokens ms) (message (start_of tokens m.token) m.text) (lexer_messages tokens ms)

pub messages_inert : (xs : List StrStepValue) (tokens : List Token) (ms : List Message) → IsInert (message_rows xs ++ lexer_message_rows tokens ms)
messages_inert xs tokens ms = both (message_rows xs) (lexer_message_rows tokens ms) (step_messages xs) (lexer_messages tokens ms)

pub object_inert : (name steps messages : List ℕ) → IsInert name → IsInert steps → IsInert messages → IsInert (object name steps messages)
object_inert name steps messages n s m =
    both (codes "{\"file\":" ++ name) _ (both (codes "{\"file\":") name (written (codes "{\"file\":") refl) n)
    (both (codes ",\"steps\":[0" ++ steps) _ (both (codes ",\"steps\":[0") steps (written (codes ",\"steps\":[0") refl) s)
    (both (codes "],\"messages\":[0" ++ messages) _ (both (codes "],\"messages\":[0") messages (written (codes "],\"messages\":[0") refl) m)
    (written (codes "]}") refl)))
