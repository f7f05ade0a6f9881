-- The rules of an escape, where their parts are known by equations.
use Rattle.std.proofs.Common.{◌≡◌, ℕ, ◌+◌, ◌*◌, ◌<◌, ◌≤◌, List, [], ◌∷◌, Option, Some, None, Result, Ok, Err, sym, ◌≢◌, arith}
use Rattle.std.proofs.lemmas.Grind.{common_steps}
use Rattle.rap_lexer.specs.declared.escape.Mode.{Mode}
use Rattle.rap_lexer.specs.declared.escape.Fault.{Fault}
use Rattle.rap_lexer.specs.declared.escape.Fault.TheVariants.{OutOfRangeHexEscape, InvalidEscape}
use Rattle.rap_lexer.specs.Escape.{Escape, hex_limit, hex_escape, simple_escape}
use Rattle.rap_lexer.specs.Escape.Escape.{simple, unknown}
use Rattle.std.specs.Option.{ok_or}
use Rattle.std.specs.Char.{digit_value}
use Rattle.std.specs.Str.Parse.{digits_value}

pub at : {mode : Mode} {cs ds : List ℕ} {outcome given : Result ℕ Fault} {rest left : List ℕ} → Escape mode cs outcome rest → ds ≡ cs → given ≡ outcome → left ≡ rest → Escape mode ds given left
at r e f g = rw (e, f, g) r

value_of_two : (a b high low : ℕ) → digit_value a ≡ high → digit_value b ≡ low → digits_value 16 (a ∷ b ∷ []) ≡ high * 16 + low
value_of_two a b high low e f = rw (e, f) (omega arith)

within : (mode : Mode) (value : ℕ) → value ≤ hex_limit mode → Ok value ≡ hex_escape mode value
within mode value h = grind (arith, common_steps)

over : (mode : Mode) (value : ℕ) → hex_limit mode < value → Err OutOfRangeHexEscape ≡ hex_escape mode value
over mode value h = grind (arith, common_steps)

pub two_within : (mode : Mode) (a b high low : ℕ) → digit_value a ≡ high → digit_value b ≡ low → high * 16 + low ≤ hex_limit mode → Ok (high * 16 + low) ≡ hex_escape mode (digits_value 16 (a ∷ b ∷ []))
two_within mode a b high low e f h = rw (value_of_two a b high low e f) (within mode (high * 16 + low) h)

pub two_over : (mode : Mode) (a b high low : ℕ) → digit_value a ≡ high → digit_value b ≡ low → hex_limit mode < high * 16 + low → Err OutOfRangeHexEscape ≡ hex_escape mode (digits_value 16 (a ∷ b ∷ []))
two_over mode a b high low e f h = rw (value_of_two a b high low e f) (over mode (high * 16 + low) h)

-- after a character that begins no longer escape
pub one_character : (mode : Mode) (c : ℕ) (rest : List ℕ) (value : Option ℕ) → value ≡ simple_escape c → c ≢ 120 → c ≢ 117 → Escape mode (c ∷ rest) (ok_or value InvalidEscape) rest
one_character mode c rest None e no_x no_u = unknown c rest (sym e) no_x no_u
one_character mode c rest (Some value) e no_x no_u = simple c value rest (sym e)
