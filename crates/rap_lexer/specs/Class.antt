-- Classes of characters.
use Rattle.std.specs.Prelude.{ℕ, Bool, ◌||◌, ◌&&◌, ◌==◌, not, nat_le, nat_lt}
use Rattle.std.specs.Char.{is_ascii_digit}
use Rattle.std.specs.Str.{byte}
use Rattle.unicode_ident.specs.Ident.{is_xid_start, is_xid_continue}
use Rattle.unicode.specs.Binary.{is_emoji}
use Rattle.rap_base.specs.Char.{is_rust_whitespace}
use Rattle.rap_lexer.specs.declared.lexer.run.Class.{Class}
use Rattle.rap_lexer.specs.declared.lexer.run.Class.TheVariants.{White, InLine, InString, InRawString, InBlock, IdentStart, IdentContinue, Emoji, InvalidContinue, Digit, Underscore, DigitOrUnderscore, HexOrUnderscore, Hash}

-- 0 to 9, a to f, A to F
abbrev pub is_hex_digit : ℕ → Bool
is_hex_digit c = is_ascii_digit c || (nat_le 0x61 c && nat_le c 0x66) || (nat_le 0x41 c && nat_le c 0x46)

-- the character is in the class
abbrev pub is_in : Class → ℕ → Bool
is_in White c = is_rust_whitespace c
is_in InLine c = not (c == 0xa)
is_in InString c = not ((c == byte "\"") || (c == byte "\\"))
is_in InRawString c = not (c == byte "\"")
is_in InBlock c = not ((c == byte "/") || (c == byte "*"))
is_in IdentStart c = (c == byte "_") || is_xid_start c
is_in IdentContinue c = is_xid_continue c
is_in Emoji c = nat_le 0x80 c && is_emoji c
is_in InvalidContinue c = is_xid_continue c || (nat_le 0x80 c && is_emoji c) || (c == 0x200d)
is_in Digit c = is_ascii_digit c
is_in Underscore c = c == byte "_"
is_in DigitOrUnderscore c = (c == byte "_") || is_ascii_digit c
is_in HexOrUnderscore c = (c == byte "_") || is_hex_digit c
is_in Hash c = c == byte "#"

-- the byte is an ASCII character of the class
abbrev pub is_ascii_in : Class → ℕ → Bool
is_ascii_in class b = nat_lt b 0x80 && is_in class b
