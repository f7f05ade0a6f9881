-- How many units of an encoding a text counts.
use Rattle.std.specs.Prelude.{ℕ, List, if◌then◌else◌, nat_lt, encode_utf8, length, sum_by}
use Rattle.rast_document.specs.declared.encoding.Encoding.{Encoding}
use Rattle.rast_document.specs.declared.encoding.Encoding.TheVariants.{Utf8, Utf16, Utf32}

-- a character: its bytes; one unit up to U+FFFF and two past it; one
abbrev pub units_of_character : Encoding → ℕ → ℕ
units_of_character Utf8 c = length (encode_utf8 c)
units_of_character Utf16 c = if nat_lt c 0x1_0000 then 1 else 2
units_of_character Utf32 c = 1

abbrev pub characters_units : Encoding → List ℕ → ℕ
characters_units e cs = sum_by (units_of_character e) cs

-- The same by bytes: the first byte of a character counts all its units, a later one none; in UTF-8 each counts one.
abbrev pub units_of_byte : Encoding → ℕ → ℕ
units_of_byte Utf8 b = 1
units_of_byte Utf16 b = if nat_lt b 0x80 then 1 else if nat_lt b 0xc0 then 0 else if nat_lt b 0xf0 then 1 else 2
units_of_byte Utf32 b = if nat_lt b 0x80 then 1 else if nat_lt b 0xc0 then 0 else 1

abbrev pub units : Encoding → List ℕ → ℕ
units e s = sum_by (units_of_byte e) s
