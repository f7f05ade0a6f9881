-- Texts in quotes.
use Rattle.std.specs.Prelude.{ℕ, ◌+◌, ◌/◌, ◌%◌, List, [], ◌∷◌, ◌++◌, ◌==◌, ◌||◌, nat_lt, if◌then◌else◌, codes, encode_utf8}
use Rattle.std.specs.List.{flat_map}

-- a hexadecimal digit, in lower case
abbrev pub hex_digit : ℕ → ℕ
hex_digit n = if nat_lt n 10 then 48 + n else 87 + n

-- the hexadecimal digits of a number below 256, without a leading zero
abbrev pub hex_digits : ℕ → List ℕ
hex_digits n = if nat_lt n 16 then hex_digit n ∷ [] else (hex_digit (n / 16) ∷ hex_digit (n % 16) ∷ [])

-- A character as it is written between quotes: a quote and a backslash after a backslash; a line feed, a carriage
-- return, a tab and a zero as a letter after a backslash; any other ASCII control character by its number;
-- anything else unchanged.
abbrev pub escaped : ℕ → List ℕ
escaped c =
    if c == 34 then codes "\\\""
    else (if c == 92 then codes "\\\\"
    else (if c == 10 then codes "\\n"
    else (if c == 13 then codes "\\r"
    else (if c == 9 then codes "\\t"
    else (if c == 0 then codes "\\0"
    else (if nat_lt c 32 || (c == 127) then codes "\\u{" ++ (hex_digits c ++ codes "}")
    else encode_utf8 c))))))

-- a text in quotes
abbrev pub quoted : List ℕ → List ℕ
quoted cs = codes "\"" ++ (flat_map escaped cs ++ codes "\"")
