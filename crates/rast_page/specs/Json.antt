-- Texts as JSON.
use Rattle.std.specs.Prelude.{ℕ, ◌/◌, ◌%◌, List, [], ◌∷◌, ◌++◌, ◌==◌, ◌||◌, nat_lt, if◌then◌else◌, codes, encode_utf8}
use Rattle.std.specs.List.{flat_map}
use Rattle.rast_common.specs.Quote.{hex_digit}

-- a character below 256 by its number, in four hexadecimal digits
abbrev pub number_escape : ℕ → List ℕ
number_escape c = codes "\\u00" ++ (hex_digit (c / 16) ∷ hex_digit (c % 16) ∷ [])

-- A character as it is written in a string: a quote and a backslash after a backslash; a line feed, a carriage return
-- and a tab as a letter after a backslash; any other ASCII control character, `<`, `>`, `&` and the two separators of
-- lines and paragraphs by their numbers; anything else unchanged.
abbrev pub json_escaped : ℕ → List ℕ
json_escaped c =
    if c == 34 then codes "\\\""
    else (if c == 92 then codes "\\\\"
    else (if c == 10 then codes "\\n"
    else (if c == 13 then codes "\\r"
    else (if c == 9 then codes "\\t"
    else (if nat_lt c 32 || (c == 127) || (c == 60) || (c == 62) || (c == 38) then number_escape c
    else (if c == 8232 then codes "\\u2028"
    else (if c == 8233 then codes "\\u2029"
    else encode_utf8 c)))))))

-- a text as a string
abbrev pub json_text : List ℕ → List ℕ
json_text cs = codes "\"" ++ (flat_map json_escaped cs ++ codes "\"")
