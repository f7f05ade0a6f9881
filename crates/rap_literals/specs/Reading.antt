-- The digits of an integer as they are read one by one.
use Rattle.std.specs.Prelude.{ℕ, ◌+◌, ◌*◌, ◌^◌, ◌&&◌, ◌==◌, nat_lt, List, [], ◌∷◌, if◌then◌else◌, Option, Some, None}
use Rattle.std.specs.Char.{digit_value}
use Rattle.std.specs.Option.{option_and_then}
use Rattle.std.specs.Str.{byte}

-- a `_` changes nothing, and a digit of the radix makes a number that has to be less than 2^128
abbrev pub with_digit : ℕ → ℕ → ℕ → Option ℕ
with_digit radix n c =
    if c == byte "_" then Some n
    else (if nat_lt (digit_value c) radix && nat_lt (n * radix + digit_value c) (2 ^ 128)
    then Some (n * radix + digit_value c) else None)

-- as many as there are
abbrev pub with_digits : ℕ → ℕ → List ℕ → Option ℕ
with_digits radix n [] = Some n
with_digits radix n (c ∷ cs) = option_and_then (λ m. with_digits radix m cs) (with_digit radix n c)
