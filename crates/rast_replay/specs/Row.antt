-- Rows: texts with what is printed of them.
use Rattle.std.specs.Prelude.{◌≡◌, ℕ, ◌-◌, ◌^◌, List, [], ◌++◌, false, codes, chars}
use Rattle.std.specs.Fmt.{digits, format_spec, padded_integral}
use Rattle.rap_base.specs.Edition.{year_text}
use Rattle.rap_base.specs.declared.edition.Edition.{Edition}
use Rattle.rast_common.specs.Quote.{quoted}
use Rattle.rast_replay.specs.Way.{name_of_way, IsHash}
use Rattle.rast_replay.specs.declared.way.Way.{Way}

-- a hash in sixteen hexadecimal digits, in lower case
abbrev pub sixteen_digits : ℕ → List ℕ
sixteen_digits hash = padded_integral (format_spec 32 0 4 16 (2 ^ 64 - 1)) false [] (digits 16 false hash)

-- the line of a text that is read with this edition and in this way, with the hash of what is printed of it
abbrev pub row_line : List ℕ → List ℕ → ℕ → List ℕ → List ℕ
row_line year name hash text = year ++ (codes " " ++ (name ++ (codes " " ++ (sixteen_digits hash ++ (codes " " ++ quoted (chars text))))))

-- The line is that of a text, with the hash of the lines that its way gives: those of its one tree and its messages, or
-- those that are listed of it.
pub record IsRow (line : List ℕ) : Type 0 where
  pub edition : Edition
  pub way : Way
  pub text : List ℕ
  pub hash : ℕ
  pub is_hash : IsHash text edition way hash
  pub is : line ≡ row_line (year_text edition) (name_of_way way) hash text
