-- Positions and ranges in JSON.
use Rattle.std.specs.Prelude.{ℕ, List, ◌++◌, Option, Some, None, codes, option_and_then}
use Rattle.std.specs.Fmt.{decimal}
use Rattle.serde_json.specs.Data.{Data}
use Rattle.serde_json.specs.Find.{as_number, as_u64, get}
use Rattle.rast_document.specs.declared.position.Position.{Position}
use Rattle.rast_document.specs.declared.position.Span.{Span}

-- the text of a position, and of a range
unfoldable pub position_text : Position → List ℕ
position_text p = codes "{\"line\":" ++ (decimal p.line ++ (codes ",\"character\":" ++ (decimal p.character ++ codes "}")))

unfoldable pub range_text : Position → Position → List ℕ
range_text p q = codes "{\"start\":" ++ (position_text p ++ (codes ",\"end\":" ++ (position_text q ++ codes "}")))

-- the number of a member
abbrev pub count_in : List ℕ → Data → Option ℕ
count_in name d = option_and_then as_u64 (option_and_then as_number (get name d))

abbrev pub position_of_counts : Option ℕ → Option ℕ → Option Position
position_of_counts None c = None
position_of_counts (Some l) None = None
position_of_counts (Some l) (Some c) = Some record { line = l; character = c }

-- the position that an object says
abbrev pub position_in : Data → Option Position
position_in d = position_of_counts (count_in (codes "line") d) (count_in (codes "character") d)

abbrev pub span_of_positions : Option Position → Option Position → Option Span
span_of_positions None q = None
span_of_positions (Some p) None = None
span_of_positions (Some p) (Some q) = Some record { start = p; end = q }

-- the range that an object says
abbrev pub span_in : Data → Option Span
span_in d = span_of_positions (option_and_then position_in (get (codes "start") d)) (option_and_then position_in (get (codes "end") d))
