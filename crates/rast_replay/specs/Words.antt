-- What the program reports about a fault.
use Rattle.std.specs.Prelude.{List, ℕ, codes}

-- what is reported when out of memory
abbrev pub no_memory : List ℕ
no_memory = codes "rast_replay: no memory\n"

-- what is reported when the output refuses a write
abbrev pub cannot_write : List ℕ
cannot_write = codes "rast_replay: cannot write\n"
