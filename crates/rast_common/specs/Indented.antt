-- Indentation.
use Rattle.std.specs.Prelude.{ℕ, zero, suc, List, [], ◌++◌, codes}

-- two spaces for each level
abbrev pub indent : ℕ → List ℕ
indent zero = []
indent (suc levels) = codes "  " ++ indent levels
