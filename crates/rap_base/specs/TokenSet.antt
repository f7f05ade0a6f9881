-- Sets of token kinds.
use Rattle.std.specs.Prelude.{ℕ, Bool}
use Rattle.rap_base.specs.Bits.{bit}
use Rattle.rap_base.specs.declared.token_set.TokenSet.{TokenSet}

-- whether a kind is in the set: its bit
unfoldable pub member : TokenSet → ℕ → Bool
member set kind = bit set.words kind
