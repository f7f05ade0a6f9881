-- The messages of two lists in the order of the text.
use Rattle.std.specs.Prelude.{Bool, ℕ, List, [], ◌∷◌, ◌++◌, drop, nat_lt}
use Rattle.std.specs.List.{prefix_len, take_while}
use Rattle.rap_ranged.specs.RangedMessages.{RangedMessage}

-- a message is about a place before this byte
abbrev pub is_before : ℕ → RangedMessage → Bool
is_before at m = nat_lt m.at at

-- Before each message of the first list come those of the second that are about a place before its byte, as far as no
-- other stands between them; after the last one comes the rest of the second list. So of two messages about one byte
-- that of the first list comes first, and each list keeps its order.
abbrev pub merged : List RangedMessage → List RangedMessage → List RangedMessage
merged [] others = others
merged (m ∷ ms) others =
    take_while (is_before m.at) others ++ m ∷ merged ms (drop (prefix_len (is_before m.at) others) others)
