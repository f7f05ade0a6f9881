-- Where the messages of a tree stand.
use Rattle.std.specs.Prelude.{◌≡◌, ℕ}
use Rattle.rap_lexed.specs.StrForest.{StrForest, str_none, str_node, str_leaf, str_message}
use Rattle.rap_ranged.specs.Ranged.{end_from}

-- each message stands at the end of the leaves before it, which begin at a place
abbrev pub AreSeated : ℕ → StrForest → Type 0
AreSeated at str_none = Unit {0}
AreSeated at (str_node before kind children) = AreSeated at before × AreSeated (end_from at before) children
AreSeated at (str_leaf before kind text) = AreSeated at before
AreSeated at (str_message before bytes pos) = AreSeated at before × (pos ≡ end_from at before)
