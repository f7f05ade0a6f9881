-- The names of items and of functions.
-- In the Rust crate: `grammar/items.rs`.
use Rattle.std.specs.Prelude.{ℕ, Bool, ◌||◌, [], ◌∷◌}
use Rattle.rap_base.specs.TokenKind.{L_PAREN}
use Rattle.rap_grammar_scripts.specs.First.{one_of}
use Rattle.rap_grammar_scripts.specs.Recovery.{is_item_recovery}

-- the search for a function's name
abbrev pub is_item_paren_recovery : ℕ → Bool
is_item_paren_recovery kind = is_item_recovery kind || one_of (L_PAREN ∷ []) kind
