-- Whether the last token of a row is no `}`.
use Rattle.std.specs.Prelude.{ℕ, Bool, true, false, ◌&&◌, ◌==◌, not}
use Rattle.rap_base.specs.TokenKind.{R_CURLY}
use Rattle.rap_grammar_table.proofs.Hints.{Table}
use Rattle.rap_grammar_table.specs.Known.{every_one}
use Rattle.rap_grammar_table.specs.Table.{Piece, tok, word, comp, cat, Items, nil, begin, close, piece, choice, repeat, turns_of, group, folds, folding, way, unless}

abbrev pub is_no_brace : ℕ → Bool
is_no_brace kind = not (kind == R_CURLY)

abbrev pub piece_ends : Table → Piece → Bool
piece_ends t (tok kinds words) = every_one is_no_brace kinds
piece_ends t (word k) = is_no_brace k
piece_ends t (comp k) = is_no_brace k
piece_ends t (cat c) = t.unbraced c

-- What is left of a row ends so, where it is told whether what stands before does; or each of some turns that are put
-- around a node.
abbrev pub ends_in : Table → Bool → Bool → Items → Bool
ends_in t w b nil = b
ends_in t w b (begin a) = ends_in t false b a
ends_in t w b (close k a) = ends_in t false b a
ends_in t w b (piece p a) = ends_in t false (piece_ends t p) a
ends_in t w b (choice x y a) = ends_in t false (ends_in t false b x && ends_in t false b y) a
ends_in t w b (group x a) = ends_in t false (ends_in t false b x) a
ends_in t w b (repeat x z a) = ends_in t false (ends_in t false (b && ends_in t false false x) z) a
ends_in t w b (turns_of x z) = ends_in t false (b && ends_in t false false x) z
ends_in t w b (folds n ws a) = ends_in t false (b && ends_in t true true ws) a
ends_in t w b (folding n ws) = b && ends_in t true true ws
ends_in t true b (way js x m ws) = ends_in t false false x && ends_in t true b ws
ends_in t false b (way js x m ws) = ends_in t false b ws
ends_in t w b (unless h v a) = ends_in t false b a

abbrev pub ends_plain : Table → Items → Bool
ends_plain t a = ends_in t false false a

-- where it is asked for
abbrev pub if_asked : Bool → Bool → Bool
if_asked true b = b
if_asked false b = true
