-- Why a row is refused, in few words. A scratch file that imports the constructors by name states
-- `cause_of (reads_row t (t.follows c) s vs row) ≡ none_there` under `unfolding scripts`, and proves it by `refl`: the
-- check shows the cause in the place of `none_there`, and so the `steps_of` that lead there in the place of `[]`.
use Rattle.std.proofs.Common.{Bool, List, [], ◌∷◌, ◌++◌}
use Rattle.rap_grammar_scripts.specs.Script.{Outcome}
use Rattle.rap_grammar_scripts.specs.Test.{Test}
use Rattle.rap_grammar_table.proofs.Built.{Built}
use Rattle.rap_grammar_table.proofs.Refusal.{Word, Refusal, stopped, left_over, unequal, ends_as, goes_on_as, too_deep, where_so, in_turn, after_turns, in_part, Verdict, accepted, refused}
use Rattle.rap_grammar_table.specs.Table.{Piece, Items, nil, begin, close, piece, choice, repeat, turns_of, group, folds, folding, way, unless}

-- the pieces that a row may have next
abbrev pub next_pieces : Items → List Piece
next_pieces nil = []
next_pieces (begin is) = next_pieces is
next_pieces (close k is) = next_pieces is
next_pieces (piece p is) = p ∷ []
next_pieces (choice a b is) = next_pieces a ++ next_pieces b ++ next_pieces is
next_pieces (repeat a z is) = next_pieces a ++ next_pieces z ++ next_pieces is
next_pieces (turns_of a z) = next_pieces a ++ next_pieces z
next_pieces (group a is) = next_pieces a ++ next_pieces is
next_pieces (folds n ws is) = next_pieces ws ++ next_pieces is
next_pieces (folding n ws) = next_pieces ws
next_pieces (way i a j ws) = next_pieces a ++ next_pieces ws
next_pieces (unless h w is) = next_pieces is

-- The script has this word next, and the row may have these pieces. These are left of the row. The row has built this
-- and the script that. The script ends so, or its turn goes on so. The row nests too deep.
pub data Cause : Type 0 where
  none_there : Cause
  next_word : Word → List Piece → Cause
  left_there : List Piece → Cause
  unlike : Built → Built → Cause
  ends : Outcome → Cause
  goes_on : Outcome → Cause
  nests : Cause

-- a test with its answer, a turn with its flags, what stands after the turns, and a part
pub data Step : Type 0 where
  answer : Bool → Test → Step
  turn : Bool → Bool → Step
  last : Bool → Bool → Step
  part : Step

abbrev pub cause : Refusal → Cause
cause (stopped w is) = next_word w (next_pieces is)
cause (left_over is) = left_there (next_pieces is)
cause (unequal a xs b ys) = unlike a b
cause (ends_as v) = ends v
cause (goes_on_as v) = goes_on v
cause too_deep = nests
cause (where_so h b r) = cause r
cause (in_turn a b r) = cause r
cause (after_turns a b r) = cause r
cause (in_part r) = cause r

abbrev pub steps : Refusal → List Step
steps (stopped w is) = []
steps (left_over is) = []
steps (unequal a xs b ys) = []
steps (ends_as v) = []
steps (goes_on_as v) = []
steps too_deep = []
steps (where_so h b r) = answer b h ∷ steps r
steps (in_turn a b r) = turn a b ∷ steps r
steps (after_turns a b r) = last a b ∷ steps r
steps (in_part r) = part ∷ steps r

abbrev pub cause_of : Verdict → Cause
cause_of accepted = none_there
cause_of (refused r) = cause r

abbrev pub steps_of : Verdict → List Step
steps_of accepted = []
steps_of (refused r) = steps r
