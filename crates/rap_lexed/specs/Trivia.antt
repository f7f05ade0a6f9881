-- Trivia put back into a forest.
use Rattle.std.specs.Prelude.{◌≡◌, ℕ, zero, suc, ◌+◌, ◌≤◌, Bool, not, List, [], ◌∷◌, take, drop, count_by, if◌then◌else◌}
use Rattle.std.specs.List.{prefix_len, take_while}
use Rattle.rap_base.specs.TokenTests.{is_trivia}
use Rattle.rap_events.specs.Forest.{Forest, none, node, leaf, message, split}
use Rattle.rap_lexed.specs.Attached.{attached_tail, before_tail}
use Rattle.rap_lexed.specs.FloatParts.{float_in, float_out}
use Rattle.rap_lexed.specs.Input.{ends_with_dot}
use Rattle.rap_lexed.specs.LexedStr.{Token, joined, start_of}
use Rattle.rap_lexed.specs.StrForest.{StrForest, str_none, str_node, str_leaf, with_leaves, with_message}

-- white space or a comment
abbrev pub is_trivial : Token → Bool
is_trivial t = is_trivia t.kind

-- no trivia
abbrev pub is_significant : Token → Bool
is_significant t = not (is_trivial t)

-- how many tokens are no trivia
abbrev pub significant : List Token → ℕ
significant ts = count_by is_significant ts

-- the tokens up to the last of so many that are no trivia, and the trivia after it
abbrev pub front_of : ℕ → List Token → List Token
front_of zero [] = []
front_of (suc n) [] = []
front_of zero (t ∷ ts) = if is_trivial t then t ∷ front_of zero ts else []
front_of (suc n) (t ∷ ts) = t ∷ (if is_trivial t then front_of (suc n) ts else front_of n ts)

-- the trivia that stand at a place
abbrev pub trivia_at : List Token → ℕ → List Token
trivia_at ts at = take_while is_trivial (drop at ts)

-- the place after them
abbrev pub past_trivia : List Token → ℕ → ℕ
past_trivia ts at = at + prefix_len is_trivial (drop at ts)

-- the text of so many tokens from a place on
abbrev pub text_of : List Token → ℕ → ℕ → List ℕ
text_of ts at width = joined (take width (drop at ts))

-- The place after the last token of a forest that begins at a place. A leaf stands for so many tokens, and a float that
-- is taken apart for one. The trivia of a gap stand around the beginning of the node, or right before the leaf or the
-- float, that comes next.
abbrev pub end_of : List Token → ℕ → Forest → ℕ
end_of ts at none = at
end_of ts at (node before kind children) = end_of ts (past_trivia ts (end_of ts at before)) children
end_of ts at (leaf before kind width) = past_trivia ts (end_of ts at before) + width
end_of ts at (message before bytes) = end_of ts at before
end_of ts at (split before ends_in_dot) = past_trivia ts (end_of ts at before) + 1

-- the text of the float after a forest that begins at a place
abbrev pub float_text : List Token → ℕ → Forest → List ℕ
float_text ts at before = text_of ts (past_trivia ts (end_of ts at before)) 1

-- a node over these children, and after it what stands there of a float at their end
abbrev pub after_node : List Token → ℕ → Forest → StrForest → StrForest
after_node ts at none f = f
after_node ts at (node before kind children) f = f
after_node ts at (leaf before kind width) f = f
after_node ts at (message before bytes) f = f
after_node ts at (split before ends_in_dot) f = float_out ends_in_dot (float_text ts at before) f

-- The forest over the tokens from a place on, after one that stands there already: trivia are leaves before the node,
-- the leaf or the float that comes next, but for the attached tail of a node, which stands at its beginning; a leaf has
-- the text of its tokens, a float is taken apart, and a message stands where the first token begins that does not stand
-- before it.
abbrev pub placed : List Token → ℕ → StrForest → Forest → StrForest
placed ts at start none = start
placed ts at start (node before kind children) =
    after_node ts (past_trivia ts (end_of ts at before)) children
    (str_node (with_leaves (placed ts at start before) (before_tail kind (trivia_at ts (end_of ts at before)))) kind
    (placed ts (past_trivia ts (end_of ts at before))
    (with_leaves str_none (attached_tail kind (trivia_at ts (end_of ts at before)))) children))
placed ts at start (leaf before kind width) =
    str_leaf (with_leaves (placed ts at start before) (trivia_at ts (end_of ts at before))) kind
    (text_of ts (past_trivia ts (end_of ts at before)) width)
placed ts at start (message before bytes) =
    with_message (placed ts at start before) bytes (start_of ts (end_of ts at before))
placed ts at start (split before ends_in_dot) =
    float_in ends_in_dot (float_text ts at before) (start_of ts (past_trivia ts (end_of ts at before)))
    (with_leaves (placed ts at start before) (trivia_at ts (end_of ts at before)))

-- One tree over the whole text: trivia at the beginning stand inside the root, and so do those at its end.
abbrev pub with_trivia : List Token → Forest → StrForest
with_trivia ts none = str_none
with_trivia ts (node before kind children) =
    str_node str_none kind (with_leaves (placed ts 0 str_none children) (trivia_at ts (end_of ts 0 children)))
with_trivia ts (leaf before kind width) = str_none
with_trivia ts (message before bytes) = str_none
with_trivia ts (split before ends_in_dot) = str_none

-- Each leaf of a forest that begins at a place stands for tokens that touch: none of them is trivia. Each float that is
-- taken apart ends in a dot exactly if its text does.
abbrev pub LeavesTouch : List Token → ℕ → Forest → Type 0
LeavesTouch ts at none = Unit {0}
LeavesTouch ts at (node before kind children) =
    LeavesTouch ts at before × LeavesTouch ts (past_trivia ts (end_of ts at before)) children
LeavesTouch ts at (leaf before kind width) =
    LeavesTouch ts at before × (width ≤ prefix_len is_significant (drop (past_trivia ts (end_of ts at before)) ts))
LeavesTouch ts at (message before bytes) = LeavesTouch ts at before
LeavesTouch ts at (split before ends_in_dot) =
    LeavesTouch ts at before × (1 ≤ prefix_len is_significant (drop (past_trivia ts (end_of ts at before)) ts)) ×
    (ends_with_dot (float_text ts at before) ≡ ends_in_dot)

-- the same of each leaf of one tree over the whole text
abbrev pub TreeTouches : List Token → Forest → Type 0
TreeTouches ts none = Unit {0}
TreeTouches ts (node before kind children) = LeavesTouch ts 0 children
TreeTouches ts (leaf before kind width) = Unit {0}
TreeTouches ts (message before bytes) = Unit {0}
TreeTouches ts (split before ends_in_dot) = Unit {0}
