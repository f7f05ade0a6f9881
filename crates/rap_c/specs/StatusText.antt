-- What each status means, in words.
use Rattle.std.specs.Prelude.{ℕ, List, [], ◌∷◌, codes, slice_index_or}

-- in the order of the numbers
abbrev pub status_texts : List (List ℕ)
status_texts =
    codes "ok" ∷
    codes "no tree, or several" ∷
    codes "no edition" ∷
    codes "no entry" ∷
    codes "no UTF-8" ∷
    codes "text too long" ∷
    codes "too many tokens" ∷
    codes "out of memory" ∷
    codes "no node that is parsed again alone" ∷
    codes "no brace at the beginning" ∷
    codes "no token's record" ∷
    codes "no steps of one tree over the text" ∷
    codes "no script source" ∷
    codes "no literal of the kind" ∷
    codes "no number of the radix, or too large" ∷
    []

-- the text of a status, and no text where the number is none's
abbrev pub status_text : ℕ → List ℕ
status_text status = slice_index_or status_texts status []
