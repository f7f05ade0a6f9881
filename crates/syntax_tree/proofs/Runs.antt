-- What a builder holds along the steps of a tree.
use Rattle.std.proofs.Common.{◌≡◌, ℕ, ◌+◌, List, [], ◌∷◌, ◌++◌, ap, sym, ◌∙◌, append_assoc, append-nil, length, length-append, add-zero, arith}
use Rattle.rap_lexed.specs.StrForest.{StrForest, str_none, str_node, str_leaf, str_message, str_flat, str_joined}
use Rattle.rap_lexed.specs.StrSink.{Takes}
use Rattle.rap_lexed.specs.StrStep.{StrStepValue, str_enter, str_exit, str_token, str_error}
use Rattle.syntax_tree.specs.Building.{Frames, Building, Builds, outermost, within, after, building}
use Rattle.syntax_tree.specs.Ranged.{end_from, ranged}
use Rattle.syntax_tree.specs.RangedForest.{RangedForest, ranged_none, ranged_node, ranged_leaf}
use Rattle.syntax_tree.specs.declared.builder.Builder.{Builder}

-- after these steps
abbrev pub run : Building → List StrStepValue → Building
run b [] = b
run b (s ∷ ss) = run (after b s) ss

pub along : (steps : List StrStepValue) (s t : Builder) → Takes Builds s steps t → building t ≡ run (building s) steps
along [] s t h = ap building (sym h)
along (x ∷ xs) s t h = along xs h.0 t h.2 ∙ ap (λ b. run b xs) h.1.built

-- these frames, a forest in the newest, and the end of its last leaf
abbrev pub held : Frames → RangedForest → ℕ → Building
held frames f at = record { frames = frames; forest = f; at = at }

end_of-node : (at : ℕ) (xs ys : List ℕ) → (at + length xs) + length ys ≡ at + length (xs ++ ys)
end_of-node at xs ys = omega (arith, length-append xs ys)

-- the steps of a forest add it, with its places, to an empty forest
pub run-flat : (f : StrForest) (ss : List StrStepValue) (frames : Frames) (at : ℕ) → run (held frames ranged_none at) (str_flat f ++ ss) ≡ run (held frames (ranged at f) (end_from at f)) ss
run-flat str_none ss frames at = ap (λ n. run (held frames ranged_none n) ss) (sym (add-zero at))
run-flat (str_node before kind children) ss frames at =
    let regroup : str_flat (str_node before kind children) ++ ss ≡ str_flat before ++ (str_enter kind ∷ (str_flat children ++ (str_exit ∷ ss))) = simp append_assoc in
    let here : ℕ = end_from at before in
    ap (λ l. run (held frames ranged_none at) l) regroup
    ∙ run-flat before (str_enter kind ∷ (str_flat children ++ (str_exit ∷ ss))) frames at
    ∙ run-flat children (str_exit ∷ ss) (within frames (ranged at before) kind here) here
    ∙ ap (λ n. run (held frames (ranged_node (ranged at before) kind here (end_from here children) (ranged here children)) n) ss) (end_of-node at (str_joined before) (str_joined children))
run-flat (str_leaf before kind text) ss frames at =
    let here : ℕ = end_from at before in
    ap (λ l. run (held frames ranged_none at) l) (append_assoc (str_flat before) (str_token kind text ∷ []) ss)
    ∙ run-flat before (str_token kind text ∷ ss) frames at
    ∙ ap (λ n. run (held frames (ranged_leaf (ranged at before) kind here (here + length text)) n) ss) (end_of-node at (str_joined before) text)
run-flat (str_message before bytes pos) ss frames at =
    ap (λ l. run (held frames ranged_none at) l) (append_assoc (str_flat before) (str_error bytes pos ∷ []) ss)
    ∙ run-flat before (str_error bytes pos ∷ ss) frames at

-- what a builder holds that had nothing and has taken the steps of a forest
pub built : (f : StrForest) (s t : Builder) → building s ≡ held outermost ranged_none 0 → Takes Builds s (str_flat f) t → (building t).forest ≡ ranged 0 f
built f s t e h =
    ap (λ (b : Building). b.forest)
    (along (str_flat f) s t h
    ∙ ap (λ b. run b (str_flat f)) e
    ∙ ap (λ l. run (held outermost ranged_none 0) l) (sym (append-nil (str_flat f)))
    ∙ run-flat f [] outermost 0)
