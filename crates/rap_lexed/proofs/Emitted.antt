-- What remains to be handed out, and that it is the steps of the tree over the text.
use Rattle.std.specs.Prelude.{codes, if◌then◌else◌}
use Rattle.std.specs.List.{before_first, after_first}
use Rattle.rap_base.specs.TokenKind.{DOT, ERROR, FLOAT_NUMBER, INT_NUMBER}
use Rattle.rap_base.specs.NodeKind.{NAME_REF}
use Rattle.std.proofs.Common.{◌≡◌, refl, sym, ◌∙◌, ap, List, [], ◌∷◌, ◌++◌, ℕ, ◌+◌, Bool, true, false, append_assoc, append-nil}
use Rattle.rap_events.specs.StepValue.{StepValue, enter, exit, token, float_split, error}
use Rattle.rap_events.specs.Forest.{Forest, none, node, leaf, message, split, flat, split_ends, exit_of, one_tree}
use Rattle.rap_events.proofs.Trees.{Tree, nothing, a_node, a_leaf, a_message, dotted, apart}
use Rattle.rap_lexed.specs.declared.shortcuts.builder.State.{State}
use Rattle.rap_lexed.specs.declared.shortcuts.builder.State.TheVariants.{PendingEnter, Normal, PendingExit}
use Rattle.rap_lexed.specs.LexedStr.{Token, start_of}
use Rattle.rap_lexed.specs.StrStep.{StrStepValue, str_enter, str_exit, str_token, str_error}
use Rattle.rap_lexed.specs.StrForest.{StrForest, str_none, str_node, str_leaf, str_message, str_flat, with_leaves, with_message}
use Rattle.rap_lexed.specs.Attached.{attached_tail, before_tail}
use Rattle.rap_lexed.specs.Trivia.{trivia_at, past_trivia, text_of, end_of, float_text, placed, with_trivia}
use Rattle.rap_lexed.specs.FloatParts.{is_dot, has_dot, without_dot, illegal, with_number}
use Rattle.rap_lexed.proofs.Joined.{tree_end, after_node-plain}
use Rattle.rap_lexed.specs.Builder.{held, leaves_of, before_next, enter_steps, number_steps, dotted_steps, illegal_steps, float_steps, made_of, state_after, place_after, CanMake}

-- what remains to be handed out before the steps that are left, from a place on
abbrev pub emitted : List Token → State → ℕ → List StepValue → List StrStepValue
emitted ts state at [] = leaves_of (trivia_at ts at) ++ held state
emitted ts state at (x ∷ xs) = made_of ts state at x ++ emitted ts (state_after state x) (place_after ts state at x) xs

-- the place where they end, past the trivia
abbrev pub ending : List Token → State → ℕ → List StepValue → ℕ
ending ts state at [] = past_trivia ts at
ending ts state at (x ∷ xs) = ending ts (state_after state x) (place_after ts state at x) xs

-- all of them can be handed out
abbrev pub Fits : List Token → State → ℕ → List StepValue → Type 0
Fits ts state at [] = Unit {0}
Fits ts state at (x ∷ xs) = CanMake ts at x × Fits ts (state_after state x) (place_after ts state at x) xs

-- the state once a forest was handed out: the end of a last node waits
abbrev pub state_of : StrForest → State
state_of str_none = Normal
state_of (str_node before kind children) = PendingExit
state_of (str_leaf before kind text) = Normal
state_of (str_message before bytes pos) = Normal

-- what was handed out then
abbrev open_flat : StrForest → List StrStepValue
open_flat str_none = []
open_flat (str_node before kind children) = str_flat before ++ str_enter kind ∷ str_flat children
open_flat (str_leaf before kind text) = str_flat before ++ str_token kind text ∷ []
open_flat (str_message before bytes pos) = str_flat before ++ str_error bytes pos ∷ []

open_flat-held : (g : StrForest) → open_flat g ++ held (state_of g) ≡ str_flat g
open_flat-held str_none = refl
open_flat-held (str_node before kind children) = append_assoc (str_flat before) (str_enter kind ∷ str_flat children) (str_exit ∷ [])
open_flat-held (str_leaf before kind text) = append-nil (str_flat before ++ str_token kind text ∷ [])
open_flat-held (str_message before bytes pos) = append-nil (str_flat before ++ str_error bytes pos ∷ [])

open_flat-with_message : (g : StrForest) (bytes : List ℕ) (pos : ℕ) → open_flat (with_message g bytes pos) ≡ open_flat g ++ str_error bytes pos ∷ []
open_flat-with_message str_none bytes pos = refl
open_flat-with_message (str_node before kind children) bytes pos = sym (append_assoc (str_flat before) (str_enter kind ∷ str_flat children) (str_error bytes pos ∷ []))
open_flat-with_message (str_leaf before kind text) bytes pos = refl
open_flat-with_message (str_message before m p) bytes pos = refl

pub state_of-with_message : (g : StrForest) (bytes : List ℕ) (pos : ℕ) → state_of (with_message g bytes pos) ≡ state_of g
state_of-with_message str_none bytes pos = refl
state_of-with_message (str_node before kind children) bytes pos = refl
state_of-with_message (str_leaf before kind text) bytes pos = refl
state_of-with_message (str_message before m p) bytes pos = refl

str_flat-with_leaves : (ts : List Token) (g : StrForest) → str_flat (with_leaves g ts) ≡ str_flat g ++ leaves_of ts
str_flat-with_leaves [] g = sym (append-nil (str_flat g))
str_flat-with_leaves (t ∷ ts) g = str_flat-with_leaves ts (str_leaf g t.kind t.text) ∙ append_assoc (str_flat g) (str_token t.kind t.text ∷ []) (leaves_of ts)

-- past the root's beginning a node begins after what waits, between the trivia
pub made-next : (ts : List Token) (state : State) (at kind : ℕ) → (state ≡ PendingEnter → ⊥) → made_of ts state at (enter kind) ≡ enter_steps ts state at kind
made-next ts PendingEnter at kind h = absurd (h refl)
made-next ts Normal at kind h = refl
made-next ts PendingExit at kind h = refl

pub place-next : (ts : List Token) (state : State) (at kind : ℕ) → (state ≡ PendingEnter → ⊥) → place_after ts state at (enter kind) ≡ past_trivia ts at
place-next ts PendingEnter at kind h = absurd (h refl)
place-next ts Normal at kind h = refl
place-next ts PendingExit at kind h = refl

-- so it does after a forest
made-enter : (ts : List Token) (g : StrForest) (at kind : ℕ) → made_of ts (state_of g) at (enter kind) ≡ enter_steps ts (state_of g) at kind
made-enter ts str_none at kind = refl
made-enter ts (str_node before k children) at kind = refl
made-enter ts (str_leaf before k text) at kind = refl
made-enter ts (str_message before m p) at kind = refl

pub place-enter : (ts : List Token) (g : StrForest) (at kind : ℕ) → place_after ts (state_of g) at (enter kind) ≡ past_trivia ts at
place-enter ts str_none at kind = refl
place-enter ts (str_node before k children) at kind = refl
place-enter ts (str_leaf before k text) at kind = refl
place-enter ts (str_message before m p) at kind = refl

-- leaves alone
state_of-with_leaves : (ls : List Token) (g : StrForest) → state_of g ≡ Normal → state_of (with_leaves g ls) ≡ Normal
state_of-with_leaves [] g h = h
state_of-with_leaves (t ∷ ls) g h = state_of-with_leaves ls (str_leaf g t.kind t.text) refl

open_flat-leaves : (ls : List Token) → open_flat (with_leaves str_none ls) ≡ leaves_of ls
open_flat-leaves ls =
    let g : StrForest = with_leaves str_none ls in
    sym (append-nil (open_flat g))
    ∙ ap (λ s. open_flat g ++ held s) (sym (state_of-with_leaves ls str_none refl))
    ∙ open_flat-held g
    ∙ str_flat-with_leaves ls str_none

-- after a forest: what waits, a node's beginning with the trivia around it, and more steps
around : (first waiting before tail rest : List StrStepValue) (kind : ℕ) → first ++ ((waiting ++ (before ++ str_enter kind ∷ tail)) ++ rest) ≡ (((first ++ waiting) ++ before) ++ str_enter kind ∷ []) ++ (tail ++ rest)
around first waiting before tail rest kind = simp append_assoc

enter-steps : (ts : List Token) (at : ℕ) (g : StrForest) (kind : ℕ) (rest : List StrStepValue) →
    open_flat g ++ (enter_steps ts (state_of g) at kind ++ rest)
    ≡ (str_flat (with_leaves g (before_tail kind (trivia_at ts at))) ++ str_enter kind ∷ []) ++ (leaves_of (attached_tail kind (trivia_at ts at)) ++ rest)
enter-steps ts at g kind rest =
    let before : List Token = before_tail kind (trivia_at ts at) in
    let tail : List StrStepValue = leaves_of (attached_tail kind (trivia_at ts at)) in
    around (open_flat g) (held (state_of g)) (leaves_of before) tail rest kind
    ∙ ap (λ l. (l ++ str_enter kind ∷ []) ++ (tail ++ rest)) (ap (λ l. l ++ leaves_of before) (open_flat-held g) ∙ sym (str_flat-with_leaves before g))

-- after a forest: what waits, the trivia, and more steps
next-steps : (ts : List Token) (at : ℕ) (g : StrForest) (ys rest : List StrStepValue) → open_flat g ++ ((before_next ts (state_of g) at ++ ys) ++ rest) ≡ (str_flat (with_leaves g (trivia_at ts at)) ++ ys) ++ rest
next-steps ts at g ys rest =
    let ls : List StrStepValue = leaves_of (trivia_at ts at) in
    let all : open_flat g ++ (held (state_of g) ++ ls) ≡ str_flat (with_leaves g (trivia_at ts at)) =
    sym (append_assoc (open_flat g) (held (state_of g)) ls) ∙ ap (λ l. l ++ ls) (open_flat-held g) ∙ sym (str_flat-with_leaves (trivia_at ts at) g) in
    sym (append_assoc (open_flat g) ((held (state_of g) ++ ls) ++ ys) rest)
    ∙ ap (λ l. l ++ rest) (sym (append_assoc (open_flat g) (held (state_of g) ++ ls) ys) ∙ ap (λ l. l ++ ys) all)

-- a node, after what stands before it: its children, and what waits of them
node-steps : (before : List StrStepValue) (kind : ℕ) (g : StrForest) (rest : List StrStepValue) → (before ++ str_enter kind ∷ []) ++ (open_flat g ++ (held (state_of g) ++ rest)) ≡ (before ++ str_enter kind ∷ str_flat g) ++ rest
node-steps before kind g rest =
    append_assoc before (str_enter kind ∷ []) (open_flat g ++ (held (state_of g) ++ rest))
    ∙ ap (λ l. before ++ str_enter kind ∷ l) (sym (append_assoc (open_flat g) (held (state_of g)) rest) ∙ ap (λ l. l ++ rest) (open_flat-held g))
    ∙ sym (append_assoc before (str_enter kind ∷ str_flat g) rest)

-- the steps of a node over children without a float at their end
pub flat-node : (b : Forest) (k : ℕ) (x : Forest) (xs : List StepValue) → split_ends x ≡ 0 → flat (node b k x) ++ xs ≡ flat b ++ (enter k ∷ (flat x ++ (exit ∷ xs)))
flat-node b k x xs h =
    ap (λ n. (flat b ++ (enter k ∷ (flat x ++ exit_of n))) ++ xs) h
    ∙ append_assoc (flat b) (enter k ∷ (flat x ++ exit ∷ [])) xs
    ∙ ap (λ l. flat b ++ (enter k ∷ l)) (append_assoc (flat x) (exit ∷ []) xs)

pub flat-dotted : (b : Forest) (k : ℕ) (y : Forest) (xs : List StepValue) → flat (node b k (split y true)) ++ xs ≡ flat b ++ (enter k ∷ (flat y ++ (float_split true ∷ xs)))
flat-dotted b k y xs = simp append_assoc

pub flat-half : (c : Forest) (j : ℕ) (y : Forest) (xs : List StepValue) → flat (node c j (split y false)) ++ xs ≡ flat c ++ (enter j ∷ (flat y ++ (float_split false ∷ xs)))
flat-half c j y xs = simp append_assoc

pub flat-apart : (b : Forest) (k : ℕ) (c : Forest) (j : ℕ) (y : Forest) (xs : List StepValue) →
    flat (node b k (node c j (split y false))) ++ xs ≡ flat b ++ (enter k ∷ (flat c ++ (enter j ∷ (flat y ++ (float_split false ∷ xs)))))
flat-apart b k c j y xs = simp append_assoc

-- the parts of a float in their nodes
dotted-steps : (F G : List StrStepValue) (k : ℕ) (number : List ℕ) (rest : List StrStepValue) →
    (F ++ str_enter k ∷ []) ++ ((G ++ dotted_steps number) ++ rest)
    ≡ ((F ++ str_enter k ∷ ((G ++ str_enter NAME_REF ∷ (([] ++ str_token INT_NUMBER number ∷ []) ++ str_exit ∷ [])) ++ str_exit ∷ [])) ++ str_token DOT (codes ".") ∷ []) ++ rest
dotted-steps F G k number rest = simp append_assoc

apart-steps : (v : Bool) (j : ℕ) (f g : StrForest) (text left right : List ℕ) (pos : ℕ) (rest : List StrStepValue) →
    (str_flat f ++ str_enter j ∷ []) ++ ((str_flat g ++ (if v then dotted_steps left ++ number_steps right else illegal_steps text pos)) ++ rest)
    ≡ str_flat (
    if v then with_number (str_leaf (str_node f j (if v then with_number g left else str_node (str_message g illegal pos) ERROR (str_leaf str_none FLOAT_NUMBER text))) DOT (codes ".")) right
    else str_node f j (if v then with_number g left else str_node (str_message g illegal pos) ERROR (str_leaf str_none FLOAT_NUMBER text))
    ) ++ rest
apart-steps true j f g text left right pos rest = simp append_assoc
apart-steps false j f g text left right pos rest = simp append_assoc

open-node : (F S : List StrStepValue) (k : ℕ) (rest : List StrStepValue) → (F ++ str_enter k ∷ []) ++ (S ++ rest) ≡ (F ++ str_enter k ∷ S) ++ rest
open-node F S k rest = simp append_assoc

module _ (ts : List Token) where
  -- a node begins
  begun : (at : ℕ) (start : StrForest) (b : Forest) (k : ℕ) (more : List StepValue) →
      open_flat (placed ts at start b) ++ emitted ts (state_of (placed ts at start b)) (end_of ts at b) (enter k ∷ more)
      ≡ (str_flat (with_leaves (placed ts at start b) (before_tail k (trivia_at ts (end_of ts at b)))) ++ str_enter k ∷ [])
      ++ (open_flat (with_leaves str_none (attached_tail k (trivia_at ts (end_of ts at b))))
      ++ emitted ts (state_of (with_leaves str_none (attached_tail k (trivia_at ts (end_of ts at b))))) (past_trivia ts (end_of ts at b)) more)
  begun at start b k more =
      let g : StrForest = placed ts at start b in
      let e : ℕ = end_of ts at b in
      let p : ℕ = past_trivia ts e in
      let ls : List Token = attached_tail k (trivia_at ts e) in
      ap (λ l. open_flat g ++ (l ++ emitted ts Normal (place_after ts (state_of g) e (enter k)) more)) (made-enter ts g e k)
      ∙ ap (λ q. open_flat g ++ (enter_steps ts (state_of g) e k ++ emitted ts Normal q more)) (place-enter ts g e k)
      ∙ enter-steps ts e g k (emitted ts Normal p more)
      ∙ ap (λ l. (str_flat (with_leaves g (before_tail k (trivia_at ts e))) ++ str_enter k ∷ []) ++ l)
      (ap (λ l. l ++ emitted ts Normal p more) (sym (open_flat-leaves ls))
      ∙ ap (λ s. open_flat (with_leaves str_none ls) ++ emitted ts s p more) (sym (state_of-with_leaves ls str_none refl)))

  -- a forest's steps are handed out but for the end of a last node
  pub emitted-flat : (at : ℕ) (start : StrForest) (f : Forest) (xs : List StepValue) → Tree f →
      open_flat start ++ emitted ts (state_of start) at (flat f ++ xs) ≡ open_flat (placed ts at start f) ++ emitted ts (state_of (placed ts at start f)) (end_of ts at f) xs
  emitted-flat at start none xs nothing = refl
  emitted-flat at start (split b d) xs t = elim t [ ]
  emitted-flat at start (node b k x) xs (a_node t u h) =
      let e : ℕ = end_of ts at b in
      let inside : ℕ = past_trivia ts e in
      let prefix : StrForest = with_leaves (placed ts at start b) (before_tail k (trivia_at ts e)) in
      let tail : StrForest = with_leaves str_none (attached_tail k (trivia_at ts e)) in
      let g : StrForest = placed ts inside tail x in
      ap (λ l. open_flat start ++ emitted ts (state_of start) at l) (flat-node b k x xs h)
      ∙ emitted-flat at start b (enter k ∷ (flat x ++ (exit ∷ xs))) t
      ∙ begun at start b k (flat x ++ (exit ∷ xs))
      ∙ ap (λ l. (str_flat prefix ++ str_enter k ∷ []) ++ l) (emitted-flat inside tail x (exit ∷ xs) u)
      ∙ node-steps (str_flat prefix) k g (emitted ts PendingExit (end_of ts inside x) xs)
      ∙ ap (λ w. open_flat w ++ emitted ts (state_of w) (end_of ts inside x) xs) (sym (after_node-plain ts inside x (str_node prefix k g) h))
  emitted-flat at start (node b k (split y true)) xs (dotted t u) =
      let e : ℕ = end_of ts at b in
      let inside : ℕ = past_trivia ts e in
      let prefix : StrForest = with_leaves (placed ts at start b) (before_tail k (trivia_at ts e)) in
      let tail : StrForest = with_leaves str_none (attached_tail k (trivia_at ts e)) in
      let g : StrForest = placed ts inside tail y in
      let d : ℕ = end_of ts inside y in
      let text : List ℕ = float_text ts inside y in
      let rest : List StrStepValue = emitted ts Normal (past_trivia ts d + 1) xs in
      ap (λ l. open_flat start ++ emitted ts (state_of start) at l) (flat-dotted b k y xs)
      ∙ emitted-flat at start b (enter k ∷ (flat y ++ (float_split true ∷ xs))) t
      ∙ begun at start b k (flat y ++ (float_split true ∷ xs))
      ∙ ap (λ l. (str_flat prefix ++ str_enter k ∷ []) ++ l) (emitted-flat inside tail y (float_split true ∷ xs) u ∙ next-steps ts d g (dotted_steps (without_dot text)) rest)
      ∙ dotted-steps (str_flat prefix) (str_flat (with_leaves g (trivia_at ts d))) k (without_dot text) rest
  emitted-flat at start (node b k (node c j (split y false))) xs (apart t u v) =
      let e : ℕ = end_of ts at b in
      let inside : ℕ = past_trivia ts e in
      let prefix : StrForest = with_leaves (placed ts at start b) (before_tail k (trivia_at ts e)) in
      let tail : StrForest = with_leaves str_none (attached_tail k (trivia_at ts e)) in
      let e2 : ℕ = end_of ts inside c in
      let inside2 : ℕ = past_trivia ts e2 in
      let prefix2 : StrForest = with_leaves (placed ts inside tail c) (before_tail j (trivia_at ts e2)) in
      let tail2 : StrForest = with_leaves str_none (attached_tail j (trivia_at ts e2)) in
      let g : StrForest = placed ts inside2 tail2 y in
      let d : ℕ = end_of ts inside2 y in
      let text : List ℕ = float_text ts inside2 y in
      let pos : ℕ = start_of ts (past_trivia ts d) in
      let rest : List StrStepValue = emitted ts PendingExit (past_trivia ts d + 1) xs in
      ap (λ l. open_flat start ++ emitted ts (state_of start) at l) (flat-apart b k c j y xs)
      ∙ emitted-flat at start b (enter k ∷ (flat c ++ (enter j ∷ (flat y ++ (float_split false ∷ xs))))) t
      ∙ begun at start b k (flat c ++ (enter j ∷ (flat y ++ (float_split false ∷ xs))))
      ∙ ap (λ l. (str_flat prefix ++ str_enter k ∷ []) ++ l)
      (emitted-flat inside tail c (enter j ∷ (flat y ++ (float_split false ∷ xs))) u
      ∙ begun inside tail c j (flat y ++ (float_split false ∷ xs))
      ∙ ap (λ l. (str_flat prefix2 ++ str_enter j ∷ []) ++ l) (emitted-flat inside2 tail2 y (float_split false ∷ xs) v ∙ next-steps ts d g (float_steps false text pos) rest)
      ∙ apart-steps (has_dot text) j prefix2 (with_leaves g (trivia_at ts d)) text (before_first is_dot text) (after_first is_dot text) pos rest)
      ∙ open-node (str_flat prefix) (str_flat (placed ts inside tail (node c j (split y false)))) k rest
  emitted-flat at start (leaf b k w) xs (a_leaf t) =
      let e : ℕ = end_of ts at b in
      ap (λ l. open_flat start ++ emitted ts (state_of start) at l) (append_assoc (flat b) (token k w ∷ []) xs)
      ∙ emitted-flat at start b (token k w ∷ xs) t
      ∙ next-steps ts e (placed ts at start b) (str_token k (text_of ts (past_trivia ts e) w) ∷ []) (emitted ts Normal (past_trivia ts e + w) xs)
  emitted-flat at start (message b m) xs (a_message t) =
      let g : StrForest = placed ts at start b in
      let e : ℕ = end_of ts at b in
      let pos : ℕ = start_of ts e in
      ap (λ l. open_flat start ++ emitted ts (state_of start) at l) (append_assoc (flat b) (error m ∷ []) xs)
      ∙ emitted-flat at start b (error m ∷ xs) t
      ∙ sym (append_assoc (open_flat g) (str_error m pos ∷ []) (emitted ts (state_of g) e xs))
      ∙ ap (λ l. l ++ emitted ts (state_of g) e xs) (sym (open_flat-with_message g m pos))
      ∙ ap (λ s. open_flat (with_message g m pos) ++ emitted ts s e xs) (sym (state_of-with_message g m pos))

  -- a node that a float at its end ends, with the node around it
  emitted-half : (at : ℕ) (c : Forest) (j : ℕ) (y : Forest) (xs : List StepValue) → Tree c → Tree y →
      emitted ts Normal at (flat (node c j (split y false)) ++ xs) ≡ str_flat (placed ts at str_none (node c j (split y false))) ++ emitted ts PendingExit (end_of ts at (node c j (split y false))) xs
  emitted-half at c j y xs u v =
      let e : ℕ = end_of ts at c in
      let inside : ℕ = past_trivia ts e in
      let prefix : StrForest = with_leaves (placed ts at str_none c) (before_tail j (trivia_at ts e)) in
      let tail : StrForest = with_leaves str_none (attached_tail j (trivia_at ts e)) in
      let g : StrForest = placed ts inside tail y in
      let d : ℕ = end_of ts inside y in
      let text : List ℕ = float_text ts inside y in
      let pos : ℕ = start_of ts (past_trivia ts d) in
      let rest : List StrStepValue = emitted ts PendingExit (past_trivia ts d + 1) xs in
      ap (emitted ts Normal at) (flat-half c j y xs)
      ∙ emitted-flat at str_none c (enter j ∷ (flat y ++ (float_split false ∷ xs))) u
      ∙ begun at str_none c j (flat y ++ (float_split false ∷ xs))
      ∙ ap (λ l. (str_flat prefix ++ str_enter j ∷ []) ++ l) (emitted-flat inside tail y (float_split false ∷ xs) v ∙ next-steps ts d g (float_steps false text pos) rest)
      ∙ apart-steps (has_dot text) j prefix (with_leaves g (trivia_at ts d)) text (before_first is_dot text) (after_first is_dot text) pos rest

  -- what is left at the root's end
  rooted : (e : ℕ) (k : ℕ) (g : StrForest) → str_enter k ∷ (open_flat g ++ (held (state_of g) ++ (leaves_of (trivia_at ts e) ++ str_exit ∷ []))) ≡ str_flat (str_node str_none k (with_leaves g (trivia_at ts e)))
  rooted e k g =
      ap (λ l. str_enter k ∷ l)
      (sym (append_assoc (open_flat g) (held (state_of g)) (leaves_of (trivia_at ts e) ++ str_exit ∷ []))
      ∙ ap (λ l. l ++ (leaves_of (trivia_at ts e) ++ str_exit ∷ [])) (open_flat-held g)
      ∙ sym (append_assoc (str_flat g) (leaves_of (trivia_at ts e)) (str_exit ∷ []))
      ∙ ap (λ l. l ++ str_exit ∷ []) (sym (str_flat-with_leaves (trivia_at ts e) g)))

  -- one tree's steps are handed out
  pub emitted-tree : (f : Forest) → one_tree f ≡ true → Tree f → emitted ts PendingEnter 0 (flat f) ≡ str_flat (with_trivia ts f)
  emitted-tree (node none k x) h (a_node t u z) =
      ap (λ n. str_enter k ∷ emitted ts Normal 0 (flat x ++ exit_of n)) z
      ∙ ap (λ l. str_enter k ∷ l) (emitted-flat 0 str_none x (exit ∷ []) u)
      ∙ rooted (end_of ts 0 x) k (placed ts 0 str_none x)
  emitted-tree (node none k (split y true)) h (dotted t u) = absurd cc
  emitted-tree (node none k (node c j (split y false))) h (apart t u v) =
      let x : Forest = node c j (split y false) in
      let g : StrForest = placed ts 0 str_none x in
      let ls : List StrStepValue = leaves_of (trivia_at ts (end_of ts 0 x)) in
      ap (λ l. str_enter k ∷ l)
      (emitted-half 0 c j y [] u v
      ∙ sym (append_assoc (str_flat g) ls (str_exit ∷ []))
      ∙ ap (λ l. l ++ str_exit ∷ []) (sym (str_flat-with_leaves (trivia_at ts (end_of ts 0 x)) g)))
  emitted-tree (node (node f l y) k x) h t = absurd cc
  emitted-tree (node (leaf f l w) k x) h t = absurd cc
  emitted-tree (node (message f m) k x) h t = absurd cc
  emitted-tree (node (split f d) k x) h t = absurd cc
  emitted-tree none h t = absurd cc
  emitted-tree (leaf b k w) h t = absurd cc
  emitted-tree (message b m) h t = absurd cc
  emitted-tree (split b d) h t = elim t [ ]

  -- they end where the forest ends
  ending-flat : (at : ℕ) (start : StrForest) (f : Forest) (xs : List StepValue) → Tree f → ending ts (state_of start) at (flat f ++ xs) ≡ ending ts (state_of (placed ts at start f)) (end_of ts at f) xs
  ending-flat at start none xs nothing = refl
  ending-flat at start (split b d) xs t = elim t [ ]
  ending-flat at start (node b k x) xs (a_node t u h) =
      let e : ℕ = end_of ts at b in
      let inside : ℕ = past_trivia ts e in
      let prefix : StrForest = with_leaves (placed ts at start b) (before_tail k (trivia_at ts e)) in
      let tail : StrForest = with_leaves str_none (attached_tail k (trivia_at ts e)) in
      ap (ending ts (state_of start) at) (flat-node b k x xs h)
      ∙ ending-flat at start b (enter k ∷ (flat x ++ (exit ∷ xs))) t
      ∙ ap (λ p. ending ts Normal p (flat x ++ (exit ∷ xs))) (place-enter ts (placed ts at start b) e k)
      ∙ ending-flat inside str_none x (exit ∷ xs) u
      ∙ ap (λ w. ending ts (state_of w) (end_of ts inside x) xs) (sym (after_node-plain ts inside x (str_node prefix k (placed ts inside tail x)) h))
  ending-flat at start (node b k (split y true)) xs (dotted t u) =
      let e : ℕ = end_of ts at b in
      let inside : ℕ = past_trivia ts e in
      ap (ending ts (state_of start) at) (flat-dotted b k y xs)
      ∙ ending-flat at start b (enter k ∷ (flat y ++ (float_split true ∷ xs))) t
      ∙ ap (λ p. ending ts Normal p (flat y ++ (float_split true ∷ xs))) (place-enter ts (placed ts at start b) e k)
      ∙ ending-flat inside str_none y (float_split true ∷ xs) u
  ending-flat at start (node b k (node c j (split y false))) xs (apart t u v) =
      let e : ℕ = end_of ts at b in
      let inside : ℕ = past_trivia ts e in
      let e2 : ℕ = end_of ts inside c in
      let inside2 : ℕ = past_trivia ts e2 in
      ap (ending ts (state_of start) at) (flat-apart b k c j y xs)
      ∙ ending-flat at start b (enter k ∷ (flat c ++ (enter j ∷ (flat y ++ (float_split false ∷ xs))))) t
      ∙ ap (λ p. ending ts Normal p (flat c ++ (enter j ∷ (flat y ++ (float_split false ∷ xs))))) (place-enter ts (placed ts at start b) e k)
      ∙ ending-flat inside str_none c (enter j ∷ (flat y ++ (float_split false ∷ xs))) u
      ∙ ap (λ p. ending ts Normal p (flat y ++ (float_split false ∷ xs))) (place-enter ts (placed ts inside str_none c) e2 j)
      ∙ ending-flat inside2 str_none y (float_split false ∷ xs) v
  ending-flat at start (leaf b k w) xs (a_leaf t) =
      ap (ending ts (state_of start) at) (append_assoc (flat b) (token k w ∷ []) xs)
      ∙ ending-flat at start b (token k w ∷ xs) t
  ending-flat at start (message b m) xs (a_message t) =
      let g : StrForest = placed ts at start b in
      let e : ℕ = end_of ts at b in
      ap (ending ts (state_of start) at) (append_assoc (flat b) (error m ∷ []) xs)
      ∙ ending-flat at start b (error m ∷ xs) t
      ∙ ap (λ s. ending ts s e xs) (sym (state_of-with_message g m (start_of ts e)))

  pub ending-tree : (f : Forest) → one_tree f ≡ true → Tree f → ending ts PendingEnter 0 (flat f) ≡ tree_end ts f
  ending-tree (node none k x) h (a_node t u z) =
      ap (λ n. ending ts Normal 0 (flat x ++ exit_of n)) z ∙ ending-flat 0 str_none x (exit ∷ []) u
  ending-tree (node none k (split y true)) h (dotted t u) = absurd cc
  ending-tree (node none k (node c j (split y false))) h (apart t u v) =
      let e : ℕ = end_of ts 0 c in
      ap (ending ts Normal 0) (flat-half c j y [])
      ∙ ending-flat 0 str_none c (enter j ∷ (flat y ++ (float_split false ∷ []))) u
      ∙ ap (λ p. ending ts Normal p (flat y ++ (float_split false ∷ []))) (place-enter ts (placed ts 0 str_none c) e j)
      ∙ ending-flat (past_trivia ts e) str_none y (float_split false ∷ []) v
  ending-tree (node (node f l y) k x) h t = absurd cc
  ending-tree (node (leaf f l w) k x) h t = absurd cc
  ending-tree (node (message f m) k x) h t = absurd cc
  ending-tree (node (split f d) k x) h t = absurd cc
  ending-tree none h t = absurd cc
  ending-tree (leaf b k w) h t = absurd cc
  ending-tree (message b m) h t = absurd cc
  ending-tree (split b d) h t = elim t [ ]
