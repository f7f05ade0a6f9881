-- Reading a list of steps back into the forest that it shows, and forests as lists of steps.
-- (What calls promise one another, but for what docs/ARCHITECTURE.md lists as to be believed.)
use Rattle.std.specs.Prelude.{◌≡◌, ℕ, zero, suc, List, [], ◌∷◌, ◌++◌, Bool, true, false, refl}
use Rattle.std.specs.Coded.{Coded, code_by, coded×, coded_ℕ, coded_list}
use Rattle.std.proofs.Common.{◌∙◌, ap, sym, append_assoc, append-nil}
use Rattle.rap_events.specs.StepValue.{StepValue, enter, exit, token, float_split, error}
use Rattle.rap_events.specs.Forest.{Forest, none, node, leaf, message, split, ◌⧺◌, ended_by}

-- nodes that have begun and not ended, the newest on top, each with its kind and the forest before it
pub data Begun : Type 0 where
  nothing : Begun
  inside : Begun → Forest → ℕ → Begun

-- the forest that steps make after this one, inside these nodes, each node having an end of its own
abbrev pub read : List StepValue → Begun → Forest → Forest
read [] begun f = f
read (enter kind ∷ ss) begun f = read ss (inside begun f kind) none
read (exit ∷ ss) nothing f = read ss nothing f
read (exit ∷ ss) (inside begun before kind) f = read ss begun (node before kind f)
read (token kind width ∷ ss) begun f = read ss begun (leaf f kind width)
read (float_split ends_in_dot ∷ ss) begun f = read ss begun (split f ends_in_dot)
read (error bytes ∷ ss) begun f = read ss begun (message f bytes)

abbrev pub exits : ℕ → List StepValue
exits zero = []
exits (suc n) = exit ∷ exits n

-- the steps, and after a float's the ends that it stands for
abbrev pub with_ends : List StepValue → List StepValue
with_ends [] = []
with_ends (enter kind ∷ ss) = enter kind ∷ with_ends ss
with_ends (exit ∷ ss) = exit ∷ with_ends ss
with_ends (token kind width ∷ ss) = token kind width ∷ with_ends ss
with_ends (float_split ends_in_dot ∷ ss) = float_split ends_in_dot ∷ (exits (ended_by ends_in_dot) ++ with_ends ss)
with_ends (error bytes ∷ ss) = error bytes ∷ with_ends ss

-- the forest that the steps make
abbrev pub forest_of : List StepValue → Forest
forest_of ss = read (with_ends ss) nothing none

-- the steps of a forest, with an end for each node
abbrev pub all_steps : Forest → List StepValue
all_steps none = []
all_steps (node before kind children) = all_steps before ++ enter kind ∷ (all_steps children ++ exit ∷ [])
all_steps (leaf before kind width) = all_steps before ++ token kind width ∷ []
all_steps (message before bytes) = all_steps before ++ error bytes ∷ []
all_steps (split before ends_in_dot) = all_steps before ++ float_split ends_in_dot ∷ []

none-⧺ : (f : Forest) → none ⧺ f ≡ f
none-⧺ none = refl
none-⧺ (node before kind children) = ap (λ (f : Forest). node f kind children) (none-⧺ before)
none-⧺ (leaf before kind width) = ap (λ (f : Forest). leaf f kind width) (none-⧺ before)
none-⧺ (message before bytes) = ap (λ (f : Forest). message f bytes) (none-⧺ before)
none-⧺ (split before ends_in_dot) = ap (λ (f : Forest). split f ends_in_dot) (none-⧺ before)

-- the steps of a forest, read after another forest, make both
pub read-steps : (f : Forest) (ss : List StepValue) (begun : Begun) (g : Forest) →
    read (all_steps f ++ ss) begun g ≡ read ss begun (g ⧺ f)
read-steps none ss begun g = refl
read-steps (node before kind children) ss begun g =
    let regroup : all_steps (node before kind children) ++ ss ≡ all_steps before ++
    (enter kind ∷ (all_steps children ++ exit ∷ ss)) = simp append_assoc in
    rw regroup
    (read-steps before (enter kind ∷ (all_steps children ++ exit ∷ ss)) begun g
    ∙ read-steps children (exit ∷ ss) (inside begun (g ⧺ before) kind) none
    ∙ ap (λ (f : Forest). read ss begun (node (g ⧺ before) kind f)) (none-⧺ children))
read-steps (leaf before kind width) ss begun g = rw append_assoc (read-steps before (token kind width ∷ ss) begun g)
read-steps (message before bytes) ss begun g = rw append_assoc (read-steps before (error bytes ∷ ss) begun g)
read-steps (split before ends_in_dot) ss begun g =
    rw append_assoc (read-steps before (float_split ends_in_dot ∷ ss) begun g)

abbrev pub read_whole : List StepValue → Forest
read_whole ss = read ss nothing none

-- a forest is what its steps make
pub read_whole-steps : (f : Forest) → read_whole (all_steps f) ≡ f
read_whole-steps f = ap read_whole (sym (append-nil (all_steps f))) ∙ read-steps f [] nothing none ∙ none-⧺ f

abbrev pub number_of : Bool → ℕ
number_of false = 0
number_of true = 1

abbrev pub is_some : ℕ → Bool
is_some zero = false
is_some (suc n) = true

-- a step by a number, two more numbers and the bytes of its message
abbrev pub parts_of : StepValue → ℕ × (ℕ × (ℕ × List ℕ))
parts_of (enter kind) = (0, (kind, (0, [])))
parts_of exit = (1, (0, (0, [])))
parts_of (token kind width) = (2, (kind, (width, [])))
parts_of (float_split ends_in_dot) = (3, (number_of ends_in_dot, (0, [])))
parts_of (error bytes) = (4, (0, (0, bytes)))

abbrev pub step_by : ℕ → ℕ → ℕ → List ℕ → StepValue
step_by zero kind width bytes = enter kind
step_by (suc zero) kind width bytes = exit
step_by (suc (suc zero)) kind width bytes = token kind width
step_by (suc (suc (suc zero))) kind width bytes = float_split (is_some kind)
step_by (suc (suc (suc (suc n)))) kind width bytes = error bytes

abbrev pub step_of : ℕ × (ℕ × (ℕ × List ℕ)) → StepValue
step_of p = step_by p.0 p.1.0 p.1.1.0 p.1.1.1

pub step_of-parts_of : (s : StepValue) → step_of (parts_of s) ≡ s
step_of-parts_of (enter kind) = refl
step_of-parts_of exit = refl
step_of-parts_of (token kind width) = refl
step_of-parts_of (float_split true) = refl
step_of-parts_of (float_split false) = refl
step_of-parts_of (error bytes) = refl

abbrev pub step_code : Coded StepValue
step_code =
    code_by (ℕ × (ℕ × (ℕ × List ℕ)))
    (coded× coded_ℕ (coded× coded_ℕ (coded× coded_ℕ (coded_list coded_ℕ)))) parts_of step_of step_of-parts_of

-- a forest is stored as its steps
abbrev pub forest_code : Coded Forest
forest_code = code_by (List StepValue) (coded_list step_code) all_steps read_whole read_whole-steps
