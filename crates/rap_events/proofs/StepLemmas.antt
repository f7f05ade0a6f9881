-- The steps of a forest show that forest.
use Rattle.std.proofs.Common.{◌≡◌, ℕ, zero, suc, ◌-◌, List, [], ◌∷◌, ◌++◌, true, ◌&&◌, ◌||◌, ◌==◌, refl, sym, ap, ◌∙◌, append_assoc, append-nil, arith}
use Rattle.std.proofs.lemmas.Bool.{eqb-true}
use Rattle.rap_base.specs.NodeKind.{FIELD_EXPR}
use Rattle.rap_events.specs.StepValue.{StepValue, enter, exit, token, float_split, error}
use Rattle.rap_events.specs.Forest.{Forest, none, node, leaf, message, split, ◌⧺◌, flat, ended_by, split_ends, exit_of, is_ended, splits_last, splits_placed}
use Rattle.rap_events.specs.Interval.{without_exits, without_ends}
use Rattle.rap_events.specs.Reading.{read_whole, read_whole-steps, exits, with_ends, forest_of, all_steps}
use Rattle.rap_events.proofs.Truth.{and_left, and_right}

-- a forest before another thing
pub record Before (f : Forest) : Type 0 where
  pub last : splits_last f ≡ true
  pub ended : split_ends f ≡ 0

pub before : (f : Forest) → (splits_last f && is_ended f) ≡ true → Before f
before f h = record { last = and_left (splits_last f) (is_ended f) h; ended = eqb-true (split_ends f) 0 (and_right (splits_last f) (is_ended f) h) }

-- the parts of a node whose floats stand where they must
pub record Parts (b : Forest) (k : ℕ) (x : Forest) : Type 0 where
  pub before : Before b
  pub last : splits_last x ≡ true
  pub kind : (is_ended x || (k == FIELD_EXPR)) ≡ true

pub node_parts : (b : Forest) (k : ℕ) (x : Forest) → splits_last (node b k x) ≡ true → Parts b k x
node_parts b k x h =
    let first : (splits_last b && is_ended b) ≡ true = and_left (splits_last b && is_ended b) (splits_last x && (is_ended x || (k == FIELD_EXPR))) h in
    let inner : (splits_last x && (is_ended x || (k == FIELD_EXPR))) ≡ true = and_right (splits_last b && is_ended b) (splits_last x && (is_ended x || (k == FIELD_EXPR))) h in
    record {
      before = before b first;
      last = and_left (splits_last x) (is_ended x || (k == FIELD_EXPR)) inner;
      kind = and_right (splits_last x) (is_ended x || (k == FIELD_EXPR)) inner;
    }

-- the end of a node, or what a float stands for
end_of_node : (n : ℕ) (ss : List StepValue) → exits n ++ with_ends (exit_of n ++ ss) ≡ exit ∷ (exits (n - 1) ++ with_ends ss)
end_of_node zero ss = refl
end_of_node (suc n) ss = let e : suc n - 1 ≡ n = omega arith in rw e refl

-- the steps, and the ends that their floats stand for
with_ends-flat : (f : Forest) (ss : List StepValue) → splits_last f ≡ true → with_ends (flat f ++ ss) ≡ all_steps f ++ (exits (split_ends f) ++ with_ends ss)
with_ends-flat none ss h = refl
with_ends-flat (node b k x) ss h =
    let p : Parts b k x = node_parts b k x h in
    let n : ℕ = split_ends x in
    let inner : with_ends ((flat x ++ exit_of n) ++ ss) ≡ all_steps x ++ (exit ∷ (exits (n - 1) ++ with_ends ss)) =
    ap with_ends (append_assoc (flat x) (exit_of n) ss) ∙ with_ends-flat x (exit_of n ++ ss) p.last ∙ ap (λ (v : List StepValue). all_steps x ++ v) (end_of_node n ss) in
    ap with_ends (append_assoc (flat b) (enter k ∷ (flat x ++ exit_of n)) ss)
    ∙ with_ends-flat b (enter k ∷ ((flat x ++ exit_of n) ++ ss)) p.before.last
    ∙ ap (λ (m : ℕ). all_steps b ++ (exits m ++ (enter k ∷ with_ends ((flat x ++ exit_of n) ++ ss)))) p.before.ended
    ∙ ap (λ (v : List StepValue). all_steps b ++ (enter k ∷ v)) inner
    ∙ simp append_assoc
with_ends-flat (leaf b k w) ss h =
    let p : Before b = before b h in
    ap with_ends (append_assoc (flat b) (token k w ∷ []) ss)
    ∙ with_ends-flat b (token k w ∷ ss) p.last
    ∙ ap (λ (m : ℕ). all_steps b ++ (exits m ++ (token k w ∷ with_ends ss))) p.ended
    ∙ sym (append_assoc (all_steps b) (token k w ∷ []) (with_ends ss))
with_ends-flat (message b m) ss h =
    let p : Before b = before b h in
    ap with_ends (append_assoc (flat b) (error m ∷ []) ss)
    ∙ with_ends-flat b (error m ∷ ss) p.last
    ∙ ap (λ (n : ℕ). all_steps b ++ (exits n ++ (error m ∷ with_ends ss))) p.ended
    ∙ sym (append_assoc (all_steps b) (error m ∷ []) (with_ends ss))
with_ends-flat (split b d) ss h =
    let p : Before b = before b h in
    ap with_ends (append_assoc (flat b) (float_split d ∷ []) ss)
    ∙ with_ends-flat b (float_split d ∷ ss) p.last
    ∙ ap (λ (n : ℕ). all_steps b ++ (exits n ++ (float_split d ∷ (exits (ended_by d) ++ with_ends ss)))) p.ended
    ∙ sym (append_assoc (all_steps b) (float_split d ∷ []) (exits (ended_by d) ++ with_ends ss))

-- a forest is what its steps make
pub forest_of-flat : (f : Forest) → splits_placed f ≡ true → forest_of (flat f) ≡ f
forest_of-flat f h =
    let p : Before f = before f h in
    let all : with_ends (flat f) ≡ all_steps f =
    ap with_ends (sym (append-nil (flat f))) ∙ with_ends-flat f [] p.last ∙ ap (λ (n : ℕ). all_steps f ++ (exits n ++ [])) p.ended ∙ append-nil (all_steps f) in
    ap read_whole all ∙ read_whole-steps f

without_end_of_node : (n : ℕ) (ss : List StepValue) → without_exits n (exit ∷ ss) ≡ exit_of n ++ without_exits (n - 1) ss
without_end_of_node zero ss = refl
without_end_of_node (suc n) ss = let e : suc n - 1 ≡ n = omega arith in rw e refl

-- the steps with all ends, without those that floats stand for
without_ends-steps : (f : Forest) (ss : List StepValue) → splits_last f ≡ true → without_ends (all_steps f ++ ss) ≡ flat f ++ without_exits (split_ends f) (without_ends ss)
without_ends-steps none ss h = refl
without_ends-steps (node b k x) ss h =
    let p : Parts b k x = node_parts b k x h in
    let n : ℕ = split_ends x in
    let inner : without_ends ((all_steps x ++ exit ∷ []) ++ ss) ≡ flat x ++ (exit_of n ++ without_exits (n - 1) (without_ends ss)) =
    ap without_ends (append_assoc (all_steps x) (exit ∷ []) ss) ∙ without_ends-steps x (exit ∷ ss) p.last ∙ ap (λ (v : List StepValue). flat x ++ v) (without_end_of_node n (without_ends ss)) in
    ap without_ends (append_assoc (all_steps b) (enter k ∷ (all_steps x ++ exit ∷ [])) ss)
    ∙ without_ends-steps b (enter k ∷ ((all_steps x ++ exit ∷ []) ++ ss)) p.before.last
    ∙ ap (λ (m : ℕ). flat b ++ without_exits m (enter k ∷ without_ends ((all_steps x ++ exit ∷ []) ++ ss))) p.before.ended
    ∙ ap (λ (v : List StepValue). flat b ++ (enter k ∷ v)) inner
    ∙ simp append_assoc
without_ends-steps (leaf b k w) ss h =
    let p : Before b = before b h in
    ap without_ends (append_assoc (all_steps b) (token k w ∷ []) ss)
    ∙ without_ends-steps b (token k w ∷ ss) p.last
    ∙ ap (λ (m : ℕ). flat b ++ without_exits m (token k w ∷ without_ends ss)) p.ended
    ∙ sym (append_assoc (flat b) (token k w ∷ []) (without_ends ss))
without_ends-steps (message b m) ss h =
    let p : Before b = before b h in
    ap without_ends (append_assoc (all_steps b) (error m ∷ []) ss)
    ∙ without_ends-steps b (error m ∷ ss) p.last
    ∙ ap (λ (n : ℕ). flat b ++ without_exits n (error m ∷ without_ends ss)) p.ended
    ∙ sym (append_assoc (flat b) (error m ∷ []) (without_ends ss))
without_ends-steps (split b d) ss h =
    let p : Before b = before b h in
    ap without_ends (append_assoc (all_steps b) (float_split d ∷ []) ss)
    ∙ without_ends-steps b (float_split d ∷ ss) p.last
    ∙ ap (λ (n : ℕ). flat b ++ without_exits n (float_split d ∷ without_exits (ended_by d) (without_ends ss))) p.ended
    ∙ sym (append_assoc (flat b) (float_split d ∷ []) (without_exits (ended_by d) (without_ends ss)))

pub without_ends-whole : (f : Forest) → splits_placed f ≡ true → without_ends (all_steps f) ≡ flat f
without_ends-whole f h =
    let p : Before f = before f h in
    ap without_ends (sym (append-nil (all_steps f))) ∙ without_ends-steps f [] p.last ∙ ap (λ (n : ℕ). flat f ++ without_exits n []) p.ended ∙ append-nil (flat f)

pub all_steps-⧺ : (f g : Forest) → all_steps (f ⧺ g) ≡ all_steps f ++ all_steps g
all_steps-⧺ f none = sym (append-nil (all_steps f))
all_steps-⧺ f (node b k x) = simp (all_steps-⧺ f b, append_assoc)
all_steps-⧺ f (leaf b k w) = simp (all_steps-⧺ f b, append_assoc)
all_steps-⧺ f (message b m) = simp (all_steps-⧺ f b, append_assoc)
all_steps-⧺ f (split b d) = simp (all_steps-⧺ f b, append_assoc)
