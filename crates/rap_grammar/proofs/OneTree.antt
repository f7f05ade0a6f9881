-- Whether steps show one tree, weighed from left to right: one for each node outside of others, two for each token,
-- each message and each dot of a float there.
use Rattle.std.proofs.Common.{◌≡◌, ◌≢◌, ℕ, suc, zero, ◌+◌, ◌-◌, ◌<◌, List, [], ◌∷◌, ◌++◌, Bool, true, false, refl, ap, sym, ◌∙◌, not, arith, append_assoc, append-nil, nat_eq}
use Rattle.std.proofs.lemmas.Bool.Decides.{nat_tests}
use Rattle.rap_events.specs.StepValue.{StepValue, enter, exit, token, float_split, error}
use Rattle.rap_events.specs.Forest.{Forest, none, node, leaf, message, split, flat, split_ends, exit_of, splits_last, splits_placed, ends_in_dot, one_tree}
use Rattle.rap_events.proofs.StepLemmas.{Before, before, Parts, node_parts}

abbrev pub outside : ℕ → ℕ → ℕ
outside zero n = n
outside (suc d) n = 0

-- the weight of what these steps show, so many nodes being open
abbrev pub weight_of : ℕ → List StepValue → ℕ
weight_of d [] = 0
weight_of d (enter kind ∷ ss) = outside d 1 + weight_of (suc d) ss
weight_of d (exit ∷ ss) = weight_of (d - 1) ss
weight_of d (token kind width ∷ ss) = outside d 2 + weight_of d ss
weight_of d (float_split true ∷ ss) = outside (d - 1) 2 + weight_of (d - 1) ss
weight_of d (float_split false ∷ ss) = outside d 2 + weight_of (d - 2) ss
weight_of d (error bytes ∷ ss) = outside d 2 + weight_of d ss

-- the weight of the dot at the end of a node's children
dot : Bool → ℕ
dot true = 2
dot false = 0

weight : Forest → ℕ
weight none = 0
weight (node before kind children) = weight before + 1 + dot (ends_in_dot children)
weight (leaf before kind width) = weight before + 2
weight (message before bytes) = weight before + 2
weight (split before d) = weight before + 2

-- what a forest weighs inside so many nodes
shown : ℕ → Forest → ℕ
shown zero f = weight f
shown (suc zero) f = dot (ends_in_dot f)
shown (suc (suc d)) f = 0

no_dot : (f : Forest) → split_ends f ≡ 0 → ends_in_dot f ≡ false
no_dot none h = refl
no_dot (node b k x) h = refl
no_dot (leaf b k w) h = refl
no_dot (message b m) h = refl
no_dot (split b true) h = absurd (omega arith)
no_dot (split b false) h = refl

-- inside a node nothing is shown of what is followed by another thing
shown-inside : (d : ℕ) (f : Forest) → split_ends f ≡ 0 → shown (suc d) f ≡ 0
unfolding shown dot
shown-inside zero f h = ap dot (no_dot f h)
shown-inside (suc d) f h = refl

-- the end of a node, or what a float stands for
past_end : (d n : ℕ) (ss : List StepValue) → weight_of (suc d - n) (exit_of n ++ ss) ≡ weight_of (d - (n - 1)) ss
past_end d zero ss = let e : suc d - 0 - 1 ≡ d - 0 = omega arith in ap (λ (m : ℕ). weight_of m ss) e
past_end d (suc n) ss = let e : suc d - suc n ≡ d - (suc n - 1) = omega arith in ap (λ (m : ℕ). weight_of m ss) e

outside-zero : (d : ℕ) → outside d 0 ≡ 0
outside-zero zero = refl
outside-zero (suc d) = refl

shown-node : (d : ℕ) (b : Forest) (k : ℕ) (x : Forest) → shown (suc d) (node b k x) ≡ 0
unfolding shown dot
shown-node zero b k x = refl
shown-node (suc d) b k x = refl

shown-leaf : (d : ℕ) (b : Forest) (k w : ℕ) → shown (suc d) (leaf b k w) ≡ 0
unfolding shown dot
shown-leaf zero b k w = refl
shown-leaf (suc d) b k w = refl

shown-message : (d : ℕ) (b : Forest) (m : List ℕ) → shown (suc d) (message b m) ≡ 0
unfolding shown dot
shown-message zero b m = refl
shown-message (suc d) b m = refl

shown-split : (d : ℕ) (b : Forest) (e : Bool) → shown (suc d) (split b e) ≡ outside d (dot e)
unfolding shown dot
shown-split zero b e = refl
shown-split (suc d) b e = refl

same_at : (d e : ℕ) (ss : List StepValue) → d ≡ e → weight_of d ss ≡ weight_of e ss
same_at d e ss h = ap (λ (n : ℕ). weight_of n ss) h

weight_of-flat : (f : Forest) (d : ℕ) (ss : List StepValue) → splits_last f ≡ true →
    weight_of d (flat f ++ ss) ≡ shown d f + weight_of (d - split_ends f) ss
unfolding weight shown dot
weight_of-flat none zero ss h = omega arith
weight_of-flat none (suc zero) ss h = omega arith
weight_of-flat none (suc (suc d)) ss h = omega (arith, same_at (suc (suc d) - 0) (suc (suc d)) ss (omega arith))
weight_of-flat (node b k x) zero ss h =
    let p : Parts b k x = node_parts b k x h in
    let n : ℕ = split_ends x in
    let rest : List StepValue = enter k ∷ (flat x ++ (exit_of n ++ ss)) in
    let first = weight_of-flat b zero rest p.before.last in
    let here = same_at (0 - split_ends b) 0 rest (omega arith) in
    let inner = weight_of-flat x 1 (exit_of n ++ ss) p.last in
    rw (append_assoc (flat b) (enter k ∷ (flat x ++ exit_of n)) ss, append_assoc (flat x) (exit_of n) ss)
    (omega (arith, first, here, inner, past_end 0 n ss))
weight_of-flat (node b k x) (suc d) ss h =
    let p : Parts b k x = node_parts b k x h in
    let n : ℕ = split_ends x in
    let rest : List StepValue = enter k ∷ (flat x ++ (exit_of n ++ ss)) in
    let first = weight_of-flat b (suc d) rest p.before.last in
    let none_yet = shown-inside d b p.before.ended in
    let here = same_at (suc d - split_ends b) (suc d) rest (omega (arith, p.before.ended)) in
    let inner = weight_of-flat x (suc (suc d)) (exit_of n ++ ss) p.last in
    rw (append_assoc (flat b) (enter k ∷ (flat x ++ exit_of n)) ss, append_assoc (flat x) (exit_of n) ss)
    (omega (arith, first, none_yet, here, inner, past_end (suc d) n ss, shown-node d b k x))
weight_of-flat (leaf b k w) zero ss h =
    let p : Before b = before b h in
    rw (append_assoc (flat b) (token k w ∷ []) ss)
    (omega (
      arith,
      weight_of-flat b zero (token k w ∷ ss) p.last,
      same_at (0 - split_ends b) 0 (token k w ∷ ss) (omega arith),
    ))
weight_of-flat (leaf b k w) (suc d) ss h =
    let p : Before b = before b h in
    rw (append_assoc (flat b) (token k w ∷ []) ss)
    (omega (
      arith,
      weight_of-flat b (suc d) (token k w ∷ ss) p.last,
      shown-inside d b p.ended,
      same_at (suc d - split_ends b) (suc d) (token k w ∷ ss) (omega (arith, p.ended)),
      shown-leaf d b k w,
      same_at (suc d - 0) (suc d) ss (omega arith),
    ))
weight_of-flat (message b m) zero ss h =
    let p : Before b = before b h in
    rw (append_assoc (flat b) (error m ∷ []) ss)
    (omega
    (arith, weight_of-flat b zero (error m ∷ ss) p.last, same_at (0 - split_ends b) 0 (error m ∷ ss) (omega arith)))
weight_of-flat (message b m) (suc d) ss h =
    let p : Before b = before b h in
    rw (append_assoc (flat b) (error m ∷ []) ss)
    (omega (
      arith,
      weight_of-flat b (suc d) (error m ∷ ss) p.last,
      shown-inside d b p.ended,
      same_at (suc d - split_ends b) (suc d) (error m ∷ ss) (omega (arith, p.ended)),
      shown-message d b m,
      same_at (suc d - 0) (suc d) ss (omega arith),
    ))
weight_of-flat (split b true) zero ss h =
    let p : Before b = before b h in
    rw (append_assoc (flat b) (float_split true ∷ []) ss)
    (omega (
      arith,
      weight_of-flat b zero (float_split true ∷ ss) p.last,
      same_at (0 - split_ends b) 0 (float_split true ∷ ss) (omega arith),
    ))
weight_of-flat (split b false) zero ss h =
    let p : Before b = before b h in
    rw (append_assoc (flat b) (float_split false ∷ []) ss)
    (omega (
      arith,
      weight_of-flat b zero (float_split false ∷ ss) p.last,
      same_at (0 - split_ends b) 0 (float_split false ∷ ss) (omega arith),
    ))
weight_of-flat (split b true) (suc d) ss h =
    let p : Before b = before b h in
    let less : suc d - 1 ≡ d = omega arith in
    rw (append_assoc (flat b) (float_split true ∷ []) ss)
    (omega (
      arith,
      weight_of-flat b (suc d) (float_split true ∷ ss) p.last,
      shown-inside d b p.ended,
      same_at (suc d - split_ends b) (suc d) (float_split true ∷ ss) (omega (arith, p.ended)),
      shown-split d b true,
      ap (λ (n : ℕ). outside n 2) less,
    ))
weight_of-flat (split b false) (suc d) ss h =
    let p : Before b = before b h in
    rw (append_assoc (flat b) (float_split false ∷ []) ss)
    (omega (
      arith,
      weight_of-flat b (suc d) (float_split false ∷ ss) p.last,
      shown-inside d b p.ended,
      same_at (suc d - split_ends b) (suc d) (float_split false ∷ ss) (omega (arith, p.ended)),
      shown-split d b false,
      outside-zero d,
    ))

weighed : (f : Forest) → splits_placed f ≡ true → weight_of 0 (flat f) ≡ weight f
unfolding shown
weighed f h =
    let p : Before f = before f h in
    ap (weight_of 0) (sym (append-nil (flat f))) ∙ weight_of-flat f 0 [] p.last ∙ omega arith

undotted : (b : Bool) → dot b ≡ 0 → true ≡ not b
unfolding dot
undotted true h = absurd (omega arith)
undotted false h = refl

dotted : (b : Bool) (n : ℕ) → n ≢ 1 → n ≡ 0 + 1 + dot b → false ≡ not b
unfolding dot
dotted true n e h = refl
dotted false n e h = absurd (e (h ∙ refl))

-- a weight of one is one tree
pub one : (f : Forest) → splits_placed f ≡ true → weight_of 0 (flat f) ≡ 1 → true ≡ one_tree f
unfolding weight
one none p e = absurd (let h = weighed none p in omega arith)
one (node none k x) p e = undotted (ends_in_dot x) (omega (arith, weighed (node none k x) p))
one (node (node b j y) k x) p e = absurd (let h = weighed (node (node b j y) k x) p in omega arith)
one (node (leaf b j w) k x) p e = absurd (let h = weighed (node (leaf b j w) k x) p in omega arith)
one (node (message b m) k x) p e = absurd (let h = weighed (node (message b m) k x) p in omega arith)
one (node (split b d) k x) p e = absurd (let h = weighed (node (split b d) k x) p in omega arith)
one (leaf b k w) p e = absurd (let h = weighed (leaf b k w) p in omega arith)
one (message b m) p e = absurd (let h = weighed (message b m) p in omega arith)
one (split b d) p e = absurd (let h = weighed (split b d) p in omega arith)

-- any other weight is not
pub not_one : (f : Forest) → splits_placed f ≡ true → weight_of 0 (flat f) ≢ 1 → false ≡ one_tree f
unfolding weight
not_one none p e = refl
not_one (node none k x) p e = dotted (ends_in_dot x) (weight_of 0 (flat (node none k x))) e (weighed (node none k x) p)
not_one (node (node b j y) k x) p e = refl
not_one (node (leaf b j w) k x) p e = refl
not_one (node (message b m) k x) p e = refl
not_one (node (split b d) k x) p e = refl
not_one (leaf b k w) p e = refl
not_one (message b m) p e = refl
not_one (split b d) p e = refl

by_test : (n : ℕ) (b : Bool) → (n ≡ 1 → true ≡ b) → (n ≢ 1 → false ≡ b) → nat_eq n 1 ≡ b
by_test zero b f g = g (λ e. absurd cc)
by_test (suc zero) b f g = f refl
by_test (suc (suc n)) b f g = let h : false ≡ b =
    g (λ e. absurd (omega arith)) in let t : nat_eq (suc (suc n)) 1 ≡ false = grind (arith, nat_tests) in t ∙ h

-- the weight at the end, as a test
pub by_weight : (f : Forest) (n : ℕ) → splits_placed f ≡ true → n ≡ weight_of 0 (flat f) → nat_eq n 1 ≡ one_tree f
by_weight f n p e = by_test n (one_tree f) (λ h. one f p (sym e ∙ h)) (λ h. not_one f p (λ i. h (e ∙ i)))

-- a second node outside of others
pub second : (f : Forest) (n d kind : ℕ) (ss rest : List StepValue) → splits_placed f ≡ true →
    n + weight_of d ss ≡ weight_of 0 (flat f) → n ≡ 1 → d ≡ 0 → ss ≡ enter kind ∷ rest → false ≡ one_tree f
second f n d kind ss rest p e one top first =
    not_one f p
    (λ h. let w : weight_of d ss ≡ 1 + weight_of 1 rest = ap (λ (m : ℕ). weight_of m ss) top ∙
    ap (weight_of 0) first in omega arith)

-- what each of these shows outside of nodes
pub dot_shows : (d : ℕ) (rest : List StepValue) → d < 2 →
    weight_of d (float_split true ∷ rest) ≡ 2 + weight_of (d - 1) rest
dot_shows d rest h = ap (λ (n : ℕ). outside n 2 + weight_of (d - 1) rest) (let e : d - 1 ≡ 0 = omega arith in e)

pub float_shows : (d : ℕ) (rest : List StepValue) → d ≡ 0 →
    weight_of d (float_split false ∷ rest) ≡ 2 + weight_of (d - 2) rest
float_shows d rest h = ap (λ (n : ℕ). outside n 2 + weight_of (d - 2) rest) h

pub token_shows : (d kind width : ℕ) (rest : List StepValue) → d ≡ 0 →
    weight_of d (token kind width ∷ rest) ≡ 2 + weight_of d rest
token_shows d kind width rest h = ap (λ (n : ℕ). outside n 2 + weight_of d rest) h

pub error_shows : (d : ℕ) (bytes : List ℕ) (rest : List StepValue) → d ≡ 0 →
    weight_of d (error bytes ∷ rest) ≡ 2 + weight_of d rest
error_shows d bytes rest h = ap (λ (n : ℕ). outside n 2 + weight_of d rest) h

-- a token, a float or a message outside of nodes
pub beside : (f : Forest) (n d : ℕ) (v : StepValue) (ss rest : List StepValue) (w : ℕ) → splits_placed f ≡ true →
    n + weight_of d ss ≡ weight_of 0 (flat f) → ss ≡ v ∷ rest → weight_of d (v ∷ rest) ≡ 2 + w → false ≡ one_tree f
beside f n d v ss rest w p e first two =
    not_one f p (λ h. let x : weight_of d ss ≡ 2 + w = ap (weight_of d) first ∙ two in omega arith)
