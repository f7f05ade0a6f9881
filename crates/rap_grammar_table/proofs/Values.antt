-- What is built stands for forests, and where a walk is stands for a place in the tokens.
use Rattle.std.proofs.Common.{◌≡◌, ℕ, zero, suc, Bool, true, false, ◌==◌, List, [], ◌∷◌, ◌++◌, drop, refl, ◌∙◌, subst, ap}
use Rattle.rap_events.proofs.Truth.{and_left, and_right}
use Rattle.rap_events.specs.Forest.{Forest, none, node, leaf, message, split, ◌⧺◌}
use Rattle.rap_events.specs.Record.{Record}
use Rattle.rap_grammar_scripts.proofs.Forests.{⧺-assoc}
use Rattle.rap_grammar_scripts.specs.Knot.{script_of}
use Rattle.rap_grammar_scripts.specs.Script.{Script, Outcome, Spot, Runs}
use Rattle.rap_grammar_scripts.specs.declared.rule.Rule.{Rule}
use Rattle.rap_grammar_table.proofs.Built.{Built, base, empty, over, tree, same, is_own, goes_on_from, joined, no_more, At, with_node}
use Rattle.rap_grammar_table.proofs.Good.{IsNode, IsUnbraced, Made, made_folded_none, made_folded_more}
use Rattle.rap_grammar_table.specs.Known.{among}
use Rattle.rap_grammar_table.proofs.Narrow.{AreSo}
use Rattle.rap_grammar_table.proofs.Refusal.{Verdict, accepted}
use Rattle.rap_grammar_table.proofs.Hints.{Table}
use Rattle.rap_grammar_table.specs.Table.{Items, folding}
use Rattle.rap_grammar_table.proofs.Known.{by_or, same_number}

-- the trees of the pieces, by their numbers
abbrev pub tree_of : List Forest → ℕ → Forest
tree_of [] n = none
tree_of (u ∷ us) zero = u
tree_of (u ∷ us) (suc n) = tree_of us n

-- what is built, over what there was and with these trees
abbrev pub value : Forest → List Forest → Built → Forest
value f e base = f
value f e empty = none
value f e (over a k c) = node (value f e a) k (value f e c)
value f e (tree a n) = value f e a ⧺ tree_of e n

abbrev pub values : Forest → List Forest → List Forest → List Built → List Forest
values f e b [] = b
values f e b (x ∷ xs) = value f e x ∷ values f e b xs

-- where the script is
abbrev pub spot_at : Forest → List Forest → List Forest → At → List Record → Spot
spot_at f b e s rs = record { rest = rs; forest = value f e s.own; below = values f e b s.owns }

-- The trees with the first of these numbers are one node each, and those with the second end with no `}`.
abbrev pub AllNodes : List Forest → List ℕ → Type 0
AllNodes e [] = Unit {0}
AllNodes e (n ∷ ns) = IsNode (tree_of e n) × AllNodes e ns

abbrev pub AllUnbraced : List Forest → List ℕ → Type 0
AllUnbraced e [] = Unit {0}
AllUnbraced e (n ∷ ns) = IsUnbraced (tree_of e n) × AllUnbraced e ns

abbrev pub AreNodes : List Forest → List ℕ × List ℕ → Type 0
AreNodes e ns = AllNodes e ns.0 × AllUnbraced e ns.1

-- the rest of the row is made of these tokens, and what is known is so
pub record Stands (t : Table) (l : List Record) (e : List Forest) (y : Forest) (s : At) (ks : List Record) : Type 0 where
  pub left : List Forest
  pub left_is : drop s.count e ≡ left
  pub made : Made t l s.items (value none e s.row) (values none e [] s.rows) left ks y
  pub nodes : AreNodes e s.nodes
  pub facts : AreSo s.facts (ks ++ l)

-- the script comes to a place of which this holds
pub record Comes (t : Table) (l : List Record) (e : List Forest) (y f : Forest) (b : List Forest)
    (k : Outcome → At → Verdict) (a : Script Rule) (p : Spot) : Type 0 where
  pub outcome : Outcome
  pub place : At
  pub tokens : List Record
  pub so : k outcome place ≡ accepted
  pub stands : Stands t l e y place tokens
  pub run : Runs script_of a p (spot_at f b e place (tokens ++ l)) outcome

-- a word before a script that comes somewhere
pub before : {t : Table} {l : List Record} {e : List Forest} {y f : Forest} {b : List Forest}
    {k : Outcome → At → Verdict} {a c : Script Rule} {p q : Spot} →
    ((z : Spot) (v : Outcome) → Runs script_of a p z v → Runs script_of c q z v) → Comes t l e y f b k a p →
    Comes t l e y f b k c q
before g x =
    record { outcome = x.outcome; place = x.place; tokens = x.tokens; so = x.so; stands = x.stands; run = g _ _ x.run }

-- the trees that are left
pub drop_first : (n : ℕ) (e : List Forest) (u : Forest) (us : List Forest) → drop n e ≡ u ∷ us → tree_of e n ≡ u
drop_first zero [] u us h = absurd cc
drop_first zero (v ∷ e) u us h = cc
drop_first (suc n) [] u us h = absurd cc
drop_first (suc n) (v ∷ e) u us h = drop_first n e u us h

pub drop_more : (n : ℕ) (e : List Forest) (u : Forest) (us : List Forest) → drop n e ≡ u ∷ us → drop (suc n) e ≡ us
drop_more zero [] u us h = absurd cc
drop_more zero (v ∷ e) u us h = cc
drop_more (suc n) [] u us h = absurd cc
drop_more (suc n) (v ∷ e) u us h = drop_more n e u us h

pub same_spot : (rs rs' : List Record) (f f' : Forest) (b b' : List Forest) → rs ≡ rs' → f ≡ f' → b ≡ b' →
    ◌≡◌ {A = Spot} (record { rest = rs; forest = f; below = b }) (record { rest = rs'; forest = f'; below = b' })
same_spot rs rs' f f' b b' h i j = rw (h, i, j) refl

pub same_built : (x y : Built) → same x y ≡ true → x ≡ y
same_built base base h = refl
same_built empty empty h = refl
same_built (over a k c) (over b j d) h =
    rw (
      same_built a b (and_left (same a b) _ h),
      same_number k j (and_left (k == j) _ (and_right (same a b) _ h)),
      same_built c d (and_right (k == j) _ (and_right (same a b) _ h)),
    ) refl
same_built (tree a i) (tree b j) h =
    rw (same_built a b (and_left (same a b) _ h), same_number i j (and_right (same a b) _ h)) refl
same_built x y h = absurd cc

-- what is built over nothing is the same over any forest
pub own-value : (f : Forest) (e : List Forest) (x : Built) → is_own x ≡ true → value f e x ≡ value none e x
own-value f e base h = absurd cc
own-value f e empty h = refl
own-value f e (over a k c) h =
    rw (own-value f e a (and_left (is_own a) _ h), own-value f e c (and_right (is_own a) _ h)) refl
own-value f e (tree a i) h = rw (own-value f e a h) refl

pub base-value : (f : Forest) (e : List Forest) (x : Built) → goes_on_from x ≡ true →
    value f e x ≡ f ⧺ value none e x
base-value f e base h = refl
base-value f e empty h = absurd cc
base-value f e (over a k c) h =
    rw (base-value f e a (and_left (goes_on_from a) _ h), own-value f e c (and_right (goes_on_from a) _ h)) refl
base-value f e (tree a i) h =
    rw (base-value f e a h) (⧺-assoc f (value none e a) (tree_of e i))

pub joined-value : (f : Forest) (e : List Forest) (a c : Built) → is_own c ≡ true →
    value f e (joined a c) ≡ value f e a ⧺ value f e c
joined-value f e a base h = absurd cc
joined-value f e a empty h = refl
joined-value f e a (over c k d) h =
    ap (λ (x : Forest). node x k (value f e d)) (joined-value f e a c (and_left (is_own c) (is_own d) h))
joined-value f e a (tree c i) h =
    ap (λ (x : Forest). x ⧺ tree_of e i) (joined-value f e a c h) ∙ ⧺-assoc (value f e a) (value f e c) (tree_of e i)

pub no_values : (f : Forest) (e : List Forest) (b : List Forest) (xs : List Built) → no_more xs ≡ true →
    values f e b xs ≡ b
no_values f e b [] h = refl
no_values f e b (x ∷ xs) h = absurd cc

pub none-⧺ : (f : Forest) → none ⧺ f ≡ f
none-⧺ none = refl
none-⧺ (node before kind children) = ap (λ (f : Forest). node f kind children) (none-⧺ before)
none-⧺ (leaf before kind width) = ap (λ (f : Forest). leaf f kind width) (none-⧺ before)
none-⧺ (message before bytes) = ap (λ (f : Forest). message f bytes) (none-⧺ before)
none-⧺ (split before dot) = ap (λ (f : Forest). split f dot) (none-⧺ before)

-- trees that are one node, and those that end with no `}`
all_nodes_with : (e : List Forest) (b : Bool) (n : ℕ) (ns : List ℕ) → (b ≡ true → IsNode (tree_of e n)) →
    AllNodes e ns → AllNodes e (with_node b n ns)
all_nodes_with e true n ns h s = (h refl, s)
all_nodes_with e false n ns h s = s

all_unbraced_with : (e : List Forest) (b : Bool) (n : ℕ) (ns : List ℕ) → (b ≡ true → IsUnbraced (tree_of e n)) →
    AllUnbraced e ns → AllUnbraced e (with_node b n ns)
all_unbraced_with e true n ns h s = (h refl, s)
all_unbraced_with e false n ns h s = s

pub nodes_with : (e : List Forest) (a b : Bool) (n : ℕ) (ns : List ℕ × List ℕ) → (a ≡ true → IsNode (tree_of e n)) →
    (b ≡ true → IsUnbraced (tree_of e n)) → AreNodes e ns → AreNodes e (with_node a n ns.0, with_node b n ns.1)
nodes_with e a b n ns h i s = (all_nodes_with e a n ns.0 h s.0, all_unbraced_with e b n ns.1 i s.1)

in_nodes : (e : List Forest) (ns : List ℕ) (i : ℕ) → AllNodes e ns → among ns i ≡ true → IsNode (tree_of e i)
in_nodes e [] i s m = absurd cc
in_nodes e (n ∷ ns) i s m =
    by_or (n == i) (among ns i) m (λ h. subst (λ (j : ℕ). IsNode (tree_of e j)) (same_number n i h) s.0)
    (λ h. in_nodes e ns i s.1 h)

pub node_at : (e : List Forest) (ns : List ℕ × List ℕ) (i : ℕ) → AreNodes e ns → among ns.0 i ≡ true →
    IsNode (tree_of e i)
node_at e ns i s m = in_nodes e ns.0 i s.0 m

in_unbraced : (e : List Forest) (ns : List ℕ) (i : ℕ) → AllUnbraced e ns → among ns i ≡ true →
    IsUnbraced (tree_of e i)
in_unbraced e [] i s m = absurd cc
in_unbraced e (n ∷ ns) i s m =
    by_or (n == i) (among ns i) m (λ h. subst (λ (j : ℕ). IsUnbraced (tree_of e j)) (same_number n i h) s.0)
    (λ h. in_unbraced e ns i s.1 h)

pub unbraced_at : (e : List Forest) (ns : List ℕ × List ℕ) (i : ℕ) → AreNodes e ns → among ns.1 i ≡ true →
    IsUnbraced (tree_of e i)
unbraced_at e ns i s m = in_unbraced e ns.1 i s.1 m

pub folded_node : {t : Table} {l : List Record} {n : ℕ} {ws : Items} {x y : Forest} {ks : List Record} →
    Made t l (folding n ws) x [] [] ks y → IsNode x → IsNode y
folded_node made_folded_none h = h
folded_node (made_folded_more {k = k} {c = c} w i m o) h =
    folded_node o (record { kind = k; children = c; node_is = refl })
