-- What stands in the forests of a run, by contents, and that each word keeps it.
use Rattle.std.proofs.Common.{append_assoc, drop, ◌≡◌, ◌==◌, ◌&&◌, ℕ, Bool, true, false, not, List, [], ◌∷◌, ◌++◌, Option, Some, None, refl, sym, ap, ◌∙◌, subst}
use Rattle.rap_base.specs.NodeKind.{FIELD_EXPR, NAME_REF}
use Rattle.rap_base.specs.TokenKind.{DOT, ERROR}
use Rattle.rap_events.proofs.Truth.{or_left}
use Rattle.rap_events.specs.FloatSplit.{split_children}
use Rattle.rap_events.specs.Forest.{Forest, none, node, leaf, message, split, ◌⧺◌}
use Rattle.rap_events.specs.Record.{Record}
use Rattle.rap_events.specs.State.{but_last, last_children, skipped}
use Rattle.rap_grammar_scripts.specs.Script.{Spot, reported, skipped_over, started, preceded, finished, extended, abandoned, split_apart, newest, last_kind}
use Rattle.rap_grammar_scripts.proofs.Forests.{⧺-assoc}
use Rattle.rap_grammar_table.specs.Known.{among, every_one}
use Rattle.rap_grammar_table.specs.Shapes.{Child, leaf_child, node_child, float_child, children_of}
use Rattle.rap_grammar_table.proofs.Known.{every_so}
use Rattle.rap_grammar_table.proofs.LookLaws.{same_self}
use Rattle.rap_grammar_table.proofs.Spells.{children-⧺, same_last}
use Rattle.rap_grammar_shapes.specs.Spelled.{spelled_children}
use Rattle.rap_grammar_shapes.specs.Whole.{IsWhole, are_sound}
use Rattle.rap_grammar_shapes.proofs.Automata.{Accepts}
use Rattle.rap_grammar_shapes.proofs.Content.{Content, nothing, leaf_of, any_leaf, node_of, a_float, spoilt, owed, ◌⋅◌, ◌or◌, any_of, has_message, has_float, Holds, no_child, a_leaf, some_leaf, a_node, the_float, is_told, not_whole, in_order, by_first, by_second, choose, equal, equal_kinds, united, either_of, onto, both_kinds, last_nodes, before, is_lost, is_settled}
use Rattle.rap_grammar_shapes.proofs.ContentLaws.{by_choice, by_chosen, equal_so, equal_kinds_so, united_left, united_right, holds_first, holds_second, holds_onto, whole_left, whole_right, IsCalm, calm_both, settled_so, lost_so, not_error, both_whole, no_float_left}
use Rattle.rap_grammar_shapes.proofs.Ends.{Contents, astray, contents, equal_older, with_more, opened, error_content, node_content, may_close, closed_if, closed, preceded_if, with_last, may_extend, extended_by, extended_if, drawn, two_names, float_runs, float_closes, parted, given_up, joined_if, either}
use Rattle.rap_grammar_shapes.proofs.Letters.{tells, names_outer, letter_of, letter, letters, letters-⧺, letters_whole, plain_letter, letters_spelled, ends_in_none, outer-⧺, spelled-⧺, told_tells, AllAre, all_are-⧺, Good, IsGood, good-⧺}
use Rattle.rap_grammar_shapes.proofs.Models.{model}
use Rattle.rap_grammar_shapes.proofs.Runs.{runs, runs_so, comes_back, back_so}

-- What was appended to a forest, where the older ones are as they were.
pub record Part (base : Forest) (stack : List Forest) (a : Content) (f : Forest) (b : List Forest) : Type 0 where
  pub new : Forest
  pub forest : f ≡ base ⧺ new
  pub below : b ≡ stack
  pub holds : Holds a (letters new)
  pub so : IsGood new

-- The forests under the newest node and under those that were opened since.
abbrev pub Stands : Forest → List Forest → Content → List Content → Forest → List Forest → Type 0
Stands base stack a [] f b = Part base stack a f b
Stands base stack a (c ∷ cs) f [] = ⊥
Stands base stack a (c ∷ cs) f (g ∷ b) =
    (Holds a (letters f) × IsGood f) × Stands base stack c cs g b

-- What stands there is of these contents.
abbrev pub Is : Forest → List Forest → Contents → Spot → Type 0
Is base stack astray p = Unit {0}
Is base stack (contents a os) p = Stands base stack a os p.forest p.below

-- more behind it
more : (base : Forest) (stack : List Forest) (a s : Content) (os : List Content) (f u : Forest) (b : List Forest) →
    Stands base stack a os f b → Holds s (letters u) → IsGood u → Stands base stack (onto a s) os (f ⧺ u) b
more base stack a s [] f u b h t x = record {
  new = h.new ⧺ u;
  forest = ap (λ (y : Forest). y ⧺ u) h.forest ∙ ⧺-assoc base h.new u;
  below = h.below;
  holds =
      subst (λ (cs : List Child). Holds (onto a s) cs) (sym (letters-⧺ h.new u))
      (holds_onto a s (letters h.new) (letters u) h.holds t);
  so = good-⧺ h.new u h.so x;
}
more base stack a s (c ∷ os) f u [] h t x = absurd h
more base stack a s (c ∷ os) f u (g ∷ b) h t x = (
  (
    subst (λ (cs : List Child). Holds (onto a s) cs) (sym (letters-⧺ f u))
        (holds_onto a s (letters f) (letters u) h.0.0 t),
    good-⧺ f u h.0.1 x,
  ),
  h.1,
)

one_kind : (k : ℕ) → among (k ∷ []) k ≡ true
one_kind k = or_left (k == k) false (same_self k)

-- A word appends this forest.
pub is_more : (base : Forest) (stack : List Forest) (s : Content) (x : Contents) (p q : Spot) (u : Forest) →
    q.forest ≡ p.forest ⧺ u → q.below ≡ p.below → Holds s (letters u) → IsGood u → Is base stack x p →
    Is base stack (with_more s x) q
is_more base stack s astray p q u e i t a h = tt
is_more base stack s (contents a os) p q u e i t d h = rw (e, i) (more base stack a s os p.forest u p.below h t d)

-- A token is taken.
pub is_leaf : (base : Forest) (stack : List Forest) (k w : ℕ) (x : Contents) (p q : Spot) →
    q.forest ≡ leaf p.forest k w →
    q.below ≡ p.below → Is base stack x p → Is base stack (with_more (leaf_of (k ∷ [])) x) q
is_leaf base stack k w x p q e i h =
    is_more base stack (leaf_of (k ∷ [])) x p q (leaf none k w) e i (a_leaf (one_kind k)) (record { nodes = tt; plain = refl }) h

-- Whatever token comes next is taken.
pub is_any : (base : Forest) (stack : List Forest) (a : Content) (k w : ℕ) (x : Contents) (p q : Spot) →
    q.forest ≡ leaf p.forest k w → q.below ≡ p.below → Holds a (leaf_child k ∷ []) → Is base stack x p →
    Is base stack (with_more a x) q
is_any base stack a k w x p q e i s h = is_more base stack a x p q (leaf none k w) e i s (record { nodes = tt; plain = refl }) h

-- A message is reported.
pub is_reported : (base : Forest) (stack : List Forest) (m : List ℕ) (x : Contents) (p : Spot) → Is base stack x p →
    Is base stack (with_more spoilt x) (reported m p)
is_reported base stack m x p h =
    is_more base stack spoilt x p (reported m p) (message none m) refl refl (is_told refl) (record { nodes = tt; plain = refl }) h

-- What is reported is no whole list of children.
skipped_so : (rest : List Record) (m : List ℕ) → AllAre Good (skipped rest m)
skipped_so [] m = tt
skipped_so (r ∷ rs) m = tt

skipped_good : (rest : List Record) (m : List ℕ) → Good ERROR (skipped rest m)
skipped_good [] m =
    record {
      accepted = λ w. absurd (let z : false ≡ true = w in cc);
      calm = λ h. absurd (let z : true ≡ false = h in cc);
    }
skipped_good (r ∷ rs) m =
    record {
      accepted = λ w. absurd (let z : false ≡ true = w in cc);
      calm = λ h. absurd (let z : true ≡ false = h in cc);
    }

skipped_told : (rest : List Record) (m : List ℕ) →
    has_message (letters (node none ERROR (skipped rest m))) ≡ true
skipped_told [] m = refl
skipped_told (r ∷ rs) m = refl

skipped_plain : (rest : List Record) (m : List ℕ) → IsGood (node none ERROR (skipped rest m))
skipped_plain [] m = record { nodes = (tt, skipped_so [] m, skipped_good [] m); plain = refl }
skipped_plain (r ∷ rs) m = record { nodes = (tt, skipped_so (r ∷ rs) m, skipped_good (r ∷ rs) m); plain = refl }

-- A token is skipped.
pub is_skipped : (base : Forest) (stack : List Forest) (m : List ℕ) (x : Contents) (p : Spot) → Is base stack x p →
    Is base stack (with_more spoilt x) (skipped_over m p)
is_skipped base stack m x p h =
    is_more base stack spoilt x p (skipped_over m p) (node none ERROR (skipped p.rest m)) refl refl
    (is_told (skipped_told p.rest m)) (skipped_plain p.rest m) h

-- A node is opened.
pub is_opened : (base : Forest) (stack : List Forest) (x : Contents) (p : Spot) → Is base stack x p →
    Is base stack (opened x) (started p)
is_opened base stack astray p h = tt
is_opened base stack (contents a os) p h = ((no_child, record { nodes = tt; plain = refl }), h)

-- what a finished node is
spoilt_letter : (k : ℕ) (t o : Bool) → (k == ERROR) ≡ true → are_sound (letter_of true t o k ∷ []) ≡ false
spoilt_letter k true o e = refl
spoilt_letter k false o e = subst (λ (c : Bool). (not c && true) ≡ false) (sym e) refl

error_unsound : (k : ℕ) (t o : Bool) → (k == ERROR) ≡ true → are_sound (letter_of (k == ERROR) t o k ∷ []) ≡ false
error_unsound k t o e =
    subst (λ (b : Bool). are_sound (letter_of b t o k ∷ []) ≡ false) (sym e) (spoilt_letter k t o e)

error_told : (k : ℕ) (t o : Bool) → (k == ERROR) ≡ true → t ≡ true →
    has_message (letter_of (k == ERROR) t o k ∷ []) ≡ true
error_told k true o e h = rw e refl
error_told k false o e h = absurd cc

error_holds : (k : ℕ) (a : Content) (c : Forest) → (k == ERROR) ≡ true → Holds a (letters c) →
    Holds (error_content a) (letter k c ∷ [])
error_holds k a c e h =
    by_choice (λ (x : Content). Holds x (letter k c ∷ [])) (is_lost a) spoilt owed
    (λ i. is_told (error_told k (tells c) (names_outer c) e (told_tells c (lost_so a (letters c) i h))))
    (λ i. not_whole (error_unsound k (tells c) (names_outer c) e))

node_holds : (k : ℕ) (a : Content) (c : Forest) → has_float (letters c) ≡ false → Holds a (letters c) →
    Holds (node_content k a) (letter k c ∷ [])
node_holds k a c n h =
    by_choice (λ (x : Content). Holds x (letter k c ∷ [])) (k == ERROR) (error_content a) (node_of (k ∷ []))
    (λ e. error_holds k a c e h)
    (λ e.
    subst (λ (x : Child). Holds (node_of (k ∷ [])) (x ∷ []))
    (sym (plain_letter (k == ERROR) (tells c) (names_outer c) k e (ends_in_none c n))) (a_node (one_kind k)))

plain_node : (b t o : Bool) (k : ℕ) → o ≡ false → has_float (letter_of b t o k ∷ []) ≡ false
plain_node true true o k e = refl
plain_node true false o k e = refl
plain_node false t true k e = absurd cc
plain_node false t false k e = refl

node_over : (base : Forest) (stack : List Forest) (k : ℕ) (n b : Content) (os : List Content) (c g : Forest)
    (s : List Forest) (t : Bool) → Holds n (letter k c ∷ []) → (t ≡ true → Good k c) → AllAre Good c →
    names_outer c ≡ false → Stands base stack b os g s → (q : Spot) → q.forest ≡ node g k c → q.below ≡ s →
    Is base stack (closed_if t n b os) q
node_over base stack k n b os c g s true d e a o h q i j =
    rw (i, j)
    (more base stack b n os g (node none k c) s h d
    (record { nodes = (tt, a, e refl); plain = plain_node (k == ERROR) (tells c) (names_outer c) k o }))
node_over base stack k n b os c g s false d e a o h q i j = tt

-- the last child, a node, as the last tree
same_node : {k j : ℕ} → node_child k ≡ node_child j → k ≡ j
same_node e = cc

same_letter : (b t o : Bool) (k j : ℕ) → letter_of b t o k ≡ node_child j → k ≡ j
same_letter true true o k j e = absurd cc
same_letter true false o k j e = same_node e
same_letter false t true k j e = absurd cc
same_letter false t false k j e = same_node e

no_snoc : (ds : List Child) (d : Child) → [] ≡ ds ++ d ∷ [] → ⊥
no_snoc [] d e = absurd cc
no_snoc (y ∷ ds) d e = absurd cc

-- What may be closed is good.
accepted_so : (k : ℕ) (a : Content) (f : Forest) → runs (model k) a ≡ true → Holds a (letters f) →
    has_float (letters f) ≡ false → IsWhole (children_of f) → Accepts (model k) 0 (spelled_children f)
accepted_so k a f h s n w =
    subst (λ (cs : List Child). Accepts (model k) 0 cs) (letters_spelled f w n)
    (runs_so (model k) a h (letters f) s (letters_whole f w))

pub closes_good : (k : ℕ) (a : Content) (f : Forest) → may_close k a ≡ true → Holds a (letters f) →
    has_float (letters f) ≡ false → Good k f
closes_good k a f h s n =
    by_chosen (runs (model k) a) (is_settled a) h
    (λ i j. record { accepted = accepted_so k a f i s n; calm = settled_so a (letters f) j s })

under_push : (base : Forest) (stack : List Forest) (a b : Content) (os : List Content) (f : Forest) (s : List Forest) →
    Stands base stack a (b ∷ os) f s →
    (Holds a (letters f) × IsGood f) × Stands base stack b os (newest s) (drop 1 s)
under_push base stack a b os f [] h = absurd h
under_push base stack a b os f (g ∷ s) h = h

-- A node is finished.
pub is_closed : (base : Forest) (stack : List Forest) (k : ℕ) (x : Contents) (p : Spot) → Is base stack x p →
    Is base stack (closed k x) (finished k p)
is_closed base stack k astray p h = tt
is_closed base stack k (contents a []) p h = tt
is_closed base stack k (contents a (b ∷ os)) p h =
    let u = under_push base stack a b os p.forest p.below h in
    node_over base stack k (node_content k a) b os p.forest (newest p.below) (drop 1 p.below) (may_close k a)
    (node_holds k a p.forest u.0.1.plain u.0.0) (λ e. closes_good k a p.forest e u.0.0 u.0.1.plain) u.0.1.nodes
    (ends_in_none p.forest u.0.1.plain) u.1 (finished k p) refl refl

-- A node is abandoned.
pub is_given_up : (base : Forest) (stack : List Forest) (x : Contents) (p : Spot) → Is base stack x p →
    Is base stack (given_up x) (abandoned p)
is_given_up base stack astray p h = tt
is_given_up base stack (contents a []) p h = tt
is_given_up base stack (contents a (b ∷ os)) p h =
    let u = under_push base stack a b os p.forest p.below h in
    more base stack b a os (newest p.below) p.forest (drop 1 p.below) u.1 u.0.0 u.0.1

-- A script appends to the newest node alone.
pub is_behind : (base : Forest) (stack : List Forest) (s : Content) (x : Contents) (p q : Spot) → Is base stack x p →
    Part p.forest p.below s q.forest q.below → Is base stack (with_more s x) q
is_behind base stack s x p q h a = is_more base stack s x p q a.new a.forest a.below a.holds a.so h

-- the last child, a node
record LastNode (ks : List ℕ) (b : Content) (cs : List Child) : Type 0 where
  front : List Child
  kind : ℕ
  whole : cs ≡ front ++ node_child kind ∷ []
  holds : Holds b front
  is : among ks kind ≡ true

kinds_left : (t : Bool) (ks js : List ℕ) (k : ℕ) → among ks k ≡ true → among (choose t ks (united ks js)) k ≡ true
kinds_left true ks js k m = m
kinds_left false ks js k m = united_left ks js k m

kinds_right : (t : Bool) (ks js : List ℕ) (k : ℕ) → (t ≡ true → ks ≡ js) → among js k ≡ true →
    among (choose t ks (united ks js)) k ≡ true
kinds_right true ks js k e m = subst (λ (is : List ℕ). among is k ≡ true) (sym (e refl)) m
kinds_right false ks js k e m = united_right ks js k m

by_both : {A : Type 0} (o z : Option (List ℕ)) (ks : List ℕ) → both_kinds o z ≡ Some ks →
    ((is js : List ℕ) → o ≡ Some is → z ≡ Some js → choose (equal_kinds is js) is (united is js) ≡ ks → A) → A
by_both None z ks e f = absurd cc
by_both (Some is) None ks e f = absurd cc
by_both (Some is) (Some js) ks e f = f is js refl refl cc

last_so : (a : Content) (ks : List ℕ) (cs : List Child) → last_nodes a ≡ Some ks → Holds a cs →
    LastNode ks (before a) cs
last_so nothing ks cs e s = absurd cc
last_so (leaf_of is) ks cs e s = absurd cc
last_so any_leaf ks cs e s = absurd cc
last_so (node_of is) ks cs e (a_node {kind = k} m) =
    record {
      front = [];
      kind = k;
      whole = refl;
      holds = no_child;
      is = let z : is ≡ ks = cc in subst (λ (js : List ℕ). among js k ≡ true) z m;
    }
last_so a_float ks cs e s = absurd cc
last_so spoilt ks cs e s = absurd cc
last_so owed ks cs e s = absurd cc
last_so (a ⋅ b) ks cs e (in_order {cs = xs} {ds = ys} s t) =
    let r = last_so b ks ys e t in
    record {
      front = xs ++ r.front;
      kind = r.kind;
      whole = ap (λ (zs : List Child). xs ++ zs) r.whole ∙ sym (append_assoc xs r.front (node_child r.kind ∷ []));
      holds = holds_onto a (before b) xs r.front s r.holds;
      is = r.is;
    }
last_so (a or b) ks cs e (by_first s) =
    by_both (last_nodes a) (last_nodes b) ks e
    (λ is js i j z.
    let r = last_so a is cs i s in
    record {
      front = r.front;
      kind = r.kind;
      whole = r.whole;
      holds = holds_first (before a) (before b) r.front r.holds;
      is =
          subst (λ (hs : List ℕ). among hs r.kind ≡ true) z (kinds_left (equal_kinds is js) is js r.kind r.is);
    })
last_so (a or b) ks cs e (by_second s) =
    by_both (last_nodes a) (last_nodes b) ks e
    (λ is js i j z.
    let r = last_so b js cs j s in
    record {
      front = r.front;
      kind = r.kind;
      whole = r.whole;
      holds = holds_second (before a) (before b) r.front r.holds;
      is =
          subst (λ (hs : List ℕ). among hs r.kind ≡ true) z
          (kinds_right (equal_kinds is js) is js r.kind (equal_kinds_so is js) r.is);
    })
last_so (any_of a) ks cs e s = absurd cc

-- the last tree of a forest, a node
record LastTree (ks : List ℕ) (b : Content) (u : Forest) : Type 0 where
  front : Forest
  kind : ℕ
  inside : Forest
  tree_is : u ≡ node front kind inside
  holds : Holds b (letters front)
  is : among ks kind ≡ true
  letter_is : letter kind inside ≡ node_child kind

last_tree_so : (ks : List ℕ) (b : Content) (u : Forest) → LastNode ks b (letters u) → LastTree ks b u
last_tree_so ks b none r = absurd (no_snoc r.front (node_child r.kind) r.whole)
last_tree_so ks b (node f j c) r =
    let e = same_last (letters f) r.front r.whole in
    record {
      front = f;
      kind = j;
      inside = c;
      tree_is = refl;
      holds = subst (λ (cs : List Child). Holds b cs) (sym e.0) r.holds;
      is = subst (λ (k : ℕ). among ks k ≡ true) (sym (same_letter (j == ERROR) (tells c) (names_outer c) j r.kind e.1)) r.is;
      letter_is = e.1 ∙ ap (λ (k : ℕ). node_child k) (sym (same_letter (j == ERROR) (tells c) (names_outer c) j r.kind e.1));
    }
last_tree_so ks b (leaf f j w) r = let e = same_last (letters f) r.front r.whole in absurd cc
last_tree_so ks b (message f m) r = let e = same_last (letters f) r.front r.whole in absurd cc
last_tree_so ks b (split f d) r = let e = same_last (letters f) r.front r.whole in absurd cc

-- the last tree, with what stands before it
record Behind (base : Forest) (stack : List Forest) (ks : List ℕ) (b : Content) (os : List Content) (f : Forest)
    (s : List Forest) : Type 0 where
  front : Forest
  kind : ℕ
  inside : Forest
  tree_is : f ≡ node front kind inside
  is : among ks kind ≡ true
  letter_is : letter kind inside ≡ node_child kind
  so : AllAre Good inside
  good : Good kind inside
  rest : Stands base stack b os front s

first_good : (f c : Forest) (k : ℕ) → IsGood (node f k c) → IsGood f
first_good f c k h =
    record { nodes = h.nodes.0; plain = no_float_left (letters f) (letter k c ∷ []) h.plain }

behind_part : (base : Forest) (stack : List Forest) (ks : List ℕ) (a : Content) (f : Forest) (s : List Forest) →
    last_nodes a ≡ Some ks → Part base stack a f s → Behind base stack ks (before a) [] f s
behind_part base stack ks a f s e h =
    let t = last_tree_so ks (before a) h.new (last_so a ks (letters h.new) e h.holds) in
    let x : IsGood (node t.front t.kind t.inside) = subst (λ (y : Forest). IsGood y) t.tree_is h.so in
    record {
      front = base ⧺ t.front;
      kind = t.kind;
      inside = t.inside;
      tree_is = h.forest ∙ ap (λ (y : Forest). base ⧺ y) t.tree_is;
      is = t.is;
      letter_is = t.letter_is;
      so = x.nodes.1;
      good = x.nodes.2;
      rest = record { new = t.front; forest = refl; below = h.below; holds = t.holds; so = first_good t.front t.inside t.kind x };
    }

behind_node : (base : Forest) (stack : List Forest) (ks : List ℕ) (a c : Content) (os : List Content) (f : Forest)
    (b : List Forest)
    (g : Forest) → last_nodes a ≡ Some ks → Stands base stack a (c ∷ os) f (g ∷ b) →
    Behind base stack ks (before a) (c ∷ os) f (g ∷ b)
behind_node base stack ks a c os f b g e h =
    let t = last_tree_so ks (before a) f (last_so a ks (letters f) e h.0.0) in
    let x : IsGood (node t.front t.kind t.inside) = subst (λ (y : Forest). IsGood y) t.tree_is h.0.1 in
    record {
      front = t.front;
      kind = t.kind;
      inside = t.inside;
      tree_is = t.tree_is;
      is = t.is;
      letter_is = t.letter_is;
      so = x.nodes.1;
      good = x.nodes.2;
      rest = ((t.holds, first_good t.front t.inside t.kind x), h.1);
    }

behind_so : (base : Forest) (stack : List Forest) (ks : List ℕ) (a : Content) (os : List Content) (f : Forest)
    (s : List Forest) →
    last_nodes a ≡ Some ks → Stands base stack a os f s → Behind base stack ks (before a) os f s
behind_so base stack ks a [] f s e h = behind_part base stack ks a f s e h
behind_so base stack ks a (c ∷ os) f [] e h = absurd h
behind_so base stack ks a (c ∷ os) f (g ∷ b) e h = behind_node base stack ks a c os f b g e h

kept_letter : (ks : List ℕ) (kind : ℕ) (inside : Forest) → among ks kind ≡ true →
    letter kind inside ≡ node_child kind → Holds (node_of ks) (letter kind inside ∷ [])
kept_letter ks kind inside i e =
    subst (λ (x : Child). Holds (node_of ks) (x ∷ [])) (sym e) (a_node i)

last_if : (base : Forest) (stack : List Forest) (o : Option (List ℕ)) (a : Content) (os : List Content) (p : Spot) →
    last_nodes a ≡ o → Stands base stack a os p.forest p.below → Is base stack (preceded_if o a os) (preceded p)
unfolding but_last
last_if base stack None a os p e h = tt
last_if base stack (Some ks) a os p e h =
    let t = behind_so base stack ks a os p.forest p.below e h in
    rw t.tree_is (
      (
        kept_letter ks t.kind t.inside t.is t.letter_is,
        record { nodes = (tt, t.so, t.good); plain = ap (λ (x : Child). has_float (x ∷ [])) t.letter_is },
      ),
      t.rest,
    )

-- A node is opened around the last one.
pub is_preceded : (base : Forest) (stack : List Forest) (x : Contents) (p : Spot) → Is base stack x p →
    Is base stack (with_last x) (preceded p)
is_preceded base stack astray p h = tt
is_preceded base stack (contents a os) p h = last_if base stack (last_nodes a) a os p refl h

-- What may be extended is good.
drawn_accepted : (kind : ℕ) (b : Content) (front inside : Forest) → comes_back (model kind) b ≡ true →
    Holds b (letters front) → has_float (letters front) ≡ false → Good kind inside →
    IsWhole (children_of (front ⧺ inside)) → Accepts (model kind) 0 (spelled_children (front ⧺ inside))
drawn_accepted kind b front inside e s n d w =
    let v : IsWhole (children_of front ++ children_of inside) =
    subst (λ (cs : List Child). IsWhole cs) (children-⧺ front inside) w in
    let x = whole_left (children_of front) (children_of inside) v in
    let y = letters_spelled front x n in
    subst (λ (cs : List Child). Accepts (model kind) 0 cs) (sym (spelled-⧺ front inside))
    (back_so (model kind) b e (spelled_children front) (spelled_children inside)
    (subst (λ (cs : List Child). Holds b cs) y s)
    (subst (λ (cs : List Child). IsWhole cs) y (letters_whole front x))
    (d.accepted (whole_right (children_of front) (children_of inside) v)))

drawn_good : (ks : List ℕ) (kind : ℕ) (b : Content) (front inside : Forest) → may_extend ks b ≡ true →
    among ks kind ≡ true → Holds b (letters front) → has_float (letters front) ≡ false → Good kind inside →
    Good kind (front ⧺ inside)
drawn_good ks kind b front inside h i s n d =
    by_chosen (every_one (λ k. comes_back (model k) b) ks) (choose (is_settled (node_of ks)) (is_settled b) false) h
    (λ m o.
    by_chosen (is_settled (node_of ks)) (is_settled b) o
    (λ x y.
    record {
      accepted =
          drawn_accepted kind b front inside (every_so (λ k. comes_back (model k) b) ks kind m i) s n d;
      calm =
          subst (λ (cs : List Child). IsCalm cs) (sym (letters-⧺ front inside))
          (calm_both (letters front) (letters inside) (settled_so b (letters front) y s) d.calm);
    }))

-- Its kind is no ERROR, and it ends in no float whose second number stands behind it.
drawn_kind : (ks : List ℕ) (kind : ℕ) (b : Content) → may_extend ks b ≡ true → among ks kind ≡ true →
    (kind == ERROR) ≡ false
drawn_kind ks kind b h i =
    by_chosen (every_one (λ k. comes_back (model k) b) ks) (choose (is_settled (node_of ks)) (is_settled b) false) h
    (λ m n. by_chosen (is_settled (node_of ks)) (is_settled b) n (λ x y. not_error ks kind x i))

not_outer : (b t o : Bool) (k : ℕ) → b ≡ false → letter_of b t o k ≡ node_child k → o ≡ false
not_outer true t o k e n = absurd cc
not_outer false t true k e n = absurd cc
not_outer false t false k e n = refl

drawn_end : (kind : ℕ) (front inside : Forest) → (kind == ERROR) ≡ false → has_float (letters front) ≡ false →
    letter kind inside ≡ node_child kind → names_outer (front ⧺ inside) ≡ false
drawn_end kind front inside e n l =
    outer-⧺ front inside (ends_in_none front n)
    (not_outer (kind == ERROR) (tells inside) (names_outer inside) kind e l)

drawn_by : (base : Forest) (stack : List Forest) (ks : List ℕ) (b c : Content) (os : List Content) (t : Bool)
    (p : Spot) → may_extend ks b ≡ t → (front : Forest) (kind : ℕ) (inside : Forest) →
    among ks kind ≡ true → letter kind inside ≡ node_child kind → Holds b (letters front) → IsGood front →
    AllAre Good inside → Good kind inside → Stands base stack c os (newest p.below) (drop 1 p.below) →
    (q : Spot) → q.forest ≡ node (newest p.below) kind (front ⧺ inside) → q.below ≡ drop 1 p.below →
    Is base stack (extended_by t ks c os) q
drawn_by base stack ks b c os false p e front kind inside i l s a x d h q f g = tt
drawn_by base stack ks b c os true p e front kind inside i l s a x d h q f g =
    let k = drawn_kind ks kind b e i in
    let o = drawn_end kind front inside k a.plain l in
    let u = front ⧺ inside in
    rw (f, g)
    (more base stack c (node_of ks) os (newest p.below) (node none kind u) (drop 1 p.below) h
    (kept_letter ks kind u i (plain_letter (kind == ERROR) (tells u) (names_outer u) kind k o))
    (record {
      nodes = (tt, all_are-⧺ Good front inside a.nodes x, drawn_good ks kind b front inside e i s a.plain d);
      plain = plain_node (kind == ERROR) (tells u) (names_outer u) kind o;
    }))

drawn_if : (base : Forest) (stack : List Forest) (o : Option (List ℕ)) (a : Content) (os : List Content) (p : Spot) →
    last_nodes a ≡ o → Stands base stack a os p.forest p.below → Is base stack (extended_if o a os) (extended p)
unfolding but_last last_children
drawn_if base stack None a os p e h = tt
drawn_if base stack (Some ks) a [] p e h = tt
drawn_if base stack (Some ks) a (c ∷ os) p e h =
    let t = behind_so base stack ks a (c ∷ os) p.forest p.below e h in
    let u = under_push base stack (before a) c os t.front p.below t.rest in
    drawn_by base stack ks (before a) c os (may_extend ks (before a)) p refl t.front t.kind t.inside t.is
    t.letter_is u.0.0 u.0.1 t.so t.good u.1 (extended p)
    (ap (λ (y : Forest). node (newest p.below) (last_kind y) (but_last y ⧺ last_children y)) t.tree_is) refl

-- The last node takes in what stands before it.
pub is_drawn : (base : Forest) (stack : List Forest) (x : Contents) (p : Spot) → Is base stack x p →
    Is base stack (drawn x) (extended p)
is_drawn base stack astray p h = tt
is_drawn base stack (contents a os) p h = drawn_if base stack (last_nodes a) a os p refl h

-- floats
float_chosen : {A : Type 0} (a : Content) → float_closes a ≡ true →
    (runs (model FIELD_EXPR) (onto a (node_of (NAME_REF ∷ []))) ≡ true → runs (model FIELD_EXPR) two_names ≡ true →
    is_settled a ≡ true → A) → A
float_chosen a e f =
    by_chosen (float_runs a) (is_settled a) e
    (λ h m.
    by_chosen (runs (model FIELD_EXPR) (onto a (node_of (NAME_REF ∷ [])))) (runs (model FIELD_EXPR) two_names) h
    (λ i j. f i j m))

float_accepted : (a : Content) (f : Forest) (d : Bool) → runs (model FIELD_EXPR) (onto a (node_of (NAME_REF ∷ []))) ≡ true →
    Holds a (letters f) → has_float (letters f) ≡ false → IsWhole (children_of (split f d)) →
    Accepts (model FIELD_EXPR) 0 (spelled_children (split f d))
float_accepted a f d h s n w =
    let v = whole_left (children_of f) (float_child ∷ []) w in
    let name : List Child = node_child NAME_REF ∷ [] in
    subst (λ (cs : List Child). Accepts (model FIELD_EXPR) 0 (cs ++ name)) (letters_spelled f v n)
    (runs_so (model FIELD_EXPR) (onto a (node_of (NAME_REF ∷ []))) h (letters f ++ name)
    (holds_onto a (node_of (NAME_REF ∷ [])) (letters f) name s (a_node (one_kind NAME_REF)))
    (both_whole (letters f) name (letters_whole f v) refl))

float_good : (a : Content) (f : Forest) (d : Bool) → float_closes a ≡ true → Holds a (letters f) →
    has_float (letters f) ≡ false → Good FIELD_EXPR (split f d)
float_good a f d e s n =
    float_chosen a e
    (λ i j m.
    record {
      accepted = float_accepted a f d i s n;
      calm = calm_both (letters f) (float_child ∷ []) (settled_so a (letters f) m s) (λ o. refl);
    })

outer_good : (a : Content) (c : Forest) → float_closes a ≡ true →
    Good FIELD_EXPR (node none FIELD_EXPR (split c false))
outer_good a c e =
    float_chosen a e
    (λ i j m.
    record {
      accepted =
          λ w.
          runs_so (model FIELD_EXPR) two_names j
          (node_child FIELD_EXPR ∷ leaf_child DOT ∷ node_child NAME_REF ∷ [])
          (in_order (in_order (a_node (one_kind FIELD_EXPR)) (a_leaf (one_kind DOT))) (a_node (one_kind NAME_REF))) refl;
      calm = λ n. refl;
    })

parted_so : (a : Content) (d : Bool) (c : Forest) → Holds a (letters c) → IsGood c → float_closes a ≡ true →
    AllAre Good (split_children c d) × Good FIELD_EXPR (split_children c d)
parted_so a true c s x e = (x.nodes, float_good a c true e s x.plain)
parted_so a false c s x e = ((tt, x.nodes, float_good a c false e s x.plain), outer_good a c e)

field_end : (c : Forest) (d : Bool) → names_outer (split_children c d) ≡ false
field_end c true = refl
field_end c false = refl

field_letter : (c : Forest) (d : Bool) → Holds (node_of (FIELD_EXPR ∷ [])) (letter FIELD_EXPR (split_children c d) ∷ [])
field_letter c true = a_node (one_kind FIELD_EXPR)
field_letter c false = a_node (one_kind FIELD_EXPR)

float_over : (base : Forest) (stack : List Forest) (a b : Content) (os : List Content) (d : Bool) (c g : Forest)
    (s : List Forest)
    (t : Bool) → float_closes a ≡ t → Holds a (letters c) → IsGood c → Stands base stack b os g s →
    (q : Spot) → q.forest ≡ node g FIELD_EXPR (split_children c d) → q.below ≡ s →
    Is base stack (closed_if t (node_of (FIELD_EXPR ∷ [])) b os) q
float_over base stack a b os d c g s false y i x h q e j = tt
float_over base stack a b os d c g s true y i x h q e j =
    let u = parted_so a d c i x y in
    node_over base stack FIELD_EXPR (node_of (FIELD_EXPR ∷ [])) b os (split_children c d) g s true
    (field_letter c d) (λ z. u.1) u.0 (field_end c d) h q e j

-- A float is taken apart.
pub is_parted : (base : Forest) (stack : List Forest) (d : Bool) (x : Contents) (p : Spot) → Is base stack x p →
    Is base stack (parted x) (split_apart d p)
is_parted base stack d astray p h = tt
is_parted base stack d (contents a []) p h = tt
is_parted base stack d (contents a (b ∷ os)) p h =
    let u = under_push base stack a b os p.forest p.below h in
    float_over base stack a b os d p.forest (newest p.below) (drop 1 p.below) (float_closes a) refl u.0.0 u.0.1
    u.1 (split_apart d p) refl refl

-- contents that are the same under older nodes
pub equal_older_so : (os bs : List Content) → equal_older os bs ≡ true → os ≡ bs
equal_older_so [] [] h = refl
equal_older_so [] (b ∷ bs) h = absurd cc
equal_older_so (a ∷ os) [] h = absurd cc
equal_older_so (a ∷ os) (b ∷ bs) h =
    by_chosen (equal a b) (equal_older os bs) h (λ e i. rw (equal_so a b e, equal_older_so os bs i) refl)

-- What holds more may stand there too.
pub wider : (base : Forest) (stack : List Forest) (a c : Content) (os : List Content) (f : Forest) (b : List Forest) →
    ((cs : List Child) → Holds a cs → Holds c cs) → Stands base stack a os f b → Stands base stack c os f b
wider base stack a c [] f b w h = record {
  new = h.new;
  forest = h.forest;
  below = h.below;
  holds = w (letters h.new) h.holds;
  so = h.so;
}
wider base stack a c (n ∷ os) f [] w h = absurd h
wider base stack a c (n ∷ os) f (g ∷ b) w h = ((w (letters f) h.0.0, h.0.1), h.1)

if_left : (base : Forest) (stack : List Forest) (t : Bool) (a b : Content) (os : List Content) (p : Spot) →
    Stands base stack a os p.forest p.below → Is base stack (joined_if t a b os) p
if_left base stack true a b os p h =
    wider base stack a (either_of a b) os p.forest p.below (λ cs s. holds_first a b cs s) h
if_left base stack false a b os p h = tt

if_right : (base : Forest) (stack : List Forest) (t : Bool) (a b : Content) (os bs : List Content) (p : Spot) →
    (t ≡ true → os ≡ bs) → Stands base stack b bs p.forest p.below → Is base stack (joined_if t a b os) p
if_right base stack true a b os bs p e h =
    rw (e refl) (wider base stack b (either_of a b) bs p.forest p.below (λ cs s. holds_second a b cs s) h)
if_right base stack false a b os bs p e h = tt

-- Either of two contents stands there.
pub is_left : (base : Forest) (stack : List Forest) (x y : Contents) (p : Spot) → Is base stack x p →
    Is base stack (either x y) p
is_left base stack astray y p h = tt
is_left base stack (contents a os) astray p h = tt
is_left base stack (contents a os) (contents b bs) p h = if_left base stack (equal_older os bs) a b os p h

pub is_right : (base : Forest) (stack : List Forest) (x y : Contents) (p : Spot) → Is base stack y p →
    Is base stack (either x y) p
is_right base stack astray y p h = tt
is_right base stack (contents a os) astray p h = tt
is_right base stack (contents a os) (contents b bs) p h =
    if_right base stack (equal_older os bs) a b os bs p (equal_older_so os bs) h
