-- The children under an open node as its contents see them: an ERROR in which a message is counts as a message, and a
-- field that ends in the first number of a float as that float. And what is claimed of each node that is finished.
use Rattle.std.proofs.Common.{append_assoc, append-nil, ◌≡◌, ◌==◌, ◌&&◌, ◌||◌, not, ℕ, ◌+◌, Bool, true, false, List, [], ◌∷◌, ◌++◌, refl, sym, ap, ◌∙◌, subst, arith}
use Rattle.rap_base.specs.NodeKind.{NAME_REF}
use Rattle.rap_base.specs.TokenKind.{ERROR}
use Rattle.rap_events.specs.Forest.{Forest, none, node, leaf, message, split, ◌⧺◌, message_count}
use Rattle.rap_grammar_ends.specs.StandsIn.{NodeAt, last_node, in_last_node, before_node, before_leaf, before_message, before_split}
use Rattle.rap_grammar_table.specs.Shapes.{Child, leaf_child, node_child, message_child, float_child, children_of}
use Rattle.rap_grammar_shapes.specs.Spelled.{number_behind, spelled_children}
use Rattle.rap_grammar_shapes.specs.Whole.{IsWhole}
use Rattle.rap_grammar_shapes.proofs.Automata.{Accepts}
use Rattle.rap_grammar_shapes.proofs.Content.{has_message, has_float}
use Rattle.rap_grammar_shapes.proofs.ContentLaws.{told_in, both_whole, whole_left, whole_right, no_float_both, no_float_left, no_float_right, IsCalm}
use Rattle.rap_grammar_shapes.proofs.Models.{model}

-- whether a message is in a forest, wherever it stands
abbrev pub tells : Forest → Bool
tells none = false
tells (node f k c) = tells f || tells c
tells (leaf f k w) = tells f
tells (message f m) = true
tells (split f d) = tells f

-- whether the number behind a float's dot stands behind the field that ends so
abbrev pub names_outer : Forest → Bool
names_outer none = false
names_outer (node f k c) = false
names_outer (leaf f k w) = false
names_outer (message f m) = false
names_outer (split f d) = not d

-- the letter of a node, by whether it is an ERROR, whether a message is in it, and whether it ends so
abbrev pub letter_of : Bool → Bool → Bool → ℕ → Child
letter_of true true o k = message_child
letter_of true false o k = node_child k
letter_of false t true k = float_child
letter_of false t false k = node_child k

abbrev pub letter : ℕ → Forest → Child
letter k c = letter_of (k == ERROR) (tells c) (names_outer c) k

abbrev pub letters : Forest → List Child
letters none = []
letters (node f k c) = letters f ++ letter k c ∷ []
letters (leaf f k w) = letters f ++ leaf_child k ∷ []
letters (message f m) = letters f ++ message_child ∷ []
letters (split f d) = letters f ++ float_child ∷ []

pub letters-⧺ : (x u : Forest) → letters (x ⧺ u) ≡ letters x ++ letters u
letters-⧺ x none = sym (append-nil (letters x))
letters-⧺ x (node u k c) = rw (letters-⧺ x u) (append_assoc (letters x) (letters u) (letter k c ∷ []))
letters-⧺ x (leaf u k w) = rw (letters-⧺ x u) (append_assoc (letters x) (letters u) (leaf_child k ∷ []))
letters-⧺ x (message u m) = rw (letters-⧺ x u) (append_assoc (letters x) (letters u) (message_child ∷ []))
letters-⧺ x (split u d) = rw (letters-⧺ x u) (append_assoc (letters x) (letters u) (float_child ∷ []))

-- Where the children are whole, so are these; and where no float is among them, they are what a shape spells.
pub no_error_kind : (k : ℕ) → (not (k == ERROR) && true) ≡ true → (k == ERROR) ≡ false
no_error_kind k h = by_kind (k == ERROR) h
  where
    by_kind : (b : Bool) → (not b && true) ≡ true → b ≡ false
    by_kind true h = absurd cc
    by_kind false h = refl

plain_whole : (k : ℕ) (t o : Bool) → (k == ERROR) ≡ false → IsWhole (letter_of false t o k ∷ [])
plain_whole k t true e = refl
plain_whole k t false e = subst (λ (c : Bool). (not c && true) ≡ true) (sym e) refl

pub letter_whole : (k : ℕ) (t o : Bool) → (k == ERROR) ≡ false → IsWhole (letter_of (k == ERROR) t o k ∷ [])
letter_whole k t o e =
    subst (λ (b : Bool). IsWhole (letter_of b t o k ∷ [])) (sym e) (plain_whole k t o e)

pub letters_whole : (f : Forest) → IsWhole (children_of f) → IsWhole (letters f)
letters_whole none w = refl
letters_whole (node f k c) w =
    both_whole (letters f) (letter k c ∷ []) (letters_whole f (whole_left (children_of f) (node_child k ∷ []) w))
    (letter_whole k (tells c) (names_outer c)
    (no_error_kind k (whole_right (children_of f) (node_child k ∷ []) w)))
letters_whole (leaf f k v) w =
    both_whole (letters f) (leaf_child k ∷ []) (letters_whole f (whole_left (children_of f) (leaf_child k ∷ []) w)) refl
letters_whole (message f m) w =
    absurd (let z : false ≡ true = whole_right (children_of f) (message_child ∷ []) w in cc)
letters_whole (split f d) w =
    both_whole (letters f) (float_child ∷ []) (letters_whole f (whole_left (children_of f) (float_child ∷ []) w)) refl

not_outer : (b t o : Bool) (k : ℕ) → b ≡ false → has_float (letter_of b t o k ∷ []) ≡ false → o ≡ false
not_outer true t o k e n = absurd cc
not_outer false t true k e n = absurd (let z : true ≡ false = n in cc)
not_outer false t false k e n = refl

pub plain_letter : (b t o : Bool) (k : ℕ) → b ≡ false → o ≡ false → letter_of b t o k ≡ node_child k
plain_letter true t o k e h = absurd cc
plain_letter false t true k e h = absurd cc
plain_letter false t false k e h = refl

none_behind : (c : Forest) → names_outer c ≡ false → number_behind c ≡ []
none_behind none h = refl
none_behind (node f k c) h = refl
none_behind (leaf f k w) h = refl
none_behind (message f m) h = refl
none_behind (split f true) h = refl
none_behind (split f false) h = absurd cc

pub letters_spelled : (f : Forest) → IsWhole (children_of f) → has_float (letters f) ≡ false →
    letters f ≡ spelled_children f
letters_spelled none w n = refl
letters_spelled (node f k c) w n =
    let e = no_error_kind k (whole_right (children_of f) (node_child k ∷ []) w) in
    let o =
    not_outer (k == ERROR) (tells c) (names_outer c) k e (no_float_right (letters f) (letter k c ∷ []) n) in
    let i =
    letters_spelled f (whole_left (children_of f) (node_child k ∷ []) w)
    (no_float_left (letters f) (letter k c ∷ []) n) in
    rw (i, none_behind c o, plain_letter (k == ERROR) (tells c) (names_outer c) k e o) refl
letters_spelled (leaf f k v) w n =
    rw
    (letters_spelled f (whole_left (children_of f) (leaf_child k ∷ []) w)
    (no_float_left (letters f) (leaf_child k ∷ []) n)) refl
letters_spelled (message f m) w n =
    absurd (let z : false ≡ true = whole_right (children_of f) (message_child ∷ []) w in cc)
letters_spelled (split f d) w n =
    absurd (let z : true ≡ false = no_float_right (letters f) (float_child ∷ []) n in cc)

-- A forest without a float among its children ends in none.
pub ends_in_none : (f : Forest) → has_float (letters f) ≡ false → names_outer f ≡ false
ends_in_none none n = refl
ends_in_none (node f k c) n = refl
ends_in_none (leaf f k w) n = refl
ends_in_none (message f m) n = refl
ends_in_none (split f d) n = absurd (let z : true ≡ false = no_float_right (letters f) (float_child ∷ []) n in cc)

pub outer-⧺ : (f u : Forest) → names_outer f ≡ false → names_outer u ≡ false → names_outer (f ⧺ u) ≡ false
outer-⧺ f none h i = h
outer-⧺ f (node u k c) h i = refl
outer-⧺ f (leaf u k w) h i = refl
outer-⧺ f (message u m) h i = refl
outer-⧺ f (split u d) h i = i

-- what a shape spells of two forests
pub spelled-⧺ : (x u : Forest) → spelled_children (x ⧺ u) ≡ spelled_children x ++ spelled_children u
spelled-⧺ x none = sym (append-nil (spelled_children x))
spelled-⧺ x (node u k c) =
    rw (spelled-⧺ x u) (append_assoc (spelled_children x) (spelled_children u) (node_child k ∷ number_behind c))
spelled-⧺ x (leaf u k w) =
    rw (spelled-⧺ x u) (append_assoc (spelled_children x) (spelled_children u) (leaf_child k ∷ []))
spelled-⧺ x (message u m) =
    rw (spelled-⧺ x u) (append_assoc (spelled_children x) (spelled_children u) (message_child ∷ []))
spelled-⧺ x (split u d) =
    rw (spelled-⧺ x u) (append_assoc (spelled_children x) (spelled_children u) (node_child NAME_REF ∷ []))

-- A message among them is in the forest.
letter_tells : (b t o : Bool) (k : ℕ) → has_message (letter_of b t o k ∷ []) ≡ true → t ≡ true
letter_tells true true o k h = refl
letter_tells true false o k h = absurd cc
letter_tells false t true k h = absurd cc
letter_tells false t false k h = absurd cc

or_first : (t u : Bool) → t ≡ true → (t || u) ≡ true
or_first true u h = refl
or_first false u h = absurd cc

or_second : (t u : Bool) → u ≡ true → (t || u) ≡ true
or_second true u h = refl
or_second false u h = h

pub told_tells : (f : Forest) → has_message (letters f) ≡ true → tells f ≡ true
told_tells none h = absurd cc
told_tells (node f k c) h =
    told_in (letters f) (letter k c ∷ []) h (λ i. or_first (tells f) (tells c) (told_tells f i))
    (λ i. or_second (tells f) (tells c) (letter_tells (k == ERROR) (tells c) (names_outer c) k i))
told_tells (leaf f k w) h = told_in (letters f) (leaf_child k ∷ []) h (λ i. told_tells f i) (λ i. absurd cc)
told_tells (message f m) h = refl
told_tells (split f d) h = told_in (letters f) (float_child ∷ []) h (λ i. told_tells f i) (λ i. absurd cc)

-- what is known of nodes, and that it is so of all nodes of a forest
abbrev pub OfNodes : Type 1
OfNodes = ℕ → Forest → Type 0

abbrev pub AllAre : OfNodes → Forest → Type 0
AllAre H none = Unit {0}
AllAre H (node f k c) = AllAre H f × AllAre H c × H k c
AllAre H (leaf f k w) = AllAre H f
AllAre H (message f m) = AllAre H f
AllAre H (split f d) = AllAre H f

pub all_are-⧺ : (H : OfNodes) (x u : Forest) → AllAre H x → AllAre H u → AllAre H (x ⧺ u)
all_are-⧺ H x none a b = a
all_are-⧺ H x (node u k c) a b = (all_are-⧺ H x u a b.0, b.1, b.2)
all_are-⧺ H x (leaf u k w) a b = all_are-⧺ H x u a b
all_are-⧺ H x (message u m) a b = all_are-⧺ H x u a b
all_are-⧺ H x (split u d) a b = all_are-⧺ H x u a b

pub found_so : (H : OfNodes) {t children : Forest} {place kind : ℕ} → NodeAt t place kind children → AllAre H t →
    H kind children
found_so H last_node a = a.2
found_so H (in_last_node p) a = found_so H p a.1
found_so H (before_node p) a = found_so H p a.0
found_so H (before_leaf p) a = found_so H p a
found_so H (before_message p) a = found_so H p a
found_so H (before_split p) a = found_so H p a

pub are_wider : (H K : OfNodes) → ((k : ℕ) (c : Forest) → H k c → K k c) → (f : Forest) → AllAre H f → AllAre K f
are_wider H K w none a = tt
are_wider H K w (node f k c) a = (are_wider H K w f a.0, are_wider H K w c a.1, w k c a.2)
are_wider H K w (leaf f k v) a = are_wider H K w f a
are_wider H K w (message f m) a = are_wider H K w f a
are_wider H K w (split f d) a = are_wider H K w f a

-- What is claimed of each node: what its shape spells is accepted, if no message and no ERROR is among its children; and
-- where no message is among them, none is an ERROR.
pub record Good (kind : ℕ) (inside : Forest) : Type 0 where
  pub accepted : IsWhole (children_of inside) → Accepts (model kind) 0 (spelled_children inside)
  pub calm : IsCalm (letters inside)

-- All nodes of a forest are so, and no float is among its children.
pub record IsGood (f : Forest) : Type 0 where
  pub nodes : AllAre Good f
  pub plain : has_float (letters f) ≡ false

pub good-⧺ : (f g : Forest) → IsGood f → IsGood g → IsGood (f ⧺ g)
good-⧺ f g h i =
    record {
      nodes = all_are-⧺ Good f g h.nodes i.nodes;
      plain =
          subst (λ (cs : List Child). has_float cs ≡ false) (sym (letters-⧺ f g))
          (no_float_both (letters f) (letters g) h.plain i.plain);
    }

-- the messages of two forests
pub messages-⧺ : (f g : Forest) → message_count (f ⧺ g) ≡ message_count f + message_count g
messages-⧺ f none = omega arith
messages-⧺ f (node b k x) = omega (arith, messages-⧺ f b)
messages-⧺ f (leaf b k w) = messages-⧺ f b
messages-⧺ f (message b m) = omega (arith, messages-⧺ f b)
messages-⧺ f (split b d) = messages-⧺ f b

-- Where no message is in a forest, none is in its parts, nor among its children.
no_message : (f : Forest) → message_count f ≡ 0 → tells f ≡ false
no_message none h = refl
no_message (node f k c) h =
    let a : message_count f ≡ 0 = omega (arith, h) in let b : message_count c ≡ 0 = omega (arith, h) in
    rw (no_message f a, no_message c b) refl
no_message (leaf f k w) h = no_message f h
no_message (message f m) h = absurd (omega (arith, h))
no_message (split f d) h = no_message f h

by_answer : {A : Type 0} (t : Bool) → (t ≡ true → A) → (t ≡ false → A) → A
by_answer true f g = f refl
by_answer false f g = g refl

untold : (f : Forest) → message_count f ≡ 0 → has_message (letters f) ≡ false
untold f h =
    by_answer (has_message (letters f))
    (λ i. absurd (let z : true ≡ false = sym (told_tells f i) ∙ no_message f h in cc)) (λ i. i)

no_whole_error : (t o : Bool) → IsWhole (letter_of (ERROR == ERROR) t o ERROR ∷ []) → ⊥
no_whole_error true o w = let z : false ≡ true = w in absurd cc
no_whole_error false o w = let z : false ≡ true = w in absurd cc

-- None of its nodes is an ERROR then.
no_error : (f : Forest) → AllAre Good f → IsWhole (letters f) → message_count f ≡ 0 → (place : ℕ) (children : Forest) →
    NodeAt f place ERROR children → ⊥
no_error none a w h place children n = elim n [ ]
no_error (node f k c) a w h place children last_node =
    no_whole_error (tells c) (names_outer c) (whole_right (letters f) (letter ERROR c ∷ []) w)
no_error (node f k c) a w h place children (in_last_node n) =
    let i : message_count c ≡ 0 = omega (arith, h) in
    no_error c a.1 (a.2.calm (untold c i)) i _ children n
no_error (node f k c) a w h place children (before_node n) =
    no_error f a.0 (whole_left (letters f) (letter k c ∷ []) w) (omega (arith, h)) place children n
no_error (leaf f k v) a w h place children (before_leaf n) =
    no_error f a (whole_left (letters f) (leaf_child k ∷ []) w) h place children n
no_error (message f m) a w h place children (before_message n) = absurd (omega (arith, h))
no_error (split f d) a w h place children (before_split n) =
    no_error f a (whole_left (letters f) (float_child ∷ []) w) h place children n

pub all_told : (f : Forest) → AllAre Good f → IsCalm (letters f) → message_count f ≡ 0 → (place : ℕ) (children : Forest) →
    NodeAt f place ERROR children → ⊥
all_told f a c h place children n = no_error f a (c (untold f h)) h place children n
