-- What holds of contents that are put together.
use Rattle.std.proofs.Common.{◌≡◌, ◌==◌, ◌&&◌, ◌||◌, not, ℕ, Bool, true, false, List, [], ◌∷◌, ◌++◌, append_assoc, append-nil, refl, sym, subst, ap, ◌∙◌}
use Rattle.rap_base.specs.TokenKind.{ERROR}
use Rattle.rap_events.proofs.Truth.{and_left, and_right, or_left, or_right}
use Rattle.rap_grammar_table.specs.Known.{among}
use Rattle.rap_grammar_table.specs.Shapes.{Child, leaf_child, node_child, message_child, float_child}
use Rattle.rap_grammar_table.proofs.Known.{by_or, same_number}
use Rattle.rap_grammar_shapes.specs.Whole.{is_sound, are_sound, IsWhole}
use Rattle.rap_grammar_shapes.proofs.Content.{Content, nothing, leaf_of, any_leaf, node_of, a_float, spoilt, owed, ◌⋅◌, ◌or◌, any_of, is_message, has_message, is_float, has_float, Holds, no_child, a_leaf, some_leaf, a_node, the_float, is_told, not_whole, in_order, by_first, by_second, no_more, one_more, choose, equal_kinds, equal, added, united, is_way, begins, continued, put_sequence, put_leaves, put_nodes, or_nothing, either_of, spoils, append, onto, many, is_lost, is_settled}

-- what is so of the one that is chosen
pub by_choice : {A : Type 0} (P : A → Type 0) (t : Bool) (a b : A) → (t ≡ true → P a) → (t ≡ false → P b) →
    P (choose t a b)
by_choice P true a b f g = f refl
by_choice P false a b f g = g refl

-- what comes of both answers
pub by_chosen : {A : Type 0} (t b : Bool) → choose t b false ≡ true → (t ≡ true → b ≡ true → A) → A
by_chosen true b h f = f refl h
by_chosen false b h f = absurd cc

pub by_either : {A : Type 0} (t b : Bool) → choose t true b ≡ true → (t ≡ true → A) → (b ≡ true → A) → A
by_either true b h f g = f refl
by_either false b h f g = g h

-- kinds that are the same
pub equal_kinds_so : (ks js : List ℕ) → equal_kinds ks js ≡ true → ks ≡ js
equal_kinds_so [] [] h = refl
equal_kinds_so [] (j ∷ js) h = absurd cc
equal_kinds_so (k ∷ ks) [] h = absurd cc
equal_kinds_so (k ∷ ks) (j ∷ js) h =
    by_chosen (k == j) (equal_kinds ks js) h (λ e i. rw (same_number k j e, equal_kinds_so ks js i) refl)

-- contents that are the same
pub equal_so : (a b : Content) → equal a b ≡ true → a ≡ b
equal_so nothing nothing h = refl
equal_so (leaf_of ks) (leaf_of js) h = ap (λ (x : List ℕ). leaf_of x) (equal_kinds_so ks js h)
equal_so any_leaf any_leaf h = refl
equal_so (node_of ks) (node_of js) h = ap (λ (x : List ℕ). node_of x) (equal_kinds_so ks js h)
equal_so a_float a_float h = refl
equal_so spoilt spoilt h = refl
equal_so owed owed h = refl
equal_so (a ⋅ b) (x ⋅ y) h = by_chosen (equal a x) (equal b y) h (λ e i. rw (equal_so a x e, equal_so b y i) refl)
equal_so (a or b) (x or y) h = by_chosen (equal a x) (equal b y) h (λ e i. rw (equal_so a x e, equal_so b y i) refl)
equal_so (any_of a) (any_of x) h = ap (λ (y : Content). any_of y) (equal_so a x h)
equal_so a b h = absurd cc

-- what is of the one is of the other
as_other : (a b : Content) (cs : List Child) → equal a b ≡ true → Holds a cs → Holds b cs
as_other a b cs h s = subst (λ (x : Content). Holds x cs) (equal_so a b h) s

as_first : (a b : Content) (cs : List Child) → equal a b ≡ true → Holds b cs → Holds a cs
as_first a b cs h s = subst (λ (x : Content). Holds x cs) (sym (equal_so a b h)) s

-- an alternative is within the whole
pub way_so : (a b : Content) (cs : List Child) → is_way a b ≡ true → Holds a cs → Holds b cs
way_so a (b or c) cs h s =
    by_either (equal a (b or c)) (choose (is_way a b) true (is_way a c)) h (λ e. as_other a (b or c) cs e s)
    (λ i.
    by_either (is_way a b) (is_way a c) i (λ j. by_first (way_so a b cs j s)) (λ j. by_second (way_so a c cs j s)))
way_so a nothing cs h s = as_other a nothing cs h s
way_so a (leaf_of ks) cs h s = as_other a (leaf_of ks) cs h s
way_so a any_leaf cs h s = as_other a any_leaf cs h s
way_so a (node_of ks) cs h s = as_other a (node_of ks) cs h s
way_so a a_float cs h s = as_other a a_float cs h s
way_so a spoilt cs h s = as_other a spoilt cs h s
way_so a owed cs h s = as_other a owed cs h s
way_so a (b ⋅ c) cs h s = as_other a (b ⋅ c) cs h s
way_so a (any_of b) cs h s = as_other a (any_of b) cs h s

-- kinds of two lists
added_keeps : (b : Bool) (x k : ℕ) (js : List ℕ) → among js k ≡ true → among (added b x js) k ≡ true
added_keeps true x k js m = m
added_keeps false x k js m = or_right (x == k) (among js k) m

added_one : (b : Bool) (x k : ℕ) (js : List ℕ) → (b ≡ true → among js k ≡ true) → (x == k) ≡ true →
    among (added b x js) k ≡ true
added_one true x k js m h = m refl
added_one false x k js m h = or_left (x == k) (among js k) h

-- each of the second list is among both
pub united_right : (ks js : List ℕ) (k : ℕ) → among js k ≡ true → among (united ks js) k ≡ true
united_right [] js k m = m
united_right (x ∷ ks) js k m = added_keeps (among js x) x k (united ks js) (united_right ks js k m)

-- each of the first list is among both
pub united_left : (ks js : List ℕ) (k : ℕ) → among ks k ≡ true → among (united ks js) k ≡ true
united_left [] js k m = absurd cc
united_left (x ∷ ks) js k m =
    by_or (x == k) (among ks k) m
    (λ h. added_one (among js x) x k (united ks js)
    (λ n. united_right ks js k (subst (λ (y : ℕ). among js y ≡ true) (same_number x k h) n)) h)
    (λ h. added_keeps (among js x) x k (united ks js) (united_left ks js k h))

leaves_left : (ks js : List ℕ) (cs : List Child) → Holds (leaf_of ks) cs → Holds (leaf_of (united ks js)) cs
leaves_left ks js cs (a_leaf {kind = k} m) = a_leaf (united_left ks js k m)

leaves_right : (ks js : List ℕ) (cs : List Child) → Holds (leaf_of js) cs → Holds (leaf_of (united ks js)) cs
leaves_right ks js cs (a_leaf {kind = k} m) = a_leaf (united_right ks js k m)

nodes_left : (ks js : List ℕ) (cs : List Child) → Holds (node_of ks) cs → Holds (node_of (united ks js)) cs
nodes_left ks js cs (a_node {kind = k} m) = a_node (united_left ks js k m)

nodes_right : (ks js : List ℕ) (cs : List Child) → Holds (node_of js) cs → Holds (node_of (united ks js)) cs
nodes_right ks js cs (a_node {kind = k} m) = a_node (united_right ks js k m)

-- the alternatives, and one more: leaves
leaves_new : (ks : List ℕ) (b : Content) (cs : List Child) → Holds (leaf_of ks) cs → Holds (put_leaves ks b) cs
leaves_new ks (leaf_of js) cs s = leaves_left ks js cs s
leaves_new ks (leaf_of js or q) cs s = by_first (leaves_left ks js cs s)
leaves_new ks (p or q) cs s = by_second (leaves_new ks q cs s)
leaves_new ks b cs s = by_second s

leaves_old : (ks : List ℕ) (b : Content) (cs : List Child) → Holds b cs → Holds (put_leaves ks b) cs
leaves_old ks (leaf_of js) cs s = leaves_right ks js cs s
leaves_old ks (leaf_of js or q) cs (by_first s) = by_first (leaves_right ks js cs s)
leaves_old ks (leaf_of js or q) cs (by_second s) = by_second s
leaves_old ks (p or q) cs (by_first s) = by_first s
leaves_old ks (p or q) cs (by_second s) = by_second (leaves_old ks q cs s)
leaves_old ks b cs s = by_first s

-- nodes
nodes_new : (ks : List ℕ) (b : Content) (cs : List Child) → Holds (node_of ks) cs → Holds (put_nodes ks b) cs
nodes_new ks (node_of js) cs s = nodes_left ks js cs s
nodes_new ks (node_of js or q) cs s = by_first (nodes_left ks js cs s)
nodes_new ks (p or q) cs s = by_second (nodes_new ks q cs s)
nodes_new ks b cs s = by_second s

nodes_old : (ks : List ℕ) (b : Content) (cs : List Child) → Holds b cs → Holds (put_nodes ks b) cs
nodes_old ks (node_of js) cs s = nodes_right ks js cs s
nodes_old ks (node_of js or q) cs (by_first s) = by_first (nodes_right ks js cs s)
nodes_old ks (node_of js or q) cs (by_second s) = by_second s
nodes_old ks (p or q) cs (by_first s) = by_first s
nodes_old ks (p or q) cs (by_second s) = by_second (nodes_old ks q cs s)
nodes_old ks b cs s = by_first s

-- A sequence: its head, what stands behind it, and what goes on as that does.
record Sequel (h s : Content) (f : Content → Content) (cs : List Child) : Type 0 where
  head : List Child
  rest : List Child
  whole : cs ≡ head ++ rest
  first : Holds h head
  goes_on : (d : Content) → Holds (f d) rest

continued_new : (h s : Content) (f : Content → Content) (b : Content) (cs : List Child) → begins h b ≡ true →
    Sequel h s f cs → Holds (continued f b) cs
continued_new h s f (c ⋅ d) cs e r = rw r.whole (in_order (as_other h c r.head e r.first) (r.goes_on d))
continued_new h s f nothing cs e r = rw r.whole (in_order (as_other h nothing r.head e r.first) (r.goes_on nothing))
continued_new h s f (leaf_of ks) cs e r =
    rw r.whole (in_order (as_other h (leaf_of ks) r.head e r.first) (r.goes_on nothing))
continued_new h s f any_leaf cs e r = rw r.whole (in_order (as_other h any_leaf r.head e r.first) (r.goes_on nothing))
continued_new h s f (node_of ks) cs e r =
    rw r.whole (in_order (as_other h (node_of ks) r.head e r.first) (r.goes_on nothing))
continued_new h s f a_float cs e r = rw r.whole (in_order (as_other h a_float r.head e r.first) (r.goes_on nothing))
continued_new h s f spoilt cs e r = rw r.whole (in_order (as_other h spoilt r.head e r.first) (r.goes_on nothing))
continued_new h s f owed cs e r = rw r.whole (in_order (as_other h owed r.head e r.first) (r.goes_on nothing))
continued_new h s f (a or b) cs e r =
    rw r.whole (in_order (as_other h (a or b) r.head e r.first) (r.goes_on nothing))
continued_new h s f (any_of a) cs e r =
    rw r.whole (in_order (as_other h (any_of a) r.head e r.first) (r.goes_on nothing))

-- what goes on holds what did before
abbrev Widens : (Content → Content) → Type 0
Widens f = (d : Content) (cs : List Child) → Holds d cs → Holds (f d) cs

behind_it : (c : Content) (f : Content → Content) (cs : List Child) → Widens f → Holds c cs → Holds (c ⋅ f nothing) cs
behind_it c f cs w s =
    subst (λ (es : List Child). Holds (c ⋅ f nothing) es) (append-nil cs) (in_order s (w nothing [] no_child))

continued_old : (f : Content → Content) (b : Content) (cs : List Child) → Widens f → Holds b cs →
    Holds (continued f b) cs
continued_old f (c ⋅ d) cs w (in_order {cs = xs} {ds = ys} s t) = in_order s (w d ys t)
continued_old f nothing cs w s = behind_it nothing f cs w s
continued_old f (leaf_of ks) cs w s = behind_it (leaf_of ks) f cs w s
continued_old f any_leaf cs w s = behind_it any_leaf f cs w s
continued_old f (node_of ks) cs w s = behind_it (node_of ks) f cs w s
continued_old f a_float cs w s = behind_it a_float f cs w s
continued_old f spoilt cs w s = behind_it spoilt f cs w s
continued_old f owed cs w s = behind_it owed f cs w s
continued_old f (a or b) cs w s = behind_it (a or b) f cs w s
continued_old f (any_of a) cs w s = behind_it (any_of a) f cs w s

-- the choice that `put_sequence` makes at a content without alternatives
one_new : (h s : Content) (f : Content → Content) (b : Content) (cs : List Child) → Holds s cs → Sequel h s f cs →
    Holds (choose (begins h b) (continued f b) (b or s)) cs
one_new h s f b cs t r =
    by_choice (λ (x : Content). Holds x cs) (begins h b) (continued f b) (b or s)
    (λ e. continued_new h s f b cs e r) (λ e. by_second t)

one_old : (h s : Content) (f : Content → Content) (b : Content) (cs : List Child) → Widens f → Holds b cs →
    Holds (choose (begins h b) (continued f b) (b or s)) cs
one_old h s f b cs w t =
    by_choice (λ (x : Content). Holds x cs) (begins h b) (continued f b) (b or s) (λ e. continued_old f b cs w t)
    (λ e. by_first t)

sequence_new : (h s : Content) (f : Content → Content) (b : Content) (cs : List Child) → Holds s cs →
    Sequel h s f cs → Holds (put_sequence h s f b) cs
sequence_new h s f nothing cs t r = by_second t
sequence_new h s f (p or q) cs t r =
    by_choice (λ (x : Content). Holds x cs) (begins h p) (continued f p or q) (p or put_sequence h s f q)
    (λ e. by_first (continued_new h s f p cs e r)) (λ e. by_second (sequence_new h s f q cs t r))
sequence_new h s f (leaf_of ks) cs t r = one_new h s f (leaf_of ks) cs t r
sequence_new h s f any_leaf cs t r = one_new h s f any_leaf cs t r
sequence_new h s f (node_of ks) cs t r = one_new h s f (node_of ks) cs t r
sequence_new h s f a_float cs t r = one_new h s f a_float cs t r
sequence_new h s f spoilt cs t r = one_new h s f spoilt cs t r
sequence_new h s f owed cs t r = one_new h s f owed cs t r
sequence_new h s f (c ⋅ d) cs t r = one_new h s f (c ⋅ d) cs t r
sequence_new h s f (any_of a) cs t r = one_new h s f (any_of a) cs t r

sequence_old : (h s : Content) (f : Content → Content) (b : Content) (cs : List Child) → Widens f → Holds b cs →
    Holds (put_sequence h s f b) cs
sequence_old h s f nothing cs w t = by_first t
sequence_old h s f (p or q) cs w (by_first t) =
    by_choice (λ (x : Content). Holds x cs) (begins h p) (continued f p or q) (p or put_sequence h s f q)
    (λ e. by_first (continued_old f p cs w t)) (λ e. by_first t)
sequence_old h s f (p or q) cs w (by_second t) =
    by_choice (λ (x : Content). Holds x cs) (begins h p) (continued f p or q) (p or put_sequence h s f q)
    (λ e. by_second t) (λ e. by_second (sequence_old h s f q cs w t))
sequence_old h s f (leaf_of ks) cs w t = one_old h s f (leaf_of ks) cs w t
sequence_old h s f any_leaf cs w t = one_old h s f any_leaf cs w t
sequence_old h s f (node_of ks) cs w t = one_old h s f (node_of ks) cs w t
sequence_old h s f a_float cs w t = one_old h s f a_float cs w t
sequence_old h s f spoilt cs w t = one_old h s f spoilt cs w t
sequence_old h s f owed cs w t = one_old h s f owed cs w t
sequence_old h s f (c ⋅ d) cs w t = one_old h s f (c ⋅ d) cs w t
sequence_old h s f (any_of a) cs w t = one_old h s f (any_of a) cs w t

-- nothing too
nothing_new : (b : Content) → Holds (or_nothing b) []
nothing_new b =
    by_choice (λ (x : Content). Holds x []) (is_way nothing b) b (b or nothing) (λ e. way_so nothing b [] e no_child)
    (λ e. by_second no_child)

nothing_old : Widens or_nothing
nothing_old b cs s =
    by_choice (λ (x : Content). Holds x cs) (is_way nothing b) b (b or nothing) (λ e. s) (λ e. by_first s)

-- the alternative, or all with one more
unless_way : (a b more : Content) (cs : List Child) → Holds a cs → Holds more cs → Holds (choose (is_way a b) b more) cs
unless_way a b more cs s t =
    by_choice (λ (x : Content). Holds x cs) (is_way a b) b more (λ e. way_so a b cs e s) (λ e. t)

or_same : (a b more : Content) (cs : List Child) → Holds b cs → Holds more cs → Holds (choose (is_way a b) b more) cs
or_same a b more cs s t = by_choice (λ (x : Content). Holds x cs) (is_way a b) b more (λ e. s) (λ e. t)

alone : (a : Content) (cs : List Child) → Holds a cs → Sequel a a or_nothing cs
alone a cs s =
    record { head = cs; rest = []; whole = sym (append-nil cs); first = s; goes_on = λ d. nothing_new d }

-- Either of two contents holds what the second does.
pub holds_second : (a b : Content) (cs : List Child) → Holds b cs → Holds (either_of a b) cs
holds_second nothing b cs s = nothing_old b cs s
holds_second (leaf_of ks) b cs s = or_same (leaf_of ks) b (put_leaves ks b) cs s (leaves_old ks b cs s)
holds_second (node_of ks) b cs s = or_same (node_of ks) b (put_nodes ks b) cs s (nodes_old ks b cs s)
holds_second (x ⋅ y) b cs s =
    or_same (x ⋅ y) b (put_sequence x (x ⋅ y) (λ d. either_of y d) b) cs s
    (sequence_old x (x ⋅ y) (λ d. either_of y d) b cs (λ d ds t. holds_second y d ds t) s)
holds_second (x or y) b cs s =
    or_same (x or y) b (either_of x (either_of y b)) cs s (holds_second x (either_of y b) cs (holds_second y b cs s))
holds_second any_leaf b cs s =
    or_same any_leaf b (put_sequence any_leaf any_leaf or_nothing b) cs s
    (sequence_old any_leaf any_leaf or_nothing b cs nothing_old s)
holds_second a_float b cs s =
    or_same a_float b (put_sequence a_float a_float or_nothing b) cs s
    (sequence_old a_float a_float or_nothing b cs nothing_old s)
holds_second spoilt b cs s =
    or_same spoilt b (put_sequence spoilt spoilt or_nothing b) cs s
    (sequence_old spoilt spoilt or_nothing b cs nothing_old s)
holds_second owed b cs s =
    or_same owed b (put_sequence owed owed or_nothing b) cs s (sequence_old owed owed or_nothing b cs nothing_old s)
holds_second (any_of x) b cs s =
    or_same (any_of x) b (put_sequence (any_of x) (any_of x) or_nothing b) cs s
    (sequence_old (any_of x) (any_of x) or_nothing b cs nothing_old s)

sequence_first : (x y b : Content) (cs : List Child) → ((d : Content) (ds : List Child) → Holds y ds → Holds (either_of y d) ds) →
    Holds (x ⋅ y) cs → Holds (either_of (x ⋅ y) b) cs
sequence_first x y b cs g (in_order {cs = xs} {ds = ys} s t) =
    unless_way (x ⋅ y) b (put_sequence x (x ⋅ y) (λ d. either_of y d) b) (xs ++ ys) (in_order s t)
    (sequence_new x (x ⋅ y) (λ d. either_of y d) b (xs ++ ys) (in_order s t)
    (record { head = xs; rest = ys; whole = refl; first = s; goes_on = λ d. g d ys t }))

-- Either of two contents holds what the first does.
pub holds_first : (a b : Content) (cs : List Child) → Holds a cs → Holds (either_of a b) cs
holds_first nothing b cs no_child = nothing_new b
holds_first (leaf_of ks) b cs s = unless_way (leaf_of ks) b (put_leaves ks b) cs s (leaves_new ks b cs s)
holds_first (node_of ks) b cs s = unless_way (node_of ks) b (put_nodes ks b) cs s (nodes_new ks b cs s)
holds_first (x ⋅ y) b cs s = sequence_first x y b cs (λ d ds t. holds_first y d ds t) s
holds_first (x or y) b cs (by_first s) =
    unless_way (x or y) b (either_of x (either_of y b)) cs (by_first s) (holds_first x (either_of y b) cs s)
holds_first (x or y) b cs (by_second s) =
    unless_way (x or y) b (either_of x (either_of y b)) cs (by_second s)
    (holds_second x (either_of y b) cs (holds_first y b cs s))
holds_first any_leaf b cs s =
    unless_way any_leaf b (put_sequence any_leaf any_leaf or_nothing b) cs s
    (sequence_new any_leaf any_leaf or_nothing b cs s (alone any_leaf cs s))
holds_first a_float b cs s =
    unless_way a_float b (put_sequence a_float a_float or_nothing b) cs s
    (sequence_new a_float a_float or_nothing b cs s (alone a_float cs s))
holds_first spoilt b cs s =
    unless_way spoilt b (put_sequence spoilt spoilt or_nothing b) cs s
    (sequence_new spoilt spoilt or_nothing b cs s (alone spoilt cs s))
holds_first owed b cs s =
    unless_way owed b (put_sequence owed owed or_nothing b) cs s
    (sequence_new owed owed or_nothing b cs s (alone owed cs s))
holds_first (any_of x) b cs s =
    unless_way (any_of x) b (put_sequence (any_of x) (any_of x) or_nothing b) cs s
    (sequence_new (any_of x) (any_of x) or_nothing b cs s (alone (any_of x) cs s))

-- children among which a message is
pub told_left : (cs ds : List Child) → has_message cs ≡ true → has_message (cs ++ ds) ≡ true
told_left [] ds h = absurd cc
told_left (c ∷ cs) ds h =
    by_or (is_message c) (has_message cs) h (λ i. or_left (is_message c) (has_message (cs ++ ds)) i)
    (λ i. or_right (is_message c) (has_message (cs ++ ds)) (told_left cs ds i))

pub told_right : (cs ds : List Child) → has_message ds ≡ true → has_message (cs ++ ds) ≡ true
told_right [] ds h = h
told_right (c ∷ cs) ds h = or_right (is_message c) (has_message (cs ++ ds)) (told_right cs ds h)

-- It is in one of two parts.
pub told_in : {A : Type 0} (cs ds : List Child) → has_message (cs ++ ds) ≡ true → (has_message cs ≡ true → A) →
    (has_message ds ≡ true → A) → A
told_in [] ds h f g = g h
told_in (c ∷ cs) ds h f g =
    by_or (is_message c) (has_message (cs ++ ds)) h (λ i. f (or_left (is_message c) (has_message cs) i))
    (λ i. told_in cs ds i (λ j. f (or_right (is_message c) (has_message cs) j)) g)

-- They are not whole then.
message_unsound : (c : Child) → is_message c ≡ true → is_sound c ≡ false
message_unsound (leaf_child kind) h = absurd cc
message_unsound (node_child kind) h = absurd cc
message_unsound message_child h = refl
message_unsound float_child h = absurd cc

pub told_unsound : (cs : List Child) → has_message cs ≡ true → are_sound cs ≡ false
told_unsound [] h = absurd cc
told_unsound (c ∷ cs) h =
    by_or (is_message c) (has_message cs) h (λ i. first_not (is_sound c) (are_sound cs) (message_unsound c i))
    (λ i. second_not (is_sound c) (are_sound cs) (told_unsound cs i))
  where
    first_not : (t u : Bool) → t ≡ false → (t && u) ≡ false
    first_not true u h = absurd cc
    first_not false u h = refl

    second_not : (t u : Bool) → u ≡ false → (t && u) ≡ false
    second_not true u h = h
    second_not false u h = refl

-- both parts of whole children are whole
pub whole_left : (cs ds : List Child) → IsWhole (cs ++ ds) → IsWhole cs
whole_left [] ds h = refl
whole_left (c ∷ cs) ds h =
    whole_both (is_sound c) (are_sound cs) (and_left (is_sound c) _ h) (whole_left cs ds (and_right (is_sound c) _ h))
  where
    whole_both : (t u : Bool) → t ≡ true → u ≡ true → (t && u) ≡ true
    whole_both true u h i = i
    whole_both false u h i = absurd cc

pub whole_right : (cs ds : List Child) → IsWhole (cs ++ ds) → IsWhole ds
whole_right [] ds h = h
whole_right (c ∷ cs) ds h = whole_right cs ds (and_right (is_sound c) _ h)

-- One content behind another holds the children of both.
pub holds_append : (a b : Content) (cs ds : List Child) → Holds a cs → Holds b ds → Holds (append a b) (cs ++ ds)
holds_append nothing b cs ds no_child t = t
holds_append (spoilt ⋅ y) b cs ds (in_order {cs = xs} {ds = ys} (is_told h) u) t =
    in_order (is_told (told_left xs ys h)) t
holds_append (x or y) b cs ds (by_first s) t =
    by_choice (λ (z : Content). Holds z (cs ++ ds)) (spoils (x or y)) (either_of (append x b) (append y b))
    ((x or y) ⋅ b) (λ e. holds_first (append x b) (append y b) (cs ++ ds) (holds_append x b cs ds s t))
    (λ e. in_order (by_first s) t)
holds_append (x or y) b cs ds (by_second s) t =
    by_choice (λ (z : Content). Holds z (cs ++ ds)) (spoils (x or y)) (either_of (append x b) (append y b))
    ((x or y) ⋅ b) (λ e. holds_second (append x b) (append y b) (cs ++ ds) (holds_append y b cs ds s t))
    (λ e. in_order (by_second s) t)
holds_append (x ⋅ y) b cs ds (in_order {cs = xs} {ds = ys} s u) t =
    rw (append_assoc xs ys ds) (in_order s (holds_append y b ys ds u t))
holds_append a b cs ds s t = in_order s t

-- One content after another holds the children of both.
pub holds_onto : (a b : Content) (cs ds : List Child) → Holds a cs → Holds b ds → Holds (onto a b) (cs ++ ds)
holds_onto a nothing cs ds s no_child = subst (λ (es : List Child). Holds a es) (sym (append-nil cs)) s
holds_onto a spoilt cs ds s (is_told h) = is_told (told_right cs ds h)
holds_onto a (x ⋅ y) cs ds s (in_order {cs = xs} {ds = ys} t u) =
    subst (λ (es : List Child). Holds (onto (onto a x) y) es) (append_assoc cs xs ys)
    (holds_onto (onto a x) y (cs ++ xs) ys (holds_onto a x cs xs s t) u)
holds_onto a (x or y) cs ds s (by_first t) =
    by_choice (λ (z : Content). Holds z (cs ++ ds)) (spoils (x or y)) (either_of (onto a x) (onto a y))
    (append a (x or y)) (λ e. holds_first (onto a x) (onto a y) (cs ++ ds) (holds_onto a x cs ds s t))
    (λ e. holds_append a (x or y) cs ds s (by_first t))
holds_onto a (x or y) cs ds s (by_second t) =
    by_choice (λ (z : Content). Holds z (cs ++ ds)) (spoils (x or y)) (either_of (onto a x) (onto a y))
    (append a (x or y)) (λ e. holds_second (onto a x) (onto a y) (cs ++ ds) (holds_onto a y cs ds s t))
    (λ e. holds_append a (x or y) cs ds s (by_second t))
holds_onto a (leaf_of ks) cs ds s t = holds_append a (leaf_of ks) cs ds s t
holds_onto a any_leaf cs ds s t = holds_append a any_leaf cs ds s t
holds_onto a (node_of ks) cs ds s t = holds_append a (node_of ks) cs ds s t
holds_onto a a_float cs ds s t = holds_append a a_float cs ds s t
holds_onto a owed cs ds s t = holds_append a owed cs ds s t
holds_onto a (any_of x) cs ds s t = holds_append a (any_of x) cs ds s t

-- any number of nothing is nothing
none_of : (cs : List Child) → Holds (any_of nothing) cs → Holds nothing cs
none_of cs no_more = no_child
none_of cs (one_more no_child t) = none_of _ t

-- Any number of one, written shortly.
pub holds_many : (a : Content) (cs : List Child) → Holds (any_of a) cs → Holds (many a) cs
holds_many nothing cs s = none_of cs s
holds_many (leaf_of ks) cs s = s
holds_many any_leaf cs s = s
holds_many (node_of ks) cs s = s
holds_many a_float cs s = s
holds_many spoilt cs s = s
holds_many owed cs s = s
holds_many (a ⋅ b) cs s = s
holds_many (a or b) cs s = s
holds_many (any_of a) cs s = s

-- Two contents one behind the other, and either of two, as they are written.
abbrev pub in_row : Content → Content → Content
in_row a b = a ⋅ b

abbrev pub either_way : Content → Content → Content
either_way a b = a or b

pub row_holds : (a b : Content) (cs ds : List Child) → Holds a cs → Holds b ds → Holds (in_row a b) (cs ++ ds)
row_holds a b cs ds s t = in_order s t

pub first_holds : (a b : Content) (cs : List Child) → Holds a cs → Holds (either_way a b) cs
first_holds a b cs s = by_first s

pub second_holds : (a b : Content) (cs : List Child) → Holds b cs → Holds (either_way a b) cs
second_holds a b cs s = by_second s

-- Where no message is among these children, no ERROR is.
abbrev pub IsCalm : List Child → Type 0
IsCalm cs = has_message cs ≡ false → IsWhole cs

pub both_whole : (cs ds : List Child) → IsWhole cs → IsWhole ds → IsWhole (cs ++ ds)
both_whole [] ds h i = i
both_whole (c ∷ cs) ds h i =
    both (is_sound c) (are_sound (cs ++ ds)) (and_left (is_sound c) _ h)
    (both_whole cs ds (and_right (is_sound c) _ h) i)
  where
    both : (t u : Bool) → t ≡ true → u ≡ true → (t && u) ≡ true
    both true u h i = i
    both false u h i = absurd cc

-- whether a truth value is so
by_answer : {A : Type 0} (t : Bool) → (t ≡ true → A) → (t ≡ false → A) → A
by_answer true f g = f refl
by_answer false f g = g refl

untold_left : (cs ds : List Child) → has_message (cs ++ ds) ≡ false → has_message cs ≡ false
untold_left cs ds h =
    by_answer (has_message cs) (λ i. absurd (let z : true ≡ false = sym (told_left cs ds i) ∙ h in cc)) (λ i. i)

untold_right : (cs ds : List Child) → has_message (cs ++ ds) ≡ false → has_message ds ≡ false
untold_right cs ds h =
    by_answer (has_message ds) (λ i. absurd (let z : true ≡ false = sym (told_right cs ds i) ∙ h in cc)) (λ i. i)

pub calm_both : (cs ds : List Child) → IsCalm cs → IsCalm ds → IsCalm (cs ++ ds)
calm_both cs ds c d h = both_whole cs ds (c (untold_left cs ds h)) (d (untold_right cs ds h))

-- a kind of those of which none is an ERROR
pub not_error : (ks : List ℕ) (k : ℕ) → is_settled (node_of ks) ≡ true → among ks k ≡ true → (k == ERROR) ≡ false
not_error ks k h m =
    by_answer (k == ERROR)
    (λ e.
    let i : among ks ERROR ≡ true = subst (λ (j : ℕ). among ks j ≡ true) (same_number k ERROR e) m in
    absurd (let z : false ≡ true = subst (λ (t : Bool). choose t false true ≡ true) i h in cc))
    (λ e. e)

-- What is settled is so.
pub settled_so : (a : Content) (cs : List Child) → is_settled a ≡ true → Holds a cs → IsCalm cs
settled_so nothing cs h no_child w = refl
settled_so (leaf_of ks) cs h (a_leaf m) w = refl
settled_so any_leaf cs h some_leaf w = refl
settled_so (node_of ks) cs h (a_node {kind = k} m) w =
    subst (λ (t : Bool). (not t && true) ≡ true) (sym (not_error ks k h m)) refl
settled_so a_float cs h the_float w = refl
settled_so spoilt cs h (is_told i) w = absurd (let z : true ≡ false = sym i ∙ w in cc)
settled_so owed cs h s w = absurd cc
settled_so (a ⋅ b) cs h (in_order {cs = xs} {ds = ys} s t) w =
    by_chosen (is_settled a) (is_settled b) h
    (λ i j. calm_both xs ys (settled_so a xs i s) (settled_so b ys j t) w)
settled_so (a or b) cs h (by_first s) w = by_chosen (is_settled a) (is_settled b) h (λ i j. settled_so a cs i s w)
settled_so (a or b) cs h (by_second s) w = by_chosen (is_settled a) (is_settled b) h (λ i j. settled_so b cs j s w)
settled_so (any_of a) cs h no_more w = refl
settled_so (any_of a) cs h (one_more {cs = xs} {ds = ys} s t) w =
    calm_both xs ys (settled_so a xs h s) (settled_so (any_of a) ys h t) w

-- What is lost has a message.
pub lost_so : (a : Content) (cs : List Child) → is_lost a ≡ true → Holds a cs → has_message cs ≡ true
lost_so spoilt cs h (is_told i) = i
lost_so (spoilt ⋅ b) cs h (in_order {cs = xs} {ds = ys} (is_told i) t) = told_left xs ys i
lost_so (a or b) cs h (by_first s) = by_chosen (is_lost a) (is_lost b) h (λ i j. lost_so a cs i s)
lost_so (a or b) cs h (by_second s) = by_chosen (is_lost a) (is_lost b) h (λ i j. lost_so b cs j s)
lost_so a cs h s = absurd cc

-- No float is among the children of two lists where none is among those of either.
pub no_float_both : (cs ds : List Child) → has_float cs ≡ false → has_float ds ≡ false → has_float (cs ++ ds) ≡ false
no_float_both [] ds h i = i
no_float_both (c ∷ cs) ds h i = both (is_float c) (has_float cs) h (λ j. no_float_both cs ds j i)
  where
    both : (t u : Bool) → (t || u) ≡ false → (u ≡ false → has_float (cs ++ ds) ≡ false) →
        (t || has_float (cs ++ ds)) ≡ false
    both true u h f = absurd cc
    both false u h f = f h

pub no_float_right : (cs ds : List Child) → has_float (cs ++ ds) ≡ false → has_float ds ≡ false
no_float_right [] ds h = h
no_float_right (c ∷ cs) ds h = no_float_right cs ds (second (is_float c) (has_float (cs ++ ds)) h)
  where
    second : (t u : Bool) → (t || u) ≡ false → u ≡ false
    second true u h = absurd cc
    second false u h = h

pub no_float_left : (cs ds : List Child) → has_float (cs ++ ds) ≡ false → has_float cs ≡ false
no_float_left [] ds h = refl
no_float_left (c ∷ cs) ds h =
    both (is_float c) (has_float (cs ++ ds)) (has_float cs) h (λ i. no_float_left cs ds i)
  where
    both : (t u v : Bool) → (t || u) ≡ false → (u ≡ false → v ≡ false) → (t || v) ≡ false
    both true u v h f = absurd cc
    both false u v h f = f h
