-- What stands right in a node of a tree, where nothing is wrong there.
use Rattle.std.proofs.Common.{◌≡◌, ◌==◌, ◌&&◌, ◌||◌, not, ℕ, zero, suc, ◌+◌, ◌-◌, ◌≤◌, nat_lt, drop, Bool, true, false, List, [], ◌∷◌, ◌++◌, Option, Some, None, refl, ap, sym, subst, ◌∙◌, append_assoc, append-nil, length, length-append, arith, inl, inr, map}
use Rattle.std.specs.List.{list_all, prefix_len, slice_get, take_while}
use Rattle.std.proofs.lemmas.Bool.{cases_lt}
use Rattle.std.proofs.lemmas.List.Folds.{list_all-append, list_all-map}
use Rattle.rap_base.specs.TokenKind.{ERROR}
use Rattle.rap_base.specs.TokenTests.{is_trivia}
use Rattle.rap_events.specs.Forest.{Forest}
use Rattle.rap_events.proofs.Truth.{and_both, and_left, and_right}
use Rattle.rap_grammar_table.specs.Shapes.{node_child}
use Rattle.rap_grammar_table.proofs.LookLaws.{same_self}
use Rattle.rap_lexed.specs.StrForest.{StrForest, str_none, str_node, str_leaf, str_message, str_flat, str_joined}
use Rattle.rap_lexed.specs.Token.{Token}
use Rattle.rap_lexed.specs.Trivia.{with_trivia}
use Rattle.rap_ranged.specs.Elements.{RangedElement, node_element, leaf_element, elements_of}
use Rattle.rap_ranged.specs.Leaves.{RangedLeaf, leaf_of_byte}
use Rattle.rap_ranged.specs.MergedMessages.{is_before, merged}
use Rattle.rap_ranged.specs.Ranged.{Ranged, ranged, end_from}
use Rattle.rap_ranged.specs.RangedForest.{RangedForest, RangedNode, forest_size}
use Rattle.rap_ranged.specs.RangedMessages.{RangedMessage, ranged_at, ranged_message}
use Rattle.rap_ranged.specs.Reports.{ReportValue, lexer_reports, reports_of}
use Rattle.rap_ranged.specs.Seats.{AreSeated}
use Rattle.rap_text_nodes.specs.TextNodes.{AreShaped, TextNodeAt, last_node, in_last_node, before_node, before_leaf, before_message, leaf_if}
use Rattle.rap_text_nodes.proofs.Nodes.{text_nodes}
use Rattle.flat_tree.specs.FlatTree.{elements, elements_of_tree}
use Rattle.flat_tree.specs.Navigation.{child_indices, inside, tops}
use Rattle.flat_tree.specs.NodeShapes.{BuiltNodesAreShaped, ComesFrom, IsRight, NodesAreShaped, child_if, children_at, is_between, is_elsewhere, is_end_in, is_in_one, is_no_error, message_bytes}
use Rattle.flat_tree.specs.declared.element.Element.{Element}
use Rattle.flat_tree.proofs.Faults.{calm_so, each_message, ends_both, has_no_error, is_error, messages_so, not_below, quiet_children, quiet_so, whole_so, within}
use Rattle.flat_tree.proofs.Kin.{found}
use Rattle.flat_tree.proofs.Rows.{row, get_back, get_front}
use Rattle.flat_tree.proofs.Runs.{size-elements}

-- The node with an index is a node of the text's forest.
record AtNode (f : StrForest) (p : ℕ → Bool) (n : RangedNode) : Type 0 where
  node : StrForest
  at : ℕ
  stands : TextNodeAt f n.kind node
  seated : AreSeated at node
  messages : each_message p node ≡ true
  inside_is : n.children ≡ ranged at node
  start_is : n.start ≡ at
  end_is : n.end ≡ end_from at node

same_node : {n m : RangedNode} → Some (node_element n) ≡ Some (node_element m) → n ≡ m
same_node e = cc

around : (f g : StrForest) (p : ℕ → Bool) (n : RangedNode) → ((y : StrForest) → TextNodeAt f n.kind y → TextNodeAt g n.kind y)
    → AtNode f p n → AtNode g p n
around f g p n up r = record {
  node = r.node;
  at = r.at;
  stands = up r.node r.stands;
  seated = r.seated;
  messages = r.messages;
  inside_is = r.inside_is;
  start_is = r.start_is;
  end_is = r.end_is;
}

-- from the elements before it on
behind : (before : StrForest) (kind : ℕ) (children : StrForest) (p : ℕ → Bool) (start m : ℕ) (n : RangedNode)
    → AreSeated start children → each_message p children ≡ true
    → ((j : ℕ) → slice_get (elements_of (ranged start children)) j ≡ Some (node_element n) → AtNode children p n)
    → slice_get
    (node_element (record { kind = kind; start = start; end = end_from start children; children = ranged start children })
    ∷ elements_of (ranged start children)) m ≡ Some (node_element n) → AtNode (str_node before kind children) p n
behind before kind children p start zero n s m g h =
    let own : RangedNode =
    record { kind = kind; start = start; end = end_from start children; children = ranged start children } in
    subst (λ (x : RangedNode). AtNode (str_node before kind children) p x) (same_node h)
    (record {
      node = children;
      at = start;
      stands = last_node;
      seated = s;
      messages = m;
      inside_is = refl;
      start_is = refl;
      end_is = refl;
    })
behind before kind children p start (suc k) n s m g h =
    around children (str_node before kind children) p n (λ y t. in_last_node t) (g k h)

no_leaf : (l : RangedElement) (n : RangedNode) (m : ℕ) → (Some l ≡ Some (node_element n) → ⊥)
    → slice_get (l ∷ []) m ≡ Some (node_element n) → ⊥
no_leaf l n zero g h = g h
no_leaf l n (suc m) g h = absurd cc

node_at : (f : StrForest) (p : ℕ → Bool) (at i : ℕ) (n : RangedNode) → AreSeated at f → each_message p f ≡ true
    → slice_get (elements_of (ranged at f)) i ≡ Some (node_element n) → AtNode f p n
node_at str_none p at i n s m h = absurd cc
node_at (str_node before kind children) p at i n s m h =
    let start = end_from at before in
    let own : RangedNode =
    record { kind = kind; start = start; end = end_from start children; children = ranged start children } in
    let bs = elements_of (ranged at before) in
    let cs = elements_of (ranged start children) in
    let first = and_left (each_message p before) _ m in
    let second = and_right (each_message p before) _ m in
    elim (cases_lt i (length bs)) [
      | inl low ↦
          around before (str_node before kind children) p n (λ y t. before_node t)
          (node_at before p at i n s.0 first (sym (get_front bs (node_element own ∷ cs) i low) ∙ h))
      | inr high ↦
          behind before kind children p start (i - length bs) n s.1 second
          (λ j g. node_at children p start j n s.1 second g)
          (sym (get_back bs (node_element own ∷ cs) i (i - length bs) (omega (arith, high))) ∙ h)
    ]
node_at (str_leaf before kind text) p at i n s m h =
    let bs = elements_of (ranged at before) in
    let l : RangedElement =
    leaf_element (record { kind = kind; start = end_from at before; end = end_from at before + length text }) in
    elim (cases_lt i (length bs)) [
      | inl low ↦
          around before (str_leaf before kind text) p n (λ y t. before_leaf t)
          (node_at before p at i n s m (sym (get_front bs (l ∷ []) i low) ∙ h))
      | inr high ↦
          absurd
          (no_leaf l n (i - length bs) (λ e. absurd cc)
          (sym (get_back bs (l ∷ []) i (i - length bs) (omega (arith, high))) ∙ h))
    ]
node_at (str_message before bytes pos) p at i n s m h =
    around before (str_message before bytes pos) p n (λ y t. before_message t)
    (node_at before p at i n s.0 (and_left (each_message p before) _ m) h)

-- What stands at the top of a forest, by its indices.
children_snoc : (es : List Element) (is : List ℕ) (i : ℕ)
    → children_at es (is ++ i ∷ []) ≡ children_at es is ++ child_if (slice_get es i)
children_snoc es [] i = append-nil (child_if (slice_get es i))
children_snoc es (j ∷ is) i =
    ap (λ l. child_if (slice_get es j) ++ l) (children_snoc es is i)
    ∙ sym (append_assoc (child_if (slice_get es j)) (children_at es is) (child_if (slice_get es i)))

or_more : (t u v : Bool) → (t || (u || v)) ≡ ((t || u) || v)
or_more true u v = refl
or_more false u v = refl

or_none : (t : Bool) → (t || false) ≡ t
or_none true = refl
or_none false = refl

in_one_snoc : (es : List Element) (is : List ℕ) (i p : ℕ)
    → is_in_one es (is ++ i ∷ []) p ≡ (is_in_one es is p || is_between (slice_get es i) p)
in_one_snoc es [] i p = or_none (is_between (slice_get es i) p)
in_one_snoc es (j ∷ is) i p =
    ap (λ t. is_between (slice_get es j) p || t) (in_one_snoc es is i p)
    ∙ or_more (is_between (slice_get es j) p) (is_in_one es is p) (is_between (slice_get es i) p)

-- an element of the list is no ERROR there
element_so : (q : Element → Bool) (es : List Element) (i : ℕ) (x : Element) → list_all q es ≡ true
    → slice_get es i ≡ Some x → q x ≡ true
element_so q [] i x h e = absurd cc
element_so q (y ∷ es) zero x h e =
    subst (λ (z : Element). q z ≡ true) (let z : y ≡ x = cc in z) (and_left (q y) (list_all q es) h)
element_so q (y ∷ es) (suc i) x h e = element_so q es i x (and_right (q y) (list_all q es) h) e

not_that : (t u v : Bool) → u ≡ true → (t || (not u && v)) ≡ true → t ≡ true
not_that true u v i h = refl
not_that false true v i h = absurd cc
not_that false false v i h = absurd cc

not_this : (t u v : Bool) → v ≡ true → (t || (not u && not v)) ≡ true → t ≡ true
not_this true u v i h = refl
not_this false true v i h = absurd cc
not_this false false true i h = absurd cc
not_this false false false i h = absurd cc

-- the element of a node that stands at the top, and where those inside it stand
record Top (before : StrForest) (kind : ℕ) (children : StrForest) (at first parent : ℕ) (es : List Element) : Type 0 where
  index : ℕ
  index_is : index ≡ first + forest_size (ranged at before)
  own : Element
  own_is : own ≡ row index parent
      (node_element (record {
        kind = kind;
        start = end_from at before;
        end = end_from (end_from at before) children;
        children = ranged (end_from at before) children;
      }))
  here : slice_get es index ≡ Some own
  front : List Element
  back : List Element
  parts : es ≡ front ++ (elements (index + 1) index (ranged (end_from at before) children) ++ back)
  count : length front ≡ index + 1

top_at : (before : StrForest) (kind : ℕ) (children : StrForest) (at first parent : ℕ) (es front back : List Element)
    → es ≡ front ++ (elements first parent (ranged at (str_node before kind children)) ++ back) → length front ≡ first
    → Top before kind children at first parent es
top_at before kind children at first parent es front back parts count =
    let start = end_from at before in
    let b = ranged at before in
    let c = ranged start children in
    let n : RangedElement = node_element (record { kind = kind; start = start; end = end_from start children; children = c }) in
    let r : Element = row (first + forest_size b) parent n in
    let bs : List Element = elements first parent b in
    let cs : List Element = elements (first + forest_size b + 1) (first + forest_size b) c in
    let rest : List Element = r ∷ (cs ++ back) in
    let cut : es ≡ front ++ (bs ++ rest) = parts ∙ ap (λ l. front ++ l) (append_assoc bs (r ∷ cs) back) in
    let both : es ≡ (front ++ bs) ++ rest = cut ∙ sym (append_assoc front bs rest) in
    let size : length (front ++ bs) ≡ first + forest_size b =
    omega (arith, length-append front bs, count, size-elements b first parent) in
    record {
      index = first + forest_size b;
      index_is = refl;
      own = r;
      own_is = refl;
      here =
          ap (λ l. slice_get l (first + forest_size b)) both
          ∙ get_back (front ++ bs) rest (first + forest_size b) 0 (omega (arith, size));
      front = (front ++ bs) ++ r ∷ [];
      back = back;
      parts = both ∙ sym (append_assoc (front ++ bs) (r ∷ []) (cs ++ back));
      count = omega (arith, length-append (front ++ bs) (r ∷ []), size);
    }

-- what is seen of the top of a forest, of the elements of a node with this index
record Seen (f : StrForest) (at first parent : ℕ) (es : List Element) : Type 0 where
  children : children_at es (tops first (ranged at f)) ≡ quiet_children f
  between : (p : ℕ) → is_in_one es (tops first (ranged at f)) p ≡ within at f p
  errors : list_all (is_no_error es parent) es ≡ true → has_no_error f ≡ true

-- an ERROR at the end of a node right in one
last_error : (children : StrForest) (start index parent : ℕ) (own : Element) (es front back : List Element)
    → es ≡ front ++ (elements (index + 1) index (ranged start children) ++ back) → length front ≡ index + 1
    → slice_get es index ≡ Some own → own.parent ≡ parent → own.end ≡ end_from start children
    → list_all (is_no_error es parent) es ≡ true → not (is_error children) ≡ true
last_error str_none start index parent own es front back parts count here up end h = refl
last_error (str_leaf before kind text) start index parent own es front back parts count here up end h = refl
last_error (str_message before bytes pos) start index parent own es front back parts count here up end h = refl
last_error (str_node before kind inner) start index parent own es front back parts count here up end h =
    let t = top_at before kind inner start (index + 1) index es front back parts count in
    let x = t.own in
    let ends : x.end ≡ own.end =
    ap (λ (e : Element). e.end) t.own_is
    ∙ (ends_both start (str_joined before) (str_joined inner) ∙ sym end) in
    let own_parent : is_end_in parent x.end (slice_get es x.parent) ≡ true =
    ap (λ (n : ℕ). is_end_in parent x.end (slice_get es n)) (ap (λ (e : Element). e.parent) t.own_is)
    ∙ (ap (λ (o : Option Element). is_end_in parent x.end o) here
    ∙ and_both (own.parent == parent) (x.end == own.end)
    (subst (λ (n : ℕ). (own.parent == n) ≡ true) up (same_self own.parent))
    (subst (λ (n : ℕ). (x.end == n) ≡ true) ends (same_self x.end))) in
    let all : is_no_error es parent x ≡ true = element_so (is_no_error es parent) es t.index x h t.here in
    let node : (not (x.kind == ERROR) || (not (x.parent == parent) && not (is_end_in parent x.end (slice_get es x.parent)))) ≡ true =
    subst (λ (l : Bool). (l || (not (x.kind == ERROR) || (not (x.parent == parent) && not (is_end_in parent x.end (slice_get es x.parent))))) ≡ true)
    (ap (λ (e : Element). e.leaf) t.own_is) all in
    subst (λ (k : ℕ). not (k == ERROR) ≡ true) (ap (λ (e : Element). e.kind) t.own_is)
    (not_this (not (x.kind == ERROR)) (x.parent == parent) (is_end_in parent x.end (slice_get es x.parent)) own_parent node)

own_error : (kind index parent : ℕ) (own : Element) (es : List Element) → own.kind ≡ kind → own.leaf ≡ false
    → own.parent ≡ parent → slice_get es index ≡ Some own → list_all (is_no_error es parent) es ≡ true
    → not (kind == ERROR) ≡ true
own_error kind index parent own es is l up here h =
    let all : is_no_error es parent own ≡ true = element_so (is_no_error es parent) es index own h here in
    let node : (not (own.kind == ERROR) || (not (own.parent == parent) && not (is_end_in parent own.end (slice_get es own.parent)))) ≡ true =
    subst (λ (t : Bool). (t || (not (own.kind == ERROR) || (not (own.parent == parent) && not (is_end_in parent own.end (slice_get es own.parent))))) ≡ true) l all in
    subst (λ (k : ℕ). not (k == ERROR) ≡ true) is
    (not_that (not (own.kind == ERROR)) (own.parent == parent) (not (is_end_in parent own.end (slice_get es own.parent)))
    (subst (λ (n : ℕ). (own.parent == n) ≡ true) up (same_self own.parent)) node)

seen : (f : StrForest) (at first parent : ℕ) (es front back : List Element)
    → es ≡ front ++ (elements first parent (ranged at f) ++ back) → length front ≡ first → Seen f at first parent es
seen str_none at first parent es front back parts count =
    record { children = refl; between = λ p. refl; errors = λ h. refl }
seen (str_node before kind children) at first parent es front back parts count =
    let start = end_from at before in
    let b = ranged at before in
    let c = ranged start children in
    let n : RangedElement = node_element (record { kind = kind; start = start; end = end_from start children; children = c }) in
    let r : Element = row (first + forest_size b) parent n in
    let t = top_at before kind children at first parent es front back parts count in
    let here : slice_get es (first + forest_size b) ≡ Some r =
    subst (λ (k : ℕ). slice_get es k ≡ Some (row k parent n)) t.index_is (t.here ∙ ap (λ (e : Element). Some e) t.own_is) in
    let rest : List Element = (r ∷ elements (first + forest_size b + 1) (first + forest_size b) c) ++ back in
    let s = seen before at first parent es front rest
    (parts ∙ ap (λ l. front ++ l) (append_assoc (elements first parent b) (r ∷ elements (first + forest_size b + 1) (first + forest_size b) c) back)) count in
    record {
      children =
          children_snoc es (tops first b) (first + forest_size b)
          ∙ (ap (λ o. children_at es (tops first b) ++ child_if o) here ∙ ap (λ l. l ++ node_child kind ∷ []) s.children);
      between =
          λ p.
          in_one_snoc es (tops first b) (first + forest_size b) p
          ∙ (ap (λ o. is_in_one es (tops first b) p || is_between o p) here
          ∙ ap (λ t. t || (nat_lt start p && nat_lt p (end_from start children))) (s.between p));
      errors =
          λ h.
          and_both (has_no_error before) (not (kind == ERROR) && not (is_error children)) (s.errors h)
          (and_both (not (kind == ERROR)) (not (is_error children))
          (own_error kind (first + forest_size b) parent r es refl refl refl here h)
          (last_error children start t.index parent t.own es t.front t.back t.parts t.count t.here
          (ap (λ (e : Element). e.parent) t.own_is) (ap (λ (e : Element). e.end) t.own_is) h));
    }
seen (str_leaf before kind text) at first parent es front back parts count =
    let start = end_from at before in
    let b = ranged at before in
    let l : RangedElement = leaf_element (record { kind = kind; start = start; end = start + length text }) in
    let r : Element = row (first + forest_size b) parent l in
    let bs : List Element = elements first parent b in
    let rest : List Element = r ∷ back in
    let cut : es ≡ front ++ (bs ++ rest) = parts ∙ ap (λ l. front ++ l) (append_assoc bs (r ∷ []) back) in
    let here : slice_get es (first + forest_size b) ≡ Some r =
    ap (λ l. slice_get l (first + forest_size b)) (cut ∙ sym (append_assoc front bs rest))
    ∙ get_back (front ++ bs) rest (first + forest_size b) 0 (omega (arith, length-append front bs, count, size-elements b first parent)) in
    let s = seen before at first parent es front rest cut count in
    record {
      children =
          children_snoc es (tops first b) (first + forest_size b)
          ∙ (ap (λ o. children_at es (tops first b) ++ child_if o) here ∙ ap (λ l. l ++ leaf_if (is_trivia kind) kind) s.children);
      between =
          λ p.
          in_one_snoc es (tops first b) (first + forest_size b) p
          ∙ (ap (λ o. is_in_one es (tops first b) p || is_between o p) here ∙ (or_none (is_in_one es (tops first b) p) ∙ s.between p));
      errors = λ h. s.errors h;
    }
seen (str_message before bytes pos) at first parent es front back parts count =
    let s = seen before at first parent es front back parts count in
    record { children = s.children; between = λ p. s.between p; errors = λ h. s.errors h }

-- an element that is no leaf is that of a node
record OfNode (e : Element) (x : RangedElement) : Type 0 where
  node : RangedNode
  is : x ≡ node_element node
  kind : e.kind ≡ node.kind
  start : e.start ≡ node.start
  end : e.end ≡ node.end

of_node : (i up : ℕ) (e : Element) (x : RangedElement) → e ≡ row i up x → e.leaf ≡ false → OfNode e x
of_node i up e (node_element n) h l =
    record {
      node = n;
      is = refl;
      kind = ap (λ (z : Element). z.kind) h;
      start = ap (λ (z : Element). z.start) h;
      end = ap (λ (z : Element). z.end) h;
    }
of_node i up e (leaf_element m) h l =
    absurd (let z : false ≡ true = sym l ∙ ap (λ (w : Element). w.leaf) h in cc)

neither : (t u v : Bool) → t ≡ false → u ≡ false → (t || (u || v)) ≡ v
neither true u v h i = absurd cc
neither false true v h i = absurd cc
neither false false v h i = refl

-- where it stands in its tree
pub shaped_at : (tokens : List Token) (output : Forest) (root : RangedNode) (es : List Element)
    → Ranged (with_trivia tokens output) root → es ≡ elements_of_tree root → AreSeated 0 (with_trivia tokens output)
    → AreShaped tokens output → (i : ℕ) (e : Element) → slice_get es i ≡ Some e → e.leaf ≡ false
    → IsRight es (message_bytes (with_trivia tokens output)) i e (child_indices root i)
    → ComesFrom output e.kind (children_at es (child_indices root i))
shaped_at tokens output root es ranges list seats shapes i e h l right =
    let f = with_trivia tokens output in
    let p : ℕ → Bool = is_elsewhere es e (child_indices root i) in
    let x = found root es i e list h in
    let o = of_node i x.stands.up e x.value x.is l in
    let at : slice_get (elements_of (ranged 0 f)) i ≡ Some (node_element o.node) =
    ap (λ (g : RangedForest). slice_get (elements_of g) i) (sym ranges) ∙ (x.at ∙ ap (λ (v : RangedElement). Some v) o.is) in
    let n = node_at f p 0 i o.node seats (messages_so p f right.messages) at in
    let b = x.stands.block in
    let under : inside (Some x.value) ≡ ranged n.at n.node = ap (λ (v : RangedElement). inside (Some v)) o.is ∙ n.inside_is in
    let here : 0 + i ≡ i = omega arith in
    let parts : es ≡ b.front ++ (elements (i + 1) i (ranged n.at n.node) ++ b.back) =
    subst (λ (k : ℕ). es ≡ b.front ++ (elements (k + 1) k (ranged n.at n.node) ++ b.back)) here
    (list ∙ (b.parts ∙ ap (λ (g : RangedForest). b.front ++ (elements (0 + i + 1) (0 + i) g ++ b.back)) under)) in
    let s = seen n.node n.at (i + 1) i es b.front b.back parts (omega (arith, b.count)) in
    let indices : child_indices root i ≡ tops (i + 1) (ranged n.at n.node) =
    ap (λ v. tops (i + 1) (inside v)) x.at ∙ ap (λ (g : RangedForest). tops (i + 1) g) under in
    let start : e.start ≡ n.at = o.start ∙ n.start_is in
    let end : e.end ≡ end_from n.at n.node = o.end ∙ n.end_is in
    let agree : (m : ℕ) → n.at ≤ m → m ≤ end_from n.at n.node → p m ≡ within n.at n.node m =
    λ m low high.
    neither (nat_lt m e.start) (nat_lt e.end m) (is_in_one es (child_indices root i) m)
    (not_below m e.start (omega (arith, low, start))) (not_below e.end m (omega (arith, high, end)))
    ∙ (ap (λ js. is_in_one es js m) indices ∙ s.between m) in
    let calm = calm_so n.node n.at p agree n.seated n.messages in
    record {
      node = n.node;
      same = ap (λ js. children_at es js) indices ∙ (s.children ∙ quiet_so n.node calm);
      shaped =
          shapes e.kind n.node (subst (λ (k : ℕ). TextNodeAt f k n.node) (sym o.kind) n.stands)
          (whole_so n.node calm (s.errors right.errors));
    }

-- The messages of a tree are among all that are kept.
merged_all : (q : RangedMessage → Bool) (ms others : List RangedMessage) → list_all q (merged ms others) ≡ true
    → list_all q ms ≡ true
merged_all q [] others h = refl
merged_all q (m ∷ ms) others h =
    let first = take_while (is_before m.at) others in
    let rest = merged ms (drop (prefix_len (is_before m.at) others) others) in
    let i = and_right (list_all q first) (list_all q (m ∷ rest)) (sym (list_all-append q first (m ∷ rest)) ∙ h) in
    and_both (q m) (list_all q ms) (and_left (q m) _ i)
    (merged_all q ms (drop (prefix_len (is_before m.at) others) others) (and_right (q m) _ i))

place_kept : (r : ReportValue) (o : Option RangedLeaf) → (ranged_at r o).at ≡ r.at
place_kept r None = refl
place_kept r (Some leaf) = refl

places_so : (p : ℕ → Bool) (f : RangedForest) (rs : List ReportValue)
    → list_all (λ (m : RangedMessage). p m.at) (map (ranged_message f) rs) ≡ true
    → list_all p (map (λ (r : ReportValue). r.at) rs) ≡ true
places_so p f [] h = refl
places_so p f (r ∷ rs) h =
    let m = ranged_message f r in
    and_both (p r.at) (list_all p (map (λ (r : ReportValue). r.at) rs))
    (subst (λ (n : ℕ). p n ≡ true) (place_kept r (leaf_of_byte r.at f)) (and_left (p m.at) _ h))
    (places_so p f rs (and_right (p m.at) _ h))

pub built_nodes_are_shaped : BuiltNodesAreShaped
built_nodes_are_shaped tokens edition output es flat covering shapes i e h l right =
    shaped_at tokens output flat.root es flat.ranged flat.elements flat.seated
    (text_nodes tokens edition output covering shapes) i e h l right

pub nodes_are_shaped : NodesAreShaped
nodes_are_shaped text edition entry es messages flat i e h l right =
    let f = with_trivia flat.lexed.tokens flat.forest in
    let p : ℕ → Bool = is_elsewhere es e (child_indices flat.root i) in
    let all : list_all (λ (m : RangedMessage). p m.at) messages ≡ true =
    sym (list_all-map p (λ (m : RangedMessage). m.at) messages) ∙ right.messages in
    let own =
    places_so p flat.root.children (reports_of (str_flat f))
    (merged_all (λ (m : RangedMessage). p m.at) (map (ranged_message flat.root.children) (reports_of (str_flat f)))
    (map (ranged_message flat.root.children) (lexer_reports flat.lexed.tokens flat.lexed.errors))
    (subst (λ (ms : List RangedMessage). list_all (λ (m : RangedMessage). p m.at) ms ≡ true) flat.reports all)) in
    shaped_at flat.lexed.tokens flat.forest flat.root es flat.ranged flat.elements flat.seated flat.parsed.text_shapes i e h l
    (record { messages = own; errors = right.errors })
