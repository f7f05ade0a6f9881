use Rattle.std.proofs.Common.{◌++◌, [], ◌∷◌, vec_capacity, refl, sym, ◌∙◌, arith}
use Rattle.syntax_tree.proofs.Walks.{first_of, none_of, empty_ahead, leaf_ahead, node_ahead, last_room, rest_room, inner_room}
use Rattle.syntax_tree.proofs.walk.Walk.next.Goals.{in-Node, in-Leaf}
use Rattle.syntax_tree.proofs.walk.Walk.next.Goals as goal

pub lists-preserved : goal.lists-preserved
lists-preserved c =
    let before = c.pop.new.self.items in
    let old = c.lists.self-inside.stack.items in
    let fits = last_room before old c.in_ok-pop.field-0 (vec_capacity c.lists.self-inside.stack) c.in_ok-pop.ensures.items c.lists.invariant.fits in record {
      same = sym (empty_ahead before old c.in_ok-pop.field-0 c.in_ok-pop.ensures.items (none_of c.in_ok-pop.field-0.now c.in-empty.len_below)) ∙ c.lists.invariant.same;
      fits = omega (arith, fits, c.in_ok-pop.ensures.capacity);
    }

pub push_reserved-requires-in-Node : goal.push_reserved-requires-in-Node
push_reserved-requires-in-Node c =
    let r =
    inner_room c.pop.new.self.items c.lists.self-inside.stack.items c.push_reserved.new.self.items (c.push_reserved.new.self.items ++ c.children.result ∷ []) c.in_ok-pop.field-0 _ c.children.result c.child-item.result c.in-Node.node (vec_capacity c.lists.self-inside.stack)
    c.in_ok-pop.ensures.items (first_of c.in_ok-pop.field-0.now c.child-item.result c.in-len1-up.len_at_least c.child-item.is) c.in-Node.is c.push_reserved.ensures.items refl c.children.ensures c.lists.invariant.fits
    in omega (arith, r.1, c.push_reserved.new.self.ok.0, c.push_reserved.ensures.capacity, c.in_ok-pop.ensures.capacity)

pub invariant_of-self-in-Node : goal.invariant_of-self-in-Node
invariant_of-self-in-Node c =
    let r =
    inner_room c.pop.new.self.items c.lists.self-inside.stack.items c.push_reserved.new.self.items c.push_reserved-in-Node.new.self.items c.in_ok-pop.field-0 _ c.children.result c.child-item.result c.in-Node.node (vec_capacity c.lists.self-inside.stack)
    c.in_ok-pop.ensures.items (first_of c.in_ok-pop.field-0.now c.child-item.result c.in-len1-up.len_at_least c.child-item.is) c.in-Node.is c.push_reserved.ensures.items c.push_reserved-in-Node.ensures.items c.children.ensures c.lists.invariant.fits
    in omega (arith, r.0, c.push_reserved-in-Node.ensures.capacity, c.push_reserved.ensures.capacity, c.in_ok-pop.ensures.capacity)

pub invariant_of-self-in-Leaf : goal.invariant_of-self-in-Leaf
invariant_of-self-in-Leaf c =
    let r =
    rest_room c.pop.new.self.items c.lists.self-inside.stack.items c.push_reserved.new.self.items c.in_ok-pop.field-0 _ c.child-item.result (vec_capacity c.lists.self-inside.stack)
    c.in_ok-pop.ensures.items (first_of c.in_ok-pop.field-0.now c.child-item.result c.in-len1-up.len_at_least c.child-item.is) c.push_reserved.ensures.items c.lists.invariant.fits
    in omega (arith, r.0, c.push_reserved.ensures.capacity, c.in_ok-pop.ensures.capacity)

pub returns-in-len1-up : goal.returns-in-len1-up
returns-in-len1-up c =
    let is = first_of c.in_ok-pop.field-0.now c.child-item.result c.in-len1-up.len_at_least c.child-item.is in
    elim c.match-child.branch [
      | in-Node w ↦ rw (w.self-is)
          (sym c.lists.invariant.same
          ∙ node_ahead c.pop.new.self.items c.lists.self-inside.stack.items c.push_reserved.new.self.items w.push_reserved-in-Node.new.self.items c.in_ok-pop.field-0 _ w.children.result c.child-item.result w.in-Node.node
          c.in_ok-pop.ensures.items is w.in-Node.is c.push_reserved.ensures.items w.push_reserved-in-Node.ensures.items w.children.ensures)
      | in-Leaf w ↦ rw (w.self-is)
          (sym c.lists.invariant.same
          ∙ leaf_ahead c.pop.new.self.items c.lists.self-inside.stack.items c.push_reserved.new.self.items c.in_ok-pop.field-0 _ c.child-item.result w.in-Leaf.kind w.in-Leaf.range
          c.in_ok-pop.ensures.items is w.in-Leaf.is c.push_reserved.ensures.items)
    ]
