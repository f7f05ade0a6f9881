use Rattle.std.proofs.Common.{◌+◌, ◌≤◌, length, arith}
use Rattle.syntax_tree.proofs.Walks.{first_of, none_of, empty_left, leaf_left, node_left, empty_room, leaf_room, node_room}
use Rattle.syntax_tree.proofs.walk.with_room.Goals as goal

pub lists-smaller-then-list-lt1 : goal.lists-smaller-then-list-lt1
lists-smaller-then-list-lt1 c = empty_left c.pop.new.self.items c.lists.stack.items c.in-Some.list c.in-Some.ensures.items

pub lists-preserved-then-list-lt1 : goal.lists-preserved-then-list-lt1
lists-preserved-then-list-lt1 c = λ m cap held.
    let few : length c.pop.new.self.items + 1 ≤ m = omega (arith, cap, c.in-Some.ensures.capacity, c.in-Some.ensures.cases, c.lists.stack.ok.1, c.pop.new.self.ok.0) in
    c.lists.invariant m (omega (arith, cap, c.in-Some.ensures.capacity))
    (empty_room c.pop.new.self.items c.lists.stack.items c.in-Some.list m c.in-Some.ensures.items (none_of c.in-Some.list.now c.in_default-list.len_below) few held)

pub lists-smaller-in-Continue-branch-3 : goal.lists-smaller-in-Continue-branch-3
lists-smaller-in-Continue-branch-3 c =
    node_left c.pop.new.self.items c.lists.stack.items c.push-in-len1-up.new.self.items c.push-in-Node.new.self.items c.in-Some.list _ c.children.result c.child-item.result c.in-Node.node c.in-Some.ensures.items
    (first_of c.in-Some.list.now c.child-item.result c.in-len1-up.len_at_least c.child-item.is) c.in-Node.is c.in_ok-push-2.ensures.items c.in_ok-push-in-Node.ensures.items c.children.ensures

pub lists-preserved-in-Continue-branch-3 : goal.lists-preserved-in-Continue-branch-3
lists-preserved-in-Continue-branch-3 c = λ m cap held.
    c.lists.invariant m (omega (arith, cap, c.in-Some.ensures.capacity, c.in_ok-push-2.ensures.capacity, c.in_ok-push-in-Node.ensures.capacity))
    (node_room c.pop.new.self.items c.lists.stack.items c.push-in-len1-up.new.self.items c.push-in-Node.new.self.items c.in-Some.list _ c.children.result c.child-item.result c.in-Node.node m c.in-Some.ensures.items
    (first_of c.in-Some.list.now c.child-item.result c.in-len1-up.len_at_least c.child-item.is) c.in-Node.is c.in_ok-push-2.ensures.items c.in_ok-push-in-Node.ensures.items c.children.ensures held)

pub lists-smaller : goal.lists-smaller
lists-smaller c =
    leaf_left c.pop.new.self.items c.lists.stack.items c.push-in-len1-up.new.self.items c.in-Some.list _ c.child-item.result c.in-Some.ensures.items
    (first_of c.in-Some.list.now c.child-item.result c.in-len1-up.len_at_least c.child-item.is) c.in_ok-push-2.ensures.items

pub lists-preserved : goal.lists-preserved
lists-preserved c = λ m cap held.
    c.lists.invariant m (omega (arith, cap, c.in-Some.ensures.capacity, c.in_ok-push-2.ensures.capacity))
    (leaf_room c.pop.new.self.items c.lists.stack.items c.push-in-len1-up.new.self.items c.in-Some.list _ c.child-item.result c.in-Leaf.kind c.in-Leaf.range m c.in-Some.ensures.items
    (first_of c.in-Some.list.now c.child-item.result c.in-len1-up.len_at_least c.child-item.is) c.in-Leaf.is c.in_ok-push-2.ensures.items held)
