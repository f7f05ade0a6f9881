-- The forests that a row and a script build over the same pieces.
use Rattle.std.specs.Prelude.{ℕ, suc, Bool, true, false, ◌&&◌, ◌==◌, List, [], ◌∷◌}
use Rattle.rap_grammar_table.proofs.Narrow.{Fact}
use Rattle.rap_grammar_table.specs.Known.{among}
use Rattle.rap_grammar_table.specs.Table.{Items}

-- A forest that is built: the one that there was, nothing, a node over a forest, or the tree of a piece by its number.
pub data Built : Type 0 where
  base : Built
  empty : Built
  over : Built → ℕ → Built → Built
  tree : Built → ℕ → Built

abbrev pub same : Built → Built → Bool
same base base = true
same empty empty = true
same (over a k c) (over b j d) = same a b && ((k == j) && same c d)
same (tree a i) (tree b j) = same a b && (i == j)
same a b = false

-- nothing of what there was is in it
abbrev pub is_own : Built → Bool
is_own base = false
is_own empty = true
is_own (over a k c) = is_own a && is_own c
is_own (tree a i) = is_own a

-- it goes on from what there was
abbrev pub goes_on_from : Built → Bool
goes_on_from base = true
goes_on_from empty = false
goes_on_from (over a k c) = goes_on_from a && is_own c
goes_on_from (tree a i) = goes_on_from a

-- one after another
abbrev pub joined : Built → Built → Built
joined a base = a
joined a empty = a
joined a (over b k c) = over (joined a b) k c
joined a (tree b i) = tree (joined a b) i

-- all but the last tree
abbrev pub under : Built → Built
under base = base
under empty = empty
under (over a k c) = a
under (tree a n) = a

-- The last trees are the same node: one of this kind, or the tree of a piece whose number is among these.
abbrev pub last_same : List ℕ → Built → Built → Bool
last_same ns (over a k c) (over b j d) = (k == j) && (same c d && is_own c)
last_same ns (tree a i) (tree b j) = (i == j) && among ns i
last_same ns x y = false

abbrev pub no_more : List Built → Bool
no_more [] = true
no_more (x ∷ xs) = false

-- Where a walk is: the rest of the row, and what it has made, the newest node first; what the script has made; how many
-- pieces are taken, those of them whose tree is one node, and those whose last token is no `}`; and what is known of
-- the tokens that come next.
pub record At : Type 0 where
  pub items : Items
  pub row : Built
  pub rows : List Built
  pub own : Built
  pub owns : List Built
  pub count : ℕ
  pub nodes : List ℕ × List ℕ
  pub facts : List Fact

abbrev pub with_row : At → Items → Built → List Built → At
with_row s items row rows =
    record {
      items = items;
      row = row;
      rows = rows;
      own = s.own;
      owns = s.owns;
      count = s.count;
      nodes = s.nodes;
      facts = s.facts;
    }

abbrev pub with_own : At → Built → List Built → At
with_own s own owns =
    record {
      items = s.items;
      row = s.row;
      rows = s.rows;
      own = own;
      owns = owns;
      count = s.count;
      nodes = s.nodes;
      facts = s.facts;
    }

abbrev pub with_facts : At → List Fact → At
with_facts s facts =
    record {
      items = s.items;
      row = s.row;
      rows = s.rows;
      own = s.own;
      owns = s.owns;
      count = s.count;
      nodes = s.nodes;
      facts = facts;
    }

-- before the first piece of a row
abbrev pub at_start : Items → At
at_start is =
    record { items = is; row = base; rows = []; own = base; owns = []; count = 0; nodes = ([], []); facts = [] }

-- behind a node, before a turn that puts one around it
abbrev pub fold_start : Items → At
fold_start is =
    record {
      items = is;
      row = tree empty 0;
      rows = base ∷ [];
      own = tree base 0;
      owns = [];
      count = 1;
      nodes = (0 ∷ [], []);
      facts = [];
    }

abbrev pub with_node : Bool → ℕ → List ℕ → List ℕ
with_node true n ns = n ∷ ns
with_node false n ns = ns

-- after a piece, whose tree is one node or not, and whose last token is no `}` or any
abbrev pub after_category : At → Items → Bool → Bool → At
after_category s is node plain =
    record {
      items = is;
      row = tree s.row s.count;
      rows = s.rows;
      own = tree s.own s.count;
      owns = s.owns;
      count = suc s.count;
      nodes = (with_node node s.count s.nodes.0, with_node plain s.count s.nodes.1);
      facts = [];
    }

abbrev pub after_piece : At → Items → Bool → At
after_piece s is node = after_category s is node false

-- after turns that are put around the last node, with a tree in its place
abbrev pub after_fold : At → Items → At
after_fold s is =
    record {
      items = is;
      row = tree (under s.row) s.count;
      rows = s.rows;
      own = tree (under s.own) s.count;
      owns = s.owns;
      count = suc s.count;
      nodes = (s.count ∷ s.nodes.0, s.nodes.1);
      facts = [];
    }
