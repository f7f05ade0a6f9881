-- What stands right in a node of a tree, where nothing is wrong there.
use Rattle.std.specs.Prelude.{◌≡◌, ◌==◌, ◌&&◌, ◌||◌, not, nat_lt, ℕ, Bool, true, false, List, [], ◌∷◌, ◌++◌, Option, Some, None, if◌then◌else◌, map}
use Rattle.std.specs.List.{list_all, slice_get}
use Rattle.rap_base.specs.TokenKind.{ERROR}
use Rattle.rap_base.specs.TokenTests.{is_trivia}
use Rattle.rap_base.specs.declared.edition.Edition.{Edition}
use Rattle.rap_events.specs.Cover.{covers}
use Rattle.rap_events.specs.Forest.{Forest}
use Rattle.rap_grammar_shapes.specs.HaveShapes.{HaveShapesWithin}
use Rattle.rap_grammar_table.specs.Shapes.{Child, node_child}
use Rattle.rap_lexed.specs.Input.{records}
use Rattle.rap_lexed.specs.StrForest.{StrForest, str_flat}
use Rattle.rap_lexed.specs.Token.{Token}
use Rattle.rap_lexed.specs.Trivia.{with_trivia}
use Rattle.rap_ranged.specs.RangedMessages.{RangedMessage}
use Rattle.rap_ranged.specs.Reports.{ReportValue, reports_of}
use Rattle.rap_text_nodes.specs.TextNodes.{IsShaped, leaf_if, text_children}
use Rattle.ra_ap_parser.specs.declared.entry_point.TopEntryPoint.{TopEntryPoint}
use Rattle.flat_tree.specs.Built.{IsFlat}
use Rattle.flat_tree.specs.Navigation.{child_indices}
use Rattle.flat_tree.specs.TextTree.{IsFlatText}
use Rattle.flat_tree.specs.declared.element.Element.{Element}

-- an element as a child, by its kind; white space and comments are none
abbrev pub as_child : Element → List Child
as_child e = if e.leaf then leaf_if (is_trivia e.kind) e.kind else (node_child e.kind ∷ [])

abbrev pub child_if : Option Element → List Child
child_if None = []
child_if (Some e) = as_child e

-- the elements with these indices as children
abbrev pub children_at : List Element → List ℕ → List Child
children_at es [] = []
children_at es (i ∷ is) = child_if (slice_get es i) ++ children_at es is

-- A byte is between the ends of a node; of one of the elements with these indices.
abbrev pub is_between : Option Element → ℕ → Bool
is_between None at = false
is_between (Some e) at = not e.leaf && (nat_lt e.start at && nat_lt at e.end)

abbrev pub is_in_one : List Element → List ℕ → ℕ → Bool
is_in_one es [] at = false
is_in_one es (i ∷ is) at = is_between (slice_get es i) at || is_in_one es is at

-- A message about this byte stands neither right in a node nor at the end of one right in it: the byte is before the node
-- or behind it, or between the ends of a node right in it.
abbrev pub is_elsewhere : List Element → Element → List ℕ → ℕ → Bool
is_elsewhere es e children at = nat_lt at e.start || (nat_lt e.end at || is_in_one es children at)

-- a byte at which a node ends that stands right in the node with this index
abbrev pub is_end_in : ℕ → ℕ → Option Element → Bool
is_end_in i end None = false
is_end_in i end (Some e) = e.parent == i && end == e.end

-- An element is no ERROR that stands right in the node with this index, or at the end of a node right in it.
abbrev pub is_no_error : List Element → ℕ → Element → Bool
is_no_error es i x =
    x.leaf || (not (x.kind == ERROR) || (not (x.parent == i) && not (is_end_in i x.end (slice_get es x.parent))))

-- Nothing is wrong right in the node with this index and these children: no message, of those about these bytes, and no
-- ERROR stands right in it, nor at the end of a node right in it.
pub record IsRight (es : List Element) (positions : List ℕ) (i : ℕ) (e : Element) (children : List ℕ) : Type 0 where
  pub messages : list_all (is_elsewhere es e children) positions ≡ true
  pub errors : list_all (is_no_error es i) es ≡ true

-- A node with these children comes from the output: its children are of the shape of its kind, or it is a name that is a
-- number of a float.
pub record ComesFrom (output : Forest) (kind : ℕ) (children : List Child) : Type 0 where
  pub node : StrForest
  pub same : children ≡ text_children node
  pub shaped : IsShaped output kind node

-- the bytes at which the messages of a tree stand, and those of messages with places
abbrev pub message_bytes : StrForest → List ℕ
message_bytes f = map (λ (r : ReportValue). r.at) (reports_of (str_flat f))

abbrev pub ranged_bytes : List RangedMessage → List ℕ
ranged_bytes ms = map (λ (m : RangedMessage). m.at) ms

-- Of a tree that is built of an output whose nodes have the shapes of their kinds: where nothing is wrong right in a node,
-- what stands right in it, white space and comments apart, is what a node of the output has.
abbrev pub BuiltNodesAreShaped : Type 0
BuiltNodesAreShaped =
    (tokens : List Token) (edition : Edition) (output : Forest) (es : List Element)
    (flat : IsFlat (with_trivia tokens output) es) → covers (records tokens edition) output ≡ true
    → HaveShapesWithin output → (i : ℕ) (e : Element) → slice_get es i ≡ Some e → e.leaf ≡ false
    → IsRight es (message_bytes (with_trivia tokens output)) i e (child_indices flat.root i)
    → ComesFrom output e.kind (children_at es (child_indices flat.root i))

-- the same of the tree of a text, by the messages that it keeps
abbrev pub NodesAreShaped : Type 0
NodesAreShaped =
    (text : List ℕ) (edition : Edition) (entry : TopEntryPoint) (es : List Element) (messages : List RangedMessage)
    (flat : IsFlatText text edition entry es messages) → (i : ℕ) (e : Element) → slice_get es i ≡ Some e
    → e.leaf ≡ false → IsRight es (ranged_bytes messages) i e (child_indices flat.root i)
    → ComesFrom flat.forest e.kind (children_at es (child_indices flat.root i))
