-- What the shapes say of some kinds is computed of them.
use Rattle.std.proofs.Common.{◌≡◌, true, List, [], ◌∷◌, Some, refl}
use Rattle.rap_base.specs.NodeKind.{BLOCK_EXPR, FN, NAME}
use Rattle.rap_base.specs.TokenKind.{SEMICOLON}
use Rattle.rap_grammar_table.specs.Counts.{most}
use Rattle.rap_grammar_table.specs.Known.{every_one}
use Rattle.rap_grammar_table.specs.Shaped.{EndsInBody}
use Rattle.rap_grammar_table.specs.Shapes.{Child, Shape, nothing, leaf_of, node_of, ◌⋅◌, ◌or◌, Spells, a_leaf, a_node, in_order}
use Rattle.rap_grammar_table.proofs.Counts.{body_of, counted, has_one, none_in, of_between}
use Rattle.rap_grammar_table.proofs.Known.{every_so}
use Rattle.rap_grammar_shapes.specs.Parts.{IsOperation, ShapesCount, ShapesHaveParts, ShapesName, named_kinds}
use Rattle.rap_grammar_shapes.specs.Shapes.{expressions, operators, shape_of}

pub shapes_count : ShapesCount
shapes_count kind k cs s = counted k s

-- one name
names_so : every_one (λ k. has_one NAME (shape_of k)) named_kinds ≡ true
names_so = refl

pub shapes_name : ShapesName
shapes_name kind h cs s =
    of_between NAME (shape_of kind) (every_so (λ k. has_one NAME (shape_of k)) named_kinds kind names_so h)
    (counted NAME s)

-- functions
body_behind : (s : Shape) (cs : List Child) → most BLOCK_EXPR s ≡ Some 0 →
    Spells (s ⋅ (leaf_of (SEMICOLON ∷ []) or node_of (BLOCK_EXPR ∷ []))) cs → EndsInBody cs
body_behind s cs e (in_order {cs = xs} {ds = ys} t u) =
    body_of u xs (none_in e (counted BLOCK_EXPR t))

-- what stands before the last part
abbrev head_of : Shape → Shape
head_of (a ⋅ b) = a
head_of a = nothing

-- operations
operation_of : (cs : List Child) → Spells (node_of expressions ⋅ leaf_of operators ⋅ node_of expressions) cs →
    IsOperation cs
operation_of cs (in_order (in_order (a_node {kind = l} a) (a_leaf {kind = o} b)) (a_node {kind = r} c)) =
    record { left = l; operator = o; right = r; children_are = refl; left_is = a; operator_is = b; right_is = c }

pub shapes_have_parts : ShapesHaveParts
shapes_have_parts =
    record {
      functions = λ cs s. body_behind (head_of (shape_of FN)) cs refl s;
      binaries = λ cs s. operation_of cs s;
    }
