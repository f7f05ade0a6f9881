-- What is derived of the tokens from one place on to another.
use Rattle.std.specs.Prelude.{◌≡◌, ℕ, Bool, true, false, List, [], ◌∷◌, ◌++◌, drop, reverse, Option, Some, None}
use Rattle.rap_events.specs.Forest.{Forest, none, node}
use Rattle.rap_events.specs.Record.{Record}
use Rattle.rap_grammar_rows.specs.Decode.{category_of}
use Rattle.rap_grammar_rows.specs.Guards.{guards, guard_at}
use Rattle.rap_grammar_rows.specs.Meaning.{at_place}
use Rattle.rap_grammar_rows.specs.declared.fact.Fact.{Fact}
use Rattle.rap_grammar_rows.specs.declared.fact.Goal.{Goal}
use Rattle.rap_grammar_rows.specs.declared.fact.Goal.TheVariants as goal
use Rattle.rap_grammar_rows.specs.declared.shape.Frame.{Frame}
use Rattle.rap_grammar_rows.specs.declared.shape.Frame.TheVariants as frame
use Rattle.rap_grammar_rows.specs.declared.shape.Outcome.{Outcome}
use Rattle.rap_grammar_rows.specs.declared.shape.Outcome.TheVariants as outcome
use Rattle.rap_grammar_rows.specs.declared.shape.Shape.{Shape}
use Rattle.rap_grammar_rows.specs.declared.shape.Shape.TheVariants.{Empty, OneNode, EndsInNode, Any}
use Rattle.rap_grammar_scripts.specs.Test.{holds}
use Rattle.rap_grammar_table.specs.Rows.{grammar}
use Rattle.rap_grammar_table.specs.Known.{Sees}
use Rattle.rap_grammar_table.specs.Table.{Piece, Items, appended, turns_of, folding, Derives, one, rest_of, cat}

-- a forest is one node, or its last tree is one
abbrev pub IsNode : Forest → Type 0
IsNode x = (k : ℕ) × (c : Forest) × (x ≡ node none k c)

abbrev pub LastIsNode : Forest → Type 0
LastIsNode x = (z : Forest) × (k : ℕ) × (c : Forest) × (x ≡ node z k c)

abbrev pub Fits : Shape → Forest → Type 0
Fits Empty x = x ≡ none
Fits OneNode x = IsNode x
Fits EndsInNode x = LastIsNode x
Fits Any x = Unit {0}

abbrev pub FitAll : List Shape → List Forest → Type 0
FitAll [] [] = Unit {0}
FitAll [] (x ∷ xs) = ⊥
FitAll (s ∷ ss) [] = ⊥
FitAll (s ∷ ss) (x ∷ xs) = Fits s x × FitAll ss xs

-- the shape of one forest behind another, and of a node behind one
abbrev pub joined : Shape → Shape → Shape
joined s Empty = s
joined s Any = Any
joined Empty OneNode = OneNode
joined OneNode OneNode = EndsInNode
joined EndsInNode OneNode = EndsInNode
joined Any OneNode = EndsInNode
joined s EndsInNode = EndsInNode

abbrev pub closed : Shape → Shape
closed Empty = OneNode
closed OneNode = EndsInNode
closed EndsInNode = EndsInNode
closed Any = EndsInNode

abbrev pub ends_in_node : Shape → Bool
ends_in_node Empty = false
ends_in_node OneNode = true
ends_in_node EndsInNode = true
ends_in_node Any = false

-- the rest of a row derives these tokens, behind this forest in the open nodes, and its tree is of this shape
pub record Rest (is : Items) (x : Forest) (xs : List Forest) (ks : List Record) (o : Shape) : Type 0 where
  pub tree : Forest
  pub derives : Derives grammar (rest_of is x xs) ks tree
  pub fits : Fits o tree

-- it does so behind all forests of these shapes
abbrev pub Good : Items → Shape → List Shape → List Record → Shape → Type 0
Good is s ss ks o = (x : Forest) (xs : List Forest) → Fits s x → FitAll ss xs → Rest is x xs ks o

-- a row before another one, if there is one
abbrev pub plug : Items → Option Items → Items
plug a None = a
plug a (Some b) = appended a b

-- what stands behind the ways that were taken, and the shapes of the open nodes
abbrev pub context : List Frame → Option Items
context [] = None
context (frame.Then p ∷ fs) = Some (plug (at_place p) (context fs))
context (frame.Opened s ∷ fs) = context fs

abbrev pub opened : List Frame → List Shape
opened [] = []
opened (frame.Then p ∷ fs) = opened fs
opened (frame.Opened s ∷ fs) = s ∷ opened fs

-- the tokens between two places
abbrev pub Segment : List Record → ℕ → ℕ → List Record → Type 0
Segment tokens a b ks = drop a tokens ≡ ks ++ drop b tokens

-- A walk along a row: what comes, what is known of the forest so far and of those around it, and at which token.
pub record Point : Type 0 where
  pub items : Items
  pub shape : Shape
  pub around : List Shape
  pub at : ℕ

abbrev pub point : ℕ → Shape → List Frame → ℕ → Point
point place shape frames at =
    record {
      items = plug (at_place place) (context (reverse frames));
      shape = shape;
      around = opened (reverse frames);
      at = at;
    }

-- what is derived from a point on up to a token
pub record From (tokens : List Record) (end : ℕ) (o : Shape) (q : Point) : Type 0 where
  pub part : List Record
  pub is_part : Segment tokens q.at end part
  pub good : Good q.items q.shape q.around part o

-- A walk may go on from one point at another: what is derived from there on is derived from here on.
abbrev pub Leads : List Record → ℕ → Point → Point → Type 0
Leads tokens end p q = (o : Shape) → From tokens end o q → From tokens end o p

-- of the tokens up to the end, whatever follows them, a test does not hold
abbrev pub IsRefused : ℕ → List Record → ℕ → ℕ → Type 0
IsRefused g tokens at end =
    (ks : List Record) → Segment tokens at end ks → (l : List Record) → Sees (guard_at g guards).1 l →
    holds (guard_at g guards).0 (ks ++ l) ≡ false

-- a piece's tokens, and the shape of its tree
pub record IsPiece (tokens : List Record) (p : Piece) (start end : ℕ) (o : Shape) : Type 0 where
  pub part : List Record
  pub is_part : Segment tokens start end part
  pub tree : Forest
  pub derives : Derives grammar (one p) part tree
  pub fits : Fits o tree

-- any number of turns and what stands last
pub record IsTurns (tokens : List Record) (turn last start end : ℕ) : Type 0 where
  pub part : List Record
  pub is_part : Segment tokens start end part
  pub tree : Forest
  pub derives : Derives grammar (rest_of (turns_of (at_place turn) (at_place last)) none []) part tree

-- nodes around one
pub record Folded (n : ℕ) (ws : Items) (part : List Record) (k : ℕ) (c : Forest) : Type 0 where
  pub tree : Forest
  pub derives : Derives grammar (rest_of (folding n ws) (node none k c) []) part tree
  pub is_node : IsNode tree

pub record IsFold (tokens : List Record) (place n start end : ℕ) : Type 0 where
  pub part : List Record
  pub is_part : Segment tokens start end part
  pub folded : (k : ℕ) (c : Forest) → Folded n (at_place place) part k c

-- a row, and one behind a node that it puts another one around
abbrev pub row_point : ℕ → ℕ → Point
row_point place start = record { items = at_place place; shape = Empty; around = []; at = start }

abbrev pub turn_point : ℕ → ℕ → Point
turn_point place start = record { items = at_place place; shape = OneNode; around = Empty ∷ []; at = start }

-- what a fact says
abbrev pub HoldsFrom : List Record → Goal → ℕ → ℕ → Type 0
HoldsFrom tokens (goal.Row place o) start end = From tokens end o (row_point place start)
HoldsFrom tokens (goal.Turn place) start end = From tokens end OneNode (turn_point place start)
HoldsFrom tokens (goal.Category c o) start end = IsPiece tokens (cat (category_of c)) start end o
HoldsFrom tokens (goal.Turns turn last) start end = IsTurns tokens turn last start end
HoldsFrom tokens (goal.Fold place n) start end = IsFold tokens place n start end

abbrev pub Holds : List Record → Fact → Type 0
Holds tokens fact = HoldsFrom tokens fact.goal fact.start fact.end

-- What a step of a walk tells: nothing where it is stuck, that the walk has come to its end, or that it goes on.
abbrev pub StepIs : List Record → ℕ → Point → Point → Outcome → Type 0
StepIs tokens end p q outcome.Stuck = Unit {0}
StepIs tokens end p q outcome.Done = From tokens end q.shape p
StepIs tokens end p q outcome.On = Leads tokens end p q
