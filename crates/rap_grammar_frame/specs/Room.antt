-- How many events a rule that takes a token leaves, of the 256 that each token pays for, to the rules around it. A rule
-- records at most 256 less its room; a rule that only wraps another leaves less than that one.
-- (What calls promise one another; no promise of the library rests on it.)
use Rattle.std.specs.Prelude.{ℕ}

-- a name or a token in a node
abbrev pub name_room : ℕ
name_room = 200

-- a path
abbrev pub path_room : ℕ
path_room = 180

-- elements in their brackets, and a list, which is a node around them
abbrev pub brackets_room : ℕ
brackets_room = 160

abbrev pub list_room : ℕ
list_room = 150

-- an expression that begins with no operator
abbrev pub atom_room : ℕ
atom_room = 130

-- an operand, and an operator with its operands
abbrev pub operand_room : ℕ
operand_room = 110

-- an expression under its marker
abbrev pub marked_room : ℕ
marked_room = 104

-- an expression, and an element of a list
abbrev pub expression_room : ℕ
expression_room = 100

abbrev pub element_room : ℕ
element_room = 100

-- a type, and a pattern
abbrev pub type_room : ℕ
type_room = 110

abbrev pub pattern_room : ℕ
pattern_room = 110

-- a pattern without alternatives
abbrev pub single_pattern_room : ℕ
single_pattern_room = 120

-- a statement, and an item
abbrev pub statement_room : ℕ
statement_room = 96

-- How many events a rule that may take no token records beyond those that its tokens pay for: a message and an `ERROR`;
-- the same under a marker that is abandoned; an element of a list, which may be a rule with a node around it.
abbrev pub recovery_events : ℕ
recovery_events = 3

abbrev pub dropped_events : ℕ
dropped_events = 5

abbrev pub element_events : ℕ
element_events = 24
