-- The notation in which rows are written.
use Rattle.std.specs.Prelude.{ℕ, zero, suc, Bool, true, false, List, [], ◌∷◌, Option, Some, None, map}
use Rattle.rap_base.specs.KeywordTable.{contextual_ever}
use Rattle.rap_base.specs.TokenKind.{EOF, IDENT, COMMA}
use Rattle.rap_grammar_scripts.specs.Test.{Test}
use Rattle.rap_grammar_table.specs.Category.{Category}
use Rattle.rap_grammar_table.specs.Known.{anything, Place, unclear}
use Rattle.rap_grammar_table.specs.Table.{tok, word, comp, cat, Items, nil, begin, close, piece, choice, repeat, group, folds, way, unless}

-- those of which this holds
abbrev pub kept : Bool → ℕ → List ℕ → List ℕ
kept true k ks = k ∷ ks
kept false k ks = ks

abbrev pub those : (ℕ → Bool) → List ℕ → List ℕ
those f [] = []
those f (k ∷ ks) = kept (f k) k (those f ks)

-- a part of a row, before the rest of it
abbrev pub Part : Type 0
Part = Items → Items

infixr 4 ◌⊳◌
abbrev pub ◌⊳◌ : Part → Part → Part
(a ⊳ b) r = a (b r)

-- a token of this kind, and of one of these
abbrev pub t : ℕ → Part
t kind r = piece (tok (kind ∷ []) None) r

abbrev pub ts : List ℕ → Part
ts kinds r = piece (tok kinds None) r

-- An identifier may be read as any of the words that are keywords in some places only, but for `dyn`.
abbrev pub name_words : Option (List ℕ)
name_words = Some (EOF ∷ IDENT ∷ map (λ row. row.1) contextual_ever)

-- an identifier, or another token of one of these kinds
abbrev pub names : List ℕ → Part
names kinds r = piece (tok kinds name_words) r

-- an identifier that is taken as this word
abbrev pub weak : ℕ → Part
weak kind r = piece (word kind) r

-- an operator of more than one token
abbrev pub op : ℕ → Part
op kind r = piece (comp kind) r

-- a category
abbrev pub c : Category → Part
c category r = piece (cat category) r

-- a node over a part
abbrev pub node : ℕ → Part → Part
node kind a r = begin (a (close kind r))

-- a part that may be missing, one of two, any number of it
abbrev pub opt : Part → Part
opt a r = choice (a nil) nil r

abbrev pub either : Part → Part → Part
either a b r = choice (a nil) (b nil) r

abbrev pub many : Part → Part
many a r = repeat (a nil) nil r

-- any number with commas between them, and one behind the last or none
abbrev pub commas : Part → Part
commas a r = repeat (a (t COMMA nil)) (choice (a nil) nil nil) r

-- the same where what has a comma behind it is written otherwise than the last
abbrev pub commas_last : Part → Part → Part
commas_last a z r = repeat (a (t COMMA nil)) (choice (z nil) nil nil) r

-- any number of the first, and the second behind them
abbrev pub until : Part → Part → Part
until a z r = repeat (a nil) (z nil) r

-- a part that a script reads alone
abbrev pub alone : Part → Part
alone a r = group (a nil) r

-- nodes of this kind around the last one, each with one more such part
abbrev pub fold : ℕ → Part → Part
fold kind a r = folds 0 (way (0 ∷ []) (a (close kind nil)) 0 nil) r

-- A turn that puts a node around the last one: the numbers for which it is there, its kind, what stands in it behind the
-- last one, and the next number. And such turns, from this number on.
abbrev pub turn : List ℕ → ℕ → Part → ℕ → Part
turn from kind a next ws = way from (a (close kind nil)) next ws

abbrev pub around : ℕ → Part → Part
around n ws r = folds n (ws nil) r

-- Of the tokens that come next, in the row and behind it, this test does not hold: whatever follows the row, or where it
-- is followed in one of these ways.
abbrev pub guard : Test → Part
guard h r = unless h anything r

abbrev pub guard_before : List (List Place) → Test → Part
guard_before ways h r = unless h ways r

abbrev pub row : Part → Items
row a = a nil

abbrev pub rows_of : List Part → List Items
rows_of [] = []
rows_of (a ∷ more) = row a ∷ rows_of more

-- each of some parts under a node
abbrev pub each_under : ℕ → List Part → List Part
each_under kind [] = []
each_under kind (a ∷ more) = node kind a ∷ each_under kind more

-- a token by its kinds
abbrev pub of_kinds : List ℕ → Place
of_kinds kinds = record { kinds = Some kinds; words = None; joint = unclear }

-- the numbers from 1 to this one, the largest first
abbrev pub up_to : ℕ → List ℕ
up_to zero = []
up_to (suc n) = suc n ∷ up_to n
