-- What the numbers of the rows mean: parts of rows, each by its form, two numbers, and the place of the part behind it.
-- Places count from the part after this one.
use Rattle.std.specs.Prelude.{◌≡◌, ℕ, zero, suc, ◌<◌, get_or, List, [], ◌∷◌, Option, Some, None}
use Rattle.rap_grammar_rows.specs.Code.{forms, firsts, seconds, nexts, sets, turns}
use Rattle.rap_grammar_rows.specs.Guards.{guards, guard_at}
use Rattle.rap_grammar_table.specs.Category.{Category, Ty}
use Rattle.rap_grammar_table.specs.Numbers.{categories, category_at}
use Rattle.rap_grammar_table.specs.Table.{tok, word, comp, cat, Items, nil, begin, close, piece, choice, repeat, group, folds, way, unless}

pub data Form : Type 0 where
  an_end : Form
  a_start : Form
  a_close : Form
  a_token : Form
  a_word : Form
  an_operator : Form
  a_category : Form
  two_ways : Form
  repeated : Form
  grouped : Form
  folded : Form
  a_turn : Form
  guarded : Form

abbrev pub all_forms : List Form
all_forms =
    an_end ∷ a_start ∷ a_close ∷ a_token ∷ a_word ∷ an_operator ∷ a_category ∷ two_ways ∷ repeated ∷ grouped ∷
    folded ∷ a_turn ∷ guarded ∷ []

abbrev pub form_in : ℕ → List Form → Form
form_in n [] = an_end
form_in zero (f ∷ fs) = f
form_in (suc n) (f ∷ fs) = form_in n fs

abbrev pub form_of : ℕ → Form
form_of n = form_in n all_forms

abbrev pub item_at : ℕ → List Items → Items
item_at n [] = nil
item_at zero (i ∷ is) = i
item_at (suc n) (i ∷ is) = item_at n is

abbrev pub set_in : ℕ → List (List ℕ) → List ℕ
set_in n [] = []
set_in zero (s ∷ ss) = s
set_in (suc n) (s ∷ ss) = set_in n ss

abbrev pub words_in : ℕ → List (List ℕ) → Option (List ℕ)
words_in zero ss = None
words_in (suc n) ss = Some (set_in n ss)

abbrev pub turn_in : ℕ → List (ℕ × ℕ) → ℕ × ℕ
turn_in n [] = (0, 0)
turn_in zero (t ∷ ts) = t
turn_in (suc n) (t ∷ ts) = turn_in n ts

-- the category of a number; what is no number of one stands for the first
abbrev pub or_first : Option Category → Category
or_first None = Ty
or_first (Some c) = c

abbrev pub category_of : ℕ → Category
category_of n = or_first (category_at n categories)

-- a part of this form before these parts
abbrev pub build : Form → ℕ → ℕ → ℕ → List Items → Items
build an_end x y n is = nil
build a_start x y n is = begin (item_at n is)
build a_close x y n is = close x (item_at n is)
build a_token x y n is = piece (tok (set_in x sets) (words_in y sets)) (item_at n is)
build a_word x y n is = piece (word x) (item_at n is)
build an_operator x y n is = piece (comp x) (item_at n is)
build a_category x y n is = piece (cat (category_of x)) (item_at n is)
build two_ways x y n is = choice (item_at x is) (item_at y is) (item_at n is)
build repeated x y n is = repeat (item_at x is) (item_at y is) (item_at n is)
build grouped x y n is = group (item_at x is) (item_at n is)
build folded x y n is = folds y (item_at x is) (item_at n is)
build a_turn x y n is =
    way (set_in (turn_in y turns).0 sets) (item_at x is) (turn_in y turns).1 (item_at n is)
build guarded x y n is = unless (guard_at x guards).0 (guard_at x guards).1 (item_at n is)

abbrev pub put_before : Form → ℕ → ℕ → ℕ → List Items → List Items
put_before f x y n is = build f x y n is ∷ is

-- the parts of columns of numbers
unfoldable pub parts_of : List ℕ → List ℕ → List ℕ → List ℕ → List Items
parts_of [] xs ys ns = []
parts_of (f ∷ fs) [] ys ns = []
parts_of (f ∷ fs) (x ∷ xs) [] ns = []
parts_of (f ∷ fs) (x ∷ xs) (y ∷ ys) [] = []
parts_of (f ∷ fs) (x ∷ xs) (y ∷ ys) (n ∷ ns) = put_before (form_of f) x y n (parts_of fs xs ys ns)

-- the numbers of the part at a place
pub record AreAt (place form first second next : ℕ) : Type 0 where
  pub inside : place < 3356
  pub form_is : form ≡ get_or forms place 0
  pub first_is : first ≡ get_or firsts place 0
  pub second_is : second ≡ get_or seconds place 0
  pub next_is : next ≡ get_or nexts place 0
