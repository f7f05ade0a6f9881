-- Facts from facts.
use Rattle.std.proofs.Common.{◌≡◌, ℕ, zero, suc, ◌<◌, ◌≤◌, true, List, [], ◌∷◌, ◌++◌, drop, length, get_or, Some, refl, sym, ap, ◌∙◌, subst, arith, map}
use Rattle.std.proofs.lemmas.List.{append-nil}
use Rattle.rap_events.specs.Forest.{Forest, none, node, ◌⧺◌}
use Rattle.rap_events.specs.Record.{Record}
use Rattle.rap_grammar_rows.proofs.Content.{content, file_content}
use Rattle.rap_grammar_rows.proofs.Leads.{behind}
use Rattle.rap_grammar_rows.specs.Claims.{Segment, Rest, From, Leads, Point, StepIs, IsPiece, IsTurns, IsFold, Folded, row_point, turn_point}
use Rattle.rap_grammar_rows.specs.Code.{row_places, sets, turns}
use Rattle.rap_grammar_rows.specs.Decode.{category_of, item_at, or_first, set_in, turn_in}
use Rattle.rap_grammar_rows.specs.Meaning.{at_place, meaning}
use Rattle.rap_grammar_rows.specs.Rows.{all_parts, items_in, rows_in}
use Rattle.rap_grammar_rows.specs.declared.part.Part.{Part}
use Rattle.rap_grammar_rows.specs.declared.part.Part.TheVariants as part
use Rattle.rap_grammar_rows.specs.declared.shape.Outcome.{Outcome}
use Rattle.rap_grammar_rows.specs.declared.shape.Outcome.TheVariants as outcome
use Rattle.rap_grammar_rows.specs.declared.shape.Shape.{Shape}
use Rattle.rap_grammar_rows.specs.declared.shape.Shape.TheVariants.{OneNode}
use Rattle.rap_grammar_table.specs.Category.{Category}
use Rattle.rap_grammar_table.specs.Numbers.{categories, category_at}
use Rattle.rap_grammar_table.specs.Rows.{grammar}
use Rattle.rap_grammar_table.specs.Known.{among}
use Rattle.rap_grammar_table.specs.Table.{Items, HasWay, first_turn, other_turn, Derives, rest_of, cat, row_at, by_row, last_turn, one_turn, folded_none, folded_more}
use Rattle.rap_grammar_table.specs.Tops.{MakesRow, file_row}

-- rows by their numbers
rows_at : ℕ → List (List Items) → List Items
rows_at n [] = []
rows_at zero (r ∷ rs) = r
rows_at (suc n) (r ∷ rs) = rows_at n rs

places_rows : (n : ℕ) (is : List Items) (pss : List (List ℕ)) →
    rows_at n (rows_in is pss) ≡ items_in is (set_in n pss)
unfolding rows_at
places_rows n is [] = refl
places_rows zero is (ps ∷ pss) = refl
places_rows (suc n) is (ps ∷ pss) = places_rows n is pss

rows_is : (c : ℕ) → rows_at c (map grammar categories) ≡ items_in all_parts (set_in c row_places)
rows_is c = ap (rows_at c) (sym content) ∙ places_rows c all_parts row_places

of_number : (cs : List Category) (c n : ℕ) (r : Items) → row_at n (rows_at c (map grammar cs)) ≡ Some r →
    row_at n (grammar (or_first (category_at c cs))) ≡ Some r
unfolding rows_at
of_number [] c n r e = absurd cc
of_number (d ∷ cs) zero n r e = e
of_number (d ∷ cs) (suc c) n r e = of_number cs c n r e

row_in : (n : ℕ) (is : List Items) (ps : List ℕ) → n < length ps →
    row_at n (items_in is ps) ≡ Some (item_at (get_or ps n 0) is)
row_in n is [] h = absurd (omega arith)
row_in zero is (p ∷ ps) h = refl
row_in (suc n) is (p ∷ ps) h = row_in n is ps (omega arith)

pub row_there : (c n place : ℕ) (ps : List ℕ) → ps ≡ set_in c row_places → n < length ps → place ≡ get_or ps n 0 →
    row_at n (grammar (category_of c)) ≡ Some (at_place place)
row_there c n place ps e h i =
    of_number categories c n (at_place place)
    (ap (row_at n) (rows_is c ∙ ap (items_in all_parts) (sym e)) ∙
    (row_in n all_parts ps h ∙ ap (λ (k : ℕ). Some (at_place k)) (sym i)))

-- a category by a row
pub category_fact : (tokens : List Record) (c n p a b : ℕ) (o : Shape) → row_at n (grammar (category_of c)) ≡ Some (at_place p) →
    From tokens b o (row_point p a) → IsPiece tokens (cat (category_of c)) a b o
category_fact tokens c n p a b o e f =
    let m : Rest (at_place p) none [] f.part o = f.good none [] refl tt in
    record { part = f.part; is_part = f.is_part; tree = m.tree; derives = by_row n e m.derives; fits = m.fits }

-- turns
pub last_fact : (tokens : List Record) (t z a b : ℕ) (o : Shape) → From tokens b o (row_point z a) →
    IsTurns tokens t z a b
last_fact tokens t z a b o f =
    let m : Rest (at_place z) none [] f.part o = f.good none [] refl tt in
    record { part = f.part; is_part = f.is_part; tree = m.tree; derives = last_turn m.derives }

pub turns_fact : (tokens : List Record) (t z a b c : ℕ) (o : Shape) → From tokens b o (row_point t a) →
    IsTurns tokens t z b c → IsTurns tokens t z a c
turns_fact tokens t z a b c o f g =
    let m : Rest (at_place t) none [] f.part o = f.good none [] refl tt in
    record {
      part = f.part ++ g.part;
      is_part = behind tokens a b c f.part g.part f.is_part g.is_part;
      tree = m.tree ⧺ g.tree;
      derives = one_turn m.derives g.derives;
    }

-- nodes around one
pub no_fold_fact : (tokens : List Record) (p n a : ℕ) → IsFold tokens p n a a
no_fold_fact tokens p n a =
    record {
      part = [];
      is_part = refl;
      folded = λ k c. record { tree = node none k c; derives = folded_none; is_node = (k, c, refl) };
    }

one_more : (js : List ℕ) (n m k : ℕ) (ws a : Items) (c : Forest) (ks ls : List Record) → HasWay ws js a m →
    among js n ≡ true → Rest a (node none k c) (none ∷ []) ks OneNode → ((j : ℕ) (x : Forest) → Folded m ws ls j x) →
    Folded n ws (ks ++ ls) k c
one_more js n m k ws a c ks ls w h r f =
    let i : Folded m ws ls r.fits.0 r.fits.1 = f r.fits.0 r.fits.1 in
    let d : Derives grammar (rest_of a (node none k c) (none ∷ [])) ks (node none r.fits.0 r.fits.1) =
    subst (λ (x : Forest). Derives grammar (rest_of a (node none k c) (none ∷ [])) ks x) r.fits.2
    r.derives in
    record { tree = i.tree; derives = folded_more w h d i.derives; is_node = i.is_node }

pub fold_fact : (tokens : List Record) (js : List ℕ) (p q n m a b c : ℕ) → HasWay (at_place p) js (at_place q) m →
    among js n ≡ true → From tokens b OneNode (turn_point q a) → IsFold tokens p m b c → IsFold tokens p n a c
fold_fact tokens js p q n m a b c w h f g =
    record {
      part = f.part ++ g.part;
      is_part = behind tokens a b c f.part g.part f.is_part g.is_part;
      folded =
          λ k x. one_more js n m k (at_place p) (at_place q) x f.part g.part w h
          (f.good (node none k x) (none ∷ []) (k, x, refl) (refl, tt)) g.folded;
    }

-- a file
drop_all : (rs : List Record) (n : ℕ) → length rs ≤ n → drop n rs ≡ []
drop_all [] zero h = refl
drop_all [] (suc n) h = refl
drop_all (r ∷ rs) zero h = absurd (omega arith)
drop_all (r ∷ rs) (suc n) h = drop_all rs n (omega arith)

whole : (tokens part : List Record) (n : ℕ) → n ≡ length tokens → Segment tokens 0 n part → tokens ≡ part
whole tokens part n e s =
    let d : drop n tokens ≡ [] = drop_all tokens n (omega arith) in
    s ∙ (ap (λ (l : List Record). part ++ l) d ∙ append-nil part)

file_from : (tokens : List Record) (b : ℕ) (o : Shape) → From tokens b o (row_point 0 0) → b ≡ length tokens →
    (forest : Forest) × MakesRow file_row tokens forest
file_from tokens b o f h =
    let m : Rest (at_place 0) none [] f.part o = f.good none [] refl tt in
    let w : tokens ≡ f.part = whole tokens f.part b h f.is_part in
    let d : Derives grammar (rest_of file_row none []) f.part m.tree =
    subst (λ (is : Items). Derives grammar (rest_of is none []) f.part m.tree) file_content
    m.derives in
    let g : Derives grammar (rest_of file_row none []) tokens m.tree =
    subst (λ (ks : List Record). Derives grammar (rest_of file_row none []) ks m.tree) (sym w) d in
    (m.tree, g)

pub file_fact : (tokens : List Record) (p a b : ℕ) (o : Shape) → From tokens b o (row_point p a) → p ≡ 0 → a ≡ 0 →
    b ≡ length tokens → (forest : Forest) × MakesRow file_row tokens forest
file_fact tokens p a b o f e g h =
    let q : From tokens b o (row_point 0 a) = subst (λ (k : ℕ). From tokens b o (row_point k a)) e f in
    file_from tokens b o (subst (λ (k : ℕ). From tokens b o (row_point 0 k)) g q) h

-- a turn behind others, and a turn
pub skipped : (p q t r m : ℕ) (js : List ℕ) (a : Items) (x : Part) → at_place p ≡ meaning x → x ≡ part.Turn t r q →
    HasWay (at_place q) js a m → HasWay (at_place p) js a m
skipped p q t r m js a x e f w =
    let g : at_place p ≡ meaning (part.Turn t r q) = e ∙ ap meaning f in
    subst (λ (i : Items). HasWay i js a m) (sym g) (other_turn w)

pub found : (p q t r : ℕ) (x : Part) → at_place p ≡ meaning x → x ≡ part.Turn t r q →
    HasWay (at_place p) (set_in (turn_in t turns).0 sets) (at_place r) (turn_in t turns).1
found p q t r x e f =
    let g : at_place p ≡ meaning (part.Turn t r q) = e ∙ ap meaning f in
    subst (λ (i : Items). HasWay i (set_in (turn_in t turns).0 sets) (at_place r) (turn_in t turns).1) (sym g) first_turn

-- what a step tells that comes to the end
pub step_done : (tokens : List Record) (end : ℕ) (p q : Point) (k : Outcome) → StepIs tokens end p q k →
    k ≡ outcome.Done → From tokens end q.shape p
step_done tokens end p q outcome.Stuck h e = absurd cc
step_done tokens end p q outcome.Done h e = h
step_done tokens end p q outcome.On h e = absurd cc

pub step_on : (tokens : List Record) (end : ℕ) (p q : Point) (k : Outcome) → StepIs tokens end p q k →
    k ≡ outcome.On → Leads tokens end p q
step_on tokens end p q outcome.Stuck h e = absurd cc
step_on tokens end p q outcome.Done h e = absurd cc
step_on tokens end p q outcome.On h e = h
