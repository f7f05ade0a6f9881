-- A table is checked where each of its entries is.
use Rattle.std.proofs.Common.{◌≡◌, Bool, true, false, ◌&&◌, refl, List, [], ◌∷◌, ℕ, zero, suc, Some, subst}
use Rattle.rap_events.proofs.Truth.{and_left, and_right}
use Rattle.rap_grammar_scripts.specs.Knot.{script_of}
use Rattle.rap_grammar_scripts.specs.declared.rule.Rule.{Rule}
use Rattle.rap_grammar_table.proofs.Evaluate.{says}
use Rattle.rap_grammar_table.proofs.Lasts.{ends_plain, if_asked}
use Rattle.rap_grammar_table.proofs.Look.{look, followed, is_one_node, depth}
use Rattle.rap_grammar_table.proofs.Entry.{Entry, table_of}
use Rattle.rap_grammar_table.proofs.Refusal.{Verdict, accepted}
use Rattle.rap_grammar_table.proofs.Hints.{Table}
use Rattle.rap_grammar_table.specs.Category.{Category}
use Rattle.rap_grammar_table.specs.Table.{Grammar, Items, row_at}
use Rattle.rap_grammar_table.proofs.Walk.{reads_row, all_accepted}
use Rattle.rap_grammar_table.proofs.Ways.{some_outcome}
use Rattle.rap_grammar_table.proofs.Sound.{Checked, of_accepted}

-- all rows
abbrev pub all_rows : (Items → Bool) → List Items → Bool
all_rows f [] = true
all_rows f (r ∷ rs) = f r && all_rows f rs

same_some : (r row : Items) → Some r ≡ Some row → r ≡ row
same_some r row e = cc

pub of_all : (f : Items → Bool) (rs : List Items) (n : ℕ) (row : Items) → all_rows f rs ≡ true →
    row_at n rs ≡ Some row → f row ≡ true
of_all f [] n row h e = absurd cc
of_all f (r ∷ rs) zero row h e =
    subst (λ (x : Items). f x ≡ true) (same_some r row e) (and_left (f r) (all_rows f rs) h)
of_all f (r ∷ rs) (suc n) row h e = of_all f rs n row (and_right (f r) (all_rows f rs) h) e

-- what is checked of each row of an entry
abbrev pub is_read : Table → Entry → Rule → Items → Verdict
is_read t e r row = reads_row t e.follows (script_of r) (e.read_by r) row

abbrev pub begins_so : Table → Entry → Items → Bool
begins_so t e row = says (look t row e.follows) e.firsts && if_asked e.unbraced (ends_plain t row)

abbrev pub followed_so : Table → Entry → Items → Bool
followed_so t e row = followed t row e.follows e.follows

pub record EntryChecked (t : Table) (e : Entry) : Type 0 where
  pub reads : (r : Rule) → some_outcome (e.read_by r) ≡ true → all_accepted (is_read t e r) e.rows ≡ accepted
  pub begins : all_rows (begins_so t e) e.rows ≡ true
  pub followed : all_rows (followed_so t e) e.rows ≡ true
  pub nodes : e.is_node ≡ true → all_rows (is_one_node t depth) e.rows ≡ true

asked_so : (a b : Bool) → a ≡ true → if_asked a b ≡ true → b ≡ true
asked_so true b h i = i
asked_so false b h i = absurd cc

-- of a category: its rows are those of its entry, which is checked
pub record CategoryChecked (g : Grammar) (e : Category → Entry) (c : Category) : Type 0 where
  pub rows_are : g c ≡ (e c).rows
  pub is_checked : EntryChecked (table_of g e) (e c)

pub checked_of : (g : Grammar) (e : Category → Entry) → ((c : Category) → CategoryChecked g e c) →
    Checked (table_of g e)
checked_of g e each =
    let t = table_of g e in
    let there : (c : Category) (n : ℕ) (row : Items) → row_at n (g c) ≡ Some row → row_at n (e c).rows ≡ Some row =
    λ c n row h. subst (λ (rs : List Items). row_at n rs ≡ Some row) (each c).rows_are h in
    record {
      reads =
          λ c n row h r i.
          of_accepted (is_read t (e c) r) (e c).rows n row ((each c).is_checked.reads r i) (there c n row h);
      begins =
          λ c n row h.
          and_left (says (look t row (e c).follows) (e c).firsts) _
          (of_all (begins_so t (e c)) (e c).rows n row (each c).is_checked.begins (there c n row h));
      unbraced =
          λ c n row h i.
          asked_so (e c).unbraced (ends_plain t row) i
          (and_right (says (look t row (e c).follows) (e c).firsts) _
          (of_all (begins_so t (e c)) (e c).rows n row (each c).is_checked.begins (there c n row h)));
      followed =
          λ c n row h. of_all (followed_so t (e c)) (e c).rows n row (each c).is_checked.followed (there c n row h);
      is_node =
          λ c n row h i.
          of_all (is_one_node t depth) (e c).rows n row ((each c).is_checked.nodes i) (there c n row h);
    }
