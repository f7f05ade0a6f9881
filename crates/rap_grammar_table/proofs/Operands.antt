-- The operands of operators are read: computed once. The rows that begin with one are walked with that taken as so.
use Rattle.std.proofs.Common.{◌≡◌, ℕ, Bool, true, false, ◌==◌, refl, sym, ◌∙◌, subst, zero, suc, drop, List, [], ◌∷◌}
use Rattle.rap_grammar_scripts.specs.Atom as atom
use Rattle.rap_grammar_scripts.specs.Attributes as attributes
use Rattle.rap_grammar_scripts.specs.Expressions as expressions
use Rattle.rap_grammar_scripts.specs.Expressions.{lhs}
use Rattle.rap_grammar_scripts.specs.Knot as knots
use Rattle.rap_grammar_scripts.specs.Knot.{script_of}
use Rattle.rap_grammar_scripts.specs.Literals as literals
use Rattle.rap_grammar_scripts.specs.Operators as operators
use Rattle.rap_grammar_scripts.specs.Ranges as ranges
use Rattle.rap_grammar_scripts.specs.Script.{something, block}
use Rattle.rap_grammar_scripts.specs.ThroughKnot as through_knot
use Rattle.rap_grammar_scripts.specs.Words as words
use Rattle.rap_grammar_scripts.specs.declared.arguments.Restrictions.{Restrictions}
use Rattle.rap_grammar_scripts.specs.declared.rule.Rule.{Rule}
use Rattle.rap_grammar_table.proofs.Places.{same_category}
use Rattle.rap_grammar_table.specs.Category.{Operand, OpenAtom}
use Rattle.rap_grammar_table.proofs.Entry.{Entry}
use Rattle.rap_grammar_table.proofs.Refusal.{Verdict, accepted, both, by_bool}
use Rattle.rap_grammar_table.proofs.Table.{table}
use Rattle.rap_grammar_table.specs.Table.{Items}
use Rattle.rap_grammar_table.proofs.Walk.{Vouch, all_accepted, nesting, reads_row_by, reads_rows}
use Rattle.rap_grammar_table.proofs.Scripts.{scripts}
use Rattle.rap_grammar_table.proofs.Tests.{tests}
use Rattle.rap_grammar_table.proofs.Verdict.{both_left, both_right}

-- what an answer opens to compute with operators
unfoldable pub climbing : Unit {0}
unfolding knots.script_of expressions.expr_bp expressions.expr_from expressions.lhs attributes.outer_attrs
    operators.climb operators.bin_expr operators.cast_expr operators.ref_expr operators.prefix_expr
    operators.ref_qualifier ranges.range_expr ranges.prefix_range ranges.has_range_end words.by_operator
    through_knot.type_no_bounds atom.atom_expr atom.bracketed_expr atom.control_expr atom.jump_expr literals.literal
climbing = tt

abbrev pub restrict : Bool → Restrictions
restrict forbid = record { forbid_structs = forbid; prefer_stmt = false }

operands_read : reads_rows nesting table (Operand false) (lhs (restrict false)) (something ∷ block ∷ []) ≡ accepted
unfolding scripts tests
operands_read = refl

forbidden_read : reads_rows nesting table (Operand true) (lhs (restrict true)) (something ∷ block ∷ []) ≡ accepted
unfolding scripts tests
forbidden_read = refl

open_read : reads_rows nesting table OpenAtom (lhs (restrict false)) (something ∷ []) ≡ accepted
unfolding scripts tests
open_read = refl

-- rows are read where what a script makes of a category is answered so
abbrev pub read_with : Vouch → Entry → Rule → Items → Verdict
read_with o e r row = reads_row_by o table e.follows (script_of r) (e.read_by r) row

abbrev pub all_with : Entry → Rule → List Items → Verdict → Verdict → Verdict
all_with e r rows v w = all_accepted (read_with (λ c a vs. by_bool (same_category c OpenAtom) (λ u. w) (λ u. v)) e r) rows

-- the operands are read, and the jumps and closures
abbrev pub OperandsSo : Bool → Vouch → Type 0
OperandsSo forbid o =
    (o (Operand forbid) (lhs (restrict forbid)) (something ∷ block ∷ []) ≡ accepted) ×
    (o OpenAtom (lhs (restrict false)) (something ∷ []) ≡ accepted)

pub any_so : (forbid : Bool) → OperandsSo forbid (reads_rows nesting table)
any_so false = (operands_read, open_read)
any_so true = (forbidden_read, open_read)

-- With both taken as read, these rows are; so they are where both are read.
abbrev pub Taken : Entry → Rule → List Items → Type 0
Taken e r rows = all_with e r rows accepted accepted ≡ accepted

abbrev pub With : Bool → Entry → Rule → List Items → Type 0
With forbid e r rows = (o : Vouch) → OperandsSo forbid o → all_accepted (read_with o e r) rows ≡ accepted

pub taken : (forbid : Bool) (e : Entry) (r : Rule) (rows : List Items) (o : Vouch) → OperandsSo forbid o →
    Taken e r rows →
    all_with e r rows (o (Operand forbid) (lhs (restrict forbid)) (something ∷ block ∷ []))
    (o OpenAtom (lhs (restrict false)) (something ∷ [])) ≡ accepted
taken forbid e r rows o h w =
    subst
    (λ (v : Verdict). all_with e r rows v (o OpenAtom (lhs (restrict false)) (something ∷ [])) ≡ accepted) (sym h.0)
    (subst (λ (v : Verdict). all_with e r rows accepted v ≡ accepted) (sym h.1) w)

-- where an answer is handed on as it is, what is taken as read is
abbrev pub Same : Bool → Entry → Rule → List Items → Type 0
Same forbid e r rows =
    (o : Vouch) → all_with e r rows (o (Operand forbid) (lhs (restrict forbid)) (something ∷ block ∷ []))
    (o OpenAtom (lhs (restrict false)) (something ∷ [])) ≡ all_accepted (read_with o e r) rows

pub with_operands : (forbid : Bool) (e : Entry) (r : Rule) (rows : List Items) → Taken e r rows →
    Same forbid e r rows → all_accepted (read_with (reads_rows nesting table) e r) rows ≡ accepted
with_operands forbid e r rows w s =
    let o = reads_rows nesting table in sym (s o) ∙ taken forbid e r rows o (any_so forbid) w

-- the first rows, and the others
abbrev pub taking : ℕ → List Items → List Items
taking zero rows = []
taking (suc n) [] = []
taking (suc n) (row ∷ rows) = row ∷ taking n rows

both_so : (v w : Verdict) → v ≡ accepted → w ≡ accepted → both v w ≡ accepted
both_so v w h i = rw h i

pub in_parts : (f : Items → Verdict) (n : ℕ) (rows : List Items) → all_accepted f (taking n rows) ≡ accepted →
    all_accepted f (drop n rows) ≡ accepted → all_accepted f rows ≡ accepted
in_parts f zero rows h i = i
in_parts f (suc n) [] h i = refl
in_parts f (suc n) (row ∷ rows) h i =
    both_so (f row) (all_accepted f rows) (both_left (f row) _ h) (in_parts f n rows (both_right (f row) _ h) i)
