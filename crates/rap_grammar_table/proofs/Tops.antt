-- What the table derives of a whole input is what the entries' scripts make of it, without a message.
use Rattle.std.proofs.Common.{◌≡◌, true, ℕ, List, [], ◌∷◌, append-nil, refl, zero, suc, false}
use Rattle.rap_base.specs.TokenKind.{EOF}
use Rattle.rap_events.specs.Forest.{Forest, none}
use Rattle.rap_events.specs.Record.{Record, kind_at, contextual_at, joint_at}
use Rattle.rap_grammar_scripts.specs.Entry.{macro_stmts, source_file}
use Rattle.rap_grammar_scripts.specs.Knot.{script_of}
use Rattle.rap_grammar_scripts.specs.Modules.{mod_contents}
use Rattle.rap_grammar_scripts.specs.Script.{Script, something, Runs}
use Rattle.rap_grammar_scripts.specs.ThroughKnot.{expr, meta, pattern, type_}
use Rattle.rap_grammar_scripts.specs.declared.rule.Rule.{Rule}
use Rattle.rap_grammar_table.specs.Category.{Expr, Meta, Pattern, Ty, Category}
use Rattle.rap_grammar_table.proofs.Good.{IsNode}
use Rattle.rap_grammar_table.specs.Known.{Fits, Sees, this_way, place_at}
use Rattle.rap_grammar_table.proofs.Evaluate.{says}
use Rattle.rap_grammar_table.proofs.Look.{followed}
use Rattle.rap_grammar_table.specs.Notation.{of_kinds}
use Rattle.rap_grammar_table.proofs.Refusal.{accepted}
use Rattle.rap_grammar_table.proofs.Table.{table}
use Rattle.rap_grammar_table.specs.Table.{Items}
use Rattle.rap_grammar_table.specs.Tops.{Makes, MakesRow, file_row, items_row, stmts_row, at_end}
use Rattle.rap_grammar_table.proofs.Fronts.{MakesOf, expr_front, meta_front, node_made, pattern_front, reads_so, row_made, type_front}
use Rattle.rap_grammar_table.proofs.Known.{weaker}
use Rattle.rap_grammar_table.proofs.Scripts.{scripts}

-- what comes next at the end of the input
end_fits : (n : ℕ) → Fits (place_at n (of_kinds (EOF ∷ []) ∷ [])) (kind_at [] n) (contextual_at [] n) (joint_at [] n)
end_fits zero = record { kinds = refl; words = refl; joint = refl }
end_fits (suc n) = record { kinds = refl; words = refl; joint = refl }

pub sees_end : Sees at_end []
sees_end = this_way (record { fits = end_fits })

pub end_follows : (c : Category) → says at_end (table.follows c) ≡ true → Sees (table.follows c) []
end_follows c h = weaker at_end (table.follows c) [] h sees_end

-- a script makes of the whole input what is derived
abbrev pub MakesAll : Script Rule → List Record → Forest → Type 0
MakesAll s ks y =
    (b : List Forest) → Runs script_of s (record { rest = ks; forest = none; below = b })
    (record { rest = []; forest = y; below = b }) something

pub whole : {s : Script Rule} {ks : List Record} {y : Forest} → MakesOf s ks [] y → MakesAll s ks y
whole m b = rw append-nil at (m b)

root_made : (is : Items) {ks : List Record} {y : Forest} (s : Script Rule) → reads_so at_end s is ≡ accepted →
    followed table is at_end at_end ≡ true → MakesRow is ks y → MakesAll s ks y
root_made is s h w d = whole (row_made is at_end s h w d sees_end)

-- a file, and the items of a macro
file_read : reads_so at_end source_file file_row ≡ accepted
unfolding scripts
file_read = refl

pub file_made : {ks : List Record} {y : Forest} → MakesRow file_row ks y → MakesAll source_file ks y
file_made d = root_made file_row source_file file_read refl d

items_read : reads_so at_end (mod_contents false) items_row ≡ accepted
unfolding scripts
items_read = refl

pub items_made : {ks : List Record} {y : Forest} → MakesRow items_row ks y → MakesAll (mod_contents false) ks y
items_made d = root_made items_row (mod_contents false) items_read refl d

-- the statements of a macro
stmts_read : reads_so at_end macro_stmts stmts_row ≡ accepted
unfolding scripts
stmts_read = refl

pub stmts_made : {ks : List Record} {y : Forest} → MakesRow stmts_row ks y → MakesAll macro_stmts ks y
stmts_made d = root_made stmts_row macro_stmts stmts_read refl d

-- a type, a pattern, an expression, and what stands in an attribute
pub type_made : {ks : List Record} {y : Forest} → Makes Ty ks y → MakesAll type_ ks y
type_made d = whole (type_front (d, end_follows Ty refl))

pub type_is_node : {ks : List Record} {y : Forest} → Makes Ty ks y → IsNode y
type_is_node d = node_made Ty [] refl (end_follows Ty refl) d

pub pattern_made : {ks : List Record} {y : Forest} → Makes Pattern ks y → MakesAll pattern ks y
pattern_made d = whole (pattern_front (d, end_follows Pattern refl))

pub pattern_is_node : {ks : List Record} {y : Forest} → Makes Pattern ks y → IsNode y
pattern_is_node d = node_made Pattern [] refl (end_follows Pattern refl) d

pub expr_made : {ks : List Record} {y : Forest} → Makes Expr ks y → MakesAll expr ks y
expr_made d = whole (expr_front (d, end_follows Expr refl))

pub expr_is_node : {ks : List Record} {y : Forest} → Makes Expr ks y → IsNode y
expr_is_node d = node_made Expr [] refl (end_follows Expr refl) d

pub meta_made : {ks : List Record} {y : Forest} → Makes Meta ks y → MakesAll meta ks y
meta_made d = whole (meta_front (d, end_follows Meta refl))

pub meta_is_node : {ks : List Record} {y : Forest} → Makes Meta ks y → IsNode y
meta_is_node d = node_made Meta [] refl (end_follows Meta refl) d
