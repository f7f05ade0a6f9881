-- What stands before the items of a file, or of a macro, is read as the table derives it, and items come next.
use Rattle.std.proofs.Common.{◌≡◌, ◌==◌, Bool, true, false, ℕ, zero, suc, List, [], ◌∷◌, refl, sym, subst, ◌∙◌}
use Rattle.rap_base.specs.TokenKind.{AT, COMMA, EOF, FRONTMATTER, INT_NUMBER, SHEBANG}
use Rattle.rap_events.specs.Forest.{Forest}
use Rattle.rap_events.proofs.Truth.{or_right}
use Rattle.rap_events.specs.Record.{Record, kind_at, contextual_at, joint_at}
use Rattle.rap_grammar_scripts.proofs.OneEnd.{one_end}
use Rattle.rap_grammar_scripts.specs.Attributes.{inner_attrs}
use Rattle.rap_grammar_scripts.specs.Entry.{source_file}
use Rattle.rap_grammar_scripts.specs.First.{one_of}
use Rattle.rap_grammar_scripts.specs.Knot.{script_of}
use Rattle.rap_grammar_scripts.specs.Modules.{items, mod_contents}
use Rattle.rap_grammar_scripts.specs.Script.{Outcome, Script, Spot, Runs, gives, passes, fails, takes, follows}
use Rattle.rap_grammar_scripts.specs.Words.{◌▸◌, call, done, eat}
use Rattle.rap_grammar_scripts.specs.declared.rule.Rule.{Rule}
use Rattle.rap_grammar_table.specs.Category.{Item}
use Rattle.rap_grammar_table.specs.Heads.{file_head, items_head}
use Rattle.rap_grammar_table.specs.Known.{Place, Fits, Sees, among, place_at, this_way, later_way}
use Rattle.rap_grammar_table.specs.Notation.{of_kinds}
use Rattle.rap_grammar_table.proofs.Refusal.{accepted}
use Rattle.rap_grammar_table.proofs.Table.{table}
use Rattle.rap_grammar_table.specs.Tops.{MakesRow, at_end}
use Rattle.rap_grammar_table.proofs.Fronts.{MakesOf, reads_so, row_made}
use Rattle.rap_grammar_table.proofs.Known.{weaker}
use Rattle.rap_grammar_table.proofs.Scripts.{scripts}
use Rattle.rap_grammar_table.proofs.Tops.{sees_end}

-- what comes then: an item, a token that begins none, or the end
abbrev pub stray_kinds : List ℕ
stray_kinds = EOF ∷ AT ∷ COMMA ∷ INT_NUMBER ∷ []

abbrev pub head_follows : List (List Place)
head_follows = (of_kinds stray_kinds ∷ []) ∷ table.firsts Item

stray_among : (k : ℕ) → one_of (AT ∷ COMMA ∷ INT_NUMBER ∷ []) k ≡ true → among stray_kinds k ≡ true
stray_among k h = or_right (EOF == k) (among (AT ∷ COMMA ∷ INT_NUMBER ∷ []) k) h

stray_fits : (r : Record) (l : List Record) → among stray_kinds r.kind ≡ true → (n : ℕ) →
    Fits (place_at n (of_kinds stray_kinds ∷ [])) (kind_at (r ∷ l) n) (contextual_at (r ∷ l) n) (joint_at (r ∷ l) n)
stray_fits r l h zero = record { kinds = h; words = refl; joint = refl }
stray_fits r l h (suc n) = record { kinds = refl; words = refl; joint = refl }

pub sees_stray : {r : Record} (l : List Record) → one_of (AT ∷ COMMA ∷ INT_NUMBER ∷ []) r.kind ≡ true →
    Sees head_follows (r ∷ l)
sees_stray {r = r} l h = this_way (record { fits = stray_fits r l (stray_among r.kind h) })

pub sees_item : {l : List Record} → Sees (table.firsts Item) l → Sees head_follows l
sees_item s = later_way s

pub sees_no_more : Sees head_follows []
sees_no_more = weaker at_end head_follows [] refl sees_end

-- the scripts as far as that
abbrev pub attributes_read : Script Rule
attributes_read = call inner_attrs ▸ done

abbrev pub head_read : Script Rule
head_read = eat SHEBANG ▸ eat FRONTMATTER ▸ attributes_read

file_head_read : reads_so head_follows head_read file_head ≡ accepted
unfolding scripts
file_head_read = refl

pub file_head_made : {ks l : List Record} {y : Forest} → MakesRow file_head ks y → Sees head_follows l →
    MakesOf head_read ks l y
file_head_made d i = row_made file_head head_follows head_read file_head_read refl d i

items_head_read : reads_so head_follows attributes_read items_head ≡ accepted
unfolding scripts
items_head_read = refl

pub items_head_made : {ks l : List Record} {y : Forest} → MakesRow items_head ks y → Sees head_follows l →
    MakesOf attributes_read ks l y
items_head_made d i = row_made items_head head_follows attributes_read items_head_read refl d i

-- and items are read from there on
pub past_attributes : {p m q : Spot} {w v : Outcome} → Runs script_of attributes_read p m w →
    Runs script_of (mod_contents false) p q v → Runs script_of (items false) m q v
unfolding mod_contents
past_attributes {q = q} {v = v} (follows x gives) (follows y z) =
    let s = one_end y x in subst (λ (r : Spot). Runs script_of (items false) r q v) s.spot z

clash : {b : Bool} → b ≡ true → b ≡ false → ⊥
clash h i = let x : true ≡ false = sym h ∙ i in cc

past_frontmatter : {p m q : Spot} {w v : Outcome} → Runs script_of (eat FRONTMATTER ▸ attributes_read) p m w →
    Runs script_of (eat FRONTMATTER ▸ mod_contents false) p q v → Runs script_of (items false) m q v
past_frontmatter (passes h (takes e x)) (passes i (takes f y)) = past_attributes x y
past_frontmatter (passes h x) (fails i y) = absurd (clash h i)
past_frontmatter (fails h x) (passes i y) = absurd (clash i h)
past_frontmatter (fails h x) (fails i y) = past_attributes x y

pub past_head : {p m q : Spot} {w v : Outcome} → Runs script_of head_read p m w →
    Runs script_of source_file p q v → Runs script_of (items false) m q v
unfolding source_file
past_head (passes h (takes e x)) (passes i (takes f y)) = past_frontmatter x y
past_head (passes h x) (fails i y) = absurd (clash h i)
past_head (fails h x) (passes i y) = absurd (clash i h)
past_head (fails h x) (fails i y) = past_frontmatter x y
