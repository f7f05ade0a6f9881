-- Items of the core grammar: one leads on to what comes next.
use Rattle.std.proofs.Common.{◌≡◌, ◌==◌, ℕ, true, false, not, List, [], ◌∷◌, ◌++◌, refl}
use Rattle.rap_base.specs.TokenKind.{AT, COMMA, EOF, INT_NUMBER, R_CURLY, SEMICOLON, SHEBANG}
use Rattle.rap_events.specs.Forest.{Forest, ◌⧺◌}
use Rattle.rap_events.specs.Record.{Record, next_kind}
use Rattle.rap_grammar_scripts.specs.Items.{item_or_macro}
use Rattle.rap_grammar_scripts.specs.Test.{Test, kind_so}
use Rattle.rap_grammar_ends.proofs.Recovery.{AreItems}
use Rattle.rap_grammar_ends.proofs.Ways.{Leads}
use Rattle.rap_grammar_ends.specs.Mixed.{IsStray}
use Rattle.rap_grammar_table.specs.Category as category
use Rattle.rap_grammar_table.specs.Fronts.{any_but}
use Rattle.rap_grammar_table.specs.Known.{Sees}
use Rattle.rap_grammar_table.specs.Notation.{those, up_to}
use Rattle.rap_grammar_table.proofs.Table.{table}
use Rattle.rap_grammar_table.proofs.ByKind.{sees_one_of}
use Rattle.rap_grammar_table.proofs.Fronts.{item_adds, item_seen}
use Rattle.rap_grammar_table.proofs.Known.{never_so, weaker}
use Rattle.rap_grammar_table.proofs.Tops.{sees_end}
use Rattle.rap_grammar_table.specs.Tops.{at_end}
use Rattle.rap_grammar.specs.CoreItems.{IsItem}

abbrev pub Next : List Record → Type 0
Next l = Sees (any_but SEMICOLON) l

abbrev kind_is : ℕ → Test
kind_is kind = kind_so 0 (λ k. k == kind)

item_next : {ks : List Record} {t : Forest} → IsItem ks t → (l : List Record) → Next l → Next (ks ++ l)
item_next {ks = ks} d l n =
    weaker (table.firsts category.Item) (any_but SEMICOLON) (ks ++ l) refl (item_seen (d, n))

item_way : {ks : List Record} {t : Forest} → IsItem ks t → (b : List Forest) (f : Forest) (l : List Record) → Next l →
    Leads (item_or_macro false true) b (ks ++ l) f l (f ⧺ t)
item_way d b f l n = item_adds (d, n) f b

item_no_end : {ks : List Record} {t : Forest} → IsItem ks t → (l : List Record) → Next l →
    (next_kind (ks ++ l) == EOF) ≡ false
item_no_end {ks = ks} d l n = never_so (kind_is EOF) (table.firsts category.Item) (ks ++ l) refl (item_seen (d, n))

item_no_brace : {ks : List Record} {t : Forest} → IsItem ks t → (l : List Record) → Next l →
    (next_kind (ks ++ l) == R_CURLY) ≡ false
item_no_brace {ks = ks} d l n =
    never_so (kind_is R_CURLY) (table.firsts category.Item) (ks ++ l) refl (item_seen (d, n))

stray_next : {r : Record} (l : List Record) → IsStray r → Next (r ∷ l)
stray_next {r = r} l h =
    sees_one_of (AT ∷ COMMA ∷ INT_NUMBER ∷ []) (EOF ∷ those (λ k. not (k == SEMICOLON)) (up_to SHEBANG)) (r ∷ l) refl
    h.among

pub core_items : AreItems IsItem Next
core_items =
    record {
      none_next = weaker at_end (any_but SEMICOLON) [] refl sees_end;
      stray_next = stray_next;
      item_next = item_next;
      way = item_way;
      no_end = item_no_end;
      no_brace = item_no_brace;
    }
