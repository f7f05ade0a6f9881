-- What may be missing, any number of something, and lists with commas are in the rows of the table.
use Rattle.std.proofs.Common.{◌≡◌, ◌==◌, ℕ, false, List, [], ◌∷◌, ◌++◌, append_assoc, append-nil, refl}
use Rattle.rap_base.specs.TokenKind.{COLON, COMMA}
use Rattle.rap_events.proofs.Truth.{and_false}
use Rattle.rap_events.specs.Composite.{begins_with}
use Rattle.rap_events.specs.Forest.{Forest, none, leaf, ◌⧺◌}
use Rattle.rap_events.specs.Record.{Record}
use Rattle.rap_grammar_scripts.specs.Test.{holds}
use Rattle.rap_grammar_scripts.specs.Words.{next_is}
use Rattle.rap_small_grammar.specs.Derives.{Category, Is}
use Rattle.rap_small_grammar.proofs.Begins.{Begins, First}
use Rattle.rap_small_grammar.proofs.IncludedRows.{Row, Turns, done, other_way, ends_with, turns, puts_alone}
use Rattle.rap_grammar_ends.proofs.Differ.{differ}
use Rattle.rap_grammar_table.specs.Category as categories
use Rattle.rap_grammar_table.specs.Table.{Items, nil, choice, piece, cat}
use Rattle.rap_grammar_table.specs.Tops.{Makes}

pub data Optional (A : List Record → Forest → Type 0) : List Record → Forest → Type 0 where
  missing : Optional A [] none
  there : {ks : List Record} {t : Forest} → A ks t → Optional A ks t

pub data AnyNumber (A : List Record → Forest → Type 0) : List Record → Forest → Type 0 where
  no_more : AnyNumber A [] none
  and_more : {ks js : List Record} {t u : Forest} → A ks t → AnyNumber A js u → AnyNumber A (ks ++ js) (t ⧺ u)

pub data WithCommas (A : List Record → Forest → Type 0) : List Record → Forest → Type 0 where
  last_one : {ks : List Record} {t : Forest} → A ks t → WithCommas A ks t
  comma_behind : {a : Record} {ks : List Record} {t : Forest} → A ks t → Is a COMMA →
      WithCommas A (ks ++ a ∷ []) (leaf t COMMA 1)
  comma_and : {a : Record} {ks js : List Record} {t u : Forest} → A ks t → Is a COMMA → WithCommas A js u →
      WithCommas A (ks ++ a ∷ js) (leaf t COMMA 1 ⧺ u)

-- any number of a category
pub any_number : {c : categories.Category} {ks : List Record} {t : Forest} → AnyNumber (Makes c) ks t → Turns (piece (cat c) nil) nil ks t
any_number no_more = ends_with done
any_number (and_more d m) = turns (puts_alone d done) (any_number m)

-- elements that stand in a row so, the last of them and one before a comma
pub record Stands (A : List Record → Forest → Type 0) (a z : Items) : Type 0 where
  pub last : {ks : List Record} {t : Forest} → A ks t → Row (choice z nil nil) none [] ks t
  pub before_comma : {b : Record} {ks : List Record} {t : Forest} → A ks t → Is b COMMA →
      Row a none [] (ks ++ b ∷ []) (leaf t COMMA 1)

pub listed : {A : List Record → Forest → Type 0} {a z : Items} {ks : List Record} {t : Forest} → Stands A a z →
    WithCommas A ks t → Turns a (choice z nil nil) ks t
listed s (last_one e) = ends_with (s.last e)
listed {a = x} {z = z} s (comma_behind {a = b} {ks = ks} {t = t} e o) =
    let d : Turns x (choice z nil nil) ((ks ++ b ∷ []) ++ []) (leaf t COMMA 1) =
    turns (s.before_comma e o) (ends_with (other_way done)) in
    rw append-nil at d
listed {a = x} {z = z} s (comma_and {a = b} {ks = ks} {js = js} {t = t} {u = u} e o m) =
    let d : Turns x (choice z nil nil) ((ks ++ b ∷ []) ++ js) (leaf t COMMA 1 ⧺ u) =
    turns (s.before_comma e o) (listed s m) in
    rw append_assoc at d

pub opt_listed : {A : List Record → Forest → Type 0} {a z : Items} {ks : List Record} {t : Forest} → Stands A a z →
    Optional (WithCommas A) ks t → Turns a (choice z nil nil) ks t
opt_listed s missing = ends_with (other_way done)
opt_listed s (there w) = listed s w

-- what begins so does not begin with that kind, whatever follows it
pub not_next : {c : Category} {ks : List Record} (k : ℕ) → Begins c k ≡ false → First c ks → (l : List Record) →
    holds (next_is k) (ks ++ l) ≡ false
not_next {c = c} k h f l = rw f.is (differ (Begins c) f.r.kind k f.kind h)

-- a colon before what begins so is none of a `::`
pub no_colons : {c : Category} {ks : List Record} (a : Record) → Begins c COLON ≡ false → First c ks → (js l : List Record) →
    begins_with (COLON ∷ COLON ∷ []) (a ∷ ((ks ++ js) ++ l)) ≡ false
no_colons {c = c} a h f js l =
    rw (f.is, differ (Begins c) f.r.kind COLON f.kind h, and_false a.joint, and_false (a.kind == COLON)) refl
