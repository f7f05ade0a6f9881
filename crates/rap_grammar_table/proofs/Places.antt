-- Categories by their places: what is so of each in the list is so of all, and two of one place are the same.
use Rattle.std.proofs.Common.{◌≡◌, ◌==◌, ◌&&◌, ℕ, zero, suc, Bool, true, List, [], ◌∷◌, Some, sym, ap, ◌∙◌, subst}
use Rattle.rap_events.proofs.Truth.{and_left, and_right}
use Rattle.rap_grammar_table.proofs.Known.{same_number}
use Rattle.rap_grammar_table.proofs.Numbered.{at_number}
use Rattle.rap_grammar_table.specs.Category.{Category}
use Rattle.rap_grammar_table.specs.Numbers.{categories, category_at, number}

abbrev pub every : (Category → Bool) → List Category → Bool
every f [] = true
every f (c ∷ cs) = f c && every f cs

same_some : (c d : Category) → Some c ≡ Some d → c ≡ d
same_some c d e = cc

pub of_place : (P : Category → Type 0) (Q : List Category → Type 0) → ((c : Category) (cs : List Category) → Q (c ∷ cs) → P c) →
    ((c : Category) (cs : List Category) → Q (c ∷ cs) → Q cs) → (cs : List Category) (n : ℕ) (c : Category) → category_at n cs ≡ Some c → Q cs → P c
of_place P Q first later [] n c e q = absurd cc
of_place P Q first later (d ∷ cs) zero c e q = subst P (same_some d c e) (first d cs q)
of_place P Q first later (d ∷ cs) (suc n) c e q = of_place P Q first later cs n c e (later d cs q)

pub each_so : (f : Category → Bool) (c : Category) → every f categories ≡ true → f c ≡ true
each_so f c h =
    of_place (λ (d : Category). f d ≡ true) (λ (cs : List Category). every f cs ≡ true)
    (λ d cs q. and_left (f d) (every f cs) q) (λ d cs q. and_right (f d) (every f cs) q) categories (number c) c
    (at_number c) h

abbrev pub same_category : Category → Category → Bool
same_category c d = number c == number d

pub same_category_so : (c d : Category) → same_category c d ≡ true → c ≡ d
same_category_so c d h =
    same_some c d
    (sym (at_number c) ∙ ap (λ (n : ℕ). category_at n categories) (same_number (number c) (number d) h) ∙ at_number d)
