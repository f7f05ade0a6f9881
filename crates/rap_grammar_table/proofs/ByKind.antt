-- What comes next, by its kind alone.
use Rattle.std.proofs.Common.{◌≡◌, ◌≢◌, ◌==◌, ℕ, zero, suc, true, false, not, nat_le, List, [], ◌∷◌, ◌++◌, length, All, refl, subst, arith}
use Rattle.std.proofs.Math.Seq.{drop-append_seam}
use Rattle.std.proofs.lemmas.Bool.{ne_eqb}
use Rattle.std.proofs.lemmas.Bool.Decides.{nat_tests}
use Rattle.rap_base.specs.TokenKind.{EOF, SHEBANG}
use Rattle.rap_base.specs.TokenTests.{is_token}
use Rattle.rap_events.proofs.Records.{next_is_token}
use Rattle.rap_events.proofs.Truth.{and_left, and_right}
use Rattle.rap_events.specs.Record.{Record, IsTokenRecord, next_kind, kind_at, contextual_at, joint_at}
use Rattle.rap_grammar_scripts.specs.First.{one_of}
use Rattle.rap_grammar_table.specs.Fronts.{any_but}
use Rattle.rap_grammar_table.specs.Known.{Fits, Sees, among, every_one, place_at, this_way}
use Rattle.rap_grammar_table.specs.Notation.{those, of_kinds, up_to}
use Rattle.rap_grammar_table.proofs.Known.{by_or, by_truth, same_number}
use Rattle.rap_grammar_table.proofs.NarrowLaws.{among_those}

-- the kinds up to one are among those that count up to it
none_less : (k : ℕ) → nat_le k 0 ≡ true → k ≡ 0
none_less k h = grind (arith, nat_tests)

less : (k m : ℕ) → nat_le k (suc m) ≡ true → (suc m == k) ≡ false → nat_le k m ≡ true
less k m h e = grind (arith, nat_tests)

pub among_up_to : (n k : ℕ) → nat_le k n ≡ true → k ≢ 0 → among (up_to n) k ≡ true
among_up_to zero k h n = absurd (n (none_less k h))
among_up_to (suc m) k h n =
    by_truth (suc m == k) (λ e. rw e refl) (λ e. rw e (among_up_to m k (less k m h e) n))

-- what comes next is of one of these kinds
fits_kind : (kinds : List ℕ) (rs : List Record) → among kinds (next_kind rs) ≡ true → (n : ℕ) →
    Fits (place_at n (of_kinds kinds ∷ [])) (kind_at rs n) (contextual_at rs n) (joint_at rs n)
fits_kind kinds [] h zero = record { kinds = h; words = refl; joint = refl }
fits_kind kinds (r ∷ rs) h zero = record { kinds = h; words = refl; joint = refl }
fits_kind kinds rs h (suc n) = record { kinds = refl; words = refl; joint = refl }

sees_kind : (kinds : List ℕ) (rs : List Record) → among kinds (next_kind rs) ≡ true →
    Sees ((of_kinds kinds ∷ []) ∷ []) rs
sees_kind kinds rs h = this_way (record { fits = fits_kind kinds rs h })

among_of : (js ks : List ℕ) (k : ℕ) → every_one (among ks) js ≡ true → one_of js k ≡ true → among ks k ≡ true
among_of [] ks k e h = absurd cc
among_of (j ∷ js) ks k e h =
    by_or (j == k) (one_of js k) h
    (λ i. subst (λ (n : ℕ). among ks n ≡ true) (same_number j k i) (and_left (among ks j) _ e))
    (λ i. among_of js ks k (and_right (among ks j) _ e) i)

-- of kinds that are all among others
pub sees_one_of : (js ks : List ℕ) (rs : List Record) → every_one (among ks) js ≡ true →
    one_of js (next_kind rs) ≡ true → Sees ((of_kinds ks ∷ []) ∷ []) rs
sees_one_of js ks rs e h = sees_kind ks rs (among_of js ks (next_kind rs) e h)

-- a token of another kind than this, or the end
other_kind : (k j : ℕ) → is_token j ≡ true → j ≢ k → among (EOF ∷ those (λ i. not (i == k)) (up_to SHEBANG)) j ≡ true
other_kind k j h n =
    by_truth (EOF == j) (λ e. rw e refl)
    (λ e. rw e
    (among_those (λ i. not (i == k)) (up_to SHEBANG) j (among_up_to SHEBANG j h (some j e)) (rw (ne_eqb j k n) refl)))
  where
    some : (j : ℕ) → (EOF == j) ≡ false → j ≢ 0
    some j e i = absurd cc

pub sees_other : (k : ℕ) (rs : List Record) → is_token (next_kind rs) ≡ true → next_kind rs ≢ k → Sees (any_but k) rs
sees_other k rs h n = sees_kind (EOF ∷ those (λ i. not (i == k)) (up_to SHEBANG)) rs (other_kind k (next_kind rs) h n)

-- the same behind some tokens of an input
pub sees_other_behind : (k : ℕ) (front rest : List Record) → All IsTokenRecord (front ++ rest) → next_kind rest ≢ k →
    Sees (any_but k) rest
sees_other_behind k front rest h n =
    sees_other k rest (rw drop-append_seam at (next_is_token (front ++ rest) (length front) h)) n
