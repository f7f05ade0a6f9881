-- What waits of a stream.
use Rattle.std.proofs.Common.{◌≡◌, ℕ, ◌+◌, ◌-◌, ◌<◌, ◌≤◌, List, [], ◌∷◌, ◌++◌, length, drop, min, sym, ap, ◌∙◌, refl, subst, inl, inr, arith, append_assoc}
use Rattle.std.proofs.Math.Seq.{drop-length, drop-append-add}
use Rattle.std.proofs.lemmas.Bool.{cases_lt}
use Rattle.std.proofs.lemmas.List.{drop-append-le, length-append, length-drop, drop_all}
use Rattle.rast_frames.specs.Reading.{Waiting, come}

pub drop-append : (k : ℕ) (a b : List ℕ) → drop k (a ++ b) ≡ drop k a ++ drop (k - length a) b
drop-append k a b =
    elim (cases_lt (length a) k) [
      | inl more ↦ let n : ℕ = k - length a in
          let e : k ≡ length a + n = omega arith in
          let past : drop k a ≡ [] = drop_all k a (omega arith) in
          rw past (subst (λ (j : ℕ). drop j (a ++ b) ≡ drop n b) (sym e) (drop-append-add a b n))
      | inr less ↦ let none : k - length a ≡ 0 = omega arith in
          rw none (drop-append-le k a b (omega arith))
    ]

waiting_is : (a b : List ℕ) (k l : ℕ) → a ≡ b → k ≡ l → (let x : Waiting = record { bytes = a; skip = k } in x) ≡ (let y : Waiting = record { bytes = b; skip = l } in y)
waiting_is a b k l e f = cc

pub come_twice : (w : Waiting) (a b : List ℕ) → come (come w a) b ≡ come w (a ++ b)
come_twice w a b =
    waiting_is _ _ _ _
    (append_assoc w.bytes (drop w.skip a) (drop (w.skip - length a) b) ∙ ap (λ xs. w.bytes ++ xs) (sym (drop-append w.skip a b)))
    (omega (arith, length-append a b))

-- a piece whose first bytes are left out
pub comes : (w v : Waiting) (piece : List ℕ) (skipped : ℕ) → skipped ≡ min w.skip (length piece)
    → v.bytes ≡ w.bytes ++ drop skipped piece → v.skip ≡ w.skip - skipped → v ≡ come w piece
comes w v piece skipped e b s =
    let same : drop skipped piece ≡ drop w.skip piece =
    elim (cases_lt (length piece) w.skip) [
      | inl more ↦ drop_all skipped piece (omega arith) ∙ sym (drop_all w.skip piece (omega arith))
      | inr less ↦ let k : skipped ≡ w.skip = omega arith in ap (λ (n : ℕ). drop n piece) k
    ] in
    waiting_is v.bytes _ v.skip _ (b ∙ ap (λ xs. w.bytes ++ xs) same) (omega arith)
