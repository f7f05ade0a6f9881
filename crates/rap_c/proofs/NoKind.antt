-- Numbers of no kind.
use Rattle.std.proofs.Common.{◌≡◌, ◌≢◌, ℕ, ◌+◌, ◌<◌, ◌≤◌, List, None, ap, ◌∙◌, inl, inr, arith}
use Rattle.std.proofs.lemmas.Bool.{cases_lt}
use Rattle.std.proofs.lemmas.Bool.Decides.{nat_tests}
use Rattle.rap_c.specs.Numbers.{kind_in}

pub no_kind : (n : ℕ) → kind_in n ≡ None → 330 ≤ n
no_kind n e = elim (cases_lt n 330) [
  | inl low ↦ grind (arith, nat_tests)
  | inr high ↦ high
]

-- the names below a number are others than one, and so is the number's own
pub none_next : (named : ℕ → List ℕ) (name : List ℕ) (n : ℕ) → ((kind : ℕ) → kind < n → named kind ≢ name) → named n ≢ name → (kind : ℕ) → kind < n + 1 → named kind ≢ name
none_next named name n below own kind low e = elim (cases_lt kind n) [
  | inl less ↦ below kind less e
  | inr past ↦
      let same : n ≡ kind = omega (arith, low, past) in
      own (ap named same ∙ e)
]
