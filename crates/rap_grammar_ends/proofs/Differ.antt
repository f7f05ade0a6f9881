-- Kinds that a test distinguishes.
use Rattle.std.proofs.Common.{◌≡◌, ℕ, Bool, true, false, ap, sym, ◌∙◌, ◌==◌}
use Rattle.std.proofs.lemmas.Bool.{ne_eqb}

-- two kinds that a test distinguishes
pub differ : (test : ℕ → Bool) (a b : ℕ) → test a ≡ true → test b ≡ false → (a == b) ≡ false
differ test a b h k = ne_eqb a b (λ e. let x : true ≡ false = sym h ∙ ap test e ∙ k in cc)

-- the same the other way round
pub differ_back : (test : ℕ → Bool) (a b : ℕ) → test a ≡ true → test b ≡ false → (b == a) ≡ false
differ_back test a b h k = ne_eqb b a (λ e. let x : true ≡ false = sym h ∙ ap test (sym e) ∙ k in cc)
