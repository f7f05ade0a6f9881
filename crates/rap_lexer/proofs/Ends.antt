-- Ends of a text.
use Rattle.std.proofs.Common.{◌≡◌, ℕ, Bool, true, false, List, [], ◌∷◌, ◌++◌, if◌then◌else◌, refl, ap, sym, ◌∙◌, subst, append_assoc, append-nil}
use Rattle.rap_lexer.specs.Class.{is_in}
use Rattle.rap_lexer.specs.Run.{next_in, tail, run_of, after_run, after_suffix}
use Rattle.rap_lexer.specs.declared.lexer.run.Class.TheVariants.{IdentStart, IdentContinue}
use Rattle.rap_lexer.proofs.Runs.{run_of-after_run}

-- `rest` ends the text
pub record IsEnd (cs rest : List ℕ) : Type 0 where
  pub prefix : List ℕ
  pub join : cs ≡ prefix ++ rest

pub all : (cs : List ℕ) → IsEnd cs cs
all cs = record { prefix = []; join = refl }

pub then' : {a b c : List ℕ} → IsEnd a b → IsEnd b c → IsEnd a c
then' {a} {b} {c} s t = record { prefix = s.prefix ++ t.prefix; join = s.join ∙ (ap (λ x. s.prefix ++ x) t.join ∙ sym (append_assoc s.prefix t.prefix c)) }

pub cons : (c : ℕ) {cs rest : List ℕ} → IsEnd cs rest → IsEnd (c ∷ cs) rest
cons c s = record { prefix = c ∷ s.prefix; join = ap (λ x. c ∷ x) s.join }

pub is : {cs r rest : List ℕ} → rest ≡ r → IsEnd cs r → IsEnd cs rest
is {cs} e s = subst (λ (x : List ℕ). IsEnd cs x) (sym e) s

pub past : (cs : List ℕ) → IsEnd cs (tail cs)
past [] = all []
past (c ∷ cs) = cons c (all cs)

pub run : (p : ℕ → Bool) (cs : List ℕ) → IsEnd cs (after_run p cs)
run p cs = record { prefix = run_of p cs; join = sym (run_of-after_run p cs) }

pub either : (b : Bool) {cs xs ys : List ℕ} → IsEnd cs xs → IsEnd cs ys → IsEnd cs (if b then xs else ys)
either true s t = s
either false s t = t

pub suffix : (cs : List ℕ) → IsEnd cs (after_suffix cs)
suffix cs = either (next_in IdentStart cs) (then' (past cs) (run (is_in IdentContinue) (tail cs))) (all cs)

pub nothing : (cs : List ℕ) → IsEnd cs []
nothing cs = record { prefix = cs; join = sym (append-nil cs) }

-- a list that stands first
pub prefix : {cs : List ℕ} (xs rest : List ℕ) → cs ≡ xs ++ rest → IsEnd cs rest
prefix xs rest e = record { prefix = xs; join = e }
