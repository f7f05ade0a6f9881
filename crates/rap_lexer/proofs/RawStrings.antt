-- The steps of a raw string.
use Rattle.std.proofs.Common.{◌≡◌, ◌≢◌, ℕ, zero, suc, Bool, true, false, List, [], ◌∷◌, ◌++◌, ◌+◌, ◌<◌, length, replicate, refl, ap, sym, ◌∙◌, subst, arith, eqb-true, not, ◌==◌, get_or, if◌then◌else◌, append-nil, append_assoc}
use Rattle.std.proofs.lemmas.Bool.{eqb-false}
use Rattle.std.specs.Str.{byte}
use Rattle.rap_lexer.specs.Class.{is_in}
use Rattle.rap_lexer.specs.Quoted.{RawRun}
use Rattle.rap_lexer.specs.Run.{next_is, tail, run_of, after_run}
use Rattle.rap_lexer.specs.declared.lexer.run.Class.TheVariants.{Hash, InRawString}
use Rattle.rap_lexer.proofs.Ends.{IsEnd, all, prefix}
use Rattle.rap_lexer.specs.Quoted.RawRun.{closes_at, runs_on}
use Rattle.rap_lexer.proofs.RawWalk.{RawWalk}
use Rattle.rap_lexer.proofs.RawWalk.RawWalk.{end, close, other}
use Rattle.rap_lexer.proofs.Leads.{Leads}

-- a text that begins with a character is that and its tail
pub next_tail : (a : ℕ) (cs : List ℕ) → next_is a cs ≡ true → cs ≡ a ∷ tail cs
next_tail a [] e = cc
next_tail a (c ∷ cs) e = ap (λ x. x ∷ cs) (eqb-true c a e)

pub run_more : (cs : List ℕ) → next_is (byte "#") cs ≡ true → length (run_of (is_in Hash) cs) ≡ length (run_of (is_in Hash) (tail cs)) + 1
run_more [] e = cc
run_more (c ∷ cs) e = rw e (omega arith)

pub run_done : (cs : List ℕ) → next_is (byte "#") cs ≡ false → length (run_of (is_in Hash) cs) ≡ 0
run_done [] e = refl
run_done (c ∷ cs) e = rw e refl

pub after_more : (cs : List ℕ) → next_is (byte "#") cs ≡ true → after_run (is_in Hash) (tail cs) ≡ after_run (is_in Hash) cs
after_more [] e = cc
after_more (c ∷ cs) e = rw e refl

pub after_done : (cs : List ℕ) → next_is (byte "#") cs ≡ false → after_run (is_in Hash) cs ≡ cs
after_done [] e = refl
after_done (c ∷ cs) e = rw e refl

pub length_tail : (cs : List ℕ) → next_is (byte "#") cs ≡ true → length cs ≡ length (tail cs) + 1
length_tail [] e = cc
length_tail (c ∷ cs) e = omega arith

-- `left` more `#` here are `all` of them at the start
pub record Ahead (all left : ℕ) (start here : List ℕ) : Type 0 where
  pub forth : (rest : List ℕ) → here ≡ replicate left (byte "#") ++ rest → start ≡ replicate all (byte "#") ++ rest
  pub back : (rest : List ℕ) → start ≡ replicate all (byte "#") ++ rest → here ≡ replicate left (byte "#") ++ rest

pub ahead_start : (all left : ℕ) (start here : List ℕ) → all ≡ left → start ≡ here → Ahead all left start here
ahead_start all left start here e f = rw (e, f) (record { forth = λ rest h. h; back = λ rest h. h })

pub ahead_more : (all left next : ℕ) (start here : List ℕ) → Ahead all left start here → left ≡ next + 1 → next_is (byte "#") here ≡ true → Ahead all next start (tail here)
ahead_more all left next start here a e h =
    let n : left ≡ suc next = omega arith in
    let a' : Ahead all (suc next) start here = rw n at a in
    record {
      forth = λ rest f. a'.forth rest (next_tail (byte "#") here h ∙ ap (λ x. byte "#" ∷ x) f);
      back = λ rest f. ap tail (a'.back rest f);
    }

pub ahead_done : (all left : ℕ) (start here : List ℕ) → Ahead all left start here → left ≡ 0 → start ≡ replicate all (byte "#") ++ here
ahead_done all left start here a e =
    let a' : Ahead all 0 start here = rw e at a in
    a'.forth here refl

pub ahead_none : (all left : ℕ) (start here : List ℕ) → Ahead all left start here → 0 < left → next_is (byte "#") here ≡ false → (rest : List ℕ) → start ≢ replicate all (byte "#") ++ rest
ahead_none all zero start here a p h rest e = absurd (omega arith)
ahead_none all (suc left) start here a p h rest e = let f : next_is (byte "#") here ≡ true = ap (λ x. next_is (byte "#") x) (a.back rest e) in cc

module _ (n : ℕ) (start here : List ℕ) (l : Leads (RawWalk n) start here) where
  pub at_end : here ≡ [] → RawWalk n start false []
  at_end e = l.back false [] (subst (λ (x : List ℕ). RawWalk n x false []) (sym e) end)

  pub at_close : (cs rest : List ℕ) → here ≡ cs → cs ≡ byte "\"" ∷ (replicate n (byte "#") ++ rest) → RawWalk n start true rest
  at_close cs rest e f = l.back true rest (close here rest (e ∙ f))

  pub past_other : (c : ℕ) (cs : List ℕ) → here ≡ c ∷ cs → ((rest : List ℕ) → c ∷ cs ≢ byte "\"" ∷ (replicate n (byte "#") ++ rest)) → Leads (RawWalk n) start cs
  past_other c cs e f = record { back = λ closed rest run. l.back closed rest (subst (λ (x : List ℕ). RawWalk n x closed rest) (sym e) (other c cs closed rest f run)) }

pub raw_end : {n : ℕ} {cs rest : List ℕ} {closed : Bool} → RawRun n cs closed rest → IsEnd cs rest
raw_end {n} (closes_at place rest k first) =
    let quote = byte "\"" ∷ replicate n (byte "#") in
    prefix (k.prefix ++ quote) rest (k.split ∙ sym (append_assoc k.prefix quote rest))
raw_end {n} {cs} (runs_on h) = prefix cs [] (sym (append-nil cs))

-- what is no quote is passed over
pub past_text : (n : ℕ) (start here : List ℕ) → Leads (RawWalk n) start here → Leads (RawWalk n) start (after_run (is_in InRawString) here)
past_text n start [] l = l
past_text n start (c ∷ cs) l =
    (elim (c == byte "\"") as (λ z. (c == byte "\"") ≡ z → Leads (RawWalk n) start (if not z then after_run (is_in InRawString) cs else (c ∷ cs))) [
      | true ↦ λ q. l
      | false ↦ λ q. past_text n start cs (past_other n start (c ∷ cs) l c cs refl (λ rest e. eqb-false c (byte "\"") q (ap (λ l. get_or l 0 0) e)))
    ]) refl
