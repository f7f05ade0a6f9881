-- The steps of a string.
use Rattle.std.proofs.Common.{◌≡◌, ◌≢◌, ℕ, Bool, true, false, List, [], ◌∷◌, not, ◌&&◌, ◌||◌, ◌==◌, if◌then◌else◌, refl, ap, sym, ◌∙◌, subst}
use Rattle.std.proofs.lemmas.Bool.{eqb-false}
use Rattle.std.specs.Str.{byte}
use Rattle.rap_lexer.specs.Quoted.{StringRun, takes_next}
use Rattle.rap_lexer.specs.Quoted.StringRun.{end, quote, escaped, other}
use Rattle.rap_lexer.specs.Class.{is_in}
use Rattle.rap_lexer.specs.Run.{next_is, tail, after_run}
use Rattle.rap_lexer.specs.declared.lexer.run.Class.TheVariants.{InString}
use Rattle.rap_lexer.proofs.Ends.{IsEnd, all, then', cons, past}
use Rattle.rap_lexer.proofs.Leads.{Leads}

module _ (start here : List ℕ) (l : Leads StringRun start here) where
  pub at_end : here ≡ [] → StringRun start false []
  at_end e = l.back false [] (subst (λ (x : List ℕ). StringRun x false []) (sym e) end)

  pub at_quote : (c : ℕ) (cs : List ℕ) → here ≡ c ∷ cs → c ≡ byte "\"" → StringRun start true cs
  at_quote c cs e q = l.back true cs (subst (λ (x : List ℕ). StringRun x true cs) (sym (e ∙ ap (λ x. x ∷ cs) q)) (quote cs))

  pub past_escape : (c : ℕ) (cs : List ℕ) → here ≡ c ∷ cs → takes_next c cs ≡ true → Leads StringRun start (tail cs)
  past_escape c cs e t = record { back = λ closed rest run. l.back closed rest (subst (λ (x : List ℕ). StringRun x closed rest) (sym e) (escaped c cs closed rest t run)) }

  pub past_other : (c : ℕ) (cs : List ℕ) → here ≡ c ∷ cs → c ≢ byte "\"" → takes_next c cs ≡ false → Leads StringRun start cs
  past_other c cs e q t = record { back = λ closed rest run. l.back closed rest (subst (λ (x : List ℕ). StringRun x closed rest) (sym e) (other c cs closed rest q t run)) }

pub string_end : {cs rest : List ℕ} {closed : Bool} → StringRun cs closed rest → IsEnd cs rest
string_end end = all []
string_end (quote cs) = cons (byte "\"") (all cs)
string_end (escaped c cs closed rest t r) = cons c (then' (past cs) (string_end r))
string_end (other c cs closed rest q t r) = cons c (string_end r)

-- what is neither a quote nor a backslash is passed over
pub past_text : (start here : List ℕ) → Leads StringRun start here → Leads StringRun start (after_run (is_in InString) here)
past_text start [] l = l
past_text start (c ∷ cs) l =
    (elim (c == byte "\"") as (λ z. (c == byte "\"") ≡ z → Leads StringRun start (if not (z || (c == byte "\\")) then after_run (is_in InString) cs else (c ∷ cs))) [
      | true ↦ λ q. l
      | false ↦ λ q. (elim (c == byte "\\") as (λ z. (c == byte "\\") ≡ z → Leads StringRun start (if not z then after_run (is_in InString) cs else (c ∷ cs))) [
        | true ↦ λ b. l
        | false ↦ λ b. past_text start cs (past_other start (c ∷ cs) l c cs refl (eqb-false c (byte "\"") q) (ap (λ z. z && (next_is (byte "\\") cs || next_is (byte "\"") cs)) b))
      ]) refl
    ]) refl
