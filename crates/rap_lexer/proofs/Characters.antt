-- The steps of a character.
use Rattle.std.proofs.Common.{◌≡◌, ◌≢◌, ℕ, Bool, true, false, ◌&&◌, ◌==◌, List, [], ◌∷◌, Some, None, slice_get, refl, ap, sym, ◌∙◌, subst}
use Rattle.std.specs.Str.{byte}
use Rattle.rap_lexer.specs.Quoted.{CharacterEnds, CharacterRun, is_one_character, stops_at}
use Rattle.rap_lexer.specs.Quoted.CharacterRun.{end, stop, quote, escaped, other}
use Rattle.rap_lexer.specs.Run.{tail}
use Rattle.rap_lexer.proofs.Ends.{IsEnd, all, then', cons, past}
use Rattle.rap_lexer.proofs.Leads.{Leads}

-- a text with a first character is that and its tail
pub first_tail : (cs : List ℕ) (c : ℕ) → slice_get cs 0 ≡ Some c → cs ≡ c ∷ tail cs
first_tail [] c e = cc
first_tail (d ∷ cs) c e = cc

pub no_first : (cs : List ℕ) → slice_get cs 0 ≡ None → cs ≡ []
no_first [] e = cc
no_first (d ∷ cs) e = cc

module _ (start here : List ℕ) (l : Leads CharacterRun start here) where
  pub at_end : here ≡ [] → CharacterRun start false here
  at_end e = l.back false here (subst (λ (x : List ℕ). CharacterRun x false x) (sym e) end)

  pub at_stop : (c : ℕ) (cs : List ℕ) → here ≡ c ∷ cs → stops_at c cs ≡ true → CharacterRun start false here
  at_stop c cs e t = l.back false here (subst (λ (x : List ℕ). CharacterRun x false x) (sym e) (stop c cs t))

  pub at_quote : (c : ℕ) (cs : List ℕ) → here ≡ c ∷ cs → c ≡ byte "'" → CharacterRun start true cs
  at_quote c cs e q = l.back true cs (subst (λ (x : List ℕ). CharacterRun x true cs) (sym (e ∙ ap (λ x. x ∷ cs) q)) (quote cs))

  pub past_escape : (c : ℕ) (cs : List ℕ) → here ≡ c ∷ cs → c ≡ byte "\\" → Leads CharacterRun start (tail cs)
  past_escape c cs e b = record { back = λ closed rest run. l.back closed rest (subst (λ (x : List ℕ). CharacterRun x closed rest) (sym (e ∙ ap (λ x. x ∷ cs) b)) (escaped cs closed rest run)) }

  pub past_other : (c : ℕ) (cs : List ℕ) → here ≡ c ∷ cs → c ≢ byte "'" → c ≢ byte "\\" → stops_at c cs ≡ false → Leads CharacterRun start cs
  past_other c cs e q b t = record { back = λ closed rest run. l.back closed rest (subst (λ (x : List ℕ). CharacterRun x closed rest) (sym e) (other c cs closed rest q b t run)) }

pub character_end : {cs rest : List ℕ} {closed : Bool} → CharacterRun cs closed rest → IsEnd cs rest
character_end end = all []
character_end (stop c cs t) = all (c ∷ cs)
character_end (quote cs) = cons (byte "'") (all cs)
character_end (escaped cs closed rest r) = cons (byte "\\") (then' (past cs) (character_end r))
character_end (other c cs closed rest q b t r) = cons c (character_end r)

-- a backslash and a character, and a quote
pub escape_ends : (c : ℕ) (rest : List ℕ) → CharacterEnds (92 ∷ c ∷ 39 ∷ rest) true rest
escape_ends c rest =
    let run : CharacterRun (92 ∷ c ∷ 39 ∷ rest) true rest = escaped (c ∷ 39 ∷ rest) true rest (quote rest) in
    let more : is_one_character (92 ∷ c ∷ 39 ∷ rest) ≡ false = elim (c == 39) as (λ z. (z && false) ≡ false) [
      | true ↦ refl
      | false ↦ refl
    ] in
    rw more run
