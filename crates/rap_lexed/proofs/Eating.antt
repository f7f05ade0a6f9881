-- Trivia handed out one by one.
use Rattle.std.proofs.Common.{◌≡◌, sym, ◌∙◌, ap, subst, List, [], ◌∷◌, ◌++◌, ℕ, ◌+◌, ◌-◌, ◌<◌, ◌≤◌, true, length, take, drop, arith}
use Rattle.rap_lexed.specs.declared.shortcuts.builder.Builder.{Builder}
use Rattle.rap_lexed.specs.LexedStr.{token_at}
use Rattle.rap_lexed.specs.StrStep.{StrStepValue, str_token}
use Rattle.rap_lexed.specs.StrSink.{Takes, Stops}
use Rattle.rap_lexed.specs.Trivia.{is_trivial, trivia_at, past_trivia, text_of}
use Rattle.rap_lexed.specs.Builder.{leaves_of}
use Rattle.rap_lexed.proofs.Handed.{Reached, reached-more, reached-stops}
use Rattle.rap_lexed.proofs.TriviaRuns.{trivia-more, leaves-more, past-more}

-- trivia were passed to the sink from the first builder's place to the second one's
pub record Eats {S : Type 0} (takes : S → StrStepValue → S → Type 0) (b : Builder) (s : S) (d : Builder) (t : S) : Type 0 where
  pub within : d.pos ≤ length d.lexed.now.tokens
  pub same : d ≡ record b { pos = d.pos }
  pub past : past_trivia d.lexed.now.tokens d.pos ≡ past_trivia b.lexed.now.tokens b.pos
  pub so : Reached takes (leaves_of (trivia_at b.lexed.now.tokens b.pos)) s (leaves_of (trivia_at d.lexed.now.tokens d.pos)) t

module _ {S : Type 0} (takes : S → StrStepValue → S → Type 0) (b : Builder) (s : S) where
  module _ (d : Builder) (m : S) (eats : Eats takes b s d m) (kind : ℕ) (inside : d.pos < length d.lexed.now.tokens) (same_kind : kind ≡ (token_at d.lexed.now.tokens d.pos).kind) (trivial : is_trivial (token_at d.lexed.now.tokens d.pos) ≡ true) where
    -- what remains begins with the trivia at the place
    next : Reached takes (leaves_of (trivia_at b.lexed.now.tokens b.pos)) s ((str_token kind (text_of d.lexed.now.tokens d.pos 1) ∷ []) ++ leaves_of (trivia_at d.lexed.now.tokens (d.pos + 1))) m
    next = subst (λ (l : List StrStepValue). Reached takes (leaves_of (trivia_at b.lexed.now.tokens b.pos)) s l m)
        (trivia-more d.lexed.now.tokens d.pos inside trivial ∙ ap (λ k. str_token k (text_of d.lexed.now.tokens d.pos 1) ∷ leaves_of (trivia_at d.lexed.now.tokens (d.pos + 1))) (sym same_kind))
        eats.so

    pub eats-more : (t : S) → Takes takes m (str_token kind (text_of d.lexed.now.tokens d.pos 1) ∷ []) t → Eats takes b s (record d { pos = d.pos + 1 }) t
    eats-more t h = record {
      within = omega arith;
      same = ap {A = Builder} {B = Builder} (λ x. record x { pos = d.pos + 1 }) eats.same;
      past = past-more d.lexed.now.tokens d.pos inside trivial ∙ eats.past;
      so = reached-more takes (leaves_of (trivia_at b.lexed.now.tokens b.pos)) (str_token kind (text_of d.lexed.now.tokens d.pos 1) ∷ []) (leaves_of (trivia_at d.lexed.now.tokens (d.pos + 1))) s m t next h;
    }

    pub eats-stops : {R : Type 0} (refuses : S → StrStepValue → R → S → Type 0) (t : S) (e : R) → Stops takes refuses m (str_token kind (text_of d.lexed.now.tokens d.pos 1) ∷ []) e t → Stops takes refuses s (leaves_of (trivia_at b.lexed.now.tokens b.pos)) e t
    eats-stops refuses t e h = reached-stops takes refuses (leaves_of (trivia_at b.lexed.now.tokens b.pos)) (str_token kind (text_of d.lexed.now.tokens d.pos 1) ∷ []) (leaves_of (trivia_at d.lexed.now.tokens (d.pos + 1))) s m t e next h

-- i tokens of n were passed to the sink from the first builder's place on
pub record EatsSome {S : Type 0} (takes : S → StrStepValue → S → Type 0) (b : Builder) (s : S) (n i : ℕ) (d : Builder) (t : S) : Type 0 where
  pub same : d ≡ record b { pos = b.pos + i }
  pub so : Reached takes (leaves_of (take n (drop b.pos b.lexed.now.tokens))) s (leaves_of (take (n - i) (drop d.pos d.lexed.now.tokens))) t

module _ {S : Type 0} (takes : S → StrStepValue → S → Type 0) (b : Builder) (s : S) (n : ℕ) where
  module _ (i : ℕ) (few : i < n) (d : Builder) (m : S) (eats : EatsSome takes b s n i d m) (kind : ℕ) (inside : d.pos < length d.lexed.now.tokens) (same_kind : kind ≡ (token_at d.lexed.now.tokens d.pos).kind) where
    -- what remains begins with the token at the place
    following : Reached takes (leaves_of (take n (drop b.pos b.lexed.now.tokens))) s ((str_token kind (text_of d.lexed.now.tokens d.pos 1) ∷ []) ++ leaves_of (take (n - (i + 1)) (drop (d.pos + 1) d.lexed.now.tokens))) m
    following = subst (λ (l : List StrStepValue). Reached takes (leaves_of (take n (drop b.pos b.lexed.now.tokens))) s l m)
        (leaves-more d.lexed.now.tokens d.pos (n - i) inside (omega arith)
        ∙ ap (λ k. str_token k (text_of d.lexed.now.tokens d.pos 1) ∷ leaves_of (take (n - i - 1) (drop (d.pos + 1) d.lexed.now.tokens))) (sym same_kind)
        ∙ ap (λ k. str_token kind (text_of d.lexed.now.tokens d.pos 1) ∷ leaves_of (take k (drop (d.pos + 1) d.lexed.now.tokens))) (omega arith))
        eats.so

    pub some-more : (t : S) → Takes takes m (str_token kind (text_of d.lexed.now.tokens d.pos 1) ∷ []) t → EatsSome takes b s n (i + 1) (record d { pos = d.pos + 1 }) t
    some-more t h = record {
      same = ap {A = Builder} {B = Builder} (λ x. record x { pos = x.pos + 1 }) eats.same ∙ ap {A = ℕ} {B = Builder} (λ k. record b { pos = k }) (omega arith);
      so = reached-more takes (leaves_of (take n (drop b.pos b.lexed.now.tokens))) (str_token kind (text_of d.lexed.now.tokens d.pos 1) ∷ []) (leaves_of (take (n - (i + 1)) (drop (d.pos + 1) d.lexed.now.tokens))) s m t following h;
    }

    pub some-stops : {R : Type 0} (refuses : S → StrStepValue → R → S → Type 0) (t : S) (e : R) → Stops takes refuses m (str_token kind (text_of d.lexed.now.tokens d.pos 1) ∷ []) e t → Stops takes refuses s (leaves_of (take n (drop b.pos b.lexed.now.tokens))) e t
    some-stops refuses t e h = reached-stops takes refuses (leaves_of (take n (drop b.pos b.lexed.now.tokens))) (str_token kind (text_of d.lexed.now.tokens d.pos 1) ∷ []) (leaves_of (take (n - (i + 1)) (drop (d.pos + 1) d.lexed.now.tokens))) s m t e following h
