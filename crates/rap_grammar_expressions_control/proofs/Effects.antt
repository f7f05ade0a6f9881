-- What stands before the brace of a block with an effect.
use Rattle.std.proofs.Common.{◌≡◌, ◌≢◌, ℕ, Bool, true, false, ◌==◌, ◌&&◌, ◌||◌, List, [], ◌∷◌, drop, zero, suc, refl, ap, ◌∙◌, arith}
use Rattle.std.proofs.lemmas.Bool.Decides.{nat_tests}
use Rattle.rap_base.specs.TokenKind.{EOF, L_CURLY, CONST_KW, UNSAFE_KW, ASYNC_KW, GEN_KW, MOVE_KW}
use Rattle.rap_events.specs.Record.{Record, next_kind, kind_at}
use Rattle.rap_events.specs.State.{State, next, Bumped, Ate}
use Rattle.rap_grammar_scripts.specs.EffectBlocks.{is_effect_block}
use Rattle.rap_grammar_scripts.specs.First.{one_of}
use Rattle.rap_grammar_scripts.specs.Test.{holds}
use Rattle.rap_grammar_frame.proofs.Lookahead.{reach, past_ate}

by_test : {A : Type 0} (b : Bool) → (b ≡ true → A) → (b ≡ false → A) → A
by_test true f h = f refl
by_test false f h = h refl

next_at : (n : ℕ) (rs : List Record) → next_kind (drop n rs) ≡ kind_at rs n
next_at zero [] = refl
next_at zero (r ∷ rs) = refl
next_at (suc n) [] = refl
next_at (suc n) (r ∷ rs) = next_at n rs

-- the kinds of the first four tokens of such a block
abbrev Starts : ℕ → ℕ → ℕ → ℕ → Type 0
Starts a b c d =
    (((one_of (CONST_KW ∷ UNSAFE_KW ∷ ASYNC_KW ∷ GEN_KW ∷ []) a && (b == L_CURLY))
    || (((a == ASYNC_KW) && ((b == GEN_KW) && (c == L_CURLY)))
    || ((one_of (ASYNC_KW ∷ GEN_KW ∷ []) a && ((b == MOVE_KW) && (c == L_CURLY)))
    || ((a == ASYNC_KW) && ((b == GEN_KW) && ((c == MOVE_KW) && (d == L_CURLY))))))) ≡ true)

after_both : (a b c d : ℕ) → Starts a b c d → (b == GEN_KW) ≡ true → (c == MOVE_KW) ≡ true → d ≡ L_CURLY
after_both a b c d h e f = grind (arith, nat_tests)

after_gen : (a b c d : ℕ) → Starts a b c d → (b == GEN_KW) ≡ true → (c == MOVE_KW) ≡ false → c ≡ L_CURLY
after_gen a b c d h e f = grind (arith, nat_tests)

after_move : (a b c d : ℕ) → Starts a b c d → (b == GEN_KW) ≡ false → (b == MOVE_KW) ≡ true → c ≡ L_CURLY
after_move a b c d h e f = grind (arith, nat_tests)

after_none : (a b c d : ℕ) → Starts a b c d → (b == GEN_KW) ≡ false → (b == MOVE_KW) ≡ false → b ≡ L_CURLY
after_none a b c d h e f = grind (arith, nat_tests)

some_kind : (a b c d : ℕ) → Starts a b c d → a ≢ EOF
some_kind a b c d h e = grind (arith, nat_tests)

-- such a block begins with a token
pub some_first : (rs : List Record) → holds is_effect_block rs ≡ true → next_kind rs ≢ EOF
unfolding is_effect_block
some_first rs h = some_kind (next_kind rs) (kind_at rs 1) (kind_at rs 2) (kind_at rs 3) h

brace : (rs : List Record) → holds is_effect_block rs ≡ true →
    next_kind (drop (reach MOVE_KW (reach GEN_KW 1 rs) rs) rs) ≡ L_CURLY
unfolding is_effect_block
brace rs h =
    by_test (next_kind (drop 1 rs) == GEN_KW)
    (λ e.
    let k : (kind_at rs 1 == GEN_KW) ≡ true = rw (← (next_at 1 rs)) e in
    by_test (next_kind (drop 2 rs) == MOVE_KW)
    (λ f. rw (e, f) (next_at 3 rs ∙ after_both (next_kind rs) _ _ _ h k (rw (← (next_at 2 rs)) f)))
    (λ f. rw (e, f) (next_at 2 rs ∙ after_gen (next_kind rs) _ _ (kind_at rs 3) h k (rw (← (next_at 2 rs)) f))))
    (λ e.
    let k : (kind_at rs 1 == GEN_KW) ≡ false = rw (← (next_at 1 rs)) e in
    by_test (next_kind (drop 1 rs) == MOVE_KW)
    (λ f. rw (e, f) (next_at 2 rs ∙ after_move (next_kind rs) _ _ (kind_at rs 3) h k (rw (← (next_at 1 rs)) f)))
    (λ f. rw (e, f)
    (next_at 1 rs ∙ after_none (next_kind rs) _ (kind_at rs 2) (kind_at rs 3) h k (rw (← (next_at 1 rs)) f))))

-- after it the brace comes next
pub brace_next : {s t u v : State} {k : ℕ} {a b : Bool} → holds is_effect_block s.rest ≡ true →
    Bumped s t k 1 → Ate t u GEN_KW a → Ate u v MOVE_KW b → next v ≡ L_CURLY
brace_next {s = s} h d e f =
    let n = past_ate s.rest 1 GEN_KW refl d.rest e in
    let m = past_ate s.rest (reach GEN_KW 1 s.rest) MOVE_KW refl n f in
    ap next_kind m ∙ brace s.rest h
