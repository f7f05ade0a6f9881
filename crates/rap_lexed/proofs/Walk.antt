-- The walk through the steps of an output.
use Rattle.std.proofs.Common.{◌≡◌, refl, false, sym, ◌∙◌, ap, subst, List, [], ◌∷◌, ◌++◌, ℕ, ◌≤◌, Bool, true, IsTrue, length, arith, Result}
use Rattle.std.specs.Prelude.{IfOk, ◌↔◌}
use Rattle.std.proofs.lemmas.Result.{IfOk-weaker}
use Rattle.rap_base.specs.declared.edition.Edition.{Edition}
use Rattle.rap_events.specs.StepValue.{StepValue, enter, exit, token, float_split, error}
use Rattle.rap_events.specs.Forest.{Forest, flat, used, one_tree}
use Rattle.rap_events.specs.Message.{is_at_message_or_end}
use Rattle.rap_events.specs.Cover.{covers}
use Rattle.rap_events.proofs.Trees.{Tree}
use Rattle.rap_lexed.specs.declared.shortcuts.builder.Builder.{Builder}
use Rattle.rap_lexed.specs.declared.shortcuts.builder.State.{State}
use Rattle.rap_lexed.specs.declared.shortcuts.builder.State.TheVariants.{PendingEnter, Normal, PendingExit}
use Rattle.rap_lexed.specs.LexedStr.{Token, joined}
use Rattle.rap_lexed.specs.Input.{records}
use Rattle.rap_lexed.specs.StrStep.{StrStepValue}
use Rattle.rap_lexed.specs.StrForest.{str_flat, str_joined}
use Rattle.rap_lexed.specs.StrSink.{Takes, Stops, HandsOut}
use Rattle.rap_lexed.specs.Trivia.{trivia_at, past_trivia, significant, with_trivia}
use Rattle.rap_lexed.specs.Builder.{held, leaves_of, made_of, state_after, place_after, made_by, moved, CanMake}
use Rattle.rap_lexed.proofs.Covered.{Answers, fits-tree, past_trivia-within}
use Rattle.rap_lexed.proofs.Emitted.{emitted, ending, Fits, emitted-tree, ending-tree}
use Rattle.rap_lexed.proofs.Handed.{Reached, reached-none, reached-more, reached-stops, reached-hands}
use Rattle.rap_lexed.proofs.Joined.{tree_end, joined-whole}

-- where a builder stands before the steps that are left of a tree's output
pub record Stands {S : Type 0} (takes : S → StrStepValue → S → Type 0) (ts : List Token) (f : Forest) (s : S) (b : Builder) (xs : List StepValue) (m : S) : Type 0 where
  pub same : b.lexed.now.tokens ≡ ts
  pub within : b.pos ≤ length ts
  pub fits : Fits ts b.state b.pos xs
  pub end : ending ts b.state b.pos xs ≡ tree_end ts f
  pub so : Reached takes (str_flat (with_trivia ts f)) s (emitted ts b.state b.pos xs) m

-- a step stays within the text
place-within : (ts : List Token) (state : State) (at : ℕ) (x : StepValue) → at ≤ length ts → CanMake ts at x → place_after ts state at x ≤ length ts
place-within ts PendingEnter at (enter kind) h c = h
place-within ts Normal at (enter kind) h c = past_trivia-within ts at h
place-within ts PendingExit at (enter kind) h c = past_trivia-within ts at h
place-within ts state at exit h c = h
place-within ts state at (token kind width) h c = c.1
place-within ts state at (float_split d) h c = c.0
place-within ts state at (error bytes) h c = h

-- the end of a node that waits may be handed out at once where no message comes next
emitted-close : (ts : List Token) (at : ℕ) (xs : List StepValue) → is_at_message_or_end xs ≡ false → emitted ts PendingExit at xs ≡ held PendingExit ++ emitted ts Normal at xs
emitted-close ts at [] h = cc
emitted-close ts at (error bytes ∷ xs) h = cc
emitted-close ts at (enter kind ∷ xs) h = refl
emitted-close ts at (exit ∷ xs) h = refl
emitted-close ts at (token kind width ∷ xs) h = refl
emitted-close ts at (float_split d ∷ xs) h = refl

fits-close : (ts : List Token) (at : ℕ) (xs : List StepValue) → is_at_message_or_end xs ≡ false → Fits ts PendingExit at xs → Fits ts Normal at xs
fits-close ts at [] h k = k
fits-close ts at (error bytes ∷ xs) h k = cc
fits-close ts at (enter kind ∷ xs) h k = k
fits-close ts at (exit ∷ xs) h k = k
fits-close ts at (token kind width ∷ xs) h k = k
fits-close ts at (float_split d ∷ xs) h k = k

ending-close : (ts : List Token) (at : ℕ) (xs : List StepValue) → is_at_message_or_end xs ≡ false → ending ts PendingExit at xs ≡ ending ts Normal at xs
ending-close ts at [] h = refl
ending-close ts at (error bytes ∷ xs) h = cc
ending-close ts at (enter kind ∷ xs) h = refl
ending-close ts at (exit ∷ xs) h = refl
ending-close ts at (token kind width ∷ xs) h = refl
ending-close ts at (float_split d ∷ xs) h = refl

module _ {S : Type 0} (takes : S → StrStepValue → S → Type 0) (ts : List Token) (f : Forest) (s : S) where
  pub stands-start : (b : Builder) (edition : Edition) → b.lexed.now.tokens ≡ ts → b.pos ≡ 0 → b.state ≡ PendingEnter → one_tree f ≡ true → Tree f → covers (records ts edition) f ≡ true → Stands takes ts f s b (flat f) s
  stands-start b edition same zero first tree shape prefix = record {
    same = same;
    within = omega arith;
    fits = rw (zero, first) (fits-tree ts edition f tree shape prefix);
    end = rw (zero, first) (ending-tree ts f tree shape);
    so = rw (zero, first, emitted-tree ts f tree shape) (reached-none takes (str_flat (with_trivia ts f)) s);
  }

  module _ (b : Builder) (x : StepValue) (xs : List StepValue) (m : S) (h : Stands takes ts f s b (x ∷ xs) m) where
    pub stands-can : CanMake b.lexed.now.tokens b.pos x
    stands-can = subst (λ (u : List Token). CanMake u b.pos x) (sym h.same) h.fits.0

    pub stands-more : (t : S) → Takes takes m (made_by b x) t → Stands takes ts f s (moved b x) xs t
    stands-more t k = record {
      same = h.same;
      within = subst (λ (u : List Token). place_after u b.state b.pos x ≤ length ts) (sym h.same) (place-within ts b.state b.pos x h.within h.fits.0);
      fits = subst (λ (u : List Token). Fits ts (state_after b.state x) (place_after u b.state b.pos x) xs) (sym h.same) h.fits.1;
      end = subst (λ (u : List Token). ending ts (state_after b.state x) (place_after u b.state b.pos x) xs ≡ tree_end ts f) (sym h.same) h.end;
      so = subst (λ (u : List Token). Reached takes (str_flat (with_trivia ts f)) s (emitted ts (state_after b.state x) (place_after u b.state b.pos x) xs) t) (sym h.same)
          (reached-more takes (str_flat (with_trivia ts f)) (made_of ts b.state b.pos x) (emitted ts (state_after b.state x) (place_after ts b.state b.pos x) xs) s m t h.so
          (subst (λ (u : List Token). Takes takes m (made_of u b.state b.pos x) t) h.same k));
    }

    pub stands-stops : {R : Type 0} (refuses : S → StrStepValue → R → S → Type 0) (t : S) (e : R) → Stops takes refuses m (made_by b x) e t → Stops takes refuses s (str_flat (with_trivia ts f)) e t
    stands-stops refuses t e k =
        reached-stops takes refuses (str_flat (with_trivia ts f)) (made_of ts b.state b.pos x) (emitted ts (state_after b.state x) (place_after ts b.state b.pos x) xs) s m t e h.so
        (subst (λ (u : List Token). Stops takes refuses m (made_of u b.state b.pos x) e t) h.same k)

  -- where the end of a node waits, and no message comes next
  module _ (b : Builder) (xs : List StepValue) (m : S) (h : Stands takes ts f s b xs m) (waits : b.state ≡ PendingExit) (next : is_at_message_or_end xs ≡ false) where
    stands-waiting : Reached takes (str_flat (with_trivia ts f)) s (held PendingExit ++ emitted ts Normal b.pos xs) m
    stands-waiting =
        subst (λ (l : List StrStepValue). Reached takes (str_flat (with_trivia ts f)) s l m) (emitted-close ts b.pos xs next)
        (subst (λ (w : State). Reached takes (str_flat (with_trivia ts f)) s (emitted ts w b.pos xs) m) waits h.so)

    pub stands-close : (t : S) → Takes takes m (held b.state) t → Stands takes ts f s (record b { state = Normal }) xs t
    stands-close t k = record {
      same = h.same;
      within = h.within;
      fits = fits-close ts b.pos xs next (subst (λ (w : State). Fits ts w b.pos xs) waits h.fits);
      end = sym (ending-close ts b.pos xs next) ∙ subst (λ (w : State). ending ts w b.pos xs ≡ tree_end ts f) waits h.end;
      so = reached-more takes (str_flat (with_trivia ts f)) (held PendingExit) (emitted ts Normal b.pos xs) s m t stands-waiting
          (subst (λ (w : State). Takes takes m (held w) t) waits k);
    }

    pub stands-unclosed : {R : Type 0} (refuses : S → StrStepValue → R → S → Type 0) (t : S) (e : R) → Stops takes refuses m (held b.state) e t → Stops takes refuses s (str_flat (with_trivia ts f)) e t
    stands-unclosed refuses t e k =
        reached-stops takes refuses (str_flat (with_trivia ts f)) (held PendingExit) (emitted ts Normal b.pos xs) s m t e stands-waiting
        (subst (λ (w : State). Stops takes refuses m (held w) e t) waits k)

  module _ (b : Builder) (m : S) (h : Stands takes ts f s b [] m) where
    pub stands-hands : {R T : Type 0} (refuses : S → StrStepValue → R → S → Type 0) (t : S) (r : Result T R) → HandsOut takes refuses m (leaves_of (trivia_at b.lexed.now.tokens b.pos) ++ held b.state) r t → HandsOut takes refuses s (str_flat (with_trivia ts f)) r t
    stands-hands refuses t r k =
        reached-hands takes refuses (str_flat (with_trivia ts f)) (leaves_of (trivia_at ts b.pos) ++ held b.state) s m t r h.so
        (subst (λ (u : List Token). HandsOut takes refuses m (leaves_of (trivia_at u b.pos) ++ held b.state) r t) h.same k)

    pub stands-end : past_trivia b.lexed.now.tokens b.pos ≡ tree_end ts f
    stands-end = subst (λ (u : List Token). past_trivia u b.pos ≡ tree_end ts f) (sym h.same) h.end

-- whether all tokens were passed to the sink, by where the tree ends
module _ {R : Type 0} (ts us : List Token) (f : Forest) (tree : one_tree f ≡ true) (shape : Tree f) (p : ℕ) (same : us ≡ ts) (end : p ≡ tree_end ts f) (answers : Answers ts f) (r : Result Bool R) (h : IfOk r (λ all. IsTrue all ↔ (p ≡ length us))) where
  pub answer-used : IfOk r (λ all. IsTrue all ↔ (used f ≡ significant ts))
  answer-used = IfOk-weaker r (λ all. IsTrue all ↔ (p ≡ length us)) (λ all. IsTrue all ↔ (used f ≡ significant ts))
      (λ all k. (
        λ t. answers.all_used (sym end ∙ k.0 t ∙ ap length same),
        λ u. k.1 (end ∙ answers.at_end u ∙ sym (ap length same)),
      )) h

  pub answer-whole : IfOk r (λ all. IsTrue all → str_joined (with_trivia ts f) ≡ joined ts)
  answer-whole = IfOk-weaker r (λ all. IsTrue all ↔ (p ≡ length us)) (λ all. IsTrue all → str_joined (with_trivia ts f) ≡ joined ts)
      (λ all k t. joined-whole ts f tree shape answers.touch (sym (sym end ∙ k.0 t ∙ ap length same))) h
