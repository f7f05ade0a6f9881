-- What one step adds to a filler.
use Rattle.std.proofs.Common.{◌≡◌, ℕ, ◌+◌, ◌^◌, ◌≤◌, ◌<◌, List, [], ◌∷◌, Bool, true, false, length, drop, refl, ap, sym, ◌∙◌, arith}
use Rattle.std.proofs.lemmas.List.{drop_more, drop_all}
use mir.Val.{bool_byte}
use Rattle.std.specs.Prelude.{slice_set, if◌then◌else◌}
use Rattle.rap_lexed.specs.LexedStr.{Token, token_at}
use Rattle.rap_c.specs.Item.{Item, enter, exit, token, split, message, remark, width_of, said_by, counted, row, token_items}
use Rattle.rap_c.specs.Filling.{write_at, Filling, after_all}
use Rattle.rap_c.specs.Fills.{filling_of, IsSame, Adds, Puts}
use Rattle.rap_c.specs.declared.filler.Filler.{Filler}
use Rattle.rap_c.specs.declared.step.RapStep.{RapStep}
use Rattle.rap_c.proofs.Written.{write_at-nothing}

abbrev make : List RapStep → List ℕ → ℕ → ℕ → ℕ → Filling
make steps messages count said place = record { steps = steps; messages = messages; count = count; said = said; place = place }

same_filling : (a a' : List RapStep) (b b' : List ℕ) (c c' d d' e e' : ℕ) → a ≡ a' → b ≡ b' → c ≡ c' → d ≡ d' → e ≡ e' → make a b c d e ≡ make a' b' c' d' e'
same_filling a a' b b' c c' d d' e e' p q r s t =
    ap (λ v. make v b c d e) p ∙ (ap (λ v. make a' v c d e) q ∙ (ap (λ v. make a' b' v d e) r ∙ (ap (λ v. make a' b' c' v e) s ∙ ap (λ v. make a' b' c' d' v) t)))

abbrev wide : ℕ → ℕ → ℕ → ℕ → RapStep
wide what kind at end = record { what = what; kind = kind; at = at; start = at; end = end }

abbrev message_step : ℕ → ℕ → ℕ → RapStep
message_step at start end = record { what = 3; kind = 0; at = at; start = start; end = end }

-- a number of the machine's
small : (n : ℕ) → n < 2 ^ 64 → n ≡ counted n
small n h = omega (arith, h)

-- a step without a message
add : (what kind width : ℕ) (x : Item) (old new : Filler) → wide what kind old.place (counted (old.place + width)) ≡ row old.place old.said x → said_by x ≡ [] → width_of x ≡ width → Puts what kind width old new → Adds x old new
add what kind width x old new is silent wide_is h =
    let quiet : length (said_by x) ≡ 0 = ap (λ l. length l) silent in
    record {
      is = same_filling new.steps.now _ new.messages.now _ new.count _ new.said _ new.place _
          (h.steps ∙ ap (λ r. slice_set old.steps.now old.count r) is)
          (h.messages ∙ (sym (write_at-nothing old.messages.now old.said) ∙ ap (λ l. write_at old.messages.now old.said l) (sym silent)))
          h.count
          (h.said ∙ omega (arith, h.said_fits, quiet))
          (h.place ∙ ap (λ w. counted (old.place + w)) (sym wide_is));
      same = h.same;
    }

pub put_enter : (kind : ℕ) (old new : Filler) → Puts 0 kind 0 old new → Adds (enter kind) old new
put_enter kind old new h = add 0 kind 0 (enter kind) old new
    (ap (λ e. wide 0 kind old.place e) (omega (arith, h.place_fits)) ∙ ap (λ a. wide 0 kind a (counted old.place)) (small old.place h.place_fits)) refl refl h

pub put_exit : (old new : Filler) → Puts 1 0 0 old new → Adds exit old new
put_exit old new h = add 1 0 0 exit old new
    (ap (λ e. wide 1 0 old.place e) (omega (arith, h.place_fits)) ∙ ap (λ a. wide 1 0 a (counted old.place)) (small old.place h.place_fits)) refl refl h

pub put_token : (kind width : ℕ) (old new : Filler) → Puts 2 kind width old new → Adds (token kind width) old new
put_token kind width old new h = add 2 kind width (token kind width) old new
    (ap (λ a. wide 2 kind a (counted (old.place + width))) (small old.place h.place_fits)) refl refl h

pub bit : (b : Bool) → bool_byte b ≡ (if b then 1 else 0)
bit true = refl
bit false = refl

pub put_split : (ends_in_dot : Bool) (n : ℕ) (old new : Filler) → n ≡ (if ends_in_dot then 1 else 0) → Puts 4 n 1 old new → Adds (split ends_in_dot) old new
put_split ends_in_dot n old new e h = add 4 n 1 (split ends_in_dot) old new
    (ap (λ k. wide 4 k old.place (counted (old.place + 1))) e ∙ ap (λ a. wide 4 (if ends_in_dot then 1 else 0) a (counted (old.place + 1))) (small old.place h.place_fits)) refl refl h

-- a message
pub put_message : (bytes : List ℕ) (at : ℕ) (old new : Filler) → old.said < 2 ^ 64 → old.place < 2 ^ 64
    → new.steps.now ≡ slice_set old.steps.now old.count (message_step at old.said (counted (old.said + length bytes)))
    → new.messages.now ≡ write_at old.messages.now old.said bytes → new.count ≡ counted (old.count + 1) → new.said ≡ counted (old.said + length bytes) → new.place ≡ old.place
    → IsSame old new → Adds (message bytes at) old new
put_message bytes at old new said_fits place_fits steps messages count said place same = record {
  is = same_filling new.steps.now _ new.messages.now _ new.count _ new.said _ new.place _
      (steps ∙ ap (λ a. slice_set old.steps.now old.count (message_step at a (counted (old.said + length bytes)))) (small old.said said_fits))
      messages count said (place ∙ omega (arith, place_fits));
  same = same;
}

-- a message at the place after the steps so far
pub message_here : (bytes : List ℕ) (old new : Filler) → old.place < 2 ^ 64 → Adds (message bytes old.place) old new → Adds (remark bytes) old new
message_here bytes old new place_fits h = record {
  is = h.is ∙ ap (λ a. make (slice_set old.steps.now old.count (message_step a (counted old.said) (counted (old.said + length bytes)))) (write_at old.messages.now old.said bytes) (counted (old.count + 1)) (counted (old.said + length bytes)) (counted (old.place + 0))) (small old.place place_fits);
  same = h.same;
}

pub same_refl : (f : Filler) → IsSame f f
same_refl f = record { steps = refl; messages = refl }

pub same_trans : (f g h : Filler) → IsSame f g → IsSame g h → IsSame f h
same_trans f g h a b = record { steps = b.steps ∙ a.steps; messages = b.messages ∙ a.messages }

-- one more of the remaining items
pub one_on : (x : Item) (xs : List Item) (f g : Filler) (whole : Filling) → Adds x f g → after_all (filling_of f) (x ∷ xs) ≡ whole → after_all (filling_of g) xs ≡ whole
one_on x xs f g whole h e = ap (λ i. after_all i xs) h.is ∙ e

-- one more token
pub token_on : (ts : List Token) (i : ℕ) (kind width : ℕ) (f g : Filler) (whole : Filling) → i < length ts → kind ≡ (token_at ts i).kind → width ≡ length (token_at ts i).text
    → Puts 2 kind width f g → after_all (filling_of f) (token_items (drop i ts)) ≡ whole → after_all (filling_of g) (token_items (drop (i + 1) ts)) ≡ whole
token_on ts i kind width f g whole within kind_is width_is h e =
    let t = token_at ts i in
    let added : Adds (token kind width) f g = put_token kind width f g h in
    let is : after_all (filling_of f) (token kind width ∷ token_items (drop (i + 1) ts)) ≡ whole =
    ap (λ k. after_all (filling_of f) (token k width ∷ token_items (drop (i + 1) ts))) kind_is
    ∙ (ap (λ w. after_all (filling_of f) (token t.kind w ∷ token_items (drop (i + 1) ts))) width_is
    ∙ (ap (λ l. after_all (filling_of f) (token_items l)) (sym (drop_more ts i _ within)) ∙ e)) in
    one_on (token kind width) (token_items (drop (i + 1) ts)) f g whole added is

-- no token is left
pub tokens_done : (ts : List Token) (i : ℕ) (f : Filler) (whole : Filling) → length ts ≤ i → after_all (filling_of f) (token_items (drop i ts)) ≡ whole → filling_of f ≡ whole
tokens_done ts i f whole past e = ap (λ l. after_all (filling_of f) (token_items l)) (sym (drop_all i ts past)) ∙ e
