-- The texts of the parts of a float.
use Rattle.std.specs.Prelude.{unwrap_or, if◌then◌else◌}
use Rattle.std.specs.Borrow.{Bor}
use Rattle.std.specs.List.{position_or_len, before_first, after_first}
use Rattle.std.specs.Option.{MatchOption}
use Rattle.std.specs.Str.Pattern.{FindsCharSuffix}
use Rattle.std.proofs.Common.{◌≡◌, ℕ, ◌+◌, ◌-◌, List, [], ◌∷◌, ◌++◌, Option, Some, None, Bool, true, false, length, length-append, take, sym, ap, ◌∙◌, arith, lit<}
use Rattle.std.proofs.lemmas.Bool.{lt-ltb}
use Rattle.std.proofs.lemmas.List.{take_at}
use Rattle.std.proofs.lemmas.Str.Pattern.{strip_suffix_char, split_once_first, IsSplitOnceResult}
use Rattle.rap_lexed.specs.Builder.{number_steps, dotted_steps, illegal_steps, float_steps}
use Rattle.rap_lexed.specs.FloatParts.{is_dot, has_dot, without_dot}
use Rattle.rap_lexed.specs.Input.{ends_with_dot}
use Rattle.rap_lexed.proofs.Joined.{dot_text}

prefix_is : (text prefix : List ℕ) → text ≡ prefix ++ 46 ∷ [] → prefix ≡ without_dot text
prefix_is text prefix e =
    let long : length text ≡ length prefix + 1 = ap length e ∙ length-append prefix (46 ∷ []) in
    sym (ap (λ n. take n text) (omega (arith, long)) ∙ ap (take (length prefix)) e ∙ take_at prefix (46 ∷ []) (length prefix) (omega arith))

strips : (text : List ℕ) (r : Option (Bor (List ℕ))) (d : Bor (List ℕ)) → MatchOption r ((prefix : List ℕ) → text ≡ prefix ++ 46 ∷ [] → ⊥) (λ x. text ≡ x.now ++ 46 ∷ []) → ends_with_dot text ≡ true → (unwrap_or r d).now ≡ without_dot text
strips text None d h e = absurd (h (without_dot text) (sym (dot_text text e)))
strips text (Some x) d h e = prefix_is text x.now h

pub stripped : (text : List ℕ) (r : Option (Bor (List ℕ))) (d : Bor (List ℕ)) →
    MatchOption r (FindsCharSuffix 46 text None) (λ x. (n : ℕ) × FindsCharSuffix 46 text (Some n) × (x.now ≡ take (length text - n) text) × (length x.now + n ≡ length text)) →
    ends_with_dot text ≡ true → (unwrap_or r d).now ≡ without_dot text
stripped text r d h e = strips text r d (strip_suffix_char 46 text r h (lit< tt)) e

-- the numbers before and after the first dot
pub record Split (text before after : List ℕ) : Type 0 where
  pub dot : has_dot text ≡ true
  pub left : before ≡ before_first is_dot text
  pub right : after ≡ after_first is_dot text

pub split_once_text : (text : List ℕ) (left right : Bor (List ℕ)) → IsSplitOnceResult 46 text (Some (left, right)) → Split text left.now right.now
split_once_text text left right h =
    let parts = split_once_first 46 text (Some (left, right)) h (lit< tt) in
    record { dot = lt-ltb (position_or_len is_dot text) (length text) parts.0; left = parts.1; right = parts.2 }

pub float_steps-dotted : (d : Bool) (text : List ℕ) (pos : ℕ) → d ≡ true → float_steps d text pos ≡ dotted_steps (without_dot text)
float_steps-dotted d text pos e = ap (λ b. float_steps b text pos) e

pub float_steps-split : (d : Bool) (text : List ℕ) (pos : ℕ) → d ≡ false → has_dot text ≡ true → float_steps d text pos ≡ dotted_steps (before_first is_dot text) ++ number_steps (after_first is_dot text)
float_steps-split d text pos e h =
    ap (λ b. float_steps b text pos) e
    ∙ ap (λ v. if v then dotted_steps (before_first is_dot text) ++ number_steps (after_first is_dot text) else illegal_steps text pos) h
