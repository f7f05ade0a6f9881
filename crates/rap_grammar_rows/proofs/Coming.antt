-- The tokens up to an end, before whatever follows them.
use Rattle.std.proofs.Common.{◌≡◌, ℕ, zero, suc, ◌+◌, ◌-◌, ◌<◌, ◌≤◌, true, false, ◌==◌, List, [], ◌∷◌, ◌++◌, drop, length, refl, ap, ◌∙◌, arith, length-drop, length-append}
use Rattle.rap_base.specs.TokenKind.{EOF, COLON}
use Rattle.rap_events.specs.Composite.{begins_with}
use Rattle.rap_events.specs.Record.{Record, kind_at, joint_at}
use Rattle.rap_grammar_rows.specs.Claims.{Segment}

pub segment_length : (tokens ks : List Record) (at end : ℕ) → at ≤ end → end ≤ length tokens →
    Segment tokens at end ks → length ks ≡ end - at
segment_length tokens ks at end h l s =
    omega (arith, length-drop at tokens, length-drop end tokens, ap length s, length-append ks (drop end tokens))

kind_left : (ks l : List Record) (n : ℕ) → n < length ks → kind_at (ks ++ l) n ≡ kind_at ks n
kind_left [] l n h = absurd (omega arith)
kind_left (r ∷ rs) l zero h = refl
kind_left (r ∷ rs) l (suc n) h = kind_left rs l n (omega arith)

joint_left : (ks l : List Record) (n : ℕ) → n < length ks → joint_at (ks ++ l) n ≡ joint_at ks n
joint_left [] l n h = absurd (omega arith)
joint_left (r ∷ rs) l zero h = refl
joint_left (r ∷ rs) l (suc n) h = joint_left rs l n (omega arith)

kind_past : (ks : List Record) (n : ℕ) → length ks ≤ n → EOF ≡ kind_at ks n
kind_past [] n h = refl
kind_past (r ∷ rs) zero h = absurd (omega arith)
kind_past (r ∷ rs) (suc n) h = kind_past rs n (omega arith)

joint_past : (ks : List Record) (n : ℕ) → length ks ≤ n → false ≡ joint_at ks n
joint_past [] n h = refl
joint_past (r ∷ rs) zero h = absurd (omega arith)
joint_past (r ∷ rs) (suc n) h = joint_past rs n (omega arith)

kind_dropped : (tokens : List Record) (at n m : ℕ) → m ≡ at + n → kind_at tokens m ≡ kind_at (drop at tokens) n
kind_dropped tokens zero n m e = let f : m ≡ n = omega arith in ap (kind_at tokens) f
kind_dropped [] (suc at) n m e = refl
kind_dropped (r ∷ rs) (suc at) n zero e = absurd (omega arith)
kind_dropped (r ∷ rs) (suc at) n (suc m) e = kind_dropped rs at n m (omega arith)

joint_dropped : (tokens : List Record) (at n m : ℕ) → m ≡ at + n → joint_at tokens m ≡ joint_at (drop at tokens) n
joint_dropped tokens zero n m e = let f : m ≡ n = omega arith in ap (joint_at tokens) f
joint_dropped [] (suc at) n m e = refl
joint_dropped (r ∷ rs) (suc at) n zero e = absurd (omega arith)
joint_dropped (r ∷ rs) (suc at) n (suc m) e = joint_dropped rs at n m (omega arith)

-- one of the tokens up to an end, and none of them
pub kind_within : (tokens ks : List Record) (at end n m : ℕ) → at ≤ end → end ≤ length tokens → m ≡ at + n →
    n < end - at → Segment tokens at end ks → kind_at tokens m ≡ kind_at ks n
kind_within tokens ks at end n m h l e b s =
    let k : length ks ≡ end - at = segment_length tokens ks at end h l s in
    kind_dropped tokens at n m e ∙
    (ap (λ (rs : List Record). kind_at rs n) s ∙ kind_left ks (drop end tokens) n (omega arith))

pub joint_within : (tokens ks : List Record) (at end n m : ℕ) → at ≤ end → end ≤ length tokens → m ≡ at + n →
    n < end - at → Segment tokens at end ks → joint_at tokens m ≡ joint_at ks n
joint_within tokens ks at end n m h l e b s =
    let k : length ks ≡ end - at = segment_length tokens ks at end h l s in
    joint_dropped tokens at n m e ∙
    (ap (λ (rs : List Record). joint_at rs n) s ∙ joint_left ks (drop end tokens) n (omega arith))

pub kind_beyond : (tokens ks : List Record) (at end n : ℕ) → at ≤ end → end ≤ length tokens → end - at ≤ n →
    Segment tokens at end ks → EOF ≡ kind_at ks n
kind_beyond tokens ks at end n h l b s =
    let k : length ks ≡ end - at = segment_length tokens ks at end h l s in kind_past ks n (omega arith)

pub joint_beyond : (tokens ks : List Record) (at end n : ℕ) → at ≤ end → end ≤ length tokens → end - at ≤ n →
    Segment tokens at end ks → false ≡ joint_at ks n
joint_beyond tokens ks at end n h l b s =
    let k : length ks ≡ end - at = segment_length tokens ks at end h l s in joint_past ks n (omega arith)

-- the tokens are none, some, or one
pub no_token : (tokens ks : List Record) (at : ℕ) → Segment tokens at at ks → ks ≡ []
no_token tokens [] at s = refl
no_token tokens (r ∷ rs) at s = absurd (omega (arith, ap length s, length-append (r ∷ rs) (drop at tokens)))

pub record Some_tokens (ks : List Record) : Type 0 where
  pub front : Record
  pub others : List Record
  pub are : ks ≡ front ∷ others

pub some_tokens : (tokens ks : List Record) (at end : ℕ) → at < end → end ≤ length tokens → Segment tokens at end ks →
    Some_tokens ks
some_tokens tokens [] at end h l s =
    let k : 0 ≡ end - at = segment_length tokens [] at end (omega arith) l s in absurd (omega arith)
some_tokens tokens (r ∷ rs) at end h l s = record { front = r; others = rs; are = refl }

pub one_token : (tokens ks : List Record) (at end : ℕ) → end - at ≡ 1 → at ≤ end → end ≤ length tokens →
    Segment tokens at end ks → (r : Record) × (ks ≡ r ∷ [])
one_token tokens [] at end o h l s =
    let k : 0 ≡ end - at = segment_length tokens [] at end h l s in absurd (omega arith)
one_token tokens (r ∷ []) at end o h l s = (r, refl)
one_token tokens (r ∷ t ∷ rs) at end o h l s =
    let k : length (r ∷ t ∷ rs) ≡ end - at = segment_length tokens (r ∷ t ∷ rs) at end h l s in absurd (omega arith)

-- a token that is known to be of a kind is so before what follows
pub mark_known : (us l : List Record) → (kind_at us 0 == COLON) ≡ true → begins_with (COLON ∷ []) (us ++ l) ≡ true
mark_known [] l h = absurd cc
mark_known (u ∷ us) l h = h

pub kind_known : (us l : List Record) → (kind_at us 0 == COLON) ≡ true → (kind_at (us ++ l) 0 == COLON) ≡ true
kind_known [] l h = absurd cc
kind_known (u ∷ us) l h = h
