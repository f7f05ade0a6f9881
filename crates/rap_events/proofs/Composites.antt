-- Operators of several tokens, and the kinds that a token may bear.
use Rattle.std.proofs.Common.{◌≡◌, ◌≢◌, ℕ, suc, zero, ◌<◌, ◌≤◌, List, [], ◌∷◌, length, Bool, true, false, ◌&&◌, ◌||◌, ◌==◌, ◌⊎◌, inl, inr, refl, sym, ap, ◌∙◌, arith, drop}
use Rattle.std.specs.Prelude.{nat_lt, if◌then◌else◌}
use Rattle.std.proofs.lemmas.Bool.{ltb-true, lt-ltb, eq-eqb, eqb-true, ne_eqb}
use Rattle.rap_base.specs.TokenKind.{EOF, IDENT}
use Rattle.rap_base.specs.Keyword.{is_keyword, is_any_identifier}
use Rattle.rap_base.specs.declared.edition.Edition.TheVariants.{Edition2024}
use Rattle.rap_events.specs.Record.{Record, next_kind, kind_at, joint_at, contextual_at}
use Rattle.rap_events.specs.OperatorTable.{composites}
use Rattle.rap_events.specs.Composite.{row_of, parts, begins_with, touches_next, is_first, is_at, width_of, width}
use Rattle.rap_events.specs.Cover.{of_tokens, first_may_bear, stands}
use Rattle.rap_events.proofs.Truth.{and_left, and_right, and_both, and_false, or_left, or_right}

-- so many tokens are there
begins_with-length : (ks : List ℕ) (rs : List Record) → begins_with ks rs ≡ true → length ks ≤ length rs
begins_with-length [] rs h = omega arith
begins_with-length (k ∷ ks) [] h = absurd cc
begins_with-length (k ∷ []) (r ∷ rs) h = omega arith
begins_with-length (k ∷ j ∷ ks) (r ∷ rs) h =
    let rest : begins_with (j ∷ ks) rs ≡ true = and_right r.joint (begins_with (j ∷ ks) rs) (and_right (r.kind == k) (r.joint && begins_with (j ∷ ks) rs) h) in
    omega (arith, begins_with-length (j ∷ ks) rs rest)

-- each operator has at least two tokens
all_long : List (ℕ × List ℕ) → Bool
all_long [] = true
all_long (row ∷ rows) = nat_lt 1 (length row.1) && all_long rows

row_of-long : (rows : List (ℕ × List ℕ)) (kind : ℕ) → all_long rows ≡ true → (row_of rows kind ≡ []) ⊎ (1 < length (row_of rows kind))
unfolding all_long
row_of-long [] kind h = inl refl
row_of-long (row ∷ rows) kind h =
    let first : 1 < length row.1 = ltb-true 1 (length row.1) (and_left (nat_lt 1 (length row.1)) (all_long rows) h) in
    let others : (row_of rows kind ≡ []) ⊎ (1 < length (row_of rows kind)) = row_of-long rows kind (and_right (nat_lt 1 (length row.1)) (all_long rows) h) in
    elim (row.0 == kind) as (λ b. ((if b then row.1 else row_of rows kind) ≡ []) ⊎ (1 < length (if b then row.1 else row_of rows kind))) [ true ↦ inr first | false ↦ others ]

composites-long : all_long composites ≡ true
unfolding all_long
composites-long = refl

-- what is asked of a leaf that takes the tokens of a kind
pub record Fits (kind : ℕ) (rs : List Record) : Type 0 where
  pub within : width kind ≤ length rs
  pub stands : stands (of_tokens kind (width kind)) rs ≡ true

own_kind : (kind : ℕ) (rs : List Record) → kind ≢ EOF → next_kind rs ≡ kind → (1 ≤ length rs) × (first_may_bear rs kind ≡ true)
own_kind kind [] n h = absurd (n (sym h))
own_kind kind (r ∷ rs) n h = (omega arith, or_left (r.kind == kind) _ (eq-eqb r.kind kind h))

unequal : (n : ℕ) → 1 < n → (n == 1) ≡ false
unequal n h = ne_eqb n 1 (λ e. omega arith)

fits-at : (ps : List ℕ) (kind : ℕ) (rs : List Record) → (ps ≡ []) ⊎ (1 < length ps) → kind ≢ EOF → parts kind ≡ ps → is_first ps kind rs ≡ true →
    (width_of ps ≤ length rs) × (stands (of_tokens kind (width_of ps)) rs ≡ true)
fits-at [] kind rs l n e h = own_kind kind rs n (eqb-true (next_kind rs) kind h)
fits-at (p ∷ ps) kind rs (inl l) n e h = absurd cc
fits-at (p ∷ ps) kind rs (inr l) n e h =
    let w : ℕ = length (p ∷ ps) in
    let long : (length (parts kind) == w) ≡ true = eq-eqb (length (parts kind)) w (ap length e) in
    let there : begins_with (parts kind) rs ≡ true = ap (λ (ks : List ℕ). begins_with ks rs) e ∙ h in
    let several : (w == 1) ≡ false = unequal w l in (
      begins_with-length (p ∷ ps) rs h,
      ap (λ (b : Bool). if b then first_may_bear rs kind else (nat_lt 0 w && ((length (parts kind) == w) && begins_with (parts kind) rs))) several
          ∙ and_both (nat_lt 0 w) _ (lt-ltb 0 w (omega arith)) (and_both (length (parts kind) == w) _ long there),
    )

pub fits : (kind : ℕ) (rs : List Record) → kind ≢ EOF → is_at kind rs ≡ true → Fits kind rs
fits kind rs n h =
    let f = fits-at (parts kind) kind rs (row_of-long composites kind composites-long) n refl h in
    record { within = f.0; stands = f.1 }

-- a token may bear its own kind
pub reads_as_own : (rs : List Record) → next_kind rs ≢ EOF → first_may_bear rs (next_kind rs) ≡ true
reads_as_own rs h = (own_kind (next_kind rs) rs h refl).1

-- an identifier may bear what it is read as
pub reads_as_contextual : (rs : List Record) (kw : ℕ) → kw ≢ EOF → contextual_at rs 0 ≡ kw → next_kind rs ≡ IDENT → first_may_bear rs kw ≡ true
reads_as_contextual [] kw n c k = absurd (n (sym c))
reads_as_contextual (r ∷ rs) kw n c k =
    or_right (r.kind == kw) _ (or_left ((r.kind == IDENT) && (r.contextual == kw)) _ (and_both (r.kind == IDENT) (r.contextual == kw) (eq-eqb r.kind IDENT k) (eq-eqb r.contextual kw c)))

and_assoc : (a b c : Bool) → ((a && b) && c) ≡ (a && (b && c))
and_assoc true b c = refl
and_assoc false b c = refl

either : (a b c : Bool) → (a || c) ≡ true → (a || (b || (true && c))) ≡ true
either true b c h = refl
either false b c h = or_right b (true && c) h

-- an identifier or a keyword may bear the identifier's kind
pub reads_as_ident : (rs : List Record) → is_any_identifier (next_kind rs) ≡ true → first_may_bear rs IDENT ≡ true
reads_as_ident [] h = absurd (let g : false ≡ true = h in cc)
reads_as_ident (r ∷ rs) h = either (r.kind == IDENT) _ (is_keyword r.kind Edition2024) h

-- a token comes next
pub reads_as_within : (rs : List Record) (kind : ℕ) → first_may_bear rs kind ≡ true → 1 ≤ length rs
reads_as_within [] kind h = absurd cc
reads_as_within (r ∷ rs) kind h = omega arith

-- a token of this kind touches the one after it
pub touches_next-drop : (rs : List Record) (place kind : ℕ) → touches_next (drop place rs) kind ≡ ((kind_at rs place == kind) && joint_at rs place)
touches_next-drop [] zero kind = sym (and_false (EOF == kind))
touches_next-drop [] (suc place) kind = sym (and_false (EOF == kind))
touches_next-drop (r ∷ rs) zero kind = refl
touches_next-drop (r ∷ rs) (suc place) kind = touches_next-drop rs place kind

-- past the last token none touches another
pub joint_at-past : (rs : List Record) (place : ℕ) → length rs ≤ place → joint_at rs place ≡ false
joint_at-past [] place h = refl
joint_at-past (r ∷ rs) zero h = absurd (omega arith)
joint_at-past (r ∷ rs) (suc place) h = joint_at-past rs place (omega arith)

pub begins_with-touching : (k j : ℕ) (ks : List ℕ) (rs : List Record) → touches_next rs k ≡ true → begins_with (k ∷ j ∷ ks) rs ≡ begins_with (j ∷ ks) (drop 1 rs)
begins_with-touching k j ks [] h = absurd cc
begins_with-touching k j ks (r ∷ rs) h = ap (λ (b : Bool). b && (r.joint && begins_with (j ∷ ks) rs)) (and_left (r.kind == k) r.joint h) ∙ ap (λ (b : Bool). b && begins_with (j ∷ ks) rs) (and_right (r.kind == k) r.joint h)

pub begins_with-apart : (k j : ℕ) (ks : List ℕ) (rs : List Record) → touches_next rs k ≡ false → begins_with (k ∷ j ∷ ks) rs ≡ false
begins_with-apart k j ks [] h = refl
begins_with-apart k j ks (r ∷ rs) h = sym (and_assoc (r.kind == k) r.joint (begins_with (j ∷ ks) rs)) ∙ ap (λ (b : Bool). b && begins_with (j ∷ ks) rs) h

pub begins_with-one : (k : ℕ) (rs : List Record) → k ≢ EOF → begins_with (k ∷ []) rs ≡ (next_kind rs == k)
begins_with-one k [] n = sym (ne_eqb EOF k (λ e. n (sym e)))
begins_with-one k (r ∷ rs) n = refl
