-- The leaves that steps show.
use Rattle.std.proofs.Common.{◌≡◌, ◌≢◌, ℕ, zero, suc, ◌+◌, ◌≤◌, ◌<◌, List, [], ◌∷◌, ◌++◌, length, drop, Bool, true, false, not, ◌&&◌, ◌||◌, ◌==◌, refl, sym, ap, ◌∙◌, append_assoc, append-nil, arith, length-drop}
use Rattle.std.specs.Prelude.{nat_lt, if◌then◌else◌}
use Rattle.std.proofs.lemmas.Bool.{eq-eqb, eqb-true, ne_eqb, lt-ltb}
use Rattle.std.proofs.lemmas.List.{drop-drop, drop_all}
use Rattle.rap_base.specs.TokenKind.{FLOAT_NUMBER, IDENT}
use Rattle.rap_base.specs.Keyword.{is_keyword}
use Rattle.rap_base.specs.declared.edition.Edition.TheVariants.{Edition2024}
use Rattle.rap_events.specs.Composite.{parts, begins_with, is_first, is_at}
use Rattle.rap_events.specs.Cover.{Leaf, leaves, covers, stand, stands, widths, leaf_width, of_tokens, of_float, first_may_bear, first_splits}
use Rattle.rap_events.specs.Forest.{Forest, none, node, leaf, message, split, flat, split_ends, exit_of, used}
use Rattle.rap_events.specs.Record.{Record, kind_at, contextual_at, joint_at}
use Rattle.rap_events.specs.StepValue.{StepValue, enter, exit, token, float_split, error}
use Rattle.rap_events.specs.Reading.{forest_of}
use Rattle.rap_events.proofs.Finished.{widths-leaves}
use Rattle.rap_events.proofs.Truth.{and_left, and_right, and_false}
use Rattle.rap_steps.specs.Walk.{step_leaves, leaves_in}

leaves_in-append : (ss tt : List StepValue) → leaves_in (ss ++ tt) ≡ leaves_in ss ++ leaves_in tt
leaves_in-append [] tt = refl
leaves_in-append (s ∷ ss) tt = ap (λ l. step_leaves s ++ l) (leaves_in-append ss tt) ∙ sym (append_assoc (step_leaves s) (leaves_in ss) (leaves_in tt))

no_leaf : (n : ℕ) → leaves_in (exit_of n) ≡ []
no_leaf zero = refl
no_leaf (suc n) = refl

pub leaves_in-flat : (f : Forest) → leaves_in (flat f) ≡ leaves f
leaves_in-flat none = refl
leaves_in-flat (node b k x) =
    leaves_in-append (flat b) (enter k ∷ (flat x ++ exit_of (split_ends x)))
    ∙ ap (λ l. l ++ leaves_in (flat x ++ exit_of (split_ends x))) (leaves_in-flat b)
    ∙ ap (λ l. leaves b ++ l) (leaves_in-append (flat x) (exit_of (split_ends x)) ∙ ap (λ l. leaves_in (flat x) ++ l) (no_leaf (split_ends x)) ∙ append-nil (leaves_in (flat x)) ∙ leaves_in-flat x)
leaves_in-flat (leaf b k w) = leaves_in-append (flat b) (token k w ∷ []) ∙ ap (λ l. l ++ of_tokens k w ∷ []) (leaves_in-flat b)
leaves_in-flat (message b m) = leaves_in-append (flat b) (error m ∷ []) ∙ append-nil (leaves_in (flat b)) ∙ leaves_in-flat b
leaves_in-flat (split b d) = leaves_in-append (flat b) (float_split d ∷ []) ∙ ap (λ l. l ++ of_float d ∷ []) (leaves_in-flat b)

and_true : (a b : Bool) → (a && b) ≡ ((a && true) && b)
and_true true b = refl
and_true false b = refl

one_leaf : (l : Leaf) (ls : List Leaf) (rs : List Record) → (stands l rs && stand ls (drop (leaf_width l) rs)) ≡ ((stands l rs && true) && stand ls (drop (leaf_width l + 0) rs))
one_leaf l ls rs =
    and_true (stands l rs) (stand ls (drop (leaf_width l) rs))
    ∙ ap (λ n. (stands l rs && true) && stand ls (drop n rs)) (omega arith)

-- one step after another
stand-next : (s : StepValue) (ls : List Leaf) (rs : List Record) → stand (step_leaves s ++ ls) rs ≡ (stand (step_leaves s) rs && stand ls (drop (widths (step_leaves s)) rs))
stand-next (enter k) ls rs = refl
stand-next exit ls rs = refl
stand-next (error m) ls rs = refl
stand-next (token k w) ls rs = one_leaf (of_tokens k w) ls rs
stand-next (float_split d) ls rs = one_leaf (of_float d) ls rs

widths-append : (ls ms : List Leaf) → widths (ls ++ ms) ≡ widths ls + widths ms
widths-append [] ms = omega arith
widths-append (l ∷ ls) ms = omega (arith, widths-append ls ms)

pub one_on : (s : StepValue) (rest : List StepValue) (rs : List Record) (place width : ℕ) (all : Bool) → stand (step_leaves s) (drop place rs) ≡ true → width ≡ widths (step_leaves s)
    → stand (leaves_in (s ∷ rest)) (drop place rs) ≡ all → stand (leaves_in rest) (drop (place + width) rs) ≡ all
one_on s rest rs place width all here w h =
    ap (λ r. stand (leaves_in rest) r) (sym (drop-drop width place rs) ∙ ap (λ n. drop n (drop place rs)) w)
    ∙ ap (λ b. b && stand (leaves_in rest) (drop (widths (step_leaves s)) (drop place rs))) (sym here)
    ∙ sym (stand-next s (leaves_in rest) (drop place rs)) ∙ h

pub count_on : (s : StepValue) (rest : List StepValue) (place width n : ℕ) → width ≡ widths (step_leaves s) → place + widths (leaves_in (s ∷ rest)) ≡ n → (place + width) + widths (leaves_in rest) ≡ n
count_on s rest place width n w h = omega (arith, widths-append (step_leaves s) (leaves_in rest), w, h)

-- a leaf that does not match
pub stops : (s : StepValue) (rest : List StepValue) (rs : List Record) (place : ℕ) (all : Bool) → stand (step_leaves s) (drop place rs) ≡ false → stand (leaves_in (s ∷ rest)) (drop place rs) ≡ all → all ≡ false
stops s rest rs place all here h =
    sym h ∙ stand-next s (leaves_in rest) (drop place rs) ∙ ap (λ b. b && stand (leaves_in rest) (drop (widths (step_leaves s)) (drop place rs))) here

pub covers_by : (ss : List StepValue) (rs : List Record) → flat (forest_of ss) ≡ ss → covers rs (forest_of ss) ≡ stand (leaves_in ss) rs
covers_by ss rs h = ap (λ l. stand l rs) (sym (leaves_in-flat (forest_of ss)) ∙ ap leaves_in h)

pub used_by : (ss : List StepValue) → flat (forest_of ss) ≡ ss → used (forest_of ss) ≡ widths (leaves_in ss)
used_by ss h = sym (widths-leaves (forest_of ss)) ∙ ap widths (sym (leaves_in-flat (forest_of ss)) ∙ ap leaves_in h)

-- the records have at least as many tokens as the kinds
begins_with-length : (ks : List ℕ) (rs : List Record) → begins_with ks rs ≡ true → length ks ≤ length rs
begins_with-length [] rs h = omega arith
begins_with-length (k ∷ ks) [] h = absurd cc
begins_with-length (k ∷ []) (r ∷ rs) h = omega arith
begins_with-length (k ∷ j ∷ ks) (r ∷ rs) h =
    let rest : begins_with (j ∷ ks) rs ≡ true = and_right r.joint (begins_with (j ∷ ks) rs) (and_right (r.kind == k) (r.joint && begins_with (j ∷ ks) rs) h) in
    omega (arith, begins_with-length (j ∷ ks) rs rest)

some_token : (rs : List Record) (kind : ℕ) → first_may_bear rs kind ≡ true → 1 ≤ length rs
some_token [] kind h = absurd cc
some_token (r ∷ rs) kind h = omega arith

abbrev several : ℕ → ℕ → List Record → Bool
several kind width rs = nat_lt 0 width && ((length (parts kind) == width) && begins_with (parts kind) rs)

tokens_within : (kind width : ℕ) (rs : List Record) (b : Bool) → (width == 1) ≡ b → (if b then first_may_bear rs kind else several kind width rs) ≡ true → width ≤ length rs
tokens_within kind width rs true e h = omega (arith, eqb-true width 1 e, some_token rs kind h)
tokens_within kind width rs false e h =
    let rest : ((length (parts kind) == width) && begins_with (parts kind) rs) ≡ true = and_right (nat_lt 0 width) ((length (parts kind) == width) && begins_with (parts kind) rs) h in
    omega (arith, eqb-true (length (parts kind)) width (and_left (length (parts kind) == width) (begins_with (parts kind) rs) rest), begins_with-length (parts kind) rs (and_right (length (parts kind) == width) (begins_with (parts kind) rs) rest))

-- the tokens of a leaf are there
pub token_within : (kind width : ℕ) (rs : List Record) (place : ℕ) → place ≤ length rs → stands (of_tokens kind width) (drop place rs) ≡ true → place + width ≤ length rs
token_within kind width rs place h s = omega (arith, h, length-drop place rs, tokens_within kind width (drop place rs) (width == 1) refl s)

some_float : (rs : List Record) (d : Bool) → first_splits rs d ≡ true → 1 ≤ length rs
some_float [] d h = absurd cc
some_float (r ∷ rs) d h = omega arith

pub float_within : (d : Bool) (rs : List Record) (place : ℕ) → place ≤ length rs → stands (of_float d) (drop place rs) ≡ true → place + 1 ≤ length rs
float_within d rs place h s = omega (arith, h, length-drop place rs, some_float (drop place rs) d s)

pub one_token : (kind width : ℕ) (rs : List Record) → width ≡ 1 → first_may_bear rs kind ≡ stands (of_tokens kind width) rs
one_token kind width rs e = sym (ap (λ b. if b then first_may_bear rs kind else several kind width rs) (eq-eqb width 1 e))

is_several : (kind width : ℕ) (rs : List Record) → width ≢ 1 → stands (of_tokens kind width) rs ≡ several kind width rs
is_several kind width rs n = ap (λ b. if b then first_may_bear rs kind else several kind width rs) (ne_eqb width 1 n)

pub no_token : (kind width : ℕ) (rs : List Record) → width ≡ 0 → stands (of_tokens kind width) rs ≡ false
no_token kind width rs e = ap (λ n. stands (of_tokens kind n) rs) e

pub no_operator : (kind width : ℕ) (rs : List Record) → width ≢ 1 → width ≢ length (parts kind) → stands (of_tokens kind width) rs ≡ false
no_operator kind width rs n m =
    is_several kind width rs n
    ∙ ap (λ b. nat_lt 0 width && (b && begins_with (parts kind) rs)) (ne_eqb (length (parts kind)) width (λ e. m (sym e)))
    ∙ and_false (nat_lt 0 width)

begins_first : (ps : List ℕ) (kind : ℕ) (rs : List Record) → 0 < length ps → is_first ps kind rs ≡ begins_with ps rs
begins_first [] kind rs h = absurd (omega (arith, h))
begins_first (p ∷ ps) kind rs h = refl

pub operator : (kind width : ℕ) (rs : List Record) → width ≢ 1 → width ≢ 0 → width ≡ length (parts kind) → is_at kind rs ≡ stands (of_tokens kind width) rs
operator kind width rs n z e =
    begins_first (parts kind) kind rs (omega (arith, z, e))
    ∙ sym (is_several kind width rs n
    ∙ ap (λ b. b && ((length (parts kind) == width) && begins_with (parts kind) rs)) (lt-ltb 0 width (omega (arith, z)))
    ∙ ap (λ b. b && begins_with (parts kind) rs) (eq-eqb (length (parts kind)) width (sym e)))

-- a place past the last token
pub none_at : (rs : List Record) (place kind : ℕ) → length rs ≤ place → first_may_bear (drop place rs) kind ≡ false
none_at rs place kind h = ap (λ r. first_may_bear r kind) (drop_all place rs h)

pub no_float_at : (rs : List Record) (place : ℕ) (d : Bool) → length rs ≤ place → first_splits (drop place rs) d ≡ false
no_float_at rs place d h = ap (λ r. first_splits r d) (drop_all place rs h)

-- the token at a place
pub bears_at : (rs : List Record) (place kind : ℕ) → place < length rs
    → ((kind_at rs place == kind) || (((kind_at rs place == IDENT) && (contextual_at rs place == kind)) || ((kind == IDENT) && is_keyword (kind_at rs place) Edition2024))) ≡ first_may_bear (drop place rs) kind
bears_at [] place kind h = absurd (omega (arith, h))
bears_at (r ∷ rs) zero kind h = refl
bears_at (r ∷ rs) (suc n) kind h = bears_at rs n kind (omega (arith, h))

pub splits_at : (rs : List Record) (place : ℕ) (d : Bool) → place < length rs
    → ((kind_at rs place == FLOAT_NUMBER) && (if joint_at rs place then not d else d)) ≡ first_splits (drop place rs) d
splits_at [] place d h = absurd (omega (arith, h))
splits_at (r ∷ rs) zero d h = refl
splits_at (r ∷ rs) (suc n) d h = splits_at rs n d (omega (arith, h))

pub bears_by : (rs : List Record) (place kind k j : ℕ) (r : Bool) → place < length rs → k ≡ kind_at rs place → j ≡ contextual_at rs place
    → r ≡ ((k == kind) || (((k == IDENT) && (j == kind)) || ((kind == IDENT) && is_keyword k Edition2024))) → r ≡ first_may_bear (drop place rs) kind
bears_by rs place kind k j r h e f is =
    is
    ∙ (ap (λ n. (n == kind) || (((n == IDENT) && (j == kind)) || ((kind == IDENT) && is_keyword n Edition2024))) e
    ∙ (ap (λ n. (kind_at rs place == kind) || (((kind_at rs place == IDENT) && (n == kind)) || ((kind == IDENT) && is_keyword (kind_at rs place) Edition2024))) f ∙ bears_at rs place kind h))

pub splits_by : (rs : List Record) (place : ℕ) (d : Bool) (k : ℕ) (j r : Bool) → place < length rs → k ≡ kind_at rs place → j ≡ joint_at rs place
    → r ≡ ((k == FLOAT_NUMBER) && (if j then not d else d)) → r ≡ first_splits (drop place rs) d
splits_by rs place d k j r h e f is =
    is
    ∙ (ap (λ n. (n == FLOAT_NUMBER) && (if j then not d else d)) e
    ∙ (ap (λ b. (kind_at rs place == FLOAT_NUMBER) && (if b then not d else d)) f ∙ splits_at rs place d h))
