-- Tokens that were looked at before are taken one by one.
use Rattle.std.proofs.Common.{rules, ◌≡◌, ◌+◌, ◌&&◌, ◌||◌, not, ℕ, List, Bool, true, false, refl, sym, ap, ◌∙◌, drop, if◌then◌else◌}
use Rattle.std.proofs.lemmas.List.{drop-drop}
use Rattle.rap_base.specs.TokenKind.{SELF_KW, MUT_KW, LIFETIME_IDENT}
use Rattle.rap_events.specs.Record.{Record, next_kind}
use Rattle.rap_events.specs.Composite.{is_at, width}
use Rattle.rap_events.specs.State.{State, Ate}
use Rattle.rap_events.proofs.Truth.{and_left, and_right}
use Rattle.rap_grammar_scripts.proofs.Exec.{runs}
use Rattle.rap_grammar_scripts.specs.Exec.{Ends}
use Rattle.rap_grammar_scripts.specs.Names.{lifetime}
use Rattle.rap_grammar_scripts.specs.Knot.{script_of}
use Rattle.rap_grammar_scripts.specs.Params.{past, is_isolated_self, is_self_ref}
use Rattle.rap_grammar_scripts.specs.Stand.{Stand}
use Rattle.rap_grammar_scripts.specs.Script.{Spot, Outcome, something, Runs, starts, takes, finishes, gives}
use Rattle.rap_grammar_scripts.specs.Test.{Test, holds}

lifetime_rest : {p q : Spot} {v : Outcome} → Runs script_of lifetime p q v → q.rest ≡ drop 1 p.rest
unfolding lifetime
lifetime_rest (starts (takes e (finishes gives))) = refl

-- a lifetime is one token
pub past_lifetime : {p q : Stand} → ((depth : ℕ) → Ends depth lifetime p q something) → q.rest ≡ drop 1 p.rest
past_lifetime {p = p} {q = q} h = lifetime_rest (runs 0 lifetime p q something (h 0).run)

-- how far a token of this kind after so many tokens reaches, if it is there
abbrev pub reach : ℕ → ℕ → List Record → ℕ
reach kind n rs = if is_at kind (drop n rs) then n + 1 else n

or_nothing : (b : Bool) → b || false ≡ b
or_nothing true = refl
or_nothing false = refl

by_flag : (b : Bool) (n : ℕ) (t : ℕ → Test) (rs : List Record) →
    (b && holds (t (n + 1)) rs) || (not b && holds (t n) rs) ≡ holds (t (if b then n + 1 else n)) rs
by_flag true n t rs = or_nothing _
by_flag false n t rs = refl

-- a test past such a token holds as it does where that token ends
at_reach : (k n : ℕ) (t : ℕ → Test) (rs : List Record) → holds (past k n t) rs ≡ holds (t (reach k n rs)) rs
at_reach k n t rs = by_flag (is_at k (drop n rs)) n t rs

-- a token that was there was taken, and one that was not was passed over
pub past_taken : (rs : List Record) (n k : ℕ) {s t : List Record} →
    s ≡ drop n rs → is_at k s ≡ true → t ≡ drop 1 s → t ≡ drop (reach k n rs) rs
past_taken rs n k e h f =
    let a : is_at k (drop n rs) ≡ true = ap (λ (x : List Record). is_at k x) (sym e) ∙ h in
    rw a (f ∙ ap (λ (x : List Record). drop 1 x) e ∙ drop-drop 1 n rs)

pub past_none : (rs : List Record) (n k : ℕ) {s t : List Record} →
    s ≡ drop n rs → is_at k s ≡ false → t ≡ s → t ≡ drop (reach k n rs) rs
past_none rs n k e h f =
    let a : is_at k (drop n rs) ≡ false = ap (λ (x : List Record). is_at k x) (sym e) ∙ h in
    rw a (f ∙ e)

pub past_ate : (rs : List Record) (n k : ℕ) {s t : State} {b : Bool} →
    width k ≡ 1 → s.rest ≡ drop n rs → Ate s t k b → t.rest ≡ drop (reach k n rs) rs
past_ate rs n k {s = s} {b = true} w e a =
    past_taken rs n k e (sym a.decided) ((a.token refl).rest ∙ ap (λ (x : ℕ). drop x s.rest) w)
past_ate rs n k {b = false} w e a = past_none rs n k e (sym a.decided) (ap (λ (x : State). x.rest) (a.not_token refl))

-- a `self` by reference stands past what it begins with
pub past_ref : (rs : List Record) → holds (past LIFETIME_IDENT 1 (λ n. past MUT_KW n is_isolated_self)) rs ≡
    holds (is_isolated_self (reach MUT_KW (reach LIFETIME_IDENT 1 rs) rs)) rs
past_ref rs =
    at_reach LIFETIME_IDENT 1 (λ n. past MUT_KW n is_isolated_self) rs
    ∙ at_reach MUT_KW (reach LIFETIME_IDENT 1 rs) is_isolated_self rs

-- after what a `self` by reference begins with comes the `self`
pub self_of_ref : (rs : List Record) {s : List Record} →
    holds is_self_ref rs ≡ true → s ≡ drop (reach MUT_KW (reach LIFETIME_IDENT 1 rs) rs) rs → next_kind s ≡ SELF_KW
self_of_ref rs {s = s} h e =
    let n = reach MUT_KW (reach LIFETIME_IDENT 1 rs) rs in
    let i : holds (is_isolated_self n) rs ≡ true = sym (past_ref rs) ∙ and_right _ _ h in
    let t : is_at SELF_KW (drop n rs) ≡ true = and_left _ _ i in
    let u : is_at SELF_KW s ≡ true = ap (λ (x : List Record). is_at SELF_KW x) e ∙ t in
    search rules
