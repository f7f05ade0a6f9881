-- The script of an expression from its operand on.
use Rattle.std.proofs.Common.{◌≡◌, ◌≢◌, ℕ, ◌<◌, ◌≤◌, List, [], ◌∷◌, Bool, true, false, ◌==◌, ◌&&◌, nat_lt, not, refl, ◌∙◌, arith, if◌then◌else◌}
use Rattle.std.proofs.lemmas.Bool.{ne_eqb}
use Rattle.std.proofs.lemmas.Bool.Decides.{nat_tests}
use Rattle.rap_base.specs.TokenKind.{AS_KW}
use Rattle.rap_events.specs.Composite.{begins_with}
use Rattle.rap_events.specs.Power.{power}
use Rattle.rap_events.specs.Record.{Record, next_kind}
use Rattle.rap_grammar_scripts.proofs.ByOperator.{ends_by_operator}
use Rattle.rap_grammar_scripts.proofs.Ends.{gives, passes, fails}
use Rattle.rap_grammar_scripts.specs.Atom.{atom_expr}
use Rattle.rap_grammar_scripts.specs.Operators.{operation, climb_turn, cast_expr, bin_expr, climb}
use Rattle.rap_grammar_scripts.specs.Ranges.{range_expr}
use Rattle.rap_grammar_scripts.specs.Expressions.{lhs}
use Rattle.rap_grammar_scripts.specs.Postfix.{postfix_expr}
use Rattle.rap_grammar_scripts.specs.Words.{of_like, is_block, done, if_some, of_bool}
use Rattle.rap_grammar_scripts.specs.Operator.{operator_at}
use Rattle.rap_grammar_scripts.specs.Script.{Outcome, nothing, something, block, again, goes_on, give, extend, abandon, after}
use Rattle.rap_grammar_scripts.specs.Stand.{Stand}
use Rattle.rap_grammar_scripts.specs.declared.arguments.BlockLike.{BlockLike}
use Rattle.rap_grammar_scripts.specs.declared.arguments.BlockLike.TheVariants as like
use Rattle.rap_grammar_scripts.specs.declared.arguments.Restrictions.{Restrictions}
use Rattle.rap_grammar_frame.proofs.Steps.{On, by_rule}

below : (a b : ℕ) → a < b → nat_lt a b ≡ true
below a b h = grind (arith, nat_tests)

not_below : (a b : ℕ) → b ≤ a → nat_lt a b ≡ false
not_below a b h = grind (arith, nat_tests)

-- a turn that goes on by the operator that comes next, which has power enough
on_operator : {j : ℕ} (r : Restrictions) (bp : ℕ) {n : ℕ} {p q : Stand} {v : Outcome} →
    n ≡ power (operator_at p.rest) → 0 < n → bp ≤ n → On j (operation r (operator_at p.rest)) p q v →
    On j (climb_turn r bp false false) p q v
on_operator r bp e some h d =
    fails (not_below _ _ (rw e at h)) (ends_by_operator (operation r) (rw e at some) d)

-- an operator of too little power
pub stops_low : {j : ℕ} (r : Restrictions) (bp : ℕ) {n : ℕ} {p : Stand} →
    n ≡ power (operator_at p.rest) → n < bp → On j (climb_turn r bp false false) p p something
stops_low r bp e h = passes (below _ _ (rw e at h)) gives

-- a cast
pub goes_as : {j : ℕ} (r : Restrictions) (bp : ℕ) {n : ℕ} {p q : Stand} →
    n ≡ power (operator_at p.rest) → 0 < n → bp ≤ n → operator_at p.rest ≡ AS_KW → On j cast_expr p q something →
    On j (climb_turn r bp false false) p q (again false false)
goes_as r bp {p = p} e some h is f =
    let cast : (operator_at p.rest == AS_KW) ≡ true = rw is refl in
    on_operator r bp e some h (rw cast (by_rule f gives))

-- a range without an end
pub stops_range : {j : ℕ} (r : Restrictions) (bp : ℕ) {n : ℕ} {p q : Stand} {c : Bool} →
    n ≡ power (operator_at p.rest) → 0 < n → bp ≤ n → operator_at p.rest ≢ AS_KW → n ≡ 2 →
    On j (range_expr r (operator_at p.rest)) p q (of_bool c) → c ≡ false →
    On j (climb_turn r bp false false) p q something
stops_range r bp {c = true} e some h is two f i = absurd cc
stops_range r bp {p = p} {c = false} e some h is two f i =
    let cast : (operator_at p.rest == AS_KW) ≡ false = ne_eqb (operator_at p.rest) AS_KW is in
    let dots : (power (operator_at p.rest) == 2) ≡ true = rw (← e, two) refl in
    on_operator r bp e some h (rw (cast, dots) (by_rule f gives))

-- a range with an end
pub goes_range : {j : ℕ} (r : Restrictions) (bp : ℕ) {n : ℕ} {p q : Stand} {c : Bool} →
    n ≡ power (operator_at p.rest) → 0 < n → bp ≤ n → operator_at p.rest ≢ AS_KW → n ≡ 2 →
    On j (range_expr r (operator_at p.rest)) p q (of_bool c) → c ≡ true →
    On j (climb_turn r bp false false) p q (again false false)
goes_range r bp {c = false} e some h is two f i = absurd cc
goes_range r bp {p = p} {c = true} e some h is two f i =
    let cast : (operator_at p.rest == AS_KW) ≡ false = ne_eqb (operator_at p.rest) AS_KW is in
    let dots : (power (operator_at p.rest) == 2) ≡ true = rw (← e, two) refl in
    on_operator r bp e some h (rw (cast, dots) (by_rule f gives))

-- an operator with its right operand
pub goes_binary : {j : ℕ} (r : Restrictions) (bp : ℕ) {n : ℕ} {p q : Stand} →
    n ≡ power (operator_at p.rest) → 0 < n → bp ≤ n → operator_at p.rest ≢ AS_KW → n ≢ 2 →
    On j (bin_expr r (operator_at p.rest)) p q something →
    On j (climb_turn r bp false false) p q (again false false)
goes_binary r bp {p = p} e some h is two f =
    let cast : (operator_at p.rest == AS_KW) ≡ false = ne_eqb (operator_at p.rest) AS_KW is in
    let dots : (power (operator_at p.rest) == 2) ≡ false = ne_eqb (power (operator_at p.rest)) 2 (λ i. two (e ∙ i)) in
    on_operator r bp e some h (rw (cast, dots) (by_rule f gives))

pub like_is : (x : BlockLike) → (if is_block (of_like x) then block else something) ≡ of_like x
like_is like.Block = refl
like_is like.NotBlock = refl

pub like_ends : (x : BlockLike) → goes_on (of_like x) ≡ false
like_ends like.Block = refl
like_ends like.NotBlock = refl

-- an operand, and on
pub from_lhs : {j : ℕ} (x : BlockLike) (r : Restrictions) (bp : ℕ) {o p q : Stand} {v : Outcome} →
    On j (lhs r) o p (of_like x) →
    On j (extend (if r.prefer_stmt && is_block (of_like x) then give block else after (climb r bp) (λ w. done)))
    p q v →
    On j
    (after (lhs r)
    (λ w. if_some w (extend (if r.prefer_stmt && is_block w then give block else after (climb r bp) (λ u. done)))
    (abandon (give nothing)))) o q v
from_lhs like.Block r bp h d = by_rule h d
from_lhs like.NotBlock r bp h d = by_rule h d

-- several tokens, the first of which does not come next
pub no_first : (rs : List Record) (j k : ℕ) (ks : List ℕ) → next_kind rs ≢ j → begins_with (j ∷ k ∷ ks) rs ≡ false
no_first [] j k ks n = refl
no_first (r ∷ rs) j k ks n = rw (ne_eqb r.kind j n) refl

-- an operand without an operator before it, and on
pub from_atom : {j : ℕ} (x : BlockLike) (r : Restrictions) {o p q : Stand} {v : Outcome} →
    On j (atom_expr r) o p (of_like x) →
    On j (postfix_expr (not (r.prefer_stmt && is_block (of_like x))) (is_block (of_like x))) p q v →
    On j
    (after (atom_expr r)
    (λ w. if_some w (postfix_expr (not (r.prefer_stmt && is_block w)) (is_block w)) (give nothing))) o q v
from_atom like.Block r h d = by_rule h d
from_atom like.NotBlock r h d = by_rule h d
