-- What a top entry makes of what was parsed.
use Rattle.std.proofs.Common.{◌≡◌, ◌≢◌, ℕ, zero, suc, ◌+◌, ◌≤◌, List, [], ◌∷◌, drop, length, length-append, Bool, true, false, None, refl, ap, sym, ◌∙◌, subst, arith}
use Rattle.std.proofs.Math.Logic.{∥∥₁_map}
use Rattle.rap_base.specs.TokenKind.{EOF, ERROR}
use Rattle.rap_events.specs.Record.{Record, next_kind}
use Rattle.rap_events.specs.Forest.{Forest, none, node, leaf, message, split, ◌⧺◌, flat, split_ends, exit_of, used, message_count, one_tree}
use Rattle.rap_events.specs.Fit.{AllFitIn}
use Rattle.rap_events.specs.Machine.{floor, push, top}
use Rattle.rap_events.specs.State.{State, state, next, Bumped, Abandoned, Completed, but_last}
use Rattle.rap_events.specs.declared.parser.Parser.{Parser}
use Rattle.rap_grammar.specs.Known.{IsKnown}
use Rattle.rap_grammar.specs.declared.entry.Known.{Known}
use Rattle.rap_grammar.specs.Top.{with_leaves, top_tree, kept}

-- where no token comes next, none is left
pub left-none : (p : Parser) → (state p).rest ≡ [] → (state p).left ≡ 0
unfolding state
left-none p e = ap length e

one_more : (f : Forest) (rs : List Record) → next_kind rs ≢ EOF →
    with_leaves (leaf f (next_kind rs) 1) (drop 1 rs) ≡ with_leaves f rs
one_more f [] e = absurd (e refl)
one_more f (r ∷ rs) e = refl

-- a token that is taken is one leaf more
pub taken : (s t : State) → Bumped s t (next s) 1 → next s ≢ EOF →
    with_leaves t.forest t.rest ≡ with_leaves s.forest s.rest
taken s t b e = rw (b.forest, b.rest) (one_more s.forest s.rest e)

pub none-⧺ : (f : Forest) → none ⧺ f ≡ f
none-⧺ none = refl
none-⧺ (node before kind children) = ap (λ (f : Forest). node f kind children) (none-⧺ before)
none-⧺ (leaf before kind width) = ap (λ (f : Forest). leaf f kind width) (none-⧺ before)
none-⧺ (message before bytes) = ap (λ (f : Forest). message f bytes) (none-⧺ before)
none-⧺ (split before d) = ap (λ (f : Forest). split f d) (none-⧺ before)

-- the only open marker is abandoned: what it had is all there is
pub alone : (s t : State) → Abandoned s t → s.below ≡ push floor None none → t.forest ≡ s.forest
unfolding top
alone s t a e = a.forest ∙ rw e (none-⧺ s.forest)

-- the only open marker became a node: it is all there is
pub enclosed : (s t : State) (kind : ℕ) → Completed s t kind → s.below ≡ push floor None none →
    t.forest ≡ node none kind s.forest
enclosed s t kind c e = let b : but_last t.forest ≡ none = cc in c.forest ∙ ap (λ (f : Forest). node f kind s.forest) b

-- what is known of all there is
pub known_alone : (k : Known) (s t : State) → Abandoned s t → s.below ≡ push floor None none → IsKnown k s.forest →
    IsKnown k t.forest
known_alone k s t a e h = subst (λ (f : Forest). IsKnown k f) (sym (alone s t a e)) h

some_left : (f g : Forest) (rs : List Record) → next_kind rs ≢ EOF → g ≡ with_leaves f rs →
    node none ERROR g ≡ top_tree f rs
some_left f g [] e h = absurd (e refl)
some_left f g (r ∷ rs) e h = ap (λ (x : Forest). node none ERROR x) h

-- what is left is taken into the `ERROR`
pub unfinished : (s t u : State) (f : Forest) → next s ≢ EOF → t.forest ≡ with_leaves s.forest s.rest →
    t.below ≡ push floor None none → Completed t u ERROR → f ≡ u.forest → f ≡ top_tree s.forest s.rest
unfinished s t u f ne h b c e = e ∙ enclosed t u ERROR c b ∙ some_left s.forest t.forest s.rest ne h

-- nothing is left, and the forest is one tree
pub kept_whole : (s : State) (f : Forest) → s.rest ≡ [] → f ≡ s.forest → one_tree f ≡ true →
    f ≡ top_tree s.forest s.rest
kept_whole s f e same h =
    same ∙ ap (λ (b : Bool). kept b s.forest) (sym (ap one_tree (sym same) ∙ h)) ∙ ap (top_tree s.forest) (sym e)

-- nothing is left, and the forest is not one tree
in_error : (s : State) (f g : Forest) → s.rest ≡ [] → f ≡ s.forest → one_tree f ≡ false → g ≡ node none ERROR f →
    g ≡ top_tree s.forest s.rest
in_error s f g e same h w =
    w ∙ ap (λ (x : Forest). node none ERROR x) same ∙
    ap (λ (b : Bool). kept b s.forest) (sym (ap one_tree (sym same) ∙ h)) ∙ ap (top_tree s.forest) (sym e)

-- nothing is left, and what the only open marker had is not one tree
pub wrapped : (s t : State) → Abandoned s t → s.below ≡ push floor None none → s.rest ≡ [] →
    one_tree t.forest ≡ false → node none ERROR t.forest ≡ top_tree s.forest s.rest
wrapped s t a e n h = in_error s t.forest (node none ERROR t.forest) n (alone s t a e) h refl

-- where none is left, all tokens were used
pub all_used : (s t : State) (f : Forest) → used f + t.left ≡ length t.input → Abandoned s t → s.left ≡ 0 →
    used f ≡ length s.input
all_used s t f e a z = omega (arith, ap length a.recorded.input, a.recorded.left)

exit_of-length : (n : ℕ) → length (exit_of n) ≤ 1
exit_of-length zero = omega arith
exit_of-length (suc n) = omega arith

-- a node around a forest has at most two steps more
pub length-flat-node : (kind : ℕ) (f : Forest) → length (flat (node none kind f)) ≤ length (flat f) + 2
length-flat-node kind f = omega (arith, length-append (flat f) (exit_of (split_ends f)), exit_of-length (split_ends f))

fit_error : (f : Forest) → AllFitIn f → AllFitIn (node none ERROR f)
fit_error f h = (tt, h, record { operation = λ e. absurd (omega arith); tree = λ e. absurd (omega arith) })

-- an `ERROR` around a forest asks nothing more
pub fit_in_error : (f g : Forest) → g ≡ node none ERROR f → (message_count f ≡ 0 → ∥ AllFitIn f ∥₁) →
    message_count g ≡ 0 → ∥ AllFitIn g ∥₁
fit_in_error f g e h z =
    rw e (let y : message_count f ≡ 0 = omega (arith, ap message_count e) in ∥∥₁_map (h y) (fit_error f))

-- how a parse ends
pub ruleset closing = (left-none, alone, known_alone, wrapped, all_used, length-flat-node, fit_in_error)
