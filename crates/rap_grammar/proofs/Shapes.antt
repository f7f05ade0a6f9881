-- What stands under each open node of a script, computed: nothing, one node, or what begins with no node.
use Rattle.std.proofs.Common.{◌≡◌, ◌==◌, ◌&&◌, ℕ, zero, suc, Bool, true, false, not, List, [], ◌∷◌, ◌++◌, length, Some, None, if◌then◌else◌, ltb, refl, sym, ap, ◌∙◌, subst, eqb-true}
use Rattle.rap_base.specs.NodeKind.{ABI}
use Rattle.rap_base.specs.TokenKind.{EOF, ERROR}
use Rattle.rap_events.proofs.Truth.{and_left, and_right}
use Rattle.rap_events.specs.Composite.{is_at, width}
use Rattle.rap_events.specs.Cover.{first_may_bear}
use Rattle.rap_events.specs.Forest.{Forest, none, node, leaf, message, split, ◌⧺◌, flat, split_ends, exit_of, one_tree}
use Rattle.rap_events.specs.Machine.{Stack, floor, push}
use Rattle.rap_events.specs.Record.{next_kind}
use Rattle.rap_events.specs.State.{but_last, skipped, with_kind}
use Rattle.rap_events.specs.StepValue.{StepValue, enter, exit, token as token_step, float_split, error}
use Rattle.rap_grammar_scripts.specs.Effects.{Effect, Has, is_level, figures}
use Rattle.rap_grammar_scripts.specs.Exec.{exec, run_of, turning, looped}
use Rattle.rap_grammar_scripts.specs.Kept.{nodes}
use Rattle.rap_grammar_scripts.specs.Script.{Script, Outcome, nothing, something, block, again, goes_on, give, test, ends_with, token, any, bear, report, report_next, skip, start, precede, finish, extend, abandon, split_float, after, rule, loop, last_taken_at, last_tree}
use Rattle.rap_grammar_scripts.specs.Tally.{holds_always}
use Rattle.rap_grammar_scripts.specs.Stand.{Stand, taken, reported, skipped_over, started, preceded, finished, abandoned, spot_at, forest_below, far_below}
use Rattle.rap_grammar_scripts.specs.Test.{holds}
use Rattle.rap_grammar_scripts.specs.declared.rule.Rule.{Rule}
use Rattle.rap_grammar_scripts.specs.declared.rule.Rule.TheVariants as knot
use Rattle.rap_grammar_scripts.proofs.Effects.{found, rules_do}
use Rattle.rap_grammar_scripts.proofs.Exec.{no_end, by_test, by_end, by_again, spot_of, outcome_of}
use Rattle.rap_grammar_scripts.proofs.Kept.{nodes_within}
use Rattle.rap_grammar_scripts.proofs.Tally.{Among, this_one, later_one}
use Rattle.rap_grammar_ends.proofs.Endings.{Ending, unknown, ends_in, join, gather, settle, flagged, every, Decides, Then, Turned, joined_left, joined_right, gathered, settled, of_flags, of_stop}
use Rattle.rap_grammar.proofs.TopTree.{none-⧺}
use Rattle.rap_grammar.specs.Known.{begins_node}

-- Nothing. One node, and no `ABI`; one `ABI`. More than that, which begins with no node or with an `ABI`; or any.
pub data Shape : Type 0 where
  empty : Shape
  named : Shape
  abi : Shape
  headless : Shape
  free : Shape

abbrev pub same_shape : Shape → Shape → Bool
same_shape empty empty = true
same_shape named named = true
same_shape abi abi = true
same_shape headless headless = true
same_shape free free = true
same_shape l m = false

-- under the newest open node, and under each older one of the script
pub data Shapes : Type 0 where
  shapes : Shape → List Shape → Shapes

abbrev pub same_older : List Shape → List Shape → Bool
same_older [] [] = true
same_older [] (c ∷ ms) = false
same_older (c ∷ ls) [] = false
same_older (c ∷ ls) (d ∷ ms) = same_shape c d && same_older ls ms

abbrev pub same_shapes : Shapes → Shapes → Bool
same_shapes (shapes l ls) (shapes m ms) = same_shape l m && same_older ls ms

-- the same under the older nodes
abbrev pub older_same : List Shape → Shapes → Bool
older_same ms (shapes l ls) = same_older ls ms

-- with a leaf or a message more, and with a node of a kind more
abbrev pub with_leaf : Shape → Shape
with_leaf empty = headless
with_leaf named = free
with_leaf abi = headless
with_leaf headless = headless
with_leaf free = free

abbrev pub with_node : ℕ → Shape → Shape
with_node k empty = if k == ABI then abi else named
with_node k named = free
with_node k abi = headless
with_node k headless = headless
with_node k free = free

-- the last thing alone, and what stands before it
abbrev pub last_of : Shape → Shape
last_of empty = empty
last_of named = named
last_of abi = abi
last_of headless = free
last_of free = free

abbrev pub before_last : Shape → Shape
before_last empty = empty
before_last named = empty
before_last abi = empty
before_last headless = free
before_last free = free

-- what stood under an older node, and the newest one's after it
abbrev pub with_both : Shape → Shape → Shape
with_both empty l = l
with_both named l = free
with_both abi l = free
with_both headless l = free
with_both free l = free

-- the ends of a rule's call: it leaves the older nodes as they were
abbrev pub rule_ends : List Shape → List (Ending Shapes)
rule_ends ls =
    ends_in nothing (shapes free ls)
    ∷ ends_in something (shapes free ls)
    ∷ ends_in block (shapes free ls)
    ∷ []

-- Where a script ends that begins so. Of the turns of a loop nothing is known. What takes a float apart, and what lets a
-- node begin where another does, is not computed.
abbrev pub shape_ends : Script Rule → Shape → List Shape → List (Ending Shapes)
shape_ends (give v) l ls = ends_in v (shapes l ls) ∷ []
shape_ends (test h s t) l ls = join same_shapes (shape_ends s l ls) (shape_ends t l ls)
shape_ends (ends_with k s t) l ls = join same_shapes (shape_ends s l ls) (shape_ends t l ls)
shape_ends (token k s) l ls = shape_ends s (with_leaf l) ls
shape_ends (any s) l ls = shape_ends s (with_leaf l) ls
shape_ends (bear k s) l ls = shape_ends s (with_leaf l) ls
shape_ends (report bytes s) l ls = shape_ends s (with_leaf l) ls
shape_ends (report_next bytes s) l ls = shape_ends s (with_leaf l) ls
shape_ends (skip bytes s) l ls = shape_ends s (with_node ERROR l) ls
shape_ends (start s) l ls = shape_ends s empty (l ∷ ls)
shape_ends (precede s) l ls = shape_ends s (last_of l) (before_last l ∷ ls)
shape_ends (finish k s) l [] = unknown ∷ []
shape_ends (finish k s) l (c ∷ ls) = shape_ends s (with_node k c) ls
shape_ends (extend s) l ls = unknown ∷ []
shape_ends (abandon s) l [] = unknown ∷ []
shape_ends (abandon s) l (c ∷ ls) = shape_ends s (with_both c l) ls
shape_ends (split_float s t) l ls = unknown ∷ []
shape_ends (after s h) l ls =
    gather same_shapes (λ v. elim [ shapes m ms ↦ shape_ends (h v) m ms ]) (shape_ends s l ls)
shape_ends (rule c h) l ls =
    gather same_shapes (λ v. elim [ shapes m ms ↦ shape_ends (h v) m ms ]) (rule_ends ls)
shape_ends (loop h a b) l ls =
    settle (older_same ls) (flagged same_shapes (λ c d. shape_ends (h c d) free ls))

-- the tests of shapes
same_shape_is : (l m : Shape) → same_shape l m ≡ true → l ≡ m
same_shape_is empty empty h = refl
same_shape_is named named h = refl
same_shape_is abi abi h = refl
same_shape_is headless headless h = refl
same_shape_is free free h = refl
same_shape_is empty named h = absurd cc
same_shape_is empty abi h = absurd cc
same_shape_is empty headless h = absurd cc
same_shape_is empty free h = absurd cc
same_shape_is named empty h = absurd cc
same_shape_is named abi h = absurd cc
same_shape_is named headless h = absurd cc
same_shape_is named free h = absurd cc
same_shape_is abi empty h = absurd cc
same_shape_is abi named h = absurd cc
same_shape_is abi headless h = absurd cc
same_shape_is abi free h = absurd cc
same_shape_is headless empty h = absurd cc
same_shape_is headless named h = absurd cc
same_shape_is headless abi h = absurd cc
same_shape_is headless free h = absurd cc
same_shape_is free empty h = absurd cc
same_shape_is free named h = absurd cc
same_shape_is free abi h = absurd cc
same_shape_is free headless h = absurd cc

same_older_is : (ls ms : List Shape) → same_older ls ms ≡ true → ls ≡ ms
same_older_is [] [] h = refl
same_older_is [] (d ∷ ms) h = absurd cc
same_older_is (c ∷ ls) [] h = absurd cc
same_older_is (c ∷ ls) (d ∷ ms) h =
    rw (same_shape_is c d (and_left _ _ h), same_older_is ls ms (and_right (same_shape c d) _ h)) refl

decides : Decides same_shapes
decides (shapes l ls) (shapes m ms) h =
    rw (same_shape_is l m (and_left _ _ h), same_older_is ls ms (and_right (same_shape l m) _ h)) refl

-- a forest that is not empty, and begins with no node or with an `ABI`, and is not that alone
pub record Headless (f : Forest) : Type 0 where
  pub some : (flat f ≡ []) → ⊥
  pub begins : begins_node (flat f) ≡ false
  pub more : one_tree f ≡ false

-- one node
pub record Named (f : Forest) : Type 0 where
  pub kind : ℕ
  pub children : Forest
  pub is : f ≡ node none kind children
  pub other : (kind == ABI) ≡ false

pub record IsAbi (f : Forest) : Type 0 where
  pub children : Forest
  pub is : f ≡ node none ABI children

abbrev pub Is : Shape → Forest → Type 0
Is empty f = f ≡ none
Is named f = Named f
Is abi f = IsAbi f
Is headless f = Headless f
Is free f = Unit {0}

abbrev pub Older : List Shape → Stack → Type 0
Older [] b = Unit {0}
Older (c ∷ ls) floor = ⊥
Older (c ∷ ls) (push b m f) = Is c f × Older ls b

-- the open nodes of a stand
pub record Stands (l : Shape) (ls : List Shape) (p : Stand) : Type 0 where
  pub newest : Is l p.forest
  pub older : Older ls p.below

-- an end
pub record Ended (f : Outcome → Shapes → Bool) (q : Stand) (v : Outcome) : Type 0 where
  pub newest : Shape
  pub older : List Shape
  pub stands : Stands newest older q
  pub so : f v (shapes newest older) ≡ true

-- steps before others
begun : (a b : List StepValue) → (a ≡ [] → ⊥) → begins_node (a ++ b) ≡ begins_node a
begun [] b h = absurd (h refl)
begun (enter k ∷ a) b h = refl
begun (exit ∷ a) b h = refl
begun (token_step k w ∷ a) b h = refl
begun (float_split d ∷ a) b h = refl
begun (error m ∷ a) b h = refl

not_empty : (a : List StepValue) (s : StepValue) (b : List StepValue) → a ++ (s ∷ b) ≡ [] → ⊥
not_empty [] s b h = cc
not_empty (x ∷ a) s b h = cc

some_steps : (f : Forest) → (flat f ≡ [] → ⊥) → f ≡ none → ⊥
some_steps f h e = h (ap flat e)

beside : (f : Forest) (k : ℕ) (c : Forest) → (flat f ≡ [] → ⊥) → one_tree (node f k c) ≡ false
beside none k c h = absurd (h refl)
beside (node b j x) k c h = refl
beside (leaf b j w) k c h = refl
beside (message b m) k c h = refl
beside (split b d) k c h = refl

leaf_more : (f : Forest) (k w : ℕ) (l : Shape) → Is l f → Is (with_leaf l) (leaf f k w)
leaf_more f k w empty a =
    rw a (record { some = λ e. not_empty [] (token_step k w) [] e; begins = refl; more = refl })
leaf_more f k w named a = tt
leaf_more f k w abi a =
    rw a.is (record {
      some = λ e. not_empty (flat (node none ABI a.children)) (token_step k w) [] e;
      begins = begun (flat (node none ABI a.children)) (token_step k w ∷ []) (λ e. cc);
      more = refl;
    })
leaf_more f k w headless a = record {
  some = λ e. not_empty (flat f) (token_step k w) [] e;
  begins = begun (flat f) (token_step k w ∷ []) a.some ∙ a.begins;
  more = refl;
}
leaf_more f k w free a = tt

message_more : (f : Forest) (m : List ℕ) (l : Shape) → Is l f → Is (with_leaf l) (message f m)
message_more f m empty a =
    rw a (record { some = λ e. not_empty [] (error m) [] e; begins = refl; more = refl })
message_more f m named a = tt
message_more f m abi a =
    rw a.is (record {
      some = λ e. not_empty (flat (node none ABI a.children)) (error m) [] e;
      begins = begun (flat (node none ABI a.children)) (error m ∷ []) (λ e. cc);
      more = refl;
    })
message_more f m headless a = record {
  some = λ e. not_empty (flat f) (error m) [] e;
  begins = begun (flat f) (error m ∷ []) a.some ∙ a.begins;
  more = refl;
}
message_more f m free a = tt

node_first : (k : ℕ) (c : Forest) (b : Bool) → (k == ABI) ≡ b → Is (if b then abi else named) (node none k c)
node_first k c true e = record { children = c; is = rw (eqb-true k ABI e) refl }
node_first k c false e = record { kind = k; children = c; is = refl; other = e }

node_more : (f : Forest) (k : ℕ) (c : Forest) (l : Shape) → Is l f → Is (with_node k l) (node f k c)
node_more f k c empty a = rw a (node_first k c (k == ABI) refl)
node_more f k c named a = tt
node_more f k c abi a =
    let s : List StepValue = flat c ++ exit_of (split_ends c) in
    rw a.is (record {
      some = λ e. not_empty (flat (node none ABI a.children)) (enter k) s e;
      begins = begun (flat (node none ABI a.children)) (enter k ∷ s) (λ e. cc);
      more = refl;
    })
node_more f k c headless a =
    let s : List StepValue = flat c ++ exit_of (split_ends c) in
    record {
      some = λ e. not_empty (flat f) (enter k) s e;
      begins = begun (flat f) (enter k ∷ s) a.some ∙ a.begins;
      more = beside f k c a.some;
    }
node_more f k c free a = tt

last_alone : (f : Forest) (l : Shape) → Is l f → Is (last_of l) (last_tree f)
last_alone f empty a = rw a refl
last_alone f named a = rw a.is (record { kind = a.kind; children = a.children; is = refl; other = a.other })
last_alone f abi a = rw a.is (record { children = a.children; is = refl })
last_alone f headless a = tt
last_alone f free a = tt

before : (f : Forest) (l : Shape) → Is l f → Is (before_last l) (but_last f)
unfolding but_last
before f empty a = rw a refl
before f named a = rw a.is refl
before f abi a = rw a.is refl
before f headless a = tt
before f free a = tt

both : (f h : Forest) (c l : Shape) → Is c f → Is l h → Is (with_both c l) (f ⧺ h)
both f h empty l a b = rw (a, none-⧺ h) b
both f h named l a b = tt
both f h abi l a b = tt
both f h headless l a b = tt
both f h free l a b = tt

older_one : (c : Shape) (ls : List Shape) (b : Stack) → Older (c ∷ ls) b → Is c (forest_below b) × Older ls (far_below b)
older_one c ls floor h = absurd h
older_one c ls (push b m f) h = h

-- a rule leaves the older nodes as they were, and does not end by a turn
all_level : (c : Rule) → holds_always is_level (figures c) ≡ true
all_level (knot.ExprBp r bp) = refl
all_level c = refl

level_so : (n : ℕ) (c : Rule) (p q : Stand) (v : Outcome) → run_of n c p ≡ Some (q, v) → q.below ≡ p.below
level_so n c p q v e =
    let k = found is_level (figures c) v p q (all_level c) (rules_do n c p q v e) in
    (nodes_within k.effect.nodes (nodes 0 0) p q k.holds k.has.nodes).below

abbrev last_ones : List (Outcome × Effect) → Bool
last_ones [] = true
last_ones (e ∷ l) = not (goes_on e.0) && last_ones l

all_last : (c : Rule) → last_ones (figures c) ≡ true
all_last (knot.ExprBp r bp) = refl
all_last c = refl

is_false : (b : Bool) → not b ≡ true → b ≡ false
is_false true h = absurd cc
is_false false h = refl

last_one : (l : List (Outcome × Effect)) (v : Outcome) (p q : Stand) → last_ones l ≡ true → Among Has l v p q →
    goes_on v ≡ false
last_one [] v p q h a = elim a [ ]
last_one (e ∷ l) v p q h (this_one i c) = ap goes_on i ∙ is_false (goes_on e.0) (and_left _ _ h)
last_one (e ∷ l) v p q h (later_one a) = last_one l v p q (and_right (not (goes_on e.0)) _ h) a

-- what follows a rule, by its outcome
abbrev Following : Type 0
Following = Outcome → Shapes → List (Ending Shapes)

ruled : (f : Outcome → Shapes → Bool) (h : Following) (ls : List Shape) (v : Outcome) → goes_on v ≡ false →
    every f (gather same_shapes h (rule_ends ls)) ≡ true → every f (h v (shapes free ls)) ≡ true
ruled f h ls nothing g e =
    joined_left same_shapes decides f (h nothing (shapes free ls))
    (gather same_shapes h (ends_in something (shapes free ls) ∷ ends_in block (shapes free ls) ∷ [])) e
ruled f h ls something g e =
    joined_left same_shapes decides f (h something (shapes free ls))
    (gather same_shapes h (ends_in block (shapes free ls) ∷ []))
    (joined_right same_shapes f (h nothing (shapes free ls))
    (gather same_shapes h (ends_in something (shapes free ls) ∷ ends_in block (shapes free ls) ∷ [])) e)
ruled f h ls block g e =
    joined_left same_shapes decides f (h block (shapes free ls)) []
    (joined_right same_shapes f (h something (shapes free ls))
    (gather same_shapes h (ends_in block (shapes free ls) ∷ []))
    (joined_right same_shapes f (h nothing (shapes free ls))
    (gather same_shapes h (ends_in something (shapes free ls) ∷ ends_in block (shapes free ls) ∷ [])) e))
ruled f h ls (again a b) g e = absurd (let z : true ≡ false = g in cc)

-- a turn's end where the next one begins
next_stands : (ms : List Shape) (l : Shape) (ls : List Shape) (q : Stand) → older_same ms (shapes l ls) ≡ true →
    Stands l ls q → Stands free ms q
next_stands ms l ls q h k =
    record { newest = tt; older = subst (λ (x : List Shape). Older x q.below) (same_older_is ls ms h) k.older }

-- What a script does so from these shapes.
abbrev Keeps : (Script Rule) → Shape → List Shape → (Outcome → Shapes → Bool) → ℕ → Type 0
Keeps s l ls f n =
    (p q : Stand) (v : Outcome) → exec (run_of n) s p ≡ Some (q, v) → Stands l ls p → Ended f q v

turns_keep : (n : ℕ) (h : Bool → Bool → Script Rule) (ls : List Shape) (f : Outcome → Shapes → Bool) →
    ((c d : Bool) → Keeps (h c d) free ls (Turned (older_same ls) f) n) → (k : ℕ) (a b : Bool) (p q : Stand)
    (v : Outcome) → turning k (λ c d r. exec (run_of n) (h c d) r) a b p ≡ Some (q, v) → Stands free ls p → Ended f q v
unfolding turning
turns_keep n h ls f t zero a b p q v e k = no_end e
turns_keep n h ls f t (suc j) a b p q v e k =
    by_again (exec (run_of n) (h a b) p)
    (λ c d r. if ltb (length r.rest) (length p.rest) then turning j (λ c d r. exec (run_of n) (h c d) r) c d r else None)
    (q, v) e
    (λ w r i g y.
    rw (← (ap outcome_of y), ← (ap (spot_of p) y))
    (let x = t a b p r w i k in
    record {
      newest = x.newest;
      older = x.older;
      stands = x.stands;
      so = of_stop (older_same ls) f (shapes x.newest x.older) w g x.so;
    }))
    (λ c d r i y.
    let x = t a b p r (again c d) i k in
    by_test (ltb (length r.rest) (length p.rest)) (turning j (λ c d r. exec (run_of n) (h c d) r) c d r) None (q, v) y
    (λ g z. turns_keep n h ls f t j c d r q v z (next_stands ls x.newest x.older r x.so x.stands))
    (λ g z. no_end z))

-- What is computed of a script is so of where it ends.
pub keeps : (n : ℕ) (s : Script Rule) (l : Shape) (ls : List Shape) (f : Outcome → Shapes → Bool) →
    every f (shape_ends s l ls) ≡ true → Keeps s l ls f n
unfolding looped
keeps n (give w) l ls f h p q v e k =
    rw (sym (ap outcome_of e), sym (ap (spot_of p) e))
    (record { newest = l; older = ls; stands = k; so = and_left _ _ h })
keeps n (test t s u) l ls f h p q v e k =
    by_test (holds t p.rest) (exec (run_of n) s p) (exec (run_of n) u p) (q, v) e
    (λ b i. keeps n s l ls f (joined_left same_shapes decides f (shape_ends s l ls) (shape_ends u l ls) h) p q v i k)
    (λ b i. keeps n u l ls f (joined_right same_shapes f (shape_ends s l ls) (shape_ends u l ls) h) p q v i k)
keeps n (ends_with c s u) l ls f h p q v e k =
    by_test (last_taken_at (spot_at p) == c) (exec (run_of n) s p) (exec (run_of n) u p) (q, v) e
    (λ b i. keeps n s l ls f (joined_left same_shapes decides f (shape_ends s l ls) (shape_ends u l ls) h) p q v i k)
    (λ b i. keeps n u l ls f (joined_right same_shapes f (shape_ends s l ls) (shape_ends u l ls) h) p q v i k)
keeps n (token c s) l ls f h p q v e k =
    by_test (is_at c p.rest) (exec (run_of n) s (taken c (width c) p)) None (q, v) e
    (λ b i.
    keeps n s (with_leaf l) ls f h (taken c (width c) p) q v i
    (record { newest = leaf_more p.forest c (width c) l k.newest; older = k.older }))
    (λ b i. no_end i)
keeps n (any s) l ls f h p q v e k =
    by_test (next_kind p.rest == EOF) None (exec (run_of n) s (taken (next_kind p.rest) 1 p)) (q, v) e
    (λ b i. no_end i)
    (λ b i.
    keeps n s (with_leaf l) ls f h (taken (next_kind p.rest) 1 p) q v i
    (record { newest = leaf_more p.forest (next_kind p.rest) 1 l k.newest; older = k.older }))
keeps n (bear c s) l ls f h p q v e k =
    by_test (first_may_bear p.rest c) (exec (run_of n) s (taken c 1 p)) None (q, v) e
    (λ b i.
    keeps n s (with_leaf l) ls f h (taken c 1 p) q v i
    (record { newest = leaf_more p.forest c 1 l k.newest; older = k.older }))
    (λ b i. no_end i)
keeps n (report m s) l ls f h p q v e k =
    keeps n s (with_leaf l) ls f h (reported m p) q v e
    (record { newest = message_more p.forest m l k.newest; older = k.older })
keeps n (report_next m s) l ls f h p q v e k =
    let w : List ℕ = with_kind m (next_kind p.rest) in
    keeps n s (with_leaf l) ls f h (reported w p) q v e
    (record { newest = message_more p.forest w l k.newest; older = k.older })
keeps n (skip m s) l ls f h p q v e k =
    keeps n s (with_node ERROR l) ls f h (skipped_over m p) q v e
    (record { newest = node_more p.forest ERROR (skipped p.rest m) l k.newest; older = k.older })
keeps n (start s) l ls f h p q v e k =
    keeps n s empty (l ∷ ls) f h (started p) q v e (record { newest = refl; older = (k.newest, k.older) })
keeps n (precede s) l ls f h p q v e k =
    keeps n s (last_of l) (before_last l ∷ ls) f h (preceded p) q v e
    (record { newest = last_alone p.forest l k.newest; older = (before p.forest l k.newest, k.older) })
keeps n (finish c s) l [] f h p q v e k = absurd cc
keeps n (finish c s) l (m ∷ ls) f h p q v e k =
    let o = older_one m ls p.below k.older in
    keeps n s (with_node c m) ls f h (finished c p) q v e
    (record { newest = node_more (forest_below p.below) c p.forest m o.0; older = o.1 })
keeps n (extend s) l ls f h p q v e k = absurd cc
keeps n (abandon s) l [] f h p q v e k = absurd cc
keeps n (abandon s) l (m ∷ ls) f h p q v e k =
    let o = older_one m ls p.below k.older in
    keeps n s (with_both m l) ls f h (abandoned p) q v e
    (record { newest = both (forest_below p.below) p.forest m l o.0 k.newest; older = o.1 })
keeps n (split_float s u) l ls f h p q v e k = absurd cc
keeps n (after s g) l ls f h p q v e k =
    let on : Following = λ w. elim [ shapes m ms ↦ shape_ends (g w) m ms ] in
    by_end (exec (run_of n) s p) (λ w r. exec (run_of n) (g w) r) (q, v) e
    (λ w r i j.
    let x = keeps n s l ls (Then f on) (gathered same_shapes decides f on (shape_ends s l ls) h) p r w i k in
    keeps n (g w) x.newest x.older f x.so r q v j x.stands)
keeps n (rule c g) l ls f h p q v e k =
    let on : Following = λ w. elim [ shapes m ms ↦ shape_ends (g w) m ms ] in
    by_end (run_of n c p) (λ w r. exec (run_of n) (g w) r) (q, v) e
    (λ w r i j.
    keeps n (g w) free ls f (ruled f on ls w (last_one (figures c) w p r (all_last c) (rules_do n c p r w i)) h) r q v j
    (record { newest = tt; older = rw (level_so n c p r w i) k.older }))
keeps n (loop g a b) l ls f h p q v e k =
    let on : Bool → Bool → List (Ending Shapes) = λ c d. shape_ends (g c d) free ls in
    turns_keep n g ls f
    (λ c d.
    keeps n (g c d) free ls (Turned (older_same ls) f)
    (of_flags same_shapes decides (Turned (older_same ls) f) on c d
    (settled (older_same ls) f (flagged same_shapes on) h)))
    (suc (length p.rest)) a b p q v e (record { newest = tt; older = k.older })
