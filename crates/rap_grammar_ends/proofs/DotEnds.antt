-- Whether the node of a float that ends in a dot may stand at the top of what a script makes, computed: by which
-- outcomes the script ends, and of each open node, whether such a node may stand right under it.
use Rattle.std.specs.Prelude.{Bool, true, false, ◌&&◌, nat_lt, List, [], ◌∷◌, ◌++◌, if◌then◌else◌}
use Rattle.rap_grammar_scripts.specs.declared.rule.Rule.{Rule}
use Rattle.rap_grammar_scripts.specs.declared.rule.Rule.TheVariants as knot
use Rattle.rap_grammar_scripts.specs.Script.{Script, Outcome, nothing, something, block, again, give, test, ends_with, token, any, bear, report, report_next, skip, start, precede, finish, extend, abandon, split_float, after, rule, loop}
use Rattle.rap_grammar_ends.proofs.Ends.{same_flag}
use Rattle.rap_grammar_ends.proofs.Endings.{Ending, unknown, ends_in, join, gather, settle, flagged}

-- What stands under the newest open node: no node that ends in a float's dot; none but the last one, and that one only
-- where the dots of a range come next; or any.
pub data Level : Type 0 where
  inside : Level
  ranged : Level
  free : Level

abbrev pub same_level : Level → Level → Bool
same_level inside inside = true
same_level ranged ranged = true
same_level free free = true
same_level l m = false

-- whether the first says no less than the second
abbrev pub within : Level → Level → Bool
within inside m = true
within ranged inside = false
within ranged ranged = true
within ranged free = true
within free inside = false
within free ranged = false
within free free = true

-- the level of the newest open node, and of each older one whether no node that ends in a dot stands right under it
pub data Levels : Type 0 where
  levels : Level → List Bool → Levels

abbrev pub same_lower : List Bool → List Bool → Bool
same_lower [] [] = true
same_lower [] (c ∷ ms) = false
same_lower (c ∷ ls) [] = false
same_lower (c ∷ ls) (d ∷ ms) = same_flag c d && same_lower ls ms

abbrev pub same_levels : Levels → Levels → Bool
same_levels (levels l ls) (levels m ms) = same_level l m && same_lower ls ms

-- the same older nodes, and at the newest no less is said than this
abbrev pub as_good : Level → List Bool → Levels → Bool
as_good m ms (levels l ls) = within l m && same_lower ls ms

-- where something else is added
abbrev pub added : Level → Level
added inside = inside
added ranged = free
added free = free

-- the newest node as an older one, and an older one as the newest
abbrev pub lowered : Level → Bool
lowered inside = true
lowered ranged = false
lowered free = false

abbrev pub raised : Bool → Level
raised true = inside
raised false = free

-- without its last tree
abbrev pub before_last : Level → Bool
before_last inside = true
before_last ranged = true
before_last free = false

-- where the last tree begins before what stands before it
abbrev pub extended : Level → Bool → Level
extended inside c = raised c
extended ranged true = ranged
extended ranged false = free
extended free c = free

-- where what stands under the newest node stands under the one below it
abbrev pub merged : Level → Bool → Level
merged inside c = raised c
merged ranged c = free
merged free c = free

-- What follows is computed of a level or a flag that is computed itself: at the same ones a script is then computed
-- once, however often it stands in others.
abbrev pub by_level : {A : Type 0} → Level → (Level → A) → A
by_level inside h = h inside
by_level ranged h = h ranged
by_level free h = h free

abbrev pub by_flag : {A : Type 0} → Bool → (Bool → A) → A
by_flag true h = h true
by_flag false h = h false

-- by an outcome a rule never ends, or at this level
pub data Said : Type 0 where
  never : Said
  at_level : Level → Said

-- How each rule of the knot ends that begins where no node ends in a dot. An expression that takes in ranges leaves
-- none; but one that reads like a block and ends a statement may leave the last one.
abbrev pub said : Outcome → Rule → Said
said nothing (knot.ExprBp r bp) = at_level inside
said nothing c = never
said something (knot.ExprBp r bp) = at_level (if nat_lt 2 bp then ranged else inside)
said something c = at_level inside
said block (knot.ExprBp r bp) = if r.prefer_stmt then at_level ranged else never
said block c = never
said (again a b) c = never

-- the same of one that begins at any level
abbrev pub called : Level → Level → Level
called inside m = m
called ranged m = free
called free m = free

abbrev pub one_end : Outcome → Said → Level → List Bool → List (Ending Levels)
one_end v never l ls = []
one_end v (at_level m) l ls = by_level (called l m) (λ k. ends_in v (levels k ls) ∷ [])

abbrev pub rule_ends : Rule → Level → List Bool → List (Ending Levels)
rule_ends c l ls =
    one_end nothing (said nothing c) l ls
    ++ (one_end something (said something c) l ls ++ one_end block (said block c) l ls)

-- Where a script ends that begins at these levels. What takes a float apart, and what lets a node begin where another
-- does, is left to proofs by hand.
abbrev pub dot_ends : Script Rule → Level → List Bool → List (Ending Levels)
dot_ends (give v) l ls = ends_in v (levels l ls) ∷ []
dot_ends (test h s t) l ls = join same_levels (dot_ends s l ls) (dot_ends t l ls)
dot_ends (ends_with k s t) l ls = join same_levels (dot_ends s l ls) (dot_ends t l ls)
dot_ends (token k s) l ls = by_level (added l) (λ m. dot_ends s m ls)
dot_ends (any s) l ls = by_level (added l) (λ m. dot_ends s m ls)
dot_ends (bear k s) l ls = by_level (added l) (λ m. dot_ends s m ls)
dot_ends (report bytes s) l ls = by_level (added l) (λ m. dot_ends s m ls)
dot_ends (report_next bytes s) l ls = by_level (added l) (λ m. dot_ends s m ls)
dot_ends (skip bytes s) l ls = by_level (added l) (λ m. dot_ends s m ls)
dot_ends (start s) l ls = by_flag (lowered l) (λ c. dot_ends s inside (c ∷ ls))
dot_ends (precede s) l ls = by_flag (before_last l) (λ c. dot_ends s free (c ∷ ls))
dot_ends (finish k s) l [] = unknown ∷ []
dot_ends (finish k s) l (c ∷ ls) = by_level (raised c) (λ m. dot_ends s m ls)
dot_ends (extend s) l ls = unknown ∷ []
dot_ends (abandon s) l [] = unknown ∷ []
dot_ends (abandon s) l (c ∷ ls) = by_level (merged l c) (λ m. dot_ends s m ls)
dot_ends (split_float s t) l ls = unknown ∷ []
dot_ends (after s h) l ls =
    gather same_levels (λ v. elim [ levels m ms ↦ dot_ends (h v) m ms ]) (dot_ends s l ls)
dot_ends (rule c h) l ls =
    gather same_levels (λ v. elim [ levels m ms ↦ dot_ends (h v) m ms ]) (rule_ends c l ls)
dot_ends (loop h a b) l ls = settle (as_good l ls) (flagged same_levels (λ c d. dot_ends (h c d) l ls))
