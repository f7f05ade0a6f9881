-- Where a script ends, computed: by which outcomes, with how many open nodes, and whether it leaves older ones alone.
use Rattle.std.specs.Prelude.{ℕ, zero, suc, Bool, true, false, ◌&&◌, ◌||◌, ◌==◌, List, [], ◌∷◌, if◌then◌else◌}
use Rattle.rap_grammar_scripts.specs.declared.rule.Rule.{Rule}
use Rattle.rap_grammar_scripts.specs.declared.rule.Rule.TheVariants as knot
use Rattle.rap_grammar_scripts.specs.Script.{Script, Outcome, nothing, something, block, again, give, test, ends_with, token, any, bear, report, report_next, skip, start, precede, finish, extend, abandon, split_float, after, rule, loop}

-- an end by an outcome, with so many open nodes; or an older node is finished, or one begins before it
pub data End : Type 0 where
  bad : End
  at_end : Outcome → ℕ → End

abbrev pub same_flag : Bool → Bool → Bool
same_flag true b = b
same_flag false true = false
same_flag false false = true

abbrev pub same : Outcome → Outcome → Bool
same nothing nothing = true
same something something = true
same block block = true
same (again a b) (again c d) = same_flag a c && same_flag b d
same v w = false

-- whether there is such an end
abbrev pub has : Outcome → ℕ → List End → Bool
has v j [] = false
has v j (bad ∷ l) = has v j l
has v j (at_end w k ∷ l) = (same v w && (j == k)) || has v j l

-- the ends of both, each once; where one is bad, there are no others
abbrev pub join : List End → List End → List End
join [] m = m
join (bad ∷ l) m = bad ∷ []
join (at_end v j ∷ l) m = if has v j m then join l m else at_end v j ∷ join l m

-- the ends of what follows each of these
abbrev pub gather : (Outcome → ℕ → List End) → List End → List End
gather h [] = []
gather h (bad ∷ l) = bad ∷ []
gather h (at_end v j ∷ l) = join (h v j) (gather h l)

-- The ends of a loop, by those of its turns with any flags: a turn that goes on must leave as many nodes open as there
-- were.
abbrev pub settle : ℕ → List End → List End
settle n [] = []
settle n (bad ∷ l) = bad ∷ []
settle n (at_end nothing j ∷ l) = at_end nothing j ∷ settle n l
settle n (at_end something j ∷ l) = at_end something j ∷ settle n l
settle n (at_end block j ∷ l) = at_end block j ∷ settle n l
settle n (at_end (again a b) j ∷ l) = if j == n then settle n l else bad ∷ []

-- with any flags
abbrev pub flagged : (Bool → Bool → List End) → List End
flagged h = join (join (h true true) (h true false)) (join (h false true) (h false false))

-- by which outcomes a rule of the knot ends
abbrev pub outcomes : Rule → List Outcome
outcomes (knot.ExprBp r bp) = nothing ∷ something ∷ block ∷ []
outcomes c = something ∷ []

abbrev pub all_at : ℕ → List Outcome → List End
all_at n [] = []
all_at n (v ∷ vs) = at_end v n ∷ all_at n vs

-- Where a rule of the knot ends that begins with so many open nodes: with as many. An item only adds to the newest
-- forest; another may begin a node around what stands in it, so that forest must be one of an open node.
abbrev pub rule_ends : Rule → ℕ → List End
rule_ends (knot.ItemOrMacro a b) n = all_at n (outcomes (knot.ItemOrMacro a b))
rule_ends c zero = bad ∷ []
rule_ends c (suc n) = all_at (suc n) (outcomes c)

-- where a script ends that begins with so many open nodes
abbrev pub ends : Script Rule → ℕ → List End
ends (give v) n = at_end v n ∷ []
ends (test h s t) n = join (ends s n) (ends t n)
ends (ends_with k s t) n = join (ends s n) (ends t n)
ends (token k s) n = ends s n
ends (any s) n = ends s n
ends (bear k s) n = ends s n
ends (report bytes s) n = ends s n
ends (report_next bytes s) n = ends s n
ends (skip bytes s) n = ends s n
ends (start s) n = ends s (suc n)
ends (precede s) zero = bad ∷ []
ends (precede s) (suc n) = ends s (suc (suc n))
ends (finish k s) zero = bad ∷ []
ends (finish k s) (suc n) = ends s n
ends (extend s) zero = bad ∷ []
ends (extend s) (suc n) = ends s n
ends (abandon s) zero = bad ∷ []
ends (abandon s) (suc n) = ends s n
ends (split_float s t) zero = bad ∷ []
ends (split_float s t) (suc n) = join (ends s n) (ends t n)
ends (after s h) n = gather (λ v j. ends (h v) j) (ends s n)
ends (rule c h) n = gather (λ v j. ends (h v) j) (rule_ends c n)
ends (loop h a b) n = settle n (flagged (λ c d. ends (h c d) n))

-- whether no end is bad, and this holds of each
abbrev pub every : (Outcome → ℕ → Bool) → List End → Bool
every f [] = true
every f (bad ∷ l) = false
every f (at_end v j ∷ l) = f v j && every f l

-- as many nodes are open at the end as at the beginning, and it leaves the older ones alone
abbrev pub level : ℕ → Script Rule → Bool
level n s = every (λ v j. j == n) (ends s n)
