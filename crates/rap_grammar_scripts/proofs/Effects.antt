-- What is computed of a script's events, messages and open nodes is so of where it ends.
use Rattle.std.proofs.Common.{◌≡◌, ℕ, zero, suc, Bool, true, false, ◌&&◌, List, [], ◌∷◌, Some, if◌then◌else◌, refl, sym, subst}
use Rattle.rap_grammar_scripts.specs.Cost.{events, Costs, says_bill}
use Rattle.rap_grammar_scripts.specs.Effects.{Effect, effects, Has, says, figures, effect}
use Rattle.rap_grammar_scripts.specs.Exec.{run_of, exec}
use Rattle.rap_grammar_scripts.specs.Kept.{told, open_nodes, Tells, Stays, says_told, says_nodes}
use Rattle.rap_grammar_scripts.specs.Knot.{script_of}
use Rattle.rap_grammar_scripts.specs.Script.{Script, Outcome, nothing, something, block, again}
use Rattle.rap_grammar_scripts.specs.Stand.{Stand}
use Rattle.rap_grammar_scripts.specs.Tally.{same_flag, same_outcome, says_one, within, holds_at, holds_always}
use Rattle.rap_grammar_scripts.specs.declared.rule.Rule.{Rule}
use Rattle.rap_grammar_scripts.specs.declared.rule.Rule.TheVariants as knot
use Rattle.rap_grammar_scripts.specs.declared.arguments.Restrictions.{Restrictions}
use Rattle.rap_grammar_scripts.specs.declared.arguments.Semicolon.{Semicolon}
use Rattle.rap_grammar_scripts.specs.declared.arguments.Semicolon.TheVariants as kind
use Rattle.rap_grammar_scripts.proofs.Cost as cost
use Rattle.rap_grammar_scripts.proofs.Exec.{no_end}
use Rattle.rap_grammar_scripts.proofs.Kept as kept
use Rattle.rap_grammar_scripts.proofs.Moves.{left_so, right_so}
use Rattle.rap_grammar_scripts.proofs.Scripts.{scripts}
use Rattle.rap_grammar_scripts.proofs.Tally.{Among, this_one, later_one, Laws, same_is, tallied}

pub laws : Laws effects Has
laws = record {
  idle = λ p.
      record {
        events = cost.laws.idle p;
        told = kept.told_laws.idle p;
        nodes = kept.nodes_laws.idle p;
        undone = kept.undone_laws.idle p;
      };
  takes = λ k w p l.
      record {
        events = cost.laws.takes k w p l;
        told = kept.told_laws.takes k w p l;
        nodes = kept.nodes_laws.takes k w p l;
        undone = kept.undone_laws.takes k w p l;
      };
  takes_end = λ k w p.
      record {
        events = cost.laws.takes_end k w p;
        told = kept.told_laws.takes_end k w p;
        nodes = kept.nodes_laws.takes_end k w p;
        undone = kept.undone_laws.takes_end k w p;
      };
  reports = λ b p.
      record {
        events = cost.laws.reports b p;
        told = kept.told_laws.reports b p;
        nodes = kept.nodes_laws.reports b p;
        undone = kept.undone_laws.reports b p;
      };
  skips = λ b p.
      record {
        events = cost.laws.skips b p;
        told = kept.told_laws.skips b p;
        nodes = kept.nodes_laws.skips b p;
        undone = kept.undone_laws.skips b p;
      };
  starts = λ p.
      record {
        events = cost.laws.starts p;
        told = kept.told_laws.starts p;
        nodes = kept.nodes_laws.starts p;
        undone = kept.undone_laws.starts p;
      };
  precedes = λ p.
      record {
        events = cost.laws.precedes p;
        told = kept.told_laws.precedes p;
        nodes = kept.nodes_laws.precedes p;
        undone = kept.undone_laws.precedes p;
      };
  closes = λ f p.
      record {
        events = cost.laws.closes f p;
        told = kept.told_laws.closes f p;
        nodes = kept.nodes_laws.closes f p;
        undone = kept.undone_laws.closes f p;
      };
  splits = λ d p l.
      record {
        events = cost.laws.splits d p l;
        told = kept.told_laws.splits d p l;
        nodes = kept.nodes_laws.splits d p l;
        undone = kept.undone_laws.splits d p l;
      };
  and_then = λ x y p r q h i.
      record {
        events = cost.laws.and_then x.events y.events p r q h.events i.events;
        told = kept.told_laws.and_then x.told y.told p r q h.told i.told;
        nodes = kept.nodes_laws.and_then x.nodes y.nodes p r q h.nodes i.nodes;
        undone = kept.undone_laws.and_then x.undone y.undone p r q h.undone i.undone;
      };
  left = λ x y p q h.
      record {
        events = cost.laws.left x.events y.events p q h.events;
        told = kept.told_laws.left x.told y.told p q h.told;
        nodes = kept.nodes_laws.left x.nodes y.nodes p q h.nodes;
        undone = kept.undone_laws.left x.undone y.undone p q h.undone;
      };
  right = λ x y p q h.
      record {
        events = cost.laws.right x.events y.events p q h.events;
        told = kept.told_laws.right x.told y.told p q h.told;
        nodes = kept.nodes_laws.right x.nodes y.nodes p q h.nodes;
        undone = kept.undone_laws.right x.undone y.undone p q h.undone;
      };
  first_turn = λ x p q h l.
      record {
        events = cost.laws.first_turn x.events p q h.events l;
        told = kept.told_laws.first_turn x.told p q h.told l;
        nodes = kept.nodes_laws.first_turn x.nodes p q h.nodes l;
        undone = kept.undone_laws.first_turn x.undone p q h.undone l;
      };
  next_turn = λ x p r q h i l.
      record {
        events = cost.laws.next_turn x.events p r q h.events i.events l;
        told = kept.told_laws.next_turn x.told p r q h.told i.told l;
        nodes = kept.nodes_laws.next_turn x.nodes p r q h.nodes i.nodes l;
        undone = kept.undone_laws.next_turn x.undone p r q h.undone i.undone l;
      };
}

-- what says more
pub has_within : (x y : Effect) (p q : Stand) → says x y ≡ true → Has x p q → Has y p q
has_within x y p q h c =
    let a = says_bill x.events y.events in
    let b = says_told x.undone y.undone in
    let d = says_told x.told y.told in
    let e = says_nodes x.nodes y.nodes in
    let l = left_so (a && b) (d && e) h in
    let r = right_so (a && b) (d && e) h in
    record {
      events = cost.costs_within x.events y.events p q (left_so a b l) c.events;
      told = kept.told_within x.told y.told p q (left_so d e r) c.told;
      nodes = kept.nodes_within x.nodes y.nodes p q (right_so d e r) c.nodes;
      undone = kept.undone_within x.undone y.undone p q (right_so a b l) c.undone;
    }

one_or : (t : Bool) (v : Outcome) (x : Effect) (e : Outcome × Effect) (l : List (Outcome × Effect)) (p q : Stand) →
    (t ≡ true → v ≡ e.0) → (if t then says x e.1 else says_one says v x l) ≡ true →
    (says_one says v x l ≡ true → Among Has l v p q) → Has x p q → Among Has (e ∷ l) v p q
one_or true v x e l p q i h f c = this_one (i refl) (has_within x e.1 p q h c)
one_or false v x e l p q i h f c = later_one (f h)

one_within : (l : List (Outcome × Effect)) (v : Outcome) (x : Effect) (p q : Stand) → says_one says v x l ≡ true →
    Has x p q → Among Has l v p q
one_within [] v x p q h c = absurd cc
one_within (e ∷ l) v x p q h c =
    one_or (same_outcome v e.0) v x e l p q (same_is v e.0) h (λ i. one_within l v x p q i c) c

all_within : (l k : List (Outcome × Effect)) (v : Outcome) (p q : Stand) → within says l k ≡ true →
    Among Has l v p q → Among Has k v p q
all_within [] k v p q h a = elim a [ ]
all_within (e ∷ l) k v p q h (this_one i c) =
    subst (λ (w : Outcome). Among Has k w p q) (sym i)
    (one_within k e.0 e.1 p q (left_so (says_one says e.0 e.1 k) (within says l k) h) c)
all_within (e ∷ l) k v p q h (later_one a) =
    all_within l k v p q (right_so (says_one says e.0 e.1 k) (within says l k) h) a

-- the script of a rule is within its figures
abbrev Within : Rule → Type 0
Within c = within says (effect (script_of c)) (figures c) ≡ true

-- an expression under these restrictions
abbrev restricted : Bool → Bool → Rule → Rule
restricted a b (knot.ExprBp r bp) = knot.ExprBp (record { forbid_structs = a; prefer_stmt = b }) bp
restricted a b c = c

computed : (a b : Bool) (c : Rule) → Within (restricted a b c)
unfolding scripts
computed true true (knot.ExprBp r bp) = refl
computed true false (knot.ExprBp r bp) = refl
computed false true (knot.ExprBp r bp) = refl
computed false false (knot.ExprBp r bp) = refl
-- computed: written by crates/rap_grammar_scripts/rules up to "end"
computed a b (knot.TypeWithBoundsCond true) = refl
computed a b (knot.TypeWithBoundsCond false) = refl
computed a b knot.PathTypeBounds = refl
computed a b knot.GenericArg = refl
computed a b knot.GenericParamList = refl
computed a b knot.BoundsWithoutColon = refl
computed a b knot.WhereClause = refl
computed a b knot.Pattern = refl
computed a b knot.PatternSingle = refl
computed a b knot.ArmPattern = refl
computed a b (knot.Stmt kind.Required) = refl
computed a b (knot.Stmt kind.Optional) = refl
computed a b (knot.Stmt kind.Forbidden) = refl
computed a b knot.IfExpr = refl
computed a b (knot.ItemOrMacro true true) = refl
computed a b (knot.ItemOrMacro true false) = refl
computed a b (knot.ItemOrMacro false true) = refl
computed a b (knot.ItemOrMacro false false) = refl
computed a b knot.UseTree = refl
computed a b knot.Meta = refl
computed a b knot.CfgPredicate = refl
computed a b knot.TokenTree = refl

-- end

-- so does each recursive rule, with any depth
line : (c : Rule) → Within c
line (knot.ExprBp r bp) = computed r.forbid_structs r.prefer_stmt (knot.ExprBp r bp)
line c = computed true true c

pub rules_do : (n : ℕ) (c : Rule) (p q : Stand) (v : Outcome) → run_of n c p ≡ Some (q, v) →
    Among Has (figures c) v p q
rules_do zero c p q v e = no_end e
rules_do (suc n) c p q v e =
    all_within (effect (script_of c)) (figures c) v p q (line c)
    (tallied effects Has laws (run_of n) figures (rules_do n) (script_of c) p q v e)

-- What is computed of a script is so of where it ends.
pub does : (n : ℕ) (s : Script Rule) (p q : Stand) (v : Outcome) → exec (run_of n) s p ≡ Some (q, v) →
    Among Has (effect s) v p q
does n s p q v e = tallied effects Has laws (run_of n) figures (rules_do n) s p q v e

-- the measure of its outcome, of which something holds
pub record Found (f : Effect → Bool) (p q : Stand) : Type 0 where
  pub effect : Effect
  pub has : Has effect p q
  pub holds : f effect ≡ true

same_flag_is : (a : Bool) → same_flag a a ≡ true
same_flag_is true = refl
same_flag_is false = refl

same_self : (v : Outcome) → same_outcome v v ≡ true
same_self nothing = refl
same_self something = refl
same_self block = refl
same_self (again a b) = rw (same_flag_is a) (same_flag_is b)

if_so : (t x : Bool) → t ≡ true → (if t then x else true) ≡ true → x ≡ true
if_so true x h e = e
if_so false x h e = absurd cc

pub found_at : (f : Effect → Bool) (l : List (Outcome × Effect)) (v : Outcome) (p q : Stand) →
    holds_at f v l ≡ true → Among Has l v p q → Found f p q
found_at f [] v p q h a = elim a [ ]
found_at f (e ∷ l) v p q h (this_one i c) =
    record {
      effect = e.1;
      has = c;
      holds =
          if_so (same_outcome v e.0) (f e.1)
          (subst (λ (w : Outcome). same_outcome v w ≡ true) i (same_self v))
          (left_so (if same_outcome v e.0 then f e.1 else true) (holds_at f v l) h);
    }
found_at f (e ∷ l) v p q h (later_one a) =
    found_at f l v p q (right_so (if same_outcome v e.0 then f e.1 else true) (holds_at f v l) h) a

pub found : (f : Effect → Bool) (l : List (Outcome × Effect)) (v : Outcome) (p q : Stand) →
    holds_always f l ≡ true → Among Has l v p q → Found f p q
found f [] v p q h a = elim a [ ]
found f (e ∷ l) v p q h (this_one i c) =
    record { effect = e.1; has = c; holds = left_so (f e.1) (holds_always f l) h }
found f (e ∷ l) v p q h (later_one a) = found f l v p q (right_so (f e.1) (holds_always f l) h) a
