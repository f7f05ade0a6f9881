-- Scripts: what a rule does to the tokens, as the calls of the parser in their order and the tests between them.
use Rattle.std.specs.Prelude.{◌≡◌, ◌≢◌, ◌==◌, ℕ, Bool, true, false, List, [], ◌∷◌, drop}
use Rattle.rap_base.specs.NodeKind.{FIELD_EXPR}
use Rattle.rap_base.specs.TokenKind.{EOF, ERROR, FLOAT_NUMBER}
use Rattle.rap_events.specs.FloatSplit.{split_children}
use Rattle.rap_events.specs.Record.{Record, next_kind, joint_at}
use Rattle.rap_events.specs.Composite.{is_at, width}
use Rattle.rap_events.specs.Cover.{first_may_bear}
use Rattle.rap_events.specs.Forest.{Forest, none, node, leaf, message, split, ◌⧺◌}
use Rattle.rap_events.specs.LastToken.{last_after}
use Rattle.rap_events.specs.Machine.{Stack, floor, push}
use Rattle.rap_events.specs.State.{State, but_last, last_children, skipped, with_kind}
use Rattle.rap_grammar_scripts.specs.Test.{Test, holds}

-- The outcome of a script: nothing (`None`, `false`), something, or a node that reads like a block. A turn of a loop
-- has the outcome `again`, with two flags, where the loop goes on.
pub data Outcome : Type 0 where
  nothing : Outcome
  something : Outcome
  block : Outcome
  again : Bool → Bool → Outcome

-- A script over rules with these names. It ends with an outcome. It goes on by a test of the tokens that come next, or
-- as the last token taken was of a kind or not. It takes a token: of a kind, under its own kind, or as another kind
-- that it may be read as. It reports a message, one that ends in the next token's kind, or one with which it takes the
-- next token into an `ERROR`. It starts a node, starts one around the last node, finishes the newest one under a kind,
-- lets the last node begin where the newest one does, or abandons the newest one. It splits a float, which finishes the
-- field access that is the newest node, and where the float does not end in a dot another one around it; and goes on as
-- the float ends in a dot or not. It goes on after another script, or after a rule, as their outcome says. It takes
-- turns, as long as their outcome says so.
pub data Script (P : Type 0) : Type 0 where
  give : Outcome → Script P
  test : Test → Script P → Script P → Script P
  ends_with : ℕ → Script P → Script P → Script P
  token : ℕ → Script P → Script P
  any : Script P → Script P
  bear : ℕ → Script P → Script P
  report : List ℕ → Script P → Script P
  report_next : List ℕ → Script P → Script P
  skip : List ℕ → Script P → Script P
  start : Script P → Script P
  precede : Script P → Script P
  finish : ℕ → Script P → Script P
  extend : Script P → Script P
  abandon : Script P → Script P
  split_float : Script P → Script P → Script P
  after : Script P → (Outcome → Script P) → Script P
  rule : P → (Outcome → Script P) → Script P
  loop : (Bool → Bool → Script P) → Bool → Bool → Script P

-- The state of a script: the tokens that are left, the forest under the newest open node, and the forests under the
-- older ones, the newest first.
pub record Spot : Type 0 where
  pub rest : List Record
  pub forest : Forest
  pub below : List Forest

abbrev pub forests : Stack → List Forest
forests floor = []
forests (push below marker forest) = forest ∷ forests below

-- the spot of a parser's state
abbrev pub spot : State → Spot
spot s = record { rest = s.rest; forest = s.forest; below = forests s.below }

-- the forest of the newest of the older nodes
abbrev pub newest : List Forest → Forest
newest [] = none
newest (f ∷ fs) = f

-- the kind under which the last token under these nodes was taken, or `EOF` where none was
abbrev pub last_under : List Forest → ℕ
last_under [] = EOF
last_under (f ∷ fs) = last_after (last_under fs) f

-- the same for a spot
abbrev pub last_taken_at : Spot → ℕ
last_taken_at p = last_under (p.forest ∷ p.below)

-- the last tree alone
abbrev pub last_tree : Forest → Forest
last_tree none = none
last_tree (node before kind children) = node none kind children
last_tree (leaf before kind width) = leaf none kind width
last_tree (message before bytes) = message none bytes
last_tree (split before dot) = split none dot

-- the kind of the last tree
abbrev pub last_kind : Forest → ℕ
last_kind none = EOF
last_kind (node before kind children) = kind
last_kind (leaf before kind width) = kind
last_kind (message before bytes) = EOF
last_kind (split before dot) = EOF

-- what each word does
abbrev pub taken : ℕ → ℕ → Spot → Spot
taken kind width p = record { rest = drop width p.rest; forest = leaf p.forest kind width; below = p.below }

abbrev pub reported : List ℕ → Spot → Spot
reported bytes p = record { rest = p.rest; forest = message p.forest bytes; below = p.below }

abbrev pub skipped_over : List ℕ → Spot → Spot
skipped_over bytes p =
    record { rest = drop 1 p.rest; forest = node p.forest ERROR (skipped p.rest bytes); below = p.below }

abbrev pub started : Spot → Spot
started p = record { rest = p.rest; forest = none; below = p.forest ∷ p.below }

abbrev pub preceded : Spot → Spot
preceded p = record { rest = p.rest; forest = last_tree p.forest; below = but_last p.forest ∷ p.below }

abbrev pub finished : ℕ → Spot → Spot
finished kind p = record { rest = p.rest; forest = node (newest p.below) kind p.forest; below = drop 1 p.below }

abbrev pub extended : Spot → Spot
extended p =
    record {
      rest = p.rest;
      forest = node (newest p.below) (last_kind p.forest) (but_last p.forest ⧺ last_children p.forest);
      below =
          drop 1 p.below;
    }

abbrev pub abandoned : Spot → Spot
abandoned p = record { rest = p.rest; forest = newest p.below ⧺ p.forest; below = drop 1 p.below }

abbrev pub split_apart : Bool → Spot → Spot
split_apart ends_in_dot p =
    record {
      rest = drop 1 p.rest;
      forest = node (newest p.below) FIELD_EXPR (split_children p.forest ends_in_dot);
      below = drop 1 p.below;
    }

-- whether a loop goes on
abbrev pub goes_on : Outcome → Bool
goes_on nothing = false
goes_on something = false
goes_on block = false
goes_on (again a b) = true

-- A script runs from one spot to another and ends with this outcome; `script_of` has the scripts of the recursive
-- rules.
pub data Runs {P : Type 0} (script_of : P → Script P) : Script P → Spot → Spot → Outcome → Type 0 where
  gives : {v : Outcome} {p : Spot} → Runs script_of (give v) p p v
  passes : {h : Test} {s t : Script P} {p q : Spot} {v : Outcome} → holds h p.rest ≡ true →
      Runs script_of s p q v → Runs script_of (test h s t) p q v
  fails : {h : Test} {s t : Script P} {p q : Spot} {v : Outcome} → holds h p.rest ≡ false →
      Runs script_of t p q v → Runs script_of (test h s t) p q v
  ends_so : {k : ℕ} {s t : Script P} {p q : Spot} {v : Outcome} → (last_taken_at p == k) ≡ true →
      Runs script_of s p q v → Runs script_of (ends_with k s t) p q v
  ends_else : {k : ℕ} {s t : Script P} {p q : Spot} {v : Outcome} → (last_taken_at p == k) ≡ false →
      Runs script_of t p q v → Runs script_of (ends_with k s t) p q v
  takes : {k : ℕ} {s : Script P} {p q : Spot} {v : Outcome} → is_at k p.rest ≡ true →
      Runs script_of s (taken k (width k) p) q v → Runs script_of (token k s) p q v
  takes_any : {s : Script P} {p q : Spot} {v : Outcome} → next_kind p.rest ≢ EOF →
      Runs script_of s (taken (next_kind p.rest) 1 p) q v → Runs script_of (any s) p q v
  bears : {k : ℕ} {s : Script P} {p q : Spot} {v : Outcome} → first_may_bear p.rest k ≡ true →
      Runs script_of s (taken k 1 p) q v → Runs script_of (bear k s) p q v
  reports : {bytes : List ℕ} {s : Script P} {p q : Spot} {v : Outcome} → Runs script_of s (reported bytes p) q v →
      Runs script_of (report bytes s) p q v
  reports_next : {bytes : List ℕ} {s : Script P} {p q : Spot} {v : Outcome} →
      Runs script_of s (reported (with_kind bytes (next_kind p.rest)) p) q v →
      Runs script_of (report_next bytes s) p q v
  skips : {bytes : List ℕ} {s : Script P} {p q : Spot} {v : Outcome} → Runs script_of s (skipped_over bytes p) q v →
      Runs script_of (skip bytes s) p q v
  starts : {s : Script P} {p q : Spot} {v : Outcome} → Runs script_of s (started p) q v → Runs script_of (start s) p q v
  precedes : {s : Script P} {p q : Spot} {v : Outcome} → Runs script_of s (preceded p) q v →
      Runs script_of (precede s) p q v
  finishes : {k : ℕ} {s : Script P} {p q : Spot} {v : Outcome} → Runs script_of s (finished k p) q v →
      Runs script_of (finish k s) p q v
  extends : {s : Script P} {p q : Spot} {v : Outcome} → Runs script_of s (extended p) q v →
      Runs script_of (extend s) p q v
  abandons : {s : Script P} {p q : Spot} {v : Outcome} → Runs script_of s (abandoned p) q v →
      Runs script_of (abandon s) p q v
  splits_dotted : {s t : Script P} {p q : Spot} {v : Outcome} → next_kind p.rest ≡ FLOAT_NUMBER →
      joint_at p.rest 0 ≡ false → Runs script_of s (split_apart true p) q v → Runs script_of (split_float s t) p q v
  splits_whole : {s t : Script P} {p q : Spot} {v : Outcome} → next_kind p.rest ≡ FLOAT_NUMBER →
      joint_at p.rest 0 ≡ true → Runs script_of t (split_apart false p) q v → Runs script_of (split_float s t) p q v
  follows : {s : Script P} {n : Outcome → Script P} {p r q : Spot} {w v : Outcome} → Runs script_of s p r w →
      Runs script_of (n w) r q v → Runs script_of (after s n) p q v
  obeys : {c : P} {n : Outcome → Script P} {p r q : Spot} {w v : Outcome} → Runs script_of (script_of c) p r w →
      Runs script_of (n w) r q v → Runs script_of (rule c n) p q v
  turns : {h : Bool → Bool → Script P} {a b c d : Bool} {p r q : Spot} {v : Outcome} →
      Runs script_of (h a b) p r (again c d) → Runs script_of (loop h c d) r q v → Runs script_of (loop h a b) p q v
  stops : {h : Bool → Bool → Script P} {a b : Bool} {p q : Spot} {v : Outcome} → Runs script_of (h a b) p q v →
      goes_on v ≡ false → Runs script_of (loop h a b) p q v
