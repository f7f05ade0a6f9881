-- Where the run of a script stands: its spot, and what the parser counts and numbers on the way.
use Rattle.std.specs.Prelude.{ℕ, ◌+◌, Bool, List, [], ◌∷◌, drop, length, Option, Some, None}
use Rattle.rap_base.specs.NodeKind.{FIELD_EXPR}
use Rattle.rap_base.specs.TokenKind.{ERROR}
use Rattle.rap_events.specs.FloatSplit.{split_children, split_calls}
use Rattle.rap_events.specs.Forest.{Forest, none, node, leaf, message, ◌⧺◌}
use Rattle.rap_events.specs.Machine.{Stack, floor, push}
use Rattle.rap_events.specs.Record.{Record}
use Rattle.rap_events.specs.State.{State, but_last, last_children, skipped, skip_count}
use Rattle.rap_grammar_scripts.specs.Script.{Spot, forests, last_tree, last_kind}

-- The input, and the tokens that are left of it. How many calls were recorded, and how many of them reported a message.
-- The newest open marker, the forest under it, and the older ones.
pub record Stand : Type 0 where
  pub input : List Record
  pub rest : List Record
  pub count : ℕ
  pub messages : ℕ
  pub marker : Option ℕ
  pub forest : Forest
  pub below : Stack

-- the stand of a parser's state
abbrev pub stand : State → Stand
stand s =
    record {
      input = s.input;
      rest = s.rest;
      count = s.count;
      messages = s.messages;
      marker = s.marker;
      forest = s.forest;
      below = s.below;
    }

-- its spot
abbrev pub spot_at : Stand → Spot
spot_at p = record { rest = p.rest; forest = p.forest; below = forests p.below }

-- the newest of the older markers, the forest under it, and those below it
abbrev pub marker_below : Stack → Option ℕ
marker_below floor = None
marker_below (push below marker forest) = marker

abbrev pub forest_below : Stack → Forest
forest_below floor = none
forest_below (push below marker forest) = forest

abbrev pub far_below : Stack → Stack
far_below floor = floor
far_below (push below marker forest) = below

-- what each word does
abbrev pub taken : ℕ → ℕ → Stand → Stand
taken kind width p =
    record {
      input = p.input;
      rest = drop width p.rest;
      count = p.count + 1;
      messages = p.messages;
      marker = p.marker;
      forest = leaf p.forest kind width;
      below = p.below;
    }

abbrev pub reported : List ℕ → Stand → Stand
reported bytes p =
    record {
      input = p.input;
      rest = p.rest;
      count = p.count + 1;
      messages = p.messages + 1;
      marker = p.marker;
      forest = message p.forest bytes;
      below = p.below;
    }

abbrev pub skipped_over : List ℕ → Stand → Stand
skipped_over bytes p =
    record {
      input = p.input;
      rest = drop 1 p.rest;
      count = p.count + skip_count p.rest;
      messages = p.messages + 1;
      marker = p.marker;
      forest = node p.forest ERROR (skipped p.rest bytes);
      below = p.below;
    }

abbrev pub started : Stand → Stand
started p =
    record {
      input = p.input;
      rest = p.rest;
      count = p.count + 1;
      messages = p.messages;
      marker = Some p.count;
      forest = none;
      below = push p.below p.marker p.forest;
    }

abbrev pub preceded : Stand → Stand
preceded p =
    record {
      input = p.input;
      rest = p.rest;
      count = p.count + 1;
      messages = p.messages;
      marker = Some p.count;
      forest = last_tree p.forest;
      below = push p.below p.marker (but_last p.forest);
    }

-- the newest marker is gone, and this is the forest under the one below it
abbrev pub closed : ℕ → List Record → Forest → Stand → Stand
closed calls rest forest p =
    record {
      input = p.input;
      rest = rest;
      count = p.count + calls;
      messages = p.messages;
      marker = marker_below p.below;
      forest = forest;
      below = far_below p.below;
    }

abbrev pub finished : ℕ → Stand → Stand
finished kind p = closed 1 p.rest (node (forest_below p.below) kind p.forest) p

abbrev pub extended : Stand → Stand
extended p =
    closed 1 p.rest
    (node (forest_below p.below) (last_kind p.forest) (but_last p.forest ⧺ last_children p.forest)) p

abbrev pub abandoned : Stand → Stand
abandoned p = closed 1 p.rest (forest_below p.below ⧺ p.forest) p

abbrev pub split_apart : Bool → Stand → Stand
split_apart ends_in_dot p =
    closed (length (split_calls ends_in_dot)) (drop 1 p.rest)
    (node (forest_below p.below) FIELD_EXPR (split_children p.forest ends_in_dot)) p
