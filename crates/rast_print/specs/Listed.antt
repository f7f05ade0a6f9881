-- The lines that the program prints.
use Rattle.std.specs.Prelude.{ℕ, Bool, true, false, if◌then◌else◌, List, [], ◌∷◌, ◌++◌, codes}
use Rattle.std.specs.Fmt.{decimal}
use Rattle.rap_base.specs.Names.{name_of}
use Rattle.rap_events.specs.Forest.{Forest, flat, one_tree, used}
use Rattle.rap_events.specs.StepValue.{StepValue, enter, exit, token, float_split, error}
use Rattle.rap_lexed.specs.LexedStr.{Token}
use Rattle.rap_lexed.specs.StrForest.{str_flat}
use Rattle.rap_lexed.specs.Trivia.{with_trivia}
use Rattle.rap_lexed.specs.Used.{end_after}
use Rattle.rast_print.specs.Printed.{printed, reported}

abbrev pub split_line : Bool → List ℕ
split_line true = codes "split true\n"
split_line false = codes "split false\n"

-- the line of a step: a token with the number of input tokens in it, and a split float with whether it ends in a dot
abbrev pub step_line : StepValue → List ℕ
step_line (enter kind) = codes "enter " ++ (name_of kind ++ codes "\n")
step_line exit = codes "exit\n"
step_line (token kind width) = codes "token " ++ (name_of kind ++ (codes " " ++ (decimal width ++ codes "\n")))
step_line (float_split ends_in_dot) = split_line ends_in_dot
step_line (error bytes) = codes "error " ++ (bytes ++ codes "\n")

-- the lines of steps
abbrev pub step_lines : List StepValue → List ℕ
step_lines [] = []
step_lines (step ∷ steps) = step_line step ++ step_lines steps

-- the end of the last token that an output consumed
abbrev pub used_line : List Token → Forest → List ℕ
used_line ts output = codes "used " ++ (decimal (end_after (used output) ts) ++ codes "\n")

-- a tree with its trivia put back, and its messages
abbrev pub tree_lines : List Token → Forest → List ℕ
tree_lines ts output = printed 0 (str_flat (with_trivia ts output)) ++ reported (str_flat (with_trivia ts output))

-- the tree of an output, where it is one
abbrev pub tree_part : List Token → Forest → List ℕ
tree_part ts output = if one_tree output then codes "tree\n" ++ tree_lines ts output else []

-- the prefix that was parsed: its steps, where it ends, and its tree
abbrev pub prefix_lines : List Token → Forest → List ℕ
prefix_lines ts output = step_lines (flat output) ++ (used_line ts output ++ tree_part ts output)

-- a node's tree, or the steps if they are not one tree
abbrev pub node_part : List Token → Forest → List ℕ
node_part ts output = if one_tree output then tree_lines ts output else codes "not one tree\n" ++ step_lines (flat output)

-- a node that is parsed again, and where it ends
abbrev pub node_lines : List Token → Forest → List ℕ
node_lines ts output = node_part ts output ++ used_line ts output
