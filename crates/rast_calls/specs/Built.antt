-- The nodes and leaves of a tree that is built.
use Rattle.std.specs.Prelude.{◌≡◌, ◌<◌, ℕ, List, [], ◌∷◌, ◌++◌, length, codes}
use Rattle.std.specs.Fmt.{decimal}
use Rattle.rap_base.specs.Limits.{max_tokens}
use Rattle.rap_base.specs.Names.{name_of}
use Rattle.rap_base.specs.declared.edition.Edition.{Edition}
use Rattle.rap_events.specs.Forest.{Forest}
use Rattle.rap_lexed.specs.Input.{records}
use Rattle.rap_lexed.specs.LexedStr.{Lexed, IsLexing}
use Rattle.rap_lexed.specs.Trivia.{with_trivia}
use Rattle.ra_ap_parser.specs.EntryScript.{IsOutputOf}
use Rattle.ra_ap_parser.specs.declared.entry_point.TopEntryPoint.{TopEntryPoint}
use Rattle.rast_calls.specs.declared.pushed.CallFault.{CallFault}
use Rattle.rast_calls.specs.declared.pushed.CallFault.TheVariants.{TextTooLong, TooManyTokens, NoBrace, NoToken, NoMemory}
use Rattle.syntax_tree.specs.Elements.{descendants_of}
use Rattle.syntax_tree.specs.Leaves.{RangedLeaf, leaves_of}
use Rattle.syntax_tree.specs.Ranged.{Ranged}
use Rattle.syntax_tree.specs.RangedForest.{RangedNode}

-- a kind, and where it begins and ends
abbrev pub placed_kind : ℕ → ℕ → ℕ → List ℕ
placed_kind kind start end = name_of kind ++ (codes " " ++ (decimal start ++ (codes ".." ++ (decimal end ++ codes "\n"))))

abbrev pub node_line : RangedNode → List ℕ
node_line n = codes "node " ++ placed_kind n.kind n.start n.end

abbrev pub node_lines : List RangedNode → List ℕ
node_lines [] = []
node_lines (n ∷ ns) = node_line n ++ node_lines ns

abbrev pub leaf_line : RangedLeaf → List ℕ
leaf_line l = codes "leaf " ++ placed_kind l.kind l.start l.end

abbrev pub leaf_lines : List RangedLeaf → List ℕ
leaf_lines [] = []
leaf_lines (l ∷ ls) = leaf_line l ++ leaf_lines ls

-- the nodes of the text's tree in preorder, and after them its leaves
pub record IsBuilt (text : List ℕ) (edition : Edition) (entry : TopEntryPoint) (lines : List ℕ) : Type 0 where
  pub lexed : Lexed
  pub lexing : IsLexing text edition lexed
  pub output : Forest
  pub script : IsOutputOf entry (records lexed.tokens edition) output
  pub root : RangedNode
  pub ranged : Ranged (with_trivia lexed.tokens output) root
  pub is : lines ≡ node_lines (root ∷ descendants_of root.children) ++ leaf_lines (leaves_of root.children)

-- the text has more tokens than the parser takes
pub record HasTooMany (text : List ℕ) (edition : Edition) : Type 0 where
  pub lexed : Lexed
  pub lexing : IsLexing text edition lexed
  pub many : max_tokens < length (records lexed.tokens edition)

-- when a fault occurs for a text whose tree is built
abbrev pub ComesOfBuild : List ℕ → Edition → CallFault → Type 0
ComesOfBuild text edition TextTooLong = 4294967295 < length text
ComesOfBuild text edition TooManyTokens = HasTooMany text edition
ComesOfBuild text edition NoBrace = ⊥
ComesOfBuild text edition NoToken = ⊥
ComesOfBuild text edition NoMemory = Unit {0}
