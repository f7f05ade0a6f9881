-- How the text of a row is read.
use Rattle.std.specs.Prelude.{◌≡◌, ℕ, List, ◌++◌, codes}
use Rattle.rap_base.specs.Names.{name_of}
use Rattle.rap_base.specs.declared.edition.Edition.{Edition}
use Rattle.rap_events.specs.Forest.{Forest}
use Rattle.ra_ap_parser.specs.Headline.{IsParsed}
use Rattle.rap_lexed.specs.LexedStr.{Lexed}
use Rattle.rap_lexed.specs.StrForest.{str_flat}
use Rattle.rap_lexed.specs.Trivia.{with_trivia}
use Rattle.ra_ap_parser.specs.declared.entry_point.TopEntryPoint.{TopEntryPoint}
use Rattle.rast_print.specs.AskedName.{name_of_prefix, name_of_kind}
use Rattle.rast_print.specs.EntryName.{name_of_entry}
use Rattle.rast_print.specs.Lists.{Lists}
use Rattle.rast_print.specs.Printed.{printed}
use Rattle.rast_print.specs.Shown.{all_reported}
use Rattle.rast_print.specs.declared.asked.Asked.{Asked}
use Rattle.rast_print.specs.declared.asked.Asked.TheVariants.{Steps, Prefix, Reparse}
use Rattle.rast_replay.specs.Hash.{fnv1a_of}
use Rattle.rast_replay.specs.declared.way.Way.{Way}
use Rattle.rast_replay.specs.declared.way.Way.TheVariants as way

-- what is listed, by its name
abbrev pub name_of_asked : Asked → List ℕ
name_of_asked (Steps entry) = codes "steps/" ++ name_of_entry entry
name_of_asked (Prefix entry) = codes "prefix/" ++ name_of_prefix entry
name_of_asked (Reparse node first_child parent) =
    codes "reparse/" ++ (name_of node ++ (codes "/" ++ (name_of_kind first_child ++ (codes "/" ++ name_of_kind parent))))

-- a way, by its name: that of its entry where the text is read as a tree
abbrev pub name_of_way : Way → List ℕ
name_of_way (way.Tree entry) = name_of_entry entry
name_of_way (way.List asked) = name_of_asked asked

-- the lines of the text's one tree, and those of its messages
pub record IsTree (text : List ℕ) (edition : Edition) (entry : TopEntryPoint) (lines : List ℕ) : Type 0 where
  pub lexed : Lexed
  pub forest : Forest
  pub parsed : IsParsed text edition entry lexed forest
  pub is : lines ≡ printed 0 (str_flat (with_trivia lexed.tokens forest)) ++ all_reported lexed forest

-- the lines of a text that is read so
abbrev pub AreLines : List ℕ → Edition → Way → List ℕ → Type 0
AreLines text edition (way.Tree entry) lines = IsTree text edition entry lines
AreLines text edition (way.List asked) lines = Lists text edition asked lines

-- the hash of these lines
pub record IsHash (text : List ℕ) (edition : Edition) (way : Way) (hash : ℕ) : Type 0 where
  pub lines : List ℕ
  pub are : AreLines text edition way lines
  pub is : hash ≡ fnv1a_of lines
