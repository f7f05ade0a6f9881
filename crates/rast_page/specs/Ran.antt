-- What the program shows of a text.
use Rattle.std.specs.Prelude.{◌≡◌, ℕ, List, ◌++◌, Result, chars, string_bytes}
use Rattle.rap_base.specs.declared.edition.Edition.{Edition}
use Rattle.rap_base.specs.declared.no_memory.NoMemory.{NoMemory as Memory}
use Rattle.rap_events.specs.Forest.{Forest}
use Rattle.rap_lexed.specs.LexedStr.{Lexed}
use Rattle.rap_lexed.specs.StrForest.{str_flat}
use Rattle.rap_lexed.specs.Trivia.{with_trivia}
use Rattle.ra_ap_parser.specs.Headline.{IsParsed}
use Rattle.ra_ap_parser.specs.declared.entry_point.TopEntryPoint.{TopEntryPoint}
use Rattle.rast_common.specs.Ran.{IsMade}
use Rattle.rast_common.specs.declared.fault.Fault.{Fault}
use Rattle.rast_print.specs.Shown.{Comes, fault_of}
use Rattle.rast_page.specs.Inert.{IsInert}
use Rattle.rast_page.specs.Json.{json_text}
use Rattle.rast_page.specs.Page.{data_of}
use Rattle.rast_page.specs.Rows.{step_rows, message_rows, lexer_message_rows}
use Rattle.rast_page.specs.declared.rows.Rows.{Rows}
use Rattle.rast_page.specs.declared.run.Frame.{Frame}
use Rattle.rast_page.specs.declared.run.Page.{Page}

-- the items of all messages: those of the tree, and after them those of the lexer
abbrev pub all_message_rows : Lexed → Forest → List ℕ
all_message_rows lexed forest =
    message_rows (str_flat (with_trivia lexed.tokens forest)) ++ lexer_message_rows lexed.tokens lexed.errors

-- The items of the text's one tree, and those of its messages.
pub record AreRows (text : List ℕ) (edition : Edition) (entry : TopEntryPoint) (rows : Rows) : Type 0 where
  pub lexed : Lexed
  pub forest : Forest
  pub parsed : IsParsed text edition entry lexed forest
  pub steps : string_bytes rows.steps ≡ step_rows (str_flat (with_trivia lexed.tokens forest))
  pub messages : string_bytes rows.messages ≡ all_message_rows lexed forest

-- The parts that are the same for all files, the file's name, and the items of its text; no byte of its data is `<`.
pub record IsPage (frame : Frame) (file text : List ℕ) (edition : Edition) (entry : TopEntryPoint) (page : Page)
    : Type 0 where
  pub frame_is : page.frame ≡ frame
  pub name : string_bytes page.name ≡ json_text (chars file)
  pub rows : AreRows text edition entry page.rows
  pub inert : IsInert (data_of page)

-- the page, or a fault in its place
abbrev pub Makes : Frame → List ℕ → List ℕ → Edition → TopEntryPoint → Result Page Fault → Type 0
Makes frame file text edition entry made =
    IsMade (IsPage frame file text edition entry) (Comes {R = Memory} text edition) fault_of made
