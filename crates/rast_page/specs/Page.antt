-- The whole page.
use Rattle.std.specs.Prelude.{◌==◌, if◌then◌else◌, ℕ, List, ◌++◌, codes, string_bytes, string_len}
use Rattle.rast_common.specs.Shown.{Shown}
use Rattle.rast_page.specs.declared.run.Frame.{Frame}
use Rattle.rast_page.specs.declared.run.Page.{Page}

-- an object of the file's name, the tree's steps and the messages, both lists after a zero that nothing reads
abbrev pub object : List ℕ → List ℕ → List ℕ → List ℕ
object name steps messages =
    (codes "{\"file\":" ++ name)
    ++ ((codes ",\"steps\":[0" ++ steps)
    ++ ((codes "],\"messages\":[0" ++ messages)
    ++ codes "]}"))

-- the data of a page
abbrev pub data_of : Page → List ℕ
data_of page = object (string_bytes page.name) (string_bytes page.rows.steps) (string_bytes page.rows.messages)

-- the data between the parts that are the same for all files
abbrev pub framed : Frame → List ℕ → List ℕ
framed frame json = frame.head.now ++ (json ++ frame.tail.now)

-- what is shown of a page: its bytes, and the status 0 if there is no message, else 1
abbrev pub shown_of : Page → Shown
shown_of page = record {
  bytes = framed page.frame (data_of page);
  status = if string_len page.rows.messages == 0 then 0 else 1;
}
