-- The data of a page are inert.
use Rattle.std.proofs.Common.{◌≡◌, ℕ, List, subst, sym}
use Rattle.std.specs.Prelude.{chars, string_bytes}
use Rattle.rap_base.specs.declared.edition.Edition.{Edition}
use Rattle.rap_lexed.specs.StrForest.{str_flat}
use Rattle.ra_ap_parser.specs.declared.entry_point.TopEntryPoint.{TopEntryPoint}
use Rattle.rap_lexed.specs.Trivia.{with_trivia}
use Rattle.rast_page.specs.Json.{json_text}
use Rattle.rast_page.specs.Page.{object}
use Rattle.rast_page.specs.Ran.{AreRows, all_message_rows}
use Rattle.rast_page.specs.Rows.{step_rows}
use Rattle.rast_page.specs.Inert.{IsInert}
use Rattle.rast_page.proofs.Inert.{text_inert, steps_inert, messages_inert, object_inert}
use Rattle.rast_page.specs.declared.rows.Rows.{Rows}

pub inert_page : (file text : List ℕ) (edition : Edition) (entry : TopEntryPoint) (name : List ℕ) (rows : Rows)
    → name ≡ json_text (chars file) → AreRows text edition entry rows
    → IsInert (object name (string_bytes rows.steps) (string_bytes rows.messages))
inert_page file text edition entry name rows named are =
    let steps = str_flat (with_trivia are.lexed.tokens are.forest) in
    let P : List ℕ → Type 0 = λ t. IsInert (object t (string_bytes rows.steps) (string_bytes rows.messages)) in
    let Q : List ℕ → Type 0 = λ t. IsInert (object (json_text (chars file)) t (string_bytes rows.messages)) in
    let R : List ℕ → Type 0 = λ t. IsInert (object (json_text (chars file)) (step_rows steps) t) in
    let all : IsInert (object (json_text (chars file)) (step_rows steps) (all_message_rows are.lexed are.forest)) =
    object_inert (json_text (chars file)) (step_rows steps) _
    (text_inert (chars file)) (steps_inert steps) (messages_inert steps are.lexed.tokens are.lexed.errors) in
    subst P (sym named) (subst Q (sym are.steps) (subst R (sym are.messages) all))
