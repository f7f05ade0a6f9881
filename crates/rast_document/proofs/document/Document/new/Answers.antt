use Rattle.std.proofs.Common.{ℕ, List, ap, ◌∙◌, length, get_or, arith}
use Rattle.rast_document.proofs.LineLemmas.{starts_first, starts_some}
use Rattle.rast_document.proofs.document.Document.new.Goals as goal

pub rows_of-requires-clause-some : goal.rows_of-requires-clause-some
rows_of-requires-clause-some c =
    let s = c.as_bytes.result.now in
    omega (arith, ap length (c.as_slice.ensures.value ∙ c.in_ok-starts.ensures), starts_some s (length s))

pub rows_of-requires-clause-first : goal.rows_of-requires-clause-first
rows_of-requires-clause-first c =
    let s = c.as_bytes.result.now in
    ap {B = ℕ} (λ (xs : List ℕ). get_or xs 0 0) (c.as_slice.ensures.value ∙ c.in_ok-starts.ensures) ∙ starts_first s (length s)
