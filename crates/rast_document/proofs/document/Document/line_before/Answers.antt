use Rattle.std.proofs.Common.{◌≡◌, ℕ, string_bytes, inl, inr, ap, length, arith}
use Rattle.std.proofs.lemmas.Bool.{cases_lt}
use Rattle.rast_document.specs.Lines.{line_start}
use Rattle.rast_document.proofs.LineLemmas.{starts_rise, starts_some}
use Rattle.rast_document.proofs.document.Document.line_before.Goals as goal

pub returns-then-offset-eq0-clause-some : goal.returns-then-offset-eq0-clause-some
returns-then-offset-eq0-clause-some c = let s = string_bytes c.args.self.now.text in starts_some s (length s)

pub returns-clause-before : goal.returns-clause-before
returns-clause-before c =
    let s = string_bytes c.args.self.now.text in
    let on = c.line_of.ensures in
    elim (cases_lt c.min.result c.line_of.result) [
      | inl less ↦ inr (omega (arith, on.from, c.if-offset-eq0.false, starts_rise s (length s) c.min.result c.line_of.result less on.some))
      | inr x ↦
          let same : c.min.result ≡ c.line_of.result = omega (arith, c.min.ensures) in
          inr (omega (arith, on.from, c.if-offset-eq0.false, ap {B = ℕ} (line_start s) same))
    ]
