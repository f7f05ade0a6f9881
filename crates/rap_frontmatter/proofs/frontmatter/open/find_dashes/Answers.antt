use Rattle.std.proofs.Common.{ℕ, eqb, drop, sym, ap, subst, ◌∙◌, arith}
use Rattle.std.specs.List.{prefix_len}
use Rattle.std.proofs.lemmas.List.{take_rest}
use Rattle.rap_frontmatter.specs.ScriptPlaces.{HasDashes}
use Rattle.rap_frontmatter.proofs.ScriptBorders.{blank_border, found_dashes}
use Rattle.rap_frontmatter.proofs.frontmatter.open.find_dashes.Goals as goal

pub slice_bounds-count_dashes-count : goal.slice_bounds-count_dashes-count
slice_bounds-count_dashes-count c = omega (arith, c.unwrap_or-start.ensures, c.as_bytes.ensures.len, (blank_border _ _ c.utf8.text c.strip_ws_lines.ensures).0)

pub slice_bounds-count_dashes-start : goal.slice_bounds-count_dashes-start
slice_bounds-count_dashes-start c = omega (arith, c.unwrap_or-start.ensures, c.as_bytes.ensures.len, (blank_border _ _ c.utf8.text c.strip_ws_lines.ensures).0)

pub returns : goal.returns
returns c =
    let start = c.unwrap_or-start.result in
    let n = c.count_dashes-len.result in
    let below = take_rest c.as_bytes.result.now start ∙ (ap (λ l. drop start l) c.as_bytes.ensures.value ∙ ap (λ k. drop k c.args.text.now) c.unwrap_or-start.ensures) in
    let e = c.count_dashes-len.ensures ∙ ap (λ l. prefix_len (λ (b : ℕ). eqb b 45) l) below in
    subst (λ (k : ℕ). HasDashes c.args.text.now k n) (sym c.unwrap_or-start.ensures) (found_dashes c.args.text.now c.strip_ws_lines.result n c.utf8.text c.strip_ws_lines.ensures e)
