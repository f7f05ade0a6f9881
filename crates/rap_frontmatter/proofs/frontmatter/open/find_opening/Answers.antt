use Rattle.std.proofs.Common.{List, ℕ, ◌+◌, drop, IsCharBoundary, sym, ap, subst, ◌∙◌}
use Rattle.rap_frontmatter.specs.ScriptPlaces.{HasDashes, HasOpening}
use Rattle.rap_frontmatter.proofs.ScriptBorders.{shebang_border, found_opening}
use Rattle.rap_frontmatter.proofs.frontmatter.open.find_opening.Goals as goal

pub range_from-requires : goal.range_from-requires
range_from-requires c =
    λ _. subst (λ (k : ℕ). IsCharBoundary c.args.text.now k) (sym c.unwrap_or-below.ensures) (shebang_border _ _ c.utf8.text c.strip_shebang-shebang.ensures)

pub returns : goal.returns
returns c =
    let text = c.args.text.now in
    let d = c.find_dashes-dashes in
    let below = c.range_from.ensures.value ∙ ap (λ k. drop k text) c.unwrap_or-below.ensures in
    let has_dashes = subst (λ (l : List ℕ). HasDashes l d.result.start d.result.len) below d.ensures in
    let end = c.strip_shebang-shebang.result in
    subst (λ (k : ℕ). HasOpening text end (k + d.result.start) d.result.len) (sym c.unwrap_or-below.ensures) (found_opening text end d.result.start d.result.len c.utf8.text c.strip_shebang-shebang.ensures has_dashes)
