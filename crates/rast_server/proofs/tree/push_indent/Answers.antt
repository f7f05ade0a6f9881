use Rattle.std.proofs.Common.{◌≡◌, ◌*◌, ◌/◌, ◌%◌, ◌++◌, ap, arith, string_bytes, ◌∙◌}
use Rattle.rast_common.specs.Indented.{indent}
use Rattle.rast_server.proofs.TreeLines.{indent_rest}
use Rattle.rast_server.proofs.tree.push_indent.Goals as goal

pub returns : goal.returns
returns c =
    let start = string_bytes c.args.json.now in
    let all : c.eights._eight ≡ c.args.levels / 8 = omega arith in
    let eights : string_bytes c.eights.json ≡ start ++ indent (8 * (c.args.levels / 8)) = c.eights.invariant ∙ ap (λ n. start ++ indent (8 * n)) all in
    c.in_ok-push_str-2.ensures.bytes ∙ ap (λ l. string_bytes c.eights.json ++ l) c.few_levels.ensures ∙ ap (λ l. l ++ indent (c.args.levels % 8)) eights ∙ indent_rest start c.args.levels
