use Rattle.std.proofs.Common.{◌++◌, ap, codes, string_bytes, ◌∙◌}
use Rattle.std.specs.Fmt.{decimal}
use Rattle.rast_answers.specs.SymbolTable.{symbol_number}
use Rattle.rast_messages.specs.Replies.{string_text}
use Rattle.rast_server.specs.SelectionText.{extent_text}
use Rattle.rast_server.specs.SymbolLengths.{opened_text}
use Rattle.rast_server.proofs.SymbolLens.{nine_parts}
use Rattle.rast_server.proofs.outline.open_symbol.Goals as goal

pub returns : goal.returns
unfolding opened_text
returns c =
    let x = c.args.symbol.now in
    nine_parts (string_bytes c.args.json.now) (codes "{\"name\":") (string_text c.args.name.now) (codes ",\"kind\":") (decimal (symbol_number x.kind)) (codes ",\"range\":")
    (extent_text c.args.document.now x.extent) (codes ",\"selectionRange\":") (extent_text c.args.document.now x.name) (codes ",\"children\":[")
    (string_bytes c.push_str.new.self) (string_bytes c.push_string.new.json) (string_bytes c.push_str-2.new.self) (string_bytes c.push_number.new.json)
    (string_bytes c.push_str-3.new.self) (string_bytes c.push_range.new.json) (string_bytes c.push_str-4.new.self) (string_bytes c.push_range-2.new.json)
    (string_bytes c.push_str-5.new.self) c.in_ok-push_str.ensures.bytes c.in_ok-push_string.ensures c.in_ok-push_str-2.ensures.bytes
    (c.in_ok-push_number.ensures ∙ ap (λ n. string_bytes c.push_str-2.new.self ++ decimal n) c.number-kind.ensures) c.in_ok-push_str-3.ensures.bytes
    c.in_ok-push_range.ensures c.in_ok-push_str-4.ensures.bytes c.in_ok-push_range-2.ensures c.in_ok-push_str-5.ensures.bytes
