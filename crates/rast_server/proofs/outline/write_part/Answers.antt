use Rattle.std.proofs.Common.{string_bytes}
use Rattle.rast_server.proofs.SymbolLens.{part_len}
use Rattle.rast_server.proofs.outline.write_part.Goals as goal

pub returns : goal.returns
returns c =
    part_len c.open_symbol.result c.args.document.now c.args.symbol.now c.text_at.result.now (string_bytes c.clear.new.self) (string_bytes c.push_comma.new.json)
    (string_bytes c.open_symbol.new.json) c.args.is_first.now c.text_at.ensures c.clear.ensures.bytes c.in_ok-push_comma.ensures.comma c.open_symbol.ensures
