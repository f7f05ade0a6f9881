-- How long the symbols of a document are as JSON.
use Rattle.std.specs.Prelude.{ℕ, ◌+◌, List, ◌++◌, codes, length, slice_range, string_bytes}
use Rattle.std.specs.Fmt.{decimal}
use Rattle.std.specs.List.{sum_by}
use Rattle.flat_tree.specs.declared.element.Element.{Element}
use Rattle.rast_answers.specs.SymbolTable.{symbol_number}
use Rattle.rast_answers.specs.Symbols.{symbols_of}
use Rattle.rast_answers.specs.declared.symbols.Symbol.{Symbol}
use Rattle.rast_document.specs.declared.document.Document.{Document}
use Rattle.rast_messages.specs.Replies.{string_text}
use Rattle.rast_server.specs.SelectionText.{extent_text}

-- a symbol with this name, up to the symbols inside it
unfoldable pub opened_text : Document → Symbol → List ℕ → List ℕ
opened_text d x name =
    codes "{\"name\":" ++ string_text name ++ codes ",\"kind\":" ++ decimal (symbol_number x.kind) ++ codes ",\"range\":" ++ extent_text d x.extent
    ++ codes ",\"selectionRange\":" ++ extent_text d x.name ++ codes ",\"children\":["

-- what a symbol takes: with its name, a comma before it and the two brackets that close it
abbrev pub symbol_len : Document → Symbol → ℕ
symbol_len d x = length (opened_text d x (slice_range (string_bytes d.text) x.name.start x.name.end)) + 3

-- what all symbols take, with the brackets around them: as long as this the answer is at most
abbrev pub symbols_len : Document → List Element → ℕ
symbols_len d es = sum_by (symbol_len d) (symbols_of es) + 2
