-- The table from nodes to kinds of symbols.
use Rattle.std.specs.Prelude.{ℕ, Bool, ◌||◌, ◌==◌, if◌then◌else◌, Option, Some, None}
use Rattle.rap_base.specs.NodeKind.{MODULE, FN, STRUCT, UNION, ENUM, VARIANT, RECORD_FIELD, TRAIT, IMPL, TYPE_ALIAS, CONST, STATIC, MACRO_RULES, MACRO_DEF, ASSOC_ITEM_LIST}
use Rattle.rast_answers.specs.declared.symbol_kind.SymbolKind.{SymbolKind}
use Rattle.rast_answers.specs.declared.symbol_kind.SymbolKind.TheVariants.{Module, Function, Method, Struct, Union, Enum, Variant, Field, Trait, Impl, TypeAlias, Constant, Static, Macro}

-- what a node declares, by its kind and that of the node around it
abbrev pub symbol_kind : ℕ → ℕ → Option SymbolKind
symbol_kind kind outer =
    if kind == MODULE then Some Module else
    if kind == FN then (if outer == ASSOC_ITEM_LIST then Some Method else Some Function) else
    if kind == STRUCT then Some Struct else
    if kind == UNION then Some Union else
    if kind == ENUM then Some Enum else
    if kind == VARIANT then Some Variant else
    if kind == RECORD_FIELD then Some Field else
    if kind == TRAIT then Some Trait else
    if kind == IMPL then Some Impl else
    if kind == TYPE_ALIAS then Some TypeAlias else
    if kind == CONST then Some Constant else
    if kind == STATIC then Some Static else
    if kind == MACRO_RULES || kind == MACRO_DEF then Some Macro else None

-- the protocol's number of the kind that comes closest
abbrev pub symbol_number : SymbolKind → ℕ
symbol_number Module = 2
symbol_number Function = 12
symbol_number Method = 6
symbol_number Struct = 23
symbol_number Union = 23
symbol_number Enum = 10
symbol_number Variant = 22
symbol_number Field = 8
symbol_number Trait = 11
symbol_number Impl = 19
symbol_number TypeAlias = 26
symbol_number Constant = 14
symbol_number Static = 14
symbol_number Macro = 12
