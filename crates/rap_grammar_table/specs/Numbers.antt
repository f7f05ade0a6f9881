-- Written by crates/rap_grammar_rows/rows from Category.antt: an edit here is lost.
-- The categories in a row, and the place of each.
use Rattle.std.specs.Prelude.{ℕ, zero, suc, false, true, List, [], ◌∷◌, Option, Some, None}
use Rattle.rap_grammar_table.specs.Category.{Category, Ty, PlainTy, TyBeforePlus, AnchorTrait, SymbolTy, Path, PathBeforePlus, UsePath, GlobalPath, AnchoredPath, Args, Argument, Bound, Bounds, GenericParam, Generics, Predicate, Where, ParamName, FnPointerParams, Pattern, Expr, Stmt, Block, Visibility, RecordField, Variant, FnParams, Item, TokenTree, Attr, Meta, Cfg, MacroPath, ExprPath, SimplePath, TraitRef, UseTree, InnerAttr, SinglePattern, PatternPath, RestPattern, ParamPattern, AtomPath, RoundTree, BraceTree, ArgList, NameExpr, CastTy, CastPath, StmtList, If, WithBlock, Arm, LastArm, Atom, Operand, Prefixed, StmtOperand, StmtPrefixed, OpenAtom, OpenPrefixed, Condition, Guard, RangeEnd, Assigned, StmtExpr, StmtBlock, BlockStmt, Tail, Closed, Or, And, Comparison, BitOr, BitXor, BitAnd, Shift, Sum, Product, WithCast, OpenOr, OpenAnd, EndingBlock, EmptyStmt, MacroTail, PlainAtom, ElseValue, ElsePrefixed, RecordFields, Variants, UseTrees, ItemList, AssocItems, ExternItems, RecordValues, MatchArms, FrontStmt, LastStmt, RecordValue, AttrExpr, LastCastTy, NamedRest, Let}

abbrev pub categories : List Category
categories =
    Ty ∷ PlainTy ∷ TyBeforePlus ∷ AnchorTrait ∷ SymbolTy ∷ Path ∷ PathBeforePlus ∷ UsePath ∷ GlobalPath ∷
    AnchoredPath ∷ Args ∷ Argument ∷ Bound ∷ Bounds ∷ GenericParam ∷ Generics ∷ Predicate ∷ Where ∷ ParamName ∷
    FnPointerParams ∷ Pattern ∷ Expr ∷ Stmt ∷ Block ∷ Visibility ∷ RecordField ∷ Variant ∷ FnParams ∷ Item ∷
    TokenTree ∷ Attr ∷ Meta ∷ Cfg ∷ MacroPath ∷ ExprPath ∷ SimplePath ∷ TraitRef ∷ UseTree ∷ InnerAttr ∷
    SinglePattern ∷ PatternPath ∷ RestPattern ∷ ParamPattern ∷ AtomPath ∷ RoundTree ∷ BraceTree ∷ ArgList ∷ NameExpr ∷
    CastTy ∷ CastPath ∷ StmtList ∷ If ∷ WithBlock ∷ Arm ∷ LastArm ∷ (Atom false) ∷ (Atom true) ∷ (Operand false) ∷
    (Operand true) ∷ (Prefixed false) ∷ (Prefixed true) ∷ StmtOperand ∷ StmtPrefixed ∷ OpenAtom ∷ OpenPrefixed ∷
    Condition ∷ Guard ∷ (RangeEnd false) ∷ (RangeEnd true) ∷ Assigned ∷ StmtExpr ∷ StmtBlock ∷ BlockStmt ∷ Tail ∷
    (Closed false Or) ∷ (Closed false And) ∷ (Closed false Comparison) ∷ (Closed false BitOr) ∷
    (Closed false BitXor) ∷ (Closed false BitAnd) ∷ (Closed false Shift) ∷ (Closed false Sum) ∷
    (Closed false Product) ∷ (Closed true Or) ∷ (Closed true And) ∷ (Closed true Comparison) ∷ (Closed true BitOr) ∷
    (Closed true BitXor) ∷ (Closed true BitAnd) ∷ (Closed true Shift) ∷ (Closed true Sum) ∷ (Closed true Product) ∷
    (WithCast false Or) ∷ (WithCast false And) ∷ (WithCast false Comparison) ∷ (WithCast false BitOr) ∷
    (WithCast false BitXor) ∷ (WithCast false BitAnd) ∷ (WithCast false Shift) ∷ (WithCast false Sum) ∷
    (WithCast false Product) ∷ (WithCast true Or) ∷ (WithCast true And) ∷ (WithCast true Comparison) ∷
    (WithCast true BitOr) ∷ (WithCast true BitXor) ∷ (WithCast true BitAnd) ∷ (WithCast true Shift) ∷
    (WithCast true Sum) ∷ (WithCast true Product) ∷ OpenOr ∷ OpenAnd ∷ EndingBlock ∷ EmptyStmt ∷ MacroTail ∷
    PlainAtom ∷ ElseValue ∷ ElsePrefixed ∷ RecordFields ∷ Variants ∷ UseTrees ∷ ItemList ∷ AssocItems ∷ ExternItems ∷
    RecordValues ∷ MatchArms ∷ FrontStmt ∷ LastStmt ∷ RecordValue ∷ AttrExpr ∷ LastCastTy ∷ NamedRest ∷ (Let false) ∷
    (Let true) ∷ []

abbrev pub number : Category → ℕ
number Ty = 0
number PlainTy = 1
number TyBeforePlus = 2
number AnchorTrait = 3
number SymbolTy = 4
number Path = 5
number PathBeforePlus = 6
number UsePath = 7
number GlobalPath = 8
number AnchoredPath = 9
number Args = 10
number Argument = 11
number Bound = 12
number Bounds = 13
number GenericParam = 14
number Generics = 15
number Predicate = 16
number Where = 17
number ParamName = 18
number FnPointerParams = 19
number Pattern = 20
number Expr = 21
number Stmt = 22
number Block = 23
number Visibility = 24
number RecordField = 25
number Variant = 26
number FnParams = 27
number Item = 28
number TokenTree = 29
number Attr = 30
number Meta = 31
number Cfg = 32
number MacroPath = 33
number ExprPath = 34
number SimplePath = 35
number TraitRef = 36
number UseTree = 37
number InnerAttr = 38
number SinglePattern = 39
number PatternPath = 40
number RestPattern = 41
number ParamPattern = 42
number AtomPath = 43
number RoundTree = 44
number BraceTree = 45
number ArgList = 46
number NameExpr = 47
number CastTy = 48
number CastPath = 49
number StmtList = 50
number If = 51
number WithBlock = 52
number Arm = 53
number LastArm = 54
number (Atom false) = 55
number (Atom true) = 56
number (Operand false) = 57
number (Operand true) = 58
number (Prefixed false) = 59
number (Prefixed true) = 60
number StmtOperand = 61
number StmtPrefixed = 62
number OpenAtom = 63
number OpenPrefixed = 64
number Condition = 65
number Guard = 66
number (RangeEnd false) = 67
number (RangeEnd true) = 68
number Assigned = 69
number StmtExpr = 70
number StmtBlock = 71
number BlockStmt = 72
number Tail = 73
number (Closed false Or) = 74
number (Closed false And) = 75
number (Closed false Comparison) = 76
number (Closed false BitOr) = 77
number (Closed false BitXor) = 78
number (Closed false BitAnd) = 79
number (Closed false Shift) = 80
number (Closed false Sum) = 81
number (Closed false Product) = 82
number (Closed true Or) = 83
number (Closed true And) = 84
number (Closed true Comparison) = 85
number (Closed true BitOr) = 86
number (Closed true BitXor) = 87
number (Closed true BitAnd) = 88
number (Closed true Shift) = 89
number (Closed true Sum) = 90
number (Closed true Product) = 91
number (WithCast false Or) = 92
number (WithCast false And) = 93
number (WithCast false Comparison) = 94
number (WithCast false BitOr) = 95
number (WithCast false BitXor) = 96
number (WithCast false BitAnd) = 97
number (WithCast false Shift) = 98
number (WithCast false Sum) = 99
number (WithCast false Product) = 100
number (WithCast true Or) = 101
number (WithCast true And) = 102
number (WithCast true Comparison) = 103
number (WithCast true BitOr) = 104
number (WithCast true BitXor) = 105
number (WithCast true BitAnd) = 106
number (WithCast true Shift) = 107
number (WithCast true Sum) = 108
number (WithCast true Product) = 109
number OpenOr = 110
number OpenAnd = 111
number EndingBlock = 112
number EmptyStmt = 113
number MacroTail = 114
number PlainAtom = 115
number ElseValue = 116
number ElsePrefixed = 117
number RecordFields = 118
number Variants = 119
number UseTrees = 120
number ItemList = 121
number AssocItems = 122
number ExternItems = 123
number RecordValues = 124
number MatchArms = 125
number FrontStmt = 126
number LastStmt = 127
number RecordValue = 128
number AttrExpr = 129
number LastCastTy = 130
number NamedRest = 131
number (Let false) = 132
number (Let true) = 133

abbrev pub category_at : ℕ → List Category → Option Category
category_at n [] = None
category_at zero (c ∷ cs) = Some c
category_at (suc n) (c ∷ cs) = category_at n cs
