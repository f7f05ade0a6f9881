-- The categories of the core grammar.
use Rattle.std.specs.Prelude.{Bool}

-- How tightly the operators between two operands bind, the loosest first: `||`; `&&`; comparisons; `|`; `^`; `&`; shifts;
-- `+` and `-`; `*`, `/` and `%`.
pub data Level : Type 0 where
  Or : Level
  And : Level
  Comparison : Level
  BitOr : Level
  BitXor : Level
  BitAnd : Level
  Shift : Level
  Sum : Level
  Product : Level

pub data Category : Type 0 where
  -- A type; one without bounds after it; one before a `+`; the trait after the `as` of a path; a type that begins with no
  -- name.
  Ty : Category
  PlainTy : Category
  TyBeforePlus : Category
  AnchorTrait : Category
  SymbolTy : Category
  -- A path in a type; one before a `+`; one that begins with no `Self`, before a `+`; one that begins with `::`, and one
  -- that begins with a type; the arguments of a segment, and one of them.
  Path : Category
  PathBeforePlus : Category
  UsePath : Category
  GlobalPath : Category
  AnchoredPath : Category
  Args : Category
  Argument : Category
  -- A bound, and bounds; a generic parameter, and all of them; a predicate, and the `where` that has it.
  Bound : Category
  Bounds : Category
  GenericParam : Category
  Generics : Category
  Predicate : Category
  Where : Category
  -- The name of a parameter of a function pointer, and its parameters; a pattern, an expression, a statement, a block.
  ParamName : Category
  FnPointerParams : Category
  Pattern : Category
  Expr : Category
  Stmt : Category
  Block : Category
  -- A visibility; a field of a struct; a variant of an enum; the parameters of a function; an item.
  Visibility : Category
  RecordField : Category
  Variant : Category
  FnParams : Category
  Item : Category
  -- Tokens in brackets; an attribute, what stands in its brackets, and a condition there; the path of a macro.
  TokenTree : Category
  Attr : Category
  Meta : Category
  Cfg : Category
  MacroPath : Category
  -- A path in an expression; a path before a `for`, and the trait that it is; a tree of a `use`; an attribute of what it
  -- stands in.
  ExprPath : Category
  SimplePath : Category
  TraitRef : Category
  UseTree : Category
  InnerAttr : Category
  -- A pattern without alternatives; the path of one; `..` in the place of one; the pattern of a parameter.
  SinglePattern : Category
  PatternPath : Category
  RestPattern : Category
  ParamPattern : Category
  -- What stands in expressions: a path; tokens in `(` or `[`, and in `{`; the arguments of a call; a name as a field of a
  -- record; the type of a cast, and a path as one.
  AtomPath : Category
  RoundTree : Category
  BraceTree : Category
  ArgList : Category
  NameExpr : Category
  CastTy : Category
  CastPath : Category
  -- The statements of a block in their braces; an `if`; a block, a condition, a loop or a `match`; an arm of a `match`,
  -- and the last one without its comma.
  StmtList : Category
  If : Category
  WithBlock : Category
  Arm : Category
  LastArm : Category
  -- An expression without an operator and without what follows it directly; with that, or with an operator before it; the
  -- same after an operator before it. A `true` says that no record literal may stand in it.
  Atom : Bool → Category
  Operand : Bool → Category
  Prefixed : Bool → Category
  -- The same at the beginning of a statement.
  StmtOperand : Category
  StmtPrefixed : Category
  -- A jump or a closure, which takes in what follows; the same after operators before it.
  OpenAtom : Category
  OpenPrefixed : Category
  -- The condition of an `if` or a loop, or what a `match` is of; the guard of an arm; the end of a range; what is assigned
  -- in a condition.
  Condition : Category
  Guard : Category
  RangeEnd : Bool → Category
  Assigned : Category
  -- An expression that a statement may begin with, and one that ends a statement with its block; a statement that is one
  -- without a semicolon; the value of a block.
  StmtExpr : Category
  StmtBlock : Category
  BlockStmt : Category
  Tail : Category
  -- What stands at the right of an operator of a level, of tighter operators; the same where a cast may stand at its end;
  -- at the right of `||` and of `&&`, where a jump or a closure may.
  Closed : Bool → Level → Category
  WithCast : Bool → Level → Category
  OpenOr : Category
  OpenAnd : Category
  -- What has a block, at the beginning of a statement, which it ends; a semicolon alone; the value at the end of a macro's
  -- statements.
  EndingBlock : Category
  EmptyStmt : Category
  MacroTail : Category
  -- A value before an `else`, which does not end with a `}`: what it begins with, the value, and an operand in it.
  PlainAtom : Category
  ElseValue : Category
  ElsePrefixed : Category
  -- What is parsed again from its own braces, beside blocks and token trees: the fields of a struct, the variants of an
  -- enum, the trees of a `use`, items under each of three kinds, the fields of a record, the arms of a `match`.
  RecordFields : Category
  Variants : Category
  UseTrees : Category
  ItemList : Category
  AssocItems : Category
  ExternItems : Category
  RecordValues : Category
  MatchArms : Category
  -- A statement without a semicolon at the front of an input, before a semicolon or a comma, and before an end; a field of
  -- a record with its value.
  FrontStmt : Category
  LastStmt : Category
  RecordValue : Category
  -- An expression with attributes before it; the type of a cast behind which nothing comes.
  AttrExpr : Category
  LastCastTy : Category
  -- A name for the rest of a slice, with a `..` behind it.
  NamedRest : Category
  -- A `let` behind an operator in a condition.
  Let : Bool → Category
