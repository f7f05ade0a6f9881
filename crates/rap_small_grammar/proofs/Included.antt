-- Each derivation of the core grammar is one of the table, with the same tree.
use Rattle.std.proofs.Common.{◌≡◌, ℕ, true, List, [], ◌∷◌, ◌++◌, refl, sym, subst}
use Rattle.rap_events.specs.Forest.{Forest, none, node}
use Rattle.rap_events.specs.Record.{Record}
use Rattle.rap_small_grammar.specs.Derives.{Category, Maybe, Many, Elements, Expression, Binary, Unary, Postfix, Arguments, Atom, Path, Segment, Reference, Ty, Name, Bind, Visibility, Annotation, Value, Statement, Contents, Block, WithBlock, If, Else, Item, Items, Fields, Field, Tuple, TupleField, Params, Param, Return, File, Derives, IsOperator, starts_with_block, maybe_none, maybe_some, many_none, many_more, element_last, element_comma, element_more, reference, segment, path_one, path_more, atom_literal, atom_path, atom_paren, atom_block, postfix_atom, postfix_call, postfix_index, postfix_try, postfix_field, postfix_number, postfix_method, argument_list, unary_prefix, unary_ref, unary_ref_mut, unary_postfix, binary_unary, binary_tighter, binary_operator, expression_binary, expression_assign, type_path, type_ref, type_ref_mut, type_slice, name_given, bind_name, visibility_pub, annotation_type, value_given, statement_let, statement_expression, statement_block, contents_none, contents_value, contents_block, contents_statement, contents_block_before, block_of, with_block, with_if, with_while, with_loop, if_of, else_block, else_if, item_module, item_module_of, item_struct, item_struct_fields, item_struct_tuple, item_function, items_of, fields_of, field_named, tuple_of, tuple_field, params_of, param_typed, return_type, file_of}
use Rattle.rap_small_grammar.proofs.Begins.{First, first, Single, single, settled_binary, block_starts}
use Rattle.rap_small_grammar.proofs.IncludedExpressions as expressions
use Rattle.rap_small_grammar.proofs.IncludedExpressions.{BinarySo, ExpressionSo}
use Rattle.rap_small_grammar.proofs.IncludedItems as items
use Rattle.rap_small_grammar.proofs.IncludedItems.{FieldsSo, ItemsSo, ParamSo, ReturnSo, TupleFieldSo, TupleSo}
use Rattle.rap_small_grammar.proofs.IncludedLists.{Optional, missing, there, AnyNumber, no_more, and_more, WithCommas, last_one, comma_behind, comma_and, any_number}
use Rattle.rap_small_grammar.proofs.IncludedOperands as operands
use Rattle.rap_small_grammar.proofs.IncludedOperands.{AtomSo, PostfixOf, by_atom, by_block, UnarySo}
use Rattle.rap_small_grammar.proofs.IncludedOperators.{Written}
use Rattle.rap_small_grammar.proofs.IncludedStatements as statements
use Rattle.rap_small_grammar.proofs.IncludedStatements.{AnnotationSo, BlockSo, ContentsSo, ElseSo, IfSo, ValueSo, WithBlockSo}
use Rattle.rap_small_grammar.proofs.IncludedTypes as types
use Rattle.rap_small_grammar.proofs.IncludedTypes.{TypeSo}
use Rattle.rap_grammar_table.specs.Category as categories
use Rattle.rap_grammar_table.specs.Tops.{Makes}

-- an operand that is one alone, or a block, a condition or a loop
pub data AtomOf (ks : List Record) (t : Forest) : Type 0 where
  plain : AtomSo ks t → AtomOf ks t
  with_blocks : ((l : List Record) → starts_with_block (ks ++ l) ≡ true) → WithBlockSo ks t → AtomOf ks t

-- what is shown of each category
abbrev pub Included : Category → List Record → Forest → Type 0
Included (Maybe c) ks t = Optional (Included c) ks t
Included (Many c) ks t = AnyNumber (Included c) ks t
Included (Elements c) ks t = WithCommas (Included c) ks t
Included Expression ks t = ExpressionSo ks t
Included (Binary p) ks t = BinarySo p ks t
Included Unary ks t = UnarySo ks t
Included Postfix ks t = PostfixOf ks t
Included Arguments ks t = Makes categories.ArgList ks t
Included Atom ks t = AtomOf ks t
Included Path ks t = Derives Path ks t
Included Segment ks t = Derives Segment ks t
Included Reference ks t = Derives Reference ks t
Included Ty ks t = TypeSo ks t
Included Name ks t = Derives Name ks t
Included Bind ks t = Derives Bind ks t
Included Visibility ks t = Derives Visibility ks t
Included Annotation ks t = AnnotationSo ks t
Included Value ks t = ValueSo ks t
Included Statement ks t = Makes categories.Stmt ks t
Included Contents ks t = ContentsSo ks t
Included Block ks t = BlockSo ks t
Included WithBlock ks t = WithBlockSo ks t
Included If ks t = IfSo ks t
Included Else ks t = ElseSo ks t
Included Item ks t = Makes categories.Item ks t
Included Items ks t = ItemsSo ks t
Included Fields ks t = FieldsSo ks t
Included Field ks t = Makes categories.RecordField ks t
Included Tuple ks t = TupleSo ks t
Included TupleField ks t = TupleFieldSo ks t
Included Params ks t = Makes categories.FnParams ks t
Included Param ks t = ParamSo ks t
Included Return ks t = ReturnSo ks t
Included File ks t = Derives File ks t

each_of : {ks : List Record} {t : Forest} → WithCommas ExpressionSo ks t → WithCommas (Makes categories.Expr) ks t
each_of (last_one d) = last_one d.any
each_of (comma_behind d o) = comma_behind d.any o
each_of (comma_and d o w) = comma_and d.any o (each_of w)

expressions_of : {ks : List Record} {t : Forest} → Optional (WithCommas ExpressionSo) ks t →
    Optional (WithCommas (Makes categories.Expr)) ks t
expressions_of missing = missing
expressions_of (there w) = there (each_of w)

-- the operator before its right operand
written_binary : {p op q : ℕ} {os js : List Record} → IsOperator os op p js → First (Binary q) js → Written op os js
written_binary o f = record { writes = o.writes; apart = o.apart; starts = rw f.is f.kind }

written_assign : {p op : ℕ} {os js : List Record} → IsOperator os op p js → First Expression js → Written op os js
written_assign o f = record { writes = o.writes; apart = o.apart; starts = rw f.is f.kind }

atom_postfix : {ks : List Record} (kind : ℕ) (children : Forest) → AtomOf ks (node none kind children) →
    PostfixOf ks (node none kind children)
atom_postfix kind children (plain d) = by_atom (operands.alone d.free) (operands.alone d.forbidden)
atom_postfix kind children (with_blocks s d) = by_block s (operands.alone d.any)

atom_of : {ks : List Record} {t : Forest} → Single t → AtomOf ks t → PostfixOf ks t
atom_of {ks = ks} s d =
    subst (λ (y : Forest). PostfixOf ks y) (sym s.is)
    (atom_postfix s.kind s.children (subst (λ (y : Forest). AtomOf ks y) s.is d))

pub included : {c : Category} {ks : List Record} {t : Forest} → Derives c ks t → Included c ks t
included maybe_none = missing
included (maybe_some d) = there (included d)
included many_none = no_more
included (many_more d e) = and_more (included d) (included e)
included (element_last d) = last_one (included d)
included (element_comma d o) = comma_behind (included d) o
included (element_more d o e) = comma_and (included d) o (included e)
included (reference n) = reference n
included (segment d) = segment d
included (path_one d) = path_one d
included (path_more d w e) = path_more d w e
included (atom_literal h) = plain (operands.literal_atom h)
included (atom_path d) = plain (operands.path_atom d)
included (atom_paren o d e) = plain (operands.paren_atom o (included d).any e)
included (atom_block d) = with_blocks (λ l. block_starts l (first d refl)) (included d)
included (postfix_atom d) = atom_of (single d refl) (included d)
included (postfix_call {js = js} d n e) =
    operands.more_of js _ (λ h p. operands.call_more p n (included e)) (included d)
included (postfix_index {a = a} {b = b} {js = js} d o e x) =
    operands.more_of (a ∷ (js ++ b ∷ [])) _ (λ h p. operands.index_more p o (included e).any x) (included d)
included (postfix_try {a = a} d o) = operands.more_of (a ∷ []) _ (λ h p. operands.try_more p o) (included d)
included (postfix_field {a = a} {js = js} d o e) =
    operands.more_of (a ∷ js) _ (λ h p. operands.field_more p o e) (included d)
included (postfix_number {a = a} {b = b} d o n) =
    operands.more_of (a ∷ b ∷ []) _ (λ h p. operands.number_more p o n) (included d)
included (postfix_method {a = a} {js = js} {is = is} d o e g) =
    operands.more_of (a ∷ (js ++ is)) _ (λ h p. operands.method_more p o e (included g)) (included d)
included (argument_list o d e) = operands.arguments o (expressions_of (included d)) e
included (unary_prefix h d) = operands.prefix_operand h (included d)
included (unary_ref o d) = operands.ref_operand o (included d)
included (unary_ref_mut o m d) = operands.ref_mut_operand o m (included d)
included (unary_postfix d) = operands.postfix_operand (included d)
included (binary_unary d) = expressions.unary_binary (single d refl) (included d)
included (binary_tighter h i d) = expressions.tighter_binary (included d)
included (binary_operator {os = os} {js = js} h i d o e) =
    expressions.operator_binary h i o.power_is (included d) (written_binary o (first e refl)) (included e)
    (settled_binary d (os ++ js))
included (expression_binary d) = expressions.binary_expression (included d)
included (expression_assign {os = os} {js = js} d o e) =
    expressions.assign_expression o.power_is (included d) (written_assign o (first e refl)) (included e)
    (settled_binary d (os ++ js))
included (type_path d) = types.path_type d
included (type_ref o d) = types.ref_type o (included d)
included (type_ref_mut o m d) = types.ref_mut_type o m (included d)
included (type_slice o d e) = types.slice_type o (included d) e
included (name_given n) = name_given n
included (bind_name d) = bind_name d
included (visibility_pub o) = visibility_pub o
included (annotation_type o d) = statements.annotated o (included d) (first d refl)
included (value_given o d) = statements.valued o (included d).any
included (statement_let o d e g s) = statements.let_statement o d (included e) (included g) s
included (statement_expression d p o) = statements.expression_statement ((included d).stmt p.starts) o
included (statement_block d o) = statements.block_statement (included d).ending o
included contents_none = statements.empty
included (contents_value d p) = statements.value_contents ((included d).stmt p.starts)
included (contents_block d) = statements.block_contents (included d).ending
included (contents_statement d e) = statements.statement_before (included d) (included e)
included (contents_block_before d e n) = statements.block_before (included d).ending (included e) n
included (block_of o d e) = statements.block_of o (included d) e
included (with_block d) = statements.block_alone (included d)
included (with_if d) = statements.if_alone (included d)
included (with_while o d e) = statements.while_of o (included d).condition (included e)
included (with_loop o d) = statements.loop_of o (included d)
included (if_of o d e g) = statements.if_of o (included d).condition (included e) (included g)
included (else_block o d) = statements.else_block o (included d)
included (else_if o d) = statements.else_if o (statements.if_made (included d))
included (item_module v o d e) = items.module_item v o d e
included (item_module_of v o d e) = items.module_of v o d (included e)
included (item_struct v o d e) = items.struct_item v o d e
included (item_struct_fields v o d e) = items.struct_fields v o d (included e)
included (item_struct_tuple v o d e s) = items.struct_tuple v o d (included e) s
included (item_function v o d p m b) =
    items.function_item v o d (included p) (included m) (statements.block_made (included b))
included (items_of o d e) = items.items_in o (any_number (included d)) e
included (fields_of o d e) = items.fields o (included d) e
included (field_named v d o e) = items.field v d o (included e)
included (tuple_of o d e) = items.tuple o (included d) e
included (tuple_field d) = items.tuple_field_in (included d)
included (params_of o d e) = items.params o (included d) e
included (param_typed d o e) = items.param_in d o (included e) (first e refl)
included (return_type w d) = items.return_in w (included d)
included (file_of d) = file_of d
