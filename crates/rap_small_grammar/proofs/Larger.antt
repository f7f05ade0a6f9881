-- What the smaller core grammar derives, the core grammar derives too, with the same tree.
use Rattle.std.proofs.Common.{◌≡◌, ℕ, List, [], ◌∷◌, ◌++◌, Bool, true, false, refl, ◌∙◌, append_assoc, append-nil, arith}
use Rattle.std.proofs.lemmas.Bool.Decides.{nat_tests}
use Rattle.rap_base.specs.TokenKind.{AMP, MUT_KW}
use Rattle.rap_events.specs.Record.{Record}
use Rattle.rap_events.specs.Forest.{Forest, ◌⧺◌}
use Rattle.rap_grammar_scripts.specs.First.{is_literal_first}
use Rattle.rap_grammar_scripts.proofs.Forests.{⧺-assoc}
use Rattle.rap_small_grammar.specs.Derives.{Category, Many, Expression, Binary, Unary, Postfix, Atom, Statement, Contents, Derives, begins_block, starts_with_block, contents_none, contents_value, contents_statement, maybe_none, maybe_some, many_none, many_more, element_last, element_comma, element_more, atom_literal, atom_path, atom_paren, postfix_atom, postfix_call, postfix_index, postfix_try, postfix_field, postfix_number, postfix_method, argument_list, unary_prefix, unary_ref, unary_ref_mut, unary_postfix, binary_unary, binary_tighter, binary_operator, expression_binary, expression_assign, value_given, statement_let, statement_expression, block_of, item_module, item_module_of, item_struct, item_struct_fields, item_struct_tuple, item_function, items_of, file_of}
use Rattle.rap_small_grammar.specs.WithoutBlocks.{Plain}
use Rattle.rap_small_grammar.specs.WithoutBlocks as small
use Rattle.rap_small_grammar.proofs.Begins.{atom_alone, literal_atom, literal_kind, path_named, past_prefix, past_is}
use Rattle.rap_grammar_ends.proofs.Ways.{none-⧺}

-- no expression of the smaller grammar begins with a block
is_expression : Category → Bool
is_expression Expression = true
is_expression (Binary p) = true
is_expression Unary = true
is_expression Postfix = true
is_expression Atom = true
is_expression c = false

no_block : (k : ℕ) → is_literal_first k ≡ true → begins_block k ≡ false
no_block k h = grind (arith, nat_tests)

starts : {c : Category} {ks : List Record} {t : Forest} → Plain c ks t → is_expression c ≡ true → (l : List Record) →
    starts_with_block (ks ++ l) ≡ false
unfolding is_expression
starts (small.atom_literal {r = r} h) e l =
    let k = literal_kind r h in rw (atom_alone r.kind (literal_atom r.kind k)) (no_block r.kind k)
starts (small.atom_path d) e l = let n = path_named d in rw (n.is, n.name.kind) refl
starts (small.atom_paren o d c) e l = rw o.kind_is refl
starts (small.postfix_atom d) e l = starts d refl l
starts (small.postfix_call {js = js} d n g) e l = rw append_assoc (starts d refl (js ++ l))
starts (small.postfix_index {a = a} {b = b} {js = js} d o g c) e l =
    rw append_assoc (starts d refl (a ∷ (js ++ b ∷ []) ++ l))
starts (small.postfix_try {a = a} d o) e l = rw append_assoc (starts d refl (a ∷ l))
starts (small.postfix_field {a = a} {js = js} d o g) e l = rw append_assoc (starts d refl (a ∷ (js ++ l)))
starts (small.postfix_number {a = a} {b = b} d o g) e l = rw append_assoc (starts d refl (a ∷ b ∷ l))
starts (small.postfix_method {a = a} {js = js} {is = is} d o g x) e l =
    rw append_assoc (starts d refl (a ∷ (js ++ is) ++ l))
starts (small.unary_prefix {a = a} {ks = ks} h d) e l = past_prefix a (ks ++ l) h ∙ starts d refl l
starts (small.unary_ref {a = a} {ks = ks} o d) e l = past_is a (ks ++ l) AMP o refl ∙ starts d refl l
starts (small.unary_ref_mut {a = a} {b = b} {ks = ks} o m d) e l =
    past_is a (b ∷ (ks ++ l)) AMP o refl ∙ past_is b (ks ++ l) MUT_KW m refl ∙ starts d refl l
starts (small.unary_postfix d) e l = starts d refl l
starts (small.binary_unary d) e l = starts d refl l
starts (small.binary_tighter h i d) e l = starts d refl l
starts (small.binary_operator {os = os} {js = js} h i d o g) e l = rw append_assoc (starts d refl ((os ++ js) ++ l))
starts (small.expression_binary d) e l = starts d refl l
starts (small.expression_assign {os = os} {js = js} d o g) e l = rw append_assoc (starts d refl ((os ++ js) ++ l))
starts d e l = absurd cc

starts_plainly : {ks : List Record} {t : Forest} → Plain Expression ks t → starts_with_block ks ≡ false
unfolding is_expression
starts_plainly d = rw append-nil at (starts d refl [])

-- statements before what stands in a block
contents_from : {ks js : List Record} {t u : Forest} → Derives (Many Statement) ks t → Derives Contents js u →
    Derives Contents (ks ++ js) (t ⧺ u)
contents_from {u = u} many_none e = rw none-⧺ e
contents_from {u = w} (many_more {t = t} {u = u} d g) e =
    rw (append_assoc, ⧺-assoc t u w) (contents_statement d (contents_from g e))

pub larger : {c : Category} {ks : List Record} {t : Forest} → Plain c ks t → Derives c ks t
larger small.maybe_none = maybe_none
larger (small.maybe_some d) = maybe_some (larger d)
larger small.many_none = many_none
larger (small.many_more d e) = many_more (larger d) (larger e)
larger (small.element_last d) = element_last (larger d)
larger (small.element_comma d o) = element_comma (larger d) o
larger (small.element_more d o e) = element_more (larger d) o (larger e)
larger (small.atom_literal h) = atom_literal h
larger (small.atom_path d) = atom_path d
larger (small.atom_paren o d c) = atom_paren o (larger d) c
larger (small.postfix_atom d) = postfix_atom (larger d)
larger (small.postfix_call d n e) = postfix_call (larger d) n (larger e)
larger (small.postfix_index d o e c) = postfix_index (larger d) o (larger e) c
larger (small.postfix_try d o) = postfix_try (larger d) o
larger (small.postfix_field d o e) = postfix_field (larger d) o e
larger (small.postfix_number d o n) = postfix_number (larger d) o n
larger (small.postfix_method d o e g) = postfix_method (larger d) o e (larger g)
larger (small.argument_list o d c) = argument_list o (larger d) c
larger (small.unary_prefix h d) = unary_prefix h (larger d)
larger (small.unary_ref o d) = unary_ref o (larger d)
larger (small.unary_ref_mut o m d) = unary_ref_mut o m (larger d)
larger (small.unary_postfix d) = unary_postfix (larger d)
larger (small.binary_unary d) = binary_unary (larger d)
larger (small.binary_tighter h i d) = binary_tighter h i (larger d)
larger (small.binary_operator h i d o e) = binary_operator h i (larger d) o (larger e)
larger (small.expression_binary d) = expression_binary (larger d)
larger (small.expression_assign d o e) = expression_assign (larger d) o (larger e)
larger (small.value_given o d) = value_given o (larger d)
larger (small.statement_let o d e g c) = statement_let o d e (larger g) c
larger (small.statement_expression d o) = statement_expression (larger d) (record { starts = starts_plainly d }) o
larger (small.contents_of d small.maybe_none) = contents_from (larger d) contents_none
larger (small.contents_of d (small.maybe_some e)) =
    contents_from (larger d) (contents_value (larger e) (record { starts = starts_plainly e }))
larger (small.block_of o d c) = block_of o (larger d) c
larger (small.item_module v o d c) = item_module v o d c
larger (small.item_module_of v o d e) = item_module_of v o d (larger e)
larger (small.item_struct v o d c) = item_struct v o d c
larger (small.item_struct_fields v o d e) = item_struct_fields v o d e
larger (small.item_struct_tuple v o d e c) = item_struct_tuple v o d e c
larger (small.item_function v o d e f g) = item_function v o d e f (larger g)
larger (small.items_of o d c) = items_of o (larger d) c
larger (small.file_of d) = file_of (larger d)
