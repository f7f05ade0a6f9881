-- Items of the core grammar are in the table.
use Rattle.std.proofs.Common.{ℕ, List, [], ◌∷◌, ◌++◌, refl, append_assoc, append-nil}
use Rattle.rap_base.specs.NodeKind.{PARAM, PARAM_LIST, RET_TYPE, RECORD_FIELD, RECORD_FIELD_LIST, TUPLE_FIELD, TUPLE_FIELD_LIST, ITEM_LIST, MODULE, STRUCT, FN}
use Rattle.rap_base.specs.TokenKind.{COLON, COMMA, SEMICOLON, L_CURLY, R_CURLY, L_PAREN, R_PAREN, THIN_ARROW, MOD_KW, STRUCT_KW, FN_KW}
use Rattle.rap_events.specs.Forest.{Forest, none, node, leaf, ◌⧺◌}
use Rattle.rap_events.specs.Record.{Record}
use Rattle.rap_grammar_scripts.proofs.Forests.{⧺-assoc}
use Rattle.rap_small_grammar.specs.Derives.{Is, Writes, maybe_none, maybe_some, visibility_pub, name_given, bind_name}
use Rattle.rap_small_grammar.specs.Derives as old
use Rattle.rap_small_grammar.proofs.Begins.{First}
use Rattle.rap_small_grammar.proofs.IncludedLists.{Optional, missing, there, WithCommas, last_one, comma_behind, comma_and, Stands, listed, opt_listed, no_colons}
use Rattle.rap_small_grammar.proofs.IncludedRows.{Row, Turns, done, opens, closes, one_way, other_way, ends_with, repeats, none_comes, groups, groups_last, no_group, guards, makes, puts, puts_first, puts_last, puts_alone, puts_token, puts_name, puts_operator}
use Rattle.rap_small_grammar.proofs.IncludedTypes.{TypeSo}
use Rattle.rap_grammar_ends.proofs.Ways.{none-⧺}
use Rattle.rap_grammar_table.specs.Category.{Item, Block, FnParams, ParamPattern, PlainTy, RecordField}
use Rattle.rap_grammar_table.specs.SharedRows.{attrs}
use Rattle.rap_grammar_table.specs.Category as categories
use Rattle.rap_grammar_table.specs.ItemRows as rows
use Rattle.rap_grammar_table.specs.SharedRows as shared
use Rattle.rap_grammar_table.specs.Notation.{Part, ◌⊳◌, t, c, node as under, opt, either, commas}
use Rattle.rap_grammar_table.specs.Table.{Items, nil, choice}
use Rattle.rap_grammar_table.specs.Tops.{Makes}
use Rattle.rap_grammar_table.specs.TypeRows.{ret}

abbrev comma_part : Part
comma_part = t COMMA

-- a visibility, a name
visibility_row : {is : List Record} {v : Forest} → old.Derives (old.Maybe old.Visibility) is v →
    Row (choice (c categories.Visibility nil) nil nil) none [] is v
visibility_row maybe_none = other_way done
visibility_row (maybe_some (visibility_pub o)) =
    one_way (puts_alone (makes 0 refl (opens (puts_token o (closes done)))) done)

visibility : {r : Items} {y : Forest} {xs : List Forest} {v : Forest} {is js : List Record} →
    old.Derives (old.Maybe old.Visibility) is v → Row r v xs js y → Row (rows.opt_visibility r) none xs (is ++ js) y
visibility {v = v} d r = groups (visibility_row d) (rw none-⧺ r)

pub name_row : {r : Items} {x y t : Forest} {xs : List Forest} {ks js : List Record} → old.Derives old.Name ks t →
    Row r (x ⧺ t) xs js y → Row (shared.name r) x xs (ks ++ js) y
name_row (name_given n) r = opens (puts_name n refl (closes r))

-- the pattern of a parameter
pub param_pattern : {ks : List Record} {t : Forest} → old.Derives old.Bind ks t → Makes ParamPattern ks t
param_pattern (bind_name (name_given n)) =
    makes 0 refl
    (opens (other_way (other_way (opens (puts_name n refl (closes (no_group (closes done))))))))

-- Parameters.
pub data ParamSo : List Record → Forest → Type 0 where
  param_in : {a : Record} {ks js : List Record} {t u : Forest} → old.Derives old.Bind ks t → Is a COLON → TypeSo js u →
      First old.Ty js → ParamSo (ks ++ a ∷ js) (node none PARAM (leaf t COLON 1 ⧺ u))

param_row : {r : Items} {x y t : Forest} {xs : List Forest} {ks js : List Record} → ParamSo ks t →
    Row r (x ⧺ t) xs js y → Row (rows.param r) x xs (ks ++ js) y
param_row {js = ms} (param_in {a = b} d o e f) r =
    rw append_assoc
    (opens (none_comes (one_way (puts_first (param_pattern d)
    (guards (λ l. no_colons b refl f ms l) (puts_token o (one_way (puts e.any (closes r)))))))))

param_last : {ks : List Record} {t : Forest} → ParamSo ks t → Row (rows.param nil) none [] ks t
param_last {ks = ks} {t = t} p =
    let d : Row (rows.param nil) none [] (ks ++ []) (none ⧺ t) = param_row p done in rw (append-nil, none-⧺) at d

params_stand : Stands ParamSo (rows.param (comma_part nil)) (rows.param nil)
params_stand =
    record {
      last = λ p. one_way (param_last p);
      before_comma = λ p o. param_row p (puts_token o (rw none-⧺ done));
    }

-- the first parameter, and the others
params_row : {r : Items} {x y t : Forest} {xs : List Forest} {ks js : List Record} → WithCommas ParamSo ks t →
    Row r (x ⧺ t) xs js y →
    Row (opt (either rows.self_param rows.param ⊳ opt (comma_part ⊳ commas rows.param)) r) x xs (ks ++ js) y
params_row (last_one p) r = one_way (other_way (param_row p (other_way r)))
params_row (comma_behind p o) r =
    rw append_assoc
    (one_way (other_way (param_row p (one_way (puts_token o (repeats (ends_with (other_way done)) r))))))
params_row {x = x} (comma_and {t = t} {u = u} p o m) r =
    rw append_assoc
    (one_way (other_way (param_row p (one_way (puts_token o (repeats (listed params_stand m) (rw (⧺-assoc x (leaf t COMMA 1) u) r)))))))

pub params : {a b : Record} {ks : List Record} {t : Forest} → Is a L_PAREN → Optional (WithCommas ParamSo) ks t →
    Is b R_PAREN → Makes FnParams (a ∷ (ks ++ b ∷ [])) (node none PARAM_LIST (leaf (leaf none L_PAREN 1 ⧺ t) R_PAREN 1))
params o missing e = makes 0 refl (opens (puts_token o (other_way (puts_token e (closes done)))))
params o (there w) e = makes 0 refl (opens (puts_token o (params_row w (puts_token e (closes done)))))

-- what is returned
pub data ReturnSo : List Record → Forest → Type 0 where
  return_in : {os ks : List Record} {t : Forest} → Writes os THIN_ARROW → TypeSo ks t →
      ReturnSo (os ++ ks) (node none RET_TYPE (leaf none THIN_ARROW 2 ⧺ t))

return_row : {ks : List Record} {t : Forest} → Optional ReturnSo ks t →
    Row (choice (ret PlainTy nil) nil nil) none [] ks t
return_row missing = other_way done
return_row (there (return_in w d)) = one_way (opens (puts_operator refl w (puts_last d.plain (closes done))))

-- items in braces, fields, and those of a tuple
pub data ItemsSo : List Record → Forest → Type 0 where
  items_in : {a b : Record} {ks : List Record} {t : Forest} → Is a L_CURLY → Turns (c Item nil) nil ks t →
      Is b R_CURLY → ItemsSo (a ∷ (ks ++ b ∷ [])) (node none ITEM_LIST (leaf (leaf none L_CURLY 1 ⧺ t) R_CURLY 1))

pub field : {a : Record} {is ks js : List Record} {v t u : Forest} → old.Derives (old.Maybe old.Visibility) is v →
    old.Derives old.Name ks t → Is a COLON → TypeSo js u →
    Makes RecordField (is ++ (ks ++ a ∷ js)) (node none RECORD_FIELD (leaf (v ⧺ t) COLON 1 ⧺ u))
field v d o e =
    makes 0 refl
    (opens (none_comes (visibility v (name_row d (puts_token o (puts_last e.any (closes done)))))))

pub data FieldsSo : List Record → Forest → Type 0 where
  fields_in : {a b : Record} {ks : List Record} {t : Forest} → Is a L_CURLY →
      Turns (c RecordField (comma_part nil)) (choice (c RecordField nil) nil nil) ks t → Is b R_CURLY →
      FieldsSo (a ∷ (ks ++ b ∷ [])) (node none RECORD_FIELD_LIST (leaf (leaf none L_CURLY 1 ⧺ t) R_CURLY 1))

fields_stand : Stands (Makes RecordField) (c RecordField (comma_part nil)) (c RecordField nil)
fields_stand =
    record { last = λ d. one_way (puts_alone d done); before_comma = λ d o. puts_first d (puts_token o done) }

pub fields : {a b : Record} {ks : List Record} {t : Forest} → Is a L_CURLY →
    Optional (WithCommas (Makes RecordField)) ks t → Is b R_CURLY →
    FieldsSo (a ∷ (ks ++ b ∷ [])) (node none RECORD_FIELD_LIST (leaf (leaf none L_CURLY 1 ⧺ t) R_CURLY 1))
fields o w e = fields_in o (opt_listed fields_stand w) e

abbrev tuple_field : Part
tuple_field = under TUPLE_FIELD (attrs ⊳ opt rows.field_visibility ⊳ c categories.Ty)

pub data TupleFieldSo : List Record → Forest → Type 0 where
  tuple_field_in : {ks : List Record} {t : Forest} → TypeSo ks t → TupleFieldSo ks (node none TUPLE_FIELD t)

tuple_last : {ks : List Record} {t : Forest} → TupleFieldSo ks t → Row (choice (tuple_field nil) nil nil) none [] ks t
tuple_last (tuple_field_in d) = one_way (opens (none_comes (other_way (puts_alone d.any (closes done)))))

tuple_before : {b : Record} {ks : List Record} {t : Forest} → TupleFieldSo ks t → Is b COMMA →
    Row (tuple_field (comma_part nil)) none [] (ks ++ b ∷ []) (leaf t COMMA 1)
tuple_before (tuple_field_in d) o = opens (none_comes (other_way (puts_first d.any (closes (puts_token o done)))))

tuple_fields_stand : Stands TupleFieldSo (tuple_field (comma_part nil)) (tuple_field nil)
tuple_fields_stand = record { last = tuple_last; before_comma = tuple_before }

pub data TupleSo : List Record → Forest → Type 0 where
  tuple_in : {a b : Record} {ks : List Record} {t : Forest} → Is a L_PAREN →
      Turns (tuple_field (comma_part nil)) (choice (tuple_field nil) nil nil) ks t → Is b R_PAREN →
      TupleSo (a ∷ (ks ++ b ∷ [])) (node none TUPLE_FIELD_LIST (leaf (leaf none L_PAREN 1 ⧺ t) R_PAREN 1))

pub tuple : {a b : Record} {ks : List Record} {t : Forest} → Is a L_PAREN → Optional (WithCommas TupleFieldSo) ks t →
    Is b R_PAREN →
    TupleSo (a ∷ (ks ++ b ∷ [])) (node none TUPLE_FIELD_LIST (leaf (leaf none L_PAREN 1 ⧺ t) R_PAREN 1))
tuple o w e = tuple_in o (opt_listed tuple_fields_stand w) e

-- An item by what stands before its name.
named : {k : ℕ} {r : Items} {a : Record} {y u v : Forest} {xs : List Forest} {is ks js : List Record} →
    old.Derives (old.Maybe old.Visibility) is v → Is a k → old.Derives old.Name ks u →
    Row r (leaf v k 1 ⧺ u) xs js y →
    Row (attrs (rows.opt_visibility (t k (shared.name r)))) none xs (is ++ a ∷ (ks ++ js)) y
named v o d r = none_comes (visibility v (puts_token o (name_row d r)))

pub module_item : {a b : Record} {is ks : List Record} {v t : Forest} → old.Derives (old.Maybe old.Visibility) is v →
    Is a MOD_KW → old.Derives old.Name ks t → Is b SEMICOLON →
    Makes Item (is ++ a ∷ (ks ++ b ∷ [])) (node none MODULE (leaf (leaf v MOD_KW 1 ⧺ t) SEMICOLON 1))
module_item v o d e = makes 3 refl (opens (named v o d (one_way (puts_token e (closes done)))))

pub module_of : {a : Record} {is ks js : List Record} {v t u : Forest} → old.Derives (old.Maybe old.Visibility) is v →
    Is a MOD_KW → old.Derives old.Name ks t → ItemsSo js u →
    Makes Item (is ++ a ∷ (ks ++ js)) (node none MODULE (leaf v MOD_KW 1 ⧺ t ⧺ u))
module_of v o d (items_in i m e) =
    makes 3 refl
    (opens (named v o d (other_way (opens (puts_token i (none_comes (repeats m (puts_token e (closes (closes done))))))))))

pub struct_item : {a b : Record} {is ks : List Record} {v t : Forest} → old.Derives (old.Maybe old.Visibility) is v →
    Is a STRUCT_KW → old.Derives old.Name ks t → Is b SEMICOLON →
    Makes Item (is ++ a ∷ (ks ++ b ∷ [])) (node none STRUCT (leaf (leaf v STRUCT_KW 1 ⧺ t) SEMICOLON 1))
struct_item v o d e =
    makes 0 refl (opens (named v o d (no_group (other_way (one_way (puts_token e (closes done)))))))

pub struct_fields : {a : Record} {is ks js : List Record} {v t u : Forest} →
    old.Derives (old.Maybe old.Visibility) is v → Is a STRUCT_KW → old.Derives old.Name ks t → FieldsSo js u →
    Makes Item (is ++ a ∷ (ks ++ js)) (node none STRUCT (leaf v STRUCT_KW 1 ⧺ t ⧺ u))
struct_fields v o d (fields_in i m e) =
    makes 0 refl
    (opens (named v o d (no_group (other_way (other_way
    (opens (puts_token i (repeats m (puts_token e (closes (closes done)))))))))))

pub struct_tuple : {a b : Record} {is ks js : List Record} {v t u : Forest} →
    old.Derives (old.Maybe old.Visibility) is v → Is a STRUCT_KW → old.Derives old.Name ks t → TupleSo js u →
    Is b SEMICOLON →
    Makes Item (is ++ a ∷ (ks ++ (js ++ b ∷ []))) (node none STRUCT (leaf (leaf v STRUCT_KW 1 ⧺ t ⧺ u) SEMICOLON 1))
struct_tuple v o d (tuple_in {ks = ks} i m e) s =
    rw (append_assoc {A = Record} ks)
    (makes 1 refl
    (opens (named v o d (no_group
    (opens (puts_token i (repeats m (puts_token e (closes (other_way (puts_token s (closes done))))))))))))

pub function_item : {a : Record} {is ks js ms ns : List Record} {v t u w x : Forest} →
    old.Derives (old.Maybe old.Visibility) is v → Is a FN_KW → old.Derives old.Name ks t → Makes FnParams js u →
    Optional ReturnSo ms w → Makes Block ns x →
    Makes Item (is ++ a ∷ (ks ++ (js ++ (ms ++ ns)))) (node none FN (leaf v FN_KW 1 ⧺ t ⧺ u ⧺ w ⧺ x))
function_item v o d p m b =
    makes 8 refl
    (opens (none_comes (visibility v (one_way (other_way (other_way (other_way (other_way
    (puts_token o (name_row d (no_group (puts p (groups (return_row m) (other_way
    (groups_last (other_way (puts_alone b done)) (closes done))))))))))))))))
