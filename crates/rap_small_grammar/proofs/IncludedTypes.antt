-- Paths and types of the core grammar are in the table.
use Rattle.std.proofs.Common.{◌≡◌, List, [], ◌∷◌, ◌++◌, refl, ap}
use Rattle.rap_base.specs.NodeKind.{PATH, PATH_SEGMENT, PATH_TYPE, NAME_REF, REF_TYPE, SLICE_TYPE}
use Rattle.rap_base.specs.TokenKind.{IDENT, AMP, MUT_KW, L_BRACK, R_BRACK, COLON2}
use Rattle.rap_events.specs.Forest.{Forest, none, node, leaf, ◌⧺◌}
use Rattle.rap_events.specs.Record.{Record}
use Rattle.rap_small_grammar.specs.Derives.{Is, IsName, path_one, path_more, segment, reference}
use Rattle.rap_small_grammar.specs.Derives as old
use Rattle.rap_small_grammar.proofs.IncludedRows.{Row, Folded, none_yet, one_more, rolled, done, opens, closes, one_way, other_way, no_group, folds_alone, makes, puts, puts_last, puts_alone, puts_token, puts_name, puts_operator}
use Rattle.rap_grammar_table.specs.Category.{PlainTy}
use Rattle.rap_grammar_table.specs.SharedRows.{lifetime, path_names}
use Rattle.rap_grammar_table.specs.Category as categories
use Rattle.rap_grammar_table.specs.Notation.{◌⊳◌, t, c, node as under, opt, name_words, row}
use Rattle.rap_grammar_table.specs.Table.{Items, nil, begin, close, piece, choice, group, folds, way, first_turn, tok, comp}
use Rattle.rap_grammar_table.specs.Tops.{Makes}

-- a segment with these arguments or none, and what stands behind a path
abbrev segment_items : Items → Items → Items
segment_items args is =
    begin (begin (piece (tok path_names name_words)
    (close NAME_REF (group (choice args nil nil) (close PATH_SEGMENT is)))))

abbrev path_ways : Items → Items
path_ways args = way (0 ∷ []) (piece (comp COLON2) (segment_items args (close PATH nil))) 0 nil

abbrev path_items : Items → Items
path_items args = begin (segment_items args (close PATH (folds 0 (path_ways args) nil)))

abbrev one_segment : Forest
one_segment = node none PATH_SEGMENT (node none NAME_REF (leaf none IDENT 1))

segment_row : {args is : Items} {a : Record} {x y : Forest} {xs : List Forest} {js : List Record} → IsName a →
    Row is (x ⧺ one_segment) xs js y → Row (segment_items args is) x xs (a ∷ js) y
segment_row n r = opens (opens (puts_name n refl (closes (no_group (closes r)))))

record PathSo (args : Items) (ks : List Record) (t : Forest) : Type 0 where
  first : Record
  behind : List Record
  is : first ∷ behind ≡ ks
  name : IsName first
  more : Folded (path_ways args) 0 (node none PATH one_segment) behind t 0

segments : {args : Items} {ks : List Record} {t : Forest} → old.Derives old.Path ks t → PathSo args ks t
segments (path_one (segment (reference {r = r} n))) =
    record { first = r; behind = []; is = refl; name = n; more = none_yet }
segments {args = args} (path_more {os = os} d w (segment (reference {r = r} n))) =
    let s : PathSo args _ _ = segments d in
    record {
      first = s.first;
      behind = s.behind ++ (os ++ r ∷ []);
      is = ap (λ (x : List Record). x ++ (os ++ r ∷ [])) s.is;
      name = s.name;
      more = one_more s.more first_turn refl (puts_operator refl w (segment_row n (closes done)));
    }

path_row : {args : Items} {ks : List Record} {t : Forest} → old.Derives old.Path ks t → Row (path_items args) none [] ks t
path_row {args = args} d =
    let s : PathSo args _ _ = segments d in
    rw (← s.is) (opens (segment_row s.name (closes (folds_alone (rolled s.more)))))

pub type_path : {ks : List Record} {t : Forest} → old.Derives old.Path ks t → Makes categories.Path ks t
type_path d = makes 0 refl (path_row d)

pub expression_path : {ks : List Record} {t : Forest} → old.Derives old.Path ks t → Makes categories.AtomPath ks t
expression_path d = makes 0 refl (path_row d)

-- a type, with bounds behind it or without them
pub record TypeSo (ks : List Record) (t : Forest) : Type 0 where
  pub any : Makes categories.Ty ks t
  pub plain : Makes categories.PlainTy ks t

pub path_type : {ks : List Record} {t : Forest} → old.Derives old.Path ks t → TypeSo ks (node none PATH_TYPE t)
path_type d =
    record {
      any = makes 0 refl (opens (puts_alone (type_path d) (closes done)));
      plain = makes 0 refl (opens (puts_alone (type_path d) (closes done)));
    }

abbrev reference_row : Items
reference_row = row (under REF_TYPE (t AMP ⊳ opt lifetime ⊳ opt (t MUT_KW) ⊳ c PlainTy))

both : {ks : List Record} {t : Forest} → Row reference_row none [] ks t → TypeSo ks t
both r = record { any = makes 3 refl r; plain = makes 2 refl r }

pub ref_type : {a : Record} {ks : List Record} {t : Forest} → Is a AMP → TypeSo ks t →
    TypeSo (a ∷ ks) (node none REF_TYPE (leaf none AMP 1 ⧺ t))
ref_type o d = both (opens (puts_token o (other_way (other_way (puts_last d.plain (closes done))))))

pub ref_mut_type : {a b : Record} {ks : List Record} {t : Forest} → Is a AMP → Is b MUT_KW → TypeSo ks t →
    TypeSo (a ∷ b ∷ ks) (node none REF_TYPE (leaf (leaf none AMP 1) MUT_KW 1 ⧺ t))
ref_mut_type o m d =
    both (opens (puts_token o (other_way (one_way (puts_token m (puts_last d.plain (closes done)))))))

abbrev slice_row : Items
slice_row = row (under SLICE_TYPE (t L_BRACK ⊳ c categories.Ty ⊳ t R_BRACK))

slice_types : {ks : List Record} {t : Forest} → Row slice_row none [] ks t → TypeSo ks t
slice_types r = record { any = makes 5 refl r; plain = makes 4 refl r }

pub slice_type : {a b : Record} {ks : List Record} {t : Forest} → Is a L_BRACK → TypeSo ks t → Is b R_BRACK →
    TypeSo (a ∷ (ks ++ b ∷ [])) (node none SLICE_TYPE (leaf (leaf none L_BRACK 1 ⧺ t) R_BRACK 1))
slice_type o d e = slice_types (opens (puts_token o (puts d.any (puts_token e (closes done)))))
