-- Derivations by hand: `!`, `&mut _`, and `'a:` behind a `where`.
use Rattle.std.proofs.Common.{◌≡◌, refl, false, List, [], ◌∷◌, ℕ}
use Rattle.rap_base.specs.NodeKind.{INFER_TYPE, LIFETIME, NEVER_TYPE, REF_TYPE, TYPE_BOUND_LIST, WHERE_PRED}
use Rattle.rap_base.specs.TokenKind.{AMP, BANG, COLON, LIFETIME_IDENT, UNDERSCORE, MUT_KW, PLUS}
use Rattle.rap_events.specs.Forest.{Forest, none, node, leaf}
use Rattle.rap_events.specs.Record.{Record}
use Rattle.rap_grammar_scripts.specs.Test.{holds}
use Rattle.rap_grammar_scripts.specs.Words.{next_is}
use Rattle.rap_grammar_table.specs.Rows.{grammar}
use Rattle.rap_grammar_table.specs.Category.{Bound, Predicate, Ty, PlainTy, Category}
use Rattle.rap_grammar_table.specs.GenericRows.{bounds_end}
use Rattle.rap_grammar_table.specs.Known.{Sees}
use Rattle.rap_grammar_table.specs.Notation.{◌⊳◌, t, c, opt, alone, row}
use Rattle.rap_grammar_table.specs.Table.{Derives, one, rest_of, cat, turns_of, by_row, a_token, ended, begun, closed, put, first_way, second_way, last_turn, repeated, grouped, guarded}
use Rattle.rap_grammar_table.proofs.Known.{never_so}

abbrev Makes : Category → List Record → Forest → Type 0
Makes c ks y = Derives grammar (one (cat c)) ks y

a_never : (r : Record) → r.kind ≡ BANG → Makes Ty (r ∷ []) (node none NEVER_TYPE (leaf none r.kind 1))
a_never r h = by_row 7 refl (begun (put (a_token (rw h refl) refl) (closed ended)))

an_underscore : (r : Record) → r.kind ≡ UNDERSCORE → Makes PlainTy (r ∷ []) (node none INFER_TYPE (leaf none r.kind 1))
an_underscore r h = by_row 7 refl (begun (put (a_token (rw h refl) refl) (closed ended)))

a_reference : (a m r : Record) → a.kind ≡ AMP → m.kind ≡ MUT_KW → r.kind ≡ UNDERSCORE →
    Makes Ty (a ∷ m ∷ r ∷ [])
    (node none REF_TYPE (node (leaf (leaf none a.kind 1) m.kind 1) INFER_TYPE (leaf none r.kind 1)))
a_reference a m r h i j =
    by_row 3 refl
    (begun (put (a_token (rw h refl) refl) (second_way (first_way (put (a_token (rw i refl) refl)
    (put (an_underscore r j) (closed ended)))))))

-- no bounds behind a colon
no_colon : (l : List Record) → Sees bounds_end l → holds (next_is COLON) l ≡ false
no_colon l s = never_so (next_is COLON) bounds_end l refl s

no_more : Derives grammar
    (rest_of (turns_of (row (c Bound ⊳ t PLUS)) (row (alone (opt (c Bound))))) none []) [] none
no_more = last_turn (grouped {ks = []} {js = []} (second_way ended) ended)

a_lifetime : (a b : Record) → a.kind ≡ LIFETIME_IDENT → b.kind ≡ COLON →
    Makes Predicate (a ∷ b ∷ [])
    (node none WHERE_PRED (node (leaf (node none LIFETIME (leaf none a.kind 1)) b.kind 1) TYPE_BOUND_LIST none))
a_lifetime a b h i =
    by_row 0 refl
    (begun (begun (put (a_token (rw h refl) refl) (closed (grouped {ks = b ∷ []} {js = []}
    (put (a_token (rw i refl) refl)
    (guarded no_colon (begun (repeated {ks = []} {js = []} no_more (closed ended)))))
    (closed ended))))))
