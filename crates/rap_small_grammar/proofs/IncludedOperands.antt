-- Operands of the core grammar, and what follows them directly, are in the table.
use Rattle.std.proofs.Common.{◌≡◌, ℕ, suc, Bool, true, false, ◌==◌, ◌||◌, List, [], ◌∷◌, ◌++◌, Some, refl, sym, ◌∙◌, append_assoc, append-nil}
use Rattle.std.proofs.Math.Bool.{or-true}
use Rattle.rap_base.specs.NodeKind.{LITERAL, PATH_EXPR, PAREN_EXPR, ARG_LIST, CALL_EXPR, INDEX_EXPR, TRY_EXPR, FIELD_EXPR, METHOD_CALL_EXPR, NAME_REF, PREFIX_EXPR, REF_EXPR}
use Rattle.rap_base.specs.TokenKind.{AMP, BANG, COMMA, DOT, INT_NUMBER, L_BRACK, L_PAREN, MINUS, MUT_KW, QUESTION, R_BRACK, R_PAREN, STAR}
use Rattle.rap_events.specs.Forest.{Forest, none, node, leaf, ◌⧺◌}
use Rattle.rap_events.specs.Record.{Record}
use Rattle.rap_grammar_scripts.specs.First.{one_of}
use Rattle.rap_small_grammar.specs.Derives.{Is, IsOneOf, IsLiteral, IsNamedField, reference, starts_with_block}
use Rattle.rap_small_grammar.specs.Derives as old
use Rattle.rap_small_grammar.proofs.Begins.{literal_kind, past_is, past_prefix}
use Rattle.rap_small_grammar.proofs.IncludedLists.{Optional, WithCommas, Stands, opt_listed}
use Rattle.rap_small_grammar.proofs.IncludedRows.{Headed, nothing_behind, behind_it, said_so, whole, Row, Folded, none_yet, one_more, rolled, done, opens, closes, one_way, other_way, repeats, no_group, makes, puts, puts_first, puts_last, puts_alone, puts_token, puts_name}
use Rattle.rap_small_grammar.proofs.IncludedTypes.{expression_path}
use Rattle.rap_grammar_table.specs.Rows.{grammar}
use Rattle.rap_grammar_table.proofs.Known.{by_or}
use Rattle.rap_grammar_table.specs.Category.{Category, ArgList, Atom, Expr, Operand, Prefixed, StmtOperand, StmtPrefixed, WithBlock}
use Rattle.rap_grammar_table.specs.SharedRows.{literals}
use Rattle.rap_grammar_table.specs.ExprRows.{postfixes, prefix_before, ref_before, value}
use Rattle.rap_grammar_table.specs.Known.{among}
use Rattle.rap_grammar_table.specs.Notation.{t, c, ◌⊳◌, around}
use Rattle.rap_grammar_table.specs.Table.{row_at, Items, nil, HasWay, first_turn, other_turn, a_token}
use Rattle.rap_grammar_table.specs.Tops.{Makes}

-- an operand alone, where a record literal may stand and where none may
pub record AtomSo (ks : List Record) (t : Forest) : Type 0 where
  pub free : Makes (Atom false) ks t
  pub forbidden : Makes (Atom true) ks t

one_among : (ks : List ℕ) (k : ℕ) → one_of ks k ≡ true → among ks k ≡ true
one_among [] k h = absurd cc
one_among (j ∷ js) k h =
    by_or (j == k) (one_of js k) h (λ e. rw e refl) (λ m. rw (one_among js k m, or-true (j == k)) refl)

-- by a row that both have, one place later where a record literal may stand
by_row_of : {is : Items} {ks : List Record} {t : Forest} (n : ℕ) → row_at (suc n) (grammar (Atom false)) ≡ Some is →
    row_at n (grammar (Atom true)) ≡ Some is → Row is none [] ks t → AtomSo ks t
by_row_of n e i r = record { free = makes (suc n) e r; forbidden = makes n i r }

pub literal_atom : {r : Record} → IsLiteral r → AtomSo (r ∷ []) (node none LITERAL (leaf none r.kind 1))
literal_atom {r = r} h =
    by_row_of 0 refl refl (opens (puts (a_token (one_among literals r.kind (literal_kind r h)) refl) (closes done)))

pub path_atom : {ks : List Record} {t : Forest} → old.Derives old.Path ks t → AtomSo ks (node none PATH_EXPR t)
path_atom d = by_row_of 1 refl refl (opens (puts_alone (expression_path d) (closes done)))

pub paren_atom : {a b : Record} {ks : List Record} {t : Forest} → Is a L_PAREN → Makes Expr ks t → Is b R_PAREN →
    AtomSo (a ∷ (ks ++ b ∷ [])) (node none PAREN_EXPR (leaf (leaf none L_PAREN 1 ⧺ t) R_PAREN 1))
paren_atom o d e = by_row_of 3 refl refl (opens (puts_token o (puts d (puts_token e (closes done)))))

-- the arguments of a call
arguments_stand : Stands (Makes Expr) (value (t COMMA nil)) (value nil)
arguments_stand =
    record {
      last = λ d. one_way (one_way (puts_alone d done));
      before_comma = λ d o. one_way (puts_first d (puts_token o done));
    }

pub arguments : {a b : Record} {ks : List Record} {t : Forest} → Is a L_PAREN →
    Optional (WithCommas (Makes Expr)) ks t → Is b R_PAREN →
    Makes ArgList (a ∷ (ks ++ b ∷ [])) (node none ARG_LIST (leaf (leaf none L_PAREN 1 ⧺ t) R_PAREN 1))
arguments o w e = makes 0 refl (opens (puts_token o (repeats (opt_listed arguments_stand w) (puts_token e (closes done)))))

-- What follows an operand directly, up to this tree: it may be called where it is no field by its name.
pub record Followed (t x : Forest) (ks : List Record) : Type 0 where
  pub number : ℕ
  pub turns : Folded (postfixes nil) 1 x ks t number
  pub usable : among (0 ∷ 1 ∷ []) number ≡ true
  pub called : ¬ IsNamedField t → number ≡ 1

abbrev pub PostfixSo : Category → List Record → Forest → Type 0
PostfixSo category ks t = Headed category (Followed t) ks

pub alone : {category : Category} {kind : ℕ} {ks : List Record} {children : Forest} → Makes category ks (node none kind children) →
    PostfixSo category ks (node none kind children)
alone d = nothing_behind d (record { number = 1; turns = none_yet; usable = refl; called = λ n. refl })

-- one more turn, which may come behind what there is
goes_on : {category : Category} {kind next : ℕ} {from : List ℕ} {a : Items} {ks js : List Record} {t u : Forest} →
    PostfixSo category ks t → HasWay (postfixes nil) from a next →
    ((x : Forest) (ms : List Record) (f : Followed t x ms) → among from f.number ≡ true) →
    among (0 ∷ 1 ∷ []) next ≡ true → (¬ IsNamedField (node none kind u) → next ≡ 1) →
    Row a t (none ∷ []) js (node none kind u) → PostfixSo category (ks ++ js) (node none kind u)
goes_on {next = next} {js = js} p w i l n r =
    behind_it js
    (λ x ms f. record { number = next; turns = one_more f.turns w (i x ms f) r; usable = l; called = n }) p

pub call_more : {h : Category} {ks js : List Record} {t u : Forest} → PostfixSo h ks t → ¬ IsNamedField t →
    Makes ArgList js u → PostfixSo h (ks ++ js) (node none CALL_EXPR (t ⧺ u))
call_more p n d = goes_on p first_turn (λ x ms f. rw (f.called n) refl) refl (λ m. refl) (puts_last d (closes done))

pub index_more : {h : Category} {a b : Record} {ks js : List Record} {t u : Forest} → PostfixSo h ks t → Is a L_BRACK →
    Makes Expr js u → Is b R_BRACK →
    PostfixSo h (ks ++ a ∷ (js ++ b ∷ [])) (node none INDEX_EXPR (leaf (leaf t L_BRACK 1 ⧺ u) R_BRACK 1))
index_more p o d e =
    goes_on p (other_turn first_turn) (λ x ms f. f.usable) refl (λ m. refl) (puts_token o (puts d (puts_token e (closes done))))

pub try_more : {h : Category} {a : Record} {ks : List Record} {t : Forest} → PostfixSo h ks t → Is a QUESTION →
    PostfixSo h (ks ++ a ∷ []) (node none TRY_EXPR (leaf t QUESTION 1))
try_more p o =
    goes_on p (other_turn (other_turn first_turn)) (λ x ms f. f.usable) refl (λ m. refl) (puts_token o (closes done))

pub method_more : {h : Category} {a : Record} {ks js is : List Record} {t u v : Forest} → PostfixSo h ks t → Is a DOT →
    old.Derives old.Reference js u → Makes ArgList is v →
    PostfixSo h (ks ++ a ∷ (js ++ is)) (node none METHOD_CALL_EXPR (leaf t DOT 1 ⧺ u ⧺ v))
method_more p o (reference n) d =
    goes_on p (other_turn (other_turn (other_turn first_turn))) (λ x ms f. f.usable) refl (λ m. refl)
    (puts_token o (opens (puts_name n refl (closes (no_group (puts_last d (closes done)))))))

pub field_more : {h : Category} {a : Record} {ks js : List Record} {t u : Forest} → PostfixSo h ks t → Is a DOT →
    old.Derives old.Reference js u → PostfixSo h (ks ++ a ∷ js) (node none FIELD_EXPR (leaf t DOT 1 ⧺ u))
field_more {t = x} p o (reference n) =
    goes_on p (other_turn (other_turn (other_turn (other_turn (other_turn first_turn))))) (λ x ms f. f.usable) refl
    (λ m. absurd (m (leaf x DOT 1, refl))) (puts_token o (opens (puts_name n refl (closes (closes done)))))

pub number_more : {h : Category} {a b : Record} {ks : List Record} {t : Forest} → PostfixSo h ks t → Is a DOT →
    Is b INT_NUMBER →
    PostfixSo h (ks ++ a ∷ b ∷ []) (node none FIELD_EXPR (node (leaf t DOT 1) NAME_REF (leaf none INT_NUMBER 1)))
number_more p o n =
    goes_on p (other_turn (other_turn (other_turn (other_turn (other_turn (other_turn first_turn)))))) (λ x ms f. f.usable) refl
    (λ m. refl) (puts_token o (opens (puts_token n (closes (closes done)))))

-- such an operand begins with one that ends by itself, or with a block, a condition or a loop
pub data PostfixOf (ks : List Record) (t : Forest) : Type 0 where
  by_atom : PostfixSo (Atom false) ks t → PostfixSo (Atom true) ks t → PostfixOf ks t
  by_block : ((l : List Record) → starts_with_block (ks ++ l) ≡ true) → PostfixSo WithBlock ks t → PostfixOf ks t

pub more_of : {ks : List Record} {t : Forest} (js : List Record) (u : Forest) →
    ((h : Category) → PostfixSo h ks t → PostfixSo h (ks ++ js) u) → PostfixOf ks t → PostfixOf (ks ++ js) u
more_of js u f (by_atom p q) = by_atom (f _ p) (f _ q)
more_of js u f (by_block s p) = by_block (λ l. rw append_assoc (s (js ++ l))) (f _ p)

-- with its operators before it
pub record UnarySo (ks : List Record) (t : Forest) : Type 0 where
  pub free : Makes (Operand false) ks t
  pub forbidden : Makes (Operand true) ks t
  pub stmt : starts_with_block ks ≡ false → Makes StmtOperand ks t

postfix_row : {h : Category} {ks : List Record} {t : Forest} → PostfixSo h ks t →
    Row ((c h ⊳ around 1 postfixes) nil) none [] ks t
postfix_row p = whole (said_so (λ x ms f. rolled f.turns) p)

pub postfix_operand : {ks : List Record} {t : Forest} → PostfixOf ks t → UnarySo ks t
postfix_operand (by_atom p q) =
    record {
      free = makes 0 refl (postfix_row p);
      forbidden = makes 0 refl (postfix_row q);
      stmt = λ s. makes 0 refl (postfix_row p);
    }
postfix_operand {ks = ks} (by_block n p) =
    record {
      free = makes 1 refl (postfix_row p);
      forbidden = makes 1 refl (postfix_row p);
      stmt = λ s. let e : true ≡ false = sym (n []) ∙ (rw append-nil s) in absurd cc;
    }

-- an operand behind an operator before it
prefixed : {ks : List Record} {t : Forest} → Makes (Operand false) ks t → Makes (Prefixed false) ks t
prefixed d = makes 0 refl (puts_alone d done)

forbidden_prefixed : {ks : List Record} {t : Forest} → Makes (Operand true) ks t → Makes (Prefixed true) ks t
forbidden_prefixed d = makes 0 refl (puts_alone d done)

stmt_prefixed : {ks : List Record} {t : Forest} → Makes StmtOperand ks t → Makes StmtPrefixed ks t
stmt_prefixed d = makes 0 refl (puts_alone d done)

ref_row : {h : Category} {a : Record} {ks : List Record} {t : Forest} → Is a AMP → Makes h ks t →
    Row (ref_before h nil) none [] (a ∷ ks) (node none REF_EXPR (leaf none AMP 1 ⧺ t))
ref_row o d = opens (puts_token o (other_way (puts_last d (closes done))))

pub ref_operand : {a : Record} {ks : List Record} {t : Forest} → Is a AMP → UnarySo ks t →
    UnarySo (a ∷ ks) (node none REF_EXPR (leaf none AMP 1 ⧺ t))
ref_operand {a = a} {ks = ks} o d =
    record {
      free = makes 2 refl (ref_row o (prefixed d.free));
      forbidden = makes 2 refl (ref_row o (forbidden_prefixed d.forbidden));
      stmt = λ s. makes 5 refl (ref_row o (stmt_prefixed (d.stmt (sym (past_is a ks AMP o refl) ∙ s))));
    }

ref_mut_row : {h : Category} {a b : Record} {ks : List Record} {t : Forest} → Is a AMP → Is b MUT_KW → Makes h ks t →
    Row (ref_before h nil) none [] (a ∷ b ∷ ks) (node none REF_EXPR (leaf (leaf none AMP 1) MUT_KW 1 ⧺ t))
ref_mut_row o m d = opens (puts_token o (one_way (puts_token m (puts_last d (closes done)))))

pub ref_mut_operand : {a b : Record} {ks : List Record} {t : Forest} → Is a AMP → Is b MUT_KW → UnarySo ks t →
    UnarySo (a ∷ b ∷ ks) (node none REF_EXPR (leaf (leaf none AMP 1) MUT_KW 1 ⧺ t))
ref_mut_operand {a = a} {b = b} {ks = ks} o m d =
    record {
      free = makes 2 refl (ref_mut_row o m (prefixed d.free));
      forbidden = makes 2 refl (ref_mut_row o m (forbidden_prefixed d.forbidden));
      stmt = λ s.
          makes 5 refl
          (ref_mut_row o m (stmt_prefixed
          (d.stmt (sym (past_is a (b ∷ ks) AMP o refl ∙ past_is b ks MUT_KW m refl) ∙ s))));
    }

prefix_row : {h : Category} {kinds : List ℕ} {a : Record} {ks : List Record} {t : Forest} → among kinds a.kind ≡ true →
    Makes h ks t →
    Row (prefix_before kinds h nil) none [] (a ∷ ks) (node none PREFIX_EXPR (leaf none a.kind 1 ⧺ t))
prefix_row m d = opens (puts (a_token m refl) (puts_last d (closes done)))

minus_operand : {a : Record} {ks : List Record} {t : Forest} → IsOneOf a (MINUS ∷ BANG ∷ STAR ∷ []) →
    among (MINUS ∷ []) a.kind ≡ true → UnarySo ks t →
    UnarySo (a ∷ ks) (node none PREFIX_EXPR (leaf none a.kind 1 ⧺ t))
minus_operand {a = a} {ks = ks} h m d =
    record {
      free = makes 4 refl (prefix_row m (prefixed d.free));
      forbidden = makes 4 refl (prefix_row m (forbidden_prefixed d.forbidden));
      stmt = λ s. makes 7 refl (prefix_row m (stmt_prefixed (d.stmt (sym (past_prefix a ks h) ∙ s))));
    }

star_operand : {a : Record} {ks : List Record} {t : Forest} → IsOneOf a (MINUS ∷ BANG ∷ STAR ∷ []) →
    among (STAR ∷ BANG ∷ []) a.kind ≡ true → UnarySo ks t →
    UnarySo (a ∷ ks) (node none PREFIX_EXPR (leaf none a.kind 1 ⧺ t))
star_operand {a = a} {ks = ks} h m d =
    record {
      free = makes 3 refl (prefix_row m (prefixed d.free));
      forbidden = makes 3 refl (prefix_row m (forbidden_prefixed d.forbidden));
      stmt = λ s. makes 6 refl (prefix_row m (stmt_prefixed (d.stmt (sym (past_prefix a ks h) ∙ s))));
    }

swapped : (a b : Bool) → (a || (b || false)) ≡ true → (b || (a || false)) ≡ true
swapped true true h = refl
swapped true false h = refl
swapped false true h = refl
swapped false false h = h

pub prefix_operand : {a : Record} {ks : List Record} {t : Forest} → IsOneOf a (MINUS ∷ BANG ∷ STAR ∷ []) →
    UnarySo ks t → UnarySo (a ∷ ks) (node none PREFIX_EXPR (leaf none a.kind 1 ⧺ t))
prefix_operand {a = a} h d =
    by_or (MINUS == a.kind) (among (BANG ∷ STAR ∷ []) a.kind) (one_among (MINUS ∷ BANG ∷ STAR ∷ []) a.kind h.among)
    (λ e. minus_operand h (rw e refl) d)
    (λ m. star_operand h (swapped (BANG == a.kind) (STAR == a.kind) m) d)
