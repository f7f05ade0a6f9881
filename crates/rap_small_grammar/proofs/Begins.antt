-- What an operand, a type and a block begin with, and that an operand is one node.
use Rattle.std.proofs.Common.{rules, ◌≡◌, inl, inr, ℕ, List, [], ◌∷◌, ◌++◌, Bool, true, false, refl, ap, ◌∙◌, ◌==◌, append_assoc, sym}
use Rattle.std.proofs.lemmas.Bool.{eqb-true}
use Rattle.rap_base.specs.TokenKind.{IDENT, AMP, STAR, BANG, MINUS, L_PAREN, L_BRACK, L_CURLY, IF_KW, WHILE_KW, LOOP_KW, MUT_KW}
use Rattle.rap_events.specs.Record.{Record}
use Rattle.rap_events.specs.Forest.{Forest, none, node}
use Rattle.rap_small_grammar.specs.Derives.{IsName, Is, IsOneOf, IsLiteral, Category, Expression, Binary, Unary, Postfix, Atom, Path, Segment, Reference, Ty, Block, WithBlock, If, Derives, reference, segment, path_one, path_more, atom_literal, atom_path, atom_paren, atom_block, postfix_atom, postfix_call, postfix_index, postfix_try, postfix_field, postfix_number, postfix_method, unary_prefix, unary_ref, unary_ref_mut, unary_postfix, binary_unary, binary_tighter, binary_operator, expression_binary, expression_assign, type_path, type_ref, type_ref_mut, type_slice, block_of, with_block, with_if, with_while, with_loop, if_of, begins_block, starts_with_block}
use Rattle.rap_grammar_scripts.specs.First.{is_literal_first, one_of}
use Rattle.rap_grammar_ends.proofs.Differ.{differ_back}
use Rattle.rap_small_grammar.proofs.Operators.{is_operand, is_atom}

-- what some categories begin with
abbrev pub Begins : Category → ℕ → Bool
Begins Reference k = k == IDENT
Begins Segment k = k == IDENT
Begins Path k = k == IDENT
Begins Atom k = is_atom k
Begins Postfix k = is_atom k
Begins Unary k = is_operand k
Begins (Binary p) k = is_operand k
Begins Expression k = is_operand k
Begins Ty k = one_of (IDENT ∷ AMP ∷ L_BRACK ∷ []) k
Begins Block k = k == L_CURLY
Begins WithBlock k = begins_block k
Begins If k = k == IF_KW
Begins c k = false

-- these are they
abbrev pub is_begun : Category → Bool
is_begun Reference = true
is_begun Segment = true
is_begun Path = true
is_begun Atom = true
is_begun Postfix = true
is_begun Unary = true
is_begun (Binary p) = true
is_begun Expression = true
is_begun Ty = true
is_begun Block = true
is_begun WithBlock = true
is_begun If = true
is_begun c = false

-- the first token
pub record First (c : Category) (ks : List Record) : Type 0 where
  pub r : Record
  pub rs : List Record
  pub is : ks ≡ r ∷ rs
  pub kind : Begins c r.kind ≡ true

kept_first : {c : Category} (r : Record) (rs : List Record) → Begins c r.kind ≡ true → First c (r ∷ rs)
kept_first r rs h = record { r = r; rs = rs; is = refl; kind = h }

kind_first : {c : Category} (r : Record) (rs : List Record) (k : ℕ) → Is r k → Begins c k ≡ true → First c (r ∷ rs)
kind_first r rs k e h = kept_first r rs (rw e.kind_is h)

-- a category that begins with another one
also : {c d : Category} {ks : List Record} (js : List Record) (f : First c ks) → Begins d f.r.kind ≡ true →
    First d (ks ++ js)
also js f h =
    record { r = f.r; rs = f.rs ++ js; is = ap (λ (x : List Record). x ++ js) f.is; kind = h }

alone : {c d : Category} {ks : List Record} (f : First c ks) → Begins d f.r.kind ≡ true → First d ks
alone f h = record { r = f.r; rs = f.rs; is = f.is; kind = h }

name_atom : (k : ℕ) → (k == IDENT) ≡ true → is_atom k ≡ true
name_atom k h = rw (eqb-true k IDENT h) refl

atom_operand : (k : ℕ) → is_atom k ≡ true → is_operand k ≡ true
atom_operand k h = rw h refl

pub literal_kind : (r : Record) → IsLiteral r → is_literal_first r.kind ≡ true
literal_kind r (inl h) = search rules
literal_kind r (inr h) = let e = h.among in search rules

pub literal_atom : (k : ℕ) → is_literal_first k ≡ true → is_atom k ≡ true
literal_atom k h = rw h refl

abbrev is_prefix : ℕ → Bool
is_prefix k = one_of (STAR ∷ BANG ∷ MINUS ∷ []) k

prefix_kind : (r : Record) → IsOneOf r (MINUS ∷ BANG ∷ STAR ∷ []) → is_prefix r.kind ≡ true
prefix_kind r h = let e = h.among in search rules

prefix_operand : (k : ℕ) → is_prefix k ≡ true → is_operand k ≡ true
prefix_operand k h = search rules

block_atom : (k : ℕ) → begins_block k ≡ true → is_atom k ≡ true
block_atom k h = search rules

curly_block : (k : ℕ) → (k == L_CURLY) ≡ true → begins_block k ≡ true
curly_block k h = rw (eqb-true k L_CURLY h) refl

if_block : (k : ℕ) → (k == IF_KW) ≡ true → begins_block k ≡ true
if_block k h = rw (eqb-true k IF_KW h) refl

pub first : {c : Category} {ks : List Record} {t : Forest} → Derives c ks t → is_begun c ≡ true → First c ks
first (reference {r = r} n) z = kept_first r [] (rw n.kind refl)
first (segment d) z = let f = first d refl in alone f f.kind
first (path_one d) z = let f = first d refl in alone f f.kind
first (path_more {os = os} {js = js} d w e) z = let f = first d refl in also (os ++ js) f f.kind
first (atom_literal {r = r} h) z = kept_first r [] (literal_atom r.kind (literal_kind r h))
first (atom_path d) z = let f = first d refl in alone f (name_atom f.r.kind f.kind)
first (atom_paren {a = a} {b = b} {ks = ks} o d c) z = kind_first a (ks ++ b ∷ []) L_PAREN o refl
first (atom_block d) z = let f = first d refl in alone f (block_atom f.r.kind f.kind)
first (postfix_atom d) z = let f = first d refl in alone f f.kind
first (postfix_call {js = js} d n e) z = let f = first d refl in also js f f.kind
first (postfix_index {a = a} {b = b} {js = js} d o e c) z = let f = first d refl in also (a ∷ (js ++ b ∷ [])) f f.kind
first (postfix_try {a = a} d o) z = let f = first d refl in also (a ∷ []) f f.kind
first (postfix_field {a = a} {js = js} d o e) z = let f = first d refl in also (a ∷ js) f f.kind
first (postfix_number {a = a} {b = b} d o e) z = let f = first d refl in also (a ∷ b ∷ []) f f.kind
first (postfix_method {a = a} {js = js} {is = is} d o e g) z = let f = first d refl in also (a ∷ (js ++ is)) f f.kind
first (unary_prefix {a = a} {ks = ks} h d) z = kept_first a ks (prefix_operand a.kind (prefix_kind a h))
first (unary_ref {a = a} {ks = ks} o d) z = kind_first a ks AMP o refl
first (unary_ref_mut {a = a} {b = b} {ks = ks} o m d) z = kind_first a (b ∷ ks) AMP o refl
first (unary_postfix d) z = let f = first d refl in alone f (atom_operand f.r.kind f.kind)
first (binary_unary d) z = let f = first d refl in alone f f.kind
first (binary_tighter h i d) z = let f = first d refl in alone f f.kind
first (binary_operator {os = os} {js = js} h i d o e) z = let f = first d refl in also (os ++ js) f f.kind
first (expression_binary d) z = let f = first d refl in alone f f.kind
first (expression_assign {os = os} {js = js} d o e) z = let f = first d refl in also (os ++ js) f f.kind
first (type_path d) z = let f = first d refl in alone f (rw (eqb-true f.r.kind IDENT f.kind) refl)
first (type_ref {a = a} {ks = ks} o d) z = kind_first a ks AMP o refl
first (type_ref_mut {a = a} {b = b} {ks = ks} o n d) z = kind_first a (b ∷ ks) AMP o refl
first (type_slice {a = a} {b = b} {ks = ks} o d c) z = kind_first a (ks ++ b ∷ []) L_BRACK o refl
first (with_block d) z = let f = first d refl in alone f (curly_block f.r.kind f.kind)
first (with_if d) z = let f = first d refl in alone f (if_block f.r.kind f.kind)
first (with_while {a = a} {ks = ks} {js = js} o d e) z = kind_first a (ks ++ js) WHILE_KW o refl
first (with_loop {a = a} {ks = ks} o d) z = kind_first a ks LOOP_KW o refl
first (if_of {a = a} {ks = ks} {js = js} {is = is} o d e g) z = kind_first a (ks ++ (js ++ is)) IF_KW o refl
first (block_of {a = a} {b = b} {ks = ks} o d c) z = kind_first a (ks ++ b ∷ []) L_CURLY o refl
first d z = absurd cc

abbrev pub before_operand : ℕ → Bool
before_operand k = one_of (MINUS ∷ BANG ∷ STAR ∷ AMP ∷ MUT_KW ∷ []) k

pub atom_alone : (k : ℕ) → is_atom k ≡ true → before_operand k ≡ false
atom_alone k h =
    rw (
      differ_back is_atom k MINUS h refl,
      differ_back is_atom k BANG h refl,
      differ_back is_atom k STAR h refl,
      differ_back is_atom k AMP h refl,
      differ_back is_atom k MUT_KW h refl,
    ) refl

-- whether an expression begins with a block is seen by its own tokens
settled : {ks : List Record} (l : List Record) (f : First Postfix ks) →
    starts_with_block (ks ++ l) ≡ starts_with_block ks
settled l f = let n = atom_alone f.r.kind f.kind in rw f.is (rw n refl)

past_operator : (r : Record) (rs : List Record) → before_operand r.kind ≡ true →
    starts_with_block (r ∷ rs) ≡ starts_with_block rs
past_operator r rs h = rw h refl

pub past_prefix : (r : Record) (rs : List Record) → IsOneOf r (MINUS ∷ BANG ∷ STAR ∷ []) →
    starts_with_block (r ∷ rs) ≡ starts_with_block rs
past_prefix r rs h = let e = h.among in past_operator r rs (search rules)

pub past_is : (r : Record) (rs : List Record) (k : ℕ) → Is r k → before_operand k ≡ true →
    starts_with_block (r ∷ rs) ≡ starts_with_block rs
past_is r rs k o h = past_operator r rs (rw o.kind_is h)

settled_unary : {ks : List Record} {t : Forest} → Derives Unary ks t → (l : List Record) →
    starts_with_block (ks ++ l) ≡ starts_with_block ks
settled_unary (unary_prefix {a = a} {ks = ks} h d) l =
    past_prefix a (ks ++ l) h ∙ settled_unary d l ∙ sym (past_prefix a ks h)
settled_unary (unary_ref {a = a} {ks = ks} o d) l =
    past_is a (ks ++ l) AMP o refl ∙ settled_unary d l ∙ sym (past_is a ks AMP o refl)
settled_unary (unary_ref_mut {a = a} {b = b} {ks = ks} o m d) l =
    past_is a (b ∷ (ks ++ l)) AMP o refl ∙ past_is b (ks ++ l) MUT_KW m refl ∙ settled_unary d l
    ∙ sym (past_is a (b ∷ ks) AMP o refl ∙ past_is b ks MUT_KW m refl)
settled_unary (unary_postfix d) l = settled l (first d refl)

pub settled_binary : {p : ℕ} {ks : List Record} {t : Forest} → Derives (Binary p) ks t → (l : List Record) →
    starts_with_block (ks ++ l) ≡ starts_with_block ks
settled_binary (binary_unary d) l = settled_unary d l
settled_binary (binary_tighter h i d) l = settled_binary d l
settled_binary (binary_operator {os = os} {js = js} h i d o e) l =
    rw append_assoc (settled_binary d ((os ++ js) ++ l) ∙ sym (settled_binary d (os ++ js)))

-- a block begins so, whatever follows it
pub block_starts : {ks : List Record} (l : List Record) → First WithBlock ks → starts_with_block (ks ++ l) ≡ true
block_starts l f = let n = atom_alone f.r.kind (block_atom f.r.kind f.kind) in rw (f.is, n) f.kind

-- the name that a path begins with
pub record Named (ks : List Record) : Type 0 where
  pub r : Record
  pub rs : List Record
  pub is : ks ≡ r ∷ rs
  pub name : IsName r

pub path_named : {ks : List Record} {t : Forest} → Derives Path ks t → Named ks
path_named (path_one (segment (reference {r = r} n))) = record { r = r; rs = []; is = refl; name = n }
path_named (path_more {os = os} {js = js} d w e) =
    let n = path_named d in
    record { r = n.r; rs = n.rs ++ (os ++ js); is = ap (λ (x : List Record). x ++ (os ++ js)) n.is; name = n.name }

-- one node
pub record Single (t : Forest) : Type 0 where
  pub kind : ℕ
  pub children : Forest
  pub is : t ≡ node none kind children

is_node : (k : ℕ) (x : Forest) → Single (node none k x)
is_node k x = record { kind = k; children = x; is = refl }

-- operands, blocks, conditions and loops
abbrev pub is_single : Category → Bool
is_single Atom = true
is_single Postfix = true
is_single Unary = true
is_single Block = true
is_single WithBlock = true
is_single If = true
is_single c = false

pub single : {c : Category} {ks : List Record} {t : Forest} → Derives c ks t → is_single c ≡ true → Single t
single (atom_literal h) z = is_node _ _
single (atom_path d) z = is_node _ _
single (atom_paren o d c) z = is_node _ _
single (atom_block d) z = single d refl
single (postfix_atom d) z = single d refl
single (postfix_call d n e) z = is_node _ _
single (postfix_index d o e c) z = is_node _ _
single (postfix_try d o) z = is_node _ _
single (postfix_field d o e) z = is_node _ _
single (postfix_number d o e) z = is_node _ _
single (postfix_method d o e g) z = is_node _ _
single (unary_prefix h d) z = is_node _ _
single (unary_ref o d) z = is_node _ _
single (unary_ref_mut o m d) z = is_node _ _
single (unary_postfix d) z = single d refl
single (block_of o d c) z = is_node _ _
single (with_block d) z = single d refl
single (with_if d) z = single d refl
single (with_while o d e) z = is_node _ _
single (with_loop o d) z = is_node _ _
single (if_of o d e g) z = is_node _ _
single d z = absurd cc
