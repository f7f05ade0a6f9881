-- Where the children of some fields stand: a part of a node's children.
use Rattle.std.specs.Prelude.{ℕ, ◌||◌, Bool, false, List, [], ◌∷◌, if◌then◌else◌}
use Rattle.rap_fields.specs.Field.{Field, attrs, doc_comments}
use Rattle.rap_fields.specs.FieldNames.{ATTRS, DOC_COMMENTS}
use Rattle.rap_fields.specs.declared.rule.Which.{Which}
use Rattle.rap_fields.specs.declared.rule.Which.TheVariants.{All}
use Rattle.rap_grammar_table.specs.Known.{among}
use Rattle.rap_grammar_table.specs.Shapes.{Child, leaf_child, node_child, message_child, float_child}

-- a leaf or a node of one of some kinds
pub data Mark : Type 0 where
  leaf_mark : List ℕ → Mark
  node_mark : List ℕ → Mark

abbrev pub is_mark : Mark → Child → Bool
is_mark (leaf_mark ks) (leaf_child k) = among ks k
is_mark (leaf_mark ks) (node_child k) = false
is_mark (leaf_mark ks) message_child = false
is_mark (leaf_mark ks) float_child = false
is_mark (node_mark ks) (leaf_child k) = false
is_mark (node_mark ks) (node_child k) = among ks k
is_mark (node_mark ks) message_child = false
is_mark (node_mark ks) float_child = false

-- Of a list, where a test tells its marks: whether there is one.
abbrev pub has_mark : {A : Type 0} → (A → Bool) → List A → Bool
has_mark m [] = false
has_mark m (c ∷ cs) = m c || has_mark m cs

-- what stands before the first mark, and before the last; all where there is none
abbrev pub before_first : {A : Type 0} → (A → Bool) → List A → List A
before_first m [] = []
before_first m (c ∷ cs) = if m c then [] else c ∷ before_first m cs

abbrev pub before_last : {A : Type 0} → (A → Bool) → List A → List A
before_last m [] = []
before_last m (c ∷ cs) =
    if has_mark m cs then c ∷ before_last m cs else (if m c then [] else c ∷ cs)

-- what stands behind the first mark; nothing where there is no mark
abbrev pub behind_first : {A : Type 0} → (A → Bool) → List A → List A
behind_first m [] = []
behind_first m (c ∷ cs) = if m c then cs else behind_first m cs

-- What is taken of some children: all; those before the first mark, or before the last, or all where there is none;
-- those before the first mark, or none where there is none; those behind it, or none; or those behind it, or all. And
-- those before the last or behind the first mark that stands before the first of other marks, or all where no mark
-- stands there. (Where there are no other marks, all children stand before them.)
pub data Cut : Type 0 where
  whole : Cut
  until : Mark → Cut
  until_last : Mark → Cut
  only_until : Mark → Cut
  behind : Mark → Cut
  past : Mark → Cut
  until_last_before : Mark → Mark → Cut
  past_before : Mark → Mark → Cut

-- The children are told by whatever stands for them: by themselves, or by numbers.
abbrev pub cut : {A : Type 0} → (A → Child) → Cut → List A → List A
cut f whole cs = cs
cut f (until m) cs = before_first (λ c. is_mark m (f c)) cs
cut f (until_last m) cs = before_last (λ c. is_mark m (f c)) cs
cut f (only_until m) cs = if has_mark (λ c. is_mark m (f c)) cs then before_first (λ c. is_mark m (f c)) cs else []
cut f (behind m) cs = behind_first (λ c. is_mark m (f c)) cs
cut f (past m) cs = if has_mark (λ c. is_mark m (f c)) cs then behind_first (λ c. is_mark m (f c)) cs else cs
cut f (until_last_before m n) cs =
    let front = before_first (λ c. is_mark n (f c)) cs in
    if has_mark (λ c. is_mark m (f c)) front then before_last (λ c. is_mark m (f c)) front else cs
cut f (past_before m n) cs =
    let front = before_first (λ c. is_mark n (f c)) cs in
    if has_mark (λ c. is_mark m (f c)) front then behind_first (λ c. is_mark m (f c)) cs else cs

-- A field by its number: which of the nodes in its part of the children it finds, and how many there are.
pub record FieldRow : Type 0 where
  pub number : ℕ
  pub which : Which
  pub field : Field
  pub cut : Cut

abbrev pub at : ℕ → Which → Field → Cut → FieldRow
at n w f c = record { number = n; which = w; field = f; cut = c }

abbrev pub anywhere : ℕ → Which → Field → FieldRow
anywhere n w f = at n w f whole

-- the attributes and the documentation of a node
abbrev pub attributes : FieldRow
attributes = anywhere ATTRS All attrs

abbrev pub documentation : FieldRow
documentation = anywhere DOC_COMMENTS All doc_comments
