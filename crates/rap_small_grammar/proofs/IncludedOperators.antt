-- Operators between two expressions are in the turns of the table.
use Rattle.std.proofs.Common.{◌≡◌, ◌≢◌, ◌≤◌, ℕ, Bool, true, false, not, ◌==◌, ◌&&◌, List, [], ◌∷◌, ◌++◌, None, refl, sym, ◌∙◌, arith}
use Rattle.rap_base.specs.TokenKind.{AMP, AMP2, AMPEQ, CARET, CARETEQ, EQ, EQ2, GTEQ, LTEQ, L_ANGLE, MINUS, MINUSEQ, NEQ, PERCENT, PERCENTEQ, PIPE, PIPE2, PIPEEQ, PLUS, PLUSEQ, R_ANGLE, SHL, SHLEQ, SHR, SHREQ, SLASH, SLASHEQ, STAR, STAREQ}
use Rattle.rap_events.proofs.Truth.{and_false}
use Rattle.rap_events.specs.Composite.{parts, width, begins_with}
use Rattle.rap_events.specs.Forest.{Forest, leaf}
use Rattle.rap_events.specs.OperatorTable.{powers}
use Rattle.rap_events.specs.Power.{power, power_in}
use Rattle.rap_events.specs.Record.{Record, next_kind}
use Rattle.rap_grammar_scripts.specs.Test.{holds}
use Rattle.rap_grammar_scripts.specs.Words.{is_at}
use Rattle.rap_small_grammar.specs.Derives.{Writes, tokens_of}
use Rattle.rap_small_grammar.proofs.IncludedRows.{Row, one_way, other_way, guards, puts_token, puts_operator}
use Rattle.rap_small_grammar.proofs.Operators.{one, by_truth, no_more, amp_apart, is_operand}
use Rattle.rap_grammar_table.specs.Known.{anything}
use Rattle.rap_small_grammar.proofs.IncludedTurns.{operator_of}
use Rattle.rap_grammar_table.proofs.OperatorHints.{is_angled}
use Rattle.rap_grammar_table.specs.Table.{Items, nil, piece, choice, unless, appended, tok, comp}
use Rattle.std.proofs.lemmas.Bool.{eqb-true}

-- the tokens of an operator before those of an operand
pub record Written (op : ℕ) (os js : List Record) : Type 0 where
  pub writes : Writes os op
  pub apart : op ≡ AMP → next_kind js ≡ AMP → (r : Record) → os ≡ r ∷ [] → r.joint ≢ true
  pub starts : is_operand (next_kind js) ≡ true

-- one of the ways of some items
data Way : Items → Items → Type 0 where
  this : {a : Items} → Way a a
  left : {a b w : Items} → Way a w → Way (choice a b nil) w
  right : {a b w : Items} → Way b w → Way (choice a b nil) w

way_row : {a w : Items} {x y : Forest} {xs : List Forest} {ks : List Record} → Way a w → (r : Items) →
    Row (appended w r) x xs ks y → Row (appended a r) x xs ks y
way_row this i r = r
way_row (left w) i r = one_way (way_row w i r)
way_row (right w) i r = other_way (way_row w i r)

-- it stands in the row of its power
abbrev pub operator_items : ℕ → Items → Items
operator_items op r = operator_of (is_angled op) (power op) r

pub record Stood (op : ℕ) : Type 0 where
  pub row : {r : Items} {x y : Forest} {xs : List Forest} {os js : List Record} → Written op os js →
      Row r (leaf x op (width op)) xs js y → Row (operator_items op r) x xs (os ++ js) y

-- whether it is one between operands or an assignment
abbrev pub is_used : ℕ → Bool
is_used p = not (p == 2) && not (p == 12)

abbrev Used : ℕ → Type 0
Used op = is_used (power op) ≡ true → Stood op

unused : {op : ℕ} → is_used (power op) ≡ false → Used op
unused e = λ h. let n : false ≡ true = sym e ∙ h in absurd cc

long : (op : ℕ) → tokens_of (parts op) op ≡ parts op → Way (operator_items op nil) (piece (comp op) nil) →
    ((r : Items) → appended (operator_items op nil) r ≡ operator_items op r) → Used op
long op e w i = λ h. record { row = λ v r. rw (← (i _)) (way_row w _ (puts_operator e v.writes r)) }

short_row : {op : ℕ} {r : Items} {x y : Forest} {xs : List Forest} {os js : List Record} → parts op ≡ [] →
    Writes os op → Row r (leaf x op 1) xs js y → Row (piece (tok (op ∷ []) None) r) x xs (os ++ js) y
short_row {op = op} {os = os} e v r =
    let w = one op os (rw e at v.touching) in rw w.is (puts_token (record { kind_is = w.kind }) r)

width_one : (op : ℕ) → parts op ≡ [] → width op ≡ 1
width_one op e = rw e refl

short : (op : ℕ) → parts op ≡ [] → Way (operator_items op nil) (piece (tok (op ∷ []) None) nil) →
    ((r : Items) → appended (operator_items op nil) r ≡ operator_items op r) → Used op
short op e w i =
    λ h. record { row = λ v r. rw (← (i _)) (way_row w _ (short_row e v.writes (rw (width_one op e) at r))) }

-- one that does not touch a second token of its kind
guarded_row : {op twice : ℕ} {r : Items} {x y : Forest} {xs : List Forest} {os js : List Record} → parts op ≡ [] →
    Writes os op →
    ((a : Record) → a.kind ≡ op → os ≡ a ∷ [] → (l : List Record) → holds (is_at twice) (a ∷ (js ++ l)) ≡ false) →
    Row r (leaf x op 1) xs js y →
    Row (unless (is_at twice) anything (piece (tok (op ∷ []) None) r)) x xs (os ++ js) y
guarded_row {op = op} {os = os} e v n r =
    let w = one op os (rw e at v.touching) in
    rw w.is (guards (λ l. n w.r w.kind w.is l) (puts_token (record { kind_is = w.kind }) r))

starts_on : (js l : List Record) → is_operand (next_kind js) ≡ true → next_kind (js ++ l) ≡ next_kind js
starts_on [] l h = absurd cc
starts_on (r ∷ js) l h = refl

not_twice : (k : ℕ) (a : Record) (js l : List Record) → is_operand (next_kind js) ≡ true → is_operand k ≡ false →
    begins_with (k ∷ k ∷ []) (a ∷ (js ++ l)) ≡ false
not_twice k a js l h i =
    rw (no_more k [] (js ++ l) (rw (starts_on js l h) h) i, and_false a.joint, and_false (a.kind == k)) refl

pipe_used : ((r : Items) → appended (operator_items PIPE nil) r ≡ operator_items PIPE r) → Used PIPE
pipe_used i =
    λ h. record {
      row = λ {os = os} {js = js} v r.
          rw (← (i _)) (guarded_row refl v.writes (λ a k e l. not_twice PIPE a js l v.starts refl) r);
    }

angle_used : ((r : Items) → appended (operator_items L_ANGLE nil) r ≡ operator_items L_ANGLE r) → Used L_ANGLE
angle_used i =
    λ h. record {
      row = λ {os = os} {js = js} v r.
          rw (← (i _)) (guarded_row refl v.writes (λ a k e l. not_twice L_ANGLE a js l v.starts refl) r);
    }

amp_twice : (a : Record) (js l : List Record) → is_operand (next_kind js) ≡ true →
    (next_kind js ≡ AMP → a.joint ≢ true) → begins_with (AMP ∷ AMP ∷ []) (a ∷ (js ++ l)) ≡ false
amp_twice a js l h n =
    rw (amp_apart a (js ++ l) (λ e. n (sym (starts_on js l h) ∙ e)), and_false (a.kind == AMP)) refl

amp_used : ((r : Items) → appended (operator_items AMP nil) r ≡ operator_items AMP r) → Used AMP
amp_used i =
    λ h. record {
      row = λ {os = os} {js = js} v r.
          rw (← (i _))
          (guarded_row refl v.writes (λ a k e l. amp_twice a js l v.starts (λ j. v.apart refl j a e)) r);
    }

infixr 3 ◌then◌
data EachUsed : List (ℕ × ℕ) → Type 0 where
  none_left : EachUsed []
  ◌then◌ : {row : ℕ × ℕ} {rows : List (ℕ × ℕ)} → Used row.0 → EachUsed rows → EachUsed (row ∷ rows)

all_used : EachUsed powers
all_used =
    long PIPE2 refl this (λ r. refl) then
    long PIPEEQ refl (left this) (λ r. refl) then
    pipe_used (λ r. refl) then
    long SHREQ refl (right (left this)) (λ r. refl) then
    long SHR refl this (λ r. refl) then
    long GTEQ refl (left this) (λ r. refl) then
    short R_ANGLE refl (right (left this)) (λ r. refl) then
    long EQ2 refl (right (right (left this))) (λ r. refl) then
    short EQ refl (right (right (left this))) (λ r. refl) then
    long LTEQ refl (right (right (right (left this)))) (λ r. refl) then
    long SHLEQ refl this (λ r. refl) then
    long SHL refl this (λ r. refl) then
    angle_used (λ r. refl) then
    long PLUSEQ refl (right (right (right (left this)))) (λ r. refl) then
    short PLUS refl (left this) (λ r. refl) then
    long CARETEQ refl (right (right (right (right (left this))))) (λ r. refl) then
    short CARET refl this (λ r. refl) then
    long PERCENTEQ refl (right (right (right (right (right (left this)))))) (λ r. refl) then
    short PERCENT refl (left this) (λ r. refl) then
    long AMPEQ refl (right (right (right (right (right (right (left this))))))) (λ r. refl) then
    long AMP2 refl this (λ r. refl) then
    amp_used (λ r. refl) then
    long SLASHEQ refl (right (right (right (right (right (right (right (left this)))))))) (λ r. refl) then
    short SLASH refl (right (left this)) (λ r. refl) then
    long STAREQ refl (right (right (right (right (right (right (right (right (left this))))))))) (λ r. refl) then
    short STAR refl (right (right this)) (λ r. refl) then
    unused refl then
    unused refl then
    long NEQ refl (right (right (right (right this)))) (λ r. refl) then
    long MINUSEQ refl (right (right (right (right (right (right (right (right (right this))))))))) (λ r. refl) then
    short MINUS refl (right this) (λ r. refl) then
    unused refl then none_left

used_in : (rows : List (ℕ × ℕ)) (op : ℕ) → EachUsed rows → 1 ≤ power_in rows op → Used op
used_in [] op u h = absurd (omega arith)
used_in (row ∷ rows) op (u then us) h =
    by_truth (row.0 == op) (λ e. rw (eqb-true row.0 op e) at u) (λ e. used_in rows op us (rw e at h))

pub stood : (op : ℕ) → 1 ≤ power op → is_used (power op) ≡ true → Stood op
stood op h u = used_in powers op all_used h u
