-- The records of an input's lists: one more, and the last one made joint.
use Rattle.std.proofs.Common.{◌≡◌, ◌≢◌, ℕ, ◌<◌, ◌≤◌, ◌+◌, ◌-◌, ◌*◌, ◌/◌, ◌%◌, ◌^◌, ◌==◌, inl, inr, Bool, true, false, List, [], ◌∷◌, ◌++◌, not, cond, length, max, get_or, set, take, map, replicate, append-nil, refl, ap, sym, subst, ◌∙◌, arith, All}
use Rattle.std.proofs.lemmas.List.FromFn.{length-map-range_with_len, get_or-map-range_with_len, map-range_with_len_more, fill_by_all}
use Rattle.std.proofs.Math.Bool.{or-true, or-false}
use Rattle.std.proofs.lemmas.Bool.{cases_lt, cond-true, lt-ltb, false_from_ne_true, true≢false}
use Rattle.std.proofs.lemmas.Bool.Decides.{eqb_tells}
use Rattle.std.proofs.lemmas.List.{get_or-set_same, get_or-set_other, get_or_default, get_or_past, get_or_append_left, get_or-append_right, get_or-replicate, length-replicate, length-set, take_all}
use Rattle.std.proofs.lemmas.Nat.Bits.{bit_at_or, bit_at-zero}
use Rattle.std.specs.Int.{bit_at, from_bool}
use Rattle.std.specs.Int.Bits.{bit_or}
use Rattle.std.specs.List.{range_with_len}
use Rattle.std.specs.Prelude.{nat_lt}
use Rattle.rap_base.specs.NodeKind.{PATH_META}
use Rattle.rap_base.specs.TokenKind.{EOF, IDENT}
use Rattle.rap_base.specs.declared.edition.Edition.{Edition}
use Rattle.rap_base.proofs.Bits.{bit-with}
use Rattle.rap_base.specs.Bits.{bit}
use Rattle.rap_events.specs.Record.{Record, IsTokenRecord, with_last_joint}
use Rattle.rap_events.specs.Input.{CONTEXTUAL, kind_of_code, contextual_of_code, record_at, records, Holds, HasPlace}
use Rattle.rap_events.specs.KindRecords.{contextual_of_kind}
use Rattle.rap_events.specs.declared.input.columns.Columns.{Columns}
use Rattle.rap_events.proofs.Records.{IsAt, IsPast, is_at-get_or, is_past}

pub length-records : (columns : Columns) (len : ℕ) → length (records columns len) ≡ len
unfolding records
length-records columns len = length-map-range_with_len (record_at columns) 0 len

at_place : (columns : Columns) (len i : ℕ) (d : Record) → i < len → get_or (records columns len) i d ≡ record_at columns i
unfolding records
at_place columns len i d small = get_or-map-range_with_len (record_at columns) 0 len i i d small (omega arith)

-- what the list of records says of a place that has one
pub reads : (columns : Columns) (len i : ℕ) → i < len → IsAt (records columns len) i (record_at columns i)
reads columns len i small =
    rw (← at_place columns len i (record_at columns i) small) (is_at-get_or (records columns len) i (record_at columns i) (omega (arith, length-records columns len)))

-- what it says of a place past the last one
pub reads_past : (columns : Columns) (len i : ℕ) → len ≤ i → IsPast (records columns len) i
reads_past columns len i past = is_past (records columns len) i (omega (arith, length-records columns len))

-- the records follow from what stands in their places
pub same_records : (old new : Columns) (len : ℕ) → ((i : ℕ) → i < len → record_at new i ≡ record_at old i) → records new len ≡ records old len
unfolding records
same_records old new len same =
    fill_by_all (record_at old) (map (record_at new) (range_with_len 0 len)) len (record_at old 0) (length-map-range_with_len (record_at new) 0 len)
    (λ i small. get_or-map-range_with_len (record_at new) 0 len i i (record_at old 0) small (omega arith) ∙ same i small)

-- one record more
pub one_more : (columns : Columns) (len : ℕ) → records columns (len + 1) ≡ records columns len ++ record_at columns len ∷ []
unfolding records
one_more columns len = map-range_with_len_more (record_at columns) 0 len len (omega arith)

-- the last record made joint
last_joint : (rs : List Record) (r : Record) → with_last_joint (rs ++ r ∷ []) ≡ rs ++ (record r { joint = true }) ∷ []
last_joint [] r = refl
last_joint (q ∷ []) r = refl
last_joint (q ∷ s ∷ rs) r = ap (λ (xs : List Record). q ∷ xs) (last_joint (s ∷ rs) r)

pub made_joint : (old new : Columns) (len : ℕ) → ((i : ℕ) → i < len → record_at new i ≡ record_at old i) → record_at new len ≡ record (record_at old len) { joint = true } → records new (len + 1) ≡ with_last_joint (records old (len + 1))
made_joint old new len same last =
    one_more new len
    ∙ ap (λ (rs : List Record). rs ++ record_at new len ∷ []) (same_records old new len same)
    ∙ ap (λ (r : Record). records old len ++ r ∷ []) last
    ∙ sym (last_joint (records old len) (record_at old len))
    ∙ ap with_last_joint (sym (one_more old len))

pub written : (old new : Columns) (len : ℕ) (r : Record) → ((i : ℕ) → i < len → record_at new i ≡ record_at old i) → record_at new len ≡ r → records new (len + 1) ≡ records old len ++ r ∷ []
written old new len r same last =
    one_more new len
    ∙ ap (λ (rs : List Record). rs ++ record_at new len ∷ []) (same_records old new len same)
    ∙ ap (λ (x : Record). records old len ++ x ∷ []) last

-- a record by its fields
abbrev pub record_of : ℕ → ℕ → Edition → Bool → Record
record_of kind contextual edition joint = record { kind = kind; contextual = contextual; edition = edition; joint = joint }

pub by_fields : (kind kind' contextual contextual' : ℕ) (edition edition' : Edition) (joint joint' : Bool) → kind ≡ kind' → contextual ≡ contextual' → edition ≡ edition' → joint ≡ joint' →
    record_of kind contextual edition joint ≡ record_of kind' contextual' edition' joint'
by_fields kind kind' contextual contextual' edition edition' joint joint' p q r s = cc

-- a record by its code
abbrev pub coded : ℕ → Edition → Bool → Record
coded code edition joint = record_of (kind_of_code code) (contextual_of_code code) edition joint

by_code : (code code' : ℕ) (edition edition' : Edition) (joint joint' : Bool) → code ≡ code' → edition ≡ edition' → joint ≡ joint' → coded code edition joint ≡ coded code' edition' joint'
by_code code code' edition edition' joint joint' p q r =
    by_fields _ _ _ _ _ _ _ _ (ap (λ (n : ℕ). kind_of_code n) p) (ap (λ (n : ℕ). contextual_of_code n) p) q r

-- the code that is a kind's number
pub plain : (kind : ℕ) (edition : Edition) (joint : Bool) → kind ≤ PATH_META → coded kind edition joint ≡ record_of kind (contextual_of_kind kind) edition joint
plain kind edition joint is =
    let below : nat_lt kind CONTEXTUAL ≡ true = lt-ltb kind CONTEXTUAL (omega arith) in
    by_fields _ _ _ _ _ _ _ _ (cond-true (nat_lt kind CONTEXTUAL) kind IDENT below) (cond-true (nat_lt kind CONTEXTUAL) (contextual_of_kind kind) (kind - CONTEXTUAL) below) refl refl

-- a token that an input has, at its place
pub token_at : (columns : Columns) (len i : ℕ) → All IsTokenRecord (records columns len) → i < len → IsTokenRecord (record_at columns i)
token_at columns len i tokens small =
    let r : Record = record_at columns i in
    subst (λ (q : Record). IsTokenRecord q) (at_place columns len i r small) (tokens i r (omega (arith, length-records columns len)))

-- the first records stay where what stands in their places does
pub kept : (old new : Columns) (len : ℕ) →
    ((i : ℕ) → i < len → get_or new.codes.items i EOF ≡ get_or old.codes.items i EOF) →
    ((i : ℕ) → i < len → get_or new.editions.items i new.edition ≡ get_or old.editions.items i old.edition) →
    ((i : ℕ) → i < len → bit new.joints.items i ≡ bit old.joints.items i) →
    records new len ≡ records old len
kept old new len codes editions joints =
    same_records old new len (λ i small. by_code _ _ _ _ _ _ (codes i small) (editions i small) (joints i small))

-- a list of one value, wherever it is read
pub all_same : {X : Type 0} (m j : ℕ) (x : X) → get_or (replicate m x) j x ≡ x
all_same m j x = elim (cases_lt j m) [
  | inl within ↦ get_or-replicate m j x x within
  | inr past ↦ get_or_past (replicate m x) j x (omega (arith, length-replicate m x))
]

-- further words without bits
zero_words : (words : List ℕ) (m j : ℕ) → get_or (words ++ replicate m 0) j 0 ≡ get_or words j 0
zero_words words m j = elim (cases_lt j (length words)) [
  | inl within ↦ get_or_append_left words (replicate m 0) 0 j within
  | inr past ↦ get_or-append_right words (replicate m 0) (length words) j 0 refl past ∙ all_same m (j - length words) 0 ∙ sym (get_or_past words j 0 past)
]

pub bit-filled : (old new : List ℕ) (n m i : ℕ) → length old ≤ n → new ≡ take n old ++ replicate m 0 → bit new i ≡ bit old i
unfolding bit
bit-filled old new n m i fits filled =
    ap (λ (words : List ℕ). bit_at (get_or words (i / 64) 0) (i % 64) == 1) (filled ∙ ap (λ (words : List ℕ). words ++ replicate m 0) (take_all n old fits))
    ∙ ap (λ (word : ℕ). bit_at word (i % 64) == 1) (zero_words old m (i / 64))

-- the joints with the bit of one more record
abbrev pub with_joint : List ℕ → ℕ → Bool → List ℕ
with_joint words i joint = set words (i / 64) (bit_or (get_or words (i / 64) 0) (from_bool joint * 2 ^ (i % 64) % 18446744073709551616))

max_zero : (x : ℕ) → max x 0 ≡ x
max_zero x = omega arith

no_more : (words : List ℕ) (i k : ℕ) → i / 64 < length words → bit (with_joint words i false) k ≡ bit words k
unfolding bit
no_more words i k within =
    let none : from_bool false * 2 ^ (i % 64) % 18446744073709551616 ≡ 0 = omega arith in
    let word = get_or words (i / 64) 0 in
    elim (eqb_tells (i / 64) (k / 64)) [
      | inl (equal, same) ↦
          rw (← same, get_or-set_same words (i / 64) _ 0 within)
          (ap (λ n. n == 1) (ap (λ m. bit_at (bit_or word m) (k % 64)) none ∙ bit_at_or word 0 (k % 64) ∙ ap (max (bit_at word (k % 64))) (bit_at-zero (k % 64)) ∙ max_zero (bit_at word (k % 64))))
      | inr (unequal, apart) ↦ ap (λ n. bit_at n (k % 64) == 1) (get_or-set_other words (i / 64) (k / 64) _ 0 (λ e. apart (sym e)))
    ]

pub joint_other : (words : List ℕ) (i : ℕ) (joint : Bool) (k : ℕ) → i / 64 < length words → i ≢ k → bit (with_joint words i joint) k ≡ bit words k
joint_other words i true k within other =
    bit-with words i k within ∙ elim (eqb_tells i k) [
      | inl (equal, same) ↦ absurd (other same)
      | inr (unequal, differs) ↦ rw (unequal, or-false) refl
    ]
joint_other words i false k within other = no_more words i k within

bit_set : (words : List ℕ) (i : ℕ) → i / 64 < length words → bit (with_joint words i true) i ≡ true
bit_set words i within = bit-with words i i within ∙ elim (eqb_tells i i) [
  | inl (equal, same) ↦ rw (equal, or-true) refl
  | inr (unequal, differs) ↦ absurd (differs refl)
]

pub joint_same : (words : List ℕ) (i : ℕ) (joint : Bool) → i / 64 < length words → bit words i ≡ false → bit (with_joint words i joint) i ≡ joint
joint_same words i true within clear = bit_set words i within
joint_same words i false within clear = no_more words i i within ∙ clear

pub no_records : (columns : Columns) → records columns 0 ≡ []
unfolding records
no_records columns = refl

-- what stood in a list of editions stays there once it is filled up, also if it is not in use
pub filled : (old new : List Edition) (room len : ℕ) →
    ((i : ℕ) (d : Edition) → i < room → i < length old → get_or new i d ≡ get_or old i d) →
    (length old ≡ 0 → new ≡ old) →
    len ≤ room →
    (0 < length old → len ≤ length old) →
    (i : ℕ) (d : Edition) → i < len → get_or new i d ≡ get_or old i d
filled old new room len same unused fits within i d small = elim (cases_lt 0 (length old)) [
  | inl used ↦ same i d (omega arith) (omega (arith, within used))
  | inr none ↦ ap (λ (xs : List Edition). get_or xs i d) (unused (omega arith))
]

-- an empty list of editions filled up with the edition of all records
pub all_filled : (old new : List Edition) (n m i : ℕ) (all : Edition) → length old ≡ 0 → new ≡ take n old ++ replicate m all → get_or new i all ≡ get_or old i all
all_filled old new n m i all none is =
    ap (λ (xs : List Edition). get_or xs i all) (is ∙ ap (λ (xs : List Edition). xs ++ replicate m all) (take_all n old (omega arith)))
    ∙ get_or-append_right old (replicate m all) (length old) i all refl (omega arith)
    ∙ all_same m (i - length old) all
    ∙ sym (get_or_past old i all (omega arith))

-- the lists filled up to so many places
pub grew : (old new : Columns) (len room : ℕ) → Holds old len → 64 * length new.joints.items ≤ room → length old.joints.items ≤ length new.joints.items → length new.codes.items ≡ room → (0 < length new.editions.items → length new.editions.items ≡ room) → ((i : ℕ) → bit new.joints.items i ≡ bit old.joints.items i) → Holds new len
grew old new len room holds within words codes editions bits = record {
  room = omega (arith, holds.room);
  codes = omega arith;
  editions = λ used. omega (arith, editions used);
  clear = λ i past. bits i ∙ holds.clear i past;
}

-- what stands in a place of a list of editions, once one was set there; an empty list has that of all records
edition_set : (editions : List Edition) (place : ℕ) (edition all : Edition) → (length editions ≡ 0 → all ≡ edition) → (0 < length editions → place < length editions) → get_or (set editions place edition) place all ≡ edition
edition_set editions place edition all one within = elim (cases_lt 0 (length editions)) [
  | inl used ↦ get_or-set_same editions place edition all (within used)
  | inr unused ↦ get_or_past (set editions place edition) place all (omega (arith, length-set editions place edition)) ∙ one (omega arith)
]

-- what stands in a place once a record is written there
pub record Wrote (old new : Columns) (place code : ℕ) (edition : Edition) (joint : Bool) : Type 0 where
  pub codes : new.codes.items ≡ set old.codes.items place code
  pub common : new.edition ≡ old.edition
  pub editions : new.editions.items ≡ set old.editions.items place edition
  pub joints : new.joints.items ≡ with_joint old.joints.items place joint

-- the lists keep their places
same_places : (old new : Columns) (place code : ℕ) (edition : Edition) (joint : Bool) (end : ℕ) → Wrote old new place code edition joint → Holds old place → end ≤ 64 * length old.joints.items → ((i : ℕ) → end ≤ i → bit new.joints.items i ≡ false) → Holds new end
same_places old new place code edition joint end wrote holds room clear =
    let codes : length new.codes.items ≡ length old.codes.items = ap length wrote.codes ∙ length-set old.codes.items place code in
    let editions : length new.editions.items ≡ length old.editions.items = ap length wrote.editions ∙ length-set old.editions.items place edition in
    let joints : length new.joints.items ≡ length old.joints.items = ap length wrote.joints ∙ length-set old.joints.items (place / 64) _ in
    record {
      room = omega arith;
      codes = omega (arith, holds.codes);
      editions = λ used.
          let before : 0 < length old.editions.items = omega arith in
          omega (arith, holds.editions before);
      clear = clear;
    }

pub wrote-holds : (old new : Columns) (place code : ℕ) (edition : Edition) (joint : Bool) → Wrote old new place code edition joint → Holds old place → place < 64 * length old.joints.items → Holds new (place + 1)
wrote-holds old new place code edition joint wrote holds room =
    let within : place / 64 < length old.joints.items = omega arith in
    same_places old new place code edition joint (place + 1) wrote holds (omega arith) (λ i past.
    let apart : place ≢ i = omega arith in
    let before : place ≤ i = omega arith in
    ap (λ (words : List ℕ). bit words i) wrote.joints ∙ joint_other old.joints.items place joint i within apart ∙ holds.clear i before)

-- what stands before the place stays
before : (old new : Columns) (place code : ℕ) (edition : Edition) (joint : Bool) → Wrote old new place code edition joint → place / 64 < length old.joints.items → (i : ℕ) → i < place → record_at new i ≡ record_at old i
before old new place code edition joint wrote within i small =
    let other : i ≢ place = omega arith in
    let apart : place ≢ i = omega arith in
    by_code _ _ _ _ _ _
    (ap (λ (xs : List ℕ). get_or xs i EOF) wrote.codes ∙ get_or-set_other old.codes.items place i _ EOF other)
    (ap (λ (all : Edition). get_or new.editions.items i all) wrote.common ∙ ap (λ (xs : List Edition). get_or xs i old.edition) wrote.editions ∙ get_or-set_other old.editions.items place i _ old.edition other)
    (ap (λ (words : List ℕ). bit words i) wrote.joints ∙ joint_other old.joints.items place joint i within apart)

pub wrote-records : (old new : Columns) (place code : ℕ) (edition : Edition) (joint : Bool) → Wrote old new place code edition joint → Holds old place → HasPlace old place edition → records new (place + 1) ≡ records old place ++ coded code edition joint ∷ []
wrote-records old new place code edition joint wrote holds has =
    let within : place / 64 < length old.joints.items = omega (arith, has.room) in
    let in_codes : place < length old.codes.items = omega (arith, has.room, holds.codes) in
    let last : record_at new place ≡ coded code edition joint =
    by_code _ _ _ _ _ _
    (ap (λ (xs : List ℕ). get_or xs place EOF) wrote.codes ∙ get_or-set_same old.codes.items place _ EOF in_codes)
    (ap (λ (all : Edition). get_or new.editions.items place all) wrote.common
    ∙ ap (λ (xs : List Edition). get_or xs place old.edition) wrote.editions
    ∙ edition_set old.editions.items place edition old.edition has.same (λ used. omega (arith, has.room, holds.editions used)))
    (ap (λ (words : List ℕ). bit words place) wrote.joints ∙ joint_same old.joints.items place joint within (holds.clear place (omega arith))) in
    written old new place (coded code edition joint) (before old new place code edition joint wrote within) last

-- a record without a joint bit is written, and the place stays free
passed-holds : (old new : Columns) (place code : ℕ) (edition : Edition) (joint : Bool) → Wrote old new place code edition joint → Holds old place → place < 64 * length old.joints.items → joint ≡ false → Holds new place
passed-holds old new place code edition joint wrote holds room none =
    let within : place / 64 < length old.joints.items = omega arith in
    same_places old new place code edition joint place wrote holds (omega arith) (λ i past.
    ap (λ (words : List ℕ). bit words i) wrote.joints
    ∙ ap (λ (j : Bool). bit (with_joint old.joints.items place j) i) none
    ∙ no_more old.joints.items place i within
    ∙ holds.clear i past)

passed-records : (old new : Columns) (place code : ℕ) (edition : Edition) (joint : Bool) → Wrote old new place code edition joint → place < 64 * length old.joints.items → records new place ≡ records old place
passed-records old new place code edition joint wrote room =
    let within : place / 64 < length old.joints.items = omega arith in
    same_records old new place (before old new place code edition joint wrote within)

-- a token is put at a place, where it stays unless it is trivia
pub put-holds : (old new : Columns) (place end code : ℕ) (edition : Edition) (joint trivia : Bool) → Wrote old new place code edition joint → Holds old place → place < 64 * length old.joints.items → (joint ≡ true → trivia ≡ false) → end ≡ place + from_bool (not trivia) → Holds new end
put-holds old new place end code edition joint false wrote holds room only is =
    let more : place + 1 ≡ end = omega arith in
    subst (λ (n : ℕ). Holds new n) more (wrote-holds old new place code edition joint wrote holds room)
put-holds old new place end code edition joint true wrote holds room only is =
    let same : place ≡ end = omega arith in
    let none : joint ≡ false = false_from_ne_true joint (λ e. true≢false (only e)) in
    subst (λ (n : ℕ). Holds new n) same (passed-holds old new place code edition joint wrote holds room none)

pub put-records : (old new : Columns) (place end code : ℕ) (edition : Edition) (joint trivia : Bool) → Wrote old new place code edition joint → Holds old place → HasPlace old place edition → end ≡ place + from_bool (not trivia) → records new end ≡ records old place ++ cond trivia [] (coded code edition joint ∷ [])
put-records old new place end code edition joint false wrote holds has is =
    let more : place + 1 ≡ end = omega arith in
    subst (λ (n : ℕ). records new n ≡ records old place ++ coded code edition joint ∷ []) more (wrote-records old new place code edition joint wrote holds has)
put-records old new place end code edition joint true wrote holds has is =
    let same : place ≡ end = omega arith in
    subst (λ (n : ℕ). records new n ≡ records old place ++ []) same (passed-records old new place code edition joint wrote has.room ∙ sym (append-nil (records old place)))

-- the word that is read and written back
pub as_with_joint : (words : List ℕ) (i : ℕ) (joint : Bool) (word number : ℕ) → i / 64 < length words → word ≡ get_or words (i / 64) word → number ≡ from_bool joint →
    set words (i / 64) (bit_or word (number * 2 ^ (i % 64) % 18446744073709551616)) ≡ with_joint words i joint
as_with_joint words i joint word number within read is =
    ap (λ w. set words (i / 64) (bit_or w (number * 2 ^ (i % 64) % 18446744073709551616))) (read ∙ get_or_default words (i / 64) word 0 within)
    ∙ ap (λ n. set words (i / 64) (bit_or (get_or words (i / 64) 0) (n * 2 ^ (i % 64) % 18446744073709551616))) is

-- the last record made joint, in the lists
pub record Joined (old new : Columns) (last : ℕ) : Type 0 where
  pub codes : new.codes.items ≡ old.codes.items
  pub edition : new.edition ≡ old.edition
  pub editions : new.editions.items ≡ old.editions.items
  pub joints : new.joints.items ≡ with_joint old.joints.items last true

pub joined-holds : (old new : Columns) (last : ℕ) → Joined old new last → Holds old (last + 1) → Holds new (last + 1)
joined-holds old new last joined holds =
    let codes : length new.codes.items ≡ length old.codes.items = ap length joined.codes in
    let editions : length new.editions.items ≡ length old.editions.items = ap length joined.editions in
    let joints : length new.joints.items ≡ length old.joints.items = ap length joined.joints ∙ length-set old.joints.items (last / 64) _ in
    let within : last / 64 < length old.joints.items = omega (arith, holds.room) in
    record {
      room = omega (arith, holds.room);
      codes = omega (arith, holds.codes);
      editions = λ used.
          let before : 0 < length old.editions.items = omega arith in
          omega (arith, holds.editions before);
      clear = λ i past.
          let apart : last ≢ i = omega arith in
          ap (λ (words : List ℕ). bit words i) joined.joints ∙ joint_other old.joints.items last true i within apart ∙ holds.clear i past;
    }

pub joined-records : (old new : Columns) (last : ℕ) → Joined old new last → Holds old (last + 1) → records new (last + 1) ≡ with_last_joint (records old (last + 1))
joined-records old new last joined holds =
    let within : last / 64 < length old.joints.items = omega (arith, holds.room) in
    let code : (i : ℕ) → get_or new.codes.items i EOF ≡ get_or old.codes.items i EOF = λ i. ap (λ (xs : List ℕ). get_or xs i EOF) joined.codes in
    let edition : (i : ℕ) → get_or new.editions.items i new.edition ≡ get_or old.editions.items i old.edition = λ i.
    ap (λ (all : Edition). get_or new.editions.items i all) joined.edition ∙ ap (λ (xs : List Edition). get_or xs i old.edition) joined.editions in
    made_joint old new last
    (λ i small.
    let apart : last ≢ i = omega arith in
    by_code _ _ _ _ _ _ (code i) (edition i)
    (ap (λ (words : List ℕ). bit words i) joined.joints ∙ joint_other old.joints.items last true i within apart))
    (by_code _ _ _ _ _ _ (code last) (edition last)
    (ap (λ (words : List ℕ). bit words last) joined.joints ∙ bit_set old.joints.items last within))
