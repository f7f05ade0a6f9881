-- The records of tokens by their kinds, one more and in two parts.
use Rattle.std.proofs.Common.{◌≡◌, ℕ, zero, suc, ◌+◌, ◌-◌, ◌<◌, ◌≤◌, ◌==◌, inl, inr, Bool, true, ◌&&◌, List, [], ◌∷◌, ◌++◌, length, get_or, take, drop, slice_range, All, append-nil, append_assoc, get_or-drop, refl, ap, sym, subst, ◌∙◌, arith}
use Rattle.std.proofs.lemmas.Bool.{cases_Bool, cond-false, cond_both, eqb-true}
use Rattle.std.proofs.lemmas.List.{drop-take, get_or-take, length-take-le, take-take}
use Rattle.std.proofs.Math.Seq.{take-add}
use Rattle.std.proofs.lemmas.List.Elements.{All-nil, All-cons, All-head, All-tail, All-append}
use Rattle.rap_base.specs.TokenKind.{EOF, IDENT}
use Rattle.rap_base.specs.TokenTests.{is_token, is_trivia, IsTokenKind}
use Rattle.rap_base.specs.declared.edition.Edition.{Edition}
use Rattle.rap_events.specs.KindRecords.{touches, contextual_of_kind, kind_record, kind_records}
use Rattle.rap_events.specs.Record.{Record, IsTokenRecord}

-- one kind has no records, since it is that of the token after them
one_kind : (kinds : List ℕ) (edition : Edition) → kind_records (take 1 kinds) edition ≡ []
one_kind [] edition = refl
one_kind (kind ∷ kinds) edition = refl

pub none_yet : (old : List Record) (kinds : List ℕ) (n : ℕ) (edition : Edition) → n ≡ 1 → old ≡ old ++ kind_records (take n kinds) edition
none_yet old kinds n edition is =
    let none : kind_records (take n kinds) edition ≡ [] = ap (λ (m : ℕ). kind_records (take m kinds) edition) is ∙ one_kind kinds edition in
    sym (ap (λ (rs : List Record). old ++ rs) none ∙ append-nil old)

-- the records in two parts
pub kind_records-split : (kinds : List ℕ) (n : ℕ) (edition : Edition) → n < length kinds → kind_records kinds edition ≡ kind_records (take (suc n) kinds) edition ++ kind_records (drop n kinds) edition
kind_records-split [] n edition within = absurd (omega arith)
kind_records-split (kind ∷ kinds) zero edition within = refl
kind_records-split (kind ∷ []) (suc n) edition within = absurd (omega arith)
kind_records-split (kind ∷ next ∷ kinds) (suc n) edition within =
    let first : List Record = kind_record kind (touches kind && touches next) edition in
    ap (λ (rs : List Record). first ++ rs) (kind_records-split (next ∷ kinds) n edition (omega arith))
    ∙ sym (append_assoc first (kind_records (take (suc n) (next ∷ kinds)) edition) (kind_records (drop n (next ∷ kinds)) edition))

-- the records of the kinds up to a place, and of those from there on
pub kind_records-further : (kinds : List ℕ) (a b : ℕ) (edition : Edition) → a + b < length kinds →
    kind_records (take (a + 1) kinds) edition ++ kind_records (take (b + 1) (drop a kinds)) edition ≡ kind_records (take (a + b + 1) kinds) edition
kind_records-further kinds a b edition within =
    let all : List ℕ = take (a + b + 1) kinds in
    let long : length all ≡ a + b + 1 = length-take-le (a + b + 1) kinds (omega arith) in
    let more : suc a ≡ a + 1 = omega arith in
    let first : take (suc a) all ≡ take (a + 1) kinds = ap (λ (n : ℕ). take n all) more ∙ take-take (a + 1) (a + b + 1) kinds (omega arith) in
    let rest : drop a all ≡ take (b + 1) (drop a kinds) = ap (λ (n : ℕ). drop a (take n kinds)) (omega arith) ∙ drop-take a (b + 1) kinds in
    sym
    (kind_records-split all a edition (omega arith)
    ∙ ap (λ (ks : List ℕ). kind_records ks edition ++ kind_records (drop a all) edition) first
    ∙ ap (λ (ks : List ℕ). kind_records (take (a + 1) kinds) edition ++ kind_records ks edition) rest)

-- the tokens of a part are put after those before it
pub put_further : (old now new : List Record) (kinds part : List ℕ) (a c m n : ℕ) (edition same : Edition) → a < c → c ≤ length kinds → m ≡ a + 1 → n ≡ c → same ≡ edition →
    now ≡ old ++ kind_records (take m kinds) edition → part ≡ slice_range kinds a c → new ≡ now ++ kind_records part same → new ≡ old ++ kind_records (take n kinds) edition
put_further old now new kinds part a c m n edition same some within is_next is_end one so_far is wrote =
    let b : ℕ = c - a - 1 in
    let long : c - a ≡ b + 1 = omega arith in
    let whole : a + b + 1 ≡ n = omega arith in
    let inside : a + b < length kinds = omega arith in
    wrote
    ∙ ap (λ (e : Edition). now ++ kind_records part e) one
    ∙ ap (λ (rs : List Record). rs ++ kind_records part edition) (so_far ∙ ap (λ (i : ℕ). old ++ kind_records (take i kinds) edition) is_next)
    ∙ append_assoc old (kind_records (take (a + 1) kinds) edition) (kind_records part edition)
    ∙ ap (λ (ks : List ℕ). old ++ (kind_records (take (a + 1) kinds) edition ++ kind_records ks edition)) (is ∙ ap (λ (i : ℕ). take i (drop a kinds)) long)
    ∙ ap (λ (rs : List Record). old ++ rs) (kind_records-further kinds a b edition inside)
    ∙ ap (λ (i : ℕ). old ++ kind_records (take i kinds) edition) whole

-- what stands in a part
pub get_or-range : (xs : List ℕ) (a c i j d : ℕ) → a + i < c → a + i ≡ j → get_or (slice_range xs a c) i d ≡ get_or xs j d
get_or-range xs a c i j d within is =
    get_or-take (c - a) (drop a xs) i d (omega arith)
    ∙ get_or-drop a xs i d
    ∙ ap (λ (n : ℕ). get_or xs n d) is

-- what holds of the first elements and of those after them
pub All-further : (P : ℕ → Type 0) (xs : List ℕ) (a b n : ℕ) → n ≡ a + b → All P (take a xs) → All P (take b (drop a xs)) → All P (take n xs)
All-further P xs a b n is first rest =
    subst (λ (ys : List ℕ). All P ys) (sym (ap (λ (i : ℕ). take i xs) is ∙ take-add a b xs)) (All-append P (take a xs) (take b (drop a xs)) first rest)

-- each is a token's record
token_record : (kind : ℕ) (joint : Bool) (edition : Edition) → IsTokenKind kind → IsTokenRecord (record { kind = kind; contextual = contextual_of_kind kind; edition = edition; joint = joint })
token_record kind joint edition h = record {
  token = h.token;
  some = h.some;
  contextual = cond_both (kind == IDENT) IDENT EOF (λ (k : ℕ). is_token k ≡ true) (λ e. refl) (λ e. refl);
  identifier = λ other. elim (cases_Bool (kind == IDENT)) [
    | inl e ↦ eqb-true kind IDENT e
    | inr e ↦ absurd (other (cond-false (kind == IDENT) IDENT EOF e))
  ];
}

All-kind_record : (kind : ℕ) (joint : Bool) (edition : Edition) → IsTokenKind kind → All IsTokenRecord (kind_record kind joint edition)
All-kind_record kind joint edition h =
    let r : Record = record { kind = kind; contextual = contextual_of_kind kind; edition = edition; joint = joint } in
    cond_both (is_trivia kind) [] (r ∷ []) (λ (rs : List Record). All IsTokenRecord rs)
    (λ e. All-nil IsTokenRecord)
    (λ e. All-cons IsTokenRecord r [] (token_record kind joint edition h) (All-nil IsTokenRecord))

pub All-kind_records : (kinds : List ℕ) (edition : Edition) → All IsTokenKind kinds → All IsTokenRecord (kind_records kinds edition)
All-kind_records [] edition h = All-nil IsTokenRecord
All-kind_records (kind ∷ []) edition h = All-nil IsTokenRecord
All-kind_records (kind ∷ next ∷ kinds) edition h =
    All-append IsTokenRecord (kind_record kind (touches kind && touches next) edition) (kind_records (next ∷ kinds) edition)
    (All-kind_record kind (touches kind && touches next) edition (All-head IsTokenKind kind (next ∷ kinds) h))
    (All-kind_records (next ∷ kinds) edition (All-tail IsTokenKind kind (next ∷ kinds) h))
