-- Tokens that are neither float numbers nor contextual keywords: their kinds alone give their records.
use Rattle.std.proofs.Common.{◌≡◌, ◌≢◌, ℕ, zero, suc, Bool, true, false, ◌+◌, ◌-◌, ◌<◌, ◌≤◌, List, [], ◌∷◌, ◌++◌, All, cond, length, map, take, drop, slice_range, get_or-drop, refl, ap, sym, ◌∙◌, subst, inl, inr, arith, append_assoc, append-nil, length-drop}
use Rattle.std.specs.Prelude.{◌==◌, ◌&&◌, ◌||◌, not, unwrap_or}
use Rattle.std.proofs.lemmas.Bool.{cases_Bool, cases_lt, cond-true, cond-false, ne_eqb}
use Rattle.std.proofs.lemmas.List.{drop-drop, drop-map, take_all, take-take, length-map, length-take-le, nil_from_length}
use Rattle.std.proofs.lemmas.List.Elements.{All-head, All-tail}
use Rattle.rap_base.specs.Keyword.{from_contextual_keyword}
use Rattle.rap_base.specs.TokenKind.{EOF, FLOAT_NUMBER, IDENT}
use Rattle.rap_base.specs.Word.{is_ever_contextual}
use Rattle.rap_base.specs.declared.edition.Edition.{Edition}
use Rattle.rap_base.proofs.WordTable.{never}
use Rattle.rap_events.specs.KindRecords.{touches, contextual_of_kind, kind_record, kind_records}
use Rattle.rap_events.specs.Record.{Record}
use Rattle.rap_lexed.specs.Contextual.{is_contextual_token, ArePlain}
use Rattle.rap_lexed.specs.Input.{contextual_of, ends_with_dot, joint_of, records}
use Rattle.rap_lexed.specs.LexedStr.{Token, token_at}
use Rattle.rap_lexed.specs.Trivia.{is_trivial}
use Rattle.rap_lexed.proofs.Records.{record_of, records-trivial, records-significant}

abbrev kind_of : Token → ℕ
kind_of t = t.kind

abbrev IsNoFloat : ℕ → Type 0
IsNoFloat kind = kind ≢ FLOAT_NUMBER

-- what a token that is no contextual keyword may be read as
contextual-plain : (t : Token) (edition : Edition) → is_contextual_token t ≡ false → contextual_of t edition ≡ contextual_of_kind t.kind
contextual-plain t edition plain =
    let keyword : ℕ = unwrap_or (from_contextual_keyword t.text edition) IDENT in
    elim (cases_Bool (t.kind == IDENT)) as (λ _. contextual_of t edition ≡ contextual_of_kind t.kind) [
      | inl e ↦
          let ever : is_ever_contextual t.text ≡ false = ap (λ b. b && is_ever_contextual t.text) (sym e) ∙ plain in
          cond-true (t.kind == IDENT) keyword EOF e ∙ (ap (λ k. unwrap_or k IDENT) (never t.text edition ever) ∙ sym (cond-true (t.kind == IDENT) IDENT EOF e))
      | inr e ↦ cond-false (t.kind == IDENT) keyword EOF e ∙ sym (cond-false (t.kind == IDENT) IDENT EOF e)
    ]

joint-bits : (trivia ident float dot next : Bool) → trivia ≡ false → float ≡ false → cond ident false (cond float dot next) ≡ (not (trivia || ident) && next)
joint-bits true ident float dot next e f = cc
joint-bits false true float dot next e f = refl
joint-bits false false true dot next e f = cc
joint-bits false false false dot next e f = refl

abbrev record_with : ℕ → Edition → ℕ → Bool → Record
record_with kind edition contextual joint = record { kind = kind; contextual = contextual; edition = edition; joint = joint }

-- the record of such a token before another
record-plain : (t u : Token) (us : List Token) (edition : Edition) → t.kind ≢ FLOAT_NUMBER → is_contextual_token t ≡ false → records (t ∷ u ∷ us) edition ≡ kind_record t.kind (touches t.kind && touches u.kind) edition ++ records (u ∷ us) edition
record-plain t u us edition other plain =
    let joint : Bool = touches t.kind && touches u.kind in
    let one : Record = record_with t.kind edition (contextual_of_kind t.kind) joint in
    elim (cases_Bool (is_trivial t)) as (λ _. records (t ∷ u ∷ us) edition ≡ kind_record t.kind joint edition ++ records (u ∷ us) edition) [
      | inl e ↦ records-trivial t (u ∷ us) edition e ∙ sym (ap (λ l. l ++ records (u ∷ us) edition) (cond-true (is_trivial t) [] (one ∷ []) e))
      | inr e ↦
          let bits : joint_of t (u ∷ us) ≡ joint = joint-bits (is_trivial t) (t.kind == IDENT) (t.kind == FLOAT_NUMBER) (not (ends_with_dot t.text)) (touches u.kind) e (ne_eqb t.kind FLOAT_NUMBER other) in
          let same : record_of t (u ∷ us) edition ≡ one = ap (λ k. record_with t.kind edition k (joint_of t (u ∷ us))) (contextual-plain t edition plain) ∙ ap (record_with t.kind edition (contextual_of_kind t.kind)) bits in
          records-significant t (u ∷ us) edition e ∙ (ap (λ r. r ∷ records (u ∷ us) edition) same ∙ sym (ap (λ l. l ++ records (u ∷ us) edition) (cond-false (is_trivial t) [] (one ∷ []) e)))
    ]

-- the records of so many of them before another token
records-plain : (ts : List Token) (n : ℕ) (edition : Edition) → n < length ts → All IsNoFloat (take n (map kind_of ts)) → ArePlain (token_at ts) 0 n → records ts edition ≡ kind_records (take (suc n) (map kind_of ts)) edition ++ records (drop n ts) edition
records-plain [] n edition within floats plain = absurd (omega arith)
records-plain (t ∷ ts) zero edition within floats plain = refl
records-plain (t ∷ []) (suc n) edition within floats plain = absurd (omega arith)
records-plain (t ∷ u ∷ us) (suc n) edition within floats plain =
    let first : List Record = kind_record t.kind (touches t.kind && touches u.kind) edition in
    let rest = records-plain (u ∷ us) n edition (omega arith) (All-tail IsNoFloat t.kind (take n (map kind_of (u ∷ us))) floats) (λ i l h. plain (suc i) (omega arith) (omega arith)) in
    record-plain t u us edition (All-head IsNoFloat t.kind (take n (map kind_of (u ∷ us))) floats) (plain 0 (omega arith) (omega arith))
    ∙ (ap (λ l. first ++ l) rest ∙ sym (append_assoc first (kind_records (take (suc n) (map kind_of (u ∷ us))) edition) (records (drop n (u ∷ us)) edition)))

-- the length of a part
pub part-long : (xs : List ℕ) (from end : ℕ) → from ≤ end → end ≤ length xs → length (slice_range xs from end) ≡ end - from
part-long xs from end l h = length-take-le (end - from) (drop from xs) (omega (arith, length-drop from xs))

-- The kinds of the tokens from one place to another. Those before the last one are no contextual keywords, and the first
-- few of them no float numbers.
module _ (ts : List Token) (kinds run : List ℕ) (from end n : ℕ) (edition : Edition) (are : kinds ≡ map kind_of ts) (is : run ≡ slice_range kinds from end) (ordered : from ≤ end) (within : end ≤ length ts) (few : n ≤ length run - 1) (floats : All IsNoFloat (take n run)) (plain : ArePlain (token_at ts) from (end - 1)) where
  run-is : run ≡ take (end - from) (map kind_of (drop from ts))
  run-is = is ∙ (ap (λ l. take (end - from) (drop from l)) are ∙ ap (take (end - from)) (drop-map kind_of from ts))

  run-long : length run ≡ end - from
  run-long = ap length is ∙ part-long kinds from end ordered (omega (arith, within, ap length are, length-map ts kind_of))

  front : (m : ℕ) → m ≤ end - from → take m run ≡ take m (map kind_of (drop from ts))
  front m l = ap (take m) run-is ∙ take-take m (end - from) (map kind_of (drop from ts)) l

  -- where there is a kind, the records from there on begin with those of these tokens
  begin-plain : from < end → records (drop from ts) edition ≡ kind_records (take (n + 1) run) edition ++ records (drop (from + n) ts) edition
  begin-plain some =
      let inside : n + 1 ≤ end - from = omega (arith, run-long, few) in
      let there : All IsNoFloat (take n (map kind_of (drop from ts))) = subst (λ (l : List ℕ). All IsNoFloat l) (front n (omega arith)) floats in
      let none : ArePlain (token_at (drop from ts)) 0 n = λ i l h. ap is_contextual_token (get_or-drop from ts i (record { kind = EOF; text = [] })) ∙ plain (from + i) (omega arith) (omega arith) in
      let more : n + 1 ≡ suc n = omega arith in
      let same : take (suc n) (map kind_of (drop from ts)) ≡ take (n + 1) run = sym (ap (λ m. take m run) more ∙ front (suc n) (omega arith)) in
      records-plain (drop from ts) n edition (omega (arith, length-drop from ts, within)) there none
      ∙ (ap (λ l. kind_records l edition ++ records (drop n (drop from ts)) edition) same ∙ ap (λ l. kind_records (take (n + 1) run) edition ++ records l edition) (drop-drop n from ts))

  -- these tokens are done, and those after them are left
  pub run-done : (done all : List Record) → all ≡ done ++ kind_records (take (n + 1) run) edition → all ++ records (drop (from + n) ts) edition ≡ done ++ records (drop from ts) edition
  run-done done all e =
      elim (cases_lt from end) as (λ _. all ++ records (drop (from + n) ts) edition ≡ done ++ records (drop from ts) edition) [
        | inl some ↦
            ap (λ l. l ++ records (drop (from + n) ts) edition) e
            ∙ (append_assoc done (kind_records (take (n + 1) run) edition) (records (drop (from + n) ts) edition) ∙ ap (λ l. done ++ l) (sym (begin-plain some)))
        | inr none ↦
            let empty : run ≡ [] = nil_from_length run (omega (arith, run-long)) in
            let nothing : take (n + 1) run ≡ [] = ap (take (n + 1)) empty ∙ take_all (n + 1) [] (omega arith) in
            let same : all ≡ done = e ∙ (ap (λ l. done ++ kind_records l edition) nothing ∙ append-nil done) in
            let place : from + n ≡ from = omega (arith, run-long, few) in
            ap (λ l. l ++ records (drop (from + n) ts) edition) same ∙ ap (λ m. done ++ records (drop m ts) edition) place
      ]
