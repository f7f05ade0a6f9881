-- The records of a text, appended one by one.
use Rattle.std.proofs.Common.{◌≡◌, refl, sym, ◌∙◌, ap, List, [], ◌∷◌, ◌++◌, ℕ, ◌+◌, ◌<◌, inl, inr, true, append_assoc, append-nil, ◌≤◌, length, drop, Some}
use Rattle.std.specs.Prelude.{unwrap_or, bytes_eq}
use Rattle.std.specs.List.{list_all}
use Rattle.std.proofs.lemmas.Bool.{and_parts, cases_Bool, cond-true, cond-false}
use Rattle.std.proofs.lemmas.List.{drop_more, drop_all}
use Rattle.rap_base.specs.TokenKind.{EOF, IDENT}
use Rattle.rap_base.specs.TokenTests.{is_token}
use Rattle.rap_base.specs.Keyword.{contextual, kind_of_word, from_contextual_keyword}
use Rattle.rap_base.specs.declared.edition.Edition.{Edition}
use Rattle.rap_base.specs.declared.edition.Edition.TheVariants.{Edition2015, Edition2018, Edition2021, Edition2024}
use Rattle.rap_events.specs.Record.{Record}
use Rattle.rap_lexed.specs.LexedStr.{Token, token_at}
use Rattle.rap_lexed.specs.Input.{records, records_at}
use Rattle.rap_lexed.specs.Trivia.{is_trivial}
use Rattle.rap_lexed.proofs.Records.{record_of, records-trivial, records-significant}

word-token : (rows : List (List ℕ × ℕ)) (text : List ℕ) → list_all (λ row. is_token row.1) rows ≡ true → is_token (unwrap_or (kind_of_word rows text) IDENT) ≡ true
word-token [] text h = refl
word-token (row ∷ rows) text h =
    let all = and_parts (is_token row.1) (list_all (λ row. is_token row.1) rows) h in
    elim (cases_Bool (bytes_eq text row.0)) [
      | inl e ↦ ap (λ k. is_token (unwrap_or k IDENT)) (cond-true (bytes_eq text row.0) (Some row.1) (kind_of_word rows text) e) ∙ all.0
      | inr e ↦ ap (λ k. is_token (unwrap_or k IDENT)) (cond-false (bytes_eq text row.0) (Some row.1) (kind_of_word rows text) e) ∙ word-token rows text all.1
    ]

-- what an identifier may be read as is a token's kind
pub contextual-token : (text : List ℕ) (edition : Edition) → is_token (unwrap_or (from_contextual_keyword text edition) IDENT) ≡ true
contextual-token text Edition2015 = word-token (contextual Edition2015) text refl
contextual-token text Edition2018 = word-token (contextual Edition2018) text refl
contextual-token text Edition2021 = word-token (contextual Edition2021) text refl
contextual-token text Edition2024 = word-token (contextual Edition2024) text refl

-- the records from a place on begin with that of the token there
pub records-more : (ts : List Token) (i : ℕ) (edition : Edition) → i < length ts → records (drop i ts) edition ≡ records_at ts i edition ++ records (drop (i + 1) ts) edition
records-more ts i edition h =
    let t = token_at ts i in
    let us = drop (i + 1) ts in
    ap (λ l. records l edition) (drop_more ts i (record { kind = EOF; text = [] }) h)
    ∙ elim (cases_Bool (is_trivial t)) as (λ _. records (t ∷ us) edition ≡ records_at ts i edition ++ records us edition) [
      | inl e ↦ records-trivial t us edition e ∙ ap (λ l. l ++ records us edition) (sym (cond-true (is_trivial t) [] (record_of t us edition ∷ []) e))
      | inr e ↦ records-significant t us edition e ∙ ap (λ l. l ++ records us edition) (sym (cond-false (is_trivial t) [] (record_of t us edition ∷ []) e))
    ]

-- one more token is done
pub records-step : (done next whole : List Record) (ts : List Token) (i : ℕ) (edition : Edition) → i < length ts → done ++ records (drop i ts) edition ≡ whole → next ≡ done ++ records_at ts i edition → next ++ records (drop (i + 1) ts) edition ≡ whole
records-step done next whole ts i edition h all e =
    ap (λ l. l ++ records (drop (i + 1) ts) edition) e
    ∙ append_assoc done (records_at ts i edition) (records (drop (i + 1) ts) edition)
    ∙ ap (λ l. done ++ l) (sym (records-more ts i edition h))
    ∙ all

-- all tokens are done
pub records-all : (done : List Record) (ts : List Token) (i : ℕ) (edition : Edition) → length ts ≤ i → done ++ records (drop i ts) edition ≡ records ts edition → done ≡ records ts edition
records-all done ts i edition h all = sym (append-nil done) ∙ sym (ap (λ l. done ++ records l edition) (drop_all i ts h)) ∙ all
