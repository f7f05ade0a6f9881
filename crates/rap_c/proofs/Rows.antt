-- Records and their numbers.
use Rattle.std.proofs.Common.{◌≡◌, ◌≢◌, ℕ, zero, suc, ◌+◌, ◌<◌, ◌≤◌, List, [], ◌∷◌, ◌++◌, length, map, drop, get_or, true, false, min, refl, ap, sym, ◌∙◌, inl, inr, arith, add-one}
use Rattle.std.specs.Prelude.{if◌then◌else◌, All, slice_set}
use Rattle.std.proofs.lemmas.Bool.{cases_lt}
use Rattle.std.proofs.lemmas.List.{drop_all, drop_more, length-map}
use Rattle.rap_base.specs.Edition.{year}
use Rattle.rap_base.specs.TokenKind.{IDENT}
use Rattle.rap_base.specs.declared.edition.Edition.TheVariants.{Edition2024}
use Rattle.rap_events.specs.Record.{Record, IsTokenRecord, kind_at, contextual_at, edition_at, joint_at, with_last_joint}
use Rattle.rap_c.specs.Filling.{write_at}
use Rattle.rap_c.specs.Record.{IsNoInput, row_of}
use Rattle.rap_c.specs.Token.{record_in}
use Rattle.rap_c.specs.declared.record.RapRecord.{RapRecord}
use Rattle.rap_c.specs.declared.record.Token.{Token}
use Rattle.rap_c.proofs.Written.{write_at-nothing, write_at-past, write_at-set}

abbrev numbers : ℕ → ℕ → ℕ → ℕ → RapRecord
numbers kind contextual edition joint = record { kind = kind; contextual_kind = contextual; edition = edition; joint = joint }

at_place : (rs : List Record) (i : ℕ) (d : Record) → i < length rs
    → row_of (get_or rs i d) ≡ numbers (kind_at rs i) (contextual_at rs i) (year (edition_at rs i)) (if joint_at rs i then 1 else 0)
at_place [] i d h = absurd (omega (arith, h))
at_place (r ∷ rs) zero d h = refl
at_place (r ∷ rs) (suc n) d h = at_place rs n d (omega (arith, h))

any : Record
any = record { kind = 0; contextual = 0; edition = Edition2024; joint = false }

-- the numbers of the record at a place, and of those after it
pub row_next : (rs : List Record) (i kind contextual edition joint : ℕ) → i < length rs → kind ≡ kind_at rs i → contextual ≡ contextual_at rs i → edition ≡ year (edition_at rs i)
    → joint ≡ (if joint_at rs i then 1 else 0) → map row_of (drop i rs) ≡ numbers kind contextual edition joint ∷ map row_of (drop (i + 1) rs)
row_next rs i kind contextual edition joint h k c e j =
    ap (map row_of) (drop_more rs i any h)
    ∙ ap (λ x. x ∷ map row_of (drop (i + 1) rs))
    (at_place rs i any h
    ∙ ap (λ n. numbers n (contextual_at rs i) (year (edition_at rs i)) (if joint_at rs i then 1 else 0)) (sym k)
    ∙ ap (λ n. numbers kind n (year (edition_at rs i)) (if joint_at rs i then 1 else 0)) (sym c)
    ∙ ap (λ n. numbers kind contextual n (if joint_at rs i then 1 else 0)) (sym e)
    ∙ ap (λ n. numbers kind contextual edition n) (sym j))

-- one more is written
pub put_on : (rows : List RapRecord) (i : ℕ) (row : RapRecord) (rs : List Record) (whole : List RapRecord) → map row_of (drop i rs) ≡ row ∷ map row_of (drop (i + 1) rs)
    → write_at rows i (map row_of (drop i rs)) ≡ whole → write_at (slice_set rows i row) (i + 1) (map row_of (drop (i + 1) rs)) ≡ whole
put_on rows i row rs whole e h =
    ap (λ n. write_at (slice_set rows i row) n (map row_of (drop (i + 1) rs))) (add-one i)
    ∙ (write_at-set rows i row (map row_of (drop (i + 1) rs)) ∙ (ap (λ l. write_at rows i l) (sym e) ∙ h))

pub put_done : (rows : List RapRecord) (i : ℕ) (rs : List Record) (whole : List RapRecord) → min (length rs) (length rows) ≤ i → write_at rows i (map row_of (drop i rs)) ≡ whole → rows ≡ whole
put_done rows i rs whole past h = elim (cases_lt i (length rs)) [
  | inl low ↦ sym (write_at-past rows i (map row_of (drop i rs)) (omega (arith, past, low))) ∙ h
  | inr high ↦ sym (ap (λ l. write_at rows i (map row_of l)) (drop_all i rs high) ∙ write_at-nothing rows i) ∙ h
]

-- the last one is made to touch the next
pub last_joint : (rs : List Record) (r : Record) → with_last_joint (rs ++ r ∷ []) ≡ rs ++ (record r { joint = true }) ∷ []
last_joint [] r = refl
last_joint (s ∷ []) r = refl
last_joint (s ∷ t ∷ rs) r = ap (λ l. s ∷ l) (last_joint (t ∷ rs) r)

found : (rs : List Record) (i : ℕ) (d : RapRecord) → i < length rs → All IsTokenRecord rs → (r : Record) × ((get_or (map row_of rs) i d ≡ row_of r) × IsTokenRecord r)
found [] i d h all = absurd (omega (arith, h))
found (r ∷ rs) zero d h all = (r, (refl, all zero r (omega arith)))
found (r ∷ rs) (suc n) d h all = found rs n d (omega (arith, h)) (λ j e below. all (suc j) e (omega arith))

-- if one group of numbers is no record's, they are those of no input
pub no_input : (rows : List RapRecord) (i : ℕ) (d : RapRecord) → i < length rows → ((r : Record) → IsTokenRecord r → get_or rows i d ≢ row_of r) → IsNoInput rows
no_input rows i d h bad = λ rs input.
    let n : length rows ≡ length rs = ap length input.rows_are ∙ length-map rs row_of in
    let f = found rs i d (omega (arith, h, n)) input.tokens in
    bad f.0 f.1.1 (ap (λ l. get_or l i d) input.rows_are ∙ f.1.0)

-- an identifier that touches the next token
pub marked : (rs : List Record) (t : Token) → t.kind ≡ IDENT → t.joint ≡ true
    → with_last_joint (rs ++ record { kind = IDENT; contextual = t.contextual_kind; edition = t.edition; joint = false } ∷ []) ≡ rs ++ record_in t ∷ []
marked rs t e j =
    last_joint rs (record { kind = IDENT; contextual = t.contextual_kind; edition = t.edition; joint = false })
    ∙ (ap (λ k. rs ++ record { kind = k; contextual = t.contextual_kind; edition = t.edition; joint = true } ∷ []) (sym e)
    ∙ ap (λ b. rs ++ record { kind = t.kind; contextual = t.contextual_kind; edition = t.edition; joint = b } ∷ []) (sym j))
