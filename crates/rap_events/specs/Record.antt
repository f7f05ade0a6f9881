-- A token of a parser's input.
use Rattle.std.specs.Prelude.{◌≡◌, ◌≢◌, ℕ, Bool, true, false, List, [], ◌∷◌, zero, suc}
use Rattle.rap_base.specs.TokenKind.{EOF, IDENT}
use Rattle.rap_base.specs.TokenTests.{is_token}
use Rattle.rap_base.specs.declared.edition.Edition.{Edition}
use Rattle.rap_base.specs.declared.edition.Edition.TheVariants.{Edition2024}

-- its kind; what an identifier may be read as instead; its edition; and whether it touches the token after it
pub record Record : Type 0 where
  pub kind : ℕ
  pub contextual : ℕ
  pub edition : Edition
  pub joint : Bool

-- the kind of the first token, or the end
abbrev pub next_kind : List Record → ℕ
next_kind [] = EOF
next_kind (r ∷ rs) = r.kind

-- the kind of the token at a place, or the end
abbrev pub kind_at : List Record → ℕ → ℕ
kind_at [] n = EOF
kind_at (r ∷ rs) zero = r.kind
kind_at (r ∷ rs) (suc n) = kind_at rs n

-- what the identifier at a place may be read as; the end for any other token, and past the last one
abbrev pub contextual_at : List Record → ℕ → ℕ
contextual_at [] n = EOF
contextual_at (r ∷ rs) zero = r.contextual
contextual_at (r ∷ rs) (suc n) = contextual_at rs n

-- the edition of the token at a place, or the latest one past the last token
abbrev pub edition_at : List Record → ℕ → Edition
edition_at [] n = Edition2024
edition_at (r ∷ rs) zero = r.edition
edition_at (r ∷ rs) (suc n) = edition_at rs n

-- whether the token at a place touches the one after it
abbrev pub joint_at : List Record → ℕ → Bool
joint_at [] n = false
joint_at (r ∷ rs) zero = r.joint
joint_at (r ∷ rs) (suc n) = joint_at rs n

-- the same tokens, the last of which touches the one after it
abbrev pub with_last_joint : List Record → List Record
with_last_joint [] = []
with_last_joint (r ∷ []) = (record r { joint = true }) ∷ []
with_last_joint (r ∷ s ∷ rs) = r ∷ with_last_joint (s ∷ rs)

-- the token is no end, and only an identifier may be read as something else
pub record IsTokenRecord (r : Record) : Type 0 where
  pub token : is_token r.kind ≡ true
  pub some : r.kind ≢ EOF
  pub contextual : is_token r.contextual ≡ true
  pub identifier : r.contextual ≢ EOF → r.kind ≡ IDENT
