-- Tokens whose brackets are balanced, and the forest that nests as they do.
use Rattle.std.specs.Prelude.{◌≡◌, ◌≢◌, List, [], ◌∷◌, ◌++◌, true, false}
use Rattle.rap_base.specs.TokenKind.{EOF}
use Rattle.rap_base.specs.TokenTests.{is_l_delimiter, is_delimiter}
use Rattle.rap_base.specs.NodeKind.{TOKEN_TREE}
use Rattle.rap_events.specs.Record.{Record}
use Rattle.rap_events.specs.Fit.{partner}
use Rattle.rap_events.specs.Forest.{Forest, none, node, leaf, ◌⧺◌, message_count}
use Rattle.rap_events.specs.State.{State}

-- an opening bracket, and one that closes it
pub record ArePartners (a c : Record) : Type 0 where
  pub opens : is_l_delimiter a.kind ≡ true
  pub closes : c.kind ≡ partner a.kind

-- a token that is no bracket
pub record IsNoBracket (r : Record) : Type 0 where
  pub some : r.kind ≢ EOF
  pub inner : is_delimiter r.kind ≡ false

-- two brackets, and a forest between them, as one node
abbrev pub in_brackets : Record → Forest → Record → Forest
in_brackets a t c = node none TOKEN_TREE (leaf (leaf none a.kind 1 ⧺ t) c.kind 1)

-- A token that is no bracket is a leaf of its own kind. Two brackets with balanced tokens between them are one node.
pub data Balanced : List Record → Forest → Type 0 where
  nothing_more : Balanced [] none
  token_first : {r : Record} {ks : List Record} {t : Forest} → IsNoBracket r → Balanced ks t →
      Balanced (r ∷ ks) (leaf none r.kind 1 ⧺ t)
  list_first : {a c : Record} {js ks : List Record} {t u : Forest} → ArePartners a c → Balanced js t → Balanced ks u →
      Balanced (a ∷ (js ++ c ∷ ks)) (in_brackets a t c ⧺ u)

-- Where two brackets come next with balanced tokens between them, these became one node, with no message in it, and
-- what follows is left.
pub record NestsAsBrackets (old new : State) : Type 0 where
  pub nests : (a c : Record) (ks rs : List Record) (t : Forest) → ArePartners a c → Balanced ks t →
      old.rest ≡ a ∷ (ks ++ c ∷ rs) →
      (new.rest ≡ rs) × (new.forest ≡ old.forest ⧺ in_brackets a t c) × (message_count (in_brackets a t c) ≡ 0)
