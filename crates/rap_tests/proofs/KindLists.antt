-- Lists of kinds of tokens.
use Rattle.std.proofs.Common.{◌≡◌, ℕ, ◌==◌, ◌&&◌, not, Bool, true, List, [], ◌∷◌, All}
use Rattle.std.proofs.lemmas.Bool.{and_parts, eqb-false, not-true}
use Rattle.std.proofs.lemmas.List.Elements.{All-nil, All-cons}
use Rattle.std.specs.List.{list_all}
use Rattle.rap_base.specs.TokenKind.{EOF}
use Rattle.rap_base.specs.TokenTests.{is_token, IsTokenKind}

abbrev pub is_token_kind : ℕ → Bool
is_token_kind kind = is_token kind && not (kind == EOF)

-- that all are kinds of tokens is computed
pub All-tested : (kinds : List ℕ) → list_all is_token_kind kinds ≡ true → All IsTokenKind kinds
All-tested [] tested = All-nil IsTokenKind
All-tested (kind ∷ kinds) tested =
    let all = and_parts (is_token_kind kind) (list_all is_token_kind kinds) tested in
    let both = and_parts (is_token kind) (not (kind == EOF)) all.0 in
    All-cons IsTokenKind kind kinds (record { token = both.0; some = eqb-false kind EOF (not-true (kind == EOF) both.1) }) (All-tested kinds all.1)
