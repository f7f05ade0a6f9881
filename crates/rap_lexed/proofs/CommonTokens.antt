-- Common tokens, taken where a prefix of the text is cut into tokens.
use Rattle.std.proofs.Common.{◌≡◌, ℕ, ◌+◌, ◌-◌, ◌≤◌, nat_lt, slice_range, List, [], ◌∷◌, ◌++◌, take, drop, length, length-append, append-nil, refl, ap, sym, arith, ◌∙◌}
use Rattle.std.proofs.lemmas.List.Elements.{All-push}
use Rattle.std.specs.Prelude.{All, min}
use Rattle.rap_base.specs.TokenTests.{IsTokenKind}
use Rattle.rap_base.specs.declared.edition.Edition.{Edition}
use Rattle.rap_lexer.specs.declared.lexer.lexeme.Remark.TheVariants.{Nothing}
use Rattle.rap_lexed.specs.CommonTokens.{TakesCommon}
use Rattle.rap_lexed.specs.CommonTokens.TakesCommon.{none, more}
use Rattle.rap_lexed.specs.Contextual.{is_contextual_token, AreNoted}
use Rattle.rap_lexed.specs.LexedStr.{Token, Message, IsFirst}
use Rattle.rap_lexed.proofs.OpenStrings.{since_open_after, since_few, since_other}
use Rattle.rap_lexed.proofs.Contextual.{noted-more}
use Rattle.rap_lexed.proofs.Cuts.{piece}
use Rattle.rap_lexed.proofs.Upto.{Upto}
use Rattle.rap_lexed.proofs.Upto as upto

module _ (edition : Edition) (text : List ℕ) (header : List Token) (kinds starts numbers : List ℕ) (errors : List Message) (since from : ℕ) (u : Upto edition text header kinds starts errors since from) (first : All IsTokenKind kinds) (before : AreNoted (piece text kinds starts) 0 (length kinds) numbers) where
  -- a longer prefix is cut into tokens, with the same messages
  pub record Further (ks ss ns : List ℕ) (to : ℕ) : Type 0 where
    pub grows : length kinds ≤ length ks
    pub upto : Upto edition text header ks ss errors (min (since + (length ks - length kinds)) 5) to
    pub tokens : All IsTokenKind ks
    pub noted : AreNoted (piece text ks ss) 0 (length ks) ns

  pub further : {ks ss ns : List ℕ} {to : ℕ} → TakesCommon edition text kinds starts numbers from ks ss ns to → Further ks ss ns to
  further none =
      let same : min (since + (length kinds - length kinds)) 5 ≡ since = omega (arith, since_few (piece text kinds starts) (length kinds), u.since_is) in
      record { grows = omega arith; upto = rw same u; tokens = first; noted = before }
  further (more ks ss ns at kind to t c) =
      let f = further t in
      let count : ℕ = min (since + (length ks - length kinds)) 5 in
      let longer : length (ks ++ kind ∷ []) ≡ length ks + 1 = length-append ks (kind ∷ []) in
      let is_first : IsFirst edition (nat_lt count 5) (drop at text) (record { kind = kind; text = slice_range text at to }) (drop to text) [] = (Nothing, c.first, refl) in
      let counted : since_open_after count kind (slice_range text at to) ≡ min (since + (length (ks ++ kind ∷ []) - length kinds)) 5 = since_other count kind (slice_range text at to) c.no_string ∙ omega (arith, longer, f.grows) in
      let all = upto.more edition text header ks ss errors count at kind to f.upto c.some c.border [] is_first in
      record {
        grows = omega (arith, longer, f.grows);
        upto = rw (append-nil errors, counted) at all;
        tokens = All-push IsTokenKind ks kind f.tokens c.token;
        noted =
            let old = upto.same_piece edition text header ks ss errors count at kind to f.upto c.some c.border in
            let new = upto.new_piece edition text header ks ss errors count at kind to f.upto c.some c.border in
            rw longer (noted-more (piece text ks ss) (piece text (ks ++ kind ∷ []) (ss ++ to ∷ [])) (length ks) (λ i h. sym (old i h)) ns _ (ap is_contextual_token new) f.noted);
      }

-- a part of what is left
pub range-drop : (text : List ℕ) (at n : ℕ) → slice_range (drop at text) 0 n ≡ slice_range text at (at + n)
range-drop text at n = let size : n - 0 ≡ at + n - at = omega arith in ap (λ k. take k (drop at text)) size
