use Rattle.std.proofs.Common.{◌≡◌, ◌++◌, List, length, map, sym, ap, subst, ◌∙◌, arith}
use Rattle.std.proofs.lemmas.List.Elements.{All-contains_itself, All-nil, All-tail}
use Rattle.std.specs.Prelude.{All, Contains}
use Rattle.rap_lexed.specs.LexedStr.{AreInOrder, Message, message_of_item}
use Rattle.rap_core.proofs.Reported.{next_listed, next_passed}
use Rattle.rap_core.specs.Listed.{IsReported, numbers_reported, token_place}
use Rattle.rap_core.specs.declared.listing.Place.{Place}
use Rattle.rap_core.proofs.listing.reported_tokens.Goals as goal

pub errors-init : goal.errors-init
errors-init c =
    let lexed = c.args.lexed.now in
    let all : c.into_iter-token-iterator.result ≡ lexed.errors =
    c.into_iter-token-iterator.ensures.into_iter_gives ∙ c.errors-token-items.ensures in
    let places_of : List Message → List Place = λ ms. map (token_place lexed.tokens) (numbers_reported 0 ms) in (
      tt,
      tt,
      subst (All (Contains lexed.errors)) (sym all) (All-contains_itself lexed.errors),
      subst (All (IsReported lexed)) (sym c.new-places.ensures.items) (All-nil (IsReported lexed)),
      subst (AreInOrder (length lexed.tokens)) (sym all) c.requires,
      ap (λ ps. ps ++ places_of c.into_iter-token-iterator.result) c.new-places.ensures.items ∙ ap places_of all,
    )

pub overflow_add-listed : goal.overflow_add-listed
overflow_add-listed c =
    let count = length c.args.lexed.now.tokens in
    let ordered = subst (AreInOrder count) c.in-Some.ensures.steps c.errors.invariant.4 in
    omega (arith, ordered.0, c.len-count.ensures.count)

pub errors-preserved-then-listed-token : goal.errors-preserved-then-listed-token
errors-preserved-then-listed-token c =
    let lexed = c.args.lexed.now in
    let m = message_of_item (c.in-Some.token, c.in-Some.field-0-1) in
    let ordered = subst (AreInOrder (length lexed.tokens)) c.in-Some.ensures.steps c.errors.invariant.4 in
    let P : List Message → Type 0 = λ ms.
    c.errors.places.items ++ map (token_place lexed.tokens) (numbers_reported c.errors.listed ms)
    ≡ map (token_place lexed.tokens) (numbers_reported 0 lexed.errors) in (
      tt,
      tt,
      All-tail (Contains lexed.errors) _ c.next.new.self
          (subst (All (Contains lexed.errors)) c.in-Some.ensures.steps c.errors.invariant.2),
      c.in_ok-push_token.ensures.each,
      ordered.2,
      next_listed c.errors.places.items c.push_token.new.places.items _ lexed.tokens c.errors.listed m c.next.new.self
          c.if-listed-token.true c.in_ok-push_token.ensures.one (subst P c.in-Some.ensures.steps c.errors.invariant.5),
    )

pub errors-preserved : goal.errors-preserved
errors-preserved c =
    let lexed = c.args.lexed.now in
    let m = message_of_item (c.in-Some.token, c.in-Some.field-0-1) in
    let ordered = subst (AreInOrder (length lexed.tokens)) c.in-Some.ensures.steps c.errors.invariant.4 in
    let P : List Message → Type 0 = λ ms.
    c.errors.places.items ++ map (token_place lexed.tokens) (numbers_reported c.errors.listed ms)
    ≡ map (token_place lexed.tokens) (numbers_reported 0 lexed.errors) in (
      tt,
      tt,
      All-tail (Contains lexed.errors) _ c.next.new.self
          (subst (All (Contains lexed.errors)) c.in-Some.ensures.steps c.errors.invariant.2),
      c.errors.invariant.3,
      ordered.2,
      next_passed c.errors.places.items _ lexed.tokens c.errors.listed m c.next.new.self
          (omega (arith, c.if-listed-token.false)) (subst P c.in-Some.ensures.steps c.errors.invariant.5),
    )
