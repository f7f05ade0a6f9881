use Rattle.std.proofs.Common.{◌≡◌, ◌≢◌, ℕ, List, Some, None, length, get_or, ap, sym, ◌∙◌, ◌<◌, ◌≤◌, arith}
use Rattle.std.specs.List.Sorted.{IsPartitionPoint}
use Rattle.std.proofs.lemmas.List.{get_or_default}
use Rattle.rap_lexed.specs.LexedStr.{Message, AreInOrder, error_of}
use Rattle.rap_lexed.proofs.Messages.{ordered_rises, error_found, error_missing}
use Rattle.rap_lexed.proofs.lexed_str.LexedStr.error.Goals as goal

abbrev IsPlace : List Message → ℕ → ℕ → Type 0
IsPlace ms i n = IsPartitionPoint (λ (m : Message). m.token < i) (λ (m : Message). i ≤ m.token) ms n

module _ (ms held seen : List Message) (count i n : ℕ) (value : ms ≡ held) (view : held ≡ seen) (order : AreInOrder count held) (place : IsPlace ms i n) where
  ordered : AreInOrder count ms
  ordered = rw value order

  missing_past : n ≡ length ms → None ≡ error_of seen i
  missing_past e = sym (ap (λ l. error_of l i) (sym (value ∙ view)) ∙ error_missing count ms i n ordered place (λ d l. absurd (omega (arith, e))))

  module _ (m : Message) (inside : n ≢ length ms) (bound : n ≤ length ms) (is : m ≡ get_or ms n m) where
    missing_there : m.token ≢ i → None ≡ error_of seen i
    missing_there other =
        let read : (d : Message) → n < length ms → (get_or ms n d).token ≢ i = λ d l e. other (ap (λ x. x.token) (is ∙ get_or_default ms n m d l) ∙ e) in
        sym (ap (λ l. error_of l i) (sym (value ∙ view)) ∙ error_missing count ms i n ordered place read)

    found : m.token ≡ i → Some m.text ≡ error_of seen i
    found e =
        let there : (get_or ms n m).token ≡ i = ap (λ x. x.token) (sym is) ∙ e in
        ap (λ x. Some x.text) is ∙ sym (ap (λ l. error_of l i) (sym (value ∙ view)) ∙ error_found ms i n m place (omega (arith, inside, bound)) there)

pub first_error-place-requires : goal.first_error-place-requires
first_error-place-requires c = rw c.as_slice-errors.ensures.value (ordered_rises _ c.self.inside.error.items c.self.invariant.2)

pub returns-then-place-errors : goal.returns-then-place-errors
returns-then-place-errors c = missing_past _ _ _ _ c.args.i _ c.as_slice-errors.ensures.value (ap (λ l. l.errors) c.self.view_is) c.self.invariant.2 c.first_error-place.ensures.point c.if-place-errors.true

pub returns-then-token-i : goal.returns-then-token-i
returns-then-token-i c =
    ap Some c.message.ensures ∙ found _ _ _ _ c.args.i _ c.as_slice-errors.ensures.value (ap (λ l. l.errors) c.self.view_is) c.self.invariant.2 c.first_error-place.ensures.point c.index-errors-place.result c.if-place-errors.false c.first_error-place.ensures.bound c.index-errors-place.is (sym c.token.ensures ∙ c.if-token-i.true)

pub returns-else-token-i : goal.returns-else-token-i
returns-else-token-i c =
    missing_there _ _ _ _ c.args.i _ c.as_slice-errors.ensures.value (ap (λ l. l.errors) c.self.view_is) c.self.invariant.2 c.first_error-place.ensures.point c.index-errors-place.result c.if-place-errors.false c.first_error-place.ensures.bound c.index-errors-place.is (λ e. c.if-token-i.false (c.token.ensures ∙ e))
