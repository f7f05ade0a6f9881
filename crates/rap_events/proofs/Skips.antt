-- A message and the next token in an `ERROR`.
use Rattle.std.proofs.Common.{◌≡◌, ◌≢◌, ℕ, ◌+◌, ◌≤◌, List, [], ◌∷◌, drop, refl, sym, ap, ◌∙◌, arith}
use Rattle.rap_base.specs.TokenKind.{EOF, ERROR}
use Rattle.rap_events.specs.Record.{Record, next_kind}
use Rattle.rap_events.specs.Forest.{Forest, none, node, leaf, message}
use Rattle.rap_events.specs.Machine.{push}
use Rattle.rap_events.specs.State.{State, state, next, but_last, Opened, Reported, Bumped, Completed, skipped, skip_count, Skipped}
use Rattle.rap_events.specs.declared.parser.Parser.{Parser}
use Rattle.rap_events.proofs.Records.{no_end}

-- the kind of the next token is the end's only at the end
pub rest_at_end : (p : Parser) → next (state p) ≡ EOF → (state p).rest ≡ []
unfolding state
rest_at_end p h = no_end p.input.now p.pos p.tokens h

skipped-some : (rs : List Record) (bytes : List ℕ) → next_kind rs ≢ EOF → leaf (message none bytes) (next_kind rs) 1 ≡ skipped rs bytes
skipped-some [] bytes h = absurd (h refl)
skipped-some (r ∷ rs) bytes h = refl

some_calls : (rs : List Record) → next_kind rs ≢ EOF → skip_count rs ≡ 4
some_calls [] h = absurd (h refl)
some_calls (r ∷ rs) h = refl

-- what was recorded between the start and the finish
pub record Inside (old new : State) (bytes : List ℕ) : Type 0 where
  pub input : new.input ≡ old.input
  pub rest : new.rest ≡ drop 1 old.rest
  pub left : new.left ≤ old.left
  pub less : next old ≢ EOF → old.left ≡ new.left + 1
  pub count : new.count + new.left ≡ old.count + old.left + 2
  pub counted : new.count + 1 ≡ old.count + skip_count old.rest
  pub messages : new.messages ≡ old.messages + 1
  pub forest : new.forest ≡ skipped old.rest bytes
  pub below : new.below ≡ push old.below old.marker old.forest

pub inside_some : (s0 s1 s2 s3 : State) (n : ℕ) (bytes : List ℕ) → Opened s0 s1 n → Reported s1 s2 bytes → next s2 ≢ EOF → Bumped s2 s3 (next s2) 1 → Inside s0 s3 bytes
inside_some s0 s1 s2 s3 n bytes o t h b =
    let r : s2.rest ≡ s0.rest = t.rest ∙ o.recorded.rest in
    let some : next_kind s0.rest ≢ EOF = λ e. h (ap next_kind r ∙ e) in
    let under : s2.forest ≡ message none bytes = t.forest ∙ ap (λ (f : Forest). message f bytes) o.forest in
    record {
      input = b.input ∙ t.input ∙ o.recorded.input;
      rest = b.rest ∙ ap (drop 1) r;
      left = omega (arith, b.left, t.left, o.recorded.left);
      less = λ _. omega (arith, b.left, t.left, o.recorded.left);
      count = omega (arith, b.left, t.left, o.recorded.left, b.count, t.count, o.recorded.count);
      counted = omega (arith, b.count, t.count, o.recorded.count, some_calls s0.rest some);
      messages = omega (arith, b.messages, t.messages, o.recorded.messages);
      forest = b.forest ∙ ap (λ (f : Forest). leaf f (next s2) 1) under ∙ ap (λ (rs : List Record). leaf (message none bytes) (next_kind rs) 1) r ∙ skipped-some s0.rest bytes some;
      below = b.below ∙ t.below ∙ o.below;
    }

pub inside_end : (s0 s1 s2 : State) (n : ℕ) (bytes : List ℕ) → Opened s0 s1 n → Reported s1 s2 bytes → s2.rest ≡ [] → Inside s0 s2 bytes
inside_end s0 s1 s2 n bytes o t e =
    let r : s0.rest ≡ [] = sym (t.rest ∙ o.recorded.rest) ∙ e in
    record {
      input = t.input ∙ o.recorded.input;
      rest = e ∙ sym (ap (drop 1) r);
      left = omega (arith, t.left, o.recorded.left);
      less = λ h. absurd (h (ap next_kind r));
      count = omega (arith, t.left, o.recorded.left, t.count, o.recorded.count);
      counted = omega (arith, t.count, o.recorded.count, ap skip_count r);
      messages = omega (arith, t.messages, o.recorded.messages);
      forest = t.forest ∙ ap (λ (f : Forest). message f bytes) o.forest ∙ sym (ap (λ (rs : List Record). skipped rs bytes) r);
      below = t.below ∙ o.below;
    }

pub skipped_whole : (s0 s3 s4 : State) (bytes : List ℕ) → Inside s0 s3 bytes → Completed s3 s4 ERROR → Skipped s0 s4 bytes
skipped_whole s0 s3 s4 bytes i c =
    let stacks : push s0.below s0.marker s0.forest ≡ push s4.below s4.marker (but_last s4.forest) = sym i.below ∙ c.below in
    let before : but_last s4.forest ≡ s0.forest = cc in
    record {
      input = c.recorded.input ∙ i.input;
      rest = c.recorded.rest ∙ i.rest;
      left = omega (arith, c.recorded.left, i.left);
      less = λ h. omega (arith, c.recorded.left, i.less h);
      count = omega (arith, c.recorded.left, c.recorded.count, i.count);
      counted = c.recorded.count ∙ i.counted;
      messages = omega (arith, c.recorded.messages, i.messages);
      marker = cc;
      forest = c.forest ∙ ap (λ (f : Forest). node f ERROR s3.forest) before ∙ ap (node s0.forest ERROR) i.forest;
      below = cc;
    }
