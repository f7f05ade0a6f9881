-- The words of steps, and what is read back of them.
use Rattle.std.proofs.Common.{◌≡◌, ◌≢◌, ℕ, ◌+◌, ◌*◌, ◌^◌, ◌/◌, ◌%◌, ◌<◌, ◌≤◌, List, true, false, refl, ap, subst, arith}
use Rattle.std.specs.Prelude.{⊤}
use Rattle.rap_base.specs.NodeKind.{SOURCE_FILE, PATH_META}
use Rattle.rap_events.specs.StepValue.{StepValue, enter, exit, token, float_split, error}
use Rattle.rap_events.specs.History.{first_message}
use Rattle.rap_events.specs.Output.{value_of}
use Rattle.rap_events.specs.Word.{fields, word_of, word_of_event, event_of_fields, event_of, IsWord}
use Rattle.rap_events.specs.declared.event.Event.{Event}
use Rattle.rap_events.specs.declared.event.Event.TheVariants as event

-- the fields of a word that is no message
record Fields (w b k : ℕ) : Type 0 where
  odd : fields w b k % 2 ≡ 1
  which : fields w b k / 2 ^ 4 % 2 ^ 4 ≡ w
  byte : fields w b k / 2 ^ 8 % 2 ^ 8 ≡ b
  kind : fields w b k / 2 ^ 16 ≡ k

fields_back : (w b k : ℕ) → w < 16 → b < 256 → Fields w b k
fields_back w b k h l = record {
  odd = omega (arith, h, l);
  which = omega (arith, h, l);
  byte = omega (arith, h, l);
  kind = omega (arith, h, l);
}

event_of-fields : (w b k : ℕ) → w < 16 → b < 256 → event_of (fields w b k) ≡ event_of_fields w b k
event_of-fields w b k h l = let f = fields_back w b k h l in rw (f.odd, f.which, f.byte, f.kind) refl

-- what a word that is no message is, is one of nine
which_of : (e : Event) → word_of_event e % 2 ≢ 0 → word_of_event e / 2 ^ 4 % 2 ^ 4 < 9
which_of (event.Token width kind) h = omega arith
which_of (event.Enter kind) h = omega arith
which_of event.Exit h = omega arith
which_of (event.FloatSplit true) h = omega arith
which_of (event.FloatSplit false) h = omega arith
which_of (event.Error number) h = absurd (h (omega arith))
which_of event.Start h = omega arith
which_of event.Precede h = omega arith
which_of (event.Finish kind) h = omega arith
which_of event.Extend h = omega arith
which_of event.Abandon h = omega arith

pub which_below : (bits : ℕ) → IsWord bits → bits % 2 ≢ 0 → bits / 2 ^ 4 % 2 ^ 4 < 9
which_below bits h =
    let P : ℕ → Type 0 = λ n. n % 2 ≢ 0 → n / 2 ^ 4 % 2 ^ 4 < 9 in
    subst P h.word (which_of (event_of bits))

-- what the lowest byte says of a word
known : (bits which : ℕ) → which < 16 → bits % 256 ≡ which * 16 + 1 → IsWord bits → (event_of bits ≡ event_of_fields which (bits / 2 ^ 8 % 2 ^ 8) (bits / 2 ^ 16)) × (bits / 2 ^ 16 ≤ PATH_META)
known bits which small low word =
    let odd : bits % 2 ≡ 1 = omega (arith, small, low) in
    let is : bits / 2 ^ 4 % 2 ^ 4 ≡ which = omega (arith, small, low) in
    (rw (odd, is) refl, word.kind (omega (arith, odd)))

pub token_byte : (bits : ℕ) → bits % 256 ≡ 1 → IsWord bits → (event_of bits ≡ event.Token (bits / 2 ^ 8 % 2 ^ 8) (bits / 2 ^ 16)) × (bits / 2 ^ 16 ≤ PATH_META)
token_byte bits low word = known bits 0 (omega arith) low word

pub enter_byte : (bits : ℕ) → bits % 256 ≡ 17 → IsWord bits → (event_of bits ≡ event.Enter (bits / 2 ^ 16)) × (bits / 2 ^ 16 ≤ PATH_META)
enter_byte bits low word = known bits 1 (omega arith) low word

pub exit_byte : (bits : ℕ) → bits % 256 ≡ 33 → IsWord bits → event_of bits ≡ event.Exit
exit_byte bits low word = (known bits 2 (omega arith) low word).0

pub start_byte : (bits : ℕ) → bits % 256 ≡ 65 → IsWord bits → event_of bits ≡ event.Start
start_byte bits low word = (known bits 4 (omega arith) low word).0

pub finish_byte : (bits : ℕ) → bits % 256 ≡ 97 → IsWord bits → (event_of bits ≡ event.Finish (bits / 2 ^ 16)) × (bits / 2 ^ 16 ≤ PATH_META)
finish_byte bits low word = known bits 6 (omega arith) low word

-- a token of fewer than 256 input tokens, a message that is the first of these, and any other step
abbrev HasWord : List (List ℕ) → StepValue → ℕ → Type 0
HasWord ms (token kind width) number = width < 256
HasWord ms (enter kind) number = ⊤
HasWord ms exit number = ⊤
HasWord ms (float_split ends_in_dot) number = ⊤
HasWord ms (error bytes) number = first_message ms ≡ bytes

-- the law of the words of steps: reading a step's word back gives the step
pub step_back : (ms : List (List ℕ)) (s : StepValue) (number : ℕ) → HasWord ms s number →
    value_of ms (event_of (word_of s number)) ≡ s
step_back ms (token kind width) number h = ap (value_of ms) (event_of-fields 0 width kind (omega arith) h)
step_back ms (enter kind) number h = ap (value_of ms) (event_of-fields 1 0 kind (omega arith) (omega arith))
step_back ms exit number h = refl
step_back ms (float_split true) number h = refl
step_back ms (float_split false) number h = refl
step_back ms (error bytes) number h =
    let even : number * 2 % 2 ≡ 0 = omega arith in
    rw even (ap error h)

-- The words of a file without tokens, 0x009E0011 and 0x00000021; of a float that is taken apart, 0x00000031, and of one
-- that ends in a dot, 0x00000131; and of message 5.
enter_word : word_of (enter SOURCE_FILE) 0 ≡ 158 * 65536 + 17
enter_word = refl

exit_word : word_of exit 0 ≡ 33
exit_word = refl

split_word : word_of (float_split false) 0 ≡ 49
split_word = refl

dot_word : word_of (float_split true) 0 ≡ 256 + 49
dot_word = refl

message_word : (bytes : List ℕ) → word_of (error bytes) 5 ≡ 10
message_word bytes = refl
