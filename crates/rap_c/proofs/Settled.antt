-- Results of calls that may have had a fault.
use Rattle.std.proofs.Common.{◌≡◌, ℕ, ◌≤◌, ◌<◌, List, Bool, true, false, Option, Result, Ok, Err, ap, subst, ◌∙◌, arith}
use Rattle.std.specs.Prelude.{IfOk, IfErr, MatchResult, if◌then◌else◌}
use Rattle.std.proofs.lemmas.Bool.{cond-true}
use Rattle.rap_events.specs.Forest.{Forest, one_tree}
use Rattle.rap_c.specs.Parsed.{status_of}
use Rattle.rap_c.specs.Answer.{refusal}
use Rattle.rap_c.specs.Given.{IsRefusal, IsUntouched}
use Rattle.rap_c.specs.Reparse.{ComesOfReparse, IsReparsed}
use Rattle.rap_c.specs.declared.answer.Fault.{Fault}
use Rattle.rap_c.specs.declared.answer.RapAnswer.{RapAnswer}
use Rattle.rap_c.specs.declared.step.RapStep.{RapStep}

low : (b : Bool) (n : ℕ) → n ≡ (if b then 0 else 1) → n ≤ 1
low true n e = omega (arith, e)
low false n e = omega (arith, e)

pub node_refused : (text : List ℕ) (year : ℕ) (kind : Option ℕ) (steps steps_after : List RapStep) (messages messages_after : List ℕ) (outcome : Result RapAnswer Fault) (answer : RapAnswer)
    → MatchResult outcome (λ a. answer ≡ a) (λ fault. answer ≡ refusal fault)
    → IfOk outcome (IsReparsed text year kind steps steps_after messages messages_after)
    → IfErr outcome (ComesOfReparse text year kind)
    → IfErr outcome (λ _. IsUntouched steps steps_after messages messages_after)
    → 1 < answer.status → IsRefusal (ComesOfReparse text year kind) answer × IsUntouched steps steps_after messages messages_after
node_refused text year kind steps steps_after messages messages_after (Ok a) answer is filled comes untouched high =
    absurd (omega (arith, high, ap (λ (b : RapAnswer). b.status) is, low (one_tree filled.filled.output) a.status filled.filled.is.status))
node_refused text year kind steps steps_after messages messages_after (Err fault) answer is filled comes untouched high =
    (record { fault = fault; comes = comes; is = is }, untouched)

-- the same for any call: a success has a low status
pub refused_past : (Good : RapAnswer → Type 0) (Comes : Fault → Type 0) (Same : Type 0) (High : ℕ → Type 0) (outcome : Result RapAnswer Fault) (answer : RapAnswer)
    → ((a : RapAnswer) → Good a → High a.status → ⊥)
    → MatchResult outcome (λ a. answer ≡ a) (λ fault. answer ≡ refusal fault)
    → IfOk outcome Good → IfErr outcome Comes → IfErr outcome (λ _. Same) → High answer.status → IsRefusal Comes answer × Same
refused_past Good Comes Same High (Ok a) answer low is good comes same high = absurd (low a good (subst High (ap (λ (b : RapAnswer). b.status) is) high))
refused_past Good Comes Same High (Err fault) answer low is good comes same high = (record { fault = fault; comes = comes; is = is }, same)

-- the status of an output is low
pub low_output : (b : Bool) (n : ℕ) → n ≡ (if b then 0 else 1) → 1 < n → ⊥
low_output b n e h = absurd (omega (arith, low b n e, h))

-- that of one tree is 0
pub one_output : (f : Forest) (n : ℕ) → n ≡ status_of f → one_tree f ≡ true → n ≡ 0
one_output f n e one = e ∙ cond-true (one_tree f) 0 1 one
