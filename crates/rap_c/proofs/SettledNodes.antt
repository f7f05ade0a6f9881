-- Results of calls that return a tree in one list and may have had a fault.
use Rattle.std.proofs.Common.{◌≡◌, ℕ, ◌<◌, List, Bool, true, false, Result, Ok, Err, ap, subst, sym, arith}
use Rattle.std.specs.Prelude.{IfOk, IfErr, MatchResult}
use Rattle.rap_events.specs.Forest.{Forest}
use Rattle.rap_lexed.specs.LexedStr.{Token}
use Rattle.rap_c.specs.FrontNodes.{IsListOr}
use Rattle.rap_c.specs.Listed.{Rooms}
use Rattle.rap_c.specs.Nodes.{IsNodesRefusal}
use Rattle.rap_c.specs.NodesAnswer.{nodes_refusal}
use Rattle.rap_c.specs.declared.answer.Fault.{Fault}
use Rattle.rap_c.specs.declared.element.RapNodesAnswer.{RapNodesAnswer}

-- a success has a low status
pub list_refused : (Good : RapNodesAnswer → Type 0) (Comes : Fault → Type 0) (Same : Type 0) (High : ℕ → Type 0) (outcome : Result RapNodesAnswer Fault) (answer : RapNodesAnswer)
    → ((a : RapNodesAnswer) → Good a → High a.status → ⊥)
    → MatchResult outcome (λ a. answer ≡ a) (λ fault. answer ≡ nodes_refusal fault)
    → IfOk outcome Good → IfErr outcome Comes → IfErr outcome (λ _. Same) → High answer.status → IsNodesRefusal Comes answer × Same
list_refused Good Comes Same High (Ok a) answer low is good comes same high = absurd (low a good (subst High (ap (λ (b : RapNodesAnswer). b.status) is) high))
list_refused Good Comes Same High (Err fault) answer low is good comes same high = (record { fault = fault; comes = comes; is = is }, same)

-- that of an output is low
pub low_list : (b : Bool) (ts : List Token) (output : Forest) (rooms rooms_after : Rooms) (a : RapNodesAnswer) → IsListOr b ts output rooms rooms_after a → 1 < a.status → ⊥
low_list true ts output rooms rooms_after a h high = absurd (omega (arith, high, h.given.status))
low_list false ts output rooms rooms_after a h high = absurd (omega (arith, high, ap (λ (x : RapNodesAnswer). x.status) h.is))

-- an output that is one tree, and one that is not
pub list_or : (b : Bool) (ts : List Token) (output : Forest) (rooms rooms_after : Rooms) (a : RapNodesAnswer) (c : Bool) → b ≡ c → IsListOr c ts output rooms rooms_after a → IsListOr b ts output rooms rooms_after a
list_or b ts output rooms rooms_after a c e h = subst (λ x. IsListOr x ts output rooms rooms_after a) (sym e) h
