-- How many events a script records, where no token is taken, and beside the 256 that each token pays for.
use Rattle.std.specs.Prelude.{ℕ, ◌+◌, ◌-◌, ◌*◌, ◌≤◌, ◌<◌, ◌≡◌, Bool, true, false, ◌&&◌, ◌||◌, not, nat_lt, length, if◌then◌else◌}
use Rattle.rap_grammar_scripts.specs.Stand.{Stand}
use Rattle.rap_grammar_scripts.specs.Tally.{Measure}

-- so many events, or what cannot be
pub data Paid : Type 0 where
  never : Paid
  paid : ℕ → Paid

-- What is owed at most where no token was taken, and what is left at least where some were, of 256 for each. Or it is not
-- known.
pub data Bill : Type 0 where
  unknown : Bill
  bill : Paid → Paid → Bill

abbrev pub larger : ℕ → ℕ → ℕ
larger a b = if nat_lt a b then b else a

abbrev pub smaller : ℕ → ℕ → ℕ
smaller a b = if nat_lt a b then a else b

abbrev pub most : Paid → Paid → Paid
most never b = b
most (paid a) never = paid a
most (paid a) (paid b) = paid (larger a b)

abbrev pub least : Paid → Paid → Paid
least never b = b
least (paid a) never = paid a
least (paid a) (paid b) = paid (smaller a b)

abbrev pub sum : Paid → Paid → Paid
sum never b = never
sum (paid a) never = never
sum (paid a) (paid b) = paid (a + b)

-- what is left when this is paid, and whether that is too little
abbrev pub less : Paid → Paid → Paid
less never b = never
less (paid a) never = never
less (paid a) (paid b) = paid (a - b)

abbrev pub is_short : Paid → Paid → Bool
is_short never b = false
is_short (paid a) never = false
is_short (paid a) (paid b) = nat_lt a b

abbrev pub after_bill : Bill → Bill → Bill
after_bill unknown y = unknown
after_bill (bill a b) unknown = unknown
after_bill (bill a b) (bill c d) =
    if is_short d a || is_short b c then unknown
    else bill (sum a c) (least (less d a) (least (less b c) (sum b d)))

abbrev pub either_bill : Bill → Bill → Bill
either_bill unknown y = unknown
either_bill (bill a b) unknown = unknown
either_bill (bill a b) (bill c d) = bill (most a c) (least b d)

-- a turn that goes on took a token
abbrev pub turns_bill : Bill → Bill
turns_bill unknown = unknown
turns_bill (bill a b) = bill never b

abbrev pub split_bill : Bool → Bill
split_bill true = bill never (paid 254)
split_bill false = bill never (paid 252)

-- An event for each call: three where a token should be skipped and none is left, and with a token four.
abbrev pub events : Measure Bill
events =
    record {
      idle = bill (paid 0) never;
      takes = bill never (paid 255);
      takes_end = bill (paid 1) (paid 255);
      reports = bill (paid 1) never;
      skips = bill (paid 3) (paid 252);
      opens = bill (paid 1) never;
      closes = bill (paid 1) never;
      splits = split_bill;
      and_then = after_bill;
      either = either_bill;
      turns = turns_bill;
    }

-- so many events were recorded and no token was taken, or tokens were and so much is left of what they pay for
pub record Owes (k : ℕ) (p q : Stand) : Type 0 where
  pub left : length q.rest ≡ length p.rest
  pub few : q.count ≤ p.count + k

pub record Leaves (room : ℕ) (p q : Stand) : Type 0 where
  pub left : length q.rest < length p.rest
  pub few : q.count + 256 * length q.rest + room ≤ p.count + 256 * length p.rest

abbrev pub Owing : Paid → Stand → Stand → Type 0
Owing never p q = ⊥
Owing (paid k) p q = Owes k p q

abbrev pub Leaving : Paid → Stand → Stand → Type 0
Leaving never p q = ⊥
Leaving (paid room) p q = Leaves room p q

pub data Pays (a b : Paid) (p q : Stand) : Type 0 where
  owing : Owing a p q → Pays a b p q
  leaving : Leaving b p q → Pays a b p q

abbrev pub Costs : Bill → Stand → Stand → Type 0
Costs unknown p q = Unit {0}
Costs (bill a b) p q = Pays a b p q

-- whether a bill says what another one does
abbrev pub at_most : Paid → Paid → Bool
at_most never b = true
at_most (paid a) never = false
at_most (paid a) (paid b) = not (nat_lt b a)

abbrev pub at_least : Paid → Paid → Bool
at_least never b = true
at_least (paid a) never = false
at_least (paid a) (paid b) = not (nat_lt a b)

abbrev pub says_bill : Bill → Bill → Bool
says_bill x unknown = true
says_bill unknown (bill c d) = false
says_bill (bill a b) (bill c d) = at_most a c && at_least b d
