-- Bytes have one front, and it stays.
use Rattle.std.proofs.Common.{◌≡◌, ◌≢◌, ℕ, ◌+◌, ◌-◌, ◌<◌, ◌≤◌, ◌⊎◌, ◌==◌, ◌&&◌, Bool, true, false, cond, List, ◌++◌, Result, Ok, Err, length, get_or, take, drop, sym, ap, ◌∙◌, refl, subst, inl, inr, arith}
use Rattle.std.proofs.lemmas.Bool.{cases_lt, false≢true}
use Rattle.std.proofs.lemmas.Bool.Decides.{nat_tests}
use Rattle.std.proofs.lemmas.List.{get_or_append_left, get_or_past, length-append, take-append-le}
use Rattle.rast_frames.specs.Fronts.{Fronts, IsHeader, IsMessage, IsOpen, IsShort}
use Rattle.rast_frames.specs.Header.{HasNoEnd, IsFirstEnd, Says, ends_header}
use Rattle.rast_frames.specs.declared.front.Front.{Front}
use Rattle.rast_frames.specs.declared.front.Front.TheVariants.{Part, Message, TooLong, Wrong, Lost}
use Rattle.rast_frames.specs.declared.header.HeaderFault.{HeaderFault}
use Rattle.rast_frames.specs.declared.header.TheConstants.{MAX_HEADER}
use Rattle.rast_frames.proofs.HeaderLemmas.{end_none, ends_within, one_end, one_said}

header_none : (s : List ℕ) (start : ℕ) (r : Result ℕ HeaderFault) → IsHeader s start r → HasNoEnd s → ⊥
header_none s start r h none = end_none s h.end h.first none

one_start : (s : List ℕ) (a b : ℕ) (p q : Result ℕ HeaderFault) → IsHeader s a p → IsHeader s b q → a ≡ b
one_start s a b p q h k = omega (arith, h.start_is, k.start_is, one_end s h.end k.end h.first k.first)

one_answer : (s : List ℕ) (a b : ℕ) (p q : Result ℕ HeaderFault) → IsHeader s a p → IsHeader s b q → p ≡ q
one_answer s a b p q h k =
    let same : k.end ≡ h.end = one_end s k.end h.end k.first h.first in
    one_said (take h.end s) p q h.says (subst (λ (e : ℕ). Says (take e s) q) same k.says)

one_length : (s : List ℕ) (a b m n : ℕ) → IsHeader s a (Ok m) → IsHeader s b (Ok n) → m ≡ n
one_length s a b m n h k = let e : (let r : Result ℕ HeaderFault = Ok m in r) ≡ Ok n = one_answer s a b (Ok m) (Ok n) h k in cc e

one_fault : (s : List ℕ) (a b : ℕ) (m n : HeaderFault) → IsHeader s a (Err m) → IsHeader s b (Err n) → m ≡ n
one_fault s a b m n h k = let e : (let r : Result ℕ HeaderFault = Err m in r) ≡ Err n = one_answer s a b (Err m) (Err n) h k in cc e

not_both : (s : List ℕ) (a b m : ℕ) (n : HeaderFault) → IsHeader s a (Ok m) → IsHeader s b (Err n) → ⊥
not_both s a b m n h k = let e : (let r : Result ℕ HeaderFault = Ok m in r) ≡ Err n = one_answer s a b (Ok m) (Err n) h k in cc e

part_message : (limit : ℕ) (s : List ℕ) (start end : ℕ) → Fronts limit s Part → IsMessage limit s start end → ⊥
part_message limit s start end p q =
    elim p [
      | inl opened ↦ header_none s start (Ok q.long) q.header opened.none
      | inr short ↦ omega (
        arith,
        one_start s short.start start (Ok short.long) (Ok q.long) short.header q.header,
        one_length s short.start start short.long q.long short.header q.header,
        short.short,
        q.end_is,
        q.within,
      )
    ]

part_long : (limit : ℕ) (s : List ℕ) (start long : ℕ) → Fronts limit s Part → Fronts limit s (TooLong start long) → ⊥
part_long limit s start long p q =
    elim p [
      | inl opened ↦ header_none s start (Ok long) q.0 opened.none
      | inr short ↦ omega (arith, one_length s short.start start short.long long short.header q.0, short.small, q.1)
    ]

part_wrong : (limit : ℕ) (s : List ℕ) (fault : HeaderFault) (end : ℕ) → Fronts limit s Part → IsHeader s end (Err fault) → ⊥
part_wrong limit s fault end p q =
    elim p [
      | inl opened ↦ header_none s end (Err fault) q opened.none
      | inr short ↦ not_both s short.start end short.long fault short.header q
    ]

part_lost : (limit : ℕ) (s : List ℕ) → Fronts limit s Part → Fronts limit s Lost → ⊥
part_lost limit s p q =
    elim p [
      | inl opened ↦ omega (arith, opened.short, q.0)
      | inr short ↦ header_none s short.start (Ok short.long) short.header q.1
    ]

message_long : (limit : ℕ) (s : List ℕ) (start end a long : ℕ) → IsMessage limit s start end → Fronts limit s (TooLong a long) → ⊥
message_long limit s start end a long p q = omega (arith, one_length s start a p.long long p.header q.0, p.small, q.1)

message_is : (a b m n : ℕ) → a ≡ b → m ≡ n → (let x : Front = Message a m in x) ≡ Message b n
message_is a b m n e f = cc

long_is : (a b m n : ℕ) → a ≡ b → m ≡ n → (let x : Front = TooLong a m in x) ≡ TooLong b n
long_is a b m n e f = cc

wrong_is : (a b : HeaderFault) (m n : ℕ) → a ≡ b → m ≡ n → (let x : Front = Wrong a m in x) ≡ Wrong b n
wrong_is a b m n e f = cc

pub only_front : (limit : ℕ) (s : List ℕ) (f g : Front) → Fronts limit s f → Fronts limit s g → f ≡ g
only_front limit s Part Part p q = refl
only_front limit s Part (Message a m) p q = absurd (part_message limit s a m p q)
only_front limit s Part (TooLong a m) p q = absurd (part_long limit s a m p q)
only_front limit s Part (Wrong a m) p q = absurd (part_wrong limit s a m p q)
only_front limit s Part Lost p q = absurd (part_lost limit s p q)
only_front limit s (Message b n) Part p q = absurd (part_message limit s b n q p)
only_front limit s (Message b n) (Message a m) p q =
    let start : b ≡ a = one_start s b a (Ok p.long) (Ok q.long) p.header q.header in
    message_is b a n m start (omega (arith, start, p.end_is, q.end_is, one_length s b a p.long q.long p.header q.header))
only_front limit s (Message b n) (TooLong a m) p q = absurd (message_long limit s b n a m p q)
only_front limit s (Message b n) (Wrong a m) p q = absurd (not_both s b m p.long a p.header q)
only_front limit s (Message b n) Lost p q = absurd (header_none s b (Ok p.long) p.header q.1)
only_front limit s (TooLong b n) Part p q = absurd (part_long limit s b n q p)
only_front limit s (TooLong b n) (Message a m) p q = absurd (message_long limit s a m b n q p)
only_front limit s (TooLong b n) (TooLong a m) p q = long_is b a n m (one_start s b a (Ok n) (Ok m) p.0 q.0) (one_length s b a n m p.0 q.0)
only_front limit s (TooLong b n) (Wrong a m) p q = absurd (not_both s b m n a p.0 q)
only_front limit s (TooLong b n) Lost p q = absurd (header_none s b (Ok n) p.0 q.1)
only_front limit s (Wrong b n) Part p q = absurd (part_wrong limit s b n q p)
only_front limit s (Wrong b n) (Message a m) p q = absurd (not_both s a n q.long b q.header p)
only_front limit s (Wrong b n) (TooLong a m) p q = absurd (not_both s a n m b q.0 p)
only_front limit s (Wrong b n) (Wrong a m) p q = wrong_is b a n m (one_fault s n m b a p q) (one_start s n m (Err b) (Err a) p q)
only_front limit s (Wrong b n) Lost p q = absurd (header_none s n (Err b) p q.1)
only_front limit s Lost Part p q = absurd (part_lost limit s q p)
only_front limit s Lost (Message a m) p q = absurd (header_none s a (Ok q.long) q.header p.1)
only_front limit s Lost (TooLong a m) p q = absurd (header_none s a (Ok m) q.0 p.1)
only_front limit s Lost (Wrong a m) p q = absurd (header_none s m (Err a) q p.1)
only_front limit s Lost Lost p q = refl

-- bytes behind change nothing of an end of a header
ends_same : (s t : List ℕ) (k : ℕ) → k + 3 < length s → ends_header (s ++ t) k ≡ ends_header s k
ends_same s t k h =
    let a = get_or_append_left s t 0 k (omega arith) in
    let b = get_or_append_left s t 0 (k + 1) (omega arith) in
    let c = get_or_append_left s t 0 (k + 2) (omega arith) in
    let d = get_or_append_left s t 0 (k + 3) (omega arith) in
    rw (a, b, c, d)

end_stays : (s t : List ℕ) (i : ℕ) → IsFirstEnd s i → IsFirstEnd (s ++ t) i
end_stays s t i p =
    let within = ends_within s i p.ends in
    record {
      within = p.within;
      ends = ends_same s t i within ∙ p.ends;
      first = λ k below. ends_same s t k (omega (arith, within)) ∙ p.first k below;
    }

header_stays : (s t : List ℕ) (start : ℕ) (r : Result ℕ HeaderFault) → IsHeader s start r → IsHeader (s ++ t) start r
header_stays s t start r h =
    let within = ends_within s h.end h.first.ends in
    let same : take h.end (s ++ t) ≡ take h.end s = take-append-le h.end s t (omega (arith, within)) in
    record {
      end = h.end;
      first = end_stays s t h.end h.first;
      start_is = h.start_is;
      says = subst (λ (x : List ℕ). Says x r) (sym same) h.says;
    }

pub front_stays : (limit : ℕ) (s t : List ℕ) (f : Front) → Fronts limit s f → f ≢ Part → Fronts limit (s ++ t) f
front_stays limit s t Part p n = absurd (n refl)
front_stays limit s t (Message a m) p n = record {
  long = p.long;
  header = header_stays s t a (Ok p.long) p.header;
  small = p.small;
  end_is = p.end_is;
  within = omega (arith, p.within, length-append s t);
}
front_stays limit s t (TooLong a m) p n = (header_stays s t a (Ok m) p.0, p.1)
front_stays limit s t (Wrong a m) p n = header_stays s t m (Err a) p
front_stays limit s t Lost p n =
    (omega (arith, p.0, length-append s t), λ k h. ends_same s t k (omega (arith, p.0)) ∙ p.1 k h)
