-- The classes of characters on ASCII.
use Rattle.std.proofs.Common.{◌≡◌, ℕ, true, false, ◌&&◌, ◌||◌, ◌==◌, nat_lt, nat_le, refl, ap, sym, arith, ltb-true, ltb-false}
use Rattle.std.specs.Char.{is_ascii_alphabetic, is_ascii_alphanumeric}
use Rattle.unicode_ident.specs.Ident.{is_xid_start, is_xid_continue}
use Rattle.unicode_ident.proofs.IdentLemmas.{is_xid_start-ascii, is_xid_continue-ascii}
use Rattle.unicode.specs.Binary.{is_emoji}

pub starts : (b : ℕ) → ((b == 95) || is_ascii_alphabetic b) ≡ (nat_lt b 128 && ((b == 95) || is_xid_start b))
starts b =
    (elim (nat_lt b 128) as (λ z. nat_lt b 128 ≡ z → ((b == 95) || is_ascii_alphabetic b) ≡ (z && ((b == 95) || is_xid_start b))) [
      | true ↦ λ h. ap (λ x. (b == 95) || x) (sym (is_xid_start-ascii b (ltb-true b 128 h)))
      | false ↦ λ h. grind (arith, ltb-false b 128 h)
    ]) refl

pub continues : (b : ℕ) → ((b == 95) || is_ascii_alphanumeric b) ≡ (nat_lt b 128 && is_xid_continue b)
continues b =
    (elim (nat_lt b 128) as (λ z. nat_lt b 128 ≡ z → ((b == 95) || is_ascii_alphanumeric b) ≡ (z && is_xid_continue b)) [
      | true ↦ λ h. rw (is_xid_continue-ascii b (ltb-true b 128 h)) (grind arith)
      | false ↦ λ h. grind (arith, ltb-false b 128 h)
    ]) refl

pub goes_on : (b : ℕ) → ((b == 95) || is_ascii_alphanumeric b) ≡ (nat_lt b 128 && (is_xid_continue b || (nat_le 128 b && is_emoji b) || (b == 0x200d)))
goes_on b =
    (elim (nat_lt b 128) as (λ z. nat_lt b 128 ≡ z → ((b == 95) || is_ascii_alphanumeric b) ≡ (z && (is_xid_continue b || (nat_le 128 b && is_emoji b) || (b == 0x200d)))) [
      | true ↦ λ h. rw (is_xid_continue-ascii b (ltb-true b 128 h)) (grind (arith, ltb-true b 128 h))
      | false ↦ λ h. grind (arith, ltb-false b 128 h)
    ]) refl
