-- A prefix of a text in characters, and what follows it, as bytes.
use Rattle.std.proofs.Common.{◌≡◌, ℕ, List, ◌++◌, ◌-◌, ◌<◌, ◌≤◌, length, take, drop, slice_range, encode_utf8_all, chars, IsUtf8, IsCharBoundary, ap, sym, ◌∙◌, arith, length-append}
use Rattle.std.proofs.lemmas.Str.{encodes-append, encodes-chars, length-le-encodes, IsCharBoundary-at_seam}
use Rattle.std.proofs.Math.Nat.{sub-zero}
use Rattle.std.proofs.Math.Seq.{drop-append_seam, take-append_seam}

module _ (text out prefix rest : List ℕ) (utf8 : IsUtf8 text) (join : chars text ≡ prefix ++ rest) (left : out ≡ encode_utf8_all rest) where
  -- the bytes of the prefix stand before those that are left
  pub bytes : text ≡ encode_utf8_all prefix ++ out
  bytes = sym (encodes-chars text utf8) ∙ (ap encode_utf8_all join ∙ (encodes-append prefix rest ∙ ap (λ x. encode_utf8_all prefix ++ x) (sym left)))

  pub within : length out ≤ length text
  within = omega (arith, ap length bytes ∙ length-append (encode_utf8_all prefix) out)

  pub prefix_size : length text - length out ≡ length (encode_utf8_all prefix)
  prefix_size = omega (arith, ap length bytes ∙ length-append (encode_utf8_all prefix) out)

  pub positive : 0 < length prefix → 0 < length text - length out
  positive some = omega (arith, prefix_size, length-le-encodes prefix)

  pub after_prefix : drop (length text - length out) text ≡ out
  after_prefix = rw prefix_size (ap (λ x. drop (length (encode_utf8_all prefix)) x) bytes ∙ drop-append_seam (encode_utf8_all prefix) out)

  pub prefix_is : slice_range text 0 (length text - length out) ≡ encode_utf8_all prefix
  prefix_is = rw (sub-zero (length text - length out), prefix_size) (ap (λ x. take (length (encode_utf8_all prefix)) x) bytes ∙ take-append_seam (encode_utf8_all prefix) out)

  pub border : IsUtf8 out → IsCharBoundary text (length text - length out)
  border u = rw prefix_size (IsCharBoundary-at_seam text (encode_utf8_all prefix) out bytes u)
