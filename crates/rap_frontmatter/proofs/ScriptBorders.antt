-- where the parts of a script source may be cut off
use Rattle.std.proofs.Common.{◌≡◌, ℕ, eqb, List, [], ◌∷◌, ◌++◌, ◌+◌, ◌<◌, ◌≤◌, length, take, drop, get_or, Option, Some, None, unwrap_or, encode_utf8_all, IsUtf8, IsCharBoundary, refl, ap, sym, ◌∙◌, subst, arith, lit<}
use Rattle.std.specs.List.{prefix_len}
use Rattle.std.proofs.lemmas.List.{length-replicate, append_assoc, length-append, get_or_at, take-append-drop, length-take-le, drop_at}
use Rattle.std.proofs.lemmas.Str.{IsCharBoundary-start, IsCharBoundary-end, IsCharBoundary-after_ascii, IsCharBoundary-before_ascii, encodes-append, encodes-chars, encode_ascii}
use Rattle.rap_frontmatter.specs.Script.{IsLineEnd, HasLine, EndsShebang, HasBlankLines, EndsBlankLines, Splits, dashes}
use Rattle.rap_frontmatter.specs.ScriptPlaces.{HasDashes, HasOpening}
use Rattle.rap_frontmatter.specs.Script.IsLineEnd.{with_return, feed, text_end}
use Rattle.rap_frontmatter.proofs.ScriptLines.{starts_with_dashes}

-- a text may be cut after an ASCII byte
pub cut_after : (text prefix rest : List ℕ) (b : ℕ) → IsUtf8 text → text ≡ prefix ++ b ∷ rest → b < 128 → IsCharBoundary text (length prefix + 1)
cut_after text prefix rest b u e small =
    let read : get_or text (length prefix) 0 ≡ b = ap (λ l. get_or l (length prefix) 0) e ∙ get_or_at prefix b rest 0 (length prefix) refl in
    IsCharBoundary-after_ascii text (length prefix) u (omega (arith, ap length e, length-append prefix (b ∷ rest))) (omega (arith, read))

-- and before one
pub cut_before : (text prefix rest : List ℕ) (b : ℕ) → text ≡ prefix ++ b ∷ rest → b < 128 → IsCharBoundary text (length prefix)
cut_before text prefix rest b e small =
    let read : get_or text (length prefix) 0 ≡ b = ap (λ l. get_or l (length prefix) 0) e ∙ get_or_at prefix b rest 0 (length prefix) refl in
    IsCharBoundary-before_ascii text (length prefix) (omega (arith, ap length e, length-append prefix (b ∷ rest))) (omega (arith, read))

pub line_ends_at : (text line end rest : List ℕ) → IsUtf8 text → text ≡ line ++ (end ++ rest) → IsLineEnd line end rest → IsCharBoundary text (length line + length end)
line_ends_at text line _ _ u e (with_return _ rest) =
    let size : length (line ++ 13 ∷ []) + 1 ≡ length line + 2 = omega (arith, length-append line (13 ∷ [])) in
    subst (λ (n : ℕ). IsCharBoundary text n) size (cut_after text (line ++ 13 ∷ []) rest 10 u (e ∙ sym (append_assoc line (13 ∷ []) (10 ∷ rest))) (lit< tt))
line_ends_at text line _ _ u e (feed _ rest bare) = cut_after text line rest 10 u e (lit< tt)
line_ends_at text line _ _ u e (text_end _) =
    subst (λ (n : ℕ). IsCharBoundary text n) (omega (arith, ap length e, length-append line [])) (IsCharBoundary-end text)

-- a line ends where the text may be cut
pub line_border : (text : List ℕ) (len next : ℕ) → IsUtf8 text → HasLine text len next → IsCharBoundary text next
line_border text len next u h =
    subst (λ (n : ℕ). IsCharBoundary text n) (sym h.after) (line_ends_at text h.line h.end h.rest u h.first.whole h.first.ends)

pub shebang_border : (text : List ℕ) (end : Option ℕ) → IsUtf8 text → EndsShebang text end → IsCharBoundary text (unwrap_or end 0)
shebang_border text None u h = IsCharBoundary-start text u
shebang_border text (Some n) u h = line_border text h.1 n u h.2

lines_border : (text : List ℕ) (n : ℕ) → IsUtf8 text → HasBlankLines text n → IsCharBoundary text n
lines_border text n u h =
    let whole : text ≡ encode_utf8_all h.white ++ 10 ∷ encode_utf8_all h.rest = sym (encodes-chars text u) ∙ (ap encode_utf8_all h.split ∙ (encodes-append h.white (10 ∷ h.rest) ∙ ap (λ l. encode_utf8_all h.white ++ (l ++ encode_utf8_all h.rest)) (encode_ascii 10 (lit< tt)))) in
    subst (λ (m : ℕ). IsCharBoundary text m) (sym h.size) (cut_after text (encode_utf8_all h.white) (encode_utf8_all h.rest) 10 u whole (lit< tt))

pub blank_border : (text : List ℕ) (end : Option ℕ) → IsUtf8 text → EndsBlankLines text end → IsCharBoundary text (unwrap_or end 0)
blank_border text None u h = IsCharBoundary-start text u
blank_border text (Some n) u h = lines_border text n u h.0

-- ---- the opening

pub splits : (text : List ℕ) (n : Option ℕ) (rest : List ℕ) → unwrap_or n 0 ≤ length text → drop (unwrap_or n 0) text ≡ rest → Splits text n rest
splits text n rest inside e =
    record {
      prefix = take (unwrap_or n 0) text;
      whole = sym (take-append-drop (unwrap_or n 0) text) ∙ ap (λ l. take (unwrap_or n 0) text ++ l) e;
      size = length-take-le (unwrap_or n 0) text inside;
    }

pub rest_of : (text : List ℕ) (n : Option ℕ) (rest : List ℕ) → Splits text n rest → rest ≡ drop (unwrap_or n 0) text
rest_of text n rest s = sym (ap (λ l. drop (unwrap_or n 0) l) s.whole ∙ drop_at s.prefix rest (unwrap_or n 0) s.size)

pub found_dashes : (text : List ℕ) (end : Option ℕ) (n : ℕ) → IsUtf8 text → EndsBlankLines text end → n ≡ prefix_len (λ b. eqb b 45) (drop (unwrap_or end 0) text) → HasDashes text (unwrap_or end 0) n
found_dashes text end n u h e =
    let d = starts_with_dashes (drop (unwrap_or end 0) text) n e in
    record {
      fence = record {
        blank = end;
        n = n;
        after = drop n (drop (unwrap_or end 0) text);
        ends = h;
        splits = splits text end _ (blank_border text end u h).0 d.split;
        no_more = d.no_more;
      };
      start_is = refl;
      size = refl;
    }

pub found_opening : (text : List ℕ) (end : Option ℕ) (start n : ℕ) → IsUtf8 text → EndsShebang text end → HasDashes (drop (unwrap_or end 0) text) start n → HasOpening text end (unwrap_or end 0 + start) n
found_opening text end start n u h d =
    record {
      opening = record {
        shebang = end;
        below = drop (unwrap_or end 0) text;
        ends = h;
        splits = splits text end _ (shebang_border text end u h).0 refl;
        fence = d.fence;
      };
      shebang_is = refl;
      start_is = ap (λ x. unwrap_or end 0 + x) d.start_is;
      size = d.size;
    }

-- the dashes stand within the text
pub dashes_inside : (text : List ℕ) (start n : ℕ) → HasDashes text start n → start + n ≤ length text
dashes_inside text start n d =
    let f = d.fence in
    let a = ap length f.splits.whole ∙ length-append f.splits.prefix (dashes f.n ++ f.after) in
    let b = length-append (dashes f.n) f.after in
    let c = length-replicate {A = ℕ} f.n 45 in
    omega (arith, a, b, c, f.splits.size, d.start_is, d.size)
