-- Where the pieces of a script source end.
use Rattle.std.proofs.Common.{◌≡◌, ℕ, List, [], ◌∷◌, ◌++◌, ◌<◌, length, get_or, Option, Some, None, unwrap_or, inl, inr, IsCharBoundary, refl, ap, sym, ◌∙◌, subst, arith, lit<, length-append}
use Rattle.std.specs.Prelude.{IfSome}
use Rattle.std.specs.Option.{option_map}
use Rattle.std.specs.declared.ops.Range.{Range}
use Rattle.std.proofs.lemmas.Str.{IsCharBoundary-end}
use Rattle.rap_frontmatter.specs.Script.{Script, IsScript, AtBorders, IsCut, IsLineEnd, HasLine, EndsShebang, up_to, content_at}
use Rattle.rap_frontmatter.specs.Script.IsLineEnd.{with_return, feed, text_end}
use Rattle.rap_frontmatter.proofs.ScriptBorders.{cut_before}
use Rattle.rap_lexed.specs.Header.{AreEnds}

-- the line of a shebang is not empty
line_full : (line end rest after : List ℕ) → IsLineEnd line end rest → line ++ (end ++ rest) ≡ 35 ∷ 33 ∷ after → 0 < length line
line_full (c ∷ cs) end rest after h e = omega arith
line_full [] _ rest after (with_return _ _) e = absurd (omega (arith, ap (λ l. get_or l 0 0) e))
line_full [] _ rest after (feed _ _ bare) e = absurd (omega (arith, ap (λ l. get_or l 0 0) e))
line_full [] _ _ after (text_end _) e = absurd (omega (arith, ap (λ l. get_or l 0 0) e))

pub shebang_full : (text after : List ℕ) (len next : ℕ) → text ≡ 35 ∷ 33 ∷ after → HasLine text len next → (0 < len) × (0 < next)
shebang_full text after len next e h =
    let full : 0 < length h.line = line_full h.line h.end h.rest after h.first.ends (sym h.first.whole ∙ e) in
    (omega (arith, h.size), omega (arith, h.after))

-- a line's end may be cut off
line_ends : (text line end rest : List ℕ) → text ≡ line ++ (end ++ rest) → IsLineEnd line end rest → IsCharBoundary text (length line)
line_ends text line _ rest e (with_return _ _) = cut_before text line (10 ∷ rest) 13 e (lit< tt)
line_ends text line _ rest e (feed _ _ bare) = cut_before text line rest 10 e (lit< tt)
line_ends text line _ _ e (text_end _) = subst (λ (n : ℕ). IsCharBoundary text n) (omega (arith, ap length e, length-append line [])) (IsCharBoundary-end text)

pub line_cut : (text : List ℕ) (len next : ℕ) → HasLine text len next → IsCharBoundary text len
line_cut text len next h = subst (λ (n : ℕ). IsCharBoundary text n) (sym h.size) (line_ends text h.line h.end h.rest h.first.whole h.first.ends)

-- the shebang of a text that is refused
pub shebang_ends : (text after : List ℕ) (len next : ℕ) → text ≡ 35 ∷ 33 ∷ after → HasLine text len next → AreEnds text (Some len) None
shebang_ends text after len next e h = record {
  first = ((shebang_full text after len next e h).0, line_cut text len next h);
  second = tt;
}

first_end : (text : List ℕ) (o : Option ℕ) (r : Option (Range ℕ)) → r ≡ option_map up_to o → EndsShebang text o → IfSome r (IsCut text) → IfSome (option_map (λ s. s.end) r) (λ end. (0 < end) × IsCharBoundary text end)
first_end text None r e h b = rw e tt
first_end text (Some n) r e h b =
    let cut : IsCut text (up_to n) = subst (λ (x : Option (Range ℕ)). IfSome x (IsCut text)) e b in
    rw e ((shebang_full text h.0.rest h.1 n h.0.begins h.2).1, cut.2)

same_end : (o : Option ℕ) (r : Option (Range ℕ)) → r ≡ option_map up_to o → unwrap_or (option_map (λ s. s.end) r) 0 ≡ unwrap_or o 0
same_end None r e = rw e refl
same_end (Some n) r e = rw e refl

pub script_text : (text : List ℕ) (s : Script) → IsScript text s → s.text ≡ text
script_text text s (inl p) = ap (λ (x : Script). x.text) p.is
script_text text s (inr f) = ap (λ (x : Script). x.text) f.is

-- the pieces of a text that is accepted
pub script_ends : (text : List ℕ) (s : Script) → IsScript text s → AtBorders s → AreEnds text (option_map (λ r. r.end) s.shebang) (option_map (λ _. s.content.start) s.frontmatter)
script_ends text s (inl p) b =
    let shebang = subst (λ (t : List ℕ). IfSome s.shebang (IsCut t)) (script_text text s (inl p)) b.shebang in
    record {
      first = first_end text p.opening.shebang s.shebang (ap (λ (x : Script). x.shebang) p.is) p.opening.ends shebang;
      second = rw (ap (λ (x : Script). x.frontmatter) p.is) tt;
    }
script_ends text s (inr f) b =
    let shebang = subst (λ (t : List ℕ). IfSome s.shebang (IsCut t)) (script_text text s (inr f)) b.shebang in
    let content = subst (λ (t : List ℕ). IsCut t s.content) (script_text text s (inr f)) b.content in
    let is = ap (λ (x : Script). x.shebang) f.is in
    let start : s.content.start ≡ content_at f.opening f.closing f.ending = ap (λ (x : Script). x.content.start) f.is in
    let before : unwrap_or (option_map (λ r. r.end) s.shebang) 0 < s.content.start = omega (arith, same_end f.opening.shebang s.shebang is, start, f.enough) in
    record {
      first = first_end text f.opening.shebang s.shebang is f.opening.ends shebang;
      second = rw (ap (λ (x : Script). x.frontmatter) f.is) (before, content.1);
    }
