use Rattle.std.proofs.Common.{◌≡◌, ℕ, ◌+◌, ◌-◌, length, take, map, sym, ap, ◌∙◌, arith}
use Rattle.std.specs.Prelude.{string_bytes}
use Rattle.std.proofs.lemmas.List.{take_all}
use Rattle.rap_base.specs.TokenKind.{EOF}
use Rattle.rap_events.specs.State.{state, calls}
use Rattle.rap_events.proofs.LastTokens.{kind_after, kind_of_last, one_more, no_token, last_shown}
use Rattle.rap_events.proofs.parser.Parser.last_token.Goals as goal

pub loop-i-init : goal.loop-i-init
loop-i-init c =
    let es = c.args.self.now.events.items in
    let all : take (length es) es ≡ es = take_all (length es) es (omega arith) in
    let whole : c.len-i.result ≡ length es = c.len-i.ensures ∙ c.args.self.now.events.ok.0 in
    record { within = omega arith; so_far = ap (kind_of_last EOF) (ap (λ (n : ℕ). take n es) whole ∙ all) }

pub index-requires : goal.index-requires
index-requires c = omega (arith, c.args.self.now.events.ok.0)

pub loop-i-preserved : goal.loop-i-preserved
loop-i-preserved c =
    let es = c.args.self.now.events.items in
    let i = c.loop-i.i - 1 in
    let next : i + 1 ≡ c.loop-i.i = omega arith in
    let more : kind_of_last EOF (take (i + 1) es) ≡ kind_after (kind_of_last EOF (take i es)) c.index.result.now =
    one_more EOF es i c.index.result.now (omega arith) c.index.ensures in
    let same : kind_after (kind_of_last EOF (take i es)) c.index.result.now ≡ kind_of_last EOF (take i es) =
    ap (kind_after (kind_of_last EOF (take i es))) (sym c.event.ensures) ∙ no_token (kind_of_last EOF (take i es)) c.event.result c.in_default.not-Token in
    let so_far : kind_of_last EOF (take (i + 1) es) ≡ kind_of_last EOF es = rw next c.loop-i.invariant.so_far in
    record { within = omega arith; so_far = sym same ∙ sym more ∙ so_far }

pub returns-in-Token : goal.returns-in-Token
unfolding state calls
returns-in-Token c =
    let s = c.args.self.now in
    let es = s.events.items in
    let i = c.loop-i.i - 1 in
    let next : i + 1 ≡ c.loop-i.i = omega arith in
    let more : kind_of_last EOF (take (i + 1) es) ≡ kind_after (kind_of_last EOF (take i es)) c.index.result.now =
    one_more EOF es i c.index.result.now (omega arith) c.index.ensures in
    let here : kind_after (kind_of_last EOF (take i es)) c.index.result.now ≡ c.in-Token.kind = ap (kind_after (kind_of_last EOF (take i es))) (sym c.event.ensures ∙ c.in-Token.is) in
    let so_far : kind_of_last EOF (take (i + 1) es) ≡ kind_of_last EOF es = rw next c.loop-i.invariant.so_far in
    sym here ∙ sym more ∙ so_far ∙ sym (last_shown es (map string_bytes s.messages.items))

pub returns : goal.returns
unfolding state calls
returns c =
    let s = c.args.self.now in
    let zero : c.loop-i.i ≡ 0 = omega arith in
    let none_left : EOF ≡ kind_of_last EOF s.events.items = rw zero at c.loop-i.invariant.so_far in
    none_left ∙ sym (last_shown s.events.items (map string_bytes s.messages.items))
