use Rattle.std.proofs.Common.{◌≡◌, ℕ, ◌+◌, ◌<◌, ◌≤◌, ◌/◌, ◌++◌, List, [], ◌∷◌, Bool, cond, length, not, set, refl, ap, sym, ◌∙◌, arith}
use Rattle.std.proofs.lemmas.List.{set_past}
use Rattle.std.specs.Int.{from_bool}
use Rattle.rap_base.specs.NodeKind.{PATH_META}
use Rattle.rap_base.specs.TokenTests.{is_trivia}
use Rattle.rap_base.specs.declared.edition.Edition.{Edition}
use Rattle.rap_events.specs.Input.{records}
use Rattle.rap_events.specs.Record.{Record}
use Rattle.rap_events.proofs.Columns.{put-holds, put-records, as_with_joint, plain}
use Rattle.rap_events.proofs.input.columns.Columns.put.Goals as goal

-- nothing is set in an empty list
unused : (editions : List Edition) (place : ℕ) (edition : Edition) → length editions ≡ 0 → editions ≡ set editions place edition
unused editions place edition none = sym (set_past editions place edition (omega arith))

pub returns-clause-holds : goal.returns-clause-holds
returns-clause-holds c =
    let old = c.args.self.now in
    let place = c.args.place in
    let within : place / 64 < length old.joints.items = omega (arith, c.requires.room) in
    put-holds old _ place _ c.args.kind old.edition c.args.joint (is_trivia c.args.kind)
    (record { codes = ap (λ (code : ℕ). set old.codes.items place code) c.from.ensures.0; common = refl; editions = unused old.editions.items place old.edition c.requires.one_edition; joints = as_with_joint old.joints.items place c.args.joint _ _ within c.index_mut-2.ensures.value c.from-2.ensures })
    c.requires.holds c.requires.room c.requires.kept
    (ap (λ (n : ℕ). place + n) (c.from-count.ensures ∙ ap (λ (trivia : Bool). from_bool (not trivia)) c.is_trivia.ensures))

pub returns-clause-records : goal.returns-clause-records
returns-clause-records c =
    let old = c.args.self.now in
    let place = c.args.place in
    let kind = c.args.kind in
    let trivia = is_trivia kind in
    let within : place / 64 < length old.joints.items = omega (arith, c.requires.room) in
    let number : kind ≤ PATH_META = omega (arith, c.from.ensures.0, c.from.ensures.1) in
    put-records old _ place _ kind old.edition c.args.joint trivia
    (record { codes = ap (λ (code : ℕ). set old.codes.items place code) c.from.ensures.0; common = refl; editions = unused old.editions.items place old.edition c.requires.one_edition; joints = as_with_joint old.joints.items place c.args.joint _ _ within c.index_mut-2.ensures.value c.from-2.ensures })
    c.requires.holds (record { room = c.requires.room; same = λ none. refl })
    (ap (λ (n : ℕ). place + n) (c.from-count.ensures ∙ ap (λ (t : Bool). from_bool (not t)) c.is_trivia.ensures))
    ∙ ap (λ (r : Record). records old place ++ cond trivia [] (r ∷ [])) (plain kind old.edition c.args.joint number)
