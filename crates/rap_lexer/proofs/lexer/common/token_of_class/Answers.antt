use Rattle.std.proofs.Common.{◌≡◌, true, ◌∙◌, sym, get_or, slice_range}
use Rattle.std.proofs.lemmas.Bool.{lt-ltb}
use Rattle.rap_lexer.specs.Common.{is_lone, IsCommon}
use Rattle.rap_lexer.proofs.CommonTokens.{lone_common, lone_plain, if_some, match_some, common_kind}
use Rattle.rap_lexer.proofs.lexer.common.token_of_class.Goals as goal
use Rattle.rap_lexer.proofs.lexer.common.token_of_class.Goals.{After-from_u16}

-- the character that is a token of its own
lone : (c : After-from_u16) → IsCommon c.args.edition c.args.text.now c.from_u16.result 1
lone c =
    let text : c.as_bytes.result.now ≡ c.args.text.now = c.as_bytes.ensures.value in
    let is : is_lone (get_or c.as_bytes.result.now 0 0) ≡ true = sym c.class_of-class.ensures.lone ∙ lt-ltb _ _ c.if-class-lt-WHITE.true in
    let kind = c.from_u16.ensures ∙ (c.from.ensures ∙ c.class_of-class.ensures.kind c.if-class-lt-WHITE.true) in
    lone_common c.args.edition c.args.text.now c.from_u16.result c.utf8.text c.requires (rw text at is) (rw text at kind)

pub returns-then-class-lt-WHITE-clause-token : goal.returns-then-class-lt-WHITE-clause-token
returns-then-class-lt-WHITE-clause-token c = (lone c).token

pub returns-then-class-lt-WHITE-clause-border : goal.returns-then-class-lt-WHITE-clause-border
returns-then-class-lt-WHITE-clause-border c = (lone c).border

pub returns-then-class-lt-WHITE-clause-kind : goal.returns-then-class-lt-WHITE-clause-kind
returns-then-class-lt-WHITE-clause-kind c = common_kind c.args.edition c.args.text.now c.from_u16.result 1 (lone c)

pub returns-then-class-lt-WHITE-clause-no_string : goal.returns-then-class-lt-WHITE-clause-no_string
returns-then-class-lt-WHITE-clause-no_string c = (lone c).no_string

pub returns-then-class-lt-WHITE-clause-common : goal.returns-then-class-lt-WHITE-clause-common
returns-then-class-lt-WHITE-clause-common c = (lone c).common

pub returns-then-class-2-clause-kind : goal.returns-then-class-2-clause-kind
returns-then-class-2-clause-kind c = if_some _ _ _ c.white_token.result (λ r h. common_kind c.args.edition c.args.text.now r.kind r.len (h c.args.edition)) c.white_token.ensures.token

pub returns-then-class-2-clause-token : goal.returns-then-class-2-clause-token
returns-then-class-2-clause-token c = if_some _ _ _ c.white_token.result (λ r h. (h c.args.edition).token) c.white_token.ensures.token

pub returns-then-class-2-clause-no_string : goal.returns-then-class-2-clause-no_string
returns-then-class-2-clause-no_string c = if_some _ _ _ c.white_token.result (λ r h. (h c.args.edition).no_string) c.white_token.ensures.token

pub returns-then-class-2-clause-positive : goal.returns-then-class-2-clause-positive
returns-then-class-2-clause-positive c = if_some _ _ _ c.white_token.result (λ r h. (h c.args.edition).positive) c.white_token.ensures.token

pub returns-then-class-2-clause-border : goal.returns-then-class-2-clause-border
returns-then-class-2-clause-border c = if_some _ _ _ c.white_token.result (λ r h. (h c.args.edition).border) c.white_token.ensures.token

pub returns-then-class-2-clause-common : goal.returns-then-class-2-clause-common
returns-then-class-2-clause-common c = match_some _ _ _ c.white_token.result (λ r h. (h c.args.edition).common) c.white_token.ensures.token

pub returns-then-class-clause-kind : goal.returns-then-class-clause-kind
returns-then-class-clause-kind c = if_some _ _ _ c.word_token.result (λ r h. common_kind c.args.edition c.args.text.now r.kind r.len h) c.word_token.ensures.token

pub returns-then-class-lt-WHITE-clause-contextual : goal.returns-then-class-lt-WHITE-clause-contextual
returns-then-class-lt-WHITE-clause-contextual c = sym (lone_plain c.from_u16.result c.class_of-class.result (slice_range c.args.text.now 0 1) (c.from_u16.ensures ∙ c.from.ensures) (c.class_of-class.ensures.few c.if-class-lt-WHITE.true))
