use Rattle.rap_lexed.proofs.InputRecords.{contextual-token}
use Rattle.rap_lexed.proofs.shortcuts.push_record.Goals as goal

pub push_ident-requires : goal.push_ident-requires
push_ident-requires c = rw (c.unwrap_or.ensures, c.from_contextual_keyword-keyword.ensures) (contextual-token c.text.result.now c.args.edition)
