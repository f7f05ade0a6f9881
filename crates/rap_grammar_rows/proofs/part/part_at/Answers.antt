-- The part by its form.
use Rattle.std.proofs.Common.{arith}
use Rattle.rap_grammar_rows.proofs.Parts.{end_is, start_is, close_is, token_is, word_is, operator_is, category_is, choice_is, repeat_is, group_is, folds_is, turn_is, guard_is}
use Rattle.rap_grammar_rows.proofs.part.part_at.Goals as goal

pub returns-in-0 : goal.returns-in-0
returns-in-0 c =
    end_is c.args.place c.in_ok-numbers.numbers.form c.in_ok-numbers.numbers.first c.in_ok-numbers.numbers.second c.in_ok-numbers.numbers.next c.in_ok-numbers.ensures c.in-0.is

pub returns-in-1 : goal.returns-in-1
returns-in-1 c =
    start_is c.args.place c.in_ok-numbers.numbers.form c.in_ok-numbers.numbers.first c.in_ok-numbers.numbers.second c.in_ok-numbers.numbers.next c.behind-next.result c.in_ok-numbers.ensures c.in-1.is c.behind-next.ensures

pub returns-in-2 : goal.returns-in-2
returns-in-2 c =
    close_is c.args.place c.in_ok-numbers.numbers.form c.in_ok-numbers.numbers.first c.in_ok-numbers.numbers.second c.in_ok-numbers.numbers.next c.behind-next.result c.in_ok-numbers.ensures c.in-2.is c.behind-next.ensures

pub returns-in-3 : goal.returns-in-3
returns-in-3 c =
    token_is c.args.place c.in_ok-numbers.numbers.form c.in_ok-numbers.numbers.first c.in_ok-numbers.numbers.second c.in_ok-numbers.numbers.next c.from-first.result c.from-second.result c.behind-next.result c.in_ok-numbers.ensures c.in-3.is (omega arith) (omega arith) c.behind-next.ensures

pub returns-in-4 : goal.returns-in-4
returns-in-4 c =
    word_is c.args.place c.in_ok-numbers.numbers.form c.in_ok-numbers.numbers.first c.in_ok-numbers.numbers.second c.in_ok-numbers.numbers.next c.behind-next.result c.in_ok-numbers.ensures c.in-4.is c.behind-next.ensures

pub returns-in-5 : goal.returns-in-5
returns-in-5 c =
    operator_is c.args.place c.in_ok-numbers.numbers.form c.in_ok-numbers.numbers.first c.in_ok-numbers.numbers.second c.in_ok-numbers.numbers.next c.behind-next.result c.in_ok-numbers.ensures c.in-5.is c.behind-next.ensures

pub returns-in-6 : goal.returns-in-6
returns-in-6 c =
    category_is c.args.place c.in_ok-numbers.numbers.form c.in_ok-numbers.numbers.first c.in_ok-numbers.numbers.second c.in_ok-numbers.numbers.next c.behind-next.result c.in_ok-numbers.ensures c.in-6.is c.behind-next.ensures

pub returns-in-7 : goal.returns-in-7
returns-in-7 c =
    choice_is c.args.place c.in_ok-numbers.numbers.form c.in_ok-numbers.numbers.first c.in_ok-numbers.numbers.second c.in_ok-numbers.numbers.next c.behind.result c.behind-in-7.result c.behind-next.result c.in_ok-numbers.ensures c.in-7.is c.behind.ensures c.behind-in-7.ensures c.behind-next.ensures

pub returns-in-8 : goal.returns-in-8
returns-in-8 c =
    repeat_is c.args.place c.in_ok-numbers.numbers.form c.in_ok-numbers.numbers.first c.in_ok-numbers.numbers.second c.in_ok-numbers.numbers.next c.behind-in-8.result c.behind-in-8-2.result c.behind-next.result c.in_ok-numbers.ensures c.in-8.is c.behind-in-8.ensures c.behind-in-8-2.ensures c.behind-next.ensures

pub returns-in-9 : goal.returns-in-9
returns-in-9 c =
    group_is c.args.place c.in_ok-numbers.numbers.form c.in_ok-numbers.numbers.first c.in_ok-numbers.numbers.second c.in_ok-numbers.numbers.next c.behind-in-9.result c.behind-next.result c.in_ok-numbers.ensures c.in-9.is c.behind-in-9.ensures c.behind-next.ensures

pub returns-in-10 : goal.returns-in-10
returns-in-10 c =
    folds_is c.args.place c.in_ok-numbers.numbers.form c.in_ok-numbers.numbers.first c.in_ok-numbers.numbers.second c.in_ok-numbers.numbers.next c.behind-in-10.result c.behind-next.result c.in_ok-numbers.ensures c.in-10.is c.behind-in-10.ensures c.behind-next.ensures

pub returns-in-11 : goal.returns-in-11
returns-in-11 c =
    turn_is c.args.place c.in_ok-numbers.numbers.form c.in_ok-numbers.numbers.first c.in_ok-numbers.numbers.second c.in_ok-numbers.numbers.next c.from-second.result c.behind-in-11.result c.behind-next.result c.in_ok-numbers.ensures c.in-11.is (omega arith) c.behind-in-11.ensures c.behind-next.ensures

pub returns-in-12 : goal.returns-in-12
returns-in-12 c =
    guard_is c.args.place c.in_ok-numbers.numbers.form c.in_ok-numbers.numbers.first c.in_ok-numbers.numbers.second c.in_ok-numbers.numbers.next c.from-first.result c.behind-next.result c.in_ok-numbers.ensures c.in-12.is (omega arith) c.behind-next.ensures
