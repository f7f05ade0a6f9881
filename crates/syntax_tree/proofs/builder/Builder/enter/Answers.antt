use Rattle.std.proofs.Common.{refl, ap, ◌∙◌, reverse}
use Rattle.syntax_tree.specs.Building.{frames_of, newest_of}
use Rattle.syntax_tree.specs.declared.builder.Open.{Open}
use Rattle.syntax_tree.proofs.Frames.{newest_first, frames-enter, newest-enter, same_building}
use Rattle.syntax_tree.proofs.builder.Builder.enter.Goals as goal

pub returns : goal.returns
returns c =
    let old = c.args.self.now in
    let cs = old.children.items in
    let opened : Open = record { kind = c.args.kind; start = old.at; before = old.inside } in
    let order = newest_first old.open.items c.push.new.self.items opened c.in_ok-push.ensures.items in
    let frames = ap (λ os. frames_of os 0 cs) order ∙ frames-enter (reverse old.open.items) opened cs in
    let forest = ap (λ os. newest_of os 0 cs) order ∙ newest-enter (reverse old.open.items) opened cs in
    same_building _ _ _ _ _ _ frames forest refl
