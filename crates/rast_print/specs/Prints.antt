-- What a printer does with a step.
use Rattle.std.specs.Prelude.{◌≡◌, ◌++◌, string_bytes}
use Rattle.rap_lexed.specs.StrStep.{StrStepValue}
use Rattle.rast_print.specs.Printed.{line, depth_after, reported_line}
use Rattle.rast_print.specs.declared.printer.Printer.{Printer}

-- the step's line is added to those of the tree or to those of the messages
pub record Prints (old : Printer) (step : StrStepValue) (new : Printer) : Type 0 where
  pub tree : new.tree ≡ old.tree ++ line old.depth step
  pub messages : string_bytes new.messages ≡ string_bytes old.messages ++ reported_line step
  pub depth : new.depth ≡ depth_after old.depth step
