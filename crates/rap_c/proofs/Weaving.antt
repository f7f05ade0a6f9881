-- The steps that `rap_weave` returns, and when those given are not those of a tree.
use Rattle.std.proofs.Common.{◌≡◌, ℕ, ◌≤◌, List, length, map, Bool, true, false, sym, subst, ◌∙◌}
use Rattle.std.specs.Prelude.{IsTrue, ◌↔◌}
use Rattle.rap_base.specs.declared.edition.Edition.{Edition}
use Rattle.rap_events.specs.Cover.{covers}
use Rattle.rap_events.specs.Reading.{forest_of}
use Rattle.rap_events.specs.Record.{Record}
use Rattle.rap_events.specs.Step.{step_value}
use Rattle.rap_events.specs.StepValue.{StepValue}
use Rattle.rap_events.specs.declared.output.Step.{Step}
use Rattle.rap_lexed.specs.Input.{records}
use Rattle.rap_lexed.specs.LexedStr.{Lexed, IsLexing}
use Rattle.rap_steps.specs.Steps.{IsTreeSteps}
use Rattle.rap_c.specs.Shown.{AreStepsOf}
use Rattle.rap_c.specs.Woven.{AreNoTree}
use Rattle.rap_c.specs.declared.step.RapStep.{RapStep}
use Rattle.rap_c.proofs.Shown.{tree_steps, no_cover}

module _ (text : List ℕ) (edition : Edition) (ss : List RapStep) (ms : List ℕ) (lexed : Lexed) (lexing : IsLexing text edition lexed) (small : length text ≤ 4294967295) where
  -- steps that are not those of a tree
  pub none_tree : (vs : List StepValue) → AreStepsOf ms ss vs → ¬ IsTreeSteps vs → AreNoTree text edition ss ms
  none_tree vs h bad = record {
    lexed = lexed;
    lexing = lexing;
    small = small;
    other = λ tree t. bad (tree_steps lexed.tokens edition ss ms vs tree h t);
  }

  -- a tree that is not one over the text
  pub none_over : (vs : List StepValue) → AreStepsOf ms ss vs → covers (records lexed.tokens edition) (forest_of vs) ≡ false → AreNoTree text edition ss ms
  none_over vs h bad = record { lexed = lexed; lexing = lexing; small = small; other = no_cover lexed.tokens edition ss ms vs h bad }

  -- steps that were read, and the test says that they are not those of a tree
  pub not_one : (read slice : List Step) (b : Bool) → slice ≡ read → AreStepsOf ms ss (map step_value read) → IsTrue b ↔ IsTreeSteps (map step_value slice) → b ≡ false → AreNoTree text edition ss ms
  not_one read slice b same h test e =
      none_tree (map step_value read) h
      (λ t.
      let k : b ≡ true = test.1 (subst (λ (l : List Step). IsTreeSteps (map step_value l)) (sym same) t) in
      let f : false ≡ true = sym e ∙ k in
      absurd cc)

  -- steps that were read, and the test says that their leaves do not match the input
  pub not_over : (read slice : List Step) (input : List Record) → slice ≡ read → input ≡ records lexed.tokens edition → AreStepsOf ms ss (map step_value read)
      → covers input (forest_of (map step_value slice)) ≡ false → AreNoTree text edition ss ms
  not_over read slice input same is h e =
      none_over (map step_value read) h
      (subst (λ (l : List Record). covers l (forest_of (map step_value read)) ≡ false) is (subst (λ (l : List Step). covers input (forest_of (map step_value l)) ≡ false) same e))
