-- The hash of a text's lines, taken in two steps.
use Rattle.std.proofs.Common.{◌≡◌, ◌++◌, ℕ, List, refl, ap, sym, ◌∙◌, string_bytes}
use Rattle.std.proofs.lemmas.List.Sums.{fold-append}
use Rattle.std.specs.List.{fold}
use Rattle.rap_base.specs.declared.edition.Edition.{Edition}
use Rattle.ra_ap_parser.specs.declared.entry_point.TopEntryPoint.{TopEntryPoint}
use Rattle.rast_print.specs.Shown.{IsPrinted}
use Rattle.rast_print.specs.declared.printer.Printer.{Printer}
use Rattle.rast_replay.specs.Hash.{fnv1a_step, fnv1a_of}
use Rattle.rast_replay.specs.Way.{IsHash}
use Rattle.rast_replay.specs.declared.way.Way.TheVariants as way

-- first those of the tree, and after them those of the messages
pub tree_hashed : (text : List ℕ) (edition : Edition) (entry : TopEntryPoint) (p : Printer) (first last : ℕ) →
    IsPrinted text edition entry p → first ≡ fnv1a_of p.tree →
    last ≡ fold fnv1a_step first (string_bytes p.messages) → IsHash text edition (way.Tree entry) last
tree_hashed text edition entry p first last i e f = record {
  lines = p.tree ++ string_bytes p.messages;
  are = record { lexed = i.lexed; forest = i.forest; parsed = i.parsed; is = rw (i.tree, i.messages) refl };
  is =
      f
      ∙ (ap (λ (h : ℕ). fold fnv1a_step h (string_bytes p.messages)) e
      ∙ sym (fold-append fnv1a_step 0xcbf29ce484222325 p.tree (string_bytes p.messages)));
}
