use Rattle.std.proofs.Common.{◌≡◌, true, take}
use Rattle.std.specs.Prelude.{All}
use Rattle.sort_formula.specs.Sentences.{is_sentence}
use Rattle.lint_engine.proofs.sentences.formulas_are_sentences.Given as goal

abbrev pub invariant-loop-sentence : goal.invariant-loop-sentence
invariant-loop-sentence l = All (λ s. is_sentence s ≡ true) (take l.sentence-index l.sentences)
