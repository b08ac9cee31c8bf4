use Rattle.std.proofs.Common.{◌≡◌, ◌++◌, map}
use Rattle.constraint_axioms.specs.declared.axiom.Axiom.{Axiom}
use Rattle.lint_engine.proofs.sentences.push_sentences.Given as goal

abbrev pub invariant-loop-axiom : goal.invariant-loop-axiom
invariant-loop-axiom l = l.sentences ≡ l.fn.sentences ++ map (λ (a : Axiom). a.sentence) l.yielded
