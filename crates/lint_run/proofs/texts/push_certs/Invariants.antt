use Rattle.std.proofs.Common.{◌≡◌, ◌++◌, drop, map}
use Rattle.std.specs.List.{flat_map}
use Rattle.lint_run.specs.Text.{cert_of}
use Rattle.lint_run.proofs.texts.push_certs.Given as goal

abbrev pub invariant-loop-answer : goal.invariant-loop-answer
invariant-loop-answer l = map (λ c. c.now) l.out.items ++ flat_map cert_of (drop l.answer-index l.answers) ≡ map (λ c. c.now) l.fn.out.items ++ flat_map cert_of l.answers
