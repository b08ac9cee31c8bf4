use Rattle.std.proofs.Common.{◌≡◌, ◌++◌, drop, string_bytes}
use Rattle.insert_lines.specs.InsertText.{texts}
use Rattle.lint_report.specs.Text.{counter_text}
use Rattle.lint_report.proofs.answers.push_counters.Given as goal

abbrev pub invariant-loop-counter : goal.invariant-loop-counter
invariant-loop-counter l = string_bytes l.out ++ texts (counter_text l.schema) (drop l.counter-index l.counters) ≡ string_bytes l.fn.out ++ texts (counter_text l.schema) l.counters
