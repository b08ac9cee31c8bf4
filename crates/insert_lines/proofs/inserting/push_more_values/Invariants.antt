use Rattle.std.proofs.Common.{◌≡◌, ◌++◌, drop, codes, string_bytes}
use Rattle.insert_lines.specs.InsertText.{texts, value_text}
use Rattle.insert_lines.proofs.inserting.push_more_values.Given as goal

abbrev pub invariant-loop-value : goal.invariant-loop-value
invariant-loop-value l = string_bytes l.out ++ texts (λ v. codes ", " ++ value_text v) (drop l.value-index l.values) ≡ string_bytes l.fn.out ++ texts (λ v. codes ", " ++ value_text v) l.values
