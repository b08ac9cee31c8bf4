use Rattle.std.proofs.Common.{◌≡◌, ◌++◌, drop, codes, string_bytes}
use Rattle.insert_lines.specs.InsertText.{texts}
use Rattle.lint_report.specs.Text.{table_text}
use Rattle.lint_report.proofs.answers.push_more_tables.Given as goal

abbrev pub invariant-loop-table : goal.invariant-loop-table
invariant-loop-table l = string_bytes l.out ++ texts (λ t. codes ", " ++ table_text l.schema t) (drop l.table-index l.tables) ≡ string_bytes l.fn.out ++ texts (λ t. codes ", " ++ table_text l.schema t) l.tables
