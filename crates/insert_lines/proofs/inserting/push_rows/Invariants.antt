use Rattle.std.proofs.Common.{◌≡◌, ◌++◌, drop, string_bytes}
use Rattle.insert_lines.specs.InsertText.{texts, insert_line}
use Rattle.insert_lines.proofs.inserting.push_rows.Given as goal

abbrev pub invariant-loop-row : goal.invariant-loop-row
invariant-loop-row l = string_bytes l.out ++ texts (insert_line l.indent l.table) (drop l.row-index l.rows) ≡ string_bytes l.fn.out ++ texts (insert_line l.indent l.table) l.rows
