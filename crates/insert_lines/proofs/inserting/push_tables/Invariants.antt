use Rattle.std.proofs.Common.{◌≡◌, ◌++◌, drop, string_bytes}
use Rattle.insert_lines.specs.InsertText.{texts, table_lines}
use Rattle.insert_lines.proofs.inserting.push_tables.Given as goal

abbrev pub invariant-loop-number : goal.invariant-loop-number
invariant-loop-number l =
    string_bytes l.out ++ texts (table_lines l.indent l.schema l.database) (drop l.number-index l.order)
    ≡ string_bytes l.fn.out ++ texts (table_lines l.indent l.schema l.database) l.order
