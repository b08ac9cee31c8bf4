use Rattle.std.proofs.Common.{◌≡◌, [], drop}
use Rattle.sql_bind.specs.Columns.{rules_of, bind_columns}
use Rattle.sql_bind.proofs.columns.bind_columns.Given as goal

abbrev pub invariant-loop-element : goal.invariant-loop-element
invariant-loop-element l = bind_columns (rules_of l.elements) l.columns (drop l.element-index l.elements) ≡ bind_columns (rules_of l.elements) [] l.elements
