use Rattle.std.proofs.Common.{◌≡◌, map, take}
use Rattle.lint_core.specs.declared.schema.Column.{Column}
use Rattle.instantiate.proofs.grounding.domains_of_table.Given as goal

abbrev pub invariant-loop-column : goal.invariant-loop-column
invariant-loop-column l = l.domains ≡ map (λ (c : Column). c.domain) (take l.column-index l.column-items)
