use Rattle.std.proofs.Common.{◌≡◌, map, take}
use Rattle.sorted_skolem.specs.declared.term.RowTerm.{RowTerm}
use Rattle.instantiate.proofs.grounding.tables_of.Given as goal

abbrev pub invariant-loop-term : goal.invariant-loop-term
invariant-loop-term l = l.tables ≡ map (λ (t : RowTerm). t.table) (take l.term-index l.terms)
