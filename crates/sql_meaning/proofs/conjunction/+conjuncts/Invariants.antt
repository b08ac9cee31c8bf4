use Rattle.std.proofs.Common.{◌≡◌, ◌++◌, take}
use Rattle.std.specs.List.{flat_map}
use Rattle.lint_core.specs.Conjuncts.{conjuncts}
use Rattle.sql_meaning.specs.Behind.{behind}
use Rattle.sql_meaning.proofs.conjunction.+conjuncts.Given as goal

-- those of the parts so far
abbrev pub invariant-add_each-loop-part : goal.invariant-add_each-loop-part
invariant-add_each-loop-part l = behind l.found.items ≡ behind l.initial.found.items ++ flat_map conjuncts (take l.part-index l.parts)
