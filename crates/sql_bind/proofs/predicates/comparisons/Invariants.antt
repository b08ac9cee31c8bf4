use Rattle.std.proofs.Common.{◌≡◌, map}
use Rattle.lint_core.specs.declared.condition.Cond.TheVariants as cond
use Rattle.sql_bind.specs.declared.predicates.Value.{Value}
use Rattle.sql_bind.proofs.predicates.comparisons.Given as goal

abbrev pub invariant-loop-value : goal.invariant-loop-value
invariant-loop-value l = l.conds ≡ map (λ (v : Value). cond.Compare l.op l.term v.term v.span) l.yielded
