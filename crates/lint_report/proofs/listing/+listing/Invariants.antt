use Rattle.std.proofs.Common.{◌≡◌, ◌++◌, drop}
use Rattle.std.specs.List.{flat_map}
use Rattle.lint_report.specs.inner.Listed.{places}
use Rattle.lint_report.proofs.listing.+listing.Given as goal

-- those so far, and those of the rest
abbrev pub invariant-push_each-loop-cond : goal.invariant-push_each-loop-cond
invariant-push_each-loop-cond l = l.out ++ flat_map (places l.listed) (drop l.cond-index l.conds) ≡ l.fn.out ++ flat_map (places l.listed) l.conds
