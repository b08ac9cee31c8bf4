use Rattle.std.proofs.Common.{◌≡◌, drop}
use Rattle.std.specs.List.{list_all}
use Rattle.lint_core.specs.Fits.{is_flat}
use Rattle.lint_core.proofs.+flat.Given as goal

-- all so far are flat
abbrev pub invariant-fits::all_flat-loop-cond : goal.invariant-fits::all_flat-loop-cond
invariant-fits::all_flat-loop-cond l = list_all is_flat (drop l.cond-index l.conds) ≡ list_all is_flat l.conds
