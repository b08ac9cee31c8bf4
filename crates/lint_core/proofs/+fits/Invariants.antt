use Rattle.std.proofs.Common.{◌≡◌, drop}
use Rattle.std.specs.List.{list_all}
use Rattle.lint_core.specs.Fits.{cond_fits}
use Rattle.lint_core.specs.Levels.{tables_of_levels}
use Rattle.lint_core.proofs.+fits.Given as goal

-- all so far fit
abbrev pub invariant-fits::all_fit-loop-cond : goal.invariant-fits::all_fit-loop-cond
invariant-fits::all_fit-loop-cond l =
    list_all (cond_fits l.tables (tables_of_levels l.levels)) (drop l.cond-index l.conds)
    ≡ list_all (cond_fits l.tables (tables_of_levels l.levels)) l.conds
