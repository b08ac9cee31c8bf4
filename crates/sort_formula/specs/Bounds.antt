-- Formulas whose bounds lie within plus or minus a number.
use Rattle.std.specs.Prelude.{ℕ, pos, neg_ℤ, Bool, true, ◌&&◌}
use Rattle.std.specs.List.{list_all}
use Rattle.lint_core.specs.Domain.{int_le}
use Rattle.sort_formula.specs.declared.formula.Atom.{Atom}
use Rattle.sort_formula.specs.declared.formula.Atom.TheVariants as atom
use Rattle.sort_formula.specs.declared.formula.Formula.{Formula, fold-Formula}
use Rattle.sort_formula.specs.declared.formula.Formula.TheOpen.{Formula-F}

module _ (greatest : ℕ) where
  abbrev pub atom_is_within : Atom → Bool
  atom_is_within (atom.Le left right most) = int_le (neg_ℤ (pos greatest)) most && int_le most (pos greatest)
  atom_is_within a = true

  abbrev pub within_step : Formula-F Bool → Bool
  within_step (Formula-F.Atom a) = atom_is_within a
  within_step (Formula-F.And parts) = list_all (λ part. part) parts
  within_step (Formula-F.Or parts) = list_all (λ part. part) parts
  within_step (Formula-F.Exists table body) = body
  within_step (Formula-F.Forall table body) = body

  abbrev pub is_within : Formula → Bool
  is_within = fold-Formula Bool within_step
