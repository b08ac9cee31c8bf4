-- Formulas whose bounds lie in an interval that negation maps to itself, since it takes m to -m-1: from -n on, and
-- below n. Nothing here has to be believed: no public contract says it.
use Rattle.std.specs.Prelude.{◌^◌, ℤ, pos, neg_ℤ, int_lt, Bool, true, ◌&&◌}
use Rattle.std.specs.List.{list_all}
use Rattle.lint_core.specs.Domain.{int_le}
use Rattle.sort_formula.specs.declared.formula.Atom.{Atom}
use Rattle.sort_formula.specs.declared.formula.Atom.TheVariants as atom
use Rattle.sort_formula.specs.declared.formula.Formula.{Formula, fold-Formula}
use Rattle.sort_formula.specs.declared.formula.Formula.TheOpen.{Formula-F}

abbrev pub is_near : ℤ → Bool
is_near most = int_le (neg_ℤ (pos (2 ^ 65))) most && int_lt most (pos (2 ^ 65))

abbrev pub is_near_atom : Atom → Bool
is_near_atom (atom.Le left right most) = is_near most
is_near_atom (atom.TextEq left right) = true
is_near_atom (atom.TextNe left right) = true
is_near_atom (atom.IsNull row column) = true
is_near_atom (atom.NotNull row column) = true
is_near_atom (atom.Same row other) = true
is_near_atom (atom.Other row other) = true

abbrev pub half_open_step : Formula-F Bool → Bool
half_open_step (Formula-F.Atom a) = is_near_atom a
half_open_step (Formula-F.And parts) = list_all (λ part. part) parts
half_open_step (Formula-F.Or parts) = list_all (λ part. part) parts
half_open_step (Formula-F.Exists table body) = body
half_open_step (Formula-F.Forall table body) = body

abbrev pub is_half_open : Formula → Bool
is_half_open = fold-Formula Bool half_open_step
