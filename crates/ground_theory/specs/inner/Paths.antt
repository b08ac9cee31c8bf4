-- Paths of Sames between row terms.
use Rattle.std.specs.Prelude.{◌≡◌, ◌⊎◌, ◌<◌, ℕ, true, false, List, [], ◌∷◌, ◌++◌, length, map, slice_get, Some}
use Rattle.lint_core.specs.declared.certificate.SameEdge.{SameEdge}
use Rattle.lint_core.specs.declared.database.Value.{Value}
use Rattle.sort_formula.specs.declared.formula.Atom.TheVariants as atom
use Rattle.text_classes.specs.declared.facts.TextEnd.TheVariants.{Var}
use Rattle.text_classes.specs.declared.facts.TextFact.{TextFact}
use Rattle.ground_theory.specs.declared.joining.Join.{Join}
use Rattle.ground_theory.specs.declared.literal.Literal.{Literal}
use Rattle.ground_theory.specs.inner.Joining.{join_at}

-- the edge is one of the joins, from the one row to the next
pub record IsJoinEdge (joins : List Join) (e : SameEdge) (from next : ℕ) : Type 0 where
  pub place : ℕ
  pub listed : place < length joins
  pub fact : e.fact ≡ (join_at joins place).fact
  pub ends : ((e.back ≡ false) × (from ≡ (join_at joins place).row) × (next ≡ (join_at joins place).other))
      ⊎ ((e.back ≡ true) × (from ≡ (join_at joins place).other) × (next ≡ (join_at joins place).row))

-- the path leads from the one row to the other
abbrev pub LeadsBy : List Join → ℕ → List SameEdge → ℕ → Type 0
LeadsBy joins from [] to = from ≡ to
LeadsBy joins from (e ∷ es) to = (next : ℕ) × IsJoinEdge joins e from next × LeadsBy joins next es to

-- nothing that is alike along each join tells the two rows apart
abbrev pub AreTied : List Join → ℕ → ℕ → Type 0
AreTied joins from to = (mark : ℕ → Value) → ((k : ℕ) → k < length joins → mark (join_at joins k).row ≡ mark (join_at joins k).other) → mark from ≡ mark to

-- the joins as equalities between variables that stand for rows, and that two of these differ
abbrev pub join_fact : Join → TextFact
join_fact j = record { left = Var j.row; right = Var j.other; equal = true }

abbrev pub row_facts : List Join → ℕ → ℕ → List TextFact
row_facts joins from to = map join_fact joins ++ record { left = Var from; right = Var to; equal = false } ∷ []

-- each join is a literal
abbrev pub AreRooted : List Literal → List Join → Type 0
AreRooted literals joins =
    (k : ℕ) → k < length joins → (l : Literal) × (slice_get literals (join_at joins k).fact ≡ Some l) × (l.atom ≡ atom.Same (join_at joins k).row (join_at joins k).other)
