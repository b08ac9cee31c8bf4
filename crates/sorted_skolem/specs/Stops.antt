-- Facts of the answers that are not Ok.
use Rattle.std.specs.Prelude.{◌≡◌, ℕ, ◌-◌, ◌^◌, ◌<◌, min, List, length}
use Rattle.sorted_skolem.specs.declared.order.SortStop.{SortStop}
use Rattle.sorted_skolem.specs.declared.order.SortStop.TheVariants as sort
use Rattle.sorted_skolem.specs.declared.rows.RowsStop.{RowsStop}
use Rattle.sorted_skolem.specs.declared.rows.RowsStop.TheVariants as rows
use Rattle.sorted_skolem.specs.declared.term.RowTerm.{RowTerm}

-- a fact of the tables of a cycle, where the answer is one
abbrev pub IfCycle : SortStop → (List ℕ → Type 0) → Type 0
IfCycle (sort.Cycle tables) P = P tables
IfCycle sort.NoMemory P = Unit {0}

-- a fact of the count, where the answer is that there are too many terms
abbrev pub IfManyRows : RowsStop → (ℕ → Type 0) → Type 0
IfManyRows (rows.ManyRows count) P = P count
IfManyRows rows.NoMemory P = Unit {0}

-- there are more than 512 terms: so many, or the greatest count where there are more
pub record AreMany (terms : List RowTerm) (count : ℕ) : Type 0 where
  pub many : 512 < length terms
  pub counted : count ≡ min (length terms) (2 ^ 64 - 1)
