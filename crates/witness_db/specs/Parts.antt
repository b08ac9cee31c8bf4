-- Of a problem whose first sentence is an Or: the part of it that a full case takes, and the rows for which the Exists that lead the
-- part ask. The clause of the first sentence is clause 0.
use Rattle.std.specs.Prelude.{◌≡◌, ℕ, ◌+◌, sum, true, List, length, map, take, Option, Some, slice_get}
use Rattle.lint_core.specs.declared.database.Database.{Database}
use Rattle.lint_core.specs.Database.{below}
use Rattle.lint_core.specs.Points.{are_rows}
use Rattle.sort_formula.specs.declared.formula.Formula.{Formula}
use Rattle.sort_formula.specs.Holds.{holds}
use Rattle.sort_formula.specs.Nodes.{nodes}
use Rattle.sort_formula.specs.Translation.{exist_rows}
use Rattle.counter_laws.specs.LeadingRows.{leading_rows}
use Rattle.sorted_skolem.specs.declared.term.RowTerm.{RowTerm}
use Rattle.instantiate.specs.Plain.{plain_row}
use Rattle.witness_db.specs.Leading.{place_for}

-- the places of the row terms for which so many nodes of the first sentence ask, from this one on
abbrev pub places_from : List RowTerm → List (Option ℕ) → ℕ → ℕ → List ℕ
places_from terms places node count = map (λ number. place_for places (plain_row terms 0 (node + number))) (below count)

-- the node at which a part stands, behind the nodes of the parts before
abbrev pub part_node : List Formula → ℕ → ℕ
part_node parts part = 1 + sum (map nodes (take part parts))

-- Of a part of this number: whatever Exists lead it, the rows for which they ask are there, and what stands inside holds at these.
pub record PartHolds (db : Database) (terms : List RowTerm) (places : List (Option ℕ)) (parts : List Formula) (part : ℕ) : Type 0 where
  pub formula : Formula
  pub stands : slice_get parts part ≡ Some formula
  pub there : (lead : List ℕ) (body : Formula) → formula ≡ exist_rows lead body
      → are_rows db lead (places_from terms places (part_node parts part) (length lead)) ≡ true
  pub inside : (lead : List ℕ) (body : Formula) → formula ≡ exist_rows lead body
      → holds db body (leading_rows lead (places_from terms places (part_node parts part) (length lead))) ≡ true
