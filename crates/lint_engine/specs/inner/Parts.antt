-- Which part of an Or is chosen, how many Exists lead it, and the places of their rows.
use Rattle.std.specs.Prelude.{◌≡◌, ℕ, List, length, Option, Some, slice_get, option_and_then, unwrap_or}
use Rattle.sort_formula.specs.declared.formula.Formula.{Formula}
use Rattle.sorted_skolem.specs.declared.term.RowTerm.{RowTerm}
use Rattle.witness_db.specs.Parts.{part_node, places_from}
use Rattle.lint_engine.specs.Settled.{IsLed}

-- the way that is chosen at clause 0, that of the Or; 0 where none is
abbrev pub first_way : List (Option ℕ) → ℕ
first_way choices = unwrap_or (option_and_then (λ (choice : Option ℕ). choice) (slice_get choices 0)) 0

pub record IsLedBy (formula : Formula) (count : ℕ) : Type 0 where
  pub lead : List ℕ
  pub body : Formula
  pub led : IsLed formula lead body
  pub as_many : length lead ≡ count

-- those of the part of this number
pub record AreRowsOf (terms : List RowTerm) (places : List (Option ℕ)) (parts : List Formula) (part : ℕ) (rows : List ℕ) : Type 0 where
  pub formula : Formula
  pub stands : slice_get parts part ≡ Some formula
  pub count : ℕ
  pub led_by : IsLedBy formula count
  pub rows_are : rows ≡ places_from terms places (part_node parts part) count
