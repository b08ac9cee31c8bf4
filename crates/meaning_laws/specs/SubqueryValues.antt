-- For the laws about EXISTS and IN: the inner bindings of a subquery, and the values that it selects.
use Rattle.std.specs.Prelude.{ℕ, ◌≡◌, List, map}
use Rattle.std.specs.Prelude.{Ok}
use Rattle.lint_core.specs.declared.condition.Block.{Block, out-Block}
use Rattle.lint_core.specs.declared.condition.Term.{Term}
use Rattle.lint_core.specs.declared.database.Database.{Database}
use Rattle.lint_core.specs.declared.database.Truth.{Truth}
use Rattle.lint_core.specs.declared.database.Value.{Value}
use Rattle.lint_core.specs.Condition.{Inner, truth, inner_bindings, selected, items_at}
use Rattle.lint_core.specs.Evaluation.{map_ok}
use Rattle.lint_core.specs.Fits.{tables_of}

-- one more level, with each list of rows of the subquery's tables, and the truth of its condition there
abbrev pub inner_bindings_of : Database → Block → List (List ℕ) → List (List ℕ) → List Inner
inner_bindings_of db block tables binding = inner_bindings db (tables_of (out-Block block).entries) (truth db (out-Block block).cond) tables binding

-- the condition has a truth at each inner binding, and these are they
abbrev pub HasInnerTruths : Database → Block → List (List ℕ) → List (List ℕ) → List Truth → Type 0
HasInnerTruths db block tables binding truths = map (λ (inner : Inner). inner.truth) (inner_bindings_of db block tables binding) ≡ map Ok truths

-- the condition has a truth at each inner binding, and at those at which it is true the item has these values
abbrev pub Selects : Database → Block → Term → List (List ℕ) → List (List ℕ) → List Value → Type 0
Selects db block item tables binding values = map_ok (items_at db item) (selected (inner_bindings_of db block tables binding)) ≡ Ok values
