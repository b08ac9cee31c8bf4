-- How much is judged: sentences of fewer than 2^32 nodes, at most 512 row terms, and at most 400,000 clauses. These three are
-- tested in this order.
use Rattle.std.specs.Prelude.{◌≡◌, ◌≤◌, ◌<◌, ◌-◌, ◌^◌, ℕ, List, length, min, All, Some, slice_get}
use Rattle.sort_formula.specs.declared.formula.Formula.{Formula}
use Rattle.sort_formula.specs.Nodes.{nodes}
use Rattle.lint_engine.specs.JudgedBy.{rows_for, clauses_for}

-- the greatest `u64` in place of greater numbers
abbrev pub counted : ℕ → ℕ
counted n = min n (2 ^ 64 - 1)

abbrev pub HaveFewNodes : List Formula → Type 0
HaveFewNodes sentences = All (λ s. nodes s < 2 ^ 32) sentences

pub record HasManyNodes (sentences : List Formula) : Type 0 where
  pub number : ℕ
  pub sentence : Formula
  pub stands : slice_get sentences number ≡ Some sentence
  pub many : 2 ^ 32 ≤ nodes sentence

module _ (sentences : List Formula) (order : List ℕ) where
  -- no limit is passed
  pub record AreFew : Type 0 where
    pub nodes : HaveFewNodes sentences
    pub rows : length (rows_for sentences order) ≤ 512
    pub clauses : length (clauses_for sentences order) ≤ 400000

  -- the first limit that is passed, with the numbers of row terms and of clauses that are answered
  pub data IsTooLarge (rows clauses : ℕ) : Type 0 where
    by_nodes : HasManyNodes sentences → rows ≡ 0 → clauses ≡ 2 ^ 64 - 1 → IsTooLarge rows clauses
    by_rows : HaveFewNodes sentences → 512 < length (rows_for sentences order)
        → rows ≡ counted (length (rows_for sentences order)) → clauses ≡ 0 → IsTooLarge rows clauses
    by_clauses : HaveFewNodes sentences → length (rows_for sentences order) ≤ 512 → 400000 < length (clauses_for sentences order)
        → rows ≡ length (rows_for sentences order) → clauses ≡ counted (length (clauses_for sentences order)) → IsTooLarge rows clauses
