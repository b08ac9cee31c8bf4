-- Of which sentences the ground list is made.
use Rattle.std.specs.Prelude.{◌≡◌, ◌≤◌, ◌<◌, ◌^◌, ℕ, List, All, length}
use Rattle.sort_formula.specs.declared.formula.Formula.{Formula}
use Rattle.sort_formula.specs.Nodes.{nodes}
use Rattle.sorted_skolem.specs.declared.term.RowTerm.{RowTerm}
use Rattle.sorted_skolem.specs.Graph.{IsOrder}
use Rattle.sorted_skolem.specs.Preorder.{outlines_of}
use Rattle.sorted_skolem.specs.Terms.{row_terms}

-- the live tables have this order and ask for these row terms, which are few, and so are the nodes of each sentence
pub record AreGroundable (sentences : List Formula) (order : List ℕ) (terms : List RowTerm) : Type 0 where
  pub ordered : IsOrder sentences order
  pub terms_are : terms ≡ row_terms (outlines_of sentences) order
  pub few_rows : length terms ≤ 512
  pub few_nodes : All (λ s. nodes s < 2 ^ 32) sentences
