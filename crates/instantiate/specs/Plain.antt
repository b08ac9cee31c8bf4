-- The nodes of a sentence under no Forall. Each has one clause, whose key has no rows, and each of its variables has the row term
-- that its Exists asks for at no rows.
use Rattle.std.specs.Prelude.{◌≡◌, ℕ, suc, ◌+◌, sum, List, [], ◌∷◌, ◌++◌, map, take, Some, slice_get}
use Rattle.sort_formula.specs.declared.formula.Formula.{Formula, out-Formula}
use Rattle.sort_formula.specs.declared.formula.Formula.TheOpen.{Formula-F}
use Rattle.sort_formula.specs.Nodes.{nodes}
use Rattle.sorted_skolem.specs.declared.term.RowTerm.{RowTerm}
use Rattle.instantiate.specs.declared.problem.Problem.{Problem}
use Rattle.instantiate.specs.Ground.{term_number}
use Rattle.instantiate.specs.Hanging.{StandsAt, IsMaker, guards_at, at_way}

-- the row term that an Exists under no Forall asks for
abbrev pub plain_row : List RowTerm → ℕ → ℕ → ℕ
plain_row terms sentence node = term_number terms (record { sentence = sentence; node = node; rows = [] })

-- a formula of this layer stands at the clause of the node, inside the Exists of these nodes
pub record StandsPlain (problem : Problem) (sentence node clause : ℕ) (layer : Formula-F Formula) (around : List ℕ) : Type 0 where
  pub stands : StandsAt problem clause layer (map (plain_row problem.rows.terms sentence) around)
  pub is_own : stands.key ≡ record { sentence = sentence; node = node; rows = [] }

-- a formula stands at the node, right below the clause above, by one of its ways
pub record PlainBelow (problem : Problem) (sentence above way node : ℕ) (formula : Formula) (around : List ℕ) : Type 0 where
  pub clause : ℕ
  pub stands : StandsPlain problem sentence node clause (out-Formula formula) around
  pub guards : guards_at problem clause ≡ at_way above way ∷ []

-- the laws: what stands at the first node, and below each
pub record PlainNodes (problem : Problem) : Type 0 where
  pub root : (sentence : ℕ) (formula : Formula) → slice_get problem.sentences sentence ≡ Some formula
      → (clause : ℕ) × StandsPlain problem sentence 0 clause (out-Formula formula) [] × (guards_at problem clause ≡ [])
  pub row : (sentence node clause table : ℕ) (body : Formula) (around : List ℕ)
      → StandsPlain problem sentence node clause (Formula-F.Exists table body) around → IsMaker problem (plain_row problem.rows.terms sentence node) clause table
  pub body : (sentence node clause table : ℕ) (body : Formula) (around : List ℕ)
      → StandsPlain problem sentence node clause (Formula-F.Exists table body) around → PlainBelow problem sentence clause 0 (suc node) body (around ++ node ∷ [])
  -- the parts of an And, and of an Or, each behind the nodes of those before
  pub part : (sentence node clause : ℕ) (parts : List Formula) (around : List ℕ) → StandsPlain problem sentence node clause (Formula-F.And parts) around
      → (number : ℕ) (formula : Formula) → slice_get parts number ≡ Some formula
      → PlainBelow problem sentence clause 0 (suc node + sum (map nodes (take number parts))) formula around
  pub way : (sentence node clause : ℕ) (parts : List Formula) (around : List ℕ) → StandsPlain problem sentence node clause (Formula-F.Or parts) around
      → (number : ℕ) (formula : Formula) → slice_get parts number ≡ Some formula
      → PlainBelow problem sentence clause number (suc node + sum (map nodes (take number parts))) formula around
