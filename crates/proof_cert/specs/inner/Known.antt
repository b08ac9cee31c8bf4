-- What is known in a branch of a certificate of the clauses that a tree has split so far: which fact stands for a clause,
-- and which row of the branch for a row term.
use Rattle.std.specs.Prelude.{◌≡◌, ◌⊎◌, ℕ, true, nat_eq, List, [], ◌∷◌, Option, Some, None, slice_get, if◌then◌else◌}
use Rattle.sort_formula.specs.declared.formula.Formula.{Formula, out-Formula}
use Rattle.sort_formula.specs.Certificate.{fact_of}
use Rattle.sort_formula.specs.Facts.{Branch}
use Rattle.ground_theory.specs.declared.literal.Guard.{Guard}
use Rattle.case_split.specs.Trees.{is_among}
use Rattle.instantiate.specs.declared.problem.Problem.{Problem}
use Rattle.instantiate.specs.Hanging.{StandsAt, IsMaker, IsRoot, HangsBelow}

abbrev pub Pairs : Type 0
Pairs = List (ℕ × ℕ)

abbrev pub IsIn : Pairs → ℕ × ℕ → Type 0
IsIn [] pair = ⊥
IsIn (p ∷ ps) pair = (p ≡ pair) ⊎ IsIn ps pair

-- the row of the branch that stands for a row term, if one does
abbrev pub row_of : Pairs → ℕ → Option ℕ
row_of [] row = None
row_of (p ∷ ps) row = if nat_eq p.0 row then Some p.1 else row_of ps row

-- the rows of the branch are those of the row terms, by what is the row of each
abbrev pub Names : (ℕ → Option ℕ) → List ℕ → List ℕ → Type 0
Names row_for [] [] = Unit {0}
Names row_for [] (r ∷ rs) = ⊥
Names row_for (v ∷ vs) [] = ⊥
Names row_for (v ∷ vs) (r ∷ rs) = (row_for v ≡ Some r) × Names row_for vs rs

abbrev pub IsKnown : Pairs → ℕ → Type 0
IsKnown facts clause = (fact : ℕ) × IsIn facts (clause, fact)

module _ (problem : Problem) where
  -- the fact of the branch is what stands at the clause
  pub record HasFact (branch : Branch) (row_for : ℕ → Option ℕ) (clause fact : ℕ) : Type 0 where
    pub formula : Formula
    pub variables : List ℕ
    pub named : List ℕ
    pub stands : StandsAt problem clause (out-Formula formula) variables
    pub is_fact : slice_get branch.facts fact ≡ Some (fact_of named formula)
    pub names : Names row_for variables named

  -- the clause is known, and so is what hangs below its way, with its row if it makes one
  pub record IsDone (facts rows : Pairs) (guard : Guard) : Type 0 where
    pub known : IsKnown facts guard.clause
    pub below : (clause : ℕ) → HangsBelow problem guard.clause guard.way clause → IsKnown facts clause
    pub made : (row table : ℕ) → IsMaker problem row guard.clause table → (named : ℕ) × (row_of rows row ≡ Some named)

  pub record Grounded (branch : Branch) (facts rows : Pairs) (guards : List Guard) : Type 0 where
    pub is : (clause fact : ℕ) → IsIn facts (clause, fact) → HasFact branch (row_of rows) clause fact
    pub tables : (row named : ℕ) → row_of rows row ≡ Some named → (table : ℕ) × (slice_get branch.tables named ≡ Some table) × (slice_get problem.frame.tables row ≡ Some table)
    pub made : (row named maker table : ℕ) → row_of rows row ≡ Some named → IsMaker problem row maker table → IsDone facts rows (record { clause = maker; way = 0 })
    pub done : (guard : Guard) → is_among guards guard ≡ true → IsDone facts rows guard
    pub roots : (sentence clause : ℕ) → IsRoot problem sentence clause → IsKnown facts clause
