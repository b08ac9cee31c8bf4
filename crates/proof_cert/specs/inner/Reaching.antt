-- What stands at a clause that is reached, and which fact of a branch says it. Below a Forall a step has to say it first.
use Rattle.std.specs.Prelude.{◌≡◌, ◌+◌, ℕ, List, [], ◌∷◌, length, Option, Some, None, slice_get}
use Rattle.lint_core.specs.declared.certificate.Step.{Step}
use Rattle.lint_core.specs.declared.certificate.Step.TheVariants as step
use Rattle.lint_core.specs.declared.schema.Table.{Table}
use Rattle.sort_formula.specs.declared.formula.Formula.{Formula, out-Formula}
use Rattle.sort_formula.specs.declared.formula.Formula.TheOpen.{Formula-F}
use Rattle.sort_formula.specs.Certificate.{with_facts, branches_after}
use Rattle.sort_formula.specs.Facts.{Fact, Branch}
use Rattle.instantiate.specs.declared.problem.Problem.{Problem}
use Rattle.instantiate.specs.Hanging.{StandsAt, Hanging}
use Rattle.proof_cert.specs.declared.path.Opened.{Opened}
use Rattle.proof_cert.specs.declared.reaching.Reached.{Reached}
use Rattle.proof_cert.specs.declared.reaching.Said.{Said}
use Rattle.proof_cert.specs.declared.reaching.Source.{Source}
use Rattle.proof_cert.specs.inner.Known.{HasFact}
use Rattle.proof_cert.specs.inner.Paths.{AreMakers, IsBranch, row_by}
use Rattle.proof_cert.specs.inner.Ranks.{AreRanks}

pub record IsSource (source : Source) : Type 0 where
  pub hanging : Hanging source.problem.now
  pub ranks : AreRanks source.problem.now.clauses source.ranks.items
  pub makers : AreMakers source.problem.now source.makers

abbrev pub said_steps : Option Said → List Step
said_steps None = []
said_steps (Some s) = step.All s.fact s.row ∷ []

-- ---- by the guards of the clause

-- without guards: the sentence of this number
pub record IsRootOf (problem : Problem) (sentence : ℕ) (r : Reached) : Type 0 where
  pub unsaid : r.said ≡ None
  pub formula : slice_get problem.sentences sentence ≡ Some r.formula.now
  pub fact : slice_get problem.numbers sentence ≡ Some r.fact

-- below a split of this layer: its part of this number
abbrev pub IsPartOf : Opened → ℕ → Reached → Formula-F Formula → Type 0
IsPartOf o rank r (Formula-F.Atom a) = ⊥
IsPartOf o rank r (Formula-F.And gs) = (r.said ≡ None) × (slice_get gs rank ≡ Some r.formula.now) × (r.fact ≡ o.first + rank)
IsPartOf o rank r (Formula-F.Or gs) = (r.said ≡ None) × (slice_get gs o.way ≡ Some r.formula.now) × (r.fact ≡ o.first)
IsPartOf o rank r (Formula-F.Exists table body) = (r.said ≡ None) × (body ≡ r.formula.now) × (r.fact ≡ o.first)
IsPartOf o rank r (Formula-F.Forall table body) = ⊥

-- below a Forall at the row of an Exists: a new fact
abbrev pub IsAtRow : Opened → Opened → ℕ → Reached → Formula-F Formula → Type 0
IsAtRow o maker facts r (Formula-F.Atom a) = ⊥
IsAtRow o maker facts r (Formula-F.And gs) = ⊥
IsAtRow o maker facts r (Formula-F.Or gs) = ⊥
IsAtRow o maker facts r (Formula-F.Exists table body) = ⊥
IsAtRow o maker facts r (Formula-F.Forall table body) = (r.said ≡ Some (record { fact = o.fact; row = maker.row })) × (body ≡ r.formula.now) × (r.fact ≡ facts)

-- ---- in each branch of the way

module _ (problem : Problem) (makers : List ℕ) where
  -- the step, if there is one, is right, and the fact says then what stands at the clause
  pub record LeadsTo (schema : List Table) (b : Branch) (way : List Opened) (clause : ℕ) (r : Reached) : Type 0 where
    pub more : List Fact
    pub count : length more ≡ length (said_steps r.said)
    pub after : (rest : List Branch) → branches_after schema (said_steps r.said) (b ∷ rest) ≡ Some (with_facts b more ∷ rest)
    pub has : HasFact problem (with_facts b more) (row_by makers way) clause r.fact
    pub same : has.formula ≡ r.formula.now

  pub record IsReached (way : List Opened) (facts clause : ℕ) (r : Reached) : Type 0 where
    pub variables : List ℕ
    pub stands : StandsAt problem clause (out-Formula r.formula.now) variables
    pub leads : (schema : List Table) (b : Branch) (rows : ℕ) → IsBranch problem makers b way facts rows → LeadsTo schema b way clause r
