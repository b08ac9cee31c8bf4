-- The splits on the way to a branch, and what the branch is by them.
use Rattle.std.specs.Prelude.{◌≡◌, ◌+◌, ◌<◌, ℕ, true, nat_eq, List, [], ◌∷◌, ◌++◌, length, Option, Some, None, slice_get, option_and_then, if◌then◌else◌}
use Rattle.std.specs.Option.{option_map_or}
use Rattle.sort_formula.specs.declared.formula.Formula.{Formula, out-Formula}
use Rattle.sort_formula.specs.declared.formula.Formula.TheOpen.{Formula-F}
use Rattle.sort_formula.specs.Certificate.{fact_of}
use Rattle.sort_formula.specs.Facts.{Branch}
use Rattle.ground_theory.specs.declared.literal.Guard.{Guard}
use Rattle.case_split.specs.Trees.{is_among}
use Rattle.instantiate.specs.declared.problem.Problem.{Problem}
use Rattle.instantiate.specs.Hanging.{StandsAt, IsMaker}
use Rattle.proof_cert.specs.declared.path.Opened.{Opened}
use Rattle.proof_cert.specs.declared.path.Path.{Path}
use Rattle.proof_cert.specs.inner.Known.{HasFact}

-- ---- splits

-- the split of the clause, if there is one
abbrev pub opened_at : List Opened → ℕ → Option Opened
opened_at [] clause = None
opened_at (o ∷ os) clause = if nat_eq o.clause clause then Some o else opened_at os clause

-- each place is found by the clause; so no clause is split twice
abbrev pub IsIndexed : Path → Type 0
IsIndexed path = (place : ℕ) (o : Opened) → slice_get path.splits.items place ≡ Some o → slice_get path.places.items o.clause ≡ Some place

abbrev pub last_of : Option Opened → List Opened
last_of None = []
last_of (Some o) = o ∷ []

-- of one of so many clauses, which is not split on the way
abbrev pub IsNew : ℕ → List Opened → Option Opened → Type 0
IsNew count way None = Unit {0}
IsNew count way (Some o) = (opened_at way o.clause ≡ None) × (o.clause < count)

-- the fact of a clause that is split on the way, and its row; 0 for another
abbrev pub fact_at : List Opened → ℕ → ℕ
fact_at way clause = option_map_or (λ (o : Opened). o.fact) (opened_at way clause) 0

abbrev pub row_at : List Opened → ℕ → ℕ
row_at way clause = option_map_or (λ (o : Opened). o.row) (opened_at way clause) 0

-- the ways of the guards were taken
abbrev pub Covers : List Opened → List Guard → Type 0
Covers way guards = (g : Guard) → is_among guards g ≡ true → (o : Opened) × (opened_at way g.clause ≡ Some o) × (o.way ≡ g.way)

-- ---- row terms

-- for each row term the clause of its Exists
pub record AreMakers (problem : Problem) (makers : List ℕ) : Type 0 where
  pub is : (row maker : ℕ) → slice_get makers row ≡ Some maker → (table : ℕ) × IsMaker problem row maker table
  pub all : (row maker table : ℕ) → IsMaker problem row maker table → slice_get makers row ≡ Some maker

-- the row of the branch that stands for a row term, where its Exists is split on the way
abbrev pub row_by : List ℕ → List Opened → ℕ → Option ℕ
row_by makers way row = option_and_then (λ maker. option_and_then (λ (o : Opened). Some o.row) (opened_at way maker)) (slice_get makers row)

-- ---- branches

-- the facts that came by the split, and its row
abbrev pub HasOpened : Branch → Opened → List ℕ → Formula-F Formula → Type 0
HasOpened b o named (Formula-F.Atom a) = Unit {0}
HasOpened b o named (Formula-F.And gs) = (i : ℕ) (g : Formula) → slice_get gs i ≡ Some g → slice_get b.facts (o.first + i) ≡ Some (fact_of named g)
HasOpened b o named (Formula-F.Or gs) = (g : Formula) → slice_get gs o.way ≡ Some g → slice_get b.facts o.first ≡ Some (fact_of named g)
HasOpened b o named (Formula-F.Exists table body) = (slice_get b.facts o.first ≡ Some (fact_of (named ++ o.row ∷ []) body)) × (slice_get b.tables o.row ≡ Some table)
HasOpened b o named (Formula-F.Forall table body) = Unit {0}

module _ (problem : Problem) where
  -- at the clause of each split stands its formula
  abbrev pub AreStanding : List Opened → Type 0
  AreStanding way = (place : ℕ) (o : Opened) → slice_get way place ≡ Some o → (variables : List ℕ) × StandsAt problem o.clause (out-Formula o.formula.now) variables

module _ (problem : Problem) (makers : List ℕ) where
  -- the branch has the fact of the split and those that came by it
  pub record IsOpened (b : Branch) (way : List Opened) (o : Opened) : Type 0 where
    pub has : HasFact problem b (row_by makers way) o.clause o.fact
    pub same : has.formula ≡ o.formula.now
    pub opened : HasOpened b o has.named (out-Formula has.formula)

  -- a branch to which these splits lead, with so many facts and rows
  pub record IsBranch (b : Branch) (way : List Opened) (facts rows : ℕ) : Type 0 where
    pub facts_are : length b.facts ≡ facts
    pub rows_are : length b.tables ≡ rows
    pub sentences : (sentence number : ℕ) (f : Formula) → slice_get problem.sentences sentence ≡ Some f → slice_get problem.numbers sentence ≡ Some number
        → slice_get b.facts number ≡ Some (fact_of [] f)
    pub splits : (place : ℕ) (o : Opened) → slice_get way place ≡ Some o → IsOpened b way o
