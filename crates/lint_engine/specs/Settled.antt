-- What is answered of an Or of sentences, its parts: steps that refute it, or a database that meets the schema and in which one of the
-- parts holds. The other causes are those of a question, and stand in the same order: the tables of whose rows the sentences
-- ask have no order; a limit is passed; the cases are more than the budget.
use Rattle.std.specs.Prelude.{◌≡◌, ℕ, true, false, List, [], ◌∷◌, map, Some, slice_get}
use Rattle.lint_core.specs.declared.certificate.Step.{Step}
use Rattle.lint_core.specs.declared.database.Database.{Database}
use Rattle.lint_core.specs.declared.schema.Table.{Table}
use Rattle.lint_core.specs.DatabaseFits.{database_fits}
use Rattle.lint_core.specs.Meets.{meets}
use Rattle.lint_core.specs.Points.{are_rows}
use Rattle.sort_formula.specs.declared.formula.Formula.{Formula}
use Rattle.sort_formula.specs.declared.formula.Formula.TheVariants as f
use Rattle.sort_formula.specs.Axioms.{Axiom, axioms}
use Rattle.sort_formula.specs.Certificate.{accepts}
use Rattle.sort_formula.specs.Holds.{holds}
use Rattle.sort_formula.specs.Translation.{exist_rows}
use Rattle.counter_laws.specs.LeadingRows.{leading_rows}
use Rattle.sorted_skolem.specs.Graph.{IsCycle, IsAcyclic, IsOrder}
use Rattle.case_split.specs.Answers.{HasSpent}
use Rattle.lint_engine.specs.declared.settling.Settled.{Settled}
use Rattle.lint_engine.specs.declared.settling.Settled.TheVariants as settled
use Rattle.lint_engine.specs.JudgedBy.{clauses_for, frame_for}
use Rattle.lint_engine.specs.Limits.{AreFew, IsTooLarge}

-- a sentence, as sentence 0, and the axioms of the schema
abbrev pub with_axioms : List Table → Formula → List Formula
with_axioms schema sentence = sentence ∷ map (λ (a : Axiom). a.sentence) (axioms schema)

-- the tables have an order, so that there is no cycle, and this follows from it
pub record HaveOrder (sentences : List Formula) (So : List ℕ → Type 0) : Type 0 where
  pub acyclic : IsAcyclic sentences
  pub order : List ℕ
  pub is_order : IsOrder sentences order
  pub so : So order

-- one Exists after the other over these tables, and then something else
pub record IsLed (formula : Formula) (lead : List ℕ) (body : Formula) : Type 0 where
  pub is : formula ≡ exist_rows lead body
  pub no_more : (table : ℕ) (inner : Formula) → body ≡ f.Exists table inner → ⊥

module _ (schema : List Table) (parts : List Formula) where
  abbrev pub judged : List Formula
  judged = with_axioms schema (f.Or parts)

  -- no limit is passed, and there are more counted cases than the budget
  pub record AreSpent (budget tried : ℕ) (order : List ℕ) : Type 0 where
    pub within : AreFew judged order
    pub spent : HasSpent (clauses_for judged order) (frame_for schema judged order) budget tried

  -- the steps refute the Or, so that no part holds in any database that meets the schema
  pub record IsNever (steps : List Step) : Type 0 where
    pub limits : HaveOrder judged (AreFew judged)
    pub accepted : accepts schema (f.Or parts) steps ≡ true
    pub fails : (db : Database) → meets schema db ≡ true → holds db (f.Or parts) [] ≡ false

  -- The database meets the schema; there is a row at each of these places, one for each Exists that leads the part of this number, and
  -- what stands inside them holds at these rows.
  pub record IsSometimes (db : Database) (part : ℕ) (rows : List ℕ) : Type 0 where
    pub limits : HaveOrder judged (AreFew judged)
    pub fits : database_fits schema db ≡ true
    pub meets_schema : meets schema db ≡ true
    pub formula : Formula
    pub stands : slice_get parts part ≡ Some formula
    pub lead : List ℕ
    pub body : Formula
    pub led : IsLed formula lead body
    pub there : are_rows db lead rows ≡ true
    pub inside : holds db body (leading_rows lead rows) ≡ true

  abbrev pub IsSettled : ℕ → Settled → Type 0
  IsSettled budget (settled.Never steps) = IsNever steps
  IsSettled budget (settled.Sometimes db part rows) = IsSometimes db part rows
  IsSettled budget (settled.CyclicNesting cycle) = IsCycle judged cycle
  IsSettled budget (settled.Large rows clauses) = HaveOrder judged (λ order. IsTooLarge judged order rows clauses)
  IsSettled budget (settled.Spent tried) = HaveOrder judged (AreSpent budget tried)
