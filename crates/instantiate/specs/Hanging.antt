-- How the clauses of a ground list hang together: what stands at each, and how it hangs below another. All that full cases and
-- closed trees have to know of the numbers of clauses and row terms is said here.
use Rattle.std.specs.Prelude.{◌≡◌, ◌<◌, true, ℕ, suc, List, [], ◌∷◌, ◌++◌, length, Some, slice_get}
use Rattle.std.specs.Option.{option_map_or}
use Rattle.sort_formula.specs.declared.formula.Atom.{Atom}
use Rattle.sort_formula.specs.declared.formula.Formula.{Formula, out-Formula}
use Rattle.sort_formula.specs.Variables.{atom_is_below}
use Rattle.sort_formula.specs.declared.formula.Formula.TheOpen.{Formula-F}
use Rattle.sorted_skolem.specs.Preorder.{Node, outlines_of, node_at}
use Rattle.ground_theory.specs.declared.literal.Clause.{Clause}
use Rattle.ground_theory.specs.declared.literal.Guard.{Guard}
use Rattle.ground_theory.specs.Forward.{are_forward}
use Rattle.instantiate.specs.declared.problem.Problem.{Problem}
use Rattle.instantiate.specs.Keys.{Key, number_of}
use Rattle.sorted_skolem.specs.declared.term.RowTerm.{RowTerm}
use Rattle.instantiate.specs.Ground.{keys, maker_of, variables_of, ways_in}

abbrev pub keys_of_problem : Problem → List Key
keys_of_problem problem = keys (outlines_of problem.sentences) problem.order.tables problem.rows.terms

-- a formula of this layer stands at the clause, whose variables are these row terms
pub record StandsAt (problem : Problem) (clause : ℕ) (layer : Formula-F Formula) (variables : List ℕ) : Type 0 where
  pub key : Key
  pub node : Node
  pub is_key : slice_get (keys_of_problem problem) clause ≡ Some key
  pub is_node : node_at (outlines_of problem.sentences) key.sentence key.node ≡ Some node
  pub is_layer : node.layer ≡ layer
  pub are_variables : variables_of problem.rows.terms key node ≡ variables

abbrev pub guards_at : Problem → ℕ → List Guard
guards_at problem clause = option_map_or (λ (c : Clause). c.guards) (slice_get problem.clauses clause) []

abbrev pub at_way : ℕ → ℕ → Guard
at_way clause way = record { clause = clause; way = way }

-- the row is that of the Exists which stands at the clause `maker`
pub record IsMaker (problem : Problem) (row maker table : ℕ) : Type 0 where
  pub term : RowTerm
  pub is_term : slice_get problem.rows.terms row ≡ Some term
  pub is_key : slice_get (keys_of_problem problem) maker ≡ Some (maker_of term)
  pub is_number : number_of (keys_of_problem problem) (maker_of term) ≡ maker
  pub is_table : term.table ≡ table
  pub body : Formula
  pub variables : List ℕ
  pub stands : StandsAt problem maker (Formula-F.Exists table body) variables
  pub in_frame : slice_get problem.frame.tables row ≡ Some table

-- the sentence of this number stands there
pub record IsRoot (problem : Problem) (sentence clause : ℕ) : Type 0 where
  pub formula : Formula
  pub is_sentence : slice_get problem.sentences sentence ≡ Some formula
  pub stands : StandsAt problem clause (out-Formula formula) []
  -- that of this number, and not one like it
  pub is_own : stands.key ≡ record { sentence = sentence; node = 0; rows = [] }
  pub guards : guards_at problem clause ≡ []

-- below an And, an Or or an Exists, by one of its ways
pub record HangsBelow (problem : Problem) (above way clause : ℕ) : Type 0 where
  pub guards : guards_at problem clause ≡ at_way above way ∷ []

-- below a Forall, at a row that is there where its maker is taken
pub record HangsInside (problem : Problem) (above row maker clause : ℕ) : Type 0 where
  pub table : ℕ
  pub body : Formula
  pub variables : List ℕ
  pub above_is : StandsAt problem above (Formula-F.Forall table body) variables
  pub clause_is : StandsAt problem clause (out-Formula body) (variables ++ row ∷ [])
  pub row_is : IsMaker problem row maker table
  pub guards : guards_at problem clause ≡ at_way above 0 ∷ at_way maker 0 ∷ []

pub data Hangs (problem : Problem) (clause : ℕ) : Type 0 where
  root : (sentence : ℕ) → IsRoot problem sentence clause → Hangs problem clause
  below : (above way : ℕ) → HangsBelow problem above way clause → Hangs problem clause
  inside : (above row maker : ℕ) → HangsInside problem above row maker clause → Hangs problem clause

-- the parts stand at these clauses, one at each, by the same way or each by its own
abbrev pub AreParts : Problem → (ℕ → Guard) → ℕ → List ℕ → List Formula → List ℕ → Type 0
AreParts problem guard number variables [] [] = Unit {0}
AreParts problem guard number variables [] (c ∷ cs) = ⊥
AreParts problem guard number variables (g ∷ gs) [] = ⊥
AreParts problem guard number variables (g ∷ gs) (c ∷ cs) =
    StandsAt problem c (out-Formula g) variables × (guards_at problem c ≡ guard number ∷ []) × AreParts problem guard (suc number) variables gs cs

pub record HasParts (problem : Problem) (above : ℕ) (variables : List ℕ) (parts : List Formula) : Type 0 where
  pub clauses : List ℕ
  pub are : AreParts problem (λ number. at_way above 0) 0 variables parts clauses
  pub all : (clause way : ℕ) → HangsBelow problem above way clause → (place : ℕ) × (slice_get clauses place ≡ Some clause)
  -- a later part stands at a later clause
  pub ascend : (place later clause other : ℕ) → place < later → slice_get clauses place ≡ Some clause → slice_get clauses later ≡ Some other → clause < other

pub record HasWays (problem : Problem) (above : ℕ) (variables : List ℕ) (parts : List Formula) : Type 0 where
  pub clauses : List ℕ
  pub are : AreParts problem (at_way above) 0 variables parts clauses
  pub all : (clause way : ℕ) → HangsBelow problem above way clause → slice_get clauses way ≡ Some clause

pub record HasRow (problem : Problem) (above table : ℕ) (variables : List ℕ) (body : Formula) : Type 0 where
  pub row : ℕ
  pub clause : ℕ
  pub is_maker : IsMaker problem row above table
  pub only : (other second : ℕ) → IsMaker problem other above second → other ≡ row
  pub stands : StandsAt problem clause (out-Formula body) (variables ++ row ∷ [])
  pub guards : guards_at problem clause ≡ at_way above 0 ∷ []
  pub all : (other way : ℕ) → HangsBelow problem above way other → other ≡ clause

pub record HasInstances (problem : Problem) (above table : ℕ) (variables : List ℕ) (body : Formula) : Type 0 where
  pub at_row : (row maker : ℕ) → IsMaker problem row maker table
      → (clause : ℕ) × StandsAt problem clause (out-Formula body) (variables ++ row ∷ []) × (guards_at problem clause ≡ at_way above 0 ∷ at_way maker 0 ∷ [])
  pub none : (clause way : ℕ) → ¬ (HangsBelow problem above way clause)

-- what hangs below a clause, by what stands there
abbrev pub Below : Problem → ℕ → Formula-F Formula → List ℕ → Type 0
Below problem above (Formula-F.Atom a) variables = (clause way : ℕ) → ¬ (HangsBelow problem above way clause)
Below problem above (Formula-F.And parts) variables = HasParts problem above variables parts
Below problem above (Formula-F.Or parts) variables = HasWays problem above variables parts
Below problem above (Formula-F.Exists table body) variables = HasRow problem above table variables body
Below problem above (Formula-F.Forall table body) variables = HasInstances problem above table variables body

-- the laws: each clause hangs somewhere, and below each clause hangs what should
pub record Hanging (problem : Problem) : Type 0 where
  pub stands : (clause : ℕ) (c : Clause) → slice_get problem.clauses clause ≡ Some c
      → (layer : Formula-F Formula) × ((variables : List ℕ) × StandsAt problem clause layer variables × (c.ways ≡ ways_in variables layer))
  pub listed : (clause : ℕ) (layer : Formula-F Formula) (variables : List ℕ) → StandsAt problem clause layer variables
      → (c : Clause) × (slice_get problem.clauses clause ≡ Some c) × (c.ways ≡ ways_in variables layer)
  pub hangs : (clause : ℕ) (c : Clause) → slice_get problem.clauses clause ≡ Some c → Hangs problem clause
  pub below : (clause : ℕ) (layer : Formula-F Formula) (variables : List ℕ) → StandsAt problem clause layer variables → Below problem clause layer variables
  pub one_maker : (row maker table other second : ℕ) → IsMaker problem row maker table → IsMaker problem row other second → maker ≡ other
  pub makers : (row : ℕ) (term : RowTerm) → slice_get problem.rows.terms row ≡ Some term → (maker : ℕ) × IsMaker problem row maker term.table
  pub tables : (row : ℕ) (term : RowTerm) → slice_get problem.rows.terms row ≡ Some term → slice_get problem.frame.tables row ≡ Some term.table
  pub bound : (clause : ℕ) (a : Atom) (variables : List ℕ) → StandsAt problem clause (Formula-F.Atom a) variables → atom_is_below (length variables) a ≡ true
  pub forward : are_forward problem.clauses ≡ true
  pub roots : (sentence : ℕ) (formula : Formula) → slice_get problem.sentences sentence ≡ Some formula
      → (clause : ℕ) × IsRoot problem sentence clause × ((other : ℕ) → IsRoot problem sentence other → other ≡ clause)
