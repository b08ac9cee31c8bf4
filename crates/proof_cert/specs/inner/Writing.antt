-- Trees that wait, each for a branch of its own, and what is written of one.
use Rattle.std.specs.Prelude.{◌≡◌, ◌<◌, ◌≤◌, ℕ, suc, true, List, [], ◌∷◌, ◌++◌, length, map, reverse, take, Option, Some, None, slice_get}
use Rattle.lint_core.specs.declared.certificate.Step.{Step}
use Rattle.lint_core.specs.declared.certificate.Step.TheVariants as step
use Rattle.lint_core.specs.declared.schema.Table.{Table}
use Rattle.sort_formula.specs.declared.formula.Formula.{Formula}
use Rattle.sort_formula.specs.declared.formula.Formula.TheOpen.{Formula-F}
use Rattle.sort_formula.specs.Certificate.{branches_after}
use Rattle.sort_formula.specs.Facts.{Fact, Branch}
use Rattle.ground_theory.specs.declared.literal.Guard.{Guard}
use Rattle.case_split.specs.declared.tree.CaseTree.{CaseTree}
use Rattle.case_split.specs.Trees.{is_closed}
use Rattle.proof_cert.specs.inner.Sizes.{size, size_of_all}
use Rattle.instantiate.specs.declared.problem.Problem.{Problem}
use Rattle.instantiate.specs.Ground.{domains_of}
use Rattle.proof_cert.specs.Steps.{IsStart}
use Rattle.proof_cert.specs.declared.path.Opened.{Opened}
use Rattle.proof_cert.specs.declared.writing.Waiting.{Waiting}
use Rattle.proof_cert.specs.inner.Paths.{Covers, IsNew, AreStanding, IsBranch, last_of}

-- ---- steps of a split

abbrev pub opening_steps : ℕ → Formula-F Formula → List Step
opening_steps fact (Formula-F.Atom a) = []
opening_steps fact (Formula-F.And gs) = step.And fact ∷ []
opening_steps fact (Formula-F.Or gs) = step.Or fact ∷ []
opening_steps fact (Formula-F.Exists table body) = step.Ex fact ∷ []
opening_steps fact (Formula-F.Forall table body) = []

-- how many facts, and how many rows, each branch gets
abbrev pub facts_in : Formula-F Formula → ℕ
facts_in (Formula-F.Atom a) = 0
facts_in (Formula-F.And gs) = length gs
facts_in (Formula-F.Or gs) = 1
facts_in (Formula-F.Exists table body) = 1
facts_in (Formula-F.Forall table body) = 0

abbrev pub rows_in : Formula-F Formula → ℕ
rows_in (Formula-F.Atom a) = 0
rows_in (Formula-F.And gs) = 0
rows_in (Formula-F.Or gs) = 0
rows_in (Formula-F.Exists table body) = 1
rows_in (Formula-F.Forall table body) = 0

-- ---- trees that wait

-- a tree, how many splits are above it, and the one that leads to it; how many facts and rows its branch has
pub record Wait : Type 0 where
  pub tree : CaseTree
  pub above : ℕ
  pub opened : Option Opened
  pub facts : ℕ
  pub rows : ℕ

abbrev pub wait_of : Waiting → Wait
wait_of w = record { tree = w.tree.now; above = w.above; opened = w.opened; facts = w.facts; rows = w.rows }

abbrev pub tree_of : Wait → CaseTree
tree_of w = w.tree

abbrev pub waits_of : List Waiting → List Wait
waits_of ws = map wait_of ws

-- the trees of the ways of a split, from this way on
abbrev pub waits : ℕ → Opened → ℕ → ℕ → ℕ → List CaseTree → List Wait
waits above o facts rows way [] = []
waits above o facts rows way (t ∷ ts) =
    record { tree = t; above = above; opened = Some (record o { way = way }); facts = facts; rows = rows } ∷ waits above o facts rows (suc way) ts

-- the tree of this way waits next
pub record IsPassed (at : Waiting) (above way : ℕ) (cases : List CaseTree) (old new : List Waiting) : Type 0 where
  pub tree : CaseTree
  pub is_tree : slice_get cases way ≡ Some tree
  pub next : waits_of new ≡ waits_of old ++ record { tree = tree; above = above; opened = None; facts = at.facts; rows = at.rows } ∷ []

-- the splits on the way to the tree
abbrev pub way_to : List Opened → Wait → List Opened
way_to splits w = take w.above splits ++ last_of w.opened

module _ (problem : Problem) where
  -- closed under choices that are made on the way
  pub record IsClosedOn (way : List Opened) (tree : CaseTree) : Type 0 where
    pub guards : List Guard
    pub closed : is_closed problem.clauses problem.frame tree guards ≡ true
    pub covers : Covers way guards

  pub record IsReady (splits : List Opened) (w : Wait) : Type 0 where
    pub within : w.above ≤ length splits
    pub is_new : IsNew (length problem.clauses) (take w.above splits) w.opened
    pub standing : AreStanding problem (way_to splits w)
    pub closed : IsClosedOn (way_to splits w) w.tree

  -- from the next one on each is ready by the splits above the one before
  abbrev pub AreReady : List Opened → List Wait → Type 0
  AreReady splits [] = Unit {0}
  AreReady splits (w ∷ ws) = IsReady splits w × AreReady (take w.above splits) ws

  -- all are ready by all the splits
  abbrev pub AreNext : List Opened → List Wait → Type 0
  AreNext way [] = Unit {0}
  AreNext way (w ∷ ws) = (w.above ≡ length way) × IsReady way w × AreNext way ws

module _ (problem : Problem) (makers : List ℕ) where
  -- the branches of the trees, alike
  abbrev pub AreBranches : List Opened → List Wait → List Branch → Type 0
  AreBranches splits [] [] = Unit {0}
  AreBranches splits [] (b ∷ bs) = ⊥
  AreBranches splits (w ∷ ws) [] = ⊥
  AreBranches splits (w ∷ ws) (b ∷ bs) = IsBranch problem makers b (way_to splits w) w.facts w.rows × AreBranches (take w.above splits) ws bs

  abbrev pub AreNextBranches : List Opened → List Wait → List Branch → Type 0
  AreNextBranches way [] [] = Unit {0}
  AreNextBranches way [] (b ∷ bs) = ⊥
  AreNextBranches way (w ∷ ws) [] = ⊥
  AreNextBranches way (w ∷ ws) (b ∷ bs) = IsBranch problem makers b (way_to way w) w.facts w.rows × AreNextBranches way ws bs

  -- what the steps make of a branch: branches for the trees that wait then
  pub record Leads (way : List Opened) (facts rows : ℕ) (steps : List Step) (next : List Wait) (schema : List Table) (b : Branch) : Type 0 where
    pub branches : List Branch
    pub after : (rest : List Branch) → branches_after schema steps (b ∷ rest) ≡ Some (branches ++ rest)
    pub are : AreNextBranches way next branches

  -- what is written of a tree: steps, and trees that wait then
  pub record IsWritten (way : List Opened) (facts rows : ℕ) (tree : CaseTree) (steps : List Step) (next : List Wait) : Type 0 where
    pub ready : AreNext problem way next
    pub less : size_of_all (map tree_of next) < size tree
    pub leads : (schema : List Table) → domains_of schema ≡ problem.frame.domains → (b : Branch) → IsBranch problem makers b way facts rows → Leads way facts rows steps next schema b

  pub record Written (way : List Opened) (facts rows : ℕ) (tree : CaseTree) (old new : List Step) (before after : List Waiting) : Type 0 where
    pub steps : List Step
    pub next : List Wait
    pub new_is : new ≡ old ++ steps
    pub after_is : waits_of after ≡ waits_of before ++ reverse next
    pub is_written : IsWritten way facts rows tree steps next

  -- ---- all of it

  -- the steps so far lead to the branches of the trees that wait, the next one last
  pub record IsWork (splits : List Opened) (waiting : List Waiting) (steps : List Step) : Type 0 where
    pub ready : AreReady problem splits (reverse (waits_of waiting))
    pub leads : (schema : List Table) → domains_of schema ≡ problem.frame.domains → (facts : List Fact) → IsStart problem facts → (bs : List Branch)
        × (branches_after schema steps (record { facts = facts; tables = [] } ∷ []) ≡ Some bs) × AreBranches splits (reverse (waits_of waiting)) bs
