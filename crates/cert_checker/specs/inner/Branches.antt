-- The open branches that the checker keeps as two lists, of which each branch that waits has a front. Nothing here has
-- to be believed: no public contract says it.
use Rattle.std.specs.Prelude.{ℕ, ◌≤◌, ◌≡◌, Bool, false, List, [], ◌∷◌, ◌++◌, length, map, reverse, take, Option, None, if◌then◌else◌, option_map}
use Rattle.lint_core.specs.declared.certificate.Step.{Step}
use Rattle.lint_core.specs.declared.certificate.Step.TheVariants as step
use Rattle.lint_core.specs.declared.schema.Table.{Table}
use Rattle.sort_formula.specs.declared.formula.Formula.{Formula}
use Rattle.sort_formula.specs.Certificate.{children, fact_of}
use Rattle.sort_formula.specs.Chains.{is_null_clash, is_same_clash, is_text_clash}
use Rattle.sort_formula.specs.Facts.{Fact, Branch}
use Rattle.sort_formula.specs.Rings.{is_contradiction}
use Rattle.cert_checker.specs.declared.facts.Open.{Open}
use Rattle.cert_checker.specs.declared.run.Waiting.{Waiting}
use Rattle.cert_checker.specs.declared.run.Run.{Run}
use Rattle.cert_checker.specs.inner.Seen.{branch_of}

-- ---- one step

-- a step that closes the branch
abbrev pub closes : List Table → Branch → Step → Bool
closes schema branch (step.Sum edges) = is_contradiction schema branch edges
closes schema branch (step.Text last edges) = is_text_clash schema branch last edges
closes schema branch (step.Null fact other path) = is_null_clash branch fact other path
closes schema branch (step.Same fact path) = is_same_clash branch fact path
closes schema branch (step.And fact) = false
closes schema branch (step.Or fact) = false
closes schema branch (step.Ex fact) = false
closes schema branch (step.All fact row) = false

-- the children in the place of the first branch
abbrev pub stepped : Option (List Branch) → List Branch → Option (List Branch)
stepped made rest = option_map (λ bs. bs ++ rest) made

-- the branches after one step
abbrev pub advanced : List Table → Step → List Branch → Option (List Branch)
advanced schema s [] = None
advanced schema s (b ∷ branches) = stepped (children schema b s) branches

-- ---- branches that wait

-- the fronts of the two lists, and the branch's own fact
abbrev pub waiting_branch : Branch → Waiting → Branch
waiting_branch branch w = record { facts = take w.facts branch.facts ++ w.own ∷ []; tables = take w.rows branch.tables }

-- the last one is the next
abbrev pub waiting_branches : Branch → List Waiting → List Branch
waiting_branches branch ws = map (waiting_branch branch) (reverse ws)

-- what waits for a part of a fact
abbrev pub waits : Branch → List ℕ → Formula → Waiting
waits branch rows part = record { facts = length branch.facts; rows = length branch.tables; own = fact_of rows part }

-- from the next one on the fronts are never longer
abbrev pub AreFronts : ℕ → ℕ → List Waiting → Type 0
AreFronts facts rows [] = Unit {0}
AreFronts facts rows (w ∷ ws) = (w.facts ≤ facts) × (w.rows ≤ rows) × AreFronts w.facts w.rows ws

-- the fronts are fronts of both lists
abbrev pub AreFrontsOf : Branch → List Waiting → Type 0
AreFrontsOf branch ws = AreFronts (length branch.facts) (length branch.tables) (reverse ws)

abbrev pub IsRun : Run → Type 0
IsRun run = AreFrontsOf (branch_of run.branch) run.waiting.items

abbrev pub branches_of : Run → List Branch
branches_of run =
    if run.is_closed then [] else branch_of run.branch ∷ waiting_branches (branch_of run.branch) run.waiting.items

-- both lists grew
abbrev pub Extends : Open → Open → Type 0
Extends old new =
    ((more : List Fact) × (new.facts.items ≡ old.facts.items ++ more)) × ((more : List ℕ) × (new.tables.items ≡ old.tables.items ++ more))
