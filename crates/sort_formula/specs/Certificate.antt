-- When the steps of a certificate refute a sentence, given the axioms of a schema. A reader of the steps keeps open
-- branches. At the start there is one, with the sentence as fact 0, the axioms in order as the facts after it, and no
-- row. A step acts on the first branch: it puts its children in its place, or closes it. The steps are accepted
-- where each is right in its turn, every branch is closed and no step is left. Where they are not accepted, the first
-- step that is wrong, missing or left over has a number, counted from 1.
use Rattle.std.specs.Prelude.{ℕ, suc, Bool, true, false, not, nat_eq, List, [], ◌∷◌, ◌++◌, length, map, Option, Some, None, is_none, slice_get, option_and_then, if◌then◌else◌}
use Rattle.std.specs.Option.{option_map_or}
use Rattle.lint_core.specs.declared.certificate.Step.{Step}
use Rattle.lint_core.specs.declared.certificate.Step.TheVariants as step
use Rattle.lint_core.specs.declared.schema.Table.{Table}
use Rattle.sort_formula.specs.declared.formula.Formula.{Formula, out-Formula}
use Rattle.sort_formula.specs.declared.formula.Formula.TheOpen.{Formula-F}
use Rattle.sort_formula.specs.Axioms.{Axiom, axioms}
use Rattle.sort_formula.specs.Chains.{is_null_clash, is_same_clash, is_text_clash}
use Rattle.sort_formula.specs.Facts.{Fact, Branch}
use Rattle.sort_formula.specs.Rings.{is_contradiction}

abbrev pub with_facts : Branch → List Fact → Branch
with_facts branch more = record { facts = branch.facts ++ more; tables = branch.tables }

-- a fact as one more, by its formula and its rows
abbrev pub fact_of : List ℕ → Formula → Fact
fact_of rows formula = record { formula = formula; rows = rows }

-- And: its parts are appended in order
abbrev pub with_parts : Branch → List ℕ → Formula-F Formula → Option (List Branch)
with_parts branch rows (Formula-F.And parts) = Some (with_facts branch (map (fact_of rows) parts) ∷ [])
with_parts branch rows layer = None

-- Or: one branch for each part, in order; so none for Or of nothing
abbrev pub with_each_part : Branch → List ℕ → Formula-F Formula → Option (List Branch)
with_each_part branch rows (Formula-F.Or parts) = Some (map (λ part. with_facts branch (fact_of rows part ∷ [])) parts)
with_each_part branch rows layer = None

-- Exists: a new row of its table, and the body at that row
abbrev pub with_row : Branch → List ℕ → Formula-F Formula → Option (List Branch)
with_row branch rows (Formula-F.Exists table body) =
    Some (record { facts = branch.facts ++ fact_of (rows ++ length branch.tables ∷ []) body ∷ []; tables = branch.tables ++ table ∷ [] } ∷ [])
with_row branch rows layer = None

-- Forall: the body at a row of its table
abbrev pub at_row : ℕ → Branch → List ℕ → Formula-F Formula → Option (List Branch)
at_row row branch rows (Formula-F.Forall table body) =
    if option_map_or (nat_eq table) (slice_get branch.tables row) false then Some (with_facts branch (fact_of (rows ++ row ∷ []) body ∷ []) ∷ []) else None
at_row row branch rows layer = None

-- a step that opens a fact
abbrev pub opened : Branch → ℕ → (Branch → List ℕ → Formula-F Formula → Option (List Branch)) → Option (List Branch)
opened branch fact children_of = option_and_then (λ (x : Fact). children_of branch x.rows (out-Formula x.formula)) (slice_get branch.facts fact)

-- a step that closes the branch
abbrev pub closed_if : Bool → Option (List Branch)
closed_if right = if right then Some [] else None

-- what stands in the branch's place after a step, where the step is right
abbrev pub children : List Table → Branch → Step → Option (List Branch)
children schema branch (step.And fact) = opened branch fact with_parts
children schema branch (step.Or fact) = opened branch fact with_each_part
children schema branch (step.Ex fact) = opened branch fact with_row
children schema branch (step.All fact row) = opened branch fact (at_row row)
children schema branch (step.Sum edges) = closed_if (is_contradiction schema branch edges)
children schema branch (step.Text last edges) = closed_if (is_text_clash schema branch last edges)
children schema branch (step.Null fact other path) = closed_if (is_null_clash branch fact other path)
children schema branch (step.Same fact path) = closed_if (is_same_clash branch fact path)

-- the branches after the steps, where each is right in its turn
abbrev pub branches_after : List Table → List Step → List Branch → Option (List Branch)
branches_after schema [] branches = Some branches
branches_after schema (s ∷ steps) [] = None
branches_after schema (s ∷ steps) (b ∷ branches) = option_and_then (λ bs. branches_after schema steps (bs ++ branches)) (children schema b s)

-- the sentence and the axioms, and no row
abbrev pub first_branch : List Table → Formula → Branch
first_branch schema sentence =
    record { facts = fact_of [] sentence ∷ map (λ (a : Axiom). fact_of [] a.sentence) (axioms schema); tables = [] }

abbrev pub are_closed : List Branch → Bool
are_closed [] = true
are_closed (b ∷ branches) = false

-- the steps refute the sentence
abbrev pub accepts : List Table → Formula → List Step → Bool
accepts schema sentence steps = option_map_or are_closed (branches_after schema steps (first_branch schema sentence ∷ [])) false

-- ---- where steps go wrong

-- what is next goes wrong at the open branches: no step, and a branch is open (a step is missing); a step, and no
-- branch is open (it is left over); or a step that is not right at the first branch
abbrev pub goes_wrong : List Table → Option Step → List Branch → Bool
goes_wrong schema None branches = not (are_closed branches)
goes_wrong schema (Some s) [] = true
goes_wrong schema (Some s) (b ∷ branches) = is_none (children schema b s)

-- the number of the first step that is wrong, missing or left over, where the next one has this number; none where the
-- steps are right and close all branches
abbrev pub first_wrong : ℕ → List Table → List Step → List Branch → Option ℕ
first_wrong number schema [] [] = None
first_wrong number schema [] (b ∷ branches) = Some number
first_wrong number schema (s ∷ steps) [] = Some number
first_wrong number schema (s ∷ steps) (b ∷ branches) =
    option_map_or (λ bs. first_wrong (suc number) schema steps (bs ++ branches)) (children schema b s) (Some number)

-- the number of the first wrong step of a certificate; none where the steps are accepted
abbrev pub wrong_step : List Table → Formula → List Step → Option ℕ
wrong_step schema sentence steps = first_wrong 1 schema steps (first_branch schema sentence ∷ [])
