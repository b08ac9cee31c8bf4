-- What is answered of a list of clauses.
use Rattle.std.specs.Prelude.{◌≡◌, ℕ, ◌<◌, true, List, []}
use Rattle.ground_theory.specs.declared.literal.Clause.{Clause}
use Rattle.ground_theory.specs.declared.literal.Frame.{Frame}
use Rattle.ground_theory.specs.Judging.{Settles}
use Rattle.case_split.specs.declared.tree.Branch.{Branch}
use Rattle.case_split.specs.declared.tree.CaseTree.{CaseTree}
use Rattle.case_split.specs.declared.tree.Found.{Found}
use Rattle.case_split.specs.declared.tree.Found.TheVariants.{Open, Closed, Spent}
use Rattle.case_split.specs.Cases.{IsFirstFullCase, NoFullCase, HasCounted}
use Rattle.case_split.specs.Choices.{literals_of}
use Rattle.case_split.specs.Trees.{is_closed}

module _ (clauses : List Clause) (frame : Frame) where
  -- the first full case, with an assignment that is plain for its literals
  pub record IsFirst (branch : Branch) : Type 0 where
    pub first : IsFirstFullCase clauses frame branch.choices
    pub settled : Settles frame (literals_of clauses branch.choices) branch.assignment

  -- closed under no choice; and there is no full case
  pub record Closes (tree : CaseTree) : Type 0 where
    pub closed : is_closed clauses frame tree [] ≡ true
    pub none : NoFullCase clauses frame

  -- more than the budget, and there are as many counted cases
  pub record HasSpent (budget tried : ℕ) : Type 0 where
    pub above : budget < tried
    pub counted : HasCounted clauses frame tried

  abbrev pub IsAnswer : ℕ → Found → Type 0
  IsAnswer budget (Open branch) = IsFirst branch
  IsAnswer budget (Closed tree) = Closes tree
  IsAnswer budget (Spent tried) = HasSpent budget tried
