-- Cases: choices whose literals some assignment satisfies. They are full where there is one for each clause. The counted
-- cases are those before the first full one, or all where none is full. Said without knowing whether one is full: a
-- case that stands before every full case.
use Rattle.std.specs.Prelude.{◌≡◌, ℕ, true, false, List, [], ◌∷◌, length}
use Rattle.std.specs.List.{AllByRecursion}
use Rattle.ground_theory.specs.declared.literal.Clause.{Clause}
use Rattle.ground_theory.specs.declared.literal.Frame.{Frame}
use Rattle.ground_theory.specs.Assignments.{HasAssignment}
use Rattle.case_split.specs.Choices.{Choices, are_choices, literals_of, stands_before}

module _ (clauses : List Clause) (frame : Frame) where
  pub record IsCase (choices : Choices) : Type 0 where
    pub legal : are_choices clauses choices ≡ true
    pub satisfied : HasAssignment frame (literals_of clauses choices)

  pub record IsFullCase (choices : Choices) : Type 0 where
    pub case : IsCase choices
    pub full : length choices ≡ length clauses

  -- there is no full case at all
  abbrev pub NoFullCase : Type 0
  NoFullCase = (choices : Choices) → ¬ (IsFullCase choices)

  abbrev pub NoFullCaseBefore : Choices → Type 0
  NoFullCaseBefore choices = (full : Choices) → IsFullCase full → stands_before full choices ≡ false

  -- full, and no full case stands before it
  pub record IsFirstFullCase (choices : Choices) : Type 0 where
    pub full : IsFullCase choices
    pub first : NoFullCaseBefore choices

  -- a case that stands before every full case
  pub record IsCounted (choices : Choices) : Type 0 where
    pub case : IsCase choices
    pub before : (full : Choices) → IsFullCase full → stands_before choices full ≡ true

  -- each stands before the next one
  abbrev pub AreAscending : List Choices → Type 0
  AreAscending [] = Unit {0}
  AreAscending (c ∷ []) = Unit {0}
  AreAscending (c ∷ d ∷ cs) = (stands_before c d ≡ true) × AreAscending (d ∷ cs)

  -- there are at least so many counted cases: so many of them can be listed in their order
  pub record HasCounted (count : ℕ) : Type 0 where
    pub cases : List Choices
    pub as_many : length cases ≡ count
    pub ascending : AreAscending cases
    pub counted : AllByRecursion IsCounted cases
