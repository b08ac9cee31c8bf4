-- What each step of a search answers.
use Rattle.std.specs.Prelude.{◌≡◌, ℕ, ◌+◌, true, List, [], ◌∷◌, ◌++◌, length, Option, Some, None, option_to_list}
use Rattle.std.specs.List.{list_all}
use Rattle.ground_theory.specs.declared.literal.Clause.{Clause}
use Rattle.ground_theory.specs.declared.literal.Frame.{Frame}
use Rattle.ground_theory.specs.declared.literal.Guard.{Guard}
use Rattle.ground_theory.specs.declared.literal.Literal.{Literal}
use Rattle.ground_theory.specs.Assignments.{HasAssignment}
use Rattle.ground_theory.specs.Judging.{Settles}
use Rattle.ground_theory.specs.Leaves.{is_right_leaf}
use Rattle.case_split.specs.declared.searching.Advance.{Advance}
use Rattle.case_split.specs.declared.searching.Advance.TheVariants as advance
use Rattle.case_split.specs.declared.state.Closing.{Closing}
use Rattle.case_split.specs.declared.state.Closing.TheVariants as closing
use Rattle.case_split.specs.declared.state.Look.{Look}
use Rattle.case_split.specs.declared.state.Look.TheVariants as look
use Rattle.case_split.specs.declared.state.State.{State}
use Rattle.case_split.specs.declared.state.Spread.{Spread}
use Rattle.case_split.specs.declared.state.Spread.TheVariants as spread
use Rattle.case_split.specs.declared.taking.Cited.{Cited}
use Rattle.case_split.specs.declared.taking.Taken.{Taken}
use Rattle.case_split.specs.declared.taking.Settled.{Settled}
use Rattle.case_split.specs.declared.taking.Settled.TheVariants as settled
use Rattle.case_split.specs.Answers.{Closes}
use Rattle.case_split.specs.Choices.{Choices, is_chosen, literals_of}
use Rattle.case_split.specs.Trees.{literal_at, literals_at}
use Rattle.case_split.specs.inner.Entries.{IsSearch, IsReady, IsFork, IsDead, IsSpreading, IsRefuted, entries_of}

-- the guard, if it has a literal
abbrev pub with_guard : Option Literal → Guard → List Guard
with_guard (Some literal) g = g ∷ []
with_guard None g = []

-- every choice of the first is one of the second
abbrev pub IsPart : Choices → Choices → Type 0
IsPart part chosen = (g : Guard) → is_chosen part g ≡ true → is_chosen chosen g ≡ true

module _ (clauses : List Clause) (frame : Frame) where
  -- the literal of a way and its guard were added, if the way has a literal
  pub record AddsLiteral (earlier later : Taken) (number way : ℕ) : Type 0 where
    pub literals : later.literals.items ≡ earlier.literals.items ++ option_to_list (literal_at clauses frame (record { clause = number; way = way }))
    pub guards : later.guards ≡ earlier.guards ++ with_guard (literal_at clauses frame (record { clause = number; way = way })) (record { clause = number; way = way })

  -- the literals of choices, and the guards that have them
  pub record IsTaken (chosen : Choices) (taken : Taken) : Type 0 where
    pub literals : taken.literals.items ≡ literals_of clauses chosen
    pub guards : literals_at clauses frame taken.guards ≡ Some taken.literals.items
    pub among : list_all (is_chosen chosen) taken.guards ≡ true

  -- a conflict that is right over the literals of guards that are among the choices
  pub record IsCited (chosen : Choices) (cited : Cited) : Type 0 where
    pub literals : List Literal
    pub guards : literals_at clauses frame cited.guards ≡ Some literals
    pub among : list_all (is_chosen chosen) cited.guards ≡ true
    pub right : is_right_leaf frame literals cited.conflict.leaf ≡ true

  abbrev pub IsLook : State → ℕ → Look → Type 0
  IsLook s number look.Dead = IsSearch clauses frame s (entries_of s) × IsDead clauses frame s number
  IsLook s number (look.On fork) = IsSpreading clauses frame s (number + 1) fork

  abbrev pub IsSpread : State → Spread → Type 0
  IsSpread s (spread.Dead number) = IsSearch clauses frame s (entries_of s) × IsDead clauses frame s number
  IsSpread s (spread.On fork) = IsSpreading clauses frame s (length clauses) fork

  -- where the literals are satisfiable, the state is as it was
  abbrev pub IsSettled : State → State → Settled → Type 0
  IsSettled s t (settled.Holds a) = (t ≡ s) × Settles frame (literals_of clauses s.chosen.items) a
  IsSettled s t (settled.Clash tree) = IsRefuted clauses frame t tree

  abbrev pub IsAdvance : State → Advance → Type 0
  IsAdvance s (advance.Fork number) = IsReady clauses frame s number × IsFork clauses frame s number × HasAssignment frame (literals_of clauses s.chosen.items)
  IsAdvance s (advance.Full a) = IsReady clauses frame s (length clauses) × Settles frame (literals_of clauses s.chosen.items) a
  IsAdvance s (advance.Conflict tree) = IsRefuted clauses frame s tree

  -- an entry that was left: its next way is taken, or the tree is closed under what the earlier ones need
  abbrev pub IsLeft : State → State → Closing → Type 0
  IsLeft s t (closing.Next number) = IsReady clauses frame t (number + 1)
  IsLeft s t (closing.Closed tree) = (t.entries.items ≡ s.entries.items) × IsRefuted clauses frame t tree

  abbrev pub IsClosing : State → Closing → Type 0
  IsClosing s (closing.Next number) = IsReady clauses frame s (number + 1)
  IsClosing s (closing.Closed tree) = Closes clauses frame tree
