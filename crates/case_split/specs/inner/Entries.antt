-- What a search has taken: its entries, newest first.
use Rattle.std.specs.Prelude.{◌≡◌, ◌⊎◌, ℕ, suc, ◌<◌, ◌≤◌, Bool, true, false, ◌||◌, nat_eq, nat_lt, List, [], ◌∷◌, ◌++◌, length, take, reverse, replicate, Option, Some, None, slice_get, slice_set}
use Rattle.std.specs.List.{list_all, AllByRecursion}
use Rattle.std.specs.Option.{option_map_or}
use Rattle.ground_theory.specs.declared.literal.Clause.{Clause}
use Rattle.ground_theory.specs.declared.literal.Frame.{Frame}
use Rattle.ground_theory.specs.declared.literal.Guard.{Guard}
use Rattle.ground_theory.specs.Forward.{guards_before}
use Rattle.case_split.specs.declared.state.Entry.{Entry}
use Rattle.case_split.specs.declared.state.State.{State}
use Rattle.case_split.specs.declared.tree.CaseTree.{CaseTree}
use Rattle.case_split.specs.Cases.{IsFullCase, IsCounted, AreAscending}
use Rattle.case_split.specs.Choices.{Choices, is_chosen, is_reached, are_choices, stands_before}
use Rattle.case_split.specs.Trees.{are_among, is_closed}

abbrev pub guard_of : Entry → Guard
guard_of e = record { clause = e.clause; way = e.way }

abbrev pub guards_of : List Entry → List Guard
guards_of [] = []
guards_of (e ∷ es) = guard_of e ∷ guards_of es

abbrev pub is_marked : List Bool → ℕ → Bool
is_marked marks k = option_map_or (λ b. b) (slice_get marks k) false

abbrev pub with_marked : Bool → Guard → List Guard → List Guard
with_marked true g gs = g ∷ gs
with_marked false g gs = gs

-- the entries that closed trees need: those whose clauses are marked
abbrev pub needed_of : List Bool → List Entry → List Guard
needed_of marks [] = []
needed_of marks (e ∷ es) = with_marked (is_marked marks e.clause) (guard_of e) (needed_of marks es)

-- the clauses of guards marked too
abbrev pub mark_all : List Bool → List Guard → List Bool
mark_all marks [] = marks
mark_all marks (g ∷ gs) = mark_all (slice_set marks g.clause true) gs

-- the choices for so many clauses
abbrev pub choices_of : ℕ → List Entry → Choices
choices_of n [] = replicate n None
choices_of n (e ∷ es) = slice_set (choices_of n es) e.clause (Some e.way)

abbrev pub has_one_way : List Clause → ℕ → Bool
has_one_way clauses k = option_map_or (λ (c : Clause). nat_eq (length c.ways) 1) (slice_get clauses k) false

-- the entries of several ways are of clauses before this one
abbrev pub splits_before : List Clause → ℕ → List Entry → Bool
splits_before clauses n es = list_all (λ (e : Entry). has_one_way clauses e.clause || nat_lt e.clause n) es

-- each of these choices stands before that one
abbrev pub AllBefore : List Choices → Choices → Type 0
AllBefore counted now = AllByRecursion (λ (c : Choices). stands_before c now ≡ true) counted

abbrev pub entries_of : State → List Entry
entries_of s = reverse s.entries.items

module _ (clauses : List Clause) (frame : Frame) where
  -- closed under these choices, which no full case has
  pub record Refutes (guards : List Guard) (tree : CaseTree) : Type 0 where
    pub closed : is_closed clauses frame tree guards ≡ true
    pub excludes : (full : Choices) → IsFullCase clauses frame full → list_all (is_chosen full) guards ≡ true → ⊥

  -- what stands for an entry of several ways: every reached clause before it has its choice, and what was counted stands
  -- before its next way
  pub record IsSplit (counted : List Choices) (es : List Entry) (e : Entry) : Type 0 where
    pub legal : are_choices clauses (take e.clause (choices_of (length clauses) es)) ≡ true
    pub later : AllBefore counted (take e.clause (choices_of (length clauses) es) ++ Some (suc e.way) ∷ [])

  -- an entry behind earlier ones
  pub record IsEntry (counted : List Choices) (marks : List Bool) (es : List Entry) (e : Entry) : Type 0 where
    pub clause : Clause
    pub stands : slice_get clauses e.clause ≡ Some clause
    pub way : e.way < length clause.ways
    pub reached : are_among (guards_of es) clause.guards ≡ true
    pub before : guards_before e.clause clause ≡ true
    pub fresh : slice_get (choices_of (length clauses) es) e.clause ≡ Some None
    pub above : splits_before clauses e.clause es ≡ true
    pub as_many : length e.cases ≡ e.way
    pub closed : (v : ℕ) (t : CaseTree) → slice_get e.cases v ≡ Some t → Refutes (record { clause = e.clause; way = v } ∷ needed_of marks es) t
    pub split : (length clause.ways ≡ 1) ⊎ IsSplit counted es e

  abbrev pub AreEntries : List Choices → List Bool → List Entry → Type 0
  AreEntries counted marks [] = Unit {0}
  AreEntries counted marks (e ∷ es) = IsEntry counted marks es e × AreEntries counted marks es

  -- the state of a search with these entries
  pub record HasEntries (s : State) (es : List Entry) (counted : List Choices) : Type 0 where
    pub chosen : s.chosen.items ≡ choices_of (length clauses) es
    pub marks : length s.needed.items ≡ length clauses
    pub entries : AreEntries counted s.needed.items es
    pub as_many : length counted ≡ s.tried
    pub ascending : AreAscending clauses frame counted
    pub all_counted : AllByRecursion (IsCounted clauses frame) counted

  pub record IsSearch (s : State) (es : List Entry) : Type 0 where
    pub counted : List Choices
    pub has : HasEntries s es counted

  -- every reached clause before this one has its choice, and all that was counted stands before
  pub record IsReady (s : State) (from : ℕ) : Type 0 where
    pub counted : List Choices
    pub has : HasEntries s (entries_of s) counted
    pub within : from ≤ length clauses
    pub legal : are_choices clauses (take from s.chosen.items) ≡ true
    pub splits : splits_before clauses from (entries_of s) ≡ true
    pub later : AllBefore counted (take from s.chosen.items)

  -- a clause of several ways that is reached and has no choice yet
  pub record IsFork (s : State) (number : ℕ) : Type 0 where
    pub clause : Clause
    pub stands : slice_get clauses number ≡ Some clause
    pub several : 2 ≤ length clause.ways
    pub free : slice_get s.chosen.items number ≡ Some None
    pub reached : is_reached (take number s.chosen.items) clause ≡ true

  -- a clause without ways that is reached
  pub record IsDead (s : State) (number : ℕ) : Type 0 where
    pub clause : Clause
    pub stands : slice_get clauses number ≡ Some clause
    pub none : length clause.ways ≡ 0
    pub reached : is_reached (take number s.chosen.items) clause ≡ true

  -- the clauses before this one were looked at
  abbrev pub IsSpreading : State → ℕ → Option ℕ → Type 0
  IsSpreading s number None = IsReady s number
  IsSpreading s number (Some fork) = (fork < number) × IsReady s fork × IsFork s fork

  abbrev pub IsRefuted : State → CaseTree → Type 0
  IsRefuted s tree = IsSearch s (entries_of s) × Refutes (needed_of s.needed.items (entries_of s)) tree
