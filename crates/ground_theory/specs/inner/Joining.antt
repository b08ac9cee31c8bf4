-- The classes of row terms that Same literals join. Each row term has a label: the row term that names its class.
use Rattle.std.specs.Prelude.{◌≡◌, ◌⊎◌, ◌<◌, ◌≤◌, ℕ, nat_eq, List, length, Option, Some, None, slice_index_or, if◌then◌else◌}
use Rattle.lint_core.specs.declared.database.Value.{Value}
use Rattle.ground_theory.specs.declared.joining.Join.{Join}

-- what is told of a row term
abbrev pub Mark : Type 0
Mark = Value

abbrev pub label_at : List ℕ → ℕ → ℕ
label_at labels row = slice_index_or labels row 0

abbrev pub by_at : List (Option Join) → ℕ → Option Join
by_at by row = slice_index_or by row None

abbrev pub join_at : List Join → ℕ → Join
join_at joins k = slice_index_or joins k (record { fact = 0; row = 0; other = 0 })

abbrev pub IsListed : List Join → Join → Type 0
IsListed joins j = (k : ℕ) × (k < length joins) × (join_at joins k ≡ j)

-- their rows are among the row terms
abbrev pub AreSames : ℕ → List Join → Type 0
AreSames rows sames = (k : ℕ) → k < length sames → ((join_at sames k).row < rows) × ((join_at sames k).other < rows)

-- one label in place of another, of the first row terms
pub record IsRelabelled (labels : List ℕ) (from to upto : ℕ) (new : List ℕ) : Type 0 where
  pub count : length new ≡ length labels
  pub below : (k : ℕ) → k < upto → label_at new k ≡ (if nat_eq (label_at labels k) from then to else label_at labels k)
  pub rest : (k : ℕ) → upto ≤ k → label_at new k ≡ label_at labels k

-- labels name themselves, and row terms with one label are told apart by nothing that is alike along each literal
pub record IsJoining (rows : ℕ) (labels : List ℕ) (by : List (Option Join)) : Type 0 where
  pub count : length labels ≡ rows
  pub slots : length by ≡ rows
  pub within : (row : ℕ) → row < rows → label_at labels row < rows
  pub own : (row : ℕ) → row < rows → label_at labels (label_at labels row) ≡ label_at labels row
  pub free : (row : ℕ) → row < rows → label_at labels row ≡ row → by_at by row ≡ None
  pub tied : (mark : ℕ → Mark) → ((k : ℕ) (j : Join) → by_at by k ≡ Some j → mark j.row ≡ mark j.other)
      → (row other : ℕ) → row < rows → other < rows → label_at labels row ≡ label_at labels other → mark row ≡ mark other

-- the two rows have one label, and those that had one still have
pub record IsJoined (labels : List ℕ) (by : List (Option Join)) (same : Join) (labels' : List ℕ) (by' : List (Option Join)) : Type 0 where
  pub joining : IsJoining (length labels) labels' by'
  pub joined : label_at labels' same.row ≡ label_at labels' same.other
  pub kept : (row other : ℕ) → row < length labels → other < length labels → label_at labels row ≡ label_at labels other → label_at labels' row ≡ label_at labels' other
  pub sound : (k : ℕ) (j : Join) → by_at by' k ≡ Some j → (by_at by k ≡ Some j) ⊎ (j ≡ same)

-- the first of the literals are joined, and only these are
pub record IsFolded (rows : ℕ) (sames : List Join) (done : ℕ) (labels : List ℕ) (by : List (Option Join)) : Type 0 where
  pub joining : IsJoining rows labels by
  pub joined : (k : ℕ) → k < done → label_at labels (join_at sames k).row ≡ label_at labels (join_at sames k).other
  pub from : (k : ℕ) (j : Join) → by_at by k ≡ Some j → IsListed sames j

-- the classes of row terms that the literals join: one label exactly where they join, some of them joining all
pub record AreJoined (rows : ℕ) (sames : List Join) (labels : List ℕ) (joins : List Join) : Type 0 where
  pub count : length labels ≡ rows
  pub few : length joins ≤ rows
  pub within : (row : ℕ) → row < rows → label_at labels row < rows
  pub own : (row : ℕ) → row < rows → label_at labels (label_at labels row) ≡ label_at labels row
  pub joined : (k : ℕ) → k < length sames → label_at labels (join_at sames k).row ≡ label_at labels (join_at sames k).other
  pub from : (k : ℕ) → k < length joins → IsListed sames (join_at joins k)
  pub tied : (mark : ℕ → Mark) → ((k : ℕ) → k < length joins → mark (join_at joins k).row ≡ mark (join_at joins k).other)
      → (row other : ℕ) → row < rows → other < rows → label_at labels row ≡ label_at labels other → mark row ≡ mark other

-- the literals in the first places
pub record AreThere (by : List (Option Join)) (upto : ℕ) (joins : List Join) : Type 0 where
  pub count : length joins ≤ upto
  pub whole : (k : ℕ) (j : Join) → k < upto → by_at by k ≡ Some j → IsListed joins j
  pub sound : (i : ℕ) → i < length joins → (k : ℕ) × (by_at by k ≡ Some (join_at joins i))
