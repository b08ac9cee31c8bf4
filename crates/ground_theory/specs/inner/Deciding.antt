-- What is answered on the way to an answer on literals.
use Rattle.std.specs.Prelude.{◌≤◌, ◌^◌, ◌⊎◌, ◌++◌, ℕ, List, length, map}
use Rattle.std.specs.List.{All}
use Rattle.diff_bounds.specs.System.{IsAmong, IsModerate}
use Rattle.lint_core.specs.declared.certificate.Step.{Step}
use Rattle.ground_theory.specs.declared.clashes.NullClash.{NullClash}
use Rattle.ground_theory.specs.declared.joining.Join.{Join}
use Rattle.ground_theory.specs.declared.joining.Joined.{Joined}
use Rattle.ground_theory.specs.declared.literal.Frame.{Frame}
use Rattle.ground_theory.specs.declared.numbering.Numbering.{Numbering}
use Rattle.ground_theory.specs.declared.numbers.Stated.{Stated}
use Rattle.ground_theory.specs.declared.sifting.Bound.{Bound}
use Rattle.ground_theory.specs.declared.sifting.Sifted.{Sifted}
use Rattle.ground_theory.specs.inner.Clashes.{AreApart, AreFirm, IsNullClash, IsNullLeaf, IsParted, IsSameLeaf}
use Rattle.ground_theory.specs.inner.Counted.{edge_in}
use Rattle.ground_theory.specs.inner.Sums.{told, bound_stated, range_of, join_stated}

-- rows of one class contradict nothing
pub record AreClear (labels : List ℕ) (s : Sifted) : Type 0 where
  pub apart : AreApart labels s.others.items (length s.others.items)
  pub firm : AreFirm labels s.nulls.items s.firms.items (length s.firms.items)

-- the leaf of two rows of one class that differ, or of a cell that is NULL and is not
abbrev pub IsRowLeaf : List ℕ → List Join → Sifted → Step → Type 0
IsRowLeaf labels joins s leaf =
    ((j : Join) × IsParted labels s.others.items j × IsSameLeaf joins j leaf)
    ⊎ ((clash : NullClash) × IsNullClash labels s.nulls.items s.firms.items clash × IsNullLeaf joins clash leaf)

-- all edges that the literals ask for
abbrev pub all_stated : Frame → Joined → Numbering → List Bound → List Stated
all_stated frame joined numbering bounds =
    told (bound_stated numbering.places.items) 0 bounds
    ++ (told (range_of frame joined.labels.items) 0 numbering.cells.items ++ told (join_stated frame numbering.places.items) 0 joined.joins.items)

-- the edges can be solved
pub record IsReady (vars : ℕ) (stated : List Stated) : Type 0 where
  pub ends : All (IsAmong vars) (map edge_in stated)
  pub moderate : All IsModerate (map edge_in stated)
  pub few : length stated ≤ 2 ^ 20
