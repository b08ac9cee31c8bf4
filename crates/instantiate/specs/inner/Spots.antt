-- How many clauses each node has, and how many stand before it.
use Rattle.std.specs.Prelude.{◌≡◌, ℕ, ◌+◌, ◌-◌, ◌^◌, ◌<◌, nat_eq, List, length, min, take, Some, slice_get, slice_index, if◌then◌else◌}
use Rattle.std.specs.List.{sum_by}
use Rattle.lint_core.specs.Database.{below}
use Rattle.sorted_skolem.specs.declared.term.RowTerm.{RowTerm}
use Rattle.sorted_skolem.specs.Preorder.{Node, forall_tables}
use Rattle.sorted_skolem.specs.Terms.{term_lists}
use Rattle.instantiate.specs.declared.spots.Spot.{Spot}
use Rattle.instantiate.specs.Keys.{stage_of}

-- the greatest `u64` in place of greater numbers
abbrev pub saturated : ℕ → ℕ
saturated n = min n (2 ^ 64 - 1)

abbrev pub spot_of : List ℕ → List RowTerm → Node → Spot
spot_of order terms node = record {
  tables = forall_tables node;
  stage = stage_of order (forall_tables node);
  count = saturated (length (term_lists terms (forall_tables node)));
}

-- how many clauses of a stage a node has, those of a sentence, and those of all
abbrev pub size_at : ℕ → Spot → ℕ
size_at stage spot = if nat_eq spot.stage stage then spot.count else 0

abbrev pub sentence_size : ℕ → List Spot → ℕ
sentence_size stage spots = sum_by (size_at stage) spots

abbrev pub stage_size : List (List Spot) → ℕ → ℕ
stage_size all stage = sum_by (sentence_size stage) all

-- how many clauses the stages before this one have
abbrev pub size_before : List (List Spot) → ℕ → ℕ
size_before all stage = sum_by (stage_size all) (below stage)

-- the next number of each stage, where the clauses of these nodes have theirs
pub record AreMoved (old : List ℕ) (spots : List Spot) (next : List ℕ) : Type 0 where
  pub as_many : length next ≡ length old
  pub each : (stage : ℕ) → stage < length old → slice_index next stage ≡ saturated (slice_index old stage + sentence_size stage spots)

-- the number of the first clause of each node
pub record AreBases (old : List ℕ) (spots : List Spot) (bases : List ℕ) : Type 0 where
  pub as_many : length bases ≡ length spots
  pub each : (node : ℕ) (spot : Spot) → slice_get spots node ≡ Some spot → spot.stage < length old
      → slice_get bases node ≡ Some (saturated (slice_index old spot.stage + sentence_size spot.stage (take node spots)))
