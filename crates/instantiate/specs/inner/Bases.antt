-- The numbers of the first clauses of nodes.
use Rattle.std.specs.Prelude.{◌≡◌, ℕ, ◌+◌, ◌<◌, List, length, take, Option, Some, slice_get, slice_index, option_and_then}
use Rattle.std.specs.List.{sum_by}
use Rattle.instantiate.specs.declared.spots.Spot.{Spot}
use Rattle.instantiate.specs.inner.Spots.{saturated, sentence_size, stage_size}

-- what a table of lists has for a node of a sentence
abbrev pub node_base : List (List ℕ) → ℕ → ℕ → Option ℕ
node_base bases sentence node = option_and_then (λ (own : List ℕ). slice_get own node) (slice_get bases sentence)

-- each node of a stage that is there has its base: behind the stage's start, the sentences before and the nodes before
pub record HaveBases (starts : List ℕ) (all : List (List Spot)) (bases : List (List ℕ)) : Type 0 where
  pub as_many : length bases ≡ length all
  pub each : (sentence node : ℕ) (spots : List Spot) (spot : Spot) → slice_get all sentence ≡ Some spots → slice_get spots node ≡ Some spot → spot.stage < length starts
      → node_base bases sentence node ≡ Some (saturated (slice_index starts spot.stage + sum_by (sentence_size spot.stage) (take sentence all) + sentence_size spot.stage (take node spots)))

-- the next number of each stage, where the clauses of these sentences have theirs
pub record ArePassed (starts : List ℕ) (all : List (List Spot)) (next : List ℕ) : Type 0 where
  pub as_many : length next ≡ length starts
  pub each : (stage : ℕ) → stage < length starts → slice_index next stage ≡ saturated (slice_index starts stage + stage_size all stage)
