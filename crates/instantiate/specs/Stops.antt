-- When a ground list is not made.
use Rattle.std.specs.Prelude.{◌≡◌, ℕ, ◌-◌, ◌^◌, ◌<◌, min}
use Rattle.instantiate.specs.declared.grounding.GroundStop.{GroundStop}
use Rattle.instantiate.specs.declared.grounding.GroundStop.TheVariants as stop

-- more than 400,000 clauses, of which there are so many; in place of a greater number the greatest `u64`
abbrev pub IsTooMany : ℕ → GroundStop → Type 0
IsTooMany clauses (stop.ManyNodes count) = (400000 < clauses) × (count ≡ min clauses (2 ^ 64 - 1))
IsTooMany clauses stop.NoMemory = Unit {0}
