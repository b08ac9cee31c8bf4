use Rattle.std.proofs.Common.{◌≡◌, ◌+◌, drop}
use Rattle.instantiate.specs.Keys.{place_in}
use Rattle.instantiate.proofs.spots.place_in.Given as goal

abbrev pub invariant-loop-place : goal.invariant-loop-place
invariant-loop-place l = place_in l.order l.table ≡ l.place + place_in (drop l.place l.order) l.table
