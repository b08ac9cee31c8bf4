use Rattle.std.proofs.Common.{◌≡◌, ◌++◌, ◌∷◌, drop, map}
use Rattle.std.specs.List.{flat_map}
use Rattle.sorted_skolem.proofs.rows.led_by_each.Given as goal

abbrev pub invariant-loop-row : goal.invariant-loop-row
invariant-loop-row l = l.led.items ++ flat_map (λ row. map (λ rest. row ∷ rest) l.lists) (drop l.row-index l.rows) ≡ flat_map (λ row. map (λ rest. row ∷ rest) l.lists) l.rows
