use Rattle.std.proofs.Common.{◌≡◌, ◌++◌, ◌∷◌, take, map}
use Rattle.sorted_skolem.proofs.rows.push_led.Given as goal

abbrev pub invariant-loop-rest : goal.invariant-loop-rest
invariant-loop-rest l = l.led.items ≡ l.initial.led.items ++ map (λ rest. l.row ∷ rest) (take l.rest-index l.lists)
