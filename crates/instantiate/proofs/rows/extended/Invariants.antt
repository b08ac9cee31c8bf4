use Rattle.std.proofs.Common.{◌≡◌, ◌++◌, ◌∷◌, [], map, take}
use Rattle.std.specs.List.{flat_map}
use Rattle.instantiate.proofs.rows.extended.Given as goal

abbrev pub invariant-loop-list : goal.invariant-loop-list
invariant-loop-list l = l.all ≡ flat_map (λ list. map (λ row. list ++ row ∷ []) l.rows) (take l.list-index l.lists)
