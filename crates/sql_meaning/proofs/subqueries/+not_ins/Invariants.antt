use Rattle.std.proofs.Common.{◌≡◌, drop}
use Rattle.std.specs.List.{flat_map}
use Rattle.sql_meaning.specs.WholeSubqueries.{whole_not_ins}
use Rattle.sql_meaning.specs.inner.Reached.{item_at}
use Rattle.sql_meaning.proofs.subqueries.+not_ins.Given as goal

-- those of the rest, by what is left of the number
abbrev pub invariant-seek_not_in_each-loop-part : goal.invariant-seek_not_in_each-loop-part
invariant-seek_not_in_each-loop-part l =
    item_at (flat_map (λ part. whole_not_ins part l.tables) (drop l.part-index l.parts)) l.left
    ≡ item_at (flat_map (λ part. whole_not_ins part l.tables) l.parts) l.number
