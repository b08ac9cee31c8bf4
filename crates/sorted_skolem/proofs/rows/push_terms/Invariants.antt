use Rattle.std.proofs.Common.{◌≡◌, ◌++◌, map}
use Rattle.sorted_skolem.proofs.rows.push_terms.Given as goal

abbrev pub invariant-loop-rows : goal.invariant-loop-rows
invariant-loop-rows l = l.more.items ≡ l.initial.more.items ++ map (λ rows. record { sentence = l.sentence; node = l.node; rows = rows; table = l.ask.table }) l.yielded
