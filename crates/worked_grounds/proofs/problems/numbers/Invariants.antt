use Rattle.std.proofs.Common.{◌≡◌, length}
use Rattle.worked_grounds.proofs.problems.numbers.Given as goal

abbrev pub invariant-loop : goal.invariant-loop
invariant-loop l = length l.numbers ≡ l.counter
