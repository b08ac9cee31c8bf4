use Rattle.std.proofs.Common.{◌≡◌, ◌++◌, length, reverse}
use Rattle.proof_cert.specs.inner.Writing.{waits, waits_of}
use Rattle.proof_cert.proofs.writing.wait_for.Given as goal

abbrev pub invariant-loop-case : goal.invariant-loop-case
invariant-loop-case l = record {
  way : l.way ≡ length l.case-iterator.iter.rest.now;
  waiting :
      waits_of l.waiting.items ++ reverse (waits l.above l.opened l.facts l.rows 0 l.case-iterator.iter.rest.now)
      ≡ waits_of l.fn.waiting.items ++ reverse (waits l.above l.opened l.facts l.rows 0 l.cases);
}
