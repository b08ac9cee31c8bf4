use Rattle.std.proofs.Common.{◌≡◌, ◌-◌, ◌≤◌, length, take}
use Rattle.lint_base.specs.Sink.{Appended}
use Rattle.lint_base.proofs.sink.write_text.Given as goal

abbrev pub invariant-loop-taken : goal.invariant-loop-taken
invariant-loop-taken g l = record {
  within : l.taken ≤ length l.text;
  stand : g.K.Sink.faults l.sink ≡ g.K.Sink.faults l.initial.sink;
  contents : Appended (g.K.Sink.contents l.initial.sink) (g.K.Sink.contents l.sink) (take l.taken l.text);
}

abbrev pub decreases-loop-taken : goal.decreases-loop-taken
decreases-loop-taken g l = length l.text - l.taken
