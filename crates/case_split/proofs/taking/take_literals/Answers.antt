use Rattle.std.proofs.Common.{◌∙◌, ◌<◌, ◌+◌, sym, ap, subst, length, take, arith}
use Rattle.std.proofs.lemmas.Option.{slice_get-get_or}
use Rattle.std.specs.Prelude.{Some}
use Rattle.case_split.specs.declared.taking.Taken.{Taken}
use Rattle.case_split.specs.inner.Steps.{IsTaken}
use Rattle.case_split.proofs.Literals.{taken_passed, taken_more}
use Rattle.case_split.proofs.Places.{there}
use Rattle.case_split.proofs.taking.take_literals.Goals as goal
use Rattle.case_split.proofs.taking.take_literals.Goals.{in-Some+in_ok-take-in-Some, in-None}

pub loop-number-preserved : goal.loop-number-preserved
loop-number-preserved c =
    let i = c.loop-number.number in
    let low : i < length c.args.clauses.now = c.loop-number-test.true in
    let at = there c.args.clauses.now i low in
    let low' : i < length c.args.chosen.now = let size = c.requires.length in omega arith in
    elim c.match-chosen-number.branch [
      | in-Some+in_ok-take-in-Some w ↦
          subst (λ (x : Taken). IsTaken c.args.clauses.now c.args.frame.now (take (i + 1) c.args.chosen.now) x) (sym w.taken-is)
          (taken_more c.args.clauses.now c.args.frame.now c.args.chosen.now i w.in-Some.way at.0 c.loop-number.taken w.take.new.self c.loop-number.invariant at.1
          (slice_get-get_or c.args.chosen.now i _ low' ∙ ap Some w.in-Some.is) w.in_ok-take-in-Some.ensures)
      | in-None w ↦
          subst (λ (x : Taken). IsTaken c.args.clauses.now c.args.frame.now (take (i + 1) c.args.chosen.now) x) (sym w.taken-is)
          (taken_passed c.args.clauses.now c.args.frame.now c.args.chosen.now i at.0 c.loop-number.taken c.loop-number.invariant at.1
          (slice_get-get_or c.args.chosen.now i _ low' ∙ ap Some w.in-None.is))
    ]
