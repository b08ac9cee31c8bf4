use Rattle.std.proofs.Common.{◌∙◌, ◌<◌, ap, sym, length, arith}
use Rattle.std.specs.Prelude.{Some, None, if◌then◌else◌}
use Rattle.cert_checker.specs.inner.Branches.{branches_of}
use Rattle.cert_checker.proofs.Numbers.{next_right, next_wrong}
use Rattle.cert_checker.proofs.checking.first_wrong.Goals as goal

pub returns-then-not-branch : goal.returns-then-not-branch
returns-then-not-branch c =
    let within : c.loop-index.index < length c.args.steps.now = omega arith in
    let wrong =
    c.in_ok-step.ensures.stepped ∙ ap (λ right. if right then Some (branches_of c.step.new.self) else None) c.if-not-branch.true
    in
    sym (next_wrong c.args.tables.now c.args.steps.now c.loop-index.index within c.index-steps-index.result c.index-steps-index.is
    (branches_of c.loop-index.run) (branches_of c.step.new.self) wrong)
    ∙ c.loop-index.invariant.rest

pub loop-index-preserved : goal.loop-index-preserved
loop-index-preserved c =
    let within : c.loop-index.index < length c.args.steps.now = omega arith in
    let right =
    c.in_ok-step.ensures.stepped ∙ ap (λ right. if right then Some (branches_of c.step.new.self) else None) c.if-not-branch.false
    in
    record {
      run = c.in_ok-step.ensures.run;
      rest =
          next_right c.args.tables.now c.args.steps.now c.loop-index.index within c.index-steps-index.result c.index-steps-index.is
          (branches_of c.loop-index.run) (branches_of c.step.new.self) right
          ∙ c.loop-index.invariant.rest;
    }
