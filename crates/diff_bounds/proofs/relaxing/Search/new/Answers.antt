use Rattle.std.proofs.Common.{◌≡◌, ◌∙◌, ap, pos, replicate, arith}
use Rattle.diff_bounds.proofs.Lowering.{fresh}
use Rattle.diff_bounds.proofs.relaxing.Search.new.Goals as goal

pub returns-clause-sound : goal.returns-clause-sound
returns-clause-sound c edges =
    let all : c.loop.counter ≡ c.args.vars = omega arith in
    fresh edges c.args.vars c.loop.values.items c.in_ok-nones.field-0.items (c.loop.invariant ∙ ap (λ n. replicate n (pos 0)) all) c.in_ok-nones.ensures
