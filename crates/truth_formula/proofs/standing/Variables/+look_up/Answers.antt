use Rattle.std.proofs.Common.{◌≡◌, ◌∙◌, ◌<◌, ap, sym, arith, length}
use Rattle.std.proofs.lemmas.Grind.{common_steps}
use Rattle.std.specs.Prelude.{slice_get}
use Rattle.lint_core.proofs.LevelTables.{length_inside, at_outer, at_own}
use Rattle.lint_core.specs.Fits.{tables_of}
use Rattle.sort_formula.specs.Sides.{from_number}
use Rattle.truth_formula.proofs.Variables.{numbered_inside}
use Rattle.truth_formula.proofs.standing.Variables.+look_up.Goals as goal
use Rattle.truth_formula.specs.inner.Standing.{numbered}

pub returns-in-Ok-clause-there : goal.returns-in-Ok-clause-there
returns-in-Ok-clause-there t c =
    let outer = (numbered c.in-Inside.outer.now).levels in
    let own = from_number (numbered c.in-Inside.outer.now).depth (length (tables_of c.in-Inside.entries.now)) in
    let low : c.args.level < length outer = c.in-Ok.ensures.there.0 in
    rw (c.in-Inside.is, numbered_inside c.in-Inside.entries c.in-Inside.outer, length_inside)
    (omega arith, c.in-Ok.ensures.there.1 ∙ sym (at_outer outer own c.args.level c.args.entry low))

pub returns-in-Err-eq0-clause-there : goal.returns-in-Err-eq0-clause-there
returns-in-Err-eq0-clause-there t c =
    let outer = (numbered c.in-Inside.outer.now).levels in
    let own = from_number (numbered c.in-Inside.outer.now).depth (length (tables_of c.in-Inside.entries.now)) in
    let first = ap (λ first. slice_get (from_number first (length (tables_of c.in-Inside.entries.now))) c.args.entry) c.depth.ensures in
    let same : c.args.level ≡ length outer = grind (arith, common_steps) in
    rw (c.in-Inside.is, numbered_inside c.in-Inside.entries c.in-Inside.outer, length_inside)
    (omega arith, c.variable_of.ensures ∙ first ∙ sym (at_own outer own c.args.level c.args.entry same))

pub returns-in-Err-clause-further : goal.returns-in-Err-clause-further
returns-in-Err-clause-further t c =
    rw (c.in-Inside.is, numbered_inside c.in-Inside.entries c.in-Inside.outer, length_inside)
    (grind (arith, common_steps))
