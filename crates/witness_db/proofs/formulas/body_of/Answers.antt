use Rattle.std.proofs.Common.{◌∙◌, ◌<◌, ◌+◌, sym, ap, length, get_or, drop, arith}
use Rattle.sort_formula.specs.declared.formula.Formula.TheVariants as f
use Rattle.sort_formula.specs.Translation.{exist_rows}
use Rattle.witness_db.proofs.Walks.{next_is, one_more}
use Rattle.witness_db.proofs.formulas.body_of.Goals as goal

pub returns-in_default : goal.returns-in_default
returns-in_default c = λ tables body is size.
    let i = c.loop.counter in
    let before = c.loop-test.true in
    let low : i < length tables = omega arith in
    absurd (c.in_default.not-Exists (get_or tables i 0) (exist_rows (drop (i + 1) tables) body) (c.loop.invariant tables body is size ∙ next_is tables body i low))

pub loop-preserved : goal.loop-preserved
loop-preserved c = λ tables body is size.
    one_more tables body c.loop.formula.now c.get-formula.result.now c.loop.counter c.args.count c.in-Exists.table (c.loop.invariant tables body is size) size c.loop-test.true
    (c.in-Exists.is ∙ ap (f.Exists c.in-Exists.table) (sym c.get-formula.ensures))
