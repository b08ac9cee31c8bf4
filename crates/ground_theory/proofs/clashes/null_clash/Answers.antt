use Rattle.ground_theory.proofs.Nulls.{null_found, firm_more}
use Rattle.ground_theory.proofs.clashes.null_clash.Goals as goal

pub returns-in-Some : goal.returns-in-Some
returns-in-Some c =
    null_found c.args.labels.now c.args.nulls.now c.args.firms.now c.loop-firm.firm-index c.in_ok-held.held.items c.in_ok-held.ensures c.requires.firms c.requires.labels
    c.loop-firm-test.true c.index.result.now c.index.ensures c.in-Some.null c.in-Some.is

pub loop-firm-preserved : goal.loop-firm-preserved
loop-firm-preserved c =
    firm_more c.args.labels.now c.args.nulls.now c.args.firms.now c.loop-firm.firm-index c.in_ok-held.held.items c.in_ok-held.ensures c.requires.firms c.requires.labels
    c.loop-firm-test.true c.index.result.now c.index.ensures c.in_default.is c.loop-firm.invariant
