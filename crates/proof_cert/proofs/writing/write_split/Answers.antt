use Rattle.std.proofs.Common.{◌≡◌, ◌∙◌, ap, refl, ◌++◌, append_assoc, reverse, ◌+◌, length}
use Rattle.sort_formula.specs.declared.formula.Formula.{out-Formula}
use Rattle.proof_cert.specs.declared.path.Opened.{Opened}
use Rattle.proof_cert.specs.declared.reaching.Reached.{Reached}
use Rattle.proof_cert.specs.inner.Reaching.{said_steps, IsReached}
use Rattle.proof_cert.specs.inner.Writing.{facts_in, opening_steps, rows_in, waits, waits_of}
use Rattle.proof_cert.proofs.Paths.{long}
use Rattle.proof_cert.proofs.Written.{split_covers, split_written}
use Rattle.proof_cert.proofs.Worklist.{on_ok}
use Rattle.proof_cert.proofs.writing.write_split.Goals as goal

pub reach-requires-clause-covers : goal.reach-requires-clause-covers
reach-requires-clause-covers c = split_covers c.args.source.now.problem.now c.args.path.now.splits.items c.args.clause c.args.cases.now c.requires.closed

pub returns : goal.returns
returns c =
    let source = c.args.source.now in
    let problem = source.problem.now in
    let way = c.args.path.now.splits.items in
    let clause = c.args.clause in
    let cases = c.args.cases.now in
    let facts = c.args.at.now.facts in
    let rows = c.args.at.now.rows in
    let r : Reached = c.in-Some.reached in
    let o : Opened = c.in-Some-opened_by.opened in
    let p : Opened = record { clause = clause; way = 0; formula = r.formula; fact = r.fact; first = facts + length (said_steps r.said); row = rows } in
    let reached : IsReached problem source.makers way facts clause r = c.in-Some.ensures in
    let own : o ≡ p = c.in-Some-opened_by.ensures in
    let said : c.say.new.steps ≡ c.args.steps.now ++ said_steps r.said = c.in_ok-say.ensures in
    let opening : c.open.new.steps ≡ c.say.new.steps ++ opening_steps r.fact (out-Formula r.formula.now) = c.in_ok-open.ensures in
    let above : c.len.result ≡ length way = c.len.ensures ∙ long c.args.path.now.splits in
    on_ok c.wait_for_all.result
    (waits_of c.wait_for_all.new.waiting.items ≡ waits_of c.args.waiting.now.items
    ++ reverse (waits c.len.result o (o.first + facts_in (out-Formula o.formula.now)) (o.row + rows_in (out-Formula o.formula.now)) 0 cases))
    (λ waiting. record {
      steps = said_steps r.said ++ opening_steps r.fact (out-Formula r.formula.now);
      next = waits (length way) p (p.first + facts_in (out-Formula p.formula.now)) (p.row + rows_in (out-Formula p.formula.now)) 0 cases;
      new_is = opening ∙ (ap (λ ss. ss ++ opening_steps r.fact (out-Formula r.formula.now)) said
          ∙ append_assoc c.args.steps.now (said_steps r.said) (opening_steps r.fact (out-Formula r.formula.now)));
      after_is = waiting
          ∙ (ap (λ (q : Opened). waits_of c.args.waiting.now.items
          ++ reverse (waits c.len.result q (q.first + facts_in (out-Formula q.formula.now)) (q.row + rows_in (out-Formula q.formula.now)) 0 cases)) own
          ∙ ap (λ n. waits_of c.args.waiting.now.items
          ++ reverse (waits n p (p.first + facts_in (out-Formula p.formula.now)) (p.row + rows_in (out-Formula p.formula.now)) 0 cases)) above);
      is_written = split_written problem source.makers c.requires.source.hanging way c.requires.standing clause cases c.requires.closed c.requires.other facts rows r reached p refl;
    })
    c.wait_for_all.ensures
