use Rattle.std.proofs.Common.{◌∙◌, ◌^◌, ap, sym}
use Rattle.std.specs.List.{list_all}
use Rattle.std.specs.Prelude.{Some}
use Rattle.sort_formula.specs.Bounds.{is_within}
use Rattle.sort_formula.specs.declared.formula.Formula.TheVariants as f
use Rattle.cert_checker.specs.inner.Seen.{branch_of}
use Rattle.cert_checker.specs.inner.Branches.{stepped, waiting_branches}
use Rattle.cert_checker.proofs.Growing.{opened_or, split_branches, split_is_run}
use Rattle.cert_checker.proofs.Moderate.{or_is_within}
use Rattle.cert_checker.proofs.run.Run.split.Goals as goal

pub wait_for-requires : goal.wait_for-requires
wait_for-requires c =
    ap (list_all (is_within (2 ^ 66))) c.as_slice.ensures
    ∙ or_is_within (2 ^ 66) c.formula.result.now c.in-Or.parts c.in-Or.is c.formula.ensures.moderate

pub take_next-requires-clause-run : goal.take_next-requires-clause-run
take_next-requires-clause-run c =
    split_is_run c.args.self.now.branch c.wait_for.new.self.branch c.in-Some.whole.rows c.as_slice.result.now c.args.self.now.waiting.items
    c.wait_for.new.self.waiting.items c.wait_for.ensures.branch c.in_ok-wait_for.ensures.waiting c.requires.run

pub returns-clause-stepped : goal.returns-clause-stepped
returns-clause-stepped c =
    let rest = waiting_branches (branch_of c.args.self.now.branch) c.args.self.now.waiting.items in
    let whole = sym c.in_ok-whole.ensures ∙ c.in-Some.is in
    let is = sym c.formula.ensures.formula ∙ (c.in-Or.is ∙ ap f.Or (sym c.as_slice.ensures)) in
    ap (λ made. stepped made rest) (opened_or (branch_of c.args.self.now.branch) c.args.fact c.in-Some.whole c.as_slice.result.now whole is)
    ∙ ap Some (sym (split_branches c.args.self.now.branch c.wait_for.new.self.branch c.in-Some.whole.rows c.as_slice.result.now c.args.self.now.waiting.items
    c.wait_for.new.self.waiting.items c.wait_for.ensures.branch c.in_ok-wait_for.ensures.waiting) ∙ sym c.in_ok-take_next.ensures.rest)
