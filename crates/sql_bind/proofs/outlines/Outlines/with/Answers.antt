use Rattle.std.proofs.Common.{Ok, sym, ap, ◌∙◌}
use Rattle.sql_bind.specs.inner.Passes.{new_outline}
use Rattle.sql_bind.proofs.Loops.{gives_refusal, passes_on}
use Rattle.sql_bind.proofs.Passes.{outline_taken, outline_many, outline_refused, outline_added}
use Rattle.sql_bind.proofs.outlines.Outlines.with.Goals as goal

pub returns-then-not-branch : goal.returns-then-not-branch
returns-then-not-branch c =
    gives_refusal _ _ _ c.refused.ensures
    (outline_taken c.args.self c.self.inside.tables c.args.tree.now c.self.inside.names c.in_ok-add.field-0 c.self.view_is c.self.invariant c.in_ok-add.ensures.added c.if-not-branch.true)

pub returns-then-as_slice-ge200 : goal.returns-then-as_slice-ge200
returns-then-as_slice-ge200 c =
    gives_refusal _ _ _ c.too_many.ensures
    (outline_many c.args.self c.self.inside.tables c.args.tree.now c.self.inside.names c.in_ok-add.field-0 c.self.view_is c.self.invariant c.in_ok-add.ensures.added c.if-not-branch.false
    c.as_slice.result.now c.as_slice.ensures c.if-as_slice-ge200.true)

pub returns-in_err-table : goal.returns-in_err-table
returns-in_err-table c =
    passes_on (new_outline c.args.tree.now) _ c.in_err-table.field-0.0 c.from_residual-in_err-table.result
    (outline_refused c.args.self c.self.inside.tables c.args.tree.now c.self.inside.names c.in_ok-add.field-0 c.self.view_is c.self.invariant c.in_ok-add.ensures.added c.if-not-branch.false
    c.as_slice.result.now c.as_slice.ensures c.if-as_slice-ge200.false)
    c.in_err-table.ensures.bound c.from_residual-in_err-table.ensures.1

pub returns : goal.returns
returns c =
    outline_added c.args.self c.self.inside.tables c.args.tree.now c.self.inside.names c.in_ok-add.field-0 c.self.view_is c.self.invariant c.in_ok-add.ensures.added c.if-not-branch.false
    c.as_slice.result.now c.as_slice.ensures c.if-as_slice-ge200.false c.in_ok-table.table c.in_ok-table.ensures.bound
    ∙ ap Ok (sym c.in_ok-push.ensures.ok)
