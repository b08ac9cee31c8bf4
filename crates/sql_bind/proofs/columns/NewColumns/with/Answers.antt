use Rattle.std.proofs.Common.{◌∷◌, [], ◌++◌, length, Ok, sym, ap, ◌∙◌}
use Rattle.lint_core.specs.declared.schema.Column.{Column}
use Rattle.sql_bind.specs.Columns.{rules_of}
use Rattle.sql_bind.specs.inner.Passes.{new_column, column_step}
use Rattle.sql_bind.proofs.Loops.{gives_refusal, passes_on}
use Rattle.sql_bind.proofs.Passes.{column_taken, column_refused, column_added}
use Rattle.sql_bind.proofs.columns.NewColumns.with.Goals as goal

pub returns-then-not-branch : goal.returns-then-not-branch
returns-then-not-branch c =
    gives_refusal _ _ _ c.refused.ensures
    (column_taken (rules_of c.args.elements.now) c.args.self c.self.inside.columns c.args.element.now c.in-Column.name c.in-Column.kind c.in-Column.rules c.self.inside.names c.in_ok-add.field-0
    c.self.view_is c.in-Column.is c.self.invariant c.in_ok-add.ensures.added c.if-not-branch.true)

pub returns-in_err-column : goal.returns-in_err-column
returns-in_err-column c =
    passes_on (new_column (length c.as_slice-2.result.now) c.in-Column.name c.in-Column.kind c.is_marked-not_null.result) _ c.in_err-column.field-0.0 c.from_residual-in_err-column.result
    (column_refused (rules_of c.args.elements.now) c.args.self c.self.inside.columns c.args.element.now c.in-Column.name c.in-Column.kind c.in-Column.rules c.self.inside.names c.in_ok-add.field-0
    c.self.view_is c.in-Column.is c.self.invariant c.in_ok-add.ensures.added c.if-not-branch.false
    c.as_slice-2.result.now c.as_slice.result.now c.is_marked-not_null.result c.as_slice-2.ensures c.as_slice.ensures c.is_marked-not_null.ensures)
    c.in_err-column.ensures.bound c.from_residual-in_err-column.ensures.1

pub returns : goal.returns
returns c =
    column_added (rules_of c.args.elements.now) c.args.self c.self.inside.columns c.args.element.now c.in-Column.name c.in-Column.kind c.in-Column.rules c.self.inside.names c.in_ok-add.field-0
    c.self.view_is c.in-Column.is c.self.invariant c.in_ok-add.ensures.added c.if-not-branch.false
    c.as_slice-2.result.now c.as_slice.result.now c.is_marked-not_null.result c.as_slice-2.ensures c.as_slice.ensures c.is_marked-not_null.ensures
    c.in_ok-column.column c.in_ok-column.ensures.bound
    ∙ ap Ok (sym c.in_ok-push.ensures.ok)
