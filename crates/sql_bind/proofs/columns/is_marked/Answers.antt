use Rattle.std.proofs.Common.{◌∙◌, sym}
use Rattle.sql_bind.proofs.Passes.{marked_by_key}
use Rattle.sql_bind.proofs.columns.is_marked.Goals as goal

pub returns-else-has_not_null : goal.returns-else-has_not_null
returns-else-has_not_null c =
    c.declares_primary_with.ensures ∙ marked_by_key c.args.own.now c.args.elements.now c.args.name.now (sym c.has_not_null.ensures ∙ c.if-has_not_null.false)
