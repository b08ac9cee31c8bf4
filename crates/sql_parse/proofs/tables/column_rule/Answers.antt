use Rattle.std.proofs.Common.{sym, subst, ◌∙◌}
use Rattle.sql_parse.specs.inner.readers.Leaves.{GivesAlone}
use Rattle.sql_parse.proofs.Rules.{word_leads}
use Rattle.sql_parse.proofs.tables.column_rule.Goals as goal

pub returns-else-is-2 : goal.returns-else-is-2
returns-else-is-2 c =
    let leads = word_leads c.args.depth c.args.column.now c.args.tokens.now c.in-Some.token.now c.in-Some.rest.now c.in-Some.ensures.cases.0 (sym c.is.ensures ∙ c.if-is.false) (sym c.is-else-is.ensures ∙ c.if-is-2.false) in
    subst (λ f. GivesAlone f c.word_rule.result) (sym leads) (c.word_rule.ensures c.args.depth)
