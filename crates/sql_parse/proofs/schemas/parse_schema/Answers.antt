use Rattle.std.proofs.Common.{Err, sym, subst, ◌∙◌}
use Rattle.sql_parse.specs.Refusals.{IsSchema}
use Rattle.sql_parse.specs.inner.readers.Leaves.{GivesWhole}
use Rattle.sql_parse.specs.inner.readers.Schemas.{schema_of}
use Rattle.sql_parse.proofs.SchemaAnswers.{is_schema, no_schema, deep_schema}
use Rattle.sql_parse.proofs.schemas.parse_schema.Goals as goal

pub returns-in-Some-clause-refused : goal.returns-in-Some-clause-refused
returns-in-Some-clause-refused c = deep_schema c.args.tokens.now c.deep_at.result c.in-Some.span (sym c.too_deep.ensures ∙ c.in-Some.is) c.deep_at.ensures

pub returns-in-Ok-clause-tables : goal.returns-in-Ok-clause-tables
returns-in-Ok-clause-tables c =
    subst (λ tables. IsSchema c.args.tokens.now tables) (sym c.into_vec.ensures) (is_schema c.args.tokens.now c.in-Ok.tables (sym c.too_deep.ensures ∙ c.in_default.is) c.in-Ok.ensures)

pub returns-in-Err-Syntax-clause-refused : goal.returns-in-Err-Syntax-clause-refused
returns-in-Err-Syntax-clause-refused c =
    let none = subst (λ e. GivesWhole (schema_of c.args.tokens.now) (Err e)) c.in-Err-Syntax.field-0-is c.in-Err-Syntax.ensures in
    no_schema c.args.tokens.now c.syntax_at.result c.in-Err-Syntax.left (sym c.too_deep.ensures ∙ c.in_default.is) none c.syntax_at.ensures
