use Rattle.std.proofs.Common.{Err, refl, sym, subst}
use Rattle.sql_parse.specs.inner.readers.Leaves.{GivesWhole}
use Rattle.sql_parse.specs.inner.readers.Queries.{query_of}
use Rattle.sql_parse.proofs.QueryAnswers.{is_query, no_query, deep_query}
use Rattle.sql_parse.proofs.queries.parse_query.Goals as goal

pub returns-in-Some-too_deep-clause-refused : goal.returns-in-Some-too_deep-clause-refused
returns-in-Some-too_deep-clause-refused c =
    deep_query c.args.tokens.now (c.in_default.ensures.few refl) c.deep_at.result c.in-Some-too_deep.span (sym c.in-Some-too_deep.ensures) c.deep_at.ensures

pub returns-in-Ok-clause-query : goal.returns-in-Ok-clause-query
returns-in-Ok-clause-query c = is_query c.args.tokens.now (c.in_default.ensures.few refl) c.in-Ok.query (sym c.in_default-too_deep.ensures) c.in-Ok.ensures

pub returns-in-Err-Syntax-clause-refused : goal.returns-in-Err-Syntax-clause-refused
returns-in-Err-Syntax-clause-refused c =
    let none = subst (λ e. GivesWhole (query_of c.args.tokens.now) (Err e)) c.in-Err-Syntax.field-0-is c.in-Err-Syntax.ensures in
    no_query c.args.tokens.now (c.in_default.ensures.few refl) c.syntax_at.result c.in-Err-Syntax.left (sym c.in_default-too_deep.ensures) none c.syntax_at.ensures
