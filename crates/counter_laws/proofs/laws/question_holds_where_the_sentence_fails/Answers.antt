use Rattle.std.proofs.Common.{◌≡◌, true, List}
use Rattle.lint_base.proofs.Lists.{both_left}
use Rattle.lint_core.specs.declared.database.Database.{Database}
use Rattle.lint_core.specs.declared.schema.Table.{Table}
use Rattle.lint_core.specs.Meets.{is_of_domains, all_constraints_met, meets}
use Rattle.counter_laws.proofs.laws.question_holds_where_the_sentence_fails.Goals as goal

in_domains : (schema : List Table) (db : Database) → meets schema db ≡ true → is_of_domains schema db ≡ true
in_domains schema db met = both_left (is_of_domains schema db) (all_constraints_met db 0 schema) met

pub returns-clause-here : goal.returns-clause-here
returns-clause-here c schema db met query fits question asked earlier given fails =
    (c.sentence_decides_the_question.ensures.question schema db (in_domains schema db met) query fits question asked earlier given).1 fails

pub returns-clause-everywhere : goal.returns-clause-everywhere
returns-clause-everywhere c schema query fits question asked given fails db met earlier =
    (c.sentence_decides_the_question.ensures.question schema db (in_domains schema db met) query fits question asked earlier given).1 (fails db met)
