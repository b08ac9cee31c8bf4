use Rattle.std.proofs.Common.{◌≡◌, ◌∙◌, true, List}
use Rattle.std.proofs.lemmas.Bool.{and_parts}
use Rattle.lint_core.specs.declared.database.Database.{Database}
use Rattle.lint_core.specs.declared.schema.Table.{Table}
use Rattle.lint_core.specs.Meets.{is_of_domains, all_constraints_met, meets}
use Rattle.truth_laws.proofs.axioms.accepted_sentence_fails.Goals as goal

in_domains : (schema : List Table) (db : Database) → meets schema db ≡ true → is_of_domains schema db ≡ true
in_domains schema db met = (and_parts (is_of_domains schema db) (all_constraints_met db 0 schema) met).0

pub returns : goal.returns
returns c schema right sentence steps accepted db met =
    let domains = in_domains schema db met in
    c.accepted_steps_refute.ensures schema sentence steps accepted db domains (c.axioms_are_the_constraints.ensures schema right db domains ∙ met)
