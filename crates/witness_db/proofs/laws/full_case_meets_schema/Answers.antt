use Rattle.std.proofs.Common.{◌∙◌, sym}
use Rattle.sort_formula.specs.Axioms.{axioms}
use Rattle.witness_db.proofs.Axioms.{all_hold}
use Rattle.witness_db.proofs.laws.full_case_meets_schema.Goals as goal

pub returns : goal.returns
returns c = λ schema problem choices a full db places made right among.
    let domains = c.databases_are_of_domains.ensures schema problem full.problem_is choices a full.assigned db places made in
    sym (c.axioms_are_the_constraints.ensures schema right db domains)
    ∙ all_hold db problem.sentences
    (c.full_case_satisfies_sentences.ensures schema problem choices a full db places made) (axioms schema) among
