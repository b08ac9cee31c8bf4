use Rattle.std.proofs.Common.{◌∙◌, ap, false}
use Rattle.std.specs.Option.{option_map_or}
use Rattle.sort_formula.specs.Chains.{are_two_texts}
use Rattle.cert_checker.specs.inner.Seen.{side_of, branch_of}
use Rattle.cert_checker.proofs.facts.Open.leads_to_other_text.Goals as goal

pub returns-in-Some : goal.returns-in-Some
returns-in-Some c =
    let schema = c.args.tables.now in
    let branch = branch_of c.args.self.now in
    c.are_two_texts.ensures schema branch
    ∙ ap (λ end. option_map_or (are_two_texts schema branch (side_of c.args.from)) end false) c.in-Some.ensures
