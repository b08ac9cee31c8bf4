use Rattle.std.proofs.Common.{subst, List}
use Rattle.ground_theory.specs.declared.literal.Clause.{Clause}
use Rattle.instantiate.specs.Hanging.{Hanging}
use Rattle.instantiate.proofs.Hung.{hangs_together}
use Rattle.proof_cert.specs.inner.Ranks.{AreRanks}
use Rattle.proof_cert.proofs.Making.{makers_are}
use Rattle.proof_cert.proofs.certificate.from_tree.Goals as goal

pub steps_of-requires-clause-source : goal.steps_of-requires-clause-source
steps_of-requires-clause-source c =
    let problem = c.args.problem.now in
    let hanging : Hanging problem = hangs_together c.requires.problem.0 problem c.requires.problem.1 c.requires.sentences in
    record {
      hanging = hanging;
      ranks = subst (λ (cs : List Clause). AreRanks cs c.in_ok-ranks_of.field-0.items) c.as_slice.ensures c.in_ok-ranks_of.ensures;
      makers = makers_are problem hanging c.in_ok-maker_numbers.field-0 c.in_ok-maker_numbers.ensures;
    }
