use Rattle.std.proofs.Common.{◌≡◌, ◌∙◌, ap, ap₂, subst, ◌++◌, ◌∷◌, [], map}
use Rattle.std.specs.Prelude.{OnOk}
use Rattle.lint_core.specs.declared.certificate.Step.{Step}
use Rattle.ground_theory.specs.Moving.{moved}
use Rattle.proof_cert.specs.inner.Leaves.{at_number}
use Rattle.proof_cert.specs.inner.Paths.{row_at}
use Rattle.proof_cert.proofs.writing.write_leaf.Goals as goal

pub returns : goal.returns
returns c =
    let way = c.args.path.now.splits.items in
    let leaf = c.args.conflict.now.leaf in
    let same = c.in_ok-moved.ensures
    ∙ ap₂ (λ fs rs. moved (at_number fs) (at_number rs) leaf) c.in_ok-facts_of.ensures (c.in_ok-rows_of.ensures ∙ ap (map (row_at way)) c.as_slice.ensures) in
    subst (λ (s : Step). OnOk c.push.result (c.push.new.self ≡ c.args.steps.now ++ s ∷ [])) same c.push.ensures.ok
