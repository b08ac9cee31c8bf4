use Rattle.std.proofs.Common.{◌≡◌, ◌∙◌, sym, ap, refl, subst, length}
use Rattle.std.proofs.lemmas.Option.{slice_get_read}
use Rattle.std.specs.Prelude.{Some, None, slice_get}
use Rattle.sort_formula.specs.declared.formula.Formula.{out-Formula}
use Rattle.sort_formula.specs.declared.formula.Formula.TheVariants as f
use Rattle.sort_formula.specs.declared.formula.Formula.TheOpen.{Formula-F}
use Rattle.proof_cert.specs.declared.reaching.Reached.{Reached}
use Rattle.proof_cert.specs.inner.Reaching.{IsPartOf}
use Rattle.proof_cert.proofs.reaching.of_part.Goals as goal

pub returns-in_ok-sum-in-And : goal.returns-in_ok-sum-in-And
returns-in_ok-sum-in-And c =
    let parts = c.in-And.parts in
    let r : Reached = record { formula = c.in_ok-get-in-And.field-0; fact = c.in_ok-sum-in-And.field-0; said = None } in
    let layer : out-Formula c.args.above.formula.now ≡ Formula-F.And parts = ap out-Formula c.in-And.is ∙ f.outs-And parts in
    let at : slice_get parts c.args.number ≡ Some c.in_ok-get-in-And.field-0.now =
    sym (ap (λ xs. slice_get xs c.args.number) c.as_slice.ensures)
    ∙ slice_get_read c.as_slice.result.now (length c.as_slice.result.now) c.args.number c.in_ok-get-in-And.field-0.now refl c.in_ok-get-in-And.ensures.lookup.3.0 c.in_ok-get-in-And.ensures.lookup.1 in
    subst (IsPartOf c.args.above c.args.number r) (sym layer) (refl, at, c.in_ok-sum-in-And.ensures)

pub returns-in_ok-get-in-Or : goal.returns-in_ok-get-in-Or
returns-in_ok-get-in-Or c =
    let parts = c.in-Or.parts in
    let r : Reached = record { formula = c.in_ok-get-in-Or.field-0; fact = c.args.above.first; said = None } in
    let layer : out-Formula c.args.above.formula.now ≡ Formula-F.Or parts = ap out-Formula c.in-Or.is ∙ f.outs-Or parts in
    let at : slice_get parts c.args.above.way ≡ Some c.in_ok-get-in-Or.field-0.now =
    sym (ap (λ xs. slice_get xs c.args.above.way) c.as_slice-in-Or.ensures)
    ∙ slice_get_read c.as_slice-in-Or.result.now (length c.as_slice-in-Or.result.now) c.args.above.way c.in_ok-get-in-Or.field-0.now refl c.in_ok-get-in-Or.ensures.lookup.3.0
    c.in_ok-get-in-Or.ensures.lookup.1 in
    subst (IsPartOf c.args.above c.args.number r) (sym layer) (refl, at, refl)
