use Rattle.std.proofs.Common.{◌≡◌, ◌∙◌, sym, ap, refl, length}
use Rattle.std.proofs.lemmas.Option.{slice_get_read, slice_get_past}
use Rattle.std.specs.Prelude.{Some, None, slice_get}
use Rattle.proof_cert.proofs.Paths.{none_of, none_at, found_at, other_at}
use Rattle.proof_cert.proofs.path.Path.find.Goals as goal

pub returns-in_err-place : goal.returns-in_err-place
returns-in_err-place c =
    let splits = c.args.self.now.splits.items in
    let places = c.args.self.now.places.items in
    let past : slice_get places c.args.clause ≡ None =
    sym (ap (λ xs. slice_get xs c.args.clause) c.deref.ensures.value) ∙ slice_get_past c.deref.result.now c.args.clause c.in_err-place.ensures.lookup.3 in
    c.from_residual.ensures ∙ sym (none_of splits places c.requires c.args.clause (λ place at. cc))

pub returns-in_err-opened : goal.returns-in_err-opened
returns-in_err-opened c =
    let splits = c.args.self.now.splits.items in
    let places = c.args.self.now.places.items in
    let place = c.in_ok-place.field-0.now in
    let kept : slice_get places c.args.clause ≡ Some place =
    sym (ap (λ xs. slice_get xs c.args.clause) c.deref.ensures.value)
    ∙ slice_get_read c.deref.result.now (length c.deref.result.now) c.args.clause place refl c.in_ok-place.ensures.lookup.3.0 c.in_ok-place.ensures.lookup.1 in
    let past : slice_get splits place ≡ None =
    sym (ap (λ xs. slice_get xs place) c.deref-2.ensures.value) ∙ slice_get_past c.deref-2.result.now place c.in_err-opened.ensures.lookup.3 in
    c.from_residual-in_err-opened.ensures ∙ sym (none_at splits places c.requires c.args.clause place kept past)

pub returns-then-opened-clause : goal.returns-then-opened-clause
returns-then-opened-clause c =
    let splits = c.args.self.now.splits.items in
    let places = c.args.self.now.places.items in
    let place = c.in_ok-place.field-0.now in
    let kept : slice_get places c.args.clause ≡ Some place =
    sym (ap (λ xs. slice_get xs c.args.clause) c.deref.ensures.value)
    ∙ slice_get_read c.deref.result.now (length c.deref.result.now) c.args.clause place refl c.in_ok-place.ensures.lookup.3.0 c.in_ok-place.ensures.lookup.1 in
    let at : slice_get splits place ≡ Some c.in_ok-opened.field-0.now =
    sym (ap (λ xs. slice_get xs place) c.deref-2.ensures.value)
    ∙ slice_get_read c.deref-2.result.now (length c.deref-2.result.now) place c.in_ok-opened.field-0.now refl c.in_ok-opened.ensures.lookup.3.0 c.in_ok-opened.ensures.lookup.1 in
    sym (found_at splits places c.requires c.args.clause place c.in_ok-opened.field-0.now kept at c.if-opened-clause.true)

pub returns-else-opened-clause : goal.returns-else-opened-clause
returns-else-opened-clause c =
    let splits = c.args.self.now.splits.items in
    let places = c.args.self.now.places.items in
    let place = c.in_ok-place.field-0.now in
    let kept : slice_get places c.args.clause ≡ Some place =
    sym (ap (λ xs. slice_get xs c.args.clause) c.deref.ensures.value)
    ∙ slice_get_read c.deref.result.now (length c.deref.result.now) c.args.clause place refl c.in_ok-place.ensures.lookup.3.0 c.in_ok-place.ensures.lookup.1 in
    let at : slice_get splits place ≡ Some c.in_ok-opened.field-0.now =
    sym (ap (λ xs. slice_get xs place) c.deref-2.ensures.value)
    ∙ slice_get_read c.deref-2.result.now (length c.deref-2.result.now) place c.in_ok-opened.field-0.now refl c.in_ok-opened.ensures.lookup.3.0 c.in_ok-opened.ensures.lookup.1 in
    sym (other_at splits places c.requires c.args.clause place c.in_ok-opened.field-0.now kept at c.if-opened-clause.false)
