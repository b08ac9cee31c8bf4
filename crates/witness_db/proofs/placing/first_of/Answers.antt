use Rattle.std.proofs.Common.{◌≡◌, ◌∙◌, sym, ap, true}
use Rattle.std.proofs.lemmas.Bool.{and_from}
use Rattle.std.specs.Prelude.{slice_get, unwrap_or}
use Rattle.ground_theory.specs.Assignments.{are_one}
use Rattle.witness_db.specs.inner.Placing.{is_there, is_alike}
use Rattle.insert_lines.proofs.FirstFound.{first_found}
use Rattle.witness_db.proofs.placing.first_of.Goals as goal

pub returns-then-are_one-clause-first : goal.returns-then-are_one-clause-first
returns-then-are_one-clause-first c =
    let there = is_there c.args.present.now in
    let one = are_one c.args.assignment.now in
    let row = c.args.row in
    let other = c.loop-other.other in
    let passes : is_alike there one row other ≡ true = and_from (there other) (one row other) (sym c.is_there.ensures ∙ c.if-is_there.true) (sym c.are_one.ensures ∙ c.if-are_one.true) in
    let found = first_found (is_alike there one row) other row c.loop-other.invariant passes c.loop-other-test.true in
    sym (ap (λ ks. unwrap_or (slice_get ks 0) row) found.1)
