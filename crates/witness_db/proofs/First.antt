-- The clause of the first sentence is clause 0.
use Rattle.std.proofs.Common.{◌≡◌, ◌∙◌, sym, ap, refl, ℕ, ◌≤◌, List, [], length, arith}
use Rattle.std.proofs.lemmas.Option.{slice_get-map}
use Rattle.std.specs.Prelude.{Some, slice_get}
use Rattle.std.specs.Option.{option_map}
use Rattle.sort_formula.specs.declared.formula.Formula.{Formula}
use Rattle.sort_formula.specs.declared.formula.Formula.TheOpen.{Formula-F}
use Rattle.sorted_skolem.specs.Preorder.{nodes_of, outlines_of}
use Rattle.sorted_skolem.proofs.Parts.{root_of, at_root}
use Rattle.instantiate.specs.declared.problem.Problem.{Problem}
use Rattle.instantiate.specs.Plain.{StandsPlain}
use Rattle.instantiate.proofs.Numbering.{number, number_at}
use Rattle.instantiate.proofs.Positions.{key_number}

pub first_clause : (problem : Problem) (formula : Formula) → slice_get problem.sentences 0 ≡ Some formula →
    (clause : ℕ) (layer : Formula-F Formula) → StandsPlain problem 0 0 clause layer [] → clause ≡ 0
first_clause problem formula at clause layer is =
    let outlines = outlines_of problem.sentences in
    let order : List ℕ = problem.order.tables in
    let terms = problem.rows.terms in
    let low : 0 ≤ length order = omega arith in
    sym (number_at outlines order terms clause is.stands.key is.stands.is_key)
    ∙ (ap (number outlines order terms) is.is_own
    ∙ key_number outlines order terms 0 0 0 (nodes_of formula) (root_of formula) []
    (slice_get-map nodes_of problem.sentences 0 ∙ ap (option_map nodes_of) at) (at_root formula) low refl)
