-- The makers of row terms, by their numbers.
use Rattle.std.proofs.Common.{◌≡◌, ◌∙◌, sym, ap, subst, ℕ, List, map}
use Rattle.std.proofs.lemmas.Option.{same_Some}
use Rattle.std.specs.Prelude.{Some}
use Rattle.sorted_skolem.specs.declared.term.RowTerm.{RowTerm}
use Rattle.instantiate.specs.declared.problem.Problem.{Problem}
use Rattle.instantiate.specs.Ground.{maker_of}
use Rattle.instantiate.specs.Hanging.{keys_of_problem, IsMaker, Hanging}
use Rattle.instantiate.specs.Keys.{number_of}
use Rattle.instantiate.proofs.Layers.{at_map, map_at}
use Rattle.proof_cert.specs.inner.Paths.{AreMakers}

abbrev numbered : Problem → RowTerm → ℕ
numbered problem t = number_of (keys_of_problem problem) (maker_of t)

pub makers_are : (problem : Problem) → Hanging problem → (makers : List ℕ) → makers ≡ map (λ (t : RowTerm). number_of (keys_of_problem problem) (maker_of t)) problem.rows.terms → AreMakers problem makers
makers_are problem hanging makers same = subst (AreMakers problem) (sym same) (record {
  is = λ row maker at.
      let found = map_at (numbered problem) problem.rows.terms row maker at in
      let own = hanging.makers row found.0 found.1 in
      let one : own.1.term ≡ found.0 = same_Some own.1.term found.0 (sym own.1.is_term ∙ found.1) in
      let e : own.0 ≡ maker = sym own.1.is_number ∙ (ap (numbered problem) one ∙ found.2) in
      (found.0.table, subst (λ m. IsMaker problem row m found.0.table) e own.1);
  all = λ row maker table is. at_map (numbered problem) problem.rows.terms row is.term is.is_term ∙ ap (λ n. Some n) is.is_number;
})
