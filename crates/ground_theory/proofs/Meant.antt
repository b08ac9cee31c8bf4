-- What numbers that meet the listed edges say of the literals.
use Rattle.std.proofs.Common.{◌≡◌, ◌∙◌, sym, ap, refl, subst, ℕ, ℤ, pos, neg_ℤ, ◌+ℤ◌, ◌-ℤ◌, ◌≤ℤ◌, ◌<◌, ◌+◌, true, List, [], ◌∷◌, ◌++◌, length, map, arith}
use Rattle.std.specs.Prelude.{Option, Some, slice_get, nat_eq, if◌then◌else◌}
use Rattle.std.specs.List.{Contains}
use Rattle.std.proofs.lemmas.Bool.{eq-eqb}
use Rattle.std.proofs.lemmas.Int.{ints}
use Rattle.std.proofs.lemmas.List.{get_or-map, length-map}
use Rattle.std.proofs.lemmas.List.Elements.{Contains-append_left, Contains-append_right}
use Rattle.std.proofs.lemmas.Option.{slice_get-get_or}
use Rattle.diff_bounds.specs.System.{Holds, value_in}
use Rattle.lint_core.specs.declared.certificate.SumEdge.TheVariants as edge
use Rattle.lint_core.specs.declared.schema.Domain.TheVariants as domain
use Rattle.sort_formula.specs.declared.formula.Side.{Side}
use Rattle.sort_formula.specs.declared.formula.Atom.{Atom}
use Rattle.sort_formula.specs.declared.formula.Atom.TheVariants as atom
use Rattle.ground_theory.specs.declared.joining.Join.{Join}
use Rattle.ground_theory.specs.declared.literal.Frame.{Frame}
use Rattle.ground_theory.specs.declared.literal.Literal.{Literal}
use Rattle.ground_theory.specs.declared.numbering.Cell.{Cell}
use Rattle.ground_theory.specs.declared.numbers.Stated.{Stated}
use Rattle.ground_theory.specs.declared.sifting.Bound.{Bound}
use Rattle.ground_theory.specs.Assignments.{domains_at}
use Rattle.ground_theory.specs.inner.Counted.{edge_in, AreNumbers}
use Rattle.ground_theory.specs.inner.Joining.{label_at}
use Rattle.ground_theory.specs.inner.Numbering.{number_at}
use Rattle.ground_theory.specs.inner.Sifting.{gathered, bound_of, cell_of}
use Rattle.ground_theory.specs.inner.Sums.{told, variable_of, bound_stated, ranges, range_of, low_stated, high_stated, equal_stated, same_at, same_between, join_stated}
use Rattle.ground_theory.proofs.Gathering.{gathered_has}
use Rattle.ground_theory.proofs.Telling.{told_has}

module _ (frame : Frame) (literals : List Literal) (labels : List ℕ) (places : List (Option ℕ)) (cells : List Cell) (bounds : List Bound) (joins : List Join)
    (bounds_are : bounds ≡ gathered bound_of 0 literals) (vars : ℕ) (values : List ℤ) where
  abbrev first : List Stated
  first = told (bound_stated places) 0 bounds

  abbrev second : List Stated
  second = told (range_of frame labels) 0 cells

  abbrev third : List Stated
  third = told (join_stated frame places) 0 joins

  module _ (are : AreNumbers vars (first ++ (second ++ third)) values) where
    abbrev value : ℕ → ℤ
    value = value_in values

    -- the numbers meet each edge
    met : (s : Stated) → Contains (first ++ (second ++ third)) s → Holds value s.edge
    met s there =
        let all : List Stated = first ++ (second ++ third) in
        let h : there.0 < length (map edge_in all) = (let l = length-map all edge_in in let b : there.0 < length all = there.1 in omega arith) in
        subst (Holds value) (get_or-map edge_in all there.0 s s.edge there.1 ∙ ap edge_in there.2) (are.satisfied there.0 s.edge h)

    -- a Le holds of its variables
    pub le_meant : (k : ℕ) (l : Literal) (left right : Side) (most : ℤ) → slice_get literals k ≡ Some l → l.atom ≡ atom.Le left right most →
        value (variable_of places (cell_of left)) ≤ℤ (value (variable_of places (cell_of right)) +ℤ most)
    le_meant k l left right most at is =
        let b : Bound = record { fact = k; left = cell_of left; right = cell_of right; most = most } in
        let s : Stated = record { origin = edge.Fact k; edge = record { left = variable_of places (cell_of left); right = variable_of places (cell_of right); most = most } } in
        let zero_k : k ≡ 0 + k = omega arith in
        let told_b : Contains (bound_of (0 + k) l.atom) b = subst (λ (n : ℕ). Contains (bound_of n l.atom) b) zero_k (subst (λ (a : Atom). Contains (bound_of k a) b) (sym is) (0, (let h : 0 < 1 = omega arith in h), refl)) in
        let listed : Contains bounds b = subst (λ (bs : List Bound). Contains bs b) (sym bounds_are) (gathered_has bound_of literals 0 k l b at told_b) in
        let place : slice_get bounds listed.0 ≡ Some b = slice_get-get_or bounds listed.0 b listed.1 ∙ ap Some listed.2 in
        met s (Contains-append_left first (second ++ third) s (told_has (bound_stated places) bounds 0 listed.0 b s place (0, (let h : 0 < 1 = omega arith in h), refl)))

    -- the number of a cell in the row term that names its class is of its domain
    pub range_meant : (n : ℕ) (cell : Cell) (least greatest : ℤ) (unit : _) → slice_get cells n ≡ Some cell → label_at labels cell.row ≡ cell.row →
        slice_get (domains_at frame cell.row) cell.column ≡ Some (domain.Number least greatest unit) →
        (least ≤ℤ (value (n + 1) -ℤ value 0)) × ((value (n + 1) -ℤ value 0) ≤ℤ greatest)
    range_meant n cell least greatest unit at own dom =
        let both : List Stated = low_stated cell (n + 1) least ∷ high_stated cell (n + 1) greatest ∷ [] in
        let test : nat_eq (label_at labels cell.row) cell.row ≡ true = eq-eqb (label_at labels cell.row) cell.row own in
        let is : range_of frame labels n cell ≡ both =
        ap (λ b. if b then ranges cell (n + 1) (slice_get (domains_at frame cell.row) cell.column) else []) test ∙ ap (ranges cell (n + 1)) dom in
        let zero_n : n ≡ 0 + n = omega arith in
        let in_second : (s : Stated) → Contains both s → Contains (first ++ (second ++ third)) s =
        λ s there. Contains-append_right first (second ++ third) s (Contains-append_left second third s
        (told_has (range_of frame labels) cells 0 n cell s at (subst (λ (m : ℕ). Contains (range_of frame labels m cell) s) zero_n (subst (λ (ss : List Stated). Contains ss s) (sym is) there)))) in
        let low = met (low_stated cell (n + 1) least) (in_second (low_stated cell (n + 1) least) (0, (let h : 0 < 2 = omega arith in h), refl)) in
        let high = met (high_stated cell (n + 1) greatest) (in_second (high_stated cell (n + 1) greatest) (1, (let h : 1 < 2 = omega arith in h), refl)) in
        plain (value 0) (value (n + 1)) least greatest low high
      where
        plain : (z v least greatest : ℤ) → z ≤ℤ (v +ℤ neg_ℤ least) → v ≤ℤ (z +ℤ greatest) → (least ≤ℤ (v -ℤ z)) × ((v -ℤ z) ≤ℤ greatest)
        plain z v least greatest low high = (omega (arith, ints), omega (arith, ints))

    -- the numbers are the same in rows that a join says are one
    pub join_meant : (k : ℕ) (j : Join) (column n m : ℕ) (least greatest : ℤ) (unit : _) → slice_get joins k ≡ Some j →
        slice_get (domains_at frame j.row) column ≡ Some (domain.Number least greatest unit) → number_at places j.row column ≡ Some n → number_at places j.other column ≡ Some m →
        value (n + 1) ≡ value (m + 1)
    join_meant k j column n m least greatest unit at dom left right =
        let forth : Stated = equal_stated (edge.Same j.fact column) (n + 1) (m + 1) in
        let back : Stated = equal_stated (edge.Back j.fact column) (m + 1) (n + 1) in
        let both : List Stated = forth ∷ back ∷ [] in
        let is : same_between j column (number_at places j.row column) (number_at places j.other column) ≡ both =
        ap (λ o. same_between j column o (number_at places j.other column)) left ∙ ap (same_between j column (Some n)) right in
        let zero_c : column ≡ 0 + column = omega arith in
        let in_third : (s : Stated) → Contains both s → Contains (first ++ (second ++ third)) s =
        λ s there. Contains-append_right first (second ++ third) s (Contains-append_right second third s
        (told_has (join_stated frame places) joins 0 k j s at
        (told_has (same_at places j) (domains_at frame j.row) 0 column (domain.Number least greatest unit) s dom
        (subst (λ (c : ℕ). Contains (same_at places j c (domain.Number least greatest unit)) s) zero_c (subst (λ (ss : List Stated). Contains ss s) (sym is) there))))) in
        plain (value (n + 1)) (value (m + 1)) (met forth (in_third forth (0, (let h : 0 < 2 = omega arith in h), refl))) (met back (in_third back (1, (let h : 1 < 2 = omega arith in h), refl)))
      where
        plain : (a b : ℤ) → a ≤ℤ (b +ℤ pos 0) → b ≤ℤ (a +ℤ pos 0) → a ≡ b
        plain a b forth back = omega (arith, ints)
