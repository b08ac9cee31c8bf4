-- In the database of a full case each formula whose clause is taken holds at the places of its row terms.
use Rattle.std.proofs.Common.{◌≡◌, ◌∙◌, sym, ap, ap₂, refl, subst, ℕ, zero, suc, ◌+◌, ◌-◌, ◌<◌, Bool, true, false, not, ◌&&◌, List, [], ◌∷◌, ◌++◌, length, map, take, arith}
use Rattle.std.proofs.lemmas.Bool.{and_parts, and_from, or_left, or_right, eqb-true}
use Rattle.std.proofs.lemmas.Bool.Decides.{nat_tests}
use Rattle.std.proofs.lemmas.List.{length-map, map-append}
use Rattle.std.proofs.lemmas.List.Folds.{list_all-append, list_all-map}
use Rattle.std.proofs.lemmas.Option.{same_Some, slice_get_within}
use Rattle.std.specs.Prelude.{Option, Some, None, slice_get, nat_lt, nat_eq, option_and_then, unwrap_or, is_some, if◌then◌else◌}
use Rattle.std.specs.List.{list_all, list_any, AllByRecursion}
use Rattle.std.specs.Option.{option_map_or}
use Rattle.lint_core.specs.declared.database.Database.{Database}
use Rattle.lint_core.specs.declared.database.Row.{Row}
use Rattle.lint_core.specs.declared.database.Value.{Value}
use Rattle.lint_core.specs.declared.database.Value.TheVariants.{Null}
use Rattle.lint_core.specs.Database.{Place, rows_of, below, value_at}
use Rattle.lint_base.proofs.Lists.{any_map, below_true, true_below}
use Rattle.lint_core.proofs.Lists.{any_below}
use Rattle.sort_formula.specs.declared.formula.Atom.{Atom}
use Rattle.sort_formula.specs.declared.formula.Formula.{Formula, out-Formula, ind-Formula, roll-Formula, out-roll-Formula, fold-roll-Formula, map-Formula}
use Rattle.sort_formula.specs.declared.formula.Formula.TheOpen.{Formula-F}
use Rattle.sort_formula.specs.declared.formula.Atom.TheVariants as atom
use Rattle.sort_formula.specs.declared.formula.Side.{Side}
use Rattle.sort_formula.specs.declared.formula.Side.TheVariants as side
use Rattle.sort_formula.specs.Holds.{Meaning, holds, atom_holds, formula_step, cell_value, side_value, differ_by_at_most, are_texts, is_same_place}
use Rattle.sort_formula.specs.Placed.{placed_row, placed_side, placed_atom}
use Rattle.sort_formula.specs.Variables.{side_is_below, atom_is_below}
use Rattle.lint_core.specs.Comparison.{is_null}
use Rattle.std.specs.Cmp.{both_ways}
use Rattle.sorted_skolem.specs.declared.term.RowTerm.{RowTerm}
use Rattle.ground_theory.specs.declared.literal.Assignment.{Assignment}
use Rattle.ground_theory.specs.declared.literal.Clause.{Clause}
use Rattle.ground_theory.specs.declared.literal.Guard.{Guard}
use Rattle.ground_theory.specs.declared.literal.Literal.{Literal}
use Rattle.ground_theory.specs.Assignments.{IsAssignment, cells_at, cell_at, side_at, satisfies, satisfies_all, are_one}
use Rattle.case_split.specs.Choices.{Choices, takes, is_chosen, is_reached, is_way, is_pass, literals_of, literal_of}
use Rattle.case_split.specs.Cases.{IsFullCase}
use Rattle.ground_theory.specs.Forward.{guards_before}
use Rattle.sorted_skolem.specs.Preorder.{Node, outlines_of, node_at}
use Rattle.case_split.proofs.Closed.{choice_at, way_taken, literal_passes, forward_at}
use Rattle.ground_theory.proofs.Moving.{passes}
use Rattle.case_split.proofs.Places.{there as standing}
use Rattle.instantiate.specs.declared.problem.Problem.{Problem}
use Rattle.instantiate.specs.Cases.{is_taken, is_present, IsCells, IsDatabaseOf, places_at}
use Rattle.instantiate.specs.Ground.{ways_in, maker_of, variables_of}
use Rattle.instantiate.specs.Keys.{number_of, Key}
use Rattle.instantiate.specs.Hanging.{StandsAt, IsMaker, IsRoot, AreParts, Hanging, guards_at, at_way, keys_of_problem, Below, HangsBelow, root as rooted, below as under, inside}

take_get : {A : Type 0} (xs : List A) (n i : ℕ) (x : A) → slice_get (take n xs) i ≡ Some x → slice_get xs i ≡ Some x
take_get xs zero i x at = cc
take_get [] (suc n) i x at = cc
take_get (y ∷ ys) (suc n) zero x at = at
take_get (y ∷ ys) (suc n) (suc i) x at = take_get ys n i x at

same_number : (m n : ℕ) → m ≡ n → nat_eq m n ≡ true
same_number m n same = grind (arith, nat_tests)

-- where a way is chosen, it is one of the clause's, and the guards are reached
legal_is_way : (reached : Bool) (c : Clause) (way : ℕ) → (if reached then is_way c (Some way) else is_pass (Some way)) ≡ true → nat_lt way (length c.ways) ≡ true
legal_is_way true c way is = is
legal_is_way false c way is = cc

legal_is_reached : (reached : Bool) (c : Clause) (way : ℕ) → (if reached then is_way c (Some way) else is_pass (Some way)) ≡ true → reached ≡ true
legal_is_reached true c way is = refl
legal_is_reached false c way is = cc

-- numbers below another
all_below : (p : ℕ → Bool) (n : ℕ) → ((k : ℕ) → k < n → p k ≡ true) → list_all p (below n) ≡ true
all_below p zero each = refl
all_below p (suc n) each =
    list_all-append p (below n) (n ∷ [])
    ∙ and_from (list_all p (below n)) (p n && true) (all_below p n (λ k low. each k (omega arith))) (and_from (p n) true (each n (omega arith)) refl)

module _ (problem : Problem) (hanging : Hanging problem) (choices : Choices) (full : IsFullCase problem.clauses problem.frame choices)
    (a : Assignment) (is_assignment : IsAssignment problem.frame a) (satisfied : satisfies_all a (literals_of problem.clauses choices) ≡ true)
    (db : Database) (places : List (Option ℕ)) (is_database : IsDatabaseOf problem choices a db places) where
  -- ---- choices

  abbrev pub Taken : ℕ → Type 0
  Taken clause = (way : ℕ) × (slice_get choices clause ≡ Some (Some way))

  -- the way that is taken is one of the clause's
  pub legal_way : (clause way : ℕ) (c : Clause) → slice_get problem.clauses clause ≡ Some c → slice_get choices clause ≡ Some (Some way) → nat_lt way (length c.ways) ≡ true
  legal_way clause way c at chosen =
      legal_is_way (is_reached (take clause choices) c) c way (choice_at [] problem.clauses choices clause c (Some way) full.case.legal at chosen)

  pub chosen_way : (clause way : ℕ) → slice_get choices clause ≡ Some (Some way) → is_chosen choices (at_way clause way) ≡ true
  chosen_way clause way at = ap (λ o. option_map_or (takes way) o false) at ∙ same_number way way refl

  -- one way: the first
  pub first_way : (clause : ℕ) (layer : Formula-F Formula) (vs : List ℕ) → StandsAt problem clause layer vs → length (ways_in vs layer) ≡ 1 → Taken clause →
      is_chosen choices (at_way clause 0) ≡ true
  first_way clause layer vs stands one taken =
      let c = hanging.listed clause layer vs stands in
      let low : nat_lt taken.0 (length c.0.ways) ≡ true = legal_way clause taken.0 c.0 c.1 taken.1 in
      let count : length c.0.ways ≡ 1 = ap length c.2 ∙ one in
      let none : taken.0 ≡ 0 = grind (arith, nat_tests) in
      chosen_way clause 0 (taken.1 ∙ ap (λ n. Some (Some n)) none)

  -- a clause whose guards are chosen is taken
  pub taken_by : (clause : ℕ) (layer : Formula-F Formula) (vs : List ℕ) → StandsAt problem clause layer vs → list_all (is_chosen choices) (guards_at problem clause) ≡ true → Taken clause
  taken_by clause layer vs stands chosen =
      let c = hanging.listed clause layer vs stands in
      let same : guards_at problem clause ≡ c.0.guards = ap (λ o. option_map_or (λ (x : Clause). x.guards) o []) c.1 in
      let way = way_taken problem.clauses problem.frame hanging.forward choices full clause c.0 c.1 (subst (λ (gs : List Guard). list_all (is_chosen choices) gs ≡ true) same chosen) in
      (way.0, way.1)

  pub one_chosen : (g : Guard) (gs : List Guard) → gs ≡ g ∷ [] → is_chosen choices g ≡ true → list_all (is_chosen choices) gs ≡ true
  one_chosen g gs is chosen = ap (list_all (is_chosen choices)) is ∙ and_from (is_chosen choices g) true chosen refl

  two_chosen : (g h : Guard) (gs : List Guard) → gs ≡ g ∷ h ∷ [] → is_chosen choices g ≡ true → is_chosen choices h ≡ true → list_all (is_chosen choices) gs ≡ true
  two_chosen g h gs is one other =
      ap (list_all (is_chosen choices)) is ∙ and_from (is_chosen choices g) (is_chosen choices h && true) one (and_from (is_chosen choices h) true other refl)

  -- ---- rows

  abbrev pub IsThere : ℕ → Type 0
  IsThere row = (is_present problem choices row ≡ true) × ((t : RowTerm) × (slice_get problem.rows.terms row ≡ Some t))

  abbrev AreThere : List ℕ → Type 0
  AreThere rows = AllByRecursion IsThere rows

  abbrev rows_at : List ℕ → List Place
  rows_at rows = places_at problem.rows.terms places rows

  there_last : (rows : List ℕ) (row : ℕ) → AreThere rows → IsThere row → AreThere (rows ++ row ∷ [])
  there_last [] row all one = (one, tt)
  there_last (r ∷ rows) row all one = (all.0, there_last rows row all.1 one)

  -- the row of an Exists that is taken is there
  pub made_there : (row maker table : ℕ) → IsMaker problem row maker table → Taken maker → IsThere row
  made_there row maker table is taken =
      let at : slice_get choices (number_of (keys_of_problem problem) (maker_of is.term)) ≡ Some (Some taken.0) = ap (slice_get choices) is.is_number ∙ taken.1 in (
        ap (λ o. option_map_or (λ (t : RowTerm). is_taken problem choices (maker_of t)) o false) is.is_term
            ∙ ap (λ o. unwrap_or (option_and_then (λ (c : Option ℕ). Some (is_some c)) o) false) at,
        (is.term, is.is_term),
      )

  taken_if : (o : Option (Option ℕ)) → unwrap_or (option_and_then (λ (c : Option ℕ). Some (is_some c)) o) false ≡ true → (way : ℕ) × (o ≡ Some (Some way))
  taken_if None is = cc
  taken_if (Some None) is = cc
  taken_if (Some (Some way)) is = (way, refl)

  -- the Exists of a row that is there is taken
  pub maker_taken : (row maker table : ℕ) → IsMaker problem row maker table → is_present problem choices row ≡ true → Taken maker
  maker_taken row maker table is present =
      let now : is_taken problem choices (maker_of is.term) ≡ true = sym (ap (λ o. option_map_or (λ (t : RowTerm). is_taken problem choices (maker_of t)) o false) is.is_term) ∙ present in
      let at = taken_if (slice_get choices (number_of (keys_of_problem problem) (maker_of is.term))) now in
      (at.0, sym (ap (slice_get choices) is.is_number) ∙ at.1)

  -- the place of a row that is there
  place_is : (row : ℕ) (t : RowTerm) (at : ℕ) → slice_get problem.rows.terms row ≡ Some t → slice_get places row ≡ Some (Some at) →
      rows_at (row ∷ []) ≡ record { table = t.table; row = at } ∷ []
  place_is row t at is_term is_place =
      ap₂ (λ (o : Option RowTerm) (p : Option (Option ℕ)).
      record { table = option_map_or (λ (t : RowTerm). t.table) o 0; row = unwrap_or (option_and_then (λ o. o) p) 0 } ∷ []) is_term is_place

  rows_last : (rows : List ℕ) (row : ℕ) → rows_at (rows ++ row ∷ []) ≡ rows_at rows ++ rows_at (row ∷ [])
  rows_last rows row = map-append _ rows (row ∷ [])

  -- ---- formulas

  abbrev Stands : Formula → Type 0
  Stands g = (clause : ℕ) (vs : List ℕ) → StandsAt problem clause (out-Formula g) vs → Taken clause → AreThere vs → holds db g (rows_at vs) ≡ true

  abbrev Part : Type 0
  Part = (g : Formula) × Stands g

  abbrev formulas : List Part → List Formula
  formulas parts = map (λ (part : Part). part.0) parts

  abbrev LayerStands : Formula-F Formula → Type 0
  LayerStands y = (clause : ℕ) (vs : List ℕ) → StandsAt problem clause y vs → Taken clause → AreThere vs → formula_step db (map-Formula Formula (Meaning db) (holds db) y) (rows_at vs) ≡ true

  each_part : (guard : ℕ → Guard) (i : ℕ) (vs : List ℕ) (parts : List Part) (cs : List ℕ) → AreParts problem guard i vs (formulas parts) cs → ((j : ℕ) → is_chosen choices (guard j) ≡ true) → AreThere vs →
      list_all (λ (m : Meaning db). m (rows_at vs)) (map (holds db) (formulas parts)) ≡ true
  each_part guard i vs [] cs are chosen there = refl
  each_part guard i vs (part ∷ parts) [] are chosen there = absurd are
  each_part guard i vs (part ∷ parts) (c ∷ cs) are chosen there =
      and_from (holds db part.0 (rows_at vs)) (list_all (λ (m : Meaning db). m (rows_at vs)) (map (holds db) (formulas parts)))
      (part.1 c vs are.0 (taken_by c (out-Formula part.0) vs are.0 (one_chosen (guard i) (guards_at problem c) are.1 (chosen i))) there)
      (each_part guard (suc i) vs parts cs are.2 chosen there)

  some_part : (clause i way : ℕ) (vs : List ℕ) (parts : List Part) (cs : List ℕ) → AreParts problem (at_way clause) i vs (formulas parts) cs → way < length parts →
      is_chosen choices (at_way clause (i + way)) ≡ true → AreThere vs → list_any (λ (m : Meaning db). m (rows_at vs)) (map (holds db) (formulas parts)) ≡ true
  some_part clause i way vs [] cs are low chosen there = absurd (omega arith)
  some_part clause i way vs (part ∷ parts) [] are low chosen there = absurd are
  some_part clause i zero vs (part ∷ parts) (c ∷ cs) are low chosen there =
      let same : i + 0 ≡ i = omega arith in
      or_left (holds db part.0 (rows_at vs)) (list_any (λ (m : Meaning db). m (rows_at vs)) (map (holds db) (formulas parts)))
      (part.1 c vs are.0 (taken_by c (out-Formula part.0) vs are.0
      (one_chosen (at_way clause i) (guards_at problem c) are.1 (subst (λ n. is_chosen choices (at_way clause n) ≡ true) same chosen))) there)
  some_part clause i (suc way) vs (part ∷ parts) (c ∷ cs) are low chosen there =
      let same : i + suc way ≡ suc i + way = omega arith in
      or_right (holds db part.0 (rows_at vs)) (list_any (λ (m : Meaning db). m (rows_at vs)) (map (holds db) (formulas parts)))
      (some_part clause (suc i) way vs parts cs are.2 (omega arith) (subst (λ n. is_chosen choices (at_way clause n) ≡ true) same chosen) there)

  of_and : (parts : List Part) → LayerStands (Formula-F.And (formulas parts))
  of_and parts clause vs stands taken there =
      let hung = hanging.below clause (Formula-F.And (formulas parts)) vs stands in
      each_part (λ j. at_way clause 0) 0 vs parts hung.clauses hung.are (λ j. first_way clause (Formula-F.And (formulas parts)) vs stands refl taken) there

  none_of : Part → Option Literal
  none_of part = None

  of_or : (parts : List Part) → LayerStands (Formula-F.Or (formulas parts))
  of_or parts clause vs stands taken there =
      let hung = hanging.below clause (Formula-F.Or (formulas parts)) vs stands in
      let c = hanging.listed clause (Formula-F.Or (formulas parts)) vs stands in
      let legal : nat_lt taken.0 (length c.0.ways) ≡ true = legal_way clause taken.0 c.0 c.1 taken.1 in
      let count : length c.0.ways ≡ length (formulas parts) = ap length c.2 ∙ length-map (formulas parts) _ in
      let count' : length (formulas parts) ≡ length parts = length-map parts _ in
      let low : taken.0 < length parts = grind (arith, nat_tests) in
      let same : taken.0 ≡ 0 + taken.0 = omega arith in
      some_part clause 0 taken.0 vs parts hung.clauses hung.are low (subst (λ n. is_chosen choices (at_way clause n) ≡ true) same (chosen_way clause taken.0 taken.1)) there

  abbrev place_in : ℕ → ℕ → Place
  place_in table row = record { table = table; row = row }

  of_exists : (table : ℕ) (body : Part) → LayerStands (Formula-F.Exists table body.0)
  of_exists table body clause vs stands taken there =
      let hung = hanging.below clause (Formula-F.Exists table body.0) vs stands in
      let row = made_there hung.row clause table hung.is_maker taken in
      let t : RowTerm = row.1.0 in
      let at = is_database.present hung.row t row.1.1 row.0 in
      let same_term : t ≡ hung.is_maker.term = same_Some t hung.is_maker.term (sym row.1.1 ∙ hung.is_maker.is_term) in
      let same_table : t.table ≡ table = ap (λ (t : RowTerm). t.table) same_term ∙ hung.is_maker.is_table in
      let place : Place = record { table = table; row = at.0 } in
      let rows_are : rows_at (vs ++ hung.row ∷ []) ≡ rows_at vs ++ place ∷ [] =
      rows_last vs hung.row ∙ ap (λ ps. rows_at vs ++ ps) (place_is hung.row t at.0 row.1.1 at.1 ∙ ap (λ n. record { table = n; row = at.0 } ∷ []) same_table) in
      let body_taken = taken_by hung.clause (out-Formula body.0) (vs ++ hung.row ∷ []) hung.stands
      (one_chosen (at_way clause 0) (guards_at problem hung.clause) hung.guards (first_way clause (Formula-F.Exists table body.0) vs stands refl taken)) in
      let here : holds db body.0 (rows_at vs ++ place ∷ []) ≡ true =
      subst (λ ps. holds db body.0 ps ≡ true) rows_are (body.1 hung.clause (vs ++ hung.row ∷ []) hung.stands body_taken (there_last vs hung.row there row)) in
      let count : ℕ = length (rows_of db table) in
      let inside : at.0 < count = subst (λ n. at.0 < length (rows_of db n)) same_table at.2 in
      let low : nat_lt at.0 count ≡ true = grind (arith, nat_tests) in
      any_map (place_in table) (λ place. holds db body.0 (rows_at vs ++ place ∷ [])) (below count)
      ∙ any_below (λ row. holds db body.0 (rows_at vs ++ place_in table row ∷ [])) count at.0 low here

  of_forall : (table : ℕ) (body : Part) → LayerStands (Formula-F.Forall table body.0)
  of_forall table body clause vs stands taken there =
      let hung = hanging.below clause (Formula-F.Forall table body.0) vs stands in
      let count : ℕ = length (rows_of db table) in
      list_all-map (λ place. holds db body.0 (rows_at vs ++ place ∷ [])) (place_in table) (below count)
      ∙ all_below (λ at. holds db body.0 (rows_at vs ++ place_in table at ∷ [])) count
      (λ at low.
      let row = is_database.others table at low in
      let t : RowTerm = row.1.0 in
      let present = is_database.absent row.0 at row.1.3 in
      let maker = hanging.makers row.0 t row.1.1 in
      let is_maker : IsMaker problem row.0 maker.0 table = subst (λ n. IsMaker problem row.0 maker.0 n) row.1.2 maker.1 in
      let one = hung.at_row row.0 maker.0 is_maker in
      let made = first_way maker.0 (Formula-F.Exists table is_maker.body) is_maker.variables is_maker.stands refl (maker_taken row.0 maker.0 table is_maker present) in
      let above = first_way clause (Formula-F.Forall table body.0) vs stands refl taken in
      let body_taken = taken_by one.0 (out-Formula body.0) (vs ++ row.0 ∷ []) one.1 (two_chosen (at_way clause 0) (at_way maker.0 0) (guards_at problem one.0) one.2 above made) in
      let rows_are : rows_at (vs ++ row.0 ∷ []) ≡ rows_at vs ++ place_in table at ∷ [] =
      rows_last vs row.0 ∙ ap (λ ps. rows_at vs ++ ps) (place_is row.0 t at row.1.1 row.1.3 ∙ ap (λ n. place_in n at ∷ []) row.1.2) in
      subst (λ ps. holds db body.0 ps ≡ true) rows_are
      (body.1 one.0 (vs ++ row.0 ∷ []) one.1 body_taken (there_last vs row.0 there (present, (t, row.1.1)))))

  -- ---- atoms

  there_at : (vs : List ℕ) (i : ℕ) → AreThere vs → nat_lt i (length vs) ≡ true → (row : ℕ) × (slice_get vs i ≡ Some row) × IsThere row
  there_at [] i there low = absurd (let e : i < 0 = grind (arith, nat_tests) in omega arith)
  there_at (v ∷ vs) zero there low = (v, refl, there.0)
  there_at (v ∷ vs) (suc i) there low = there_at vs i there.1 (let e : suc i < suc (length vs) = below_true (suc i) (suc (length vs)) low in true_below i (length vs) (omega arith))

  cells_read : (o : Option Row) (column : ℕ) →
      unwrap_or (option_and_then (λ (row : Row). slice_get row.values column) o) Null ≡ unwrap_or (slice_get (option_map_or (λ (row : Row). row.values) o []) column) Null
  cells_read None column = refl
  cells_read (Some row) column = refl

  -- the place of a row that is there, with its cells
  abbrev Placed : ℕ → Type 0
  Placed row = (t : RowTerm) × (slice_get problem.rows.terms row ≡ Some t) × ((at : ℕ) × (slice_get places row ≡ Some (Some at)) × IsCells db (place_in t.table at) (cells_at a row))

  placed : (row : ℕ) → IsThere row → Placed row
  placed row there =
      let at = is_database.present row there.1.0 there.1.1 there.0 in
      (there.1.0, there.1.1, (at.0, at.1, at.3))

  abbrev place_for : ℕ → Place
  place_for row = record { table = option_map_or (λ (t : RowTerm). t.table) (slice_get problem.rows.terms row) 0; row = unwrap_or (option_and_then (λ o. o) (slice_get places row)) 0 }

  place_at : (vs : List ℕ) (i row : ℕ) → slice_get vs i ≡ Some row → (p : Placed row) → slice_get (rows_at vs) i ≡ Some (place_in p.0.table p.2.0)
  place_at [] i row at p = cc
  place_at (v ∷ vs) zero row at p =
      ap (λ r. Some (place_for r)) (same_Some v row at)
      ∙ ap₂ (λ (o : Option RowTerm) (q : Option (Option ℕ)).
      Some (record { table = option_map_or (λ (t : RowTerm). t.table) o 0; row = unwrap_or (option_and_then (λ o. o) q) 0 })) p.1 p.2.1
  place_at (v ∷ vs) (suc i) row at p = place_at vs i row at p

  module _ (vs : List ℕ) (there : AreThere vs) where
    -- a variable's cell is that of its row term
    same_cell : (i column : ℕ) → nat_lt i (length vs) ≡ true → cell_value db (rows_at vs) i column ≡ cell_at a (placed_row vs 0 i) column
    same_cell i column low =
        let r = there_at vs i there low in
        let p = placed r.0 r.2 in
        let at = place_at vs i r.0 r.1 p in
        ap (λ (o : Option Place). unwrap_or (option_and_then (λ place. value_at db place column) o) Null) at
        ∙ (cells_read (slice_get (rows_of db p.0.table) p.2.0) column
        ∙ (ap (λ (cells : List Value). unwrap_or (slice_get cells column) Null) p.2.2
        ∙ sym (ap (λ (o : Option ℕ). cell_at a (unwrap_or o (0 + (i - length vs))) column) r.1)))

    same_side : (s : Side) → side_is_below (length vs) s ≡ true → side_value db (rows_at vs) s ≡ side_at a (placed_side vs 0 s)
    same_side (side.Cell i column) low = same_cell i column low
    same_side side.Zero low = refl
    same_side (side.Text text) low = refl

    one_place : (i j : ℕ) → nat_lt i (length vs) ≡ true → nat_lt j (length vs) ≡ true →
        is_same_place (slice_get (rows_at vs) i) (slice_get (rows_at vs) j) ≡ are_one a (placed_row vs 0 i) (placed_row vs 0 j)
    one_place i j low low' =
        let r = there_at vs i there low in
        let q = there_at vs j there low' in
        let p = placed r.0 r.2 in
        let o = placed q.0 q.2 in
        let one : is_same_place (Some (place_in p.0.table p.2.0)) (Some (place_in o.0.table o.2.0)) ≡ are_one a r.0 q.0 =
        both_ways (nat_eq p.0.table o.0.table && nat_eq p.2.0 o.2.0) (are_one a r.0 q.0)
        (λ same.
        let parts = and_parts (nat_eq p.0.table o.0.table) (nat_eq p.2.0 o.2.0) same in
        (is_database.one r.0 q.0 p.0 o.0 p.2.0 o.2.0 p.1 o.1 (eqb-true p.0.table o.0.table parts.0) p.2.1 o.2.1).0 (eqb-true p.2.0 o.2.0 parts.1))
        (λ same.
        let tables : p.0.table ≡ o.0.table =
        same_Some p.0.table o.0.table (sym (hanging.tables r.0 p.0 p.1) ∙ (is_assignment.tables r.0 q.0 same ∙ hanging.tables q.0 o.0 o.1)) in
        let at : p.2.0 ≡ o.2.0 = (is_database.one r.0 q.0 p.0 o.0 p.2.0 o.2.0 p.1 o.1 tables p.2.1 o.2.1).1 same in
        and_from (nat_eq p.0.table o.0.table) (nat_eq p.2.0 o.2.0) (same_number p.0.table o.0.table tables) (same_number p.2.0 o.2.0 at)) in
        ap₂ is_same_place (place_at vs i r.0 r.1 p) (place_at vs j q.0 q.1 o)
        ∙ (one ∙ sym (ap₂ (λ (x y : Option ℕ). are_one a (unwrap_or x (0 + (i - length vs))) (unwrap_or y (0 + (j - length vs)))) r.1 q.1))

    -- an atom says of the places what its literal says of the row terms
    same_atom : (x : Atom) → atom_is_below (length vs) x ≡ true → atom_holds db (rows_at vs) x ≡ satisfies a (placed_atom vs 0 x)
    same_atom (atom.Le left right most) low =
        let both = and_parts (side_is_below (length vs) left) (side_is_below (length vs) right) low in
        ap₂ (λ v w. differ_by_at_most v w most) (same_side left both.0) (same_side right both.1)
    same_atom (atom.TextEq left right) low =
        let both = and_parts (side_is_below (length vs) left) (side_is_below (length vs) right) low in
        ap₂ (are_texts (λ same. same)) (same_side left both.0) (same_side right both.1)
    same_atom (atom.TextNe left right) low =
        let both = and_parts (side_is_below (length vs) left) (side_is_below (length vs) right) low in
        ap₂ (are_texts not) (same_side left both.0) (same_side right both.1)
    same_atom (atom.IsNull row column) low = ap is_null (same_cell row column low)
    same_atom (atom.NotNull row column) low = ap (λ v. not (is_null v)) (same_cell row column low)
    same_atom (atom.Same row other) low =
        let both = and_parts (nat_lt row (length vs)) (nat_lt other (length vs)) low in
        one_place row other both.0 both.1
    same_atom (atom.Other row other) low =
        let both = and_parts (nat_lt row (length vs)) (nat_lt other (length vs)) low in
        ap not (one_place row other both.0 both.1)

  of_atom : (x : Atom) → LayerStands (Formula-F.Atom x)
  of_atom x clause vs stands taken there =
      let c = hanging.listed clause (Formula-F.Atom x) vs stands in
      let legal : nat_lt taken.0 (length c.0.ways) ≡ true = legal_way clause taken.0 c.0 c.1 taken.1 in
      let count : length c.0.ways ≡ 1 = ap length c.2 in
      let none : taken.0 ≡ 0 = grind (arith, nat_tests) in
      let lit : Literal = record { atom = placed_atom vs 0 x } in
      let is_literal : literal_of c.0 0 ≡ Some lit = ap (λ (ways : List (Option Literal)). option_and_then (λ l. l) (slice_get ways 0)) c.2 in
      same_atom vs there x (hanging.bound clause x vs stands)
      ∙ literal_passes (λ (l : Literal). satisfies a l.atom) problem.clauses choices clause c.0 0 lit c.1 (taken.1 ∙ ap (λ n. Some (Some n)) none) is_literal satisfied

  -- ---- all formulas

  at_layer : (y : Formula-F Part) → LayerStands (map-Formula Part Formula (λ e. e.0) y)
  at_layer (Formula-F.Atom x) = of_atom x
  at_layer (Formula-F.And parts) = of_and parts
  at_layer (Formula-F.Or parts) = of_or parts
  at_layer (Formula-F.Exists table body) = of_exists table body
  at_layer (Formula-F.Forall table body) = of_forall table body

  rolled : (y : Formula-F Formula) → LayerStands y → Stands (roll-Formula y)
  rolled y layer clause vs stands taken there =
      ap (λ (m : Meaning db). m (rows_at vs)) (fold-roll-Formula (Meaning db) (formula_step db) y)
      ∙ layer clause vs (subst (λ (z : Formula-F Formula). StandsAt problem clause z vs) (out-roll-Formula y) stands) taken there

  -- each formula whose clause is taken holds at the places of its row terms
  pub all_stand : (g : Formula) → Stands g
  all_stand = ind-Formula Stands (λ x y is. subst (λ z. Stands (roll-Formula z)) is (rolled (map-Formula Part Formula (λ e. e.0) y) (at_layer y)))

  -- so every sentence whose root is a clause holds
  pub sentences_hold : (sentence clause : ℕ) → (root : IsRoot problem sentence clause) → holds db root.formula [] ≡ true
  sentences_hold sentence clause root =
      all_stand root.formula clause [] root.stands (taken_by clause (out-Formula root.formula) [] root.stands (ap (list_all (is_chosen choices)) root.guards)) tt

  -- every sentence of the problem holds
  pub every_sentence_holds : (sentence : ℕ) (formula : Formula) → slice_get problem.sentences sentence ≡ Some formula → holds db formula [] ≡ true
  every_sentence_holds sentence formula at =
      let root = hanging.roots sentence formula at in
      let same : root.1.formula ≡ formula = same_Some root.1.formula formula (sym root.1.is_sentence ∙ at) in
      subst (λ (g : Formula). holds db g [] ≡ true) same (sentences_hold sentence root.0 root.1)

  -- ---- the row terms of a clause that is taken are there

  variables_one : (clause : ℕ) (y z : Formula-F Formula) (vs ws : List ℕ) → StandsAt problem clause y vs → StandsAt problem clause z ws → vs ≡ ws
  variables_one clause y z vs ws one other =
      let keys : one.key ≡ other.key = same_Some one.key other.key (sym one.is_key ∙ other.is_key) in
      let nodes : one.node ≡ other.node =
      same_Some one.node other.node
      (sym one.is_node ∙ (ap (λ (k : Key). node_at (outlines_of problem.sentences) k.sentence k.node) keys ∙ other.is_node)) in
      sym one.are_variables ∙ (ap₂ (λ (k : Key) (n : Node). variables_of problem.rows.terms k n) keys nodes ∙ other.are_variables)

  -- the way of a guard that is among earlier choices
  earlier_way : (k : ℕ) (g : Guard) → is_chosen (take k choices) g ≡ true → slice_get choices g.clause ≡ Some (Some g.way)
  earlier_way k g chosen =
      let x = passes (takes g.way) (slice_get (take k choices) g.clause) chosen in
      let w = passes (nat_eq g.way) x.0 x.2 in
      take_get choices k g.clause x.0 x.1 ∙ (ap Some w.1 ∙ ap (λ n. Some (Some n)) (sym (eqb-true g.way w.0 w.2)))

  -- the guards of a clause that is taken
  guards_reached : (clause : ℕ) (c : Clause) → slice_get problem.clauses clause ≡ Some c → Taken clause → list_all (is_chosen (take clause choices)) c.guards ≡ true
  guards_reached clause c at taken =
      legal_is_reached (is_reached (take clause choices) c) c taken.0 (choice_at [] problem.clauses choices clause c (Some taken.0) full.case.legal at taken.1)

  guards_earlier : (clause : ℕ) (c : Clause) → slice_get problem.clauses clause ≡ Some c → list_all (λ (g : Guard). nat_lt g.clause clause) c.guards ≡ true
  guards_earlier clause c at = let same : 0 + clause ≡ clause = omega arith in subst (λ n. guards_before n c ≡ true) same (forward_at 0 problem.clauses clause c hanging.forward at)

  part_stands : (guard : ℕ → Guard) (i : ℕ) (vs : List ℕ) (gs : List Formula) (cs : List ℕ) → AreParts problem guard i vs gs cs → (place clause : ℕ) → slice_get cs place ≡ Some clause →
      (g : Formula) × StandsAt problem clause (out-Formula g) vs
  part_stands guard i vs [] [] are place clause at = cc
  part_stands guard i vs [] (c ∷ cs) are place clause at = absurd are
  part_stands guard i vs (g ∷ gs) [] are place clause at = absurd are
  part_stands guard i vs (g ∷ gs) (c ∷ cs) are zero clause at = (g, subst (λ k. StandsAt problem k (out-Formula g) vs) (same_Some c clause at) are.0)
  part_stands guard i vs (g ∷ gs) (c ∷ cs) are (suc place) clause at = part_stands guard (suc i) vs gs cs are.2 place clause at

  -- below a clause that is taken and whose row terms are there
  there_below : (above way clause : ℕ) (y : Formula-F Formula) (ws : List ℕ) → StandsAt problem above y ws → Below problem above y ws → HangsBelow problem above way clause → Taken above → AreThere ws →
      (layer : Formula-F Formula) (vs : List ℕ) → StandsAt problem clause layer vs → AreThere vs
  there_below above way clause (Formula-F.Atom x) ws at hung is taken there layer vs stands = absurd (hung clause way is)
  there_below above way clause (Formula-F.And gs) ws at hung is taken there layer vs stands =
      let place = hung.all clause way is in
      let part = part_stands (λ j. at_way above 0) 0 ws gs hung.clauses hung.are place.0 clause place.1 in
      subst AreThere (variables_one clause (out-Formula part.0) layer ws vs part.1 stands) there
  there_below above way clause (Formula-F.Or gs) ws at hung is taken there layer vs stands =
      let part = part_stands (at_way above) 0 ws gs hung.clauses hung.are way clause (hung.all clause way is) in
      subst AreThere (variables_one clause (out-Formula part.0) layer ws vs part.1 stands) there
  there_below above way clause (Formula-F.Exists table body) ws at hung is taken there layer vs stands =
      let own = subst (λ k. StandsAt problem k (out-Formula body) (ws ++ hung.row ∷ [])) (sym (hung.all clause way is)) hung.stands in
      subst AreThere (variables_one clause (out-Formula body) layer (ws ++ hung.row ∷ []) vs own stands)
      (there_last ws hung.row there (made_there hung.row above table hung.is_maker taken))
  there_below above way clause (Formula-F.Forall table body) ws at hung is taken there layer vs stands = absurd (hung.none clause way is)

  clause_of_taken : (clause : ℕ) → Taken clause → (c : Clause) × (slice_get problem.clauses clause ≡ Some c)
  clause_of_taken clause taken =
      let low : clause < length choices = slice_get_within choices clause (Some taken.0) taken.1 in
      let count : length choices ≡ length problem.clauses = full.full in
      standing problem.clauses clause (omega arith)

  lower : (g : Guard) (n clause : ℕ) → nat_lt g.clause clause ≡ true → clause < suc n → g.clause < n
  lower g n clause before low = let less : g.clause < clause = grind (arith, nat_tests) in omega arith

  present_below : (n clause : ℕ) → clause < n → (layer : Formula-F Formula) (vs : List ℕ) → StandsAt problem clause layer vs → Taken clause → AreThere vs
  present_below zero clause low layer vs stands taken = absurd (omega arith)
  present_below (suc n) clause low layer vs stands taken =
      let c = hanging.listed clause layer vs stands in
      let same : guards_at problem clause ≡ c.0.guards = ap (λ o. option_map_or (λ (x : Clause). x.guards) o []) c.1 in
      let chosen = guards_reached clause c.0 c.1 taken in
      let earlier = guards_earlier clause c.0 c.1 in
      elim (hanging.hangs clause c.0 c.1) [
        | rooted sentence is ↦ subst AreThere (variables_one clause (out-Formula is.formula) layer [] vs is.stands stands) tt
        | under above way is ↦
            let gs : c.0.guards ≡ at_way above way ∷ [] = sym same ∙ is.guards in
            let here : is_chosen (take clause choices) (at_way above way) ≡ true =
            (and_parts (is_chosen (take clause choices) (at_way above way)) true (subst (λ (gs : List Guard). list_all (is_chosen (take clause choices)) gs ≡ true) gs chosen)).0 in
            let before : nat_lt above clause ≡ true = (and_parts (nat_lt above clause) true (subst (λ (gs : List Guard). list_all (λ (g : Guard). nat_lt g.clause clause) gs ≡ true) gs earlier)).0 in
            let above_taken : Taken above = (way, earlier_way clause (at_way above way) here) in
            let d = clause_of_taken above above_taken in
            let own = hanging.stands above d.0 d.1 in
            let there = present_below n above (lower (at_way above way) n clause before low) own.0 own.1.0 own.1.1 above_taken in
            there_below above way clause own.0 own.1.0 own.1.1 (hanging.below above own.0 own.1.0 own.1.1) is above_taken there layer vs stands
        | inside above row maker is ↦
            let gs : c.0.guards ≡ at_way above 0 ∷ at_way maker 0 ∷ [] = sym same ∙ is.guards in
            let both = and_parts (is_chosen (take clause choices) (at_way above 0)) (is_chosen (take clause choices) (at_way maker 0) && true)
            (subst (λ (gs : List Guard). list_all (is_chosen (take clause choices)) gs ≡ true) gs chosen) in
            let before : nat_lt above clause ≡ true =
            (and_parts (nat_lt above clause) (nat_lt maker clause && true) (subst (λ (gs : List Guard). list_all (λ (g : Guard). nat_lt g.clause clause) gs ≡ true) gs earlier)).0 in
            let above_taken : Taken above = (0, earlier_way clause (at_way above 0) both.0) in
            let maker_is_taken : Taken maker = (0, earlier_way clause (at_way maker 0) (and_parts (is_chosen (take clause choices) (at_way maker 0)) true both.1).0) in
            let there = present_below n above (lower (at_way above 0) n clause before low) (Formula-F.Forall is.table is.body) is.variables is.above_is above_taken in
            subst AreThere (variables_one clause (out-Formula is.body) layer (is.variables ++ row ∷ []) vs is.clause_is stands)
            (there_last is.variables row there (made_there row maker is.table is.row_is maker_is_taken))
      ]

  -- each formula whose clause is taken holds at the places of its row terms
  pub taken_holds : (clause : ℕ) (g : Formula) (vs : List ℕ) → StandsAt problem clause (out-Formula g) vs → Taken clause → holds db g (rows_at vs) ≡ true
  taken_holds clause g vs stands taken =
      all_stand g clause vs stands taken (present_below (suc clause) clause (omega arith) (out-Formula g) vs stands taken)
