-- The rows that are made of the row terms of a full case are those of its database.
use Rattle.std.proofs.Common.{◌≡◌, ◌∙◌, sym, ap, ap₂, refl, subst, ℕ, ◌<◌, ◌≤◌, ◌⊎◌, inl, inr, Bool, true, false, ◌&&◌, List, [], length, map, arith}
use Rattle.std.proofs.lemmas.Bool.{and_parts, and_from, eqb-true}
use Rattle.std.proofs.lemmas.Bool.Decides.{nat_tests}
use Rattle.std.proofs.lemmas.List.{length-map}
use Rattle.std.proofs.lemmas.Option.{same_Some, slice_get_within, slice_get_past}
use Rattle.std.specs.Prelude.{◌↔◌, Option, Some, None, slice_get, nat_eq, nat_lt, nat_le, option_and_then, unwrap_or, if◌then◌else◌}
use Rattle.std.specs.List.{filter, list_all}
use Rattle.std.specs.Option.{option_map, option_map_or}
use Rattle.lint_base.proofs.Lists.{all_at, below_true, both_left, both_right}
use Rattle.lint_core.specs.declared.database.Database.{Database}
use Rattle.lint_core.specs.declared.database.Row.{Row}
use Rattle.lint_core.specs.declared.schema.Column.{Column}
use Rattle.lint_core.specs.declared.schema.Domain.{Domain}
use Rattle.lint_core.specs.declared.schema.Table.{Table}
use Rattle.lint_core.specs.Database.{below, rows_of}
use Rattle.sorted_skolem.specs.declared.term.RowTerm.{RowTerm}
use Rattle.ground_theory.specs.declared.literal.Assignment.{Assignment}
use Rattle.ground_theory.specs.declared.literal.Frame.{Frame}
use Rattle.ground_theory.specs.Assignments.{IsAssignment, are_one, cells_at}
use Rattle.ground_theory.specs.Fitting.{has_domains}
use Rattle.ground_theory.specs.Judgeable.{is_frame}
use Rattle.case_split.proofs.Places.{there as standing}
use Rattle.instantiate.specs.declared.problem.Problem.{Problem}
use Rattle.instantiate.specs.Cases.{IsProblem, IsCells, IsDatabaseOf, is_present}
use Rattle.instantiate.specs.Ground.{maker_of}
use Rattle.instantiate.specs.Hanging.{keys_of_problem}
use Rattle.instantiate.specs.Keys.{number_of}
use Rattle.instantiate.proofs.Layers.{at_map}
use Rattle.instantiate.proofs.TermLists.{at_below, length_below, filtered_at}
use Rattle.witness_db.specs.inner.Placing.{is_chosen_at, is_there, is_alike, first_of, first_at, leads, rank, place_at, row_of, rows_in}
use Rattle.witness_db.proofs.Ranks.{head, ranked, alike_below, fused}

-- ---- presence

pub present_from : (problem : Problem) (choices : List (Option ℕ)) (makers : List ℕ) → makers ≡ map (λ (t : RowTerm). number_of (keys_of_problem problem) (maker_of t)) problem.rows.terms →
    map (is_chosen_at choices) makers ≡ map (is_present problem choices) (below (length problem.rows.terms))
present_from problem choices makers is =
    ap (map (is_chosen_at choices)) is
    ∙ (fused (is_chosen_at choices) (λ (t : RowTerm). number_of (keys_of_problem problem) (maker_of t)) problem.rows.terms
    ∙ sym
    (alike_below (is_present problem choices) (λ (t : RowTerm). is_chosen_at choices (number_of (keys_of_problem problem) (maker_of t))) problem.rows.terms
    (λ i t at. ap (λ (o : Option RowTerm). option_map_or (λ (t : RowTerm). is_chosen_at choices (number_of (keys_of_problem problem) (maker_of t))) o false) at)))

-- ---- tests of options

one_class : (a : Assignment) (row other : ℕ) → are_one a row other ≡ true → (class : ℕ) × (slice_get a.same row ≡ Some class) × (slice_get a.same other ≡ Some class)
one_class a row other is = by (slice_get a.same row) (slice_get a.same other) is
  where
    by : (o p : Option ℕ) → option_map_or (λ c. option_map_or (nat_eq c) p false) o false ≡ true → (class : ℕ) × (o ≡ Some class) × (p ≡ Some class)
    by None p is = cc
    by (Some c) None is = cc
    by (Some c) (Some d) is = (c, refl, ap Some (sym (eqb-true c d is)))

class_one : (a : Assignment) (row other class : ℕ) → slice_get a.same row ≡ Some class → slice_get a.same other ≡ Some class → are_one a row other ≡ true
class_one a row other class at to =
    ap₂ (λ (o p : Option ℕ). option_map_or (λ c. option_map_or (nat_eq c) p false) o false) at to ∙ same class
  where
    same : (n : ℕ) → nat_eq n n ≡ true
    same n = grind (arith, nat_tests)

same_number : (m n : ℕ) → m ≡ n → nat_eq m n ≡ true
same_number m n same = grind (arith, nat_tests)

never : (b : Bool) → b ≡ true → b ≡ false → ⊥
never b is not = cc

first_some : (b : Bool) (m : ℕ) → b ≡ true → (if b then Some m else None) ≡ Some m
first_some true m is = refl
first_some false m is = cc

-- ---- the first of each class

module _ (there : ℕ → Bool) (one : ℕ → ℕ → Bool) (n : ℕ) (itself : (row : ℕ) → row < n → one row row ≡ true) (back : (row other : ℕ) → one row other ≡ true → one other row ≡ true)
    (through : (row other third : ℕ) → one row other ≡ true → one other third ≡ true → one row third ≡ true) where
  abbrev pub first : ℕ → ℕ
  first row = first_of there one row

  pub record IsFirst (row at : ℕ) : Type 0 where
    pub within : at ≤ row
    pub present : there at ≡ true
    pub alike : one row at ≡ true
    pub none : (other : ℕ) → other < at → is_alike there one row other ≡ false

  pub first_is : (row : ℕ) → row < n → there row ≡ true → IsFirst row (first row)
  first_is row low present =
      elim (head (is_alike there one row) row) [
        | inl none ↦
            subst (IsFirst row) (sym (ap (λ ks. unwrap_or (slice_get ks 0) row) none.is))
            (record { within = omega arith; present = present; alike = itself row low; none = none.none })
        | inr found ↦
            let before = found.low in
            let parts = and_parts (there found.at) (one row found.at) found.passes in
            subst (IsFirst row) (sym (ap (λ ks. unwrap_or (slice_get ks 0) row) found.is))
            (record { within = omega arith; present = parts.0; alike = parts.1; none = found.none })
      ]

  not_before : (row other at to : ℕ) → IsFirst row at → IsFirst other to → one row other ≡ true → at < to → ⊥
  not_before row other at to is also same low =
      never (is_alike there one other at)
      (and_from (there at) (one other at) is.present (through other row at (back row other same) is.alike))
      (also.none at low)

  pub same_first : (row other at to : ℕ) → IsFirst row at → IsFirst other to → one row other ≡ true → at ≡ to
  same_first row other at to is also same =
      let low : at < to → ⊥ = not_before row other at to is also same in
      let high : to < at → ⊥ = not_before other row to at also is (back row other same) in
      by at to low high
    where
      by : (m k : ℕ) → (m < k → ⊥) → (k < m → ⊥) → m ≡ k
      by m k low high = grind arith

  -- the first of a class is its own first
  pub first_once : (row : ℕ) → row < n → there row ≡ true → first (first row) ≡ first row
  first_once row low present =
      let is = first_is row low present in
      let within = is.within in
      same_first (first row) row (first (first row)) (first row) (first_is (first row) (omega arith) is.present) is (back row (first row) is.alike)

-- ---- lists of them

module _ (tables : List ℕ) (present : List Bool) (firsts : List (Option ℕ)) (one : ℕ → ℕ → Bool) (n : ℕ) (table : ℕ → ℕ)
    (is_table : (k : ℕ) → k < n → slice_get tables k ≡ Some (table k))
    (is_first : (k : ℕ) → k < n → slice_get firsts k ≡ Some (first_at (is_there present) one k)) where
  first_here : (k : ℕ) → k < n → is_there present k ≡ true → slice_get firsts k ≡ Some (Some (first_of (is_there present) one k))
  first_here k low there = is_first k low ∙ ap Some (first_some (is_there present k) (first_of (is_there present) one k) there)

  pub leads_from : (t k : ℕ) → k < n → table k ≡ t → is_there present k ≡ true → first_of (is_there present) one k ≡ k → leads tables firsts t k ≡ true
  leads_from t k low of_table there is =
      ap₂ (λ (o : Option ℕ) (p : Option (Option ℕ)).
      option_map_or (λ (u : ℕ). nat_eq u t) o false && option_map_or (λ (q : Option ℕ). option_map_or (λ (first : ℕ). nat_eq first k) q false) p false)
      (is_table k low) (first_here k low there)
      ∙ and_from (nat_eq (table k) t) (nat_eq (first_of (is_there present) one k) k) (same_number (table k) t of_table) (same_number (first_of (is_there present) one k) k is)

  pub record Leads (t k : ℕ) : Type 0 where
    pub of_table : table k ≡ t
    pub there : is_there present k ≡ true
    pub is : first_of (is_there present) one k ≡ k

  pub leads_to : (t k : ℕ) → k < n → leads tables firsts t k ≡ true → Leads t k
  leads_to t k low is =
      let parts = and_parts (nat_eq (table k) t) (option_map_or (λ (first : ℕ). nat_eq first k) (first_at (is_there present) one k) false)
      (sym
      (ap₂ (λ (o : Option ℕ) (p : Option (Option ℕ)).
      option_map_or (λ (u : ℕ). nat_eq u t) o false && option_map_or (λ (q : Option ℕ). option_map_or (λ (first : ℕ). nat_eq first k) q false) p false)
      (is_table k low) (is_first k low))
      ∙ is) in
      let own = by (is_there present k) (first_of (is_there present) one k) parts.1 in
      record { of_table = eqb-true (table k) t parts.0; there = own.0; is = eqb-true (first_of (is_there present) one k) k own.1 }
    where
      by : (b : Bool) (first : ℕ) → option_map_or (λ (f : ℕ). nat_eq f k) (if b then Some first else None) false ≡ true → (b ≡ true) × (nat_eq first k ≡ true)
      by true first is = (refl, is)
      by false first is = cc

  pub place_there : (k : ℕ) → k < n → is_there present k ≡ true → place_at tables firsts k ≡ Some (rank tables firsts (table k) (first_of (is_there present) one k))
  place_there k low there =
      ap₂ (λ (o : Option ℕ) (p : Option (Option ℕ)). option_and_then (λ (t : ℕ). option_and_then (λ (q : Option ℕ). option_map (rank tables firsts t) q) p) o)
      (is_table k low) (first_here k low there)

  pub place_only : (k at : ℕ) → k < n → place_at tables firsts k ≡ Some at → is_there present k ≡ true
  place_only k at low is =
      by (is_there present k) (first_of (is_there present) one k)
      (sym
      (ap₂ (λ (o : Option ℕ) (p : Option (Option ℕ)). option_and_then (λ (t : ℕ). option_and_then (λ (q : Option ℕ). option_map (rank tables firsts t) q) p) o)
      (is_table k low) (is_first k low))
      ∙ is)
    where
      by : (b : Bool) (first : ℕ) → option_map (rank tables firsts (table k)) (if b then Some first else None) ≡ Some at → b ≡ true
      by true first is = refl
      by false first is = cc

-- ---- the database

module _ (schema : List Table) (problem : Problem) (is_problem : IsProblem schema problem) (choices : List (Option ℕ)) (a : Assignment) (is_assignment : IsAssignment problem.frame a)
    (present : List Bool) (firsts : List (Option ℕ)) (places : List (Option ℕ)) (db : Database)
    (in_range : list_all (λ t. nat_lt t (length problem.frame.domains)) problem.frame.tables ≡ true)
    (are_present : present ≡ map (is_present problem choices) (below (length problem.rows.terms)))
    (are_firsts : firsts ≡ map (first_at (is_there present) (are_one a)) (below (length present)))
    (are_places : places ≡ map (place_at problem.frame.tables firsts) (below (length problem.frame.tables)))
    (are_rows : db.tables ≡ map (rows_in problem.frame.tables firsts a) (below (length problem.frame.domains))) where
  abbrev terms : List RowTerm
  terms = problem.rows.terms

  abbrev tables : List ℕ
  tables = problem.frame.tables

  abbrev n : ℕ
  n = length terms

  abbrev there : ℕ → Bool
  there = is_there present

  abbrev one : ℕ → ℕ → Bool
  one = are_one a

  abbrev leader : ℕ → ℕ
  leader row = first_of there one row

  abbrev table : ℕ → ℕ
  table row = unwrap_or (slice_get tables row) 0

  tables_is : tables ≡ map (λ (t : RowTerm). t.table) terms
  tables_is = ap (λ (f : Frame). f.tables) is_problem.frame

  tables_count : length tables ≡ n
  tables_count = ap length tables_is ∙ length-map terms (λ (t : RowTerm). t.table)

  present_count : length present ≡ n
  present_count = ap length are_present ∙ (length-map (below n) (is_present problem choices) ∙ length_below n)

  is_table : (row : ℕ) → row < n → slice_get tables row ≡ Some (table row)
  is_table row low =
      let found = standing tables row (let e = tables_count in omega arith) in
      found.1 ∙ ap Some (sym (ap (λ (o : Option ℕ). unwrap_or o 0) found.1))

  is_first : (row : ℕ) → row < n → slice_get firsts row ≡ Some (first_at there one row)
  is_first row low =
      ap (λ fs. slice_get fs row) are_firsts
      ∙ at_map (first_at there one) (below (length present)) row row (at_below (length present) row (let e = present_count in omega arith))

  is_place : (row : ℕ) → row < n → slice_get places row ≡ Some (place_at tables firsts row)
  is_place row low =
      ap (λ ps. slice_get ps row) are_places
      ∙ at_map (place_at tables firsts) (below (length tables)) row row (at_below (length tables) row (let e = tables_count in omega arith))

  there_is : (row : ℕ) → row < n → there row ≡ is_present problem choices row
  there_is row low =
      ap (λ (o : Option Bool). unwrap_or o false)
      (ap (λ bs. slice_get bs row) are_present ∙ at_map (is_present problem choices) (below n) row row (at_below n row low))

  -- ---- classes

  itself : (row : ℕ) → row < n → one row row ≡ true
  itself row low =
      let class = standing a.same row (let e = is_assignment.classes in let f = tables_count in omega arith) in
      class_one a row row class.0 class.1 class.1

  back : (row other : ℕ) → one row other ≡ true → one other row ≡ true
  back row other is = let class = one_class a row other is in class_one a other row class.0 class.2 class.1

  through : (row other third : ℕ) → one row other ≡ true → one other third ≡ true → one row third ≡ true
  through row other third is also =
      let class = one_class a row other is in
      let second = one_class a other third also in
      class_one a row third class.0 class.1 (second.2 ∙ ap Some (same_Some second.0 class.0 (sym second.1 ∙ class.2)))

  tabled : (row other : ℕ) → one row other ≡ true → table row ≡ table other
  tabled row other is = ap (λ (o : Option ℕ). unwrap_or o 0) (is_assignment.tables row other is)

  term_table : (row : ℕ) (t : RowTerm) → slice_get terms row ≡ Some t → table row ≡ t.table
  term_table row t at =
      ap (λ (o : Option ℕ). unwrap_or o 0) (ap (λ ts. slice_get ts row) tables_is ∙ at_map (λ (t : RowTerm). t.table) terms row t at)

  table_low : (row : ℕ) → row < n → table row < length problem.frame.domains
  table_low row low = below_true (table row) (length problem.frame.domains) (all_at (λ t. nat_lt t (length problem.frame.domains)) tables row (table row) in_range (is_table row low))

  -- ---- rows

  abbrev led : ℕ → ℕ → Bool
  led t = leads tables firsts t

  abbrev made : ℕ → List Row
  made t = rows_in tables firsts a t

  rows_are : (t : ℕ) → t < length problem.frame.domains → rows_of db t ≡ made t
  rows_are t low =
      ap (λ (o : Option (List Row)). unwrap_or o [])
      (ap (λ rs. slice_get rs t) are_rows ∙ at_map made (below (length problem.frame.domains)) t t (at_below (length problem.frame.domains) t low))

  no_rows : (t : ℕ) → length problem.frame.domains ≤ t → rows_of db t ≡ []
  no_rows t high =
      let size : length db.tables ≡ length problem.frame.domains =
      ap length are_rows ∙ (length-map (below (length problem.frame.domains)) made ∙ length_below (length problem.frame.domains)) in
      ap (λ (o : Option (List Row)). unwrap_or o []) (slice_get_past db.tables t (omega arith))

  -- the first row term of a class leads to the row of this rank
  row_at : (row : ℕ) → row < n → there row ≡ true → slice_get (made (table row)) (rank tables firsts (table row) (leader row)) ≡ Some (row_of a (leader row))
  row_at row low is =
      let own = first_is there one n itself back through row low is in
      let within = own.within in
      let same : table (leader row) ≡ table row = sym (tabled row (leader row) own.alike) in
      let led_by : led (table row) (leader row) ≡ true =
      leads_from tables present firsts one n table is_table is_first (table row) (leader row) (omega arith) same own.present (first_once there one n itself back through row low is) in
      at_map (row_of a) (filter (led (table row)) (below (length tables))) (rank tables firsts (table row) (leader row)) (leader row)
      (filtered_at (led (table row)) (length tables) (leader row) (let e = tables_count in omega arith) led_by)

  place_is : (row : ℕ) → row < n → there row ≡ true → slice_get places row ≡ Some (Some (rank tables firsts (table row) (leader row)))
  place_is row low is = is_place row low ∙ ap Some (place_there tables present firsts one n table is_table is_first row low is)

  low_at : (row : ℕ) (t : RowTerm) → slice_get terms row ≡ Some t → row < n
  low_at row t at = slice_get_within terms row t at

  present_term : (row : ℕ) (t : RowTerm) → slice_get terms row ≡ Some t → is_present problem choices row ≡ true →
      (at : ℕ) × (slice_get places row ≡ Some (Some at)) × (at < length (rows_of db t.table)) × IsCells db (record { table = t.table; row = at }) (cells_at a row)
  present_term row t at is =
      let low = low_at row t at in
      let here : there row ≡ true = there_is row low ∙ is in
      let own = first_is there one n itself back through row low here in
      let rows : rows_of db t.table ≡ made (table row) = ap (rows_of db) (sym (term_table row t at)) ∙ rows_are (table row) (table_low row low) in
      let stands : slice_get (rows_of db t.table) (rank tables firsts (table row) (leader row)) ≡ Some (row_of a (leader row)) =
      ap (λ rs. slice_get rs (rank tables firsts (table row) (leader row))) rows ∙ row_at row low here in (
        rank tables firsts (table row) (leader row),
        place_is row low here,
        slice_get_within (rows_of db t.table) (rank tables firsts (table row) (leader row)) (row_of a (leader row)) stands,
        ap (λ (o : Option Row). option_map_or (λ (r : Row). r.values) o []) stands ∙ sym (is_assignment.cells row (leader row) own.alike),
      )

  -- a term with a place is there, and has this one
  record HasPlace (row at : ℕ) : Type 0 where
    low : row < n
    is : there row ≡ true
    place : at ≡ rank tables firsts (table row) (leader row)

  has_place : (row at : ℕ) → slice_get places row ≡ Some (Some at) → HasPlace row at
  has_place row at is =
      let size : length places ≡ n = ap length are_places ∙ (length-map (below (length tables)) (place_at tables firsts) ∙ (length_below (length tables) ∙ tables_count)) in
      let within = slice_get_within places row (Some at) is in
      let low : row < n = omega arith in
      let own : place_at tables firsts row ≡ Some at = same_Some (place_at tables firsts row) (Some at) (sym (is_place row low) ∙ is) in
      let here = place_only tables present firsts one n table is_table is_first row at low own in
      record {
        low = low;
        is = here;
        place = same_Some at (rank tables firsts (table row) (leader row)) (sym own ∙ place_there tables present firsts one n table is_table is_first row low here);
      }

  -- two firsts of a table with one rank are one
  one_rank : (row other : ℕ) → row < n → other < n → there row ≡ true → there other ≡ true → table row ≡ table other →
      rank tables firsts (table row) (leader row) ≡ rank tables firsts (table other) (leader other) → one row other ≡ true
  one_rank row other low low' is also same ranks =
      let own = first_is there one n itself back through row low is in
      let second = first_is there one n itself back through other low' also in
      let within = own.within in
      let within' = second.within in
      let led_by : led (table row) (leader row) ≡ true =
      leads_from tables present firsts one n table is_table is_first (table row) (leader row) (omega arith) (sym (tabled row (leader row) own.alike)) own.present (first_once there one n itself back through row low is) in
      let led_too : led (table row) (leader other) ≡ true =
      leads_from tables present firsts one n table is_table is_first (table row) (leader other) (omega arith) (sym (tabled other (leader other) second.alike) ∙ sym same) second.present
      (first_once there one n itself back through other low' also) in
      let count = tables_count in
      let at = filtered_at (led (table row)) (length tables) (leader row) (omega arith) led_by in
      let to = filtered_at (led (table row)) (length tables) (leader other) (omega arith) led_too in
      let ranks' : rank tables firsts (table row) (leader row) ≡ rank tables firsts (table row) (leader other) = ranks ∙ ap (λ t. rank tables firsts t (leader other)) (sym same) in
      let firsts_one : leader row ≡ leader other =
      same_Some (leader row) (leader other) (sym at ∙ (ap (slice_get (filter (led (table row)) (below (length tables)))) ranks' ∙ to)) in
      through row (leader row) other own.alike (subst (λ f. one f other ≡ true) (sym firsts_one) (back other (leader other) second.alike))

  one_place : (row other : ℕ) (t u : RowTerm) (at to : ℕ) → slice_get terms row ≡ Some t → slice_get terms other ≡ Some u → t.table ≡ u.table →
      slice_get places row ≡ Some (Some at) → slice_get places other ≡ Some (Some to) → (at ≡ to) ↔ (one row other ≡ true)
  one_place row other t u at to is_t is_u same is also =
      let own = has_place row at is in
      let second = has_place other to also in
      let tables_one : table row ≡ table other = term_table row t is_t ∙ (same ∙ sym (term_table other u is_u)) in (
        λ e. one_rank row other own.low second.low own.is second.is tables_one (sym own.place ∙ (e ∙ second.place)),
        λ e.
            let firsts_one : leader row ≡ leader other =
            same_first there one n itself back through row other (leader row) (leader other) (first_is there one n itself back through row own.low own.is)
            (first_is there one n itself back through other second.low second.is) e in
            own.place ∙ (ap₂ (rank tables firsts) tables_one firsts_one ∙ sym second.place),
      )

  other_rows : (t at : ℕ) → at < length (rows_of db t) → (row : ℕ) × ((u : RowTerm) × (slice_get terms row ≡ Some u) × (u.table ≡ t) × (slice_get places row ≡ Some (Some at)))
  other_rows t at low =
      let found = ranked (led t) (length tables) at (some_rank (either t (length problem.frame.domains))) in
      let count = tables_count in
      let before = found.low in
      let here : found.at < n = omega arith in
      let own = leads_to tables present firsts one n table is_table is_first t found.at here found.passes in
      let term = standing terms found.at here in (
        found.at,
        (
          term.0,
          term.1,
          sym (term_table found.at term.0 term.1) ∙ own.of_table,
          place_is found.at here own.there ∙ ap (λ k. Some (Some k)) (ap₂ (rank tables firsts) own.of_table own.is ∙ found.is),
        ),
      )
    where
      either : (m k : ℕ) → (m < k) ⊎ (k ≤ m)
      either m k = grind arith

      some_rank : (t < length problem.frame.domains) ⊎ (length problem.frame.domains ≤ t) → at < length (filter (led t) (below (length tables)))
      some_rank (inl less) =
          let size : length (rows_of db t) ≡ length (filter (led t) (below (length tables))) = ap length (rows_are t less) ∙ length-map (filter (led t) (below (length tables))) (row_of a) in
          omega arith
      some_rank (inr more) = let none : length (rows_of db t) ≡ 0 = ap length (no_rows t more) in absurd (omega arith)

  pub is_database : IsDatabaseOf problem choices a db places
  is_database = record {
    tables = ap length are_rows ∙ (length-map (below (length problem.frame.domains)) made ∙ length_below (length problem.frame.domains));
    as_many = ap length are_places ∙ (length-map (below (length tables)) (place_at tables firsts) ∙ (length_below (length tables) ∙ tables_count));
    present = present_term;
    absent = λ row at is. let own = has_place row at is in sym (there_is row own.low) ∙ own.is;
    one = one_place;
    others = other_rows;
  }

-- ---- frames

-- the domains of a problem are those of the schema's tables
pub frame_count : (schema : List Table) (problem : Problem) → IsProblem schema problem → length problem.frame.domains ≡ length schema
frame_count schema problem is = ap (λ (f : Frame). length f.domains) is.frame ∙ length-map schema (λ (t : Table). map (λ (c : Column). c.domain) t.columns)

-- each row term is of a table that is there
pub frame_range : (frame : Frame) → is_frame frame ≡ true → list_all (λ t. nat_lt t (length frame.domains)) frame.tables ≡ true
frame_range frame is =
    let ranged : Bool = list_all (λ t. nat_lt t (length frame.domains)) frame.tables in
    let few : Bool = list_all (λ (ds : List Domain). nat_le (length ds) 64) frame.domains in
    both_left ranged (nat_le (length frame.tables) 512)
    (both_right few (ranged && nat_le (length frame.tables) 512)
    (both_right (has_domains frame) (few && (ranged && nat_le (length frame.tables) 512)) is))
