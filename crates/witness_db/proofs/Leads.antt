-- In the database of a full case the rows for which the leading Exists of a sentence ask satisfy its body; and of a needless join they
-- refute, with the two rows for which the body asks where there are such rows.
use Rattle.std.proofs.Common.{◌≡◌, ◌∙◌, sym, ap, ap₂, refl, subst, ℕ, zero, suc, ◌+◌, ◌<◌, ◌⊎◌, inl, inr, true, List, [], ◌∷◌, ◌++◌, length, map, take, get_or, append_assoc, append-nil, arith}
use Rattle.std.proofs.lemmas.Bool.{and_from}
use Rattle.std.proofs.lemmas.Bool.Decides.{nat_tests}
use Rattle.std.proofs.lemmas.List.{length-map, map-append}
use Rattle.std.proofs.lemmas.List.Folds.{list_all-append}
use Rattle.std.proofs.lemmas.Option.{same_Some, slice_get-get_or}
use Rattle.std.specs.Prelude.{Option, Some, None, slice_get, nat_lt, option_and_then, unwrap_or, sum}
use Rattle.std.specs.List.{list_all}
use Rattle.std.specs.Option.{option_map_or}
use Rattle.lint_base.proofs.Lists.{all_append, below_true, both_left, slice_get_last, true_below}
use Rattle.lint_core.specs.declared.database.Database.{Database}
use Rattle.lint_core.specs.Database.{Place, below, rows_of}
use Rattle.lint_core.specs.Points.{are_rows}
use Rattle.sort_formula.specs.declared.formula.Formula.{Formula, out-Formula}
use Rattle.sort_formula.specs.declared.formula.Formula.TheOpen.{Formula-F}
use Rattle.sort_formula.specs.declared.formula.Formula.TheVariants as f
use Rattle.sort_formula.specs.Holds.{holds}
use Rattle.sort_formula.specs.Nodes.{nodes}
use Rattle.sort_formula.specs.Translation.{exist_rows}
use Rattle.sort_formula.proofs.Holding.{holds_and}
use Rattle.counter_laws.specs.LeadingRows.{leading_rows}
use Rattle.sorted_skolem.specs.declared.term.RowTerm.{RowTerm}
use Rattle.sorted_skolem.proofs.Among.{counted, below_is}
use Rattle.ground_theory.specs.declared.literal.Assignment.{Assignment}
use Rattle.ground_theory.specs.Assignments.{IsAssignment, satisfies_all}
use Rattle.case_split.specs.Cases.{IsFullCase}
use Rattle.case_split.specs.Choices.{Choices, is_chosen, literals_of}
use Rattle.instantiate.specs.declared.problem.Problem.{Problem}
use Rattle.instantiate.specs.Cases.{IsDatabaseOf, places_at}
use Rattle.instantiate.specs.Ground.{ways_in}
use Rattle.instantiate.specs.Hanging.{Hanging, IsMaker, at_way, guards_at}
use Rattle.instantiate.specs.Plain.{plain_row, StandsPlain, PlainBelow, PlainNodes}
use Rattle.witness_db.specs.Leading.{leading_places, place_for}
use Rattle.witness_db.specs.Parts.{PartHolds, part_node, places_from}
use Rattle.witness_db.proofs.Standing.{taken_by, first_way, one_chosen, chosen_way, legal_way, made_there, maker_taken, taken_holds}

module _ (problem : Problem) (hanging : Hanging problem) (plain : PlainNodes problem) (choices : Choices) (full : IsFullCase problem.clauses problem.frame choices)
    (a : Assignment) (is_assignment : IsAssignment problem.frame a) (satisfied : satisfies_all a (literals_of problem.clauses choices) ≡ true)
    (db : Database) (places : List (Option ℕ)) (is_database : IsDatabaseOf problem choices a db places) where
  abbrev pub terms : List RowTerm
  terms = problem.rows.terms

  abbrev pub Taken : ℕ → Type 0
  Taken clause = (way : ℕ) × (slice_get choices clause ≡ Some (Some way))

  abbrev pub row_for : ℕ → ℕ
  row_for node = plain_row terms 0 node

  abbrev pub place : ℕ → ℕ
  place node = place_for places (plain_row terms 0 node)

  abbrev pub place_in : ℕ → ℕ → Place
  place_in table row = record { table = table; row = row }

  abbrev pub rows_at : List ℕ → List Place
  rows_at nodes = places_at terms places (map row_for nodes)

  -- ---- clauses

  below_taken : (above way node : ℕ) (formula : Formula) (around : List ℕ) → (below : PlainBelow problem 0 above way node formula around) → is_chosen choices (at_way above way) ≡ true → Taken below.clause
  below_taken above way node formula around below chosen =
      taken_by problem hanging choices full a is_assignment satisfied db places is_database below.clause (out-Formula formula) (map row_for around) below.stands.stands
      (one_chosen problem hanging choices full a is_assignment satisfied db places is_database (at_way above way) (guards_at problem below.clause) below.guards chosen)

  only_way : (node clause : ℕ) (layer : Formula-F Formula) (around : List ℕ) → (is : StandsPlain problem 0 node clause layer around) → length (ways_in (map row_for around) layer) ≡ 1 → Taken clause → is_chosen choices (at_way clause 0) ≡ true
  only_way node clause layer around is one taken =
      first_way problem hanging choices full a is_assignment satisfied db places is_database clause layer (map row_for around) is.stands one taken

  holds_there : (node clause : ℕ) (formula : Formula) (around : List ℕ) → StandsPlain problem 0 node clause (out-Formula formula) around → Taken clause → holds db formula (rows_at around) ≡ true
  holds_there node clause formula around is taken =
      taken_holds problem hanging choices full a is_assignment satisfied db places is_database clause formula (map row_for around) is.stands taken

  -- ---- rows

  -- the row term of the node has a place, in the table
  record HasRow (node table : ℕ) : Type 0 where
    at : slice_get places (row_for node) ≡ Some (Some (place node))
    low : place node < length (rows_of db table)
    is : rows_at (node ∷ []) ≡ place_in table (place node) ∷ []

  row_there : (node clause table : ℕ) → IsMaker problem (row_for node) clause table → Taken clause → HasRow node table
  row_there node clause table is taken =
      let there = made_there problem hanging choices full a is_assignment satisfied db places is_database (row_for node) clause table is taken in
      let t : RowTerm = there.1.0 in
      let found = is_database.present (row_for node) t there.1.1 there.0 in
      let of_table : t.table ≡ table = ap (λ (t : RowTerm). t.table) (same_Some t is.term (sym there.1.1 ∙ is.is_term)) ∙ is.is_table in
      let own : place node ≡ found.0 = ap (λ (o : Option (Option ℕ)). unwrap_or (option_and_then (λ (o : Option ℕ). o) o) 0) found.1 in
      record {
        at = found.1 ∙ ap (λ k. Some (Some k)) (sym own);
        low = subst (λ k. k < length (rows_of db table)) (sym own) (subst (λ u. found.0 < length (rows_of db u)) of_table found.2);
        is = ap (λ (o : Option RowTerm). place_in (option_map_or (λ (t : RowTerm). t.table) o 0) (place node) ∷ []) there.1.1 ∙ ap (λ u. place_in u (place node) ∷ []) of_table;
      }

  -- ---- the leading rows

  record Led (lead : List ℕ) (body : Formula) (node : ℕ) (around : List ℕ) : Type 0 where
    clause : ℕ
    stands : StandsPlain problem 0 (node + length lead) clause (out-Formula body) (around ++ counted node (length lead))
    taken : Taken clause
    rows : are_rows db lead (map place (counted node (length lead))) ≡ true
    same : rows_at (counted node (length lead)) ≡ leading_rows lead (map place (counted node (length lead)))

  led : (lead : List ℕ) (body : Formula) (node : ℕ) (around : List ℕ) (clause : ℕ) → StandsPlain problem 0 node clause (out-Formula (exist_rows lead body)) around → Taken clause →
      Led lead body node around
  led [] body node around clause stands taken =
      let none : node ≡ node + 0 = omega arith in
      record {
        clause = clause;
        stands = subst (λ n. StandsPlain problem 0 n clause (out-Formula body) (around ++ [])) none (subst (StandsPlain problem 0 node clause (out-Formula body)) (sym (append-nil around)) stands);
        taken = taken;
        rows = refl;
        same = refl;
      }
  led (table ∷ lead) body node around clause stands taken =
      let rest : Formula = exist_rows lead body in
      let own : StandsPlain problem 0 node clause (Formula-F.Exists table rest) around = subst (λ y. StandsPlain problem 0 node clause y around) (f.outs-Exists table rest) stands in
      let row = row_there node clause table (plain.row 0 node clause table rest around own) taken in
      let below = plain.body 0 node clause table rest around own in
      let inside = led lead body (suc node) (around ++ node ∷ []) below.clause below.stands
      (below_taken clause 0 (suc node) rest (around ++ node ∷ []) below (only_way node clause (Formula-F.Exists table rest) around own refl taken)) in
      let count : suc node + length lead ≡ node + suc (length lead) = omega arith in
      record {
        clause = inside.clause;
        stands = subst (λ n. StandsPlain problem 0 n inside.clause (out-Formula body) (around ++ counted node (suc (length lead)))) count
            (subst (StandsPlain problem 0 (suc node + length lead) inside.clause (out-Formula body)) (append_assoc around (node ∷ []) (counted (suc node) (length lead))) inside.stands);
        taken = inside.taken;
        rows = and_from (nat_lt (place node) (length (rows_of db table))) (are_rows db lead (map place (counted (suc node) (length lead)))) (true_below (place node) (length (rows_of db table)) row.low) inside.rows;
        same = ap₂ (λ xs ys. xs ++ ys) row.is inside.same;
      }

  led_from_root : (lead : List ℕ) (body : Formula) → slice_get problem.sentences 0 ≡ Some (exist_rows lead body) → Led lead body 0 []
  led_from_root lead body at =
      let root = plain.root 0 (exist_rows lead body) at in
      led lead body 0 [] root.0 root.1
      (taken_by problem hanging choices full a is_assignment satisfied db places is_database root.0 (out-Formula (exist_rows lead body)) [] root.1.stands (ap (list_all (is_chosen choices)) root.2))

  leading_is : (count : ℕ) → map place (counted 0 count) ≡ leading_places terms places count
  leading_is count = ap (map place) (sym (below_is count))

  module _ (lead : List ℕ) (body : Formula) (at : slice_get problem.sentences 0 ≡ Some (exist_rows lead body)) where
    abbrev pub own_places : List ℕ
    own_places = leading_places terms places (length lead)

    known : Led lead body 0 []
    known = led_from_root lead body at

    abbrev pub around : List ℕ
    around = counted 0 (length lead)

    pub leading_there : are_rows db lead own_places ≡ true
    leading_there = subst (λ ps. are_rows db lead ps ≡ true) (leading_is (length lead)) known.rows

    leading_same : rows_at around ≡ leading_rows lead own_places
    leading_same = known.same ∙ ap (leading_rows lead) (leading_is (length lead))

    pub body_holds : holds db body (leading_rows lead own_places) ≡ true
    body_holds = subst (λ rows. holds db body rows ≡ true) leading_same (holds_there (0 + length lead) known.clause body around known.stands known.taken)

  -- ---- an Or as the whole sentence

  places_are : (node k count : ℕ) → map place (counted (node + k) count) ≡ map (λ number. place (node + number)) (counted k count)
  places_are node k zero = refl
  places_are node k (suc count) =
      let next : suc (node + k) ≡ node + suc k = omega arith in
      ap (λ ps. place (node + k) ∷ ps) (ap (λ n. map place (counted n count)) next ∙ places_are node (suc k) count)

  places_from_is : (node count : ℕ) → map place (counted node count) ≡ places_from terms places node count
  places_from_is node count =
      let own : node ≡ node + 0 = omega arith in
      ap (λ n. map place (counted n count)) own ∙ (places_are node 0 count ∙ ap (map (λ number. place (node + number))) (sym (below_is count)))

  module _ (parts : List Formula) (at : slice_get problem.sentences 0 ≡ Some (f.Or parts)) where
    pub top : (clause : ℕ) × StandsPlain problem 0 0 clause (out-Formula (f.Or parts)) [] × (guards_at problem clause ≡ [])
    top = plain.root 0 (f.Or parts) at

    pub top_taken : Taken top.0
    top_taken = taken_by problem hanging choices full a is_assignment satisfied db places is_database top.0 (out-Formula (f.Or parts)) [] top.1.stands (ap (list_all (is_chosen choices)) top.2)

    top_there : StandsPlain problem 0 0 top.0 (Formula-F.Or parts) []
    top_there = subst (λ y. StandsPlain problem 0 0 top.0 y []) (f.outs-Or parts) top.1

    abbrev pub part : ℕ
    part = top_taken.0

    part_low : part < length parts
    part_low =
        let c = hanging.listed top.0 (Formula-F.Or parts) [] top_there.stands in
        let legal : nat_lt part (length c.0.ways) ≡ true =
        legal_way problem hanging choices full a is_assignment satisfied db places is_database top.0 part c.0 c.1 top_taken.1 in
        below_true part (length parts)
        (subst (λ n. nat_lt part n ≡ true) (ap length c.2 ∙ length-map parts (λ (g : Formula). None)) legal)

    abbrev formula : Formula
    formula = get_or parts part (f.Or parts)

    part_there : slice_get parts part ≡ Some formula
    part_there = slice_get-get_or parts part (f.Or parts) part_low

    part_below : PlainBelow problem 0 top.0 part (part_node parts part) formula []
    part_below = plain.way 0 0 top.0 parts [] top_there part formula part_there

    part_led : (lead : List ℕ) (body : Formula) → formula ≡ exist_rows lead body → Led lead body (part_node parts part) []
    part_led lead body is =
        led lead body (part_node parts part) [] part_below.clause
        (subst (λ g. StandsPlain problem 0 (part_node parts part) part_below.clause (out-Formula g) []) is part_below.stands)
        (below_taken top.0 part (part_node parts part) formula [] part_below
        (chosen_way problem hanging choices full a is_assignment satisfied db places is_database top.0 part top_taken.1))

    pub part_chosen : slice_get choices top.0 ≡ Some (Some part)
    part_chosen = top_taken.1

    pub part_holds : PartHolds db terms places parts part
    part_holds = record {
      formula = formula;
      stands = part_there;
      there = λ lead body is.
          let known = part_led lead body is in
          subst (λ ps. are_rows db lead ps ≡ true) (places_from_is (part_node parts part) (length lead)) known.rows;
      inside = λ lead body is.
          let known = part_led lead body is in
          subst (λ rows. holds db body rows ≡ true)
          (known.same ∙ ap (leading_rows lead) (places_from_is (part_node parts part) (length lead)))
          (holds_there (part_node parts part + length lead) known.clause body (counted (part_node parts part) (length lead)) known.stands known.taken);
    }

  -- ---- a needless join

  module _ (lead : List ℕ) (others : List Formula) (no_row both : Formula) (table : ℕ)
      (at : slice_get problem.sentences 0 ≡ Some (exist_rows lead (f.And (others ++ f.Or (no_row ∷ f.Exists table (f.Exists table both) ∷ []) ∷ [])))) where
    abbrev pub two : Formula
    two = f.Exists table (f.Exists table both)

    abbrev pub ways : List Formula
    ways = no_row ∷ two ∷ []

    abbrev pub parts : List Formula
    parts = others ++ f.Or ways ∷ []

    led_to : Led lead (f.And parts) 0 []
    led_to = led_from_root lead (f.And parts) at

    abbrev pub inside : List ℕ
    inside = counted 0 (length lead)

    abbrev pub first_places : List ℕ
    first_places = leading_places terms places (length lead)

    abbrev pub first_rows : List Place
    first_rows = leading_rows lead first_places

    abbrev pub first_node : ℕ
    first_node = 0 + length lead

    and_there : StandsPlain problem 0 first_node led_to.clause (Formula-F.And parts) inside
    and_there = subst (λ y. StandsPlain problem 0 first_node led_to.clause y inside) (f.outs-And parts) led_to.stands

    or_below : PlainBelow problem 0 led_to.clause 0 (suc first_node + sum (map nodes (take (length others) parts))) (f.Or ways) inside
    or_below = plain.part 0 first_node led_to.clause parts inside and_there (length others) (f.Or ways) (slice_get_last others (f.Or ways))

    abbrev pub or_node : ℕ
    or_node = suc first_node + sum (map nodes (take (length others) parts))

    or_taken : Taken or_below.clause
    or_taken =
        below_taken led_to.clause 0 or_node (f.Or ways) inside or_below (only_way first_node led_to.clause (Formula-F.And parts) inside and_there refl led_to.taken)

    or_there : StandsPlain problem 0 or_node or_below.clause (Formula-F.Or ways) inside
    or_there = subst (λ y. StandsPlain problem 0 or_node or_below.clause y inside) (f.outs-Or ways) or_below.stands

    no_row_below : PlainBelow problem 0 or_below.clause 0 (suc or_node + sum (map nodes (take 0 ways))) no_row inside
    no_row_below = plain.way 0 or_node or_below.clause ways inside or_there 0 no_row refl

    abbrev pub pair : ℕ
    pair = suc or_node + sum (map nodes (take 1 ways))

    two_below : PlainBelow problem 0 or_below.clause 1 pair two inside
    two_below = plain.way 0 or_node or_below.clause ways inside or_there 1 two refl

    two_there : StandsPlain problem 0 pair two_below.clause (Formula-F.Exists table (f.Exists table both)) inside
    two_there = subst (λ y. StandsPlain problem 0 pair two_below.clause y inside) (f.outs-Exists table (f.Exists table both)) two_below.stands

    first_maker : IsMaker problem (row_for pair) two_below.clause table
    first_maker = plain.row 0 pair two_below.clause table (f.Exists table both) inside two_there

    -- the first or the second way
    which : (or_taken.0 ≡ 0) ⊎ (or_taken.0 ≡ 1)
    which =
        let c = hanging.listed or_below.clause (Formula-F.Or ways) (map row_for inside) or_there.stands in
        let legal : nat_lt or_taken.0 (length c.0.ways) ≡ true =
        legal_way problem hanging choices full a is_assignment satisfied db places is_database or_below.clause or_taken.0 c.0 c.1 or_taken.1 in
        let count : length c.0.ways ≡ 2 = ap length c.2 in
        either or_taken.0 (length c.0.ways) legal count
      where
        either : (w n : ℕ) → nat_lt w n ≡ true → n ≡ 2 → (w ≡ 0) ⊎ (w ≡ 1)
        either w n low is = grind (arith, nat_tests)

    chosen_is : (way : ℕ) → or_taken.0 ≡ way → is_chosen choices (at_way or_below.clause way) ≡ true
    chosen_is way same =
        chosen_way problem hanging choices full a is_assignment satisfied db places is_database or_below.clause way (or_taken.1 ∙ ap (λ w. Some (Some w)) same)

    rows_same : rows_at inside ≡ first_rows
    rows_same = led_to.same ∙ ap (leading_rows lead) (leading_is (length lead))

    pub others_hold : list_all (λ g. holds db g first_rows) others ≡ true
    others_hold =
        both_left (list_all (λ g. holds db g first_rows) others) (list_all (λ g. holds db g first_rows) (f.Or ways ∷ []))
        (sym (list_all-append (λ g. holds db g first_rows) others (f.Or ways ∷ []))
        ∙ (sym (holds_and db parts first_rows) ∙ body_holds lead (f.And parts) at))

    -- where the first of the two has no place, no row fits
    pub none_fits : option_and_then (λ (o : Option ℕ). o) (slice_get places (row_for pair)) ≡ None → holds db (f.And (others ++ no_row ∷ [])) first_rows ≡ true
    none_fits none =
        holds_and db (others ++ no_row ∷ []) first_rows
        ∙ all_append (λ g. holds db g first_rows) others (no_row ∷ []) others_hold (and_from (holds db no_row first_rows) true (by which) refl)
      where
        apart : (o : Option ℕ) (k : ℕ) → o ≡ None → o ≡ Some k → ⊥
        apart o k none some = cc

        by : (or_taken.0 ≡ 0) ⊎ (or_taken.0 ≡ 1) → holds db no_row first_rows ≡ true
        by (inl first) =
            subst (λ rows. holds db no_row rows ≡ true) rows_same
            (holds_there (suc or_node + sum (map nodes (take 0 ways))) no_row_below.clause no_row inside no_row_below.stands
            (below_taken or_below.clause 0 (suc or_node + sum (map nodes (take 0 ways))) no_row inside no_row_below (chosen_is 0 first)))
        by (inr second) =
            let row = row_there pair two_below.clause table first_maker (below_taken or_below.clause 1 pair two inside two_below (chosen_is 1 second)) in
            let has : option_and_then (λ (o : Option ℕ). o) (slice_get places (row_for pair)) ≡ Some (place pair) = ap (option_and_then (λ (o : Option ℕ). o)) row.at in
            absurd (apart (option_and_then (λ (o : Option ℕ). o) (slice_get places (row_for pair))) (place pair) none has)

    -- where it has one, two rows fit
    pub record TwoFit : Type 0 where
      pub first : place pair < length (rows_of db table)
      pub second : place (suc pair) < length (rows_of db table)
      pub fit : holds db both (first_rows ++ place_in table (place pair) ∷ place_in table (place (suc pair)) ∷ []) ≡ true

    pub two_fit : (row : ℕ) → slice_get places (row_for pair) ≡ Some (Some row) → TwoFit
    two_fit row has =
        let made = maker_taken problem hanging choices full a is_assignment satisfied db places is_database (row_for pair) two_below.clause table first_maker (is_database.absent (row_for pair) row has) in
        let one = row_there pair two_below.clause table first_maker made in
        let next = plain.body 0 pair two_below.clause table (f.Exists table both) inside two_there in
        let next_there : StandsPlain problem 0 (suc pair) next.clause (Formula-F.Exists table both) (inside ++ pair ∷ []) =
        subst (λ y. StandsPlain problem 0 (suc pair) next.clause y (inside ++ pair ∷ [])) (f.outs-Exists table both) next.stands in
        let next_taken = below_taken two_below.clause 0 (suc pair) (f.Exists table both) (inside ++ pair ∷ []) next
        (only_way pair two_below.clause (Formula-F.Exists table (f.Exists table both)) inside two_there refl made) in
        let other = row_there (suc pair) next.clause table (plain.row 0 (suc pair) next.clause table both (inside ++ pair ∷ []) next_there) next_taken in
        let last = plain.body 0 (suc pair) next.clause table both (inside ++ pair ∷ []) next_there in
        let last_taken = below_taken next.clause 0 (suc (suc pair)) both ((inside ++ pair ∷ []) ++ suc pair ∷ []) last
        (only_way (suc pair) next.clause (Formula-F.Exists table both) (inside ++ pair ∷ []) next_there refl next_taken) in
        let rows : rows_at ((inside ++ pair ∷ []) ++ suc pair ∷ []) ≡ first_rows ++ place_in table (place pair) ∷ place_in table (place (suc pair)) ∷ [] =
        more_rows (inside ++ pair ∷ []) (suc pair)
        ∙ (ap₂ (λ xs ys. xs ++ ys) (more_rows inside pair ∙ ap₂ (λ xs ys. xs ++ ys) rows_same one.is) other.is
        ∙ append_assoc first_rows (place_in table (place pair) ∷ []) (place_in table (place (suc pair)) ∷ [])) in
        record {
          first = one.low;
          second = other.low;
          fit = subst (λ rows. holds db both rows ≡ true) rows (holds_there (suc (suc pair)) last.clause both ((inside ++ pair ∷ []) ++ suc pair ∷ []) last.stands last_taken);
        }
      where
        more_rows : (nodes : List ℕ) (node : ℕ) → rows_at (nodes ++ node ∷ []) ≡ rows_at nodes ++ rows_at (node ∷ [])
        more_rows nodes node = ap (places_at terms places) (map-append row_for nodes (node ∷ [])) ∙ map-append _ (map row_for nodes) (row_for node ∷ [])

    front_is : take (length others) parts ≡ others
    front_is = front others (f.Or ways)
      where
        front : (gs : List Formula) (g : Formula) → take (length gs) (gs ++ g ∷ []) ≡ gs
        front [] g = refl
        front (h ∷ gs) g = ap (λ hs. h ∷ hs) (front gs g)

    pub pair_is : pair ≡ length lead + 2 + sum (map nodes others) + sum (map nodes (no_row ∷ []))
    pair_is = let before : sum (map nodes (take (length others) parts)) ≡ sum (map nodes others) = ap (λ gs. sum (map nodes gs)) front_is in omega arith
