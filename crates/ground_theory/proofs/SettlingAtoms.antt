-- The assignment that is made of what was found satisfies each literal.
use Rattle.std.proofs.Common.{◌≡◌, ◌∙◌, sym, ap, ap₂, refl, subst, ℕ, ℤ, pos, ◌+ℤ◌, ◌-ℤ◌, ◌≤ℤ◌, ◌<◌, ◌+◌, ◌*◌, Bool, true, false, not, ◌&&◌, List, [], ◌∷◌, ◌++◌, length, arith}
use Rattle.std.specs.Prelude.{Option, Some, None, slice_get, slice_index_or, unwrap_or}
use Rattle.std.specs.List.{Contains, list_all}
use Rattle.std.proofs.lemmas.Bool.{and_parts, not_from_false}
use Rattle.std.proofs.lemmas.Int.{ints}
use Rattle.std.proofs.lemmas.List.{get_or_default}
use Rattle.std.proofs.lemmas.List.Elements.{All-contains, Contains-append_left, Contains-append_right}
use Rattle.std.proofs.lemmas.Option.{slice_get-get_or, slice_get_within}
use Rattle.diff_bounds.specs.System.{value_in}
use Rattle.lint_base.proofs.Lists.{all_at, below_true, false_unless}
use Rattle.lint_core.specs.declared.database.Value.{Value}
use Rattle.lint_core.specs.declared.database.Value.TheVariants as value
use Rattle.lint_core.specs.declared.schema.Domain.{Domain}
use Rattle.lint_core.specs.declared.schema.Domain.TheVariants as domain
use Rattle.lint_core.specs.Comparison.{is_null}
use Rattle.sort_formula.specs.declared.formula.Side.{Side}
use Rattle.sort_formula.specs.declared.formula.Side.TheVariants as side
use Rattle.sort_formula.specs.declared.formula.Atom.{Atom}
use Rattle.sort_formula.specs.declared.formula.Atom.TheVariants as atom
use Rattle.sort_formula.specs.Holds.{differ_by_at_most, are_texts}
use Rattle.text_classes.specs.declared.facts.TextFact.{TextFact}
use Rattle.text_classes.specs.Answer.{text_in}
use Rattle.text_classes.specs.Texts.{Holds, text_of}
use Rattle.ground_theory.specs.declared.assignment.Solution.{Solution}
use Rattle.ground_theory.specs.declared.joining.Join.{Join}
use Rattle.ground_theory.specs.declared.joining.Joined.{Joined}
use Rattle.ground_theory.specs.declared.literal.Assignment.{Assignment}
use Rattle.ground_theory.specs.declared.literal.Frame.{Frame}
use Rattle.ground_theory.specs.declared.literal.Literal.{Literal}
use Rattle.ground_theory.specs.declared.numbering.Named.{Named}
use Rattle.ground_theory.specs.Assignments.{domains_at, cell_at, side_at, are_one, satisfies}
use Rattle.ground_theory.specs.Fitting.{fits, is_number, is_text, is_number_side, is_text_side, are_of_one_table, is_moderate}
use Rattle.ground_theory.specs.Judgeable.{is_frame, is_named_right, can_be_judged}
use Rattle.ground_theory.specs.inner.Found.{IsFound, all_facts}
use Rattle.ground_theory.specs.inner.Joining.{label_at}
use Rattle.ground_theory.specs.inner.Numbering.{number_at, named_at}
use Rattle.ground_theory.specs.inner.Sifting.{gathered, same_of, other_of, null_of, firm_of, firm_side, bound_of, cell_of}
use Rattle.ground_theory.specs.inner.Sums.{told, after, variable_of}
use Rattle.ground_theory.specs.inner.TextSystem.{said_fact, end_at, join_facts}
use Rattle.ground_theory.proofs.Entering.{fit, rows_there}
use Rattle.ground_theory.proofs.Facts.{le_is}
use Rattle.ground_theory.proofs.Gathering.{gathered_has}
use Rattle.ground_theory.proofs.Meant.{le_meant}
use Rattle.ground_theory.proofs.Named.{cell_there, columns_few}
use Rattle.ground_theory.proofs.SettlingCells.{labelled, firm_cell, value_is}
use Rattle.ground_theory.proofs.SettlingRows.{value_of, assigned, one_labels, one_from}
use Rattle.ground_theory.proofs.Stating.{firm_placed}

module _ (frame : Frame) (literals : List Literal) (joined : Joined) (s : Solution) (frame_is : is_frame frame ≡ true) (judged : list_all (can_be_judged frame) literals ≡ true)
    (found : IsFound frame literals joined s) where
  abbrev labels : List ℕ
  labels = joined.labels.items

  abbrev joins : List Join
  joins = joined.joins.items

  abbrev places : List (Option ℕ)
  places = s.numbering.places.items

  abbrev firms : List Named
  firms = gathered firm_of 0 literals

  abbrev given : Assignment
  given = assigned frame s labels

  abbrev number : ℕ → ℤ
  number = value_in s.numbers.items

  abbrev texts : ℕ → List ℕ
  texts = text_in s.labels.items s.texts.items

  module _ (k : ℕ) (l : Literal) (at : slice_get literals k ≡ Some l) where
    plain : k ≡ 0 + k
    plain = omega arith

    -- the cell of a row term that has one
    placed_is : (row column : ℕ) (d : Domain) → slice_get (domains_at frame row) column ≡ Some d → Contains (firm_of k l.atom) (record { fact = k; row = row; column = column }) →
        (n : ℕ) × (number_at places row column ≡ Some n) × (cell_at given row column ≡ value_of frame s (Some n) (Some d))
    placed_is row column d dom there =
        let low : row < length frame.tables = (cell_there frame frame_is row column (slice_get_within (domains_at frame row) column d dom)).0 in
        let placed = firm_placed frame literals (fit frame literals judged) (columns_few frame frame_is) labels found.joined_are.count firms refl places s.numbering.cells.items found.numbered k l row column at there
        (labelled frame literals joined s frame_is judged found row low) in
        (placed.0, placed.1, value_is frame literals joined s frame_is judged found row column low ∙ ap₂ (value_of frame s) placed.1 dom)

    -- ---- differences of numbers

    abbrev number_at_side : Side → ℤ
    number_at_side x = number (variable_of places (cell_of x)) -ℤ number 0

    number_side : (x : Side) → is_number_side frame x ≡ true → ((row column : ℕ) → x ≡ side.Cell row column → Contains (firm_of k l.atom) (record { fact = k; row = row; column = column })) →
        side_at given x ≡ value.Int (number_at_side x)
    number_side side.Zero is there = ap value.Int (nothing_left (number 0))
      where
        nothing_left : (z : ℤ) → pos 0 ≡ (z -ℤ z)
        nothing_left z = omega (arith, ints)
    number_side (side.Text text) is there = cc is
    number_side (side.Cell row column) is there = go (slice_get (domains_at frame row) column) refl is
      where
        go : (o : Option Domain) → slice_get (domains_at frame row) column ≡ o → is_number o ≡ true → cell_at given row column ≡ value.Int (number (after (number_at places row column)) -ℤ number 0)
        go None dom is = cc is
        go (Some (domain.Text size)) dom is = cc is
        go (Some (domain.Number least greatest unit)) dom is =
            let p = placed_is row column (domain.Number least greatest unit) dom (there row column refl) in
            p.2 ∙ ap (λ (o : Option ℕ). value.Int (number (after o) -ℤ number 0)) (sym p.1)

    itself : (row column : ℕ) (x : Side) → x ≡ side.Cell row column → Contains (firm_side k x) (record { fact = k; row = row; column = column })
    itself row column x e = subst (λ (x : Side). Contains (firm_side k x) (record { fact = k; row = row; column = column })) (sym e) (0, (let h : 0 < 1 = omega arith in h), refl)

    in_left : (left right : Side) → firm_of k l.atom ≡ firm_side k left ++ firm_side k right → (row column : ℕ) → left ≡ side.Cell row column → Contains (firm_of k l.atom) (record { fact = k; row = row; column = column })
    in_left left right is row column e =
        subst (λ (xs : List Named). Contains xs (record { fact = k; row = row; column = column })) (sym is)
        (Contains-append_left (firm_side k left) (firm_side k right) (record { fact = k; row = row; column = column }) (itself row column left e))

    in_right : (left right : Side) → firm_of k l.atom ≡ firm_side k left ++ firm_side k right → (row column : ℕ) → right ≡ side.Cell row column → Contains (firm_of k l.atom) (record { fact = k; row = row; column = column })
    in_right left right is row column e =
        subst (λ (xs : List Named). Contains xs (record { fact = k; row = row; column = column })) (sym is)
        (Contains-append_right (firm_side k left) (firm_side k right) (record { fact = k; row = row; column = column }) (itself row column right e))

    le_satisfied : (left right : Side) (most : ℤ) → l.atom ≡ atom.Le left right most → (is_number_side frame left && is_number_side frame right) ≡ true →
        differ_by_at_most (side_at given left) (side_at given right) most ≡ true
    le_satisfied left right most is fit_is =
        let parts = and_parts (is_number_side frame left) (is_number_side frame right) fit_is in
        let sides : firm_of k l.atom ≡ firm_side k left ++ firm_side k right = ap (firm_of k) is in
        let first = number_side left parts.0 (in_left left right sides) in
        let second = number_side right parts.1 (in_right left right sides) in
        let meant = le_meant frame literals labels places s.numbering.cells.items (gathered bound_of 0 literals) joins refl (length s.numbering.cells.items + 1) s.numbers.items found.numbers k l left right most at is in
        ap₂ (λ (v w : Value). differ_by_at_most v w most) first second
        ∙ le_is (number_at_side left -ℤ number_at_side right) most (apart (number (variable_of places (cell_of left))) (number (variable_of places (cell_of right))) (number 0) most meant)
      where
        apart : (a b z m : ℤ) → a ≤ℤ (b +ℤ m) → ((a -ℤ z) -ℤ (b -ℤ z)) ≤ℤ m
        apart a b z m h = omega (arith, ints)

    -- ---- texts

    text_side : (x : Side) → is_text_side frame x ≡ true → ((row column : ℕ) → x ≡ side.Cell row column → Contains (firm_of k l.atom) (record { fact = k; row = row; column = column })) →
        side_at given x ≡ value.Text (text_of texts (end_at places x))
    text_side side.Zero is there = cc is
    text_side (side.Text text) is there = refl
    text_side (side.Cell row column) is there = go (slice_get (domains_at frame row) column) refl is
      where
        go : (o : Option Domain) → slice_get (domains_at frame row) column ≡ o → is_text o ≡ true → cell_at given row column ≡ value.Text (texts (unwrap_or (number_at places row column) 0))
        go None dom is = cc is
        go (Some (domain.Number least greatest unit)) dom is = cc is
        go (Some (domain.Text size)) dom is =
            let p = placed_is row column (domain.Text size) dom (there row column refl) in
            p.2 ∙ ap (λ (o : Option ℕ). value.Text (texts (unwrap_or o 0))) (sym p.1)

    text_said : (f : TextFact) → said_fact places k l.atom ≡ f ∷ [] → Holds texts f
    text_said f is =
        let told_f : Contains (said_fact places (0 + k) l.atom) f =
        subst (λ (n : ℕ). Contains (said_fact places n l.atom) f) plain (subst (λ (fs : List TextFact). Contains fs f) (sym is) (0, (let h : 0 < 1 = omega arith in h), refl)) in
        let said : List TextFact = gathered (said_fact places) 0 literals in
        All-contains (Holds texts) (all_facts frame literals joins s.numbering) f found.texts
        (Contains-append_left said (told (join_facts frame places) 0 joins) f (gathered_has (said_fact places) literals 0 k l f at told_f))

    texts_satisfied : (left right : Side) (equal : Bool) (test : Bool → Bool) → test equal ≡ true → firm_of k l.atom ≡ firm_side k left ++ firm_side k right →
        said_fact places k l.atom ≡ record { left = end_at places left; right = end_at places right; equal = equal } ∷ [] →
        (is_text_side frame left && is_text_side frame right) ≡ true → are_texts test (side_at given left) (side_at given right) ≡ true
    texts_satisfied left right equal test test_is sides said fit_is =
        let parts = and_parts (is_text_side frame left) (is_text_side frame right) fit_is in
        let first = text_side left parts.0 (in_left left right sides) in
        let second = text_side right parts.1 (in_right left right sides) in
        let true_one = text_said (record { left = end_at places left; right = end_at places right; equal = equal }) said in
        ap₂ (are_texts test) first second ∙ (ap test true_one ∙ test_is)

    -- ---- NULL

    module _ {X : Type 0} (of : ℕ → Atom → List X) (none x : X) where
      named_in : of k l.atom ≡ x ∷ [] → (i : ℕ) × (i < length (gathered of 0 literals)) × (slice_index_or (gathered of 0 literals) i none ≡ x)
      named_in is =
          let told_x : Contains (of (0 + k) l.atom) x = subst (λ (n : ℕ). Contains (of n l.atom) x) plain (subst (λ (xs : List X). Contains xs x) (sym is) (0, (let h : 0 < 1 = omega arith in h), refl)) in
          let listed = gathered_has of literals 0 k l x at told_x in
          (listed.0, listed.1, get_or_default (gathered of 0 literals) listed.0 none x listed.1 ∙ listed.2)

    null_satisfied : (row column : ℕ) → l.atom ≡ atom.IsNull row column → column < length (domains_at frame row) → is_null (cell_at given row column) ≡ true
    null_satisfied row column is within =
        let there = cell_there frame frame_is row column within in
        ap is_null (value_is frame literals joined s frame_is judged found row column there.0) ∙ go (number_at places row column) refl (slice_get (domains_at frame row) column)
      where
        none : Named
        none = record { fact = 0; row = 0; column = 0 }

        go : (o : Option ℕ) → number_at places row column ≡ o → (d : Option Domain) → is_null (value_of frame s o d) ≡ true
        go o some None = refl
        go None some (Some d) = refl
        go (Some n) some (Some d) =
            let there = cell_there frame frame_is row column within in
            let x : Named = record { fact = k; row = row; column = column } in
            let null = named_in null_of none x (ap (null_of k) is) in
            let firm = firm_cell frame literals joined s frame_is judged found row column n there.1 some in
            let place : label_at labels (named_at (gathered null_of 0 literals) null.0).row ≡ label_at labels (named_at firms firm.place).row =
            ap (λ (y : Named). label_at labels y.row) null.2 ∙ sym firm.label in
            let second : (named_at (gathered null_of 0 literals) null.0).column ≡ (named_at firms firm.place).column = ap (λ (y : Named). y.column) null.2 ∙ sym firm.column_is in
            absurd (found.firm null.0 firm.place null.1 firm.listed (ap₂ (λ (r c : ℕ). r * 64 + c) place second))

    not_null_satisfied : (row column : ℕ) → l.atom ≡ atom.NotNull row column → column < length (domains_at frame row) → not (is_null (cell_at given row column)) ≡ true
    not_null_satisfied row column is within =
        let d : Domain = slice_index_or (domains_at frame row) column (domain.Text 0) in
        let x : Named = record { fact = k; row = row; column = column } in
        let p = placed_is row column d (slice_get-get_or (domains_at frame row) column (domain.Text 0) within)
        (subst (λ (xs : List Named). Contains xs x) (sym (ap (firm_of k) is)) (0, (let h : 0 < 1 = omega arith in h), refl)) in
        ap (λ (v : Value). not (is_null v)) p.2 ∙ full p.0 d
      where
        full : (n : ℕ) (d : Domain) → not (is_null (value_of frame s (Some n) (Some d))) ≡ true
        full n (domain.Number least greatest unit) = refl
        full n (domain.Text size) = refl

    -- ---- rows that are one, and that are not

    same_satisfied : (row other : ℕ) → l.atom ≡ atom.Same row other → are_of_one_table frame row other ≡ true → are_one given row other ≡ true
    same_satisfied row other is table =
        let there = rows_there frame row other table in
        let j : Join = record { fact = k; row = row; other = other } in
        let listed = named_in same_of (record { fact = 0; row = 0; other = 0 }) j (ap (same_of k) is) in
        let same : label_at labels row ≡ label_at labels other =
        subst (λ (j : Join). label_at labels j.row ≡ label_at labels j.other) listed.2 (found.joined_are.joined listed.0 listed.1) in
        one_from frame s labels row other (labelled frame literals joined s frame_is judged found row there.0) (labelled frame literals joined s frame_is judged found other there.1) same

    other_satisfied : (row other : ℕ) → l.atom ≡ atom.Other row other → not (are_one given row other) ≡ true
    other_satisfied row other is =
        let j : Join = record { fact = k; row = row; other = other } in
        let listed = named_in other_of (record { fact = 0; row = 0; other = 0 }) j (ap (other_of k) is) in
        let never : label_at labels row ≡ label_at labels other → ⊥ =
        subst (λ (j : Join). label_at labels j.row ≡ label_at labels j.other → ⊥) listed.2 (found.apart listed.0 listed.1) in
        not_from_false (are_one given row other) (false_unless (are_one given row other) (λ one. never (one_labels frame s labels row other one).same))

    -- ---- each literal

    pub atom_satisfied : satisfies given l.atom ≡ true
    atom_satisfied =
        let first = and_parts (is_named_right frame l.atom) (fits frame l.atom && is_moderate l.atom) (all_at (can_be_judged frame) literals k l judged at) in
        let second = and_parts (fits frame l.atom) (is_moderate l.atom) first.1 in
        go l.atom refl first.0 second.0
      where
        go : (x : Atom) → l.atom ≡ x → is_named_right frame x ≡ true → fits frame x ≡ true → satisfies given x ≡ true
        go (atom.Le left right most) is named fit_is = le_satisfied left right most is fit_is
        go (atom.TextEq left right) is named fit_is = texts_satisfied left right true (λ same. same) refl (ap (firm_of k) is) (ap (said_fact places k) is) fit_is
        go (atom.TextNe left right) is named fit_is = texts_satisfied left right false not refl (ap (firm_of k) is) (ap (said_fact places k) is) fit_is
        go (atom.IsNull row column) is named fit_is = null_satisfied row column is (below_true column (length (domains_at frame row)) named)
        go (atom.NotNull row column) is named fit_is = not_null_satisfied row column is (below_true column (length (domains_at frame row)) named)
        go (atom.Same row other) is named fit_is = same_satisfied row other is fit_is
        go (atom.Other row other) is named fit_is = other_satisfied row other is
