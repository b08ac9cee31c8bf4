-- The atoms of literals that fit stand in the branch of the literals, and each edge that they ask for states a bound.
use Rattle.std.proofs.Common.{◌≡◌, ◌∙◌, sym, ap, refl, subst, ℕ, suc, ℤ, ◌≤ℤ◌, ◌+◌, ◌-◌, ◌^◌, ◌≤◌, ◌<◌, Bool, true, false, ◌&&◌, ◌||◌, inl, inr, List, [], ◌∷◌, length, map, pos, neg_ℤ, arith}
use Rattle.std.proofs.lemmas.Bool.{and_parts, and_from, or_cases}
use Rattle.std.proofs.lemmas.Bool.Decides.{Decides-int_eq}
use Rattle.std.proofs.lemmas.Int.{ints}
use Rattle.std.proofs.lemmas.List.Elements.{All-from_recursion, All-weaker, All-contains, All-map}
use Rattle.std.proofs.lemmas.Option.{option_and_then_some, same_Some, slice_get-map, slice_get_within}
use Rattle.std.specs.Prelude.{Option, Some, None, All, slice_get, option_and_then, unwrap_or, nat_eq}
use Rattle.std.specs.List.{list_all, AllByRecursion, Contains}
use Rattle.std.specs.Option.{option_map, option_map_or}
use Rattle.std.specs.Ordering.{int_eq}
use Rattle.diff_bounds.specs.System.{IsModerate}
use Rattle.lint_base.proofs.Lists.{all_at, every_append}
use Rattle.lint_core.specs.declared.certificate.SumEdge.{SumEdge}
use Rattle.lint_core.specs.declared.certificate.SumEdge.TheVariants as edge
use Rattle.lint_core.specs.declared.schema.Domain.{Domain}
use Rattle.lint_core.specs.declared.schema.Domain.TheVariants as domain
use Rattle.lint_core.specs.declared.schema.Unit.{Unit as Measure}
use Rattle.lint_core.specs.declared.schema.Unit.TheVariants.{Whole}
use Rattle.lint_core.specs.Database.{below}
use Rattle.lint_core.specs.Domain.{int_le}
use Rattle.lint_core.specs.Schema.{is_domain, is_signed_range}
use Rattle.lint_core.proofs.Lists.{below_at}
use Rattle.sort_formula.specs.declared.formula.Side.{Side}
use Rattle.sort_formula.specs.declared.formula.Side.TheVariants as side
use Rattle.sort_formula.specs.declared.formula.Atom.{Atom}
use Rattle.sort_formula.specs.declared.formula.Atom.TheVariants as atom
use Rattle.sort_formula.specs.declared.formula.Formula.{out-Formula}
use Rattle.sort_formula.specs.declared.formula.Formula.TheVariants as f
use Rattle.sort_formula.specs.Facts.{Fact, atom_of, atom_in, atom_at, side_at, same_rows_in, same_rows_of}
use Rattle.sort_formula.specs.Rings.{Bound, bound_in, low_bound, high_bound, same_bound}
use Rattle.ground_theory.specs.declared.literal.Frame.{Frame}
use Rattle.ground_theory.specs.declared.literal.Literal.{Literal}
use Rattle.ground_theory.specs.Assignments.{domains_at}
use Rattle.ground_theory.specs.Fitting.{is_range, has_ranges, has_domains, is_moderate, are_moderate, is_number, is_text, is_number_side, is_text_side, are_of_one_table, fits, all_fit}
use Rattle.ground_theory.specs.Edges.{side_edges, same_edges, edges_of, edges_from, sum_edges, domain_of, stated, bound, edge_of}
use Rattle.ground_theory.specs.Leaves.{literal_fact, literal_branch}
use Rattle.ground_theory.proofs.Bounds.{Has, has_from, InRange, domain_passes, is_low_from, is_high_from, is_same_from, is_back_from, domain_is, one_table, low_of, high_of, same_of}
use Rattle.ground_theory.proofs.Moving.{passes}
use Rattle.ground_theory.proofs.RightLeaves.{literal_of_fact}

-- a row with a domain is a row of the frame
domain_row : (frame : Frame) (row column : ℕ) (d : Domain) → slice_get (domains_at frame row) column ≡ Some d → row < length frame.tables
domain_row frame row column d at = go (slice_get frame.tables row) (λ t is. slice_get_within frame.tables row t is) at
  where
    go : (o : Option ℕ) → ((t : ℕ) → o ≡ Some t → row < length frame.tables) → slice_get (unwrap_or (option_and_then (slice_get frame.domains) o) []) column ≡ Some d → row < length frame.tables
    go None low at = cc
    go (Some t) low at = low t refl

-- the domain that passes
pub some_number : (o : Option Domain) → is_number o ≡ true → (d : Domain) × (o ≡ Some d)
some_number None is = cc
some_number (Some d) is = (d, refl)

pub some_text : (o : Option Domain) → is_text o ≡ true → (d : Domain) × (o ≡ Some d)
some_text None is = cc
some_text (Some d) is = (d, refl)

module _ (frame : Frame) where
  abbrev pub ids : List ℕ
  ids = below (length frame.tables)

  number_side : (s : Side) → is_number_side frame s ≡ true → side_at ids s ≡ Some s
  number_side (side.Cell row column) is =
      let d = some_number (slice_get (domains_at frame row) column) is in
      ap (option_and_then (λ r. Some (side.Cell r column))) (below_at (length frame.tables) row (domain_row frame row column d.0 d.1))
  number_side side.Zero is = refl
  number_side (side.Text text) is = cc

  text_side : (s : Side) → is_text_side frame s ≡ true → side_at ids s ≡ Some s
  text_side (side.Cell row column) is =
      let d = some_text (slice_get (domains_at frame row) column) is in
      ap (option_and_then (λ r. Some (side.Cell r column))) (below_at (length frame.tables) row (domain_row frame row column d.0 d.1))
  text_side side.Zero is = cc
  text_side (side.Text text) is = refl

  two_sides : (make : Side → Side → Atom) (left right : Side) → side_at ids left ≡ Some left → side_at ids right ≡ Some right →
      option_and_then (λ l. option_and_then (λ r. Some (make l r)) (side_at ids right)) (side_at ids left) ≡ Some (make left right)
  two_sides make left right first second =
      ap (option_and_then (λ l. option_and_then (λ r. Some (make l r)) (side_at ids right))) first ∙ ap (option_and_then (λ r. Some (make left r))) second

  -- ---- the atom of a literal

  module _ (literals : List Literal) (fact : ℕ) (l : Literal) (listed : slice_get literals fact ≡ Some l) where
    pub atom_is : atom_of (literal_branch frame literals) fact ≡ atom_at ids l.atom
    atom_is =
        ap (option_and_then (λ (x : Fact). atom_in x.rows (out-Formula x.formula))) (slice_get-map (literal_fact ids) literals fact ∙ ap (option_map (literal_fact ids)) listed)
        ∙ ap (atom_in ids) (f.outs-Atom l.atom)

    pub le_there : (left right : Side) (most : _) → l.atom ≡ atom.Le left right most → fits frame l.atom ≡ true → atom_of (literal_branch frame literals) fact ≡ Some (atom.Le left right most)
    le_there left right most is fit =
        let parts = and_parts (is_number_side frame left) (is_number_side frame right) (ap (fits frame) (sym is) ∙ fit) in
        atom_is ∙ (ap (atom_at ids) is ∙ two_sides (λ l r. atom.Le l r most) left right (number_side left parts.0) (number_side right parts.1))

    pub eq_there : (left right : Side) → l.atom ≡ atom.TextEq left right → fits frame l.atom ≡ true → atom_of (literal_branch frame literals) fact ≡ Some (atom.TextEq left right)
    eq_there left right is fit =
        let parts = and_parts (is_text_side frame left) (is_text_side frame right) (ap (fits frame) (sym is) ∙ fit) in
        atom_is ∙ (ap (atom_at ids) is ∙ two_sides atom.TextEq left right (text_side left parts.0) (text_side right parts.1))

    pub ne_there : (left right : Side) → l.atom ≡ atom.TextNe left right → fits frame l.atom ≡ true → atom_of (literal_branch frame literals) fact ≡ Some (atom.TextNe left right)
    ne_there left right is fit =
        let parts = and_parts (is_text_side frame left) (is_text_side frame right) (ap (fits frame) (sym is) ∙ fit) in
        atom_is ∙ (ap (atom_at ids) is ∙ two_sides atom.TextNe left right (text_side left parts.0) (text_side right parts.1))

    pub same_there : (row other : ℕ) → l.atom ≡ atom.Same row other → fits frame l.atom ≡ true → same_rows_of (literal_branch frame literals) fact ≡ Some (row, other)
    same_there row other is fit =
        let one : are_of_one_table frame row other ≡ true = ap (fits frame) (sym is) ∙ fit in
        let t = passes (λ t. option_map_or (nat_eq t) (slice_get frame.tables other) false) (slice_get frame.tables row) one in
        let row_low : row < length frame.tables = slice_get_within frame.tables row t.0 t.1 in
        let other_low : other < length frame.tables = slice_get_within frame.tables other t.0 (sym (one_table frame row other one) ∙ t.1) in
        ap (option_and_then same_rows_in)
        (atom_is ∙ (ap (atom_at ids) is
        ∙ (ap (option_and_then (λ r. option_and_then (λ s. Some (atom.Same r s)) (slice_get ids other))) (below_at (length frame.tables) row row_low)
        ∙ ap (option_and_then (λ s. Some (atom.Same row s))) (below_at (length frame.tables) other other_low))))

-- ---- the bounds of all edges

module _ (frame : Frame) (literals : List Literal) (all : all_fit frame literals ≡ true) where
  abbrev HasBound : SumEdge → Type 0
  HasBound e = Has frame literals e

  cell_has : (s : Side) → is_number_side frame s ≡ true → AllByRecursion HasBound (side_edges s)
  cell_has side.Zero is = tt
  cell_has (side.Text text) is = tt
  cell_has (side.Cell row column) is =
      let d = some_number (slice_get (domains_at frame row) column) is in
      go d.0 (domain_is frame literals row column ∙ d.1) (ap is_number (sym d.1) ∙ is)
    where
      go : (d : Domain) → domain_of frame literals row column ≡ Some d → is_number (Some d) ≡ true → AllByRecursion HasBound (side_edges (side.Cell row column))
      go (domain.Number least greatest unit) at number = (
        (has_from frame literals (edge.Low row column) (low_of row column least) (ap (option_and_then (low_bound row column)) at)).0,
        ((has_from frame literals (edge.High row column) (high_of row column greatest) (ap (option_and_then (high_bound row column)) at)).0, tt),
      )
      go (domain.Text length) at number = cc

  -- both ways in each number column
  same_has : (fact row other : ℕ) → same_rows_of (literal_branch frame literals) fact ≡ Some (row, other) → (column : ℕ) (ds : List Domain) →
      ((k : ℕ) (d : Domain) → slice_get ds k ≡ Some d → domain_of frame literals row (column + k) ≡ Some d) →
      AllByRecursion HasBound (same_edges fact column ds)
  same_has fact row other rows column [] at = tt
  same_has fact row other rows column (domain.Text length ∷ ds) at =
      same_has fact row other rows (suc column) ds (λ k d is. let e : column + suc k ≡ suc column + k = omega arith in subst (λ n. domain_of frame literals row n ≡ Some d) e (at (suc k) d is))
  same_has fact row other rows column (domain.Number least greatest unit ∷ ds) at =
      let plain : column + 0 ≡ column = omega arith in
      let here : domain_of frame literals row column ≡ Some (domain.Number least greatest unit) = subst (λ n. domain_of frame literals row n ≡ Some (domain.Number least greatest unit)) plain (at 0 (domain.Number least greatest unit) refl) in
      let forth = λ (rows : ℕ × ℕ). option_and_then (same_bound rows.0 rows.1 column) (domain_of frame literals rows.0 column) in
      let back = λ (rows : ℕ × ℕ). option_and_then (same_bound rows.1 rows.0 column) (domain_of frame literals rows.0 column) in (
        (has_from frame literals (edge.Same fact column) (same_of row other column) (ap (option_and_then forth) rows ∙ ap (option_and_then (same_bound row other column)) here)).0,
        (
          (has_from frame literals (edge.Back fact column) (same_of other row column) (ap (option_and_then back) rows ∙ ap (option_and_then (same_bound other row column)) here)).0,
          same_has fact row other rows (suc column) ds (λ k d is. let e : column + suc k ≡ suc column + k = omega arith in subst (λ n. domain_of frame literals row n ≡ Some d) e (at (suc k) d is)),
        ),
      )

  literal_has : (fact : ℕ) (l : Literal) → slice_get literals fact ≡ Some l → (x : Atom) → l.atom ≡ x → AllByRecursion HasBound (edges_of frame fact x)
  literal_has fact l listed x is = go x is (ap (fits frame) (sym is) ∙ fit)
    where
      fit : fits frame l.atom ≡ true
      fit = all_at (λ (l : Literal). fits frame l.atom) literals fact l all listed

      go : (x : Atom) → l.atom ≡ x → fits frame x ≡ true → AllByRecursion HasBound (edges_of frame fact x)
      go (atom.Le left right most) is good =
          let parts = and_parts (is_number_side frame left) (is_number_side frame right) good in (
            (has_from frame literals (edge.Fact fact) (record { left = left; right = right; most = most }) (ap (option_and_then bound_in) (le_there frame literals fact l listed left right most is fit))).0,
            every_append HasBound (side_edges left) (side_edges right) (cell_has left parts.0) (cell_has right parts.1),
          )
      go (atom.Same row other) is good =
          same_has fact row other (same_there frame literals fact l listed row other is fit) 0 (domains_at frame row)
          (λ k d at. let plain : k ≡ 0 + k = omega arith in subst (λ n. domain_of frame literals row n ≡ Some d) plain (domain_is frame literals row k ∙ at))
      go (atom.TextEq left right) is good = tt
      go (atom.TextNe left right) is good = tt
      go (atom.IsNull row column) is good = tt
      go (atom.NotNull row column) is good = tt
      go (atom.Other row other) is good = tt

  have_from : (i : ℕ) (ls : List Literal) → ((k : ℕ) (l : Literal) → slice_get ls k ≡ Some l → slice_get literals (i + k) ≡ Some l) → AllByRecursion HasBound (edges_from frame i ls)
  have_from i [] at = tt
  have_from i (l ∷ ls) at =
      let plain : i + 0 ≡ i = omega arith in
      every_append HasBound (edges_of frame i l.atom) (edges_from frame (suc i) ls)
      (literal_has i l (subst (λ n. slice_get literals n ≡ Some l) plain (at 0 l refl)) l.atom refl)
      (have_from (suc i) ls (λ k m is. let e : i + suc k ≡ suc i + k = omega arith in subst (λ n. slice_get literals n ≡ Some m) e (at (suc k) m is)))

  all_have : AllByRecursion HasBound (sum_edges frame literals)
  all_have = have_from 0 literals (λ k l is. let plain : k ≡ 0 + k = omega arith in subst (λ n. slice_get literals n ≡ Some l) plain is)

-- those of any part of them
wanted_have : (frame : Frame) (literals : List Literal) → all_fit frame literals ≡ true → (origins : List SumEdge) → All (Contains (sum_edges frame literals)) origins → All (Has frame literals) origins
wanted_have frame literals all origins wanted =
    let each = All-from_recursion (Has frame literals) (sum_edges frame literals) (all_have frame literals all) in
    All-weaker (Contains (sum_edges frame literals)) (Has frame literals) (λ o there. All-contains (Has frame literals) (sum_edges frame literals) o each there) origins wanted

-- ---- bounds that are not too large

-- the two ends of a range of numbers
record IsSmall (least greatest : ℤ) : Type 0 where
  least_small : neg_ℤ (pos (2 ^ 66)) ≤ℤ least
  least_large : least ≤ℤ pos (2 ^ 66)
  in_order : least ≤ℤ greatest
  greatest_large : neg_ℤ (pos (2 ^ 66)) ≤ℤ greatest
  greatest_small : greatest ≤ℤ pos (2 ^ 66)

small_range : (half : ℕ) (least greatest : ℤ) → half ≤ 2 ^ 66 → (int_eq least (neg_ℤ (pos half)) && int_eq greatest (pos (half - 1))) ≡ true → IsSmall least greatest
small_range half least greatest small range =
    let parts = and_parts (int_eq least (neg_ℤ (pos half))) (int_eq greatest (pos (half - 1))) range in
    let low : least ≡ neg_ℤ (pos half) = (Decides-int_eq least (neg_ℤ (pos half))).0 parts.0 in
    let high : greatest ≡ pos (half - 1) = (Decides-int_eq greatest (pos (half - 1))).0 parts.1 in
    record { least_small = omega (arith, ints); least_large = omega (arith, ints); in_order = omega (arith, ints); greatest_large = omega (arith, ints); greatest_small = omega (arith, ints) }

number_range : (least greatest : ℤ) → (is_signed_range 16 least greatest || is_signed_range 32 least greatest || is_signed_range 64 least greatest) ≡ true → IsSmall least greatest
number_range least greatest range =
    elim (or_cases (is_signed_range 16 least greatest || is_signed_range 32 least greatest) (is_signed_range 64 least greatest) range) [
      | inl fewer ↦ elim (or_cases (is_signed_range 16 least greatest) (is_signed_range 32 least greatest) fewer) [
        | inl first ↦ small_range (2 ^ 15) least greatest (omega arith) first
        | inr second ↦ small_range (2 ^ 31) least greatest (omega arith) second
      ]
      | inr third ↦ small_range (2 ^ 63) least greatest (omega arith) third
    ]

pub le_is : (a b : ℤ) → a ≤ℤ b → int_le a b ≡ true
le_is a b h = grind (arith, ints)

le_from : (a b : ℤ) → int_le a b ≡ true → a ≤ℤ b
le_from a b h = grind (arith, ints)

domain_range : (d : Domain) → is_domain d ≡ true → is_range d ≡ true
domain_range (domain.Number least greatest Whole) is = le_is least greatest (number_range least greatest is).in_order
domain_range (domain.Text length) is = refl

all_pass_by : {A : Type 0} (p q : A → Bool) → ((x : A) → p x ≡ true → q x ≡ true) → (xs : List A) → list_all p xs ≡ true → list_all q xs ≡ true
all_pass_by p q leads [] all = refl
all_pass_by p q leads (x ∷ xs) all =
    let parts = and_parts (p x) (list_all p xs) all in and_from (q x) (list_all q xs) (leads x parts.0) (all_pass_by p q leads xs parts.1)

pub domains_are_ranges : (frame : Frame) → has_domains frame ≡ true → has_ranges frame ≡ true
domains_are_ranges frame domains = all_pass_by (list_all is_domain) (list_all is_range) (all_pass_by is_domain is_range domain_range) frame.domains domains

module _ (frame : Frame) (literals : List Literal) (all : all_fit frame literals ≡ true) (domains : has_domains frame ≡ true) (moderate : are_moderate literals ≡ true) where
  abbrev IsSmallBound : Bound → Type 0
  IsSmallBound β = (neg_ℤ (pos (2 ^ 66)) ≤ℤ β.most) × (β.most ≤ℤ pos (2 ^ 66))

  range_small : (row column : ℕ) (least greatest : ℤ) → InRange frame literals row column least greatest → IsSmall least greatest
  range_small row column least greatest range = of_unit range.unit (domain_passes frame literals is_domain domains row column (domain.Number least greatest range.unit) range.domain)
    where
      of_unit : (unit : Measure) → is_domain (domain.Number least greatest unit) ≡ true → IsSmall least greatest
      of_unit Whole is = number_range least greatest is

  le_small : (x : Atom) (β : Bound) → is_moderate x ≡ true → bound_in x ≡ Some β → IsSmallBound β
  le_small (atom.Le left right most) β small is =
      let parts = and_parts (int_le (neg_ℤ (pos (2 ^ 66))) most) (int_le most (pos (2 ^ 66))) small in
      subst IsSmallBound (same_Some (record { left = left; right = right; most = most }) β is) (le_from (neg_ℤ (pos (2 ^ 66))) most parts.0, le_from most (pos (2 ^ 66)) parts.1)
  le_small (atom.TextEq left right) β small is = cc
  le_small (atom.TextNe left right) β small is = cc
  le_small (atom.IsNull row column) β small is = cc
  le_small (atom.NotNull row column) β small is = cc
  le_small (atom.Same row other) β small is = cc
  le_small (atom.Other row other) β small is = cc

  pub bound_small : (o : SumEdge) (β : Bound) → stated frame literals o ≡ Some β → IsSmallBound β
  bound_small (edge.Fact fact) β is =
      option_and_then_some bound_in (atom_of (literal_branch frame literals) fact) β is
      (λ x at more.
      let l = literal_of_fact frame literals fact x at in
      le_small x β (subst (λ (y : Atom). is_moderate y ≡ true) (sym l.2) (all_at (λ (l : Literal). is_moderate l.atom) literals fact l.0 moderate l.1)) more)
  bound_small (edge.Low row column) β is =
      let low = is_low_from frame literals row column β is in
      let small = range_small row column low.least low.greatest low.range in
      subst IsSmallBound (sym low.is) (turned low.least small.least_small small.least_large)
    where
      turned : (least : ℤ) → neg_ℤ (pos (2 ^ 66)) ≤ℤ least → least ≤ℤ pos (2 ^ 66) → (neg_ℤ (pos (2 ^ 66)) ≤ℤ neg_ℤ least) × (neg_ℤ least ≤ℤ pos (2 ^ 66))
      turned least low high = (omega (arith, ints), omega (arith, ints))
  bound_small (edge.High row column) β is =
      let high = is_high_from frame literals row column β is in
      let small = range_small row column high.least high.greatest high.range in
      subst IsSmallBound (sym high.is) (small.greatest_large, small.greatest_small)
  bound_small (edge.Same fact column) β is = subst IsSmallBound (sym (is_same_from frame literals all fact column β is).is) (omega (arith, ints), omega (arith, ints))
  bound_small (edge.Back fact column) β is = subst IsSmallBound (sym (is_back_from frame literals all fact column β is).is) (omega (arith, ints), omega (arith, ints))

pub systems_are_moderate : (frame : Frame) (literals : List Literal) (number : Side → ℕ) (origins : List SumEdge) →
    all_fit frame literals ≡ true → has_domains frame ≡ true → are_moderate literals ≡ true → All (Contains (sum_edges frame literals)) origins →
    All IsModerate (map (edge_of frame literals number) origins)
systems_are_moderate frame literals number origins all domains moderate wanted =
    All-map IsModerate (edge_of frame literals number) origins
    (All-weaker (Has frame literals) (λ o. IsModerate (edge_of frame literals number o))
    (λ o has. let small = bound_small frame literals all domains moderate o (bound frame literals o) has in record { low = small.0; high = small.1 })
    origins (wanted_have frame literals all origins wanted))
