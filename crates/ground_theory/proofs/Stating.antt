-- Each edge that is listed states its bound between the sides of its variables.
use Rattle.std.proofs.Common.{◌≡◌, ◌⊎◌, ◌∙◌, sym, ap, refl, subst, ℕ, zero, suc, ℤ, pos, neg_ℤ, ◌<◌, ◌+◌, ◌*◌, Bool, true, false, List, [], ◌∷◌, ◌++◌, length, inl, inr, arith}
use Rattle.std.specs.Prelude.{Option, Some, None, slice_get, option_and_then, unwrap_or, nat_eq, if◌then◌else◌}
use Rattle.std.specs.List.{Contains}
use Rattle.std.proofs.lemmas.Bool.{and_parts}
use Rattle.std.proofs.lemmas.List.{get_or_default}
use Rattle.std.proofs.lemmas.List.Elements.{Contains-append_cases, Contains-append_left, Contains-append_right}
use Rattle.std.proofs.lemmas.Option.{slice_get_within, get_or_from_slice_get}
use Rattle.lint_base.proofs.Lists.{all_at}
use Rattle.lint_core.specs.declared.certificate.SumEdge.{SumEdge}
use Rattle.lint_core.specs.declared.certificate.SumEdge.TheVariants as edge
use Rattle.lint_core.specs.declared.schema.Domain.{Domain}
use Rattle.lint_core.specs.declared.schema.Domain.TheVariants as domain
use Rattle.sort_formula.specs.declared.formula.Side.{Side}
use Rattle.sort_formula.specs.declared.formula.Side.TheVariants as side
use Rattle.sort_formula.specs.declared.formula.Atom.{Atom}
use Rattle.sort_formula.specs.declared.formula.Atom.TheVariants as atom
use Rattle.sort_formula.specs.Facts.{same_rows_of}
use Rattle.sort_formula.specs.Rings.{Bound as Stating, bound_in, low_bound, high_bound, same_bound}
use Rattle.ground_theory.specs.declared.joining.Join.{Join}
use Rattle.ground_theory.specs.declared.literal.Frame.{Frame}
use Rattle.ground_theory.specs.declared.literal.Literal.{Literal}
use Rattle.ground_theory.specs.declared.numbering.Cell.{Cell}
use Rattle.ground_theory.specs.declared.numbering.Named.{Named}
use Rattle.ground_theory.specs.declared.numbers.Stated.{Stated}
use Rattle.ground_theory.specs.declared.sifting.Bound.{Bound}
use Rattle.ground_theory.specs.Assignments.{domains_at}
use Rattle.ground_theory.specs.Edges.{domain_of, stated}
use Rattle.ground_theory.specs.Fitting.{is_number, is_number_side, fits, all_fit}
use Rattle.ground_theory.specs.Leaves.{literal_branch}
use Rattle.ground_theory.specs.inner.Joining.{label_at, join_at}
use Rattle.ground_theory.specs.inner.Numbering.{label_of, number_at, cell_at, named_at, IsPlaced, IsNumbered}
use Rattle.ground_theory.specs.inner.Paths.{AreRooted}
use Rattle.ground_theory.specs.inner.Sifting.{gathered, firm_of, firm_side, bound_of, cell_of}
use Rattle.ground_theory.specs.inner.Sums.{told, after, variable_of, bound_stated, ranges, range_of, low_stated, high_stated, equal_stated, same_at, same_between, join_stated, HaveColumns}
use Rattle.ground_theory.specs.inner.Systems.{variable_side, IsRight}
use Rattle.ground_theory.proofs.Bounds.{domain_is}
use Rattle.ground_theory.proofs.Facts.{le_there, same_there, some_number}
use Rattle.ground_theory.proofs.Gathering.{gathered_from, gathered_has}
use Rattle.ground_theory.proofs.Placing.{one_place}
use Rattle.ground_theory.proofs.Telling.{told_from}

-- a row with a domain is a row of the frame
pub domain_row : (frame : Frame) (row column : ℕ) (d : Domain) → slice_get (domains_at frame row) column ≡ Some d → row < length frame.tables
domain_row frame row column d at = go (slice_get frame.tables row) (λ t is. slice_get_within frame.tables row t is) at
  where
    go : (o : Option ℕ) → ((t : ℕ) → o ≡ Some t → row < length frame.tables) → slice_get (unwrap_or (option_and_then (slice_get frame.domains) o) []) column ≡ Some d → row < length frame.tables
    go None low at = cc
    go (Some t) low at = low t refl

pub only : {X : Type 0} (x s : X) → Contains (x ∷ []) s → x ≡ s
only x s (zero, h, is) = is
only x s (suc k, h, is) = absurd (omega arith)

either : {X : Type 0} (x y s : X) → Contains (x ∷ y ∷ []) s → (x ≡ s) ⊎ (y ≡ s)
either x y s (zero, h, is) = inl is
either x y s (suc zero, h, is) = inr is
either x y s (suc (suc k), h, is) = absurd (omega arith)

pub nothing : {X : Type 0} (s : X) → Contains [] s → ⊥
nothing s there = (let h : there.0 < 0 = there.1 in omega arith)

module _ (frame : Frame) (literals : List Literal) (all : all_fit frame literals ≡ true) (columns : HaveColumns frame)
    (labels : List ℕ) (rows_is : length labels ≡ length frame.tables) (firms : List Named) (firms_is : firms ≡ gathered firm_of 0 literals)
    (places : List (Option ℕ)) (cells : List Cell) (numbered : IsNumbered labels firms (length firms) places cells) where
  fit_at : (k : ℕ) (l : Literal) → slice_get literals k ≡ Some l → fits frame l.atom ≡ true
  fit_at k l at = all_at (λ (l : Literal). fits frame l.atom) literals k l all at

  -- a variable of a cell
  pub record IsVariable (v : ℕ) (s : Side) : Type 0 where
    pub side : variable_side cells v ≡ s
    pub low : v < length cells + 1

  pub cell_variable : (row column n : ℕ) → number_at places row column ≡ Some n → column < 64 → IsVariable (n + 1) (side.Cell row column)
  cell_variable row column n some c =
      let placed = numbered.numbering.placed (row * 64 + column) n some in
      let kept = numbered.numbering.kept n placed.0 in
      let one = one_place (cell_at cells n).row (cell_at cells n).column row column kept.column c placed.1 in
      let next : n + 1 ≡ suc n = omega arith in
      record {
        side = ap (variable_side cells) next ∙ (ap (λ (r : ℕ). side.Cell r (cell_at cells n).column) one.0 ∙ ap (λ (k : ℕ). side.Cell row k) one.1);
        low = (let h : n < length cells = placed.0 in omega arith);
      }

  listed_variable : (n : ℕ) (cell : Cell) → slice_get cells n ≡ Some cell → IsVariable (n + 1) (side.Cell cell.row cell.column)
  listed_variable n cell at =
      let is : cell_at cells n ≡ cell = get_or_from_slice_get cells n cell (record { row = 0; column = 0 }) at in
      let next : n + 1 ≡ suc n = omega arith in
      record {
        side = ap (variable_side cells) next ∙ ap (λ (c : Cell). side.Cell c.row c.column) is;
        low = (let h : n < length cells = slice_get_within cells n cell at in omega arith);
      }

  -- a cell that a literal names has a variable
  pub firm_placed : (k : ℕ) (l : Literal) (row column : ℕ) → slice_get literals k ≡ Some l → Contains (firm_of k l.atom) (record { fact = k; row = row; column = column }) → row < length labels →
      IsPlaced places row column
  firm_placed k l row column at there row_in =
      let x : Named = record { fact = k; row = row; column = column } in
      let in_all : Contains firms x = subst (λ (fs : List Named). Contains fs x) (sym firms_is) (gathered_has firm_of literals 0 k l x at
      (subst (λ (n : ℕ). Contains (firm_of n l.atom) x) (let e : k ≡ 0 + k = omega arith in e) there)) in
      let is : named_at firms in_all.0 ≡ x = get_or_default firms in_all.0 (record { fact = 0; row = 0; column = 0 }) x in_all.1 ∙ in_all.2 in
      subst (λ (c : ℕ). IsPlaced places row c) (ap (λ (m : Named). m.column) is)
      (numbered.placed in_all.0 in_all.1 row row_in (sym (ap (λ (m : Named). label_of labels m.row) is)))

  number_cell : (row column : ℕ) → is_number (slice_get (domains_at frame row) column) ≡ true → (row < length labels) × (column < 64)
  number_cell row column is =
      let d = some_number (slice_get (domains_at frame row) column) is in
      let low : row < length frame.tables = domain_row frame row column d.0 d.1 in
      let within : column < length (domains_at frame row) = slice_get_within (domains_at frame row) column d.0 d.1 in
      let few = columns row in
      (omega arith, omega arith)

  -- a side of a Le has its variable
  side_variable : (k : ℕ) (l : Literal) (s : Side) → slice_get literals k ≡ Some l → is_number_side frame s ≡ true →
      ((row column : ℕ) → s ≡ side.Cell row column → Contains (firm_of k l.atom) (record { fact = k; row = row; column = column })) → IsVariable (variable_of places (cell_of s)) s
  side_variable k l side.Zero at is there = record { side = refl; low = omega arith }
  side_variable k l (side.Text text) at is there = cc is
  side_variable k l (side.Cell row column) at is there =
      let both = number_cell row column is in
      let placed = firm_placed k l row column at (there row column refl) both.0 in
      subst (λ (o : Option ℕ). IsVariable (after o) (side.Cell row column)) (sym placed.1) (cell_variable row column placed.0 placed.1 both.1)

  abbrev stating : Side → Side → ℤ → Stating
  stating a b most = record { left = a; right = b; most = most }

  right : (o : SumEdge) (v w : ℕ) (most : ℤ) (a b : Side) → IsVariable v a → IsVariable w b → stated frame literals o ≡ Some (stating a b most) →
      IsRight frame literals cells (record { origin = o; edge = record { left = v; right = w; most = most } })
  right o v w most a b first second is = record {
    states = is ∙ (ap (λ (s : Side). Some (stating s b most)) (sym first.side) ∙ ap (λ (s : Side). Some (stating (variable_side cells v) s most)) (sym second.side));
    among = record { left = first.low; right = second.low };
  }

  zero_variable : IsVariable 0 side.Zero
  zero_variable = record { side = refl; low = omega arith }

  -- ---- bounds of literals

  bound_right : (bounds : List Bound) → bounds ≡ gathered bound_of 0 literals → (s : Stated) → Contains (told (bound_stated places) 0 bounds) s → IsRight frame literals cells s
  bound_right bounds bounds_is s there =
      let from = told_from (bound_stated places) bounds 0 s there in
      let b : Bound = from.1 in
      let s_is = only (record { origin = edge.Fact b.fact; edge = record { left = variable_of places b.left; right = variable_of places b.right; most = b.most } }) s from.3 in
      let listed : Contains bounds b = (from.0, slice_get_within bounds from.0 b from.2, get_or_from_slice_get bounds from.0 b b from.2) in
      let root = gathered_from bound_of literals 0 b (subst (λ (bs : List Bound). Contains bs b) bounds_is listed) in
      let k : ℕ = root.0 in
      let zero_k : 0 + k ≡ k = omega arith in
      subst (IsRight frame literals cells) s_is (go k root.1 b root.1.atom refl root.2 (subst (λ (n : ℕ). Contains (bound_of n root.1.atom) b) zero_k root.3))
    where
      made : Bound → Stated
      made b = record { origin = edge.Fact b.fact; edge = record { left = variable_of places b.left; right = variable_of places b.right; most = b.most } }

      go : (k : ℕ) (l : Literal) (b : Bound) (x : Atom) → l.atom ≡ x → slice_get literals k ≡ Some l → Contains (bound_of k x) b →
          IsRight frame literals cells (record { origin = edge.Fact b.fact; edge = record { left = variable_of places b.left; right = variable_of places b.right; most = b.most } })
      go k l b (atom.Le left right_side most) is at told_b =
          let fit = fit_at k l at in
          let parts = and_parts (is_number_side frame left) (is_number_side frame right_side) (ap (fits frame) (sym is) ∙ fit) in
          let there : (s : Side) (row column : ℕ) → Contains (firm_side k s) (record { fact = k; row = row; column = column }) → (s ≡ left) ⊎ (s ≡ right_side) → Contains (firm_of k l.atom) (record { fact = k; row = row; column = column }) =
          λ s row column one which.
          let x : Named = record { fact = k; row = row; column = column } in
          subst (λ (a : Atom). Contains (firm_of k a) x) (sym is) (elim which [
            | inl e ↦ Contains-append_left (firm_side k left) (firm_side k right_side) x (subst (λ (s : Side). Contains (firm_side k s) x) e one)
            | inr e ↦ Contains-append_right (firm_side k left) (firm_side k right_side) x (subst (λ (s : Side). Contains (firm_side k s) x) e one)
          ]) in
          let itself : (row column : ℕ) (s : Side) → s ≡ side.Cell row column → Contains (firm_side k s) (record { fact = k; row = row; column = column }) =
          λ row column s e. subst (λ (s : Side). Contains (firm_side k s) (record { fact = k; row = row; column = column })) (sym e) (0, (let h : 0 < 1 = omega arith in h), refl) in
          let first = side_variable k l left at parts.0 (λ row column e. there left row column (itself row column left e) (inl refl)) in
          let second = side_variable k l right_side at parts.1 (λ row column e. there right_side row column (itself row column right_side e) (inr refl)) in
          let b_is = only (record { fact = k; left = cell_of left; right = cell_of right_side; most = most }) b told_b in
          subst (λ (b : Bound). IsRight frame literals cells (record { origin = edge.Fact b.fact; edge = record { left = variable_of places b.left; right = variable_of places b.right; most = b.most } })) b_is
          (right (edge.Fact k) (variable_of places (cell_of left)) (variable_of places (cell_of right_side)) most left right_side first second
          (ap (option_and_then bound_in) (le_there frame literals k l at left right_side most is fit)))
      go k l b (atom.TextEq left right_side) is at told_b = absurd (nothing b told_b)
      go k l b (atom.TextNe left right_side) is at told_b = absurd (nothing b told_b)
      go k l b (atom.IsNull row column) is at told_b = absurd (nothing b told_b)
      go k l b (atom.NotNull row column) is at told_b = absurd (nothing b told_b)
      go k l b (atom.Same row other) is at told_b = absurd (nothing b told_b)
      go k l b (atom.Other row other) is at told_b = absurd (nothing b told_b)

  -- ---- domains

  range_right : (s : Stated) → Contains (told (range_of frame labels) 0 cells) s → IsRight frame literals cells s
  range_right s there =
      let from = told_from (range_of frame labels) cells 0 s there in
      let cell : Cell = from.1 in
      let plain : 0 + from.0 ≡ from.0 = omega arith in
      by_test from.0 cell from.2 (nat_eq (label_at labels cell.row) cell.row) (subst (λ (n : ℕ). Contains (range_of frame labels n cell) s) plain from.3)
    where
      by_domain : (n : ℕ) (cell : Cell) → slice_get cells n ≡ Some cell → (o : Option Domain) → slice_get (domains_at frame cell.row) cell.column ≡ o → Contains (ranges cell (n + 1) o) s → IsRight frame literals cells s
      by_domain n cell at None is there = absurd (nothing s there)
      by_domain n cell at (Some (domain.Text size)) is there = absurd (nothing s there)
      by_domain n cell at (Some (domain.Number least greatest unit)) is there =
          let v = listed_variable n cell at in
          let d = domain_is frame literals cell.row cell.column ∙ is in
          elim (either (low_stated cell (n + 1) least) (high_stated cell (n + 1) greatest) s there) [
            | inl e ↦ subst (IsRight frame literals cells) e (right (edge.Low cell.row cell.column) 0 (n + 1) (neg_ℤ least) side.Zero (side.Cell cell.row cell.column) zero_variable v (ap (option_and_then (low_bound cell.row cell.column)) d))
            | inr e ↦ subst (IsRight frame literals cells) e (right (edge.High cell.row cell.column) (n + 1) 0 greatest (side.Cell cell.row cell.column) side.Zero v zero_variable (ap (option_and_then (high_bound cell.row cell.column)) d))
          ]

      by_test : (n : ℕ) (cell : Cell) → slice_get cells n ≡ Some cell → (b : Bool) → Contains (if b then ranges cell (n + 1) (slice_get (domains_at frame cell.row) cell.column) else []) s → IsRight frame literals cells s
      by_test n cell at true there = by_domain n cell at (slice_get (domains_at frame cell.row) cell.column) refl there
      by_test n cell at false there = absurd (nothing s there)

  -- ---- rows that are one

  join_right : (joins : List Join) → AreRooted literals joins → (s : Stated) → Contains (told (join_stated frame places) 0 joins) s → IsRight frame literals cells s
  join_right joins rooted s there =
      let from = told_from (join_stated frame places) joins 0 s there in
      let j : Join = from.1 in
      let inner = told_from (same_at places j) (domains_at frame j.row) 0 s from.3 in
      let plain : 0 + inner.0 ≡ inner.0 = omega arith in
      let j_is : join_at joins from.0 ≡ j = get_or_from_slice_get joins from.0 j (record { fact = 0; row = 0; other = 0 }) from.2 in
      let root = rooted from.0 (slice_get_within joins from.0 j from.2) in
      let at : slice_get literals j.fact ≡ Some root.0 = ap (λ (j : Join). slice_get literals j.fact) (sym j_is) ∙ root.1 in
      let is : root.0.atom ≡ atom.Same j.row j.other = root.2 ∙ ap (λ (j : Join). atom.Same j.row j.other) j_is in
      by_domain j inner.0 inner.1 inner.2 (same_there frame literals j.fact root.0 at j.row j.other is (fit_at j.fact root.0 at)) (subst (λ (n : ℕ). Contains (same_at places j n inner.1) s) plain inner.3)
    where
      by_numbers : (j : Join) (column : ℕ) (d : Domain) (least greatest : ℤ) (unit : _) → d ≡ domain.Number least greatest unit → slice_get (domains_at frame j.row) column ≡ Some d →
          same_rows_of (literal_branch frame literals) j.fact ≡ Some (j.row, j.other) → (o p : Option ℕ) → number_at places j.row column ≡ o → number_at places j.other column ≡ p →
          Contains (same_between j column o p) s → IsRight frame literals cells s
      by_numbers j column d least greatest unit d_is at rows None p first second there = absurd (nothing s there)
      by_numbers j column d least greatest unit d_is at rows (Some n) None first second there = absurd (nothing s there)
      by_numbers j column d least greatest unit d_is at rows (Some n) (Some m) first second there =
          let within : column < length (domains_at frame j.row) = slice_get_within (domains_at frame j.row) column d at in
          let few = columns j.row in
          let c : column < 64 = omega arith in
          let v = cell_variable j.row column n first c in
          let w = cell_variable j.other column m second c in
          let dom : domain_of frame literals j.row column ≡ Some (domain.Number least greatest unit) = domain_is frame literals j.row column ∙ (at ∙ ap Some d_is) in
          elim (either (equal_stated (edge.Same j.fact column) (n + 1) (m + 1)) (equal_stated (edge.Back j.fact column) (m + 1) (n + 1)) s there) [
            | inl e ↦ subst (IsRight frame literals cells) e (right (edge.Same j.fact column) (n + 1) (m + 1) (pos 0) (side.Cell j.row column) (side.Cell j.other column) v w
                (ap (option_and_then (λ (rows : ℕ × ℕ). option_and_then (same_bound rows.0 rows.1 column) (domain_of frame literals rows.0 column))) rows ∙ ap (option_and_then (same_bound j.row j.other column)) dom))
            | inr e ↦ subst (IsRight frame literals cells) e (right (edge.Back j.fact column) (m + 1) (n + 1) (pos 0) (side.Cell j.other column) (side.Cell j.row column) w v
                (ap (option_and_then (λ (rows : ℕ × ℕ). option_and_then (same_bound rows.1 rows.0 column) (domain_of frame literals rows.0 column))) rows ∙ ap (option_and_then (same_bound j.other j.row column)) dom))
          ]

      by_domain : (j : Join) (column : ℕ) (d : Domain) → slice_get (domains_at frame j.row) column ≡ Some d → same_rows_of (literal_branch frame literals) j.fact ≡ Some (j.row, j.other) →
          Contains (same_at places j column d) s → IsRight frame literals cells s
      by_domain j column (domain.Text size) at rows there = absurd (nothing s there)
      by_domain j column (domain.Number least greatest unit) at rows there =
          by_numbers j column (domain.Number least greatest unit) least greatest unit refl at rows (number_at places j.row column) (number_at places j.other column) refl refl there

  -- every edge that is listed
  pub all_right : (bounds : List Bound) → bounds ≡ gathered bound_of 0 literals → (joins : List Join) → AreRooted literals joins → (s : Stated) →
      Contains (told (bound_stated places) 0 bounds ++ (told (range_of frame labels) 0 cells ++ told (join_stated frame places) 0 joins)) s → IsRight frame literals cells s
  all_right bounds bounds_is joins rooted s there =
      elim (Contains-append_cases (told (bound_stated places) 0 bounds) (told (range_of frame labels) 0 cells ++ told (join_stated frame places) 0 joins) s there) [
        | inl first ↦ bound_right bounds bounds_is s first
        | inr rest ↦ elim (Contains-append_cases (told (range_of frame labels) 0 cells) (told (join_stated frame places) 0 joins) s rest) [
          | inl second ↦ range_right s second
          | inr third ↦ join_right joins rooted s third
        ]
      ]
