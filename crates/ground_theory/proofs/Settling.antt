-- What is found of literals that contradict nothing is a solution, and the assignment that is made of it settles them.
use Rattle.std.proofs.Common.{◌≡◌, ◌∙◌, sym, ap, ap₂, refl, subst, ℕ, suc, ℤ, pos, neg_ℤ, ◌≤ℤ◌, ◌<◌, ◌≤◌, ◌+◌, ◌-◌, ◌*◌, ◌^◌, Bool, true, ◌&&◌, ◌||◌, List, [], ◌∷◌, length, inl, inr, arith}
use Rattle.std.specs.Prelude.{◌<ℤ◌, Option, Some, None, slice_get}
use Rattle.std.specs.List.{list_all}
use Rattle.std.specs.Ordering.{int_eq}
use Rattle.std.proofs.lemmas.Bool.{and_parts, and_from, or_cases}
use Rattle.std.proofs.lemmas.Bool.Decides.{Decides-int_eq}
use Rattle.std.proofs.lemmas.Int.{ints}
use Rattle.std.proofs.lemmas.Option.{slice_get_within}
use Rattle.lint_core.specs.declared.schema.Domain.{Domain}
use Rattle.lint_core.specs.declared.schema.Domain.TheVariants as domain
use Rattle.lint_core.specs.declared.schema.Unit.{Unit as Measure}
use Rattle.lint_core.specs.declared.schema.Unit.TheVariants.{Whole}
use Rattle.lint_core.specs.Domain.{int_le, is_in_domain}
use Rattle.lint_core.specs.Schema.{is_domain, is_signed_range}
use Rattle.ground_theory.specs.declared.assignment.Solution.{Solution}
use Rattle.ground_theory.specs.declared.joining.Joined.{Joined}
use Rattle.ground_theory.specs.declared.literal.Assignment.{Assignment}
use Rattle.ground_theory.specs.declared.literal.Frame.{Frame}
use Rattle.ground_theory.specs.declared.literal.Literal.{Literal}
use Rattle.ground_theory.specs.Assignments.{domains_at, are_in, cells_at, satisfies, satisfies_all, IsAssignment}
use Rattle.ground_theory.specs.Judgeable.{is_frame, can_be_judged}
use Rattle.ground_theory.specs.Judging.{Settles}
use Rattle.ground_theory.specs.inner.Filling.{number_of, filled, row_cells, class_cells, IsFit, HaveRowRoom, IsSolution}
use Rattle.ground_theory.specs.inner.Found.{IsFound}
use Rattle.ground_theory.specs.inner.Joining.{label_at}
use Rattle.ground_theory.specs.inner.Numbering.{number_at}
use Rattle.ground_theory.specs.inner.Sums.{told}
use Rattle.ground_theory.proofs.Bounds.{domain_is, domain_passes}
use Rattle.ground_theory.proofs.Entering.{domains_there}
use Rattle.ground_theory.proofs.Facts.{le_is}
use Rattle.ground_theory.proofs.SettlingAtoms.{atom_satisfied}
use Rattle.ground_theory.proofs.SettlingCells.{labelled, class_table, class_domains, few_columns, cell_is, number_meant}
use Rattle.ground_theory.proofs.SettlingPlain.{is_plain}
use Rattle.ground_theory.proofs.SettlingRows.{assigned, told_in, told_count, cells_there, one_labels}

-- ---- numbers of 64 bits

record IsWord (least greatest : ℤ) : Type 0 where
  low : neg_ℤ (pos (2 ^ 63)) ≤ℤ least
  high : greatest <ℤ pos (2 ^ 63)

word_range : (half : ℕ) (least greatest : ℤ) → half ≤ 2 ^ 63 → (int_eq least (neg_ℤ (pos half)) && int_eq greatest (pos (half - 1))) ≡ true → IsWord least greatest
word_range half least greatest small range =
    let parts = and_parts (int_eq least (neg_ℤ (pos half))) (int_eq greatest (pos (half - 1))) range in
    let low : least ≡ neg_ℤ (pos half) = (Decides-int_eq least (neg_ℤ (pos half))).0 parts.0 in
    let high : greatest ≡ pos (half - 1) = (Decides-int_eq greatest (pos (half - 1))).0 parts.1 in
    record { low = omega (arith, ints); high = omega (arith, ints) }

word_domain : (least greatest : ℤ) (unit : Measure) → is_domain (domain.Number least greatest unit) ≡ true → IsWord least greatest
word_domain least greatest Whole is =
    elim (or_cases (is_signed_range 16 least greatest || is_signed_range 32 least greatest) (is_signed_range 64 least greatest) is) [
      | inl fewer ↦ elim (or_cases (is_signed_range 16 least greatest) (is_signed_range 32 least greatest) fewer) [
        | inl first ↦ word_range (2 ^ 15) least greatest (omega arith) first
        | inr second ↦ word_range (2 ^ 31) least greatest (omega arith) second
      ]
      | inr third ↦ word_range (2 ^ 63) least greatest (omega arith) third
    ]

in_word : (v least greatest : ℤ) → IsWord least greatest → least ≤ℤ v → v ≤ℤ greatest → (neg_ℤ (pos (2 ^ 63)) ≤ℤ v) × (v <ℤ pos (2 ^ 63))
in_word v least greatest word low high = (let l = word.low in let h = word.high in (omega (arith, ints), omega (arith, ints)))

all_from : {A : Type 0} (p : A → Bool) (xs : List A) → ((k : ℕ) (x : A) → slice_get xs k ≡ Some x → p x ≡ true) → list_all p xs ≡ true
all_from p [] each = refl
all_from p (x ∷ xs) each = and_from (p x) (list_all p xs) (each 0 x refl) (all_from p xs (λ k y at. each (suc k) y at))

module _ (frame : Frame) (literals : List Literal) (joined : Joined) (s : Solution) (frame_is : is_frame frame ≡ true) (judged : list_all (can_be_judged frame) literals ≡ true)
    (found : IsFound frame literals joined s) where
  abbrev labels : List ℕ
  labels = joined.labels.items

  abbrev places : List (Option ℕ)
  places = s.numbering.places.items

  abbrev given : Assignment
  given = assigned frame s labels

  -- ---- a solution

  fits : (row column : ℕ) (d : Domain) (o : Option ℕ) → row < length frame.tables → slice_get (domains_at frame row) column ≡ Some d → number_at places row column ≡ o → IsFit s o d
  fits row column d None low dom some = tt
  fits row column (domain.Number least greatest unit) (Some n) low dom some =
      let d : Domain = domain.Number least greatest unit in
      let few = few_columns frame literals joined s frame_is judged found row column d dom in
      let cell = cell_is frame literals joined s frame_is judged found row column n few some in
      let meant = number_meant frame literals joined s frame_is judged found row column n least greatest unit low dom some in
      let word = word_domain least greatest unit (domain_passes frame literals is_domain (domains_there frame frame_is) row column d (domain_is frame literals row column ∙ dom)) in
      let both = in_word (number_of s n) least greatest word meant.0 meant.1 in
      ((let c = found.numbers.count in let h : n < length s.numbering.cells.items = cell.low in omega arith), both.0, both.1)
  fits row column (domain.Text size) (Some n) low dom some =
      let few = few_columns frame literals joined s frame_is judged found row column (domain.Text size) dom in
      let cell = cell_is frame literals joined s frame_is judged found row column n few some in
      let listed : n < length s.labels.items = (let c = found.count in let h : n < length s.numbering.cells.items = cell.low in omega arith) in
      (listed, found.listed n 0 listed)

  is_solution : IsSolution frame s
  is_solution row column d room dom =
      let low : row < length frame.tables = (let c = found.joined_are.count in let p = found.numbered.numbering.count in let r : row * 64 + 64 ≤ length places = room in omega arith) in
      fits row column d (number_at places row column) low dom refl

  have_room : HaveRowRoom s labels
  have_room k h =
      let c = found.joined_are.count in
      let p = found.numbered.numbering.count in
      let low : k < length frame.tables = omega arith in
      let within : label_at labels k < length frame.tables = found.joined_are.within k low in
      omega arith

  -- ---- an assignment

  value_in_domain : (row column : ℕ) (d : Domain) (o : Option ℕ) → row < length frame.tables → slice_get (domains_at frame row) column ≡ Some d → number_at places row column ≡ o → is_in_domain d (filled s o d) ≡ true
  value_in_domain row column d None low dom some = refl
  value_in_domain row column (domain.Number least greatest unit) (Some n) low dom some =
      let meant = number_meant frame literals joined s frame_is judged found row column n least greatest unit low dom some in
      and_from (int_le least (number_of s n)) (int_le (number_of s n) greatest) (le_is least (number_of s n) meant.0) (le_is (number_of s n) greatest meant.1)
  value_in_domain row column (domain.Text size) (Some n) low dom some = refl

  cells_in_domains : (row : ℕ) → row < length frame.tables → are_in (domains_at frame row) (cells_at given row) ≡ true
  cells_in_domains row low =
      let r : ℕ = label_at labels row in
      let r_in : r < length frame.tables = found.joined_are.within row low in
      let domains : domains_at frame r ≡ domains_at frame row = class_domains frame literals joined s frame_is judged found r row r_in low (found.joined_are.own row low) in
      let cells : cells_at given row ≡ row_cells frame s r = cells_there frame s labels row (labelled frame literals joined s frame_is judged found row low) in
      ap₂ are_in (sym domains) cells
      ∙ told_in frame s r 0 (domains_at frame r) (λ k d at. subst (λ (n : ℕ). is_in_domain d (filled s (number_at places r n) d) ≡ true) (let e : k ≡ 0 + k = omega arith in e) (value_in_domain r k d (number_at places r k) r_in at refl))

  known : (row : ℕ) → row < length labels → row < length frame.tables
  known row h = (let c = found.joined_are.count in omega arith)

  is_assignment : IsAssignment frame given
  is_assignment = record {
    classes = found.joined_are.count;
    rows = told_count frame s labels 0 ∙ found.joined_are.count;
    domains = λ row table at. cells_in_domains row (slice_get_within frame.tables row table at);
    tables = λ row other one.
        let both = one_labels frame s labels row other one in
        class_table frame literals joined s frame_is judged found row other (known row both.row_in) (known other both.other_in) both.same;
    cells = λ row other one.
        let both = one_labels frame s labels row other one in
        cells_there frame s labels row both.row_in ∙ (ap (row_cells frame s) both.same ∙ sym (cells_there frame s labels other both.other_in));
  }

  all_satisfied : satisfies_all given literals ≡ true
  all_satisfied = all_from (λ (l : Literal). satisfies given l.atom) literals (λ k l at. atom_satisfied frame literals joined s frame_is judged found k l at)

-- what is found is a solution
pub solved : (frame : Frame) (literals : List Literal) (joined : Joined) (s : Solution) → is_frame frame ≡ true → list_all (can_be_judged frame) literals ≡ true → IsFound frame literals joined s →
    IsSolution frame s × HaveRowRoom s joined.labels.items
solved frame literals joined s frame_is judged found =
    (is_solution frame literals joined s frame_is judged found, have_room frame literals joined s frame_is judged found)

-- the assignment that is made of it settles the literals
pub settles : (frame : Frame) (literals : List Literal) (joined : Joined) (s : Solution) → is_frame frame ≡ true → list_all (can_be_judged frame) literals ≡ true → IsFound frame literals joined s →
    Settles frame literals (record { same = joined.labels.items; cells = told (class_cells frame s) 0 joined.labels.items })
settles frame literals joined s frame_is judged found = record {
  is = is_assignment frame literals joined s frame_is judged found;
  satisfied = all_satisfied frame literals joined s frame_is judged found;
  plain = is_plain frame literals joined s frame_is judged found;
}
