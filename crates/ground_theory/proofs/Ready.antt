-- The listed edges can be solved.
use Rattle.std.proofs.Common.{◌≡◌, sym, subst, ℕ, ◌<◌, ◌≤◌, ◌+◌, ◌*◌, ◌^◌, Bool, true, false, List, [], ◌++◌, length, map, arith}
use Rattle.std.specs.Prelude.{Option, Some, None, slice_get, slice_index_or, nat_eq, pos, if◌then◌else◌}
use Rattle.std.specs.List.{Contains}
use Rattle.std.proofs.lemmas.List.{get_or-map, length-map, length-append}
use Rattle.std.proofs.lemmas.List.Elements.{Contains-get_or}
use Rattle.diff_bounds.specs.declared.system.Edge.{Edge}
use Rattle.diff_bounds.specs.System.{IsAmong, IsModerate}
use Rattle.lint_core.specs.declared.certificate.SumEdge.TheVariants as edge
use Rattle.lint_core.specs.declared.schema.Domain.{Domain}
use Rattle.lint_core.specs.declared.schema.Domain.TheVariants as domain
use Rattle.ground_theory.specs.declared.joining.Join.{Join}
use Rattle.ground_theory.specs.declared.literal.Frame.{Frame}
use Rattle.ground_theory.specs.declared.literal.Literal.{Literal}
use Rattle.ground_theory.specs.declared.numbering.Cell.{Cell}
use Rattle.ground_theory.specs.declared.numbers.Stated.{Stated}
use Rattle.ground_theory.specs.declared.sifting.Bound.{Bound}
use Rattle.ground_theory.specs.Assignments.{domains_at}
use Rattle.ground_theory.specs.Edges.{between}
use Rattle.ground_theory.specs.Fitting.{all_fit, are_moderate, has_domains}
use Rattle.ground_theory.specs.inner.Counted.{edge_in}
use Rattle.ground_theory.specs.inner.Deciding.{IsReady}
use Rattle.ground_theory.specs.inner.Joining.{label_at}
use Rattle.ground_theory.specs.inner.Numbering.{number_at}
use Rattle.ground_theory.specs.inner.Sums.{told, bound_stated, ranges, range_of, same_at, same_between, join_stated, HaveColumns}
use Rattle.ground_theory.specs.inner.Systems.{variable_side, IsRight}
use Rattle.ground_theory.proofs.Facts.{bound_small}
use Rattle.ground_theory.proofs.Telling.{told_length}

-- ---- how many there are

module _ (frame : Frame) (columns : HaveColumns frame) (labels : List ℕ) (places : List (Option ℕ)) where
  range_few : (n : ℕ) (cell : Cell) → length (range_of frame labels n cell) ≤ 2
  range_few n cell = by_test (nat_eq (label_at labels cell.row) cell.row)
    where
      by_domain : (o : Option Domain) → length (ranges cell (n + 1) o) ≤ 2
      by_domain None = omega arith
      by_domain (Some (domain.Text size)) = omega arith
      by_domain (Some (domain.Number least greatest unit)) = omega arith

      by_test : (b : Bool) → length (if b then ranges cell (n + 1) (slice_get (domains_at frame cell.row) cell.column) else []) ≤ 2
      by_test true = by_domain (slice_get (domains_at frame cell.row) cell.column)
      by_test false = omega arith

  same_few : (j : Join) (column : ℕ) (d : Domain) → length (same_at places j column d) ≤ 2
  same_few j column (domain.Text size) = omega arith
  same_few j column (domain.Number least greatest unit) = by_numbers (number_at places j.row column) (number_at places j.other column)
    where
      by_numbers : (o p : Option ℕ) → length (same_between j column o p) ≤ 2
      by_numbers None p = omega arith
      by_numbers (Some n) None = omega arith
      by_numbers (Some n) (Some m) = omega arith

  join_few : (n : ℕ) (j : Join) → length (join_stated frame places n j) ≤ 128
  join_few n j =
      let all = told_length (same_at places j) 2 (same_few j) (domains_at frame j.row) 0 in
      let few = columns j.row in
      omega arith

  pub few_edges : (bounds : List Bound) (cells : List Cell) (joins : List Join) → length bounds ≤ 400000 → length cells ≤ 32768 → length joins ≤ 512 →
      length (told (bound_stated places) 0 bounds ++ (told (range_of frame labels) 0 cells ++ told (join_stated frame places) 0 joins)) ≤ 2 ^ 20
  few_edges bounds cells joins b c j =
      let first : length (told (bound_stated places) 0 bounds) ≤ length bounds * 1 = told_length (bound_stated places) 1 (λ n x. (let h : 1 ≤ 1 = omega arith in h)) bounds 0 in
      let second : length (told (range_of frame labels) 0 cells) ≤ length cells * 2 = told_length (range_of frame labels) 2 range_few cells 0 in
      let third : length (told (join_stated frame places) 0 joins) ≤ length joins * 128 = told_length (join_stated frame places) 128 join_few joins 0 in
      let rest = length-append (told (range_of frame labels) 0 cells) (told (join_stated frame places) 0 joins) in
      let whole = length-append (told (bound_stated places) 0 bounds) (told (range_of frame labels) 0 cells ++ told (join_stated frame places) 0 joins) in
      omega arith

-- ---- that they are moderate

module _ (frame : Frame) (literals : List Literal) (cells : List Cell) (listed : List Stated) (right : (s : Stated) → Contains listed s → IsRight frame literals cells s)
    (all : all_fit frame literals ≡ true) (domains : has_domains frame ≡ true) (moderate : are_moderate literals ≡ true) (few : length listed ≤ 2 ^ 20) where
  abbrev none : Stated
  none = record { origin = edge.Fact 0; edge = record { left = 0; right = 0; most = pos 0 } }

  at : (k : ℕ) (d : Edge) → k < length (map edge_in listed) → (P : Edge → Type 0) → ((s : Stated) → IsRight frame literals cells s → P s.edge) → P (slice_index_or (map edge_in listed) k d)
  at k d h P each =
      let low : k < length listed = (let l = length-map listed edge_in in omega arith) in
      subst P (sym (get_or-map edge_in listed k none d low)) (each (slice_index_or listed k none) (right (slice_index_or listed k none) (Contains-get_or listed k none low)))

  pub is_ready : IsReady (length cells + 1) listed
  is_ready = record {
    ends = λ k d h. at k d h (IsAmong (length cells + 1)) (λ s is. is.among);
    moderate = λ k d h. at k d h IsModerate (λ s is.
        let small = bound_small frame literals all domains moderate s.origin (between (variable_side cells) s.edge) is.states in
        record { low = small.0; high = small.1 });
    few = few;
  }
