-- What literals that can be judged ask for is there: their cells are in the table, and their bounds and facts are not too many.
use Rattle.std.proofs.Common.{◌≡◌, ◌∙◌, sym, ap, refl, subst, ℕ, ◌<◌, ◌≤◌, ◌+◌, ◌*◌, ◌^◌, true, List, ◌++◌, length, arith}
use Rattle.std.specs.Prelude.{Option, Some, None, slice_get, slice_index_or, nat_le, nat_lt}
use Rattle.std.specs.List.{Contains, list_all}
use Rattle.std.proofs.lemmas.Bool.{and_parts, leb-true}
use Rattle.std.proofs.lemmas.List.{get_or_default, length-append}
use Rattle.std.proofs.lemmas.List.Elements.{Contains-get_or}
use Rattle.std.proofs.lemmas.Option.{slice_get-get_or}
use Rattle.lint_base.proofs.Lists.{all_at}
use Rattle.lint_core.specs.declared.schema.Domain.{Domain}
use Rattle.lint_core.specs.declared.schema.Domain.TheVariants as domain
use Rattle.sort_formula.specs.declared.formula.Side.{Side}
use Rattle.sort_formula.specs.declared.formula.Side.TheVariants as side
use Rattle.sort_formula.specs.declared.formula.Atom.{Atom}
use Rattle.sort_formula.specs.declared.formula.Atom.TheVariants as atom
use Rattle.ground_theory.specs.declared.joining.Join.{Join}
use Rattle.ground_theory.specs.declared.literal.Frame.{Frame}
use Rattle.ground_theory.specs.declared.literal.Literal.{Literal}
use Rattle.ground_theory.specs.declared.numbering.Cell.{Cell}
use Rattle.ground_theory.specs.declared.numbering.Named.{Named}
use Rattle.ground_theory.specs.declared.numbers.Stated.{Stated}
use Rattle.ground_theory.specs.declared.sifting.Bound.{Bound}
use Rattle.ground_theory.specs.Assignments.{domains_at}
use Rattle.ground_theory.specs.Fitting.{fits, all_fit, has_domains, is_number_side, is_text_side}
use Rattle.ground_theory.specs.Judgeable.{is_frame}
use Rattle.ground_theory.specs.inner.Deciding.{IsReady}
use Rattle.ground_theory.specs.inner.Joining.{AreSames, join_at}
use Rattle.ground_theory.specs.inner.Known.{AreJudged}
use Rattle.ground_theory.specs.inner.Numbering.{number_at, open_count, IsNumbered}
use Rattle.ground_theory.specs.inner.Paths.{AreRooted}
use Rattle.ground_theory.specs.inner.Sifting.{gathered, firm_of, bound_of, cell_of}
use Rattle.ground_theory.specs.inner.Sums.{told, bound_stated, range_of, join_stated, AreFew, AreKnown, AreInRoom, BothInRoom, IsInRoom, HasBothRows, HaveRoom, HaveColumns}
use Rattle.ground_theory.specs.inner.Systems.{IsRight}
use Rattle.ground_theory.specs.inner.TextSystem.{said_fact, same_fact, fact_at_column, join_facts, HasSideRoom, HasTextRoom, HaveTextRoom}
use Rattle.ground_theory.proofs.Entering.{fit, moderate, domains_there, gathered_few}
use Rattle.ground_theory.proofs.Gathering.{gathered_from}
use Rattle.ground_theory.proofs.Named.{columns_few, cell_there, number_there, text_there}
use Rattle.ground_theory.proofs.Ready.{few_edges, is_ready}
use Rattle.ground_theory.proofs.Stating.{only, nothing, all_right}
use Rattle.ground_theory.proofs.Telling.{told_length}

-- ---- how much is told

bound_one : (n : ℕ) (a : Atom) → length (bound_of n a) ≤ 1
bound_one n (atom.Le left right most) = omega arith
bound_one n (atom.TextEq left right) = omega arith
bound_one n (atom.TextNe left right) = omega arith
bound_one n (atom.IsNull row column) = omega arith
bound_one n (atom.NotNull row column) = omega arith
bound_one n (atom.Same row other) = omega arith
bound_one n (atom.Other row other) = omega arith

module _ (places : List (Option ℕ)) where
  said_one : (n : ℕ) (a : Atom) → length (said_fact places n a) ≤ 1
  said_one n (atom.TextEq left right) = omega arith
  said_one n (atom.TextNe left right) = omega arith
  said_one n (atom.Le left right most) = omega arith
  said_one n (atom.IsNull row column) = omega arith
  said_one n (atom.NotNull row column) = omega arith
  said_one n (atom.Same row other) = omega arith
  said_one n (atom.Other row other) = omega arith

  same_one : (o p : Option ℕ) → length (same_fact o p) ≤ 1
  same_one None p = omega arith
  same_one (Some n) None = omega arith
  same_one (Some n) (Some m) = omega arith

  column_one : (frame : Frame) (j : Join) (column : ℕ) (d : Domain) → length (fact_at_column frame places j column d) ≤ 1
  column_one frame j column (domain.Number least greatest unit) = omega arith
  column_one frame j column (domain.Text size) = same_one (number_at places j.row column) (number_at places j.other column)

  join_few : (frame : Frame) → HaveColumns frame → (n : ℕ) (j : Join) → length (join_facts frame places n j) ≤ 64
  join_few frame columns n j =
      let all : length (join_facts frame places n j) ≤ length (domains_at frame j.row) * 1 = told_length (fact_at_column frame places j) 1 (column_one frame j) (domains_at frame j.row) 0 in
      let few = columns j.row in
      omega arith

-- no more than 512 row terms
pub rows_few : (frame : Frame) → is_frame frame ≡ true → length frame.tables ≤ 512
rows_few frame is =
    let first = and_parts (has_domains frame) _ is in
    let second = and_parts (list_all (λ ds. nat_le (length ds) 64) frame.domains) _ first.1 in
    let third = and_parts (list_all (λ t. nat_lt t (length frame.domains)) frame.tables) (nat_le (length frame.tables) 512) second.1 in
    leb-true (length frame.tables) 512 third.1

module _ (frame : Frame) (literals : List Literal) (judged : AreJudged frame literals)
    (labels : List ℕ) (rows_is : length labels ≡ length frame.tables) (firms : List Named) (firms_is : firms ≡ gathered firm_of 0 literals)
    (places : List (Option ℕ)) (cells : List Cell) (numbered : IsNumbered labels firms (length firms) places cells) where
  all : all_fit frame literals ≡ true
  all = fit frame literals judged.fitting

  fit_at : (k : ℕ) (l : Literal) → slice_get literals k ≡ Some l → fits frame l.atom ≡ true
  fit_at k l at = all_at (λ (l : Literal). fits frame l.atom) literals k l all at

  pub columns : HaveColumns frame
  columns = columns_few frame judged.frame_is

  -- ---- the table and its variables

  size : length places ≡ length frame.tables * 64
  size = numbered.numbering.count ∙ ap (λ (n : ℕ). n * 64) rows_is

  pub cells_few : length cells ≤ 32768
  cells_few =
      let balance : open_count places + length cells ≡ length labels * 64 = numbered.numbering.balance in
      let rows = rows_few frame judged.frame_is in
      omega arith

  pub are_few : AreFew places
  are_few p n some = (let low : n < length cells = (numbered.numbering.placed p n some).0 in let few = cells_few in omega arith)

  pub are_known : AreKnown (length labels) cells
  are_known n h = (numbered.numbering.kept n h).row

  -- ---- cells in the table

  in_room : (row column : ℕ) → column < length (domains_at frame row) → row * 64 + column < length places
  in_room row column h =
      let both = cell_there frame judged.frame_is row column h in
      let low : row < length frame.tables = both.0 in
      let narrow : column < 64 = both.1 in
      let count = size in
      omega arith

  number_room : (s : Side) → is_number_side frame s ≡ true → IsInRoom places (cell_of s)
  number_room (side.Cell row column) is = in_room row column (number_there frame judged.frame_is (side.Cell row column) row column refl is)
  number_room side.Zero is = tt
  number_room (side.Text text) is = tt

  bound_room : (k : ℕ) (a : Atom) → fits frame a ≡ true → (b : Bound) → Contains (bound_of k a) b → BothInRoom places b
  bound_room k (atom.Le left right most) is b there =
      let parts = and_parts (is_number_side frame left) (is_number_side frame right) is in
      subst (BothInRoom places) (only (record { fact = k; left = cell_of left; right = cell_of right; most = most }) b there)
      (record { left = number_room left parts.0; right = number_room right parts.1 })
  bound_room k (atom.TextEq left right) is b there = absurd (nothing b there)
  bound_room k (atom.TextNe left right) is b there = absurd (nothing b there)
  bound_room k (atom.IsNull row column) is b there = absurd (nothing b there)
  bound_room k (atom.NotNull row column) is b there = absurd (nothing b there)
  bound_room k (atom.Same row other) is b there = absurd (nothing b there)
  bound_room k (atom.Other row other) is b there = absurd (nothing b there)

  pub bounds_room : AreInRoom places (gathered bound_of 0 literals)
  bounds_room k d h =
      let bounds : List Bound = gathered bound_of 0 literals in
      let b : Bound = slice_index_or bounds k d in
      let from = gathered_from bound_of literals 0 b (Contains-get_or bounds k d h) in
      bound_room (0 + from.0) from.1.atom (fit_at from.0 from.1 from.2) b from.3

  text_room : (s : Side) → is_text_side frame s ≡ true → HasSideRoom places s
  text_room (side.Cell row column) is = in_room row column (text_there frame judged.frame_is (side.Cell row column) row column refl is)
  text_room side.Zero is = tt
  text_room (side.Text text) is = tt

  atom_room : (a : Atom) → fits frame a ≡ true → HasTextRoom places a
  atom_room (atom.TextEq left right) is = (let parts = and_parts (is_text_side frame left) (is_text_side frame right) is in (text_room left parts.0, text_room right parts.1))
  atom_room (atom.TextNe left right) is = (let parts = and_parts (is_text_side frame left) (is_text_side frame right) is in (text_room left parts.0, text_room right parts.1))
  atom_room (atom.Le left right most) is = tt
  atom_room (atom.IsNull row column) is = tt
  atom_room (atom.NotNull row column) is = tt
  atom_room (atom.Same row other) is = tt
  atom_room (atom.Other row other) is = tt

  pub texts_room : HaveTextRoom places literals
  texts_room k d h = atom_room (slice_index_or literals k d).atom (fit_at k (slice_index_or literals k d) (slice_get-get_or literals k d h))

  pub joins_room : (joins : List Join) → AreSames (length frame.tables) joins → HaveRoom places joins
  joins_room joins within k d h =
      let j : Join = join_at joins k in
      let both = within k h in
      let row : j.row < length frame.tables = both.0 in
      let other : j.other < length frame.tables = both.1 in
      let count = size in
      subst (HasBothRows places) (sym (get_or_default joins k d (record { fact = 0; row = 0; other = 0 }) h)) (record { row = omega arith; other = omega arith })

  -- ---- how many there are

  bounds_few : length (gathered bound_of 0 literals) ≤ 400000
  bounds_few = (let few = gathered_few bound_of bound_one literals 0 in let most : length literals ≤ 400000 = judged.few in omega arith)

  pub facts_few : (joins : List Join) → length joins ≤ 512 → length (gathered (said_fact places) 0 literals ++ told (join_facts frame places) 0 joins) < 2 ^ 32
  facts_few joins few =
      let first : length (gathered (said_fact places) 0 literals) ≤ length literals = gathered_few (said_fact places) (said_one places) literals 0 in
      let second : length (told (join_facts frame places) 0 joins) ≤ length joins * 64 = told_length (join_facts frame places) 64 (join_few places frame columns) joins 0 in
      let both = length-append (gathered (said_fact places) 0 literals) (told (join_facts frame places) 0 joins) in
      let most : length literals ≤ 400000 = judged.few in
      omega arith

  -- ---- the listed edges

  module _ (joins : List Join) (rooted : AreRooted literals joins) where
    abbrev listed : List Stated
    listed = told (bound_stated places) 0 (gathered bound_of 0 literals) ++ (told (range_of frame labels) 0 cells ++ told (join_stated frame places) 0 joins)

    pub listed_right : (s : Stated) → Contains listed s → IsRight frame literals cells s
    listed_right s there =
        all_right frame literals all columns labels rows_is firms firms_is places cells numbered (gathered bound_of 0 literals) refl joins rooted s there

    pub listed_ready : length joins ≤ 512 → IsReady (length cells + 1) listed
    listed_ready few =
        is_ready frame literals cells listed listed_right all (domains_there frame judged.frame_is) (moderate frame literals judged.fitting)
        (few_edges frame columns labels places (gathered bound_of 0 literals) cells joins bounds_few cells_few few)
