-- The cells that literals name are there.
use Rattle.std.proofs.Common.{◌≡◌, ◌∙◌, sym, ap, refl, subst, ℕ, ◌<◌, ◌≤◌, ◌+◌, true, ◌&&◌, List, [], length, inl, inr, arith}
use Rattle.std.specs.Prelude.{Option, Some, None, slice_get, nat_eq, nat_le, option_and_then, unwrap_or}
use Rattle.std.specs.List.{Contains, list_all}
use Rattle.std.proofs.lemmas.Bool.{and_parts, and_from, leb-true, or_left, or_right}
use Rattle.std.proofs.lemmas.List.Elements.{Contains-append_cases, Contains-get_or}
use Rattle.std.proofs.lemmas.Option.{slice_get_within, slice_get-get_or}
use Rattle.lint_base.proofs.Lists.{all_at, below_true}
use Rattle.lint_core.specs.declared.schema.Domain.{Domain}
use Rattle.lint_core.specs.declared.schema.Domain.TheVariants as domain
use Rattle.sort_formula.specs.declared.formula.Side.{Side}
use Rattle.sort_formula.specs.declared.formula.Side.TheVariants as side
use Rattle.sort_formula.specs.declared.formula.Atom.{Atom}
use Rattle.sort_formula.specs.declared.formula.Atom.TheVariants as atom
use Rattle.sort_formula.specs.Chains.{says_not_null, is_cell}
use Rattle.ground_theory.specs.declared.literal.Frame.{Frame}
use Rattle.ground_theory.specs.declared.literal.Literal.{Literal}
use Rattle.ground_theory.specs.declared.numbering.Named.{Named}
use Rattle.ground_theory.specs.Assignments.{domains_at}
use Rattle.ground_theory.specs.Fitting.{fits, is_number_side, is_text_side, is_moderate, has_domains}
use Rattle.ground_theory.specs.Judgeable.{is_frame, is_named_right, can_be_judged}
use Rattle.ground_theory.specs.inner.Numbering.{AreWithin, named_at}
use Rattle.ground_theory.specs.inner.Sifting.{gathered, firm_of, firm_side, null_of}
use Rattle.ground_theory.specs.inner.Sums.{HaveColumns}
use Rattle.ground_theory.proofs.Facts.{some_number, some_text}
use Rattle.ground_theory.proofs.Gathering.{gathered_from}
use Rattle.ground_theory.proofs.Moving.{equal_self, same_self}
use Rattle.ground_theory.proofs.Stating.{only, nothing, domain_row}

-- no table has more than 64 columns
pub columns_few : (frame : Frame) → is_frame frame ≡ true → HaveColumns frame
columns_few frame is row = go (slice_get frame.tables row)
  where
    few : list_all (λ ds. nat_le (length ds) 64) frame.domains ≡ true
    few = (and_parts (list_all (λ ds. nat_le (length ds) 64) frame.domains) _ (and_parts (has_domains frame) _ is).1).0

    at_table : (o : Option (List Domain)) → ((ds : List Domain) → o ≡ Some ds → length ds ≤ 64) → length (unwrap_or o []) ≤ 64
    at_table None each = omega arith
    at_table (Some ds) each = each ds refl

    go : (o : Option ℕ) → length (unwrap_or (option_and_then (slice_get frame.domains) o) []) ≤ 64
    go None = omega arith
    go (Some t) = at_table (slice_get frame.domains t) (λ ds at. leb-true (length ds) 64 (all_at (λ ds. nat_le (length ds) 64) frame.domains t ds few at))

module _ (frame : Frame) (frame_is : is_frame frame ≡ true) where
  -- a cell that is there
  pub cell_there : (row column : ℕ) → column < length (domains_at frame row) → (row < length frame.tables) × (column < 64)
  cell_there row column h =
      let none : Domain = domain.Text 0 in
      let low : row < length frame.tables = domain_row frame row column _ (slice_get-get_or (domains_at frame row) column none h) in
      let few = columns_few frame frame_is row in
      (low, omega arith)

  pub number_there : (s : Side) (row column : ℕ) → s ≡ side.Cell row column → is_number_side frame s ≡ true → column < length (domains_at frame row)
  number_there s row column is fit =
      let d = some_number (slice_get (domains_at frame row) column) (ap (is_number_side frame) (sym is) ∙ fit) in
      slice_get_within (domains_at frame row) column d.0 d.1

  pub text_there : (s : Side) (row column : ℕ) → s ≡ side.Cell row column → is_text_side frame s ≡ true → column < length (domains_at frame row)
  text_there s row column is fit =
      let d = some_text (slice_get (domains_at frame row) column) (ap (is_text_side frame) (sym is) ∙ fit) in
      slice_get_within (domains_at frame row) column d.0 d.1

  -- the cell of a side
  side_named : (k : ℕ) (s : Side) (x : Named) → Contains (firm_side k s) x → (s ≡ side.Cell x.row x.column) × (x.fact ≡ k)
  side_named k (side.Cell row column) x there =
      let one = only (record { fact = k; row = row; column = column }) x there in
      (ap (λ (x : Named). side.Cell x.row x.column) one, sym (ap (λ (x : Named). x.fact) one))
  side_named k side.Zero x there = absurd (nothing x there)
  side_named k (side.Text text) x there = absurd (nothing x there)

  -- a cell that a literal says is not NULL
  pub record IsFirm (literals : List Literal) (x : Named) : Type 0 where
    pub literal : Literal
    pub listed : slice_get literals x.fact ≡ Some literal
    pub says : says_not_null x.row x.column literal.atom ≡ true
    pub there : x.column < length (domains_at frame x.row)

  module _ (literals : List Literal) (judged : list_all (can_be_judged frame) literals ≡ true) where
    pub firm_there : (x : Named) → Contains (gathered firm_of 0 literals) x → IsFirm literals x
    firm_there x there =
        let from = gathered_from firm_of literals 0 x there in
        let is = all_at (can_be_judged frame) literals from.0 from.1 judged from.2 in
        let first = and_parts (is_named_right frame from.1.atom) (fits frame from.1.atom && is_moderate from.1.atom) is in
        let second = and_parts (fits frame from.1.atom) (is_moderate from.1.atom) first.1 in
        go from.0 from.1 from.1.atom refl from.2 first.0 second.0 (subst (λ (n : ℕ). Contains (firm_of n from.1.atom) x) (let e : 0 + from.0 ≡ from.0 = omega arith in e) from.3)
      where
        cell_is : (s : Side) → s ≡ side.Cell x.row x.column → is_cell x.row x.column s ≡ true
        cell_is s is = ap (is_cell x.row x.column) is ∙ same_self (side.Cell x.row x.column)

        go : (k : ℕ) (l : Literal) (a : Atom) → l.atom ≡ a → slice_get literals k ≡ Some l → is_named_right frame a ≡ true → fits frame a ≡ true → Contains (firm_of k a) x → IsFirm literals x
        go k l (atom.NotNull row column) is listed right fit told =
            let one = only (record { fact = k; row = row; column = column }) x told in
            let within : column < length (domains_at frame row) = below_true column (length (domains_at frame row)) right in
            record {
              literal = l;
              listed = ap (λ (x : Named). slice_get literals x.fact) (sym one) ∙ listed;
              says = ap (says_not_null x.row x.column) (is ∙ ap (λ (x : Named). atom.NotNull x.row x.column) one) ∙ and_from (nat_eq x.row x.row) (nat_eq x.column x.column) (equal_self x.row) (equal_self x.column);
              there = subst (λ (x : Named). x.column < length (domains_at frame x.row)) one within;
            }
        go k l (atom.Le left right_side most) is listed right fit told =
            let both = and_parts (is_number_side frame left) (is_number_side frame right_side) fit in
            elim (Contains-append_cases (firm_side k left) (firm_side k right_side) x told) [
              | inl one ↦ (let n = side_named k left x one in record {
                literal = l;
                listed = ap (slice_get literals) n.1 ∙ listed;
                says = ap (says_not_null x.row x.column) is ∙ or_left (is_cell x.row x.column left) (is_cell x.row x.column right_side) (cell_is left n.0);
                there = number_there left x.row x.column n.0 both.0;
              })
              | inr one ↦ (let n = side_named k right_side x one in record {
                literal = l;
                listed = ap (slice_get literals) n.1 ∙ listed;
                says = ap (says_not_null x.row x.column) is ∙ or_right (is_cell x.row x.column left) (is_cell x.row x.column right_side) (cell_is right_side n.0);
                there = number_there right_side x.row x.column n.0 both.1;
              })
            ]
        go k l (atom.TextEq left right_side) is listed right fit told =
            let both = and_parts (is_text_side frame left) (is_text_side frame right_side) fit in
            elim (Contains-append_cases (firm_side k left) (firm_side k right_side) x told) [
              | inl one ↦ (let n = side_named k left x one in record {
                literal = l;
                listed = ap (slice_get literals) n.1 ∙ listed;
                says = ap (says_not_null x.row x.column) is ∙ or_left (is_cell x.row x.column left) (is_cell x.row x.column right_side) (cell_is left n.0);
                there = text_there left x.row x.column n.0 both.0;
              })
              | inr one ↦ (let n = side_named k right_side x one in record {
                literal = l;
                listed = ap (slice_get literals) n.1 ∙ listed;
                says = ap (says_not_null x.row x.column) is ∙ or_right (is_cell x.row x.column left) (is_cell x.row x.column right_side) (cell_is right_side n.0);
                there = text_there right_side x.row x.column n.0 both.1;
              })
            ]
        go k l (atom.TextNe left right_side) is listed right fit told =
            let both = and_parts (is_text_side frame left) (is_text_side frame right_side) fit in
            elim (Contains-append_cases (firm_side k left) (firm_side k right_side) x told) [
              | inl one ↦ (let n = side_named k left x one in record {
                literal = l;
                listed = ap (slice_get literals) n.1 ∙ listed;
                says = ap (says_not_null x.row x.column) is ∙ or_left (is_cell x.row x.column left) (is_cell x.row x.column right_side) (cell_is left n.0);
                there = text_there left x.row x.column n.0 both.0;
              })
              | inr one ↦ (let n = side_named k right_side x one in record {
                literal = l;
                listed = ap (slice_get literals) n.1 ∙ listed;
                says = ap (says_not_null x.row x.column) is ∙ or_right (is_cell x.row x.column left) (is_cell x.row x.column right_side) (cell_is right_side n.0);
                there = text_there right_side x.row x.column n.0 both.1;
              })
            ]
        go k l (atom.IsNull row column) is listed right fit told = absurd (nothing x told)
        go k l (atom.Same row other) is listed right fit told = absurd (nothing x told)
        go k l (atom.Other row other) is listed right fit told = absurd (nothing x told)

    pub firms_within : (firms : List Named) → firms ≡ gathered firm_of 0 literals → AreWithin (length frame.tables) firms
    firms_within firms are k h =
        let x : Named = named_at firms k in
        let there : Contains firms x = Contains-get_or firms k (record { fact = 0; row = 0; column = 0 }) h in
        cell_there x.row x.column (firm_there x (subst (λ (xs : List Named). Contains xs x) are there)).there

-- ---- cells that are NULL, and rows that differ

module _ (frame : Frame) (frame_is : is_frame frame ≡ true) (literals : List Literal) (judged : list_all (can_be_judged frame) literals ≡ true) where
  -- a cell that a literal says is NULL
  pub record IsNullCell (x : Named) : Type 0 where
    pub literal : Literal
    pub listed : slice_get literals x.fact ≡ Some literal
    pub is : literal.atom ≡ atom.IsNull x.row x.column
    pub there : x.column < length (domains_at frame x.row)

  pub null_there : (x : Named) → Contains (gathered null_of 0 literals) x → IsNullCell x
  null_there x there =
      let from = gathered_from null_of literals 0 x there in
      let can = all_at (can_be_judged frame) literals from.0 from.1 judged from.2 in
      let first = and_parts (is_named_right frame from.1.atom) (fits frame from.1.atom && is_moderate from.1.atom) can in
      go from.0 from.1 from.1.atom refl from.2 first.0 (subst (λ (n : ℕ). Contains (null_of n from.1.atom) x) (let e : 0 + from.0 ≡ from.0 = omega arith in e) from.3)
    where
      go : (k : ℕ) (l : Literal) (a : Atom) → l.atom ≡ a → slice_get literals k ≡ Some l → is_named_right frame a ≡ true → Contains (null_of k a) x → IsNullCell x
      go k l (atom.IsNull row column) is listed right told =
          let one = only (record { fact = k; row = row; column = column }) x told in
          record {
            literal = l;
            listed = ap (λ (x : Named). slice_get literals x.fact) (sym one) ∙ listed;
            is = is ∙ ap (λ (x : Named). atom.IsNull x.row x.column) one;
            there = subst (λ (x : Named). x.column < length (domains_at frame x.row)) one (below_true column (length (domains_at frame row)) right);
          }
      go k l (atom.NotNull row column) is listed right told = absurd (nothing x told)
      go k l (atom.Le left right_side most) is listed right told = absurd (nothing x told)
      go k l (atom.TextEq left right_side) is listed right told = absurd (nothing x told)
      go k l (atom.TextNe left right_side) is listed right told = absurd (nothing x told)
      go k l (atom.Same row other) is listed right told = absurd (nothing x told)
      go k l (atom.Other row other) is listed right told = absurd (nothing x told)

  pub nulls_within : (nulls : List Named) → nulls ≡ gathered null_of 0 literals → AreWithin (length frame.tables) nulls
  nulls_within nulls are k h =
      let x : Named = named_at nulls k in
      let there : Contains nulls x = Contains-get_or nulls k (record { fact = 0; row = 0; column = 0 }) h in
      cell_there frame frame_is x.row x.column (null_there x (subst (λ (xs : List Named). Contains xs x) are there)).there
