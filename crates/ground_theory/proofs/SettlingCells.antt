-- Rows of one class have the same cells.
use Rattle.std.proofs.Common.{◌≡◌, ◌∙◌, sym, ap, ap₂, refl, subst, ℕ, ℤ, pos, ◌-ℤ◌, ◌≤ℤ◌, ◌<◌, ◌+◌, ◌*◌, true, List, [], ◌∷◌, length, arith}
use Rattle.std.specs.Prelude.{Option, Some, None, slice_get, slice_index_or, option_and_then, unwrap_or}
use Rattle.std.specs.List.{Contains, list_all}
use Rattle.std.proofs.lemmas.List.Elements.{All-contains, Contains-append_right}
use Rattle.std.proofs.lemmas.Option.{slice_get-get_or, slice_get_within, unwrap_or-slice_get}
use Rattle.diff_bounds.specs.System.{value_in}
use Rattle.lint_base.proofs.Lists.{all_at}
use Rattle.lint_core.specs.declared.database.Value.{Value}
use Rattle.lint_core.specs.declared.database.Value.TheVariants as value
use Rattle.lint_core.specs.declared.schema.Domain.{Domain}
use Rattle.lint_core.specs.declared.schema.Domain.TheVariants as domain
use Rattle.text_classes.specs.declared.facts.TextEnd.TheVariants as end
use Rattle.text_classes.specs.declared.facts.TextFact.{TextFact}
use Rattle.text_classes.specs.Answer.{text_in}
use Rattle.text_classes.specs.Texts.{Holds}
use Rattle.ground_theory.specs.declared.assignment.Solution.{Solution}
use Rattle.ground_theory.specs.declared.joining.Join.{Join}
use Rattle.ground_theory.specs.declared.joining.Joined.{Joined}
use Rattle.ground_theory.specs.declared.literal.Frame.{Frame}
use Rattle.ground_theory.specs.declared.literal.Literal.{Literal}
use Rattle.ground_theory.specs.declared.numbering.Cell.{Cell}
use Rattle.ground_theory.specs.declared.numbering.Named.{Named}
use Rattle.ground_theory.specs.Assignments.{domains_at, cell_at as given_at}
use Rattle.ground_theory.specs.Fitting.{fits, are_of_one_table}
use Rattle.ground_theory.specs.Judgeable.{is_frame, can_be_judged}
use Rattle.ground_theory.specs.inner.Filling.{number_of}
use Rattle.ground_theory.specs.inner.Found.{IsFound, all_facts}
use Rattle.ground_theory.specs.inner.Joining.{label_at, join_at}
use Rattle.ground_theory.specs.inner.Numbering.{number_at, named_at, cell_at, IsPlaced}
use Rattle.ground_theory.specs.inner.Sifting.{gathered, same_of, firm_of, bound_of}
use Rattle.ground_theory.specs.inner.Sums.{told}
use Rattle.ground_theory.specs.inner.TextSystem.{said_fact, same_fact, fact_at_column, join_facts}
use Rattle.ground_theory.proofs.Bounds.{one_table}
use Rattle.ground_theory.proofs.Entering.{fit, joins_rooted, rows_there}
use Rattle.ground_theory.proofs.Meant.{range_meant, join_meant}
use Rattle.ground_theory.proofs.Named.{cell_there}
use Rattle.ground_theory.proofs.Placing.{one_place}
use Rattle.ground_theory.proofs.SettlingRows.{value_of, value_at, assigned, cell_named}
use Rattle.ground_theory.proofs.Telling.{told_has}
use Rattle.ground_theory.proofs.Walking.{one_text}

module _ (frame : Frame) (literals : List Literal) (joined : Joined) (s : Solution) (frame_is : is_frame frame ≡ true) (judged : list_all (can_be_judged frame) literals ≡ true)
    (found : IsFound frame literals joined s) where
  abbrev labels : List ℕ
  labels = joined.labels.items

  abbrev joins : List Join
  joins = joined.joins.items

  abbrev places : List (Option ℕ)
  places = s.numbering.places.items

  abbrev cells : List Cell
  cells = s.numbering.cells.items

  abbrev firms : List Named
  firms = gathered firm_of 0 literals

  abbrev rows : ℕ
  rows = length frame.tables

  pub labelled : (row : ℕ) → row < rows → row < length labels
  labelled row h = (let c = found.joined_are.count in omega arith)

  -- ---- the tables of rows of one class

  record IsTie (j : Join) : Type 0 where
    table : slice_get frame.tables j.row ≡ slice_get frame.tables j.other
    row_in : j.row < rows
    other_in : j.other < rows
    label : label_at labels j.row ≡ label_at labels j.other

  tie : (k : ℕ) → k < length joins → IsTie (join_at joins k)
  tie k h =
      let j : Join = join_at joins k in
      let root = joins_rooted frame literals judged rows (gathered same_of 0 literals) refl labels joins found.joined_are k h in
      let listed = found.joined_are.from k h in
      let one : are_of_one_table frame j.row j.other ≡ true =
      ap (fits frame) (sym root.2) ∙ all_at (λ (l : Literal). fits frame l.atom) literals j.fact root.0 (fit frame literals judged) root.1 in
      let there = rows_there frame j.row j.other one in
      record {
        table = one_table frame j.row j.other one;
        row_in = there.0;
        other_in = there.1;
        label = subst (λ (j : Join). label_at labels j.row ≡ label_at labels j.other) listed.2 (found.joined_are.joined listed.0 listed.1);
      }

  module _ (row other : ℕ) (row_in : row < rows) (other_in : other < rows) (same : label_at labels row ≡ label_at labels other) where
    pub class_table : slice_get frame.tables row ≡ slice_get frame.tables other
    class_table =
        let mark : ℕ → Value = λ r. value.Int (pos (unwrap_or (slice_get frame.tables r) 0)) in
        let alike : mark row ≡ mark other = found.joined_are.tied mark (λ k h. ap (λ (o : Option ℕ). value.Int (pos (unwrap_or o 0))) (tie k h).table) row other row_in other_in same in
        let one : unwrap_or (slice_get frame.tables row) 0 ≡ unwrap_or (slice_get frame.tables other) 0 = cc alike in
        let table : slice_index_or frame.tables row 0 ≡ slice_index_or frame.tables other 0 =
        sym (unwrap_or-slice_get frame.tables row 0) ∙ (one ∙ unwrap_or-slice_get frame.tables other 0) in
        slice_get-get_or frame.tables row 0 row_in ∙ (ap Some table ∙ sym (slice_get-get_or frame.tables other 0 other_in))

    pub class_domains : domains_at frame row ≡ domains_at frame other
    class_domains = ap (λ (o : Option ℕ). unwrap_or (option_and_then (slice_get frame.domains) o) []) class_table

  -- ---- the variables of rows of one class

  pub few_columns : (row column : ℕ) (d : Domain) → slice_get (domains_at frame row) column ≡ Some d → column < 64
  few_columns row column d at = (cell_there frame frame_is row column (slice_get_within (domains_at frame row) column d at)).1

  -- the cell of a variable
  pub record IsCellOf (row column n : ℕ) : Type 0 where
    pub low : n < length cells
    pub cell : cell_at cells n ≡ record { row = row; column = column }

  -- a literal names the cell in a row of the class, as one that is not NULL
  pub record IsFirmCell (row column : ℕ) : Type 0 where
    pub place : ℕ
    pub listed : place < length firms
    pub column_is : (named_at firms place).column ≡ column
    pub label : label_at labels (named_at firms place).row ≡ label_at labels row

  module _ (row column n : ℕ) (few : column < 64) (some : number_at places row column ≡ Some n) where
    pub cell_is : IsCellOf row column n
    cell_is =
        let placed = found.numbered.numbering.placed (row * 64 + column) n some in
        let kept = found.numbered.numbering.kept n placed.0 in
        let one = one_place (cell_at cells n).row (cell_at cells n).column row column kept.column few placed.1 in
        record { low = placed.0; cell = ap₂ (λ (r c : ℕ). record { row = r; column = c }) one.0 one.1 }

    pub firm_cell : IsFirmCell row column
    firm_cell =
        let from = found.numbered.from n cell_is.low in
        record {
          place = from.place;
          listed = from.listed;
          column_is = sym from.of.0 ∙ ap (λ (c : Cell). c.column) cell_is.cell;
          label = from.of.1 ∙ ap (λ (c : Cell). label_at labels c.row) cell_is.cell;
        }

    pub class_placed : (other : ℕ) → other < rows → label_at labels other ≡ label_at labels row → IsPlaced places other column
    class_placed other other_in same =
        let firm = firm_cell in
        subst (λ (c : ℕ). IsPlaced places other c) firm.column_is (found.numbered.placed firm.place firm.listed other (labelled other other_in) (same ∙ sym firm.label))

  -- ---- the values of rows of one class

  module _ (k : ℕ) (h : k < length joins) (column : ℕ) where
    abbrev j : Join
    j = join_at joins k

    there : slice_get joins k ≡ Some j
    there = slice_get-get_or joins k (record { fact = 0; row = 0; other = 0 }) h

    text_alike : (size n m : ℕ) → slice_get (domains_at frame j.row) column ≡ Some (domain.Text size) → number_at places j.row column ≡ Some n → number_at places j.other column ≡ Some m →
        text_in s.labels.items s.texts.items n ≡ text_in s.labels.items s.texts.items m
    text_alike size n m dom left right =
        let f : TextFact = record { left = end.Var n; right = end.Var m; equal = true } in
        let is : same_fact (number_at places j.row column) (number_at places j.other column) ≡ f ∷ [] =
        ap (λ (o : Option ℕ). same_fact o (number_at places j.other column)) left ∙ ap (same_fact (Some n)) right in
        let plain : column ≡ 0 + column = omega arith in
        let told_f : Contains (told (join_facts frame places) 0 joins) f =
        told_has (join_facts frame places) joins 0 k j f there
        (told_has (fact_at_column frame places j) (domains_at frame j.row) 0 column (domain.Text size) f dom
        (subst (λ (c : ℕ). Contains (fact_at_column frame places j c (domain.Text size)) f) plain (subst (λ (fs : List TextFact). Contains fs f) (sym is) (0, (let h : 0 < 1 = omega arith in h), refl)))) in
        let said : List TextFact = gathered (said_fact places) 0 literals in
        let all : List TextFact = all_facts frame literals joins s.numbering in
        let texts : ℕ → List ℕ = text_in s.labels.items s.texts.items in
        let true_one : Holds texts f = All-contains (Holds texts) all f found.texts (Contains-append_right said (told (join_facts frame places) 0 joins) f told_f) in
        one_text (texts n) (texts m) true_one

    number_alike : (least greatest : ℤ) (unit : _) (n m : ℕ) → slice_get (domains_at frame j.row) column ≡ Some (domain.Number least greatest unit) →
        number_at places j.row column ≡ Some n → number_at places j.other column ≡ Some m → number_of s n ≡ number_of s m
    number_alike least greatest unit n m dom left right =
        ap (λ (z : ℤ). z -ℤ value_in s.numbers.items 0)
        (join_meant frame literals labels places cells (gathered bound_of 0 literals) joins refl (length cells + 1) s.numbers.items found.numbers k j column n m least greatest unit there dom left right)

    both_alike : (d : Domain) (n m : ℕ) → slice_get (domains_at frame j.row) column ≡ Some d → number_at places j.row column ≡ Some n → number_at places j.other column ≡ Some m →
        value_of frame s (Some n) (Some d) ≡ value_of frame s (Some m) (Some d)
    both_alike (domain.Number least greatest unit) n m dom left right = ap value.Int (number_alike least greatest unit n m dom left right)
    both_alike (domain.Text size) n m dom left right = ap value.Text (text_alike size n m dom left right)

    by_numbers : (d : Domain) (o p : Option ℕ) → slice_get (domains_at frame j.row) column ≡ Some d → number_at places j.row column ≡ o → number_at places j.other column ≡ p →
        value_of frame s o (Some d) ≡ value_of frame s p (Some d)
    by_numbers d None None dom left right = refl
    by_numbers d (Some n) None dom left right =
        let t = tie k h in
        let m = class_placed j.row column n (few_columns j.row column d dom) left j.other t.other_in (sym t.label) in
        let no : Some m.0 ≡ None = sym m.1 ∙ right in
        cc no
    by_numbers d None (Some m) dom left right =
        let t = tie k h in
        let n = class_placed j.other column m (few_columns j.row column d dom) right j.row t.row_in t.label in
        let no : Some n.0 ≡ None = sym n.1 ∙ left in
        cc no
    by_numbers d (Some n) (Some m) dom left right = both_alike d n m dom left right

    by_domain : (o : Option Domain) → slice_get (domains_at frame j.row) column ≡ o → value_of frame s (number_at places j.row column) o ≡ value_of frame s (number_at places j.other column) o
    by_domain None dom = refl
    by_domain (Some d) dom = by_numbers d (number_at places j.row column) (number_at places j.other column) dom refl refl

    value_alike : value_at frame s j.row column ≡ value_at frame s j.other column
    value_alike =
        let t = tie k h in
        by_domain (slice_get (domains_at frame j.row) column) refl
        ∙ ap (λ (ds : List Domain). value_of frame s (number_at places j.other column) (slice_get ds column)) (class_domains j.row j.other t.row_in t.other_in t.label)

  pub class_value : (row other column : ℕ) → row < rows → other < rows → label_at labels row ≡ label_at labels other → value_at frame s row column ≡ value_at frame s other column
  class_value row other column row_in other_in same = found.joined_are.tied (λ r. value_at frame s r column) (λ k h. value_alike k h column) row other row_in other_in same

  pub value_is : (row column : ℕ) → row < rows → given_at (assigned frame s labels) row column ≡ value_at frame s row column
  value_is row column h =
      cell_named frame s labels row column (labelled row h) ∙ class_value (label_at labels row) row column (found.joined_are.within row h) h (found.joined_are.own row h)

  -- ---- the numbers of cells are of their domains

  pub number_meant : (row column n : ℕ) (least greatest : ℤ) (unit : _) → row < rows → slice_get (domains_at frame row) column ≡ Some (domain.Number least greatest unit) →
      number_at places row column ≡ Some n → (least ≤ℤ number_of s n) × (number_of s n ≤ℤ greatest)
  number_meant row column n least greatest unit h dom some =
      let d : Domain = domain.Number least greatest unit in
      let r : ℕ = label_at labels row in
      let r_in : r < rows = found.joined_are.within row h in
      let own : label_at labels r ≡ r = found.joined_are.own row h in
      let few = few_columns row column d dom in
      let m = class_placed row column n few some r r_in own in
      let r_dom : slice_get (domains_at frame r) column ≡ Some d = ap (λ (ds : List Domain). slice_get ds column) (class_domains r row r_in h own) ∙ dom in
      let one : value.Int (number_of s n) ≡ value.Int (number_of s m.0) =
      sym (ap₂ (value_of frame s) some dom) ∙ (sym (class_value r row column r_in h own) ∙ ap₂ (value_of frame s) m.1 r_dom) in
      let same : number_of s m.0 ≡ number_of s n = cc one in
      let cell = cell_is r column m.0 few m.1 in
      let at : slice_get cells m.0 ≡ Some (record { row = r; column = column }) = slice_get-get_or cells m.0 (record { row = 0; column = 0 }) cell.low ∙ ap Some cell.cell in
      subst (λ (z : ℤ). (least ≤ℤ z) × (z ≤ℤ greatest)) same
      (range_meant frame literals labels places cells (gathered bound_of 0 literals) joins refl (length cells + 1) s.numbers.items found.numbers m.0 (record { row = r; column = column }) least greatest unit at own r_dom)
