-- In a realized branch the inequality of each edge of a guarded ring is true, so no guarded ring contradicts it. A
-- cell that is no number is read as 0: only the inequality of a domain is then not true of it, and that of a fact not
-- there.
use Rattle.std.proofs.Common.{◌≡◌, ◌∙◌, sym, ap, refl, subst, ℕ, ℤ, pos, neg_ℤ, ◌-ℤ◌, ◌≤ℤ◌, Bool, true, false, not, ◌&&◌, ◌||◌, List, [], ◌∷◌, length, arith}
use Rattle.std.proofs.lemmas.Int.{ints}
use Rattle.std.proofs.lemmas.Bool.{and_parts}
use Rattle.std.proofs.lemmas.Option.{option_and_then_some, same_Some}
use Rattle.std.specs.Prelude.{Option, Some, None, slice_get, unwrap_or, option_and_then, nat_le, int_lt, ⊤}
use Rattle.std.specs.List.{AllByRecursion}
use Rattle.std.specs.Option.{option_map_or}
use Rattle.lint_core.specs.declared.schema.Domain.{Domain}
use Rattle.lint_core.specs.declared.schema.Domain.TheVariants.{Number, Text}
use Rattle.lint_core.specs.declared.schema.Column.{Column}
use Rattle.lint_core.specs.declared.schema.Table.{Table}
use Rattle.lint_core.specs.declared.certificate.SumEdge.{SumEdge}
use Rattle.lint_core.specs.declared.certificate.SumEdge.TheVariants as edge
use Rattle.lint_core.specs.declared.database.Database.{Database}
use Rattle.lint_core.specs.declared.database.Value.{Value}
use Rattle.lint_core.specs.declared.database.Value.TheVariants.{Null, Int}
use Rattle.lint_core.specs.declared.database.Value.TheVariants as value
use Rattle.lint_core.specs.Database.{Place, value_at}
use Rattle.lint_core.specs.Domain.{int_le, is_in_domain}
use Rattle.lint_core.specs.Meets.{is_of_domains}
use Rattle.lint_core.proofs.Inside.{inside}
use Rattle.sort_formula.specs.declared.formula.Side.{Side}
use Rattle.sort_formula.specs.declared.formula.Side.TheVariants as side
use Rattle.sort_formula.specs.declared.formula.Atom.{Atom}
use Rattle.sort_formula.specs.declared.formula.Atom.TheVariants as atom
use Rattle.sort_formula.specs.Facts.{Branch, atom_of, same_rows_of, domain_at, is_same_side}
use Rattle.sort_formula.specs.Holds.{differ_by_at_most, side_value}
use Rattle.sort_formula.specs.Rings.{Bound, bound_in, low_bound, high_bound, same_bound, bound_of, bounds_of, is_chain, is_ring, sum_of, is_fact, is_low, is_high, may_follow, may_follow_round, is_guarded, is_negative_ring, is_contradiction}
use Rattle.sort_formula.specs.Realized.{Realized}
use Rattle.formula_laws.proofs.Linked.{passes, same_side}
use Rattle.formula_laws.proofs.Named.{Says}
use Rattle.formula_laws.proofs.Realized.{says, one_place, table_at}
use Rattle.formula_laws.proofs.RingSums.{int_le_true, Bounds, ring_sum}

-- a value as a number; 0 where it is none
abbrev as_number : Value → ℤ
as_number Null = pos 0
as_number (Int n) = n
as_number (value.Text text) = pos 0

-- a difference that has a bound is that of two numbers
differ_parts : (v w : Value) (most : ℤ) → differ_by_at_most v w most ≡ true →
    (a : ℤ) × (b : ℤ) × (v ≡ Int a) × (w ≡ Int b) × ((as_number v -ℤ as_number w) ≤ℤ most)
differ_parts Null w most h = cc
differ_parts (Int a) Null most h = cc
differ_parts (Int a) (Int b) most h = (a, b, refl, refl, int_le_true (a -ℤ b) most h)
differ_parts (Int a) (value.Text text) most h = cc
differ_parts (value.Text text) w most h = cc

implied : (x y : Bool) → (not x || y) ≡ true → x ≡ true → y ≡ true
implied true y h given = h
implied false y h given = cc

number_there : (o : Option Value) (n : ℤ) → unwrap_or o Null ≡ Int n → o ≡ Some (Int n)
number_there None n h = cc
number_there (Some v) n h = ap Some h

least_first : (least greatest n : ℤ) → (int_le least n && int_le n greatest) ≡ true → (pos 0 -ℤ n) ≤ℤ neg_ℤ least
least_first least greatest n inside =
    let low : least ≤ℤ n = int_le_true least n (and_parts (int_le least n) (int_le n greatest) inside).0 in
    omega (arith, ints)

greatest_last : (least greatest n : ℤ) → (int_le least n && int_le n greatest) ≡ true → (n -ℤ pos 0) ≤ℤ greatest
greatest_last least greatest n inside =
    let high : n ≤ℤ greatest = int_le_true n greatest (and_parts (int_le least n) (int_le n greatest) inside).1 in
    omega (arith, ints)

equal_numbers : (a b : ℤ) → a ≡ b → (a -ℤ b) ≤ℤ pos 0
equal_numbers a b same = omega (arith, ints)

-- the bounds of a cell
abbrev at_least : ℕ → ℕ → ℤ → Bound
at_least row column least = record { left = side.Zero; right = side.Cell row column; most = neg_ℤ least }

abbrev at_most : ℕ → ℕ → ℤ → Bound
at_most row column greatest = record { left = side.Cell row column; right = side.Zero; most = greatest }

abbrev alike : ℕ → ℕ → ℕ → Bound
alike row other column = record { left = side.Cell row column; right = side.Cell other column; most = pos 0 }

-- the domain of a column of a table
abbrev column_domain : ℕ → Table → Option Domain
column_domain column table = option_and_then (λ (c : Column). Some c.domain) (slice_get table.columns column)

abbrev table_domain : List Table → ℕ → ℕ → Option Domain
table_domain schema column t = option_and_then (column_domain column) (slice_get schema t)

module _ (db : Database) (places : List Place) where
  abbrev pub reading : Side → ℤ
  reading s = as_number (side_value db places s)

  abbrev pub Known : Side → Type 0
  Known s = (n : ℤ) × (side_value db places s ≡ Int n)

  -- a fact knows both its sides, and each edge is true where its cell is known
  pub record Reads (e : SumEdge) (b : Bound) : Type 0 where
    pub left : is_fact e ≡ true → Known b.left
    pub right : is_fact e ≡ true → Known b.right
    pub bounds : (is_low e ≡ true → Known b.right) → (is_high e ≡ true → Known b.left) → Bounds reading b

  abbrev pub AllRead : List SumEdge → List Bound → Type 0
  AllRead [] [] = ⊤
  AllRead [] (b ∷ bs) = ⊥
  AllRead (e ∷ es) [] = ⊥
  AllRead (e ∷ es) (b ∷ bs) = Reads e b × AllRead es bs

  known_same : (s t : Side) → is_same_side s t ≡ true → Known s → Known t
  known_same s t same known = subst Known (same_side s t same) known

  known_back : (s t : Side) → is_same_side s t ≡ true → Known t → Known s
  known_back s t same known = subst Known (sym (same_side s t same)) known

  follow_low : (e next : SumEdge) → may_follow e next ≡ true → is_low e ≡ true → is_fact next ≡ true
  follow_low e next h = implied (is_low e) (is_fact next) (and_parts (not (is_low e) || is_fact next) (not (is_high next) || is_fact e) h).0

  follow_high : (e next : SumEdge) → may_follow e next ≡ true → is_high next ≡ true → is_fact e ≡ true
  follow_high e next h = implied (is_high next) (is_fact e) (and_parts (not (is_low e) || is_fact next) (not (is_high next) || is_fact e) h).1

  -- the last edge is followed by the first
  last_left : (first : SumEdge) (to : Side) (e : SumEdge) (b : Bound) (es : List SumEdge) (bs : List Bound) →
      may_follow_round first (e ∷ es) ≡ true → is_chain b.right bs to ≡ true → Reads e b → AllRead es bs → is_high first ≡ true →
      Known to
  last_left first to e b [] [] round chain reads all high = known_same b.right to chain (reads.right (follow_high e first round high))
  last_left first to e b [] (b' ∷ bs) round chain reads all high = absurd all
  last_left first to e b (e' ∷ es) [] round chain reads all high = absurd all
  last_left first to e b (e' ∷ es) (b' ∷ bs) round chain reads all high =
      last_left first to e' b' es bs
      (and_parts (may_follow e e') (may_follow_round first (e' ∷ es)) round).1
      (and_parts (is_same_side b.right b'.left) (is_chain b'.right bs to) chain).1
      all.0 all.1 high

  all_bound : (first : SumEdge) (to : Side) (e : SumEdge) (b : Bound) (es : List SumEdge) (bs : List Bound) →
      may_follow_round first (e ∷ es) ≡ true → is_chain b.right bs to ≡ true → (is_fact first ≡ true → Known to) → Reads e b →
      AllRead es bs → (is_high e ≡ true → Known b.left) → AllByRecursion (Bounds reading) (b ∷ bs)
  all_bound first to e b [] [] round chain begins reads all left =
      (reads.bounds (λ low. known_back b.right to chain (begins (follow_low e first round low))) left, tt)
  all_bound first to e b [] (b' ∷ bs) round chain begins reads all left = absurd all
  all_bound first to e b (e' ∷ es) [] round chain begins reads all left = absurd all
  all_bound first to e b (e' ∷ es) (b' ∷ bs) round chain begins reads all left =
      let follows = and_parts (may_follow e e') (may_follow_round first (e' ∷ es)) round in
      let links = and_parts (is_same_side b.right b'.left) (is_chain b'.right bs to) chain in (
        reads.bounds (λ low. known_back b.right b'.left links.0 (all.0.left (follow_low e e' follows.0 low))) left,
        all_bound first to e' b' es bs follows.1 links.1 begins all.0 all.1
            (λ high. known_same b.right b'.left links.0 (reads.right (follow_high e e' follows.0 high))),
      )

  -- a ring of edges that are read has no negative sum
  no_negative_sum : (es : List SumEdge) (bs : List Bound) → is_guarded es ≡ true → is_ring bs ≡ true → AllRead es bs →
      int_lt (sum_of bs) (pos 0) ≡ true → ⊥
  no_negative_sum [] bs guarded ring all negative = cc
  no_negative_sum (e ∷ es) [] guarded ring all negative = absurd all
  no_negative_sum (e ∷ es) (b ∷ bs) guarded ring all negative =
      let chain = (and_parts (is_same_side b.left b.left) (is_chain b.right bs b.left) ring).1 in
      ring_sum reading (b ∷ bs) ring
      (all_bound e b.left e b es bs guarded chain all.0.left all.0 all.1 (last_left e b.left e b es bs guarded chain all.0 all.1))
      negative

  -- an inequality that holds knows both its sides
  le_reads : (left right : Side) (most : ℤ) → differ_by_at_most (side_value db places left) (side_value db places right) most ≡ true →
      Known left × Known right × ((reading left -ℤ reading right) ≤ℤ most)
  le_reads left right most stands =
      let parts = differ_parts (side_value db places left) (side_value db places right) most stands in
      ((parts.0, parts.2), (parts.1, parts.3), parts.4)

  atom_reads : (a : Atom) (b : Bound) → bound_in a ≡ Some b → Says db places a → Known b.left × Known b.right × Bounds reading b
  atom_reads (atom.Le left right most) b bound stands =
      subst (λ (b : Bound). Known b.left × Known b.right × Bounds reading b) (same_Some (record { left = left; right = right; most = most }) b bound)
      (le_reads left right most stands.0)
  atom_reads (atom.TextEq left right) b bound stands = cc
  atom_reads (atom.TextNe left right) b bound stands = cc
  atom_reads (atom.IsNull row column) b bound stands = cc
  atom_reads (atom.NotNull row column) b bound stands = cc
  atom_reads (atom.Same row other) b bound stands = cc
  atom_reads (atom.Other row other) b bound stands = cc

  -- the cells of one place are one number
  alike_reads : (row other column : ℕ) (d : Domain) (b : Bound) → slice_get places row ≡ slice_get places other →
      same_bound row other column d ≡ Some b → Bounds reading b
  alike_reads row other column (Number least greatest unit) b one bound =
      let value_of = λ (o : Option Place). as_number (unwrap_or (option_and_then (λ place. value_at db place column) o) Null) in
      subst (Bounds reading) (same_Some (alike row other column) b bound)
      (equal_numbers (reading (side.Cell row column)) (reading (side.Cell other column)) (ap value_of one))
  alike_reads row other column (Text length) b one bound = cc

module _ (schema : List Table) (db : Database) (domains : is_of_domains schema db ≡ true) (branch : Branch) (places : List Place) (realized : Realized db branch places) where
  -- a known cell lies in the domain of its column
  cell_inside : (row column : ℕ) (d : Domain) (n : ℤ) → domain_at schema branch row column ≡ Some d →
      side_value db places (side.Cell row column) ≡ Int n → is_in_domain d (Int n) ≡ true
  cell_inside row column d n domain value =
      option_and_then_some (λ place. value_at db place column) (slice_get places row) (Int n)
      (number_there (option_and_then (λ place. value_at db place column) (slice_get places row)) n value)
      (λ place place_at stands. option_and_then_some (table_domain schema column) (slice_get branch.tables row) d domain
      (λ t t_at more. option_and_then_some (column_domain column) (slice_get schema t) d more
      (λ table table_is rest. option_and_then_some (λ (c : Column). Some c.domain) (slice_get table.columns column) d rest
      (λ c c_at same.
      let t_is : t ≡ place.table = same_Some t place.table (sym t_at ∙ table_at places branch.tables row place realized.tables place_at) in
      let here : slice_get schema place.table ≡ Some table = subst (λ t. slice_get schema t ≡ Some table) t_is table_is in
      subst (λ d. is_in_domain d (Int n) ≡ true) (same_Some c.domain d same)
      (inside schema db domains place column (Int n) table c stands here c_at)))))

  low_reads : (row column : ℕ) (d : Domain) (b : Bound) → domain_at schema branch row column ≡ Some d →
      low_bound row column d ≡ Some b → Known db places b.right → Bounds (reading db places) b
  low_reads row column (Number least greatest unit) b domain bound known =
      let e : at_least row column least ≡ b = same_Some (at_least row column least) b bound in
      let known_cell : Known db places (side.Cell row column) = subst (λ (b : Bound). Known db places b.right) (sym e) known in
      let number : reading db places (side.Cell row column) ≡ known_cell.0 = ap as_number known_cell.1 in
      subst (Bounds (reading db places)) e
      (rw number (least_first least greatest known_cell.0 (cell_inside row column (Number least greatest unit) known_cell.0 domain known_cell.1)))
  low_reads row column (Text length) b domain bound known = cc

  high_reads : (row column : ℕ) (d : Domain) (b : Bound) → domain_at schema branch row column ≡ Some d →
      high_bound row column d ≡ Some b → Known db places b.left → Bounds (reading db places) b
  high_reads row column (Number least greatest unit) b domain bound known =
      let e : at_most row column greatest ≡ b = same_Some (at_most row column greatest) b bound in
      let known_cell : Known db places (side.Cell row column) = subst (λ (b : Bound). Known db places b.left) (sym e) known in
      let number : reading db places (side.Cell row column) ≡ known_cell.0 = ap as_number known_cell.1 in
      subst (Bounds (reading db places)) e
      (rw number (greatest_last least greatest known_cell.0 (cell_inside row column (Number least greatest unit) known_cell.0 domain known_cell.1)))
  high_reads row column (Text length) b domain bound known = cc

  fact_edge : (fact : ℕ) (b : Bound) → option_and_then bound_in (atom_of branch fact) ≡ Some b → Reads db places (edge.Fact fact) b
  fact_edge fact b bound =
      option_and_then_some bound_in (atom_of branch fact) b bound
      (λ a at stated.
      let reads = atom_reads db places a b stated (says db branch places realized fact a at) in
      record { left = λ _. reads.0; right = λ _. reads.1; bounds = λ _ _. reads.2 })

  same_edge : (fact column : ℕ) (b : Bound) → bound_of schema branch (edge.Same fact column) ≡ Some b → Bounds (reading db places) b
  same_edge fact column b bound =
      option_and_then_some (λ (rows : ℕ × ℕ). option_and_then (same_bound rows.0 rows.1 column) (domain_at schema branch rows.0 column)) (same_rows_of branch fact) b bound
      (λ rows here more. option_and_then_some (same_bound rows.0 rows.1 column) (domain_at schema branch rows.0 column) b more
      (λ d at stated. alike_reads db places rows.0 rows.1 column d b (one_place db branch places realized fact rows here) stated))

  back_edge : (fact column : ℕ) (b : Bound) → bound_of schema branch (edge.Back fact column) ≡ Some b → Bounds (reading db places) b
  back_edge fact column b bound =
      option_and_then_some (λ (rows : ℕ × ℕ). option_and_then (same_bound rows.1 rows.0 column) (domain_at schema branch rows.0 column)) (same_rows_of branch fact) b bound
      (λ rows here more. option_and_then_some (same_bound rows.1 rows.0 column) (domain_at schema branch rows.0 column) b more
      (λ d at stated. alike_reads db places rows.1 rows.0 column d b (sym (one_place db branch places realized fact rows here)) stated))

  edge_reads : (e : SumEdge) (b : Bound) → bound_of schema branch e ≡ Some b → Reads db places e b
  edge_reads (edge.Fact fact) b bound = fact_edge fact b bound
  edge_reads (edge.Low row column) b bound =
      option_and_then_some (low_bound row column) (domain_at schema branch row column) b bound
      (λ d at stated. record { left = λ h. cc; right = λ h. cc; bounds = λ low _. low_reads row column d b at stated (low refl) })
  edge_reads (edge.High row column) b bound =
      option_and_then_some (high_bound row column) (domain_at schema branch row column) b bound
      (λ d at stated. record { left = λ h. cc; right = λ h. cc; bounds = λ _ high. high_reads row column d b at stated (high refl) })
  edge_reads (edge.Same fact column) b bound = record { left = λ h. cc; right = λ h. cc; bounds = λ _ _. same_edge fact column b bound }
  edge_reads (edge.Back fact column) b bound = record { left = λ h. cc; right = λ h. cc; bounds = λ _ _. back_edge fact column b bound }

  all_read : (es : List SumEdge) (bs : List Bound) → bounds_of schema branch es ≡ Some bs → AllRead db places es bs
  all_read [] bs stated = subst (AllRead db places []) (same_Some [] bs stated) tt
  all_read (e ∷ es) bs stated =
      option_and_then_some (λ b. option_and_then (λ bs. Some (b ∷ bs)) (bounds_of schema branch es)) (bound_of schema branch e) bs stated
      (λ b here more. option_and_then_some (λ bs. Some (b ∷ bs)) (bounds_of schema branch es) bs more
      (λ rest there same. subst (AllRead db places (e ∷ es)) (same_Some (b ∷ rest) bs same) (edge_reads e b here, all_read es rest there)))

  pub no_contradiction : (es : List SumEdge) → is_contradiction schema branch es ≡ true → ⊥
  no_contradiction es contradicts =
      let parts = and_parts (nat_le (length es) 32769 && is_guarded es) (option_map_or is_negative_ring (bounds_of schema branch es) false) contradicts in
      let guarded = (and_parts (nat_le (length es) 32769) (is_guarded es) parts.0).1 in
      let bounds = passes is_negative_ring (bounds_of schema branch es) parts.1 in
      let negative = and_parts (is_ring bounds.0) (int_lt (sum_of bounds.0) (pos 0)) bounds.2 in
      no_negative_sum db places es bounds.0 guarded negative.0 (all_read es bounds.0 bounds.1) negative.1
