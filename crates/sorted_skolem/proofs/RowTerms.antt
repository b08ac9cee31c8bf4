-- The row terms: one for each Exists over a table of the order and each list of row terms of the Foralls around it. The rows of a
-- term are of tables before its own.
use Rattle.std.proofs.Common.{◌≡◌, ◌∙◌, sym, ap, ap₂, refl, subst, ℕ, zero, suc, ◌<◌, ◌⊎◌, inl, inr, Bool, true, false, List, [], ◌∷◌, ◌++◌, length, map, append_assoc, append-nil, arith}
use Rattle.std.proofs.lemmas.Bool.{eqb-true}
use Rattle.std.proofs.lemmas.Bool.Decides.{nat_tests}
use Rattle.std.proofs.lemmas.Option.{same_Some, slice_get_within}
use Rattle.std.specs.Prelude.{Option, Some, None, slice_get, nat_eq, option_and_then, if◌then◌else◌}
use Rattle.std.specs.List.{flat_map}
use Rattle.std.specs.Option.{option_map_or}
use Rattle.lint_base.proofs.Lists.{slice_get_front}
use Rattle.lint_core.specs.Database.{below}
use Rattle.sort_formula.specs.declared.formula.Formula.{Formula}
use Rattle.sorted_skolem.specs.declared.term.RowTerm.{RowTerm}
use Rattle.sorted_skolem.specs.Graph.{Asks, IsLive, asked, IsOrder}
use Rattle.sorted_skolem.specs.Preorder.{Node, node_at, outlines_of, forall_tables, exists_table}
use Rattle.sorted_skolem.specs.Terms.{numbered, is_of_table, terms_of, term_lists, terms_at, terms_over, terms_along, row_terms}
use Rattle.sorted_skolem.proofs.Among.{Among, among_left, among_right, among_either, among_split, at_either, among_at, at_among, among_filter, filter_among, among_map, map_among, among_flat, flat_among, below_is, counted_among, numbered_is, numbered_at, at_numbered, InOrder, order_append, order_filter, order_map, order_flat, order_counted, order_numbered}
use Rattle.sorted_skolem.proofs.Ordered.{once, live_among, among_live, from_before}

-- ---- lists of numbers, by the first that differs

abbrev pub StandsLower : List ℕ → List ℕ → Type 0
StandsLower [] ys = ⊥
StandsLower (x ∷ xs) [] = ⊥
StandsLower (x ∷ xs) (y ∷ ys) = (x < y) ⊎ ((x ≡ y) × StandsLower xs ys)

pub never_lower : (xs ys : List ℕ) → StandsLower xs ys → StandsLower ys xs → ⊥
never_lower [] ys one two = one
never_lower (x ∷ xs) [] one two = one
never_lower (x ∷ xs) (y ∷ ys) one two =
    elim one [
      | inl low ↦ elim two [ inl high ↦ absurd (omega arith) | inr same ↦ let e = same.0 in absurd (omega arith) ]
      | inr same ↦ let e = same.0 in elim two [ inl high ↦ absurd (omega arith) | inr again ↦ never_lower xs ys same.1 again.1 ]
    ]

-- ---- rows of tables

some_test : {A : Type 0} (test : A → Bool) (o : Option A) → option_map_or test o false ≡ true → (x : A) × (o ≡ Some x) × (test x ≡ true)
some_test test None h = cc
some_test test (Some x) h = (x, refl, h)

same_number : (m n : ℕ) → m ≡ n → nat_eq m n ≡ true
same_number m n same = grind (arith, nat_tests)

abbrev pub IsRowOf : List RowTerm → ℕ → ℕ → Type 0
IsRowOf terms table row = (t : RowTerm) × (slice_get terms row ≡ Some t) × (t.table ≡ table)

-- a row of each of the tables
abbrev pub AreRows : List RowTerm → List ℕ → List ℕ → Type 0
AreRows terms [] [] = Unit {0}
AreRows terms [] (row ∷ rows) = ⊥
AreRows terms (table ∷ tables) [] = ⊥
AreRows terms (table ∷ tables) (row ∷ rows) = IsRowOf terms table row × AreRows terms tables rows

module _ (terms : List RowTerm) where
  terms_row : (table row : ℕ) → Among (terms_of terms table) row → IsRowOf terms table row
  terms_row table row is =
      let found = some_test (λ (t : RowTerm). nat_eq t.table table) (slice_get terms row) (among_filter (is_of_table terms table) (below (length terms)) row is).1 in
      (found.0, found.1, eqb-true found.0.table table found.2)

  row_terms_of : (table row : ℕ) → IsRowOf terms table row → Among (terms_of terms table) row
  row_terms_of table row is =
      let low : row < length terms = slice_get_within terms row is.0 is.1 in
      filter_among (is_of_table terms table) (below (length terms)) row
      (subst (λ ns. Among ns row) (sym (below_is (length terms))) (counted_among 0 (length terms) row (omega arith) (omega arith)))
      (ap (λ o. option_map_or (λ (t : RowTerm). nat_eq t.table table) o false) is.1 ∙ same_number is.0.table table is.2)

  pub lists_rows : (tables rows : List ℕ) → Among (term_lists terms tables) rows → AreRows terms tables rows
  lists_rows [] rows is = elim is [ inl here ↦ subst (AreRows terms []) here tt | inr never ↦ absurd never ]
  lists_rows (table ∷ tables) rows is =
      let first = flat_among (λ row. map (λ rows. row ∷ rows) (term_lists terms tables)) (terms_of terms table) rows is in
      let rest = map_among (λ rows. first.0 ∷ rows) (term_lists terms tables) rows first.2 in
      subst (AreRows terms (table ∷ tables)) rest.2 (terms_row table first.0 first.1, lists_rows tables rest.0 rest.1)

  pub rows_lists : (tables rows : List ℕ) → AreRows terms tables rows → Among (term_lists terms tables) rows
  rows_lists [] [] are = inl refl
  rows_lists [] (row ∷ rows) are = absurd are
  rows_lists (table ∷ tables) [] are = absurd are
  rows_lists (table ∷ tables) (row ∷ rows) are =
      among_flat (λ row. map (λ rows. row ∷ rows) (term_lists terms tables)) (terms_of terms table) row (row ∷ rows) (row_terms_of table row are.0)
      (among_map (λ rows. row ∷ rows) (term_lists terms tables) rows (rows_lists tables rows are.1))

  pub order_lists : (tables : List ℕ) → InOrder StandsLower (term_lists terms tables)
  order_lists [] = (λ rows is. absurd is, tt)
  order_lists (table ∷ tables) =
      order_flat (λ a b. a < b) StandsLower (λ row. map (λ rows. row ∷ rows) (term_lists terms tables)) (terms_of terms table)
      (λ row is. order_map StandsLower StandsLower (λ rows. row ∷ rows) (λ x y lower. inr (refl, lower)) (term_lists terms tables) (order_lists tables))
      (λ row other is is' low xs ys at to.
      let x = map_among (λ rows. row ∷ rows) (term_lists terms tables) xs at in
      let y = map_among (λ rows. other ∷ rows) (term_lists terms tables) ys to in
      subst (λ zs. StandsLower zs ys) x.2 (subst (StandsLower (row ∷ x.0)) y.2 (inl low)))
      (order_filter (λ a b. a < b) (is_of_table terms table) (below (length terms)) (subst (InOrder (λ a b. a < b)) (sym (below_is (length terms))) (order_counted 0 (length terms))))

pub more_rows : (terms more : List RowTerm) (tables rows : List ℕ) → AreRows terms tables rows → AreRows (terms ++ more) tables rows
more_rows terms more [] [] are = tt
more_rows terms more [] (row ∷ rows) are = absurd are
more_rows terms more (table ∷ tables) [] are = absurd are
more_rows terms more (table ∷ tables) (row ∷ rows) are = ((are.0.0, slice_get_front terms more row are.0.0 are.0.1, are.0.2), more_rows terms more tables rows are.1)

-- those of tables that no later term has are among the first
pub first_rows : (terms more : List RowTerm) (tables rows : List ℕ) → ((table : ℕ) (t : RowTerm) → Among tables table → Among more t → t.table ≡ table → ⊥) →
    AreRows (terms ++ more) tables rows → AreRows terms tables rows
first_rows terms more [] [] other are = tt
first_rows terms more [] (row ∷ rows) other are = absurd are
first_rows terms more (table ∷ tables) [] other are = absurd are
first_rows terms more (table ∷ tables) (row ∷ rows) other are = (
  elim (at_either terms more row are.0.0 are.0.1) [ inl first ↦ (are.0.0, first, are.0.2) | inr late ↦ absurd (other table are.0.0 (inl refl) late are.0.2) ],
  first_rows terms more tables rows (λ t u is late. other t u (inr is) late) are.1,
)

pub row_at : (terms : List RowTerm) (tables rows : List ℕ) (k table : ℕ) → AreRows terms tables rows → slice_get tables k ≡ Some table → (row : ℕ) × IsRowOf terms table row
row_at terms [] rows k table are at = cc
row_at terms (t ∷ ts) [] k table are at = absurd are
row_at terms (t ∷ ts) (row ∷ rows) zero table are at = (row, subst (λ t. IsRowOf terms t row) (same_Some t table at) are.0)
row_at terms (t ∷ ts) (row ∷ rows) (suc k) table are at = row_at terms ts rows k table are.1 at

module _ (outlines : List (List Node)) where
  -- an Exists asks for the term, at rows of the Foralls around it
  pub record IsAsked (terms : List RowTerm) (t : RowTerm) : Type 0 where
    pub node : Node
    pub stands : node_at outlines t.sentence t.node ≡ Some node
    pub asks : exists_table node ≡ Some t.table
    pub rows : AreRows terms (forall_tables node) t.rows

  abbrev term_of : ℕ → ℕ → ℕ → List ℕ → RowTerm
  term_of sentence node table rows = record { sentence = sentence; node = node; rows = rows; table = table }

  then_part : {A : Type 0} (test : Bool) (xs : List A) (x : A) → Among (if test then xs else []) x → (test ≡ true) × Among xs x
  then_part true xs x is = (refl, is)
  then_part false xs x is = absurd is

  -- the rows of a term, where it is one of a node's
  at_terms : (terms : List RowTerm) (table sentence : ℕ) (n : ℕ × Node) (t : RowTerm) → Among (terms_at terms table sentence n) t →
      (rows : List ℕ) × (term_of sentence n.0 table rows ≡ t) × (exists_table n.1 ≡ Some table) × AreRows terms (forall_tables n.1) rows
  at_terms terms table sentence n t is =
      let part = then_part (option_map_or (nat_eq table) (exists_table n.1) false) (map (term_of sentence n.0 table) (term_lists terms (forall_tables n.1))) t is in
      let found = map_among (term_of sentence n.0 table) (term_lists terms (forall_tables n.1)) t part.1 in
      let asks = some_test (nat_eq table) (exists_table n.1) part.0 in
      (found.0, found.2, asks.1 ∙ ap Some (sym (eqb-true table asks.0 asks.2)), lists_rows terms (forall_tables n.1) found.0 found.1)

  terms_of_node : (terms : List RowTerm) (table sentence : ℕ) (n : ℕ × Node) (rows : List ℕ) → exists_table n.1 ≡ Some table → AreRows terms (forall_tables n.1) rows →
      Among (terms_at terms table sentence n) (term_of sentence n.0 table rows)
  terms_of_node terms table sentence n rows asks are =
      let same : option_map_or (nat_eq table) (exists_table n.1) false ≡ true = ap (λ o. option_map_or (nat_eq table) o false) asks ∙ same_number table table refl in
      subst (λ b. Among (if b then map (term_of sentence n.0 table) (term_lists terms (forall_tables n.1)) else []) (term_of sentence n.0 table rows)) (sym same)
      (among_map (term_of sentence n.0 table) (term_lists terms (forall_tables n.1)) rows (rows_lists terms (forall_tables n.1) rows are))

  over_asked : (terms : List RowTerm) (table : ℕ) (t : RowTerm) → Among (terms_over outlines terms table) t → IsAsked terms t × (t.table ≡ table)
  over_asked terms table t is =
      let s = flat_among (λ (s : ℕ × List Node). flat_map (terms_at terms table s.0) (numbered s.1)) (numbered outlines) t is in
      let n = flat_among (terms_at terms table s.0.0) (numbered s.0.1) t s.2 in
      let own = at_terms terms table s.0.0 n.0 t n.2 in
      let stands : node_at outlines s.0.0 n.0.0 ≡ Some n.0.1 =
      ap (λ o. option_and_then (λ (nodes : List Node). slice_get nodes n.0.0) o) (at_numbered outlines s.0.0 s.0.1 s.1) ∙ at_numbered s.0.1 n.0.0 n.0.1 n.1 in
      (subst (IsAsked terms) own.1 (record { node = n.0.1; stands = stands; asks = own.2; rows = own.3 }), sym (ap (λ (t : RowTerm). t.table) own.1))

  asked_over : (terms : List RowTerm) (sentence node table : ℕ) (rows : List ℕ) (x : Node) → node_at outlines sentence node ≡ Some x → exists_table x ≡ Some table → AreRows terms (forall_tables x) rows →
      Among (terms_over outlines terms table) (term_of sentence node table rows)
  asked_over terms sentence node table rows x stands asks are =
      let found = parted (slice_get outlines sentence) stands in
      among_flat (λ (s : ℕ × List Node). flat_map (terms_at terms table s.0) (numbered s.1)) (numbered outlines) (sentence, found.0) (term_of sentence node table rows)
      (numbered_at outlines sentence found.0 found.1)
      (among_flat (terms_at terms table sentence) (numbered found.0) (node, x) (term_of sentence node table rows) (numbered_at found.0 node x found.2)
      (terms_of_node terms table sentence (node, x) rows asks are))
    where
      parted : (o : Option (List Node)) → option_and_then (λ (nodes : List Node). slice_get nodes node) o ≡ Some x → (nodes : List Node) × (o ≡ Some nodes) × (slice_get nodes node ≡ Some x)
      parted None is = cc
      parted (Some nodes) is = (nodes, refl, is)

  -- two terms that ask for two rows
  abbrev pub Differ : RowTerm → RowTerm → Type 0
  Differ t u = t.sentence ≡ u.sentence → t.node ≡ u.node → t.rows ≡ u.rows → ⊥

  order_over : (terms : List RowTerm) (table : ℕ) → InOrder Differ (terms_over outlines terms table)
  order_over terms table =
      order_flat (λ (s r : ℕ × List Node). s.0 < r.0) Differ (λ (s : ℕ × List Node). flat_map (terms_at terms table s.0) (numbered s.1)) (numbered outlines)
      (λ s is. order_flat (λ (n m : ℕ × Node). n.0 < m.0) Differ (terms_at terms table s.0) (numbered s.1) (λ n at. of_node s.0 n) (nodes_apart s.0 s.1) (in_numbers s.1))
      sentences_apart (in_numbers outlines)
    where
      in_numbers : {A : Type 0} (xs : List A) → InOrder (λ (a b : ℕ × A). a.0 < b.0) (numbered xs)
      in_numbers {A} xs = subst (InOrder (λ (a b : ℕ × A). a.0 < b.0)) (sym (numbered_is xs)) (order_numbered 0 xs)

      then_order : (test : Bool) (xs : List RowTerm) → InOrder Differ xs → InOrder Differ (if test then xs else [])
      then_order true xs all = all
      then_order false xs all = tt

      lower_differ : (sentence node : ℕ) (xs ys : List ℕ) → StandsLower xs ys → Differ (term_of sentence node table xs) (term_of sentence node table ys)
      lower_differ sentence node xs ys lower one two three = let low = subst (λ zs. StandsLower zs ys) three lower in never_lower ys ys low low

      of_node : (sentence : ℕ) (n : ℕ × Node) → InOrder Differ (terms_at terms table sentence n)
      of_node sentence n =
          then_order (option_map_or (nat_eq table) (exists_table n.1) false) (map (term_of sentence n.0 table) (term_lists terms (forall_tables n.1)))
          (order_map StandsLower Differ (term_of sentence n.0 table) (lower_differ sentence n.0) (term_lists terms (forall_tables n.1)) (order_lists terms (forall_tables n.1)))

      nodes_apart : (sentence : ℕ) (nodes : List Node) (n m : ℕ × Node) → Among (numbered nodes) n → Among (numbered nodes) m → n.0 < m.0 →
          (t u : RowTerm) → Among (terms_at terms table sentence n) t → Among (terms_at terms table sentence m) u → Differ t u
      nodes_apart sentence nodes n m is is' low t u at to one two three =
          let first : n.0 ≡ t.node = ap (λ (t : RowTerm). t.node) (at_terms terms table sentence n t at).1 in
          let second : m.0 ≡ u.node = ap (λ (t : RowTerm). t.node) (at_terms terms table sentence m u to).1 in
          absurd (omega arith)

      sentences_apart : (s r : ℕ × List Node) → Among (numbered outlines) s → Among (numbered outlines) r → s.0 < r.0 → (t u : RowTerm) → Among (flat_map (terms_at terms table s.0) (numbered s.1)) t →
          Among (flat_map (terms_at terms table r.0) (numbered r.1)) u → Differ t u
      sentences_apart s r is is' low t u at to one two three =
          let n = flat_among (terms_at terms table s.0) (numbered s.1) t at in
          let m = flat_among (terms_at terms table r.0) (numbered r.1) u to in
          let first : s.0 ≡ t.sentence = ap (λ (t : RowTerm). t.sentence) (at_terms terms table s.0 n.0 t n.2).1 in
          let second : r.0 ≡ u.sentence = ap (λ (t : RowTerm). t.sentence) (at_terms terms table r.0 m.0 u m.2).1 in
          absurd (omega arith)

  along_parts : (terms : List RowTerm) (xs ys : List ℕ) → terms_along outlines terms (xs ++ ys) ≡ terms_along outlines (terms_along outlines terms xs) ys
  along_parts terms [] ys = refl
  along_parts terms (x ∷ xs) ys = along_parts (terms ++ terms_over outlines terms x) xs ys

  -- behind the terms so far come those of further tables
  along_more : (terms : List RowTerm) (tables : List ℕ) → (more : List RowTerm) × (terms_along outlines terms tables ≡ terms ++ more) × ((t : RowTerm) → Among more t → Among tables t.table)
  along_more terms [] = ([], sym (append-nil terms), λ t is. absurd is)
  along_more terms (table ∷ tables) =
      let own : List RowTerm = terms_over outlines terms table in
      let rest = along_more (terms ++ own) tables in (
        own ++ rest.0,
        rest.1 ∙ append_assoc terms own rest.0,
        λ t is.
            elim (among_either own rest.0 t is) [
              | inl here ↦ inl (sym (over_asked terms table t here).1)
              | inr later ↦ inr (rest.2 t later)
            ],
      )

-- asked for at rows of tables before its own
pub record IsMade (outlines : List (List Node)) (order : List ℕ) (terms : List RowTerm) (t : RowTerm) : Type 0 where
  pub asked : IsAsked outlines terms t
  pub before : List ℕ
  pub after : List ℕ
  pub parts : order ≡ before ++ t.table ∷ after
  pub ahead : (table : ℕ) → Among (forall_tables asked.node) table → Among before table

-- the terms of an order
pub record AreTerms (outlines : List (List Node)) (order : List ℕ) (terms : List RowTerm) : Type 0 where
  pub made : (t : RowTerm) → Among terms t → IsMade outlines order terms t
  pub differ : InOrder (Differ outlines) terms
  pub tables : (table row : ℕ) → IsRowOf terms table row → Among order table

-- each row that an Exists asks for has its term
abbrev pub HasTerms : List (List Node) → List RowTerm → Type 0
HasTerms outlines terms =
    (sentence node table : ℕ) (rows : List ℕ) (x : Node) → node_at outlines sentence node ≡ Some x → exists_table x ≡ Some table → AreRows terms (forall_tables x) rows →
    Among terms (record { sentence = sentence; node = node; rows = rows; table = table })

module _ (sentences : List Formula) (order : List ℕ) (is_order : IsOrder sentences order) where
  abbrev outlines : List (List Node)
  outlines = outlines_of sentences

  record AreMade (terms : List RowTerm) (done : List ℕ) : Type 0 where
    made : (t : RowTerm) → Among terms t → IsMade outlines order terms t × Among done t.table
    differ : InOrder (Differ outlines) terms

  made_more : (terms more : List RowTerm) (t : RowTerm) → IsMade outlines order terms t → IsMade outlines order (terms ++ more) t
  made_more terms more t is = record {
    asked = record { node = is.asked.node; stands = is.asked.stands; asks = is.asked.asks; rows = more_rows terms more (forall_tables is.asked.node) t.rows is.asked.rows };
    before = is.before;
    after = is.after;
    parts = is.parts;
    ahead = is.ahead;
  }

  rows_done : (terms : List RowTerm) (done : List ℕ) → ((t : RowTerm) → Among terms t → Among done t.table) → (tables rows : List ℕ) → AreRows terms tables rows → (table : ℕ) → Among tables table → Among done table
  rows_done terms done all tables rows are table is =
      let at = at_among tables table is in
      let row = row_at terms tables rows at.0 table are at.1 in
      subst (Among done) row.1.2 (all row.1.0 (among_at terms row.0 row.1.0 row.1.1))

  next_made : (terms : List RowTerm) (done after : List ℕ) (table : ℕ) → order ≡ done ++ table ∷ after → AreMade terms done → AreMade (terms ++ terms_over outlines terms table) (done ++ table ∷ [])
  next_made terms done after table parts are =
      let own : List RowTerm = terms_over outlines terms table in
      let asked_own : (t : RowTerm) → Among own t → IsMade outlines order terms t = λ t is.
      let own = over_asked outlines terms table t is in
      record {
        asked = own.0;
        before = done;
        after = after;
        parts = subst (λ n. order ≡ done ++ n ∷ after) (sym own.1) parts;
        ahead = rows_done terms done (λ u at. (are.made u at).1) (forall_tables own.0.node) t.rows own.0.rows;
      } in
      record {
        made = λ t is.
            elim (among_either terms own t is) [
              | inl first ↦ let old = are.made t first in (made_more terms own t old.0, among_left done (table ∷ []) t.table old.1)
              | inr new ↦ (made_more terms own t (asked_own t new), among_right done (table ∷ []) t.table (inl (sym (over_asked outlines terms table t new).1)))
            ];
        differ = order_append (Differ outlines) terms own are.differ (order_over outlines terms table)
            (λ t u is new one two three.
            let old = are.made t is in
            let other = over_asked outlines terms table u new in
            let nodes : old.0.asked.node ≡ other.0.node =
            same_Some old.0.asked.node other.0.node (sym old.0.asked.stands ∙ (ap₂ (node_at outlines) one two ∙ other.0.stands)) in
            let tables : t.table ≡ u.table = same_Some t.table u.table (sym old.0.asked.asks ∙ (ap exists_table nodes ∙ other.0.asks)) in
            once sentences order is_order done (table ∷ after) table parts (subst (Among done) (tables ∙ other.1) old.1) (inl refl));
      }

  along_made : (terms : List RowTerm) (done rest : List ℕ) → order ≡ done ++ rest → AreMade terms done → AreMade (terms_along outlines terms rest) (done ++ rest)
  along_made terms done [] parts are = record { made = λ t is. let old = are.made t is in (old.0, among_left done [] t.table old.1); differ = are.differ }
  along_made terms done (table ∷ tables) parts are =
      let same : (done ++ table ∷ []) ++ tables ≡ done ++ table ∷ tables = append_assoc done (table ∷ []) tables in
      subst (AreMade (terms_along outlines (terms ++ terms_over outlines terms table) tables)) same
      (along_made (terms ++ terms_over outlines terms table) (done ++ table ∷ []) tables (parts ∙ sym same) (next_made terms done tables table parts are))

  abbrev terms : List RowTerm
  terms = row_terms outlines order

  all_made : AreMade terms order
  all_made = along_made [] [] order refl (record { made = λ t is. absurd is; differ = tt })

  -- the table of a row is in the order
  row_table : (table row : ℕ) → IsRowOf terms table row → Among order table
  row_table table row is = subst (Among order) is.2 (all_made.made is.0 (among_at terms row is.0 is.1)).1

  pub terms_are : AreTerms outlines order terms
  terms_are = record { made = λ t is. (all_made.made t is).0; differ = all_made.differ; tables = row_table }

  pub terms_there : HasTerms outlines terms
  terms_there sentence node table rows x stands asks are =
      let live : (k r : ℕ) → slice_get (forall_tables x) k ≡ Some r → IsLive sentences r = λ k r at.
      let row = row_at terms (forall_tables x) rows k r are at in among_live sentences order is_order r (row_table r row.0 row.1) in
      let is_asked : Asks sentences sentence node table (forall_tables x) = record { found = x; stands = stands; asks = asks; inside = refl } in
      let own : Among order table = live_among sentences order is_order table (asked sentence node table (forall_tables x) is_asked live) in
      let parts = among_split order table own in
      let ahead : (from : ℕ) → Among (forall_tables x) from → Among parts.0 from = λ from is.
      let at = at_among (forall_tables x) from is in
      from_before sentences order is_order parts.0 parts.1 from table parts.2
      (sentence, record { node = node; tables = forall_tables x; asks = is_asked; live = live; place = at.0; is_from = at.1 })
      (live_among sentences order is_order from (live at.0 from at.1)) in
      let first : List RowTerm = terms_along outlines [] parts.0 in
      let new : List RowTerm = terms_over outlines first table in
      let more = along_more outlines (first ++ new) parts.1 in
      let whole : terms ≡ first ++ (new ++ more.0) =
      ap (terms_along outlines []) parts.2 ∙ (along_parts outlines [] parts.0 (table ∷ parts.1) ∙ (more.1 ∙ append_assoc first new more.0)) in
      let late : (t : RowTerm) → Among (new ++ more.0) t → Among (table ∷ parts.1) t.table = λ t is.
      elim (among_either new more.0 t is) [ inl here ↦ inl (sym (over_asked outlines first table t here).1) | inr later ↦ inr (more.2 t later) ] in
      let early : AreRows first (forall_tables x) rows =
      first_rows first (new ++ more.0) (forall_tables x) rows
      (λ from t is at same. once sentences order is_order parts.0 (table ∷ parts.1) from parts.2 (ahead from is) (subst (Among (table ∷ parts.1)) same (late t at)))
      (subst (λ ts. AreRows ts (forall_tables x) rows) whole are) in
      let t : RowTerm = record { sentence = sentence; node = node; rows = rows; table = table } in
      subst (λ ts. Among ts t) (sym whole)
      (among_right first (new ++ more.0) t (among_left new more.0 t (asked_over outlines first sentence node table rows x stands asks early)))
