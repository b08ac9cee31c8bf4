-- The points that leading rows make have the question's form and name existing rows.
use Rattle.std.proofs.Common.{◌≡◌, ◌∙◌, ◌<◌, sym, ap, refl, ℕ, zero, suc, true, false, ◌&&◌, not, List, [], ◌∷◌, ◌++◌, length, take, drop, nat_lt, arith}
use Rattle.std.proofs.lemmas.Bool.Decides.{nat_tests}
use Rattle.std.proofs.lemmas.List.{take_all, length-map}
use Rattle.std.specs.List.{list_any}
use Rattle.std.specs.Option.{option_map_or}
use Rattle.std.specs.Prelude.{Option, Some, None, insert, remove, slice_get, unwrap_or}
use Rattle.lint_base.proofs.Lists.{both_left, both_right, below_true}
use Rattle.lint_core.specs.declared.condition.Entry.{Entry}
use Rattle.lint_core.specs.declared.database.Database.{Database}
use Rattle.lint_core.specs.declared.database.Points.TheVariants.{One, Two}
use Rattle.lint_core.specs.declared.database.Value.{Value}
use Rattle.lint_core.specs.declared.query.Query.{Query}
use Rattle.lint_core.specs.declared.query.Question.{Question}
use Rattle.lint_core.specs.declared.query.Question.TheVariants.{OneRow, Empty, NeedlessDistinct, Constant, Duplicate, NeedlessJoin, Implied, Impossible, SameRow, NullInNotIn}
use Rattle.lint_core.specs.declared.schema.Table.{Table}
use Rattle.lint_core.specs.Asked.{main_entries, scalars_of, not_ins_of, conjuncts_without, is_asked, is_selected}
use Rattle.lint_core.specs.Fits.{tables_of}
use Rattle.lint_core.specs.Naming.{has_scalar}
use Rattle.lint_core.specs.Points.{are_rows, is_binding, is_same_binding, differ_in_last_level, differ_in_entry}
use Rattle.lint_core.specs.Question.{table_of}
use Rattle.lint_core.specs.Forms.{have_form}
use Rattle.lint_core.specs.Subqueries.{Subquery}
use Rattle.sort_formula.specs.CounterPoints.{are_apart, are_there, binding_of, differ_somewhere, in_levels, points_of, second_binding}
use Rattle.sort_formula.specs.Counters.{counter, last_level, no_counter, outer_levels, selects_null, two_rows}
use Rattle.sort_formula.specs.Sides.{all_of}
use Rattle.formula_laws.proofs.LeadRows.{is_there, both, as_many, rows_fall, binding_falls, whole_binding, one_level, one_level_is, second_falls, last_is, not_the_same, with_one, differ_in_one}

-- one that is there
found : {A : Type 0} (xs : List A) (i : ℕ) → nat_lt i (length xs) ≡ true → (x : A) × (slice_get xs i ≡ Some x)
found [] i low = absurd (omega (arith, below_true i 0 low))
found (x ∷ xs) zero low = (x, refl)
found (x ∷ xs) (suc i) low = found xs i (grind (arith, nat_tests))

table_is : (entries : List Entry) (entry : ℕ) → option_map_or (λ (e : Entry). e.table) (slice_get entries entry) 0 ≡ unwrap_or (slice_get (tables_of entries) entry) 0
table_is [] entry = refl
table_is (e ∷ entries) zero = refl
table_is (e ∷ entries) (suc entry) = table_is entries entry

module _ (schema : List Table) (db : Database) (query : Query) (given : Value) where
  abbrev own : List ℕ
  own = tables_of (main_entries query)

  abbrev Formed : Question → List ℕ → Option (ℕ × ℕ) → Type 0
  Formed question places fitting = have_form db query question (points_of query question places fitting) ≡ true

  abbrev Leads : Question → List ℕ → Type 0
  Leads question places = are_rows db (counter schema query question given).lead places ≡ true

  abbrev Apart : Question → List ℕ → Option (ℕ × ℕ) → Type 0
  Apart question places fitting = are_apart (points_of query question places fitting) ≡ true

  two_rows_form : (sub : ℕ) (places : List ℕ) (fitting : Option (ℕ × ℕ)) (s : Subquery) → slice_get (scalars_of query) sub ≡ Some s →
      Leads (OneRow sub) places → Apart (OneRow sub) places fitting → Formed (OneRow sub) places fitting
  two_rows_form sub places fitting s is lead apart =
      let tables = s.tables in
      let last = last_level tables in
      let behind = drop (length (all_of tables)) places in
      let other = take (length last) behind in
      let one = in_levels tables places in
      let two = in_levels (outer_levels tables) places ++ other ∷ [] in
      let are : are_rows db (all_of tables ++ last) places ≡ true = sym (ap (λ o. are_rows db (option_map_or (two_rows schema) o no_counter).lead places) is) ∙ lead in
      let far : are_rows db last behind ≡ true = (rows_fall db (all_of tables) last places are).1 in
      let many = as_many db last behind far in
      let second : are_rows db last other ≡ true = ap (are_rows db last) (take_all (length last) behind (omega (arith, many))) ∙ far in
      let first : is_binding db tables one ≡ true = binding_falls db tables last places are in
      let differ : differ_somewhere (last_level one) (last_level two) ≡ true =
      sym (ap (λ o. are_apart (option_map_or (λ (s : Subquery). Two (binding_of s.tables places) (second_binding s.tables places)) o (One (binding_of [] places)))) is) ∙ apart in
      let falls = second_falls db tables places other first second (sym (ap (differ_somewhere (last_level one)) (last_is (in_levels (outer_levels tables) places) other)) ∙ differ) in
      rw is
      (ap (λ (o : Option Subquery). option_map_or (λ (s : Subquery). is_binding db s.tables one && is_binding db s.tables two && differ_in_last_level one two) o false) is
      ∙ both (is_binding db tables one && is_binding db tables two) (differ_in_last_level one two)
      (both (is_binding db tables one) (is_binding db tables two) first falls.0) falls.1)

  null_form : (sub : ℕ) (places : List ℕ) (fitting : Option (ℕ × ℕ)) (s : Subquery) → slice_get (not_ins_of query) sub ≡ Some s →
      Leads (NullInNotIn sub) places → Formed (NullInNotIn sub) places fitting
  null_form sub places fitting s is lead =
      let are : are_rows db (all_of s.tables) places ≡ true = sym (ap (λ o. are_rows db (option_map_or (selects_null schema) o no_counter).lead places) is) ∙ lead in
      rw is
      (ap (λ (o : Option Subquery). option_map_or (λ (t : Subquery). is_binding db t.tables (in_levels s.tables places)) o false) is
      ∙ whole_binding db s.tables places are)

  distinct_form : (places : List ℕ) (fitting : Option (ℕ × ℕ)) → Leads NeedlessDistinct places → Apart NeedlessDistinct places fitting → Formed NeedlessDistinct places fitting
  distinct_form places fitting lead apart =
      let here = take (length own) places in
      let behind = drop (length own) places in
      let there = take (length own) behind in
      let falls = rows_fall db own own places lead in
      both (is_binding db (own ∷ []) (here ∷ []) && is_binding db (own ∷ []) (there ∷ [])) (not (is_same_binding (here ∷ []) (there ∷ [])))
      (both (is_binding db (own ∷ []) (here ∷ [])) (is_binding db (own ∷ []) (there ∷ [])) (one_level_is db own here falls.0) (one_level db own behind falls.1))
      (ap (λ b. not (b && true)) (not_the_same here there apart))

  joined_form : (entry : ℕ) (places : List ℕ) (rows : ℕ × ℕ) → is_asked schema query (NeedlessJoin entry) ≡ true → Leads (NeedlessJoin entry) places →
      are_there query db (NeedlessJoin entry) (Some rows) ≡ true → Apart (NeedlessJoin entry) places (Some rows) → Formed (NeedlessJoin entry) places (Some rows)
  joined_form entry places rows asked lead there apart =
      let count = length (main_entries query) in
      let some = nat_lt 1 count in
      let one_of = nat_lt entry count in
      let unselected = not (is_selected query entry) in
      let plain = not (list_any has_scalar (conjuncts_without entry query)) in
      let inside = below_true entry count (both_right some one_of (both_left (some && one_of) unselected (both_left (some && one_of && unselected) plain asked))) in
      let many = length-map (main_entries query) (λ (e : Entry). e.table) in
      let low : entry < length own = omega (arith, inside, many) in
      let is_row = λ (row : ℕ). is_there db (table_of db query entry) row in
      let at = λ (row : ℕ). ap (λ table. is_there db table row) (sym (table_is (main_entries query) entry)) in
      let one = insert places entry rows.0 in
      let two = insert places entry rows.1 in
      let first = one_level_is db own one (with_one db own entry places rows.0 low lead (at rows.0 ∙ both_left (is_row rows.0) (is_row rows.1) there)) in
      let second = one_level_is db own two (with_one db own entry places rows.1 low lead (at rows.1 ∙ both_right (is_row rows.0) (is_row rows.1) there)) in
      both (is_binding db (own ∷ []) (one ∷ []) && is_binding db (own ∷ []) (two ∷ [])) (differ_in_entry entry (one ∷ []) (two ∷ []))
      (both (is_binding db (own ∷ []) (one ∷ [])) (is_binding db (own ∷ []) (two ∷ [])) first second)
      (differ_in_one db own entry places rows.0 rows.1 low lead apart)

  pub formed : (question : Question) → is_asked schema query question ≡ true →
      (places : List ℕ) → Leads question places →
      (fitting : Option (ℕ × ℕ)) → are_there query db question fitting ≡ true → Apart question places fitting → Formed question places fitting
  formed (OneRow sub) asked places lead fitting there apart = let s = found (scalars_of query) sub asked in two_rows_form sub places fitting s.0 s.1 lead apart
  formed Empty asked places lead fitting there apart = one_level db own places lead
  formed NeedlessDistinct asked places lead fitting there apart = distinct_form places fitting lead apart
  formed (Constant item) asked places lead fitting there apart = one_level db own places lead
  formed (Duplicate item other) asked places lead fitting there apart = one_level db own places lead
  formed (NeedlessJoin entry) asked places lead None there apart = one_level db (remove own entry) places lead
  formed (NeedlessJoin entry) asked places lead (Some rows) there apart = joined_form entry places rows asked lead there apart
  formed (Implied predicate) asked places lead fitting there apart = one_level db own places lead
  formed (Impossible predicate) asked places lead fitting there apart = one_level db own places lead
  formed (SameRow entry other) asked places lead fitting there apart = one_level db own places lead
  formed (NullInNotIn sub) asked places lead fitting there apart = let s = found (not_ins_of query) sub asked in null_form sub places fitting s.0 s.1 lead
