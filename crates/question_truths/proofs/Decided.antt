-- Where each scalar subquery that is asked of before a question gives at most one row, the outcome is decided at all
-- points: by the kinds of questions.
use Rattle.std.proofs.Common.{◌≡◌, refl, subst, ℕ, zero, suc, ◌<◌, Bool, true, false, ◌&&◌, not, ◌||◌, List, [], ◌∷◌, length, map, nat_lt, if◌then◌else◌, arith}
use Rattle.std.proofs.lemmas.Bool.{and_parts, and_from, false≢true}
use Rattle.std.proofs.lemmas.Bool.Decides.{nat_tests}
use Rattle.std.proofs.lemmas.Option.{slice_get_within}
use Rattle.std.specs.List.{AllByRecursion, list_all, list_any, filter, insert, remove}
use Rattle.std.specs.Option.{option_map_or}
use Rattle.std.specs.Prelude.{Ok, Err, Option, Some, None, slice_get, cond}
use Rattle.lint_base.proofs.Lists.{every_at, every_then, true_below}
use Rattle.lint_core.specs.declared.condition.Cond.{Cond}
use Rattle.lint_core.specs.declared.condition.Cond.TheVariants as c
use Rattle.lint_core.specs.declared.condition.Entry.{Entry}
use Rattle.lint_core.specs.declared.database.Binding.{Binding}
use Rattle.lint_core.specs.declared.database.Database.{Database}
use Rattle.lint_core.specs.declared.database.Points.{Points}
use Rattle.lint_core.specs.declared.database.Points.TheVariants.{One, Two, Without}
use Rattle.lint_core.specs.declared.database.Truth.{Truth}
use Rattle.lint_core.specs.declared.database.Truth.TheVariants.{False}
use Rattle.lint_core.specs.declared.database.Value.{Value}
use Rattle.lint_core.specs.declared.database.Value.TheVariants.{Null}
use Rattle.lint_core.specs.declared.query.Query.{Query}
use Rattle.lint_core.specs.declared.query.Question.{Question}
use Rattle.lint_core.specs.declared.query.Question.TheVariants.{OneRow, Empty, NeedlessDistinct, Constant, Duplicate, NeedlessJoin, Implied, Impossible, SameRow, NullInNotIn}
use Rattle.lint_core.specs.declared.schema.Table.{Table}
use Rattle.lint_core.specs.Asked.{main_condition, main_entries, scalars_of, not_ins_of, conjuncts_with, conjuncts_without, is_asked, is_selected}
use Rattle.lint_core.specs.Condition.{truth, has_truth}
use Rattle.lint_core.specs.Conjuncts.{conjuncts}
use Rattle.lint_core.specs.Database.{rows_of, below}
use Rattle.lint_core.specs.Evaluation.{Evaluated, map_ok, all_ok}
use Rattle.lint_core.specs.Fits.{main_tables, tables_of}
use Rattle.lint_core.specs.Naming.{names, has_scalar}
use Rattle.lint_core.specs.Points.{is_binding, are_rows, is_same_binding, differ_in_last_level, differ_in_entry, with_row}
use Rattle.lint_core.specs.Predicates.{with_replaced}
use Rattle.lint_core.specs.Question.{all_true, one_is_true, is_known_true, HoldsIn, EarlierHold, clause, outcome, where_truth, where_replaced, are_true_with, no_row_fits, table_of}
use Rattle.lint_core.specs.Forms.{have_form}
use Rattle.lint_core.specs.Forms.{is_main_binding}
use Rattle.lint_core.specs.Subqueries.{Subquery, scalar_subqueries}
use Rattle.lint_core.specs.Truth.{is_true, and_of}
use Rattle.lint_core.proofs.Parted.{scalars_true, scalars_false}
use Rattle.question_laws.proofs.Conjuncts.{is_and}
use Rattle.question_laws.proofs.Truths as alone
use Rattle.question_truths.specs.AtMostOne.{GivesAtMostOneRow, ScalarsGiveAtMostOneRow}
use Rattle.question_truths.proofs.Every.{every_by_place}
use Rattle.question_truths.proofs.Listed.{PassesInside, at_place, scalars_ordered, not_ins_pass}
use Rattle.question_truths.proofs.Replaced.{still_pass}
use Rattle.question_truths.proofs.RowLists.{IsBelow, each_below}
use Rattle.question_truths.proofs.Selected.{IsThere, mapped, first_there}
use Rattle.question_truths.proofs.Truths.{has_truth_there}

low_is : (row n : ℕ) → nat_lt row n ≡ true → row < n
low_is row n low = grind (arith, nat_tests, low)

not_true : (b : Bool) → not b ≡ true → b ≡ false
not_true true never = cc
not_true false never = refl

-- ---- what is made of truths that are there

every_true : (truths : List (Evaluated Truth)) → AllByRecursion (IsThere Truth) truths → IsThere Bool (all_true truths)
every_true truths there = mapped (List Bool) Bool (list_all (λ fact. fact)) _ (tested truths there)
  where
    tested : (truths : List (Evaluated Truth)) → AllByRecursion (IsThere Truth) truths → IsThere (List Bool) (all_ok (map (map_ok is_true) truths))
    tested [] there = ([], refl)
    tested (t ∷ truths) there = first_there Bool (map_ok is_true t) (map (map_ok is_true) truths) (mapped Truth Bool is_true t there.0) (tested truths there.1)

one_of_two : (t u : Evaluated Truth) → IsThere Truth t → IsThere Truth u → IsThere Bool (one_is_true t u)
one_of_two (Ok t) (Ok u) here there = (_, refl)
one_of_two (Ok t) (Err place) here there = cc
one_of_two (Err place) u here there = cc

each_ok : (A : Type 0) (es : List (Evaluated A)) → AllByRecursion (IsThere A) es → IsThere (List A) (all_ok es)
each_ok A [] there = ([], refl)
each_ok A (e ∷ es) there = first_there A e es there.0 (each_ok A es there.1)

ok_of : (A B : Type 0) (f : A → B) (e : Evaluated A) → IsThere B (map_ok f e) → IsThere A e
ok_of A B f (Ok a) there = (a, refl)
ok_of A B f (Err place) there = cc

each_of : (A : Type 0) (es : List (Evaluated A)) → IsThere (List A) (all_ok es) → AllByRecursion (IsThere A) es
each_of A [] there = tt
each_of A (Ok a ∷ es) there = ((a, refl), each_of A es (ok_of (List A) (List A) (λ later. a ∷ later) (all_ok es) there))
each_of A (Err place ∷ es) there = cc

over_map : {A B : Type 0} (P : B → Type 0) (g : A → B) (xs : List A) → AllByRecursion P (map g xs) → AllByRecursion (λ x. P (g x)) xs
over_map P g [] all = tt
over_map P g (x ∷ xs) all = (all.0, over_map P g xs all.1)

mapped_over : {A B : Type 0} (P : B → Type 0) (g : A → B) (xs : List A) → AllByRecursion (λ x. P (g x)) xs → AllByRecursion P (map g xs)
mapped_over P g [] all = tt
mapped_over P g (x ∷ xs) all = (all.0, mapped_over P g xs all.1)

over_filter : {A : Type 0} (P : A → Type 0) (test : A → Bool) (xs : List A) → AllByRecursion P xs → AllByRecursion P (filter test xs)
over_filter P test [] all = tt
over_filter P test (x ∷ xs) all = kept (test x) (over_filter P test xs all.1)
  where
    kept : (b : Bool) → AllByRecursion P (filter test xs) → AllByRecursion P (cond b (x ∷ filter test xs) (filter test xs))
    kept true rest = (all.0, rest)
    kept false rest = rest

none_has : (conds : List Cond) → list_any has_scalar conds ≡ false → AllByRecursion (λ c. has_scalar c ≡ false) conds
none_has [] none = tt
none_has (c ∷ conds) none = both (has_scalar c) none (none_has conds)
  where
    both : (b : Bool) → (b || list_any has_scalar conds) ≡ false → (list_any has_scalar conds ≡ false → AllByRecursion (λ c. has_scalar c ≡ false) conds) → (b ≡ false) × AllByRecursion (λ c. has_scalar c ≡ false) conds
    both true none rest = cc
    both false none rest = (refl, rest none)

-- the points of another form refute nothing; at those of the form the clause is decided
at_form : (form : Bool) (clause : Evaluated Bool) → (form ≡ true → IsThere Bool clause) → IsThere Bool (if form then clause else Ok false)
at_form true clause decided = decided refl
at_form false clause decided = (false, refl)

-- ---- a scalar subquery of which E9 holds gives at most one row

two_are_true : (here there differ : Bool) (t u : Evaluated Truth) → is_known_true (if here && there && differ then all_true (t ∷ u ∷ []) else Ok false) ≡ false →
    here ≡ true → there ≡ true → differ ≡ true → has_truth is_true t ≡ true → has_truth is_true u ≡ false
two_are_true true true true (Ok t) (Ok u) never at at_too apart first = second (is_true t) (is_true u) first never
  where
    second : (a b : Bool) → a ≡ true → (a && (b && true)) ≡ false → b ≡ false
    second true true first never = cc
    second true false first never = refl
    second false b first never = cc
two_are_true true true true (Ok t) (Err place) never at at_too apart first = refl
two_are_true true true true (Err place) u never at at_too apart first = cc
two_are_true true true false t u never at at_too apart first = cc
two_are_true true false differ t u never at at_too apart first = cc
two_are_true false there differ t u never at at_too apart first = cc

-- ---- the rows of all entries but one, and a row of that one

rows_inside : (db : Database) (entries : List Entry) (entry : ℕ) (rows : List ℕ) (row : ℕ) → entry < length entries → are_rows db (remove (tables_of entries) entry) rows ≡ true →
    row < length (rows_of db (option_map_or (λ (e : Entry). e.table) (slice_get entries entry) 0)) → are_rows db (tables_of entries) (insert rows entry row) ≡ true
rows_inside db [] entry rows row low others there = absurd (omega (arith, low))
rows_inside db (e ∷ entries) zero rows row low others there =
    and_from (nat_lt row (length (rows_of db e.table))) (are_rows db (tables_of entries) rows) (true_below row (length (rows_of db e.table)) there) others
rows_inside db (e ∷ entries) (suc entry) [] row low others there = cc
rows_inside db (e ∷ entries) (suc entry) (r ∷ rows) row low others there =
    let parts = and_parts (nat_lt r (length (rows_of db e.table))) (are_rows db (remove (tables_of entries) entry) rows) others in
    and_from (nat_lt r (length (rows_of db e.table))) (are_rows db (tables_of entries) (insert rows entry row)) parts.0 (rows_inside db entries entry rows row (omega (arith, low)) parts.1 there)

row_inside : (db : Database) (entries : List Entry) (entry : ℕ) (binding : List (List ℕ)) (row : ℕ) → nat_lt entry (length entries) ≡ true →
    is_binding db (remove (tables_of entries) entry ∷ []) binding ≡ true → row < length (rows_of db (option_map_or (λ (e : Entry). e.table) (slice_get entries entry) 0)) →
    is_binding db (tables_of entries ∷ []) (with_row entry row binding) ≡ true
row_inside db entries entry [] row low form there = cc
row_inside db entries entry (rows ∷ []) row low form there =
    and_from (are_rows db (tables_of entries) (insert rows entry row)) true
    (rows_inside db entries entry rows row (low_is entry (length entries) low) (and_parts (are_rows db (remove (tables_of entries) entry) rows) true form).0 there) refl
row_inside db entries entry (rows ∷ next ∷ binding) row low form there =
    absurd (false≢true (and_parts (are_rows db (remove (tables_of entries) entry) rows) false form).1)

module _ (db : Database) (query : Query) where
  gives_one : (sub : ℕ) (s : Subquery) → slice_get (scalars_of query) sub ≡ Some s → HoldsIn db query (OneRow sub) Null → GivesAtMostOneRow db s
  gives_one sub s at holds one two here there differ first =
      two_are_true (is_binding db s.tables one) (is_binding db s.tables two) (differ_in_last_level one two) (truth db s.cond s.tables one) (truth db s.cond s.tables two)
      (subst
      (λ (o : Option Subquery).
      is_known_true
      (if option_map_or (λ s. is_binding db s.tables one && is_binding db s.tables two && differ_in_last_level one two) o false
      then all_true (option_map_or (λ (s : Subquery). truth db s.cond s.tables one) o (Ok False) ∷ option_map_or (λ (s : Subquery). truth db s.cond s.tables two) o (Ok False) ∷ [])
      else Ok false)
      ≡ false)
      at (holds (Two (record { levels = one }) (record { levels = two }))))
      here there differ first

  abbrev pub Gives : Subquery → Type 0
  Gives sub = GivesAtMostOneRow db sub

  abbrev pub AllGive : Type 0
  AllGive = ScalarsGiveAtMostOneRow db (main_tables query) (main_condition query)

  abbrev pub HoldBelow : ℕ → Type 0
  HoldBelow count = (sub : ℕ) → nat_lt sub count ≡ true → HoldsIn db query (OneRow sub) Null

  pub all_give : HoldBelow (length (scalars_of query)) → AllGive
  all_give hold =
      every_by_place Gives (scalars_of query) (λ i s at. gives_one i s at (hold i (true_below i (length (scalars_of query)) (slice_get_within (scalars_of query) i s at))))

  pub those_inside_give : (sub : ℕ) (s : Subquery) → slice_get (scalars_of query) sub ≡ Some s → HoldBelow sub → ScalarsGiveAtMostOneRow db s.tables s.cond
  those_inside_give sub s at hold =
      at_place Gives (scalars_of query) (scalars_ordered Gives (main_condition query) (main_tables query)) sub s at
      (λ j before low there. gives_one j before there (hold j (true_below j sub low)))

  -- ---- the questions

  one_row : (sub : ℕ) → HoldBelow sub → (given : Value) (one two : Binding) → IsThere Bool (outcome db query (OneRow sub) given (Two one two))
  one_row sub hold given one two = at_form (have_form db query (OneRow sub) (Two one two)) (clause db query (OneRow sub) given (Two one two)) (decided (slice_get (scalars_of query) sub) refl)
    where
      decided : (o : Option Subquery) → slice_get (scalars_of query) sub ≡ o →
          option_map_or (λ s. is_binding db s.tables one.levels && is_binding db s.tables two.levels && differ_in_last_level one.levels two.levels) o false ≡ true →
          IsThere Bool (all_true (option_map_or (λ (s : Subquery). truth db s.cond s.tables one.levels) o (Ok False) ∷ option_map_or (λ (s : Subquery). truth db s.cond s.tables two.levels) o (Ok False) ∷ []))
      decided None at form = cc
      decided (Some s) at form =
          let gives = those_inside_give sub s at hold in
          let there = is_binding db s.tables one.levels in
          let there_too = is_binding db s.tables two.levels in
          let both = and_parts there there_too (and_parts (there && there_too) (differ_in_last_level one.levels two.levels) form).0 in
          every_true (truth db s.cond s.tables one.levels ∷ truth db s.cond s.tables two.levels ∷ []) (has_truth_there db s.cond s.tables one.levels both.0 gives, (has_truth_there db s.cond s.tables two.levels both.1 gives, tt))

  module _ (all : AllGive) where
    where_there : (binding : Binding) → is_main_binding db query binding ≡ true → IsThere Truth (where_truth db query binding)
    where_there binding form = has_truth_there db (main_condition query) (main_tables query) binding.levels form all

    replaced_there : (by : Cond) → ((tables : List (List ℕ)) → scalar_subqueries by tables ≡ []) → (n : ℕ) (binding : Binding) → is_main_binding db query binding ≡ true →
        IsThere Truth (where_replaced db query by n binding)
    replaced_there by none n binding form =
        has_truth_there db (with_replaced by n (main_condition query)) (main_tables query) binding.levels form (still_pass Gives by none (main_condition query) (main_tables query) all n)

    one_where : (binding : Binding) → is_main_binding db query binding ≡ true → IsThere Bool (all_true (where_truth db query binding ∷ []))
    one_where binding form = every_true (where_truth db query binding ∷ []) (where_there binding form, tt)

    two_where : (one two : Binding) → is_main_binding db query one ≡ true → is_main_binding db query two ≡ true → IsThere Bool (all_true (where_truth db query one ∷ where_truth db query two ∷ []))
    two_where one two form form_too = every_true (where_truth db query one ∷ where_truth db query two ∷ []) (where_there one form, (where_there two form_too, tt))

    both_there : (one two : Binding) (differ : Bool) → (is_main_binding db query one && is_main_binding db query two && differ) ≡ true → (is_main_binding db query one ≡ true) × (is_main_binding db query two ≡ true)
    both_there one two differ form =
        and_parts (is_main_binding db query one) (is_main_binding db query two) (and_parts (is_main_binding db query one && is_main_binding db query two) differ form).0

    empty : (given : Value) (one : Binding) → IsThere Bool (outcome db query Empty given (One one))
    empty given one = at_form (is_main_binding db query one) _ (one_where one)

    needless_distinct : (given : Value) (one two : Binding) → IsThere Bool (outcome db query NeedlessDistinct given (Two one two))
    needless_distinct given one two =
        at_form (have_form db query NeedlessDistinct (Two one two)) _
        (λ form. let both = both_there one two (not (is_same_binding one.levels two.levels)) form in mapped Bool Bool _ _ (two_where one two both.0 both.1))

    constant : (item : ℕ) (given : Value) (one : Binding) → IsThere Bool (outcome db query (Constant item) given (One one))
    constant item given one = at_form (is_main_binding db query one) _ (λ form. mapped Bool Bool _ _ (one_where one form))

    duplicate : (item other : ℕ) (given : Value) (one : Binding) → IsThere Bool (outcome db query (Duplicate item other) given (One one))
    duplicate item other given one = at_form (is_main_binding db query one) _ (λ form. mapped Bool Bool _ _ (one_where one form))

    same_row : (entry other : ℕ) (given : Value) (one : Binding) → IsThere Bool (outcome db query (SameRow entry other) given (One one))
    same_row entry other given one = at_form (is_main_binding db query one) _ (λ form. mapped Bool Bool _ _ (one_where one form))

    implied : (n : ℕ) (given : Value) (one : Binding) → IsThere Bool (outcome db query (Implied n) given (One one))
    implied n given one = at_form (is_main_binding db query one) _ (λ form. one_of_two (where_truth db query one) (where_replaced db query c.True n one) (where_there one form) (replaced_there c.True scalars_true n one form))

    impossible : (n : ℕ) (given : Value) (one : Binding) → IsThere Bool (outcome db query (Impossible n) given (One one))
    impossible n given one = at_form (is_main_binding db query one) _ (λ form. one_of_two (where_truth db query one) (where_replaced db query c.False n one) (where_there one form) (replaced_there c.False scalars_false n one form))

    two_rows : (entry : ℕ) (given : Value) (one two : Binding) → IsThere Bool (outcome db query (NeedlessJoin entry) given (Two one two))
    two_rows entry given one two =
        at_form (have_form db query (NeedlessJoin entry) (Two one two)) _
        (λ form. let both = both_there one two (differ_in_entry entry one.levels two.levels) form in two_where one two both.0 both.1)

    null_in_not_in : (sub : ℕ) (given : Value) (one : Binding) → IsThere Bool (outcome db query (NullInNotIn sub) given (One one))
    null_in_not_in sub given one =
        at_form (have_form db query (NullInNotIn sub) (One one)) _ (λ form. mapped Bool Bool _ _ (at_subquery (slice_get (not_ins_of query) sub) refl form))
      where
        at_subquery : (o : Option Subquery) → slice_get (not_ins_of query) sub ≡ o → option_map_or (λ (s : Subquery). is_binding db s.tables one.levels) o false ≡ true →
            IsThere Bool (all_true (option_map_or (λ (s : Subquery). truth db s.cond s.tables one.levels) o (Ok False) ∷ []))
        at_subquery None at form = cc
        at_subquery (Some s) at form =
            every_true (truth db s.cond s.tables one.levels ∷ [])
            (has_truth_there db s.cond s.tables one.levels form (every_at (PassesInside Gives) (not_ins_of query) sub s (not_ins_pass Gives (main_condition query) (main_tables query) all) at), tt)

    -- ---- E5

    others_there : (entry : ℕ) → AllByRecursion (λ cond. has_scalar cond ≡ false) (conjuncts_without entry query) → (one : Binding) →
        IsThere Bool (are_true_with db query entry one 0 (conjuncts_without entry query))
    others_there entry none one =
        let binding = with_row entry 0 one.levels in
        every_true (map (λ c. truth db c (main_tables query) binding) (conjuncts_without entry query))
        (mapped_over (IsThere Truth) (λ c. truth db c (main_tables query) binding) (conjuncts_without entry query)
        (every_then (λ c. has_scalar c ≡ false) (λ c. IsThere Truth (truth db c (main_tables query) binding)) (λ c none. alone.has_truth db c none (main_tables query) binding) (conjuncts_without entry query) none))

    -- where WHERE has a truth each of its conjuncts does
    conjuncts_there : (binding : List (List ℕ)) → IsThere Truth (truth db (main_condition query) (main_tables query) binding) →
        AllByRecursion (λ c. IsThere Truth (truth db c (main_tables query) binding)) (conjuncts (main_condition query))
    conjuncts_there binding there =
        let truth_of : Cond → Evaluated Truth = λ c. truth db c (main_tables query) binding in
        over_map (IsThere Truth) truth_of (conjuncts (main_condition query))
        (each_of Truth (map truth_of (conjuncts (main_condition query)))
        (ok_of (List Truth) Truth and_of (all_ok (map truth_of (conjuncts (main_condition query))))
        (subst (IsThere Truth) (is_and db (main_tables query) binding (main_condition query)) there)))

    fits_there : (entry : ℕ) (one : Binding) (row : ℕ) → is_binding db (main_tables query) (with_row entry row one.levels) ≡ true → IsThere Bool (are_true_with db query entry one row (conjuncts_with entry query))
    fits_there entry one row there =
        let binding = with_row entry row one.levels in
        every_true (map (λ c. truth db c (main_tables query) binding) (conjuncts_with entry query))
        (mapped_over (IsThere Truth) (λ c. truth db c (main_tables query) binding) (conjuncts_with entry query)
        (over_filter (λ c. IsThere Truth (truth db c (main_tables query) binding)) (names entry) (conjuncts (main_condition query))
        (conjuncts_there binding (has_truth_there db (main_condition query) (main_tables query) binding there all))))

    no_row_there : (entry : ℕ) → nat_lt entry (length (main_entries query)) ≡ true → (one : Binding) → have_form db query (NeedlessJoin entry) (Without one) ≡ true → IsThere Bool (no_row_fits db query entry one)
    no_row_there entry low one form =
        let count = length (rows_of db (table_of db query entry)) in
        mapped (List Bool) Bool (λ fit. not (list_any (λ fits. fits) fit)) _
        (each_ok Bool (map (λ row. are_true_with db query entry one row (conjuncts_with entry query)) (below count))
        (mapped_over (IsThere Bool) (λ row. are_true_with db query entry one row (conjuncts_with entry query)) (below count)
        (every_then (IsBelow count) (λ row. IsThere Bool (are_true_with db query entry one row (conjuncts_with entry query)))
        (λ row there. fits_there entry one row (row_inside db (main_entries query) entry one.levels row low form there)) (below count) (each_below count))))

    without : (entry : ℕ) → nat_lt entry (length (main_entries query)) ≡ true → AllByRecursion (λ cond. has_scalar cond ≡ false) (conjuncts_without entry query) →
        (given : Value) (one : Binding) → IsThere Bool (outcome db query (NeedlessJoin entry) given (Without one))
    without entry low none given one =
        at_form (have_form db query (NeedlessJoin entry) (Without one)) _
        (λ form.
        mapped (List Bool) Bool (list_all (λ fact. fact)) _
        (each_ok Bool (are_true_with db query entry one 0 (conjuncts_without entry query) ∷ no_row_fits db query entry one ∷ [])
        (others_there entry none one, (no_row_there entry low one form, tt))))

  -- ---- all kinds

  pub decided : (schema : List Table) (question : Question) (given : Value) (points : Points) → is_asked schema query question ≡ true → EarlierHold db query question → IsThere Bool (outcome db query question given points)
  decided schema (OneRow sub) given (One one) asked hold = (false, refl)
  decided schema (OneRow sub) given (Two one two) asked hold = one_row sub hold given one two
  decided schema (OneRow sub) given (Without one) asked hold = (false, refl)
  decided schema Empty given (One one) asked hold = empty (all_give hold) given one
  decided schema Empty given (Two one two) asked hold = (false, refl)
  decided schema Empty given (Without one) asked hold = (false, refl)
  decided schema NeedlessDistinct given (One one) asked hold = (false, refl)
  decided schema NeedlessDistinct given (Two one two) asked hold = needless_distinct (all_give hold) given one two
  decided schema NeedlessDistinct given (Without one) asked hold = (false, refl)
  decided schema (Constant item) given (One one) asked hold = constant (all_give hold) item given one
  decided schema (Constant item) given (Two one two) asked hold = (false, refl)
  decided schema (Constant item) given (Without one) asked hold = (false, refl)
  decided schema (Duplicate item other) given (One one) asked hold = duplicate (all_give hold) item other given one
  decided schema (Duplicate item other) given (Two one two) asked hold = (false, refl)
  decided schema (Duplicate item other) given (Without one) asked hold = (false, refl)
  decided schema (NeedlessJoin entry) given (One one) asked hold = (false, refl)
  decided schema (NeedlessJoin entry) given (Two one two) asked hold = two_rows (all_give hold) entry given one two
  decided schema (NeedlessJoin entry) given (Without one) asked hold =
      let many = nat_lt 1 (length (main_entries query)) in
      let low = nat_lt entry (length (main_entries query)) in
      let free = not (is_selected query entry) in
      let alone = list_any has_scalar (conjuncts_without entry query) in
      let parts = and_parts (many && low && free) (not alone) asked in
      without (all_give hold) entry (and_parts many low (and_parts (many && low) free parts.0).0).1 (none_has (conjuncts_without entry query) (not_true alone parts.1)) given one
  decided schema (Implied n) given (One one) asked hold = implied (all_give hold) n given one
  decided schema (Implied n) given (Two one two) asked hold = (false, refl)
  decided schema (Implied n) given (Without one) asked hold = (false, refl)
  decided schema (Impossible n) given (One one) asked hold = impossible (all_give hold) n given one
  decided schema (Impossible n) given (Two one two) asked hold = (false, refl)
  decided schema (Impossible n) given (Without one) asked hold = (false, refl)
  decided schema (SameRow entry other) given (One one) asked hold = same_row (all_give hold) entry other given one
  decided schema (SameRow entry other) given (Two one two) asked hold = (false, refl)
  decided schema (SameRow entry other) given (Without one) asked hold = (false, refl)
  decided schema (NullInNotIn sub) given (One one) asked hold = null_in_not_in (all_give hold) sub given one
  decided schema (NullInNotIn sub) given (Two one two) asked hold = (false, refl)
  decided schema (NullInNotIn sub) given (Without one) asked hold = (false, refl)
