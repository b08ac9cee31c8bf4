-- What the clauses of the questions are made of, from the answers that their parts give.
use Rattle.std.proofs.Common.{◌≡◌, ◌∙◌, ◌<◌, ◌+◌, ap, refl, sym, subst, ℕ, Bool, true, false, ◌&&◌, ◌||◌, List, [], ◌∷◌, ◌++◌, drop, length, map}
use Rattle.std.specs.Prelude.{not, Result, Ok, Err, if◌then◌else◌}
use Rattle.std.specs.List.{list_any}
use Rattle.lint_core.specs.Asked.{conjuncts_with, conjuncts_without}
use Rattle.lint_core.specs.Condition.{truth}
use Rattle.lint_core.specs.Database.{below, rows_of}
use Rattle.lint_core.specs.Evaluation.{Evaluated, map_ok, all_ok, all_hold}
use Rattle.lint_core.specs.Fits.{main_tables, tables_of}
use Rattle.lint_core.specs.Points.{differ_in_entry, is_same_binding, with_row}
use Rattle.lint_core.specs.Forms.{is_binding_without}
use Rattle.lint_core.specs.Question.{all_true, are_true_with, no_row_fits, outcome, table_of}
use Rattle.lint_core.specs.declared.condition.Block.{out-Block}
use Rattle.lint_core.specs.declared.condition.Cond.{Cond}
use Rattle.lint_core.specs.declared.condition.Entry.{Entry}
use Rattle.lint_core.specs.declared.database.Binding.{Binding}
use Rattle.lint_core.specs.declared.database.Database.{Database}
use Rattle.lint_core.specs.declared.database.Points.{Points}
use Rattle.lint_core.specs.declared.database.Points.TheVariants.{Two}
use Rattle.lint_core.specs.declared.database.Value.{Value}
use Rattle.lint_core.specs.declared.query.Query.{Query}
use Rattle.lint_core.specs.declared.query.Question.TheVariants.{NeedlessDistinct, NeedlessJoin}
use Rattle.sql_meaning.proofs.Gathered.{below_from, below_end}
use Rattle.sql_meaning.proofs.Truths.{no_memory}
use Rattle.sql_meaning.specs.inner.Plan.{are_same_values, at_rest, at_two, none_fits}
use Rattle.sql_meaning.specs.Stops.{Gives}
use Rattle.sql_meaning.specs.declared.stop.TruthStop.TheVariants.{TwoRows, NoMemory}
use Rattle.sql_meaning.specs.declared.stop.TruthStop.{TruthStop}

and-true : (a : Bool) → a && true ≡ a
and-true true = refl
and-true false = refl

or-assoc : (a b c : Bool) → a || (b || c) ≡ (a || b) || c
or-assoc true b c = refl
or-assoc false b c = refl

or-false : (a : Bool) → a || false ≡ a
or-false true = refl
or-false false = refl

-- ---- two facts that may be unknown

facts_give : (x y : Evaluated Bool) (first second result : Bool) → Gives x (Ok first) → Gives y (Ok second) → result ≡ first && second → Gives (all_hold (x ∷ y ∷ [])) (Ok result)
facts_give (Ok a) (Ok b) first second result gives later is =
    is ∙ (ap (λ c. c && second) gives ∙ ap (λ c. a && c) (later ∙ sym (and-true b)))
facts_give (Ok a) (Err place) first second result gives later is = absurd later
facts_give (Err place) y first second result gives later is = absurd gives

second_stops : (x y : Evaluated Bool) (first : Bool) (stop : TruthStop) → Gives x (Ok first) → Gives y (Err stop) → Gives (all_hold (x ∷ y ∷ [])) (Err stop)
second_stops (Ok a) (Ok b) first (TwoRows span) gives later = absurd later
second_stops (Ok a) (Ok b) first NoMemory gives later = tt
second_stops (Ok a) (Err place) first (TwoRows span) gives later = later
second_stops (Ok a) (Err place) first NoMemory gives later = tt
second_stops (Err place) y first stop gives later = absurd gives

-- ---- with the form

in_form : (form : Bool) (x : Evaluated Bool) (result : Result Bool TruthStop) → form ≡ true → Gives x result → Gives (if form then x else Ok false) result
in_form form x result is gives = rw (is) gives

and_true_known : (x : Evaluated Bool) → map_ok (λ h. h && true) x ≡ x
and_true_known (Ok known) = ap Ok (and-true known)
and_true_known (Err place) = refl

-- the fact that is always so
no_fact : (form : Bool) (x : Evaluated Bool) (result : Result Bool TruthStop) →
    Gives (if form then map_ok (λ h. h && true) x else Ok false) result → Gives (if form then x else Ok false) result
no_fact form x result gives = subst (λ y. Gives (if form then y else Ok false) result) (and_true_known x) gives

module _ (db : Database) (query : Query) (one two : Binding) (points : Points) (given : Value) (result : Result Bool TruthStop) (is : points ≡ Two one two) where
  pub distinct_two : (is_same are_same : Bool) → is_same ≡ is_same_binding one.levels two.levels →
      are_same ≡ are_same_values db (main_tables query) one.levels two.levels query.items →
      Gives (at_two db query (not is_same) are_same one two) result → Gives (outcome db query NeedlessDistinct given points) result
  distinct_two is_same are_same same values gives = rw (is) (rw (same, values) at gives)

  pub join_two : (entry : ℕ) (differ : Bool) → differ ≡ differ_in_entry entry one.levels two.levels →
      Gives (at_two db query differ true one two) result → Gives (outcome db query (NeedlessJoin entry) given points) result
  join_two entry differ differs gives = rw (is) (no_fact _ _ result (rw (differs) at gives))

-- ---- the conditions at a row of an entry

pub with_levels : (db : Database) (query : Query) (entry : ℕ) (others : Binding) (row : ℕ) (conds : List Cond) (tables binding : List (List ℕ)) (entries : List Entry) (rows : List ℕ) (result : Result Bool TruthStop) →
    tables ≡ [] → binding ≡ [] → entries ≡ (out-Block query.block).entries → rows ∷ [] ≡ with_row entry row others.levels →
    Gives (all_true (map (λ c. truth db c (tables ++ tables_of entries ∷ []) (binding ++ rows ∷ [])) conds)) result →
    Gives (are_true_with db query entry others row conds) result
with_levels db query entry others row conds tables binding entries rows result no_tables no_rows all is gives =
    subst (λ levels. Gives (all_true (map (λ c. truth db c (main_tables query) levels) conds)) result) is
    (rw (no_tables, no_rows, all) at gives)

-- ---- at none of the rows

-- what is known of a list of facts, after these: none of all
abbrev pub none_of : Bool → List (Evaluated Bool) → Evaluated Bool
none_of some facts = map_ok (λ fit. not (some || list_any (λ fits. fits) fit)) (all_ok facts)

none_cons : (some b : Bool) (rest : Evaluated (List Bool)) →
    map_ok (λ fit. not (some || list_any (λ fits. fits) fit)) (map_ok (λ later. b ∷ later) rest) ≡ map_ok (λ fit. not ((some || b) || list_any (λ fits. fits) fit)) rest
none_cons some b (Ok facts) = ap (λ c. Ok (not c)) (or-assoc some b (list_any (λ fits. fits) facts))
none_cons some b (Err place) = refl

none_step : (some here : Bool) (x : Evaluated Bool) (xs : List (Evaluated Bool)) → Gives x (Ok here) → none_of some (x ∷ xs) ≡ none_of (some || here) xs
none_step some here (Ok b) xs gives = none_cons some b (all_ok xs) ∙ ap (λ c. none_of (some || c) xs) (sym gives)
none_step some here (Err place) xs gives = absurd gives

none_stops : (some : Bool) (x : Evaluated Bool) (xs : List (Evaluated Bool)) (stop : TruthStop) → Gives x (Err stop) → Gives (none_of some (x ∷ xs)) (Err stop)
none_stops some (Ok b) xs (TwoRows span) gives = absurd gives
none_stops some (Ok b) xs NoMemory gives = no_memory (none_of some (Ok b ∷ xs))
none_stops some (Err place) xs (TwoRows span) gives = gives
none_stops some (Err place) xs NoMemory gives = tt

-- the loop over the rows of the entry: what is known at its end, after one row, and where it stops
module _ (db : Database) (query : Query) (entry : ℕ) (others : Binding) (conds : List Cond) where
  abbrev pub at : ℕ → Evaluated Bool
  at row = are_true_with db query entry others row conds

  module _ (n k : ℕ) (some : Bool) (so_far : none_of some (map at (drop k (below n))) ≡ none_of false (map at (below n))) where
    pub rows_step : (here next : Bool) → k < n → Gives (at k) (Ok here) → next ≡ some || here → none_of next (map at (drop (k + 1) (below n))) ≡ none_of false (map at (below n))
    rows_step here next low gives is =
        ap (λ b. none_of b (map at (drop (k + 1) (below n)))) is
        ∙ (sym (none_step some here (at k) (map at (drop (k + 1) (below n))) gives)
        ∙ (ap (λ numbers. none_of some (map at numbers)) (sym (below_from n k low)) ∙ so_far))

    all_rows : n ≡ length (rows_of db (table_of db query entry)) → none_of false (map at (below n)) ≡ none_fits db query entry others conds
    all_rows count = ap (λ m. none_of false (map at (below m))) count

    at_end : k ≡ n → none_of some (map at (drop k (below n))) ≡ Ok (not some)
    at_end same = ap (λ m. none_of some (map at (drop m (below n)))) same ∙ (ap (λ numbers. none_of some (map at numbers)) (below_end n) ∙ ap (λ b. Ok (not b)) (or-false some))

    pub rows_end : n ≡ length (rows_of db (table_of db query entry)) → k ≡ n → Gives (none_fits db query entry others conds) (Ok (not some))
    rows_end count same = subst (λ x. Gives x (Ok (not some))) (sym (at_end same) ∙ (so_far ∙ all_rows count)) refl

    pub rows_stop : (stop : TruthStop) → n ≡ length (rows_of db (table_of db query entry)) → k < n → Gives (at k) (Err stop) → Gives (none_fits db query entry others conds) (Err stop)
    rows_stop stop count low gives =
        subst (λ x. Gives x (Err stop)) (ap (λ numbers. none_of some (map at numbers)) (sym (below_from n k low)) ∙ (so_far ∙ all_rows count))
        (none_stops some (at k) (map at (drop (k + 1) (below n))) stop gives)

-- ---- the rows of the other entries

module _ (db : Database) (query : Query) (entry : ℕ) (one : Binding) (naming not_naming : List Cond)
    (form : is_binding_without db query entry one ≡ true) (naming_is : naming ≡ conjuncts_with entry query) (not_naming_is : not_naming ≡ conjuncts_without entry query) where
  pub rest_gives : (first second result : Bool) → Gives (are_true_with db query entry one 0 not_naming) (Ok first) → Gives (none_fits db query entry one naming) (Ok second) →
      result ≡ first && second → Gives (at_rest db query entry one) (Ok result)
  rest_gives first second result gives later is =
      in_form (is_binding_without db query entry one) (all_hold (are_true_with db query entry one 0 (conjuncts_without entry query) ∷ no_row_fits db query entry one ∷ [])) (Ok result) form
      (facts_give (are_true_with db query entry one 0 (conjuncts_without entry query)) (no_row_fits db query entry one) first second result
      (subst (λ conds. Gives (are_true_with db query entry one 0 conds) (Ok first)) not_naming_is gives)
      (subst (λ conds. Gives (none_fits db query entry one conds) (Ok second)) naming_is later) is)

  pub rest_stops : (first : Bool) (stop : TruthStop) → Gives (are_true_with db query entry one 0 not_naming) (Ok first) → Gives (none_fits db query entry one naming) (Err stop) →
      Gives (at_rest db query entry one) (Err stop)
  rest_stops first stop gives later =
      in_form (is_binding_without db query entry one) (all_hold (are_true_with db query entry one 0 (conjuncts_without entry query) ∷ no_row_fits db query entry one ∷ [])) (Err stop) form
      (second_stops (are_true_with db query entry one 0 (conjuncts_without entry query)) (no_row_fits db query entry one) first stop
      (subst (λ conds. Gives (are_true_with db query entry one 0 conds) (Ok first)) not_naming_is gives)
      (subst (λ conds. Gives (none_fits db query entry one conds) (Err stop)) naming_is later))
