-- What is gathered row by row is what the subquery selects.
use Rattle.std.proofs.Common.{◌≡◌, ◌<◌, ◌+◌, ◌∙◌, inl, inr, subst, add-one, append_assoc, append-nil, arith, refl, ap, sym, ℕ, zero, suc, List, [], ◌∷◌, ◌++◌, length, map, drop}
use Rattle.std.proofs.lemmas.Bool.{cases_lt}
use Rattle.std.proofs.lemmas.List.{length-append, map-append}
use Rattle.std.specs.List.{flat_map}
use Rattle.std.specs.Prelude.{Result, Ok, Err, if◌then◌else◌}
use Rattle.lint_core.specs.Condition.{Inner, Meaning, inner_bindings, items_at, selected, term_value}
use Rattle.lint_core.specs.Database.{below, row_lists, rows_of}
use Rattle.lint_core.specs.Evaluation.{Evaluated, map_ok}
use Rattle.lint_core.specs.Truth.{is_true}
use Rattle.lint_core.specs.Fits.{tables_of}
use Rattle.lint_core.specs.declared.condition.Entry.{Entry}
use Rattle.lint_core.specs.declared.condition.Term.{Term}
use Rattle.lint_core.specs.declared.database.Database.{Database}
use Rattle.lint_core.specs.declared.database.Truth.TheVariants.{False, Unknown, True}
use Rattle.lint_core.specs.declared.database.Truth.{Truth}
use Rattle.lint_core.specs.declared.database.Value.{Value}
use Rattle.sql_meaning.proofs.Truths.{no_memory}
use Rattle.sql_meaning.specs.inner.Gathered.{joined, gathered, gathered_at, gathered_over}
use Rattle.sql_meaning.specs.Stops.{Gives}
use Rattle.sql_meaning.specs.declared.stop.TruthStop.TheVariants.{TwoRows, NoMemory}
use Rattle.sql_meaning.specs.declared.stop.TruthStop.{TruthStop}

pub joined-nothing : {A : Type 0} (x : Evaluated (List A)) → joined x (Ok []) ≡ x
joined-nothing (Ok xs) = ap Ok (append-nil xs)
joined-nothing (Err place) = refl

pub nothing-joined : {A : Type 0} (x : Evaluated (List A)) → joined (Ok []) x ≡ x
nothing-joined (Ok xs) = refl
nothing-joined (Err place) = refl

joined-assoc : {A : Type 0} (x y z : Evaluated (List A)) → joined x (joined y z) ≡ joined (joined x y) z
joined-assoc (Ok xs) (Ok ys) (Ok zs) = ap Ok (sym (append_assoc xs ys zs))
joined-assoc (Ok xs) (Ok ys) (Err place) = refl
joined-assoc (Ok xs) (Err place) z = refl
joined-assoc (Err place) y z = refl

-- after one more part, the rest is joined to what there is
pub joined_step : {A : Type 0} (xs zs : List A) (y z : Evaluated (List A)) → Gives (joined (Ok xs) y) (Ok zs) → joined (Ok xs) (joined y z) ≡ joined (Ok zs) z
joined_step xs zs (Ok ys) z gives = joined-assoc (Ok xs) (Ok ys) z ∙ ap (λ ws. joined (Ok ws) z) (sym gives)
joined_step xs zs (Err place) z gives = absurd gives

pub joined_stops : {A : Type 0} (xs : List A) (y z : Evaluated (List A)) (stop : TruthStop) → Gives (joined (Ok xs) y) (Err stop) → Gives (joined (Ok xs) (joined y z)) (Err stop)
joined_stops xs (Ok ys) z (TwoRows span) gives = absurd gives
joined_stops xs (Ok ys) z NoMemory gives = no_memory (joined (Ok xs) (joined (Ok ys) z))
joined_stops xs (Err place) z (TwoRows span) gives = gives
joined_stops xs (Err place) z NoMemory gives = tt

module _ (db : Database) (item : Term) where
  abbrev items : List Inner → Evaluated (List Value)
  items inners = map_ok (items_at db item) (selected inners)

  abbrev one : Inner → Evaluated (List Value)
  one inner = map_ok (λ truth. if is_true truth then term_value db inner.tables inner.binding item ∷ [] else []) inner.truth

  items_first : (inner : Inner) (others : Evaluated (List Inner)) → (t : Truth) → map_ok (items_at db item) (map_ok (λ later. if is_true t then inner ∷ later else later) others) ≡ joined (map_ok (λ truth. if is_true truth then term_value db inner.tables inner.binding item ∷ [] else []) (Ok t)) (map_ok (items_at db item) others)
  items_first inner (Ok later) False = refl
  items_first inner (Ok later) Unknown = refl
  items_first inner (Ok later) True = refl
  items_first inner (Err place) False = refl
  items_first inner (Err place) Unknown = refl
  items_first inner (Err place) True = refl

  items-cons : (tables binding : List (List ℕ)) (truth : Evaluated Truth) (others : List Inner) →
      items (record { tables = tables; binding = binding; truth = truth } ∷ others) ≡ joined (one (record { tables = tables; binding = binding; truth = truth })) (items others)
  items-cons tables binding (Ok t) others = items_first (record { tables = tables; binding = binding; truth = Ok t }) (selected others) t
  items-cons tables binding (Err place) others = refl

  items-append : (xs ys : List Inner) → items (xs ++ ys) ≡ joined (items xs) (items ys)
  items-append [] ys = sym (nothing-joined (items ys))
  items-append (x ∷ xs) ys =
      items-cons x.tables x.binding x.truth (xs ++ ys)
      ∙ (ap (joined (one x)) (items-append xs ys)
      ∙ (joined-assoc (one x) (items xs) (items ys)
      ∙ ap (λ first. joined first (items ys)) (sym (items-cons x.tables x.binding x.truth xs))))

  module _ (tables binding : List (List ℕ)) (cond : Meaning) where
    abbrev inner : List ℕ → Inner
    inner rows = record { tables = tables; binding = binding ++ rows ∷ []; truth = cond tables (binding ++ rows ∷ []) }

    -- of the lists that begin with these row places
    abbrev from : List ℕ → List (List ℕ) → Evaluated (List Value)
    from rows lists = items (map inner (map (λ more. rows ++ more) lists))

    from-one : (rows : List ℕ) → from rows ([] ∷ []) ≡ gathered_at db item tables binding cond rows
    from-one rows = rw (append-nil rows) (items-cons tables (binding ++ rows ∷ []) (cond tables (binding ++ rows ∷ [])) [] ∙ joined-nothing (gathered_at db item tables binding cond rows))

    from-append : (rows : List ℕ) (xs ys : List (List ℕ)) → from rows (xs ++ ys) ≡ joined (from rows xs) (from rows ys)
    from-append rows xs ys =
        ap (λ lists. items (map inner lists)) (map-append (λ more. rows ++ more) xs ys)
        ∙ (ap items (map-append inner (map (λ more. rows ++ more) xs) (map (λ more. rows ++ more) ys))
        ∙ items-append (map inner (map (λ more. rows ++ more) xs)) (map inner (map (λ more. rows ++ more) ys)))

    longer : (rows : List ℕ) (row : ℕ) (lists : List (List ℕ)) → map (λ more. rows ++ more) (map (λ more. row ∷ more) lists) ≡ map (λ more. (rows ++ row ∷ []) ++ more) lists
    longer rows row [] = refl
    longer rows row (more ∷ lists) = rw (longer rows row lists) (ap (λ first. first ∷ map (λ more. (rows ++ row ∷ []) ++ more) lists) (sym (append_assoc rows (row ∷ []) more)))

    from-over : (rows : List ℕ) (others : List ℕ) (numbers : List ℕ) →
        ((row : ℕ) → from (rows ++ row ∷ []) (row_lists db others) ≡ gathered db item tables binding cond (rows ++ row ∷ []) others) →
        from rows (flat_map (λ row. map (λ more. row ∷ more) (row_lists db others)) numbers) ≡ gathered_over (λ row. gathered db item tables binding cond (rows ++ row ∷ []) others) numbers
    from-over rows others [] each = refl
    from-over rows others (row ∷ numbers) each =
        from-append rows (map (λ more. row ∷ more) (row_lists db others)) (flat_map (λ row. map (λ more. row ∷ more) (row_lists db others)) numbers)
        ∙ (ap (λ first. joined first (from rows (flat_map (λ row. map (λ more. row ∷ more) (row_lists db others)) numbers))) (ap (λ lists. items (map inner lists)) (longer rows row (row_lists db others)) ∙ each row)
        ∙ ap (joined (gathered db item tables binding cond (rows ++ row ∷ []) others)) (from-over rows others numbers each))

    from-is : (rows rest : List ℕ) → from rows (row_lists db rest) ≡ gathered db item tables binding cond rows rest
    from-is rows [] = from-one rows
    from-is rows (table ∷ others) = from-over rows others (below (length (rows_of db table))) (λ row. from-is (rows ++ row ∷ []) others)

  same_lists : (lists : List (List ℕ)) → map (λ more. [] ++ more) lists ≡ lists
  same_lists [] = refl
  same_lists (rows ∷ lists) = ap (λ later. rows ∷ later) (same_lists lists)

  -- all that the subquery selects
  pub gathered_is : (entries : List ℕ) (cond : Meaning) (tables binding : List (List ℕ)) →
      map_ok (items_at db item) (selected (inner_bindings db entries cond tables binding)) ≡ gathered db item (tables ++ entries ∷ []) binding cond [] entries
  gathered_is entries cond tables binding =
      ap (λ lists. items (map (inner (tables ++ entries ∷ []) binding cond) lists)) (sym (same_lists (row_lists db entries)))
      ∙ from-is (tables ++ entries ∷ []) binding cond [] entries

drop_front : {A : Type 0} (xs ys : List A) (k : ℕ) → k < length xs → drop k (xs ++ ys) ≡ drop k xs ++ ys
drop_front [] ys k low = absurd (omega arith)
drop_front (x ∷ xs) ys zero low = refl
drop_front (x ∷ xs) ys (suc k) low = drop_front xs ys k (omega arith)

drop_next : {A : Type 0} (xs ys : List A) (k : ℕ) → k < length xs → drop (suc k) (xs ++ ys) ≡ drop (suc k) xs ++ ys
drop_next [] ys k low = absurd (omega arith)
drop_next (x ∷ xs) ys zero low = refl
drop_next (x ∷ xs) ys (suc k) low = drop_next xs ys k (omega arith)

drop_behind : {A : Type 0} (xs ys : List A) → drop (length xs) (xs ++ ys) ≡ ys
drop_behind [] ys = refl
drop_behind (x ∷ xs) ys = drop_behind xs ys

length_below : (n : ℕ) → length (below n) ≡ n
length_below zero = refl
length_below (suc n) = length-append (below n) (n ∷ []) ∙ (ap (λ k. k + 1) (length_below n) ∙ add-one n)

drop_all : {A : Type 0} (xs : List A) → drop (length xs) xs ≡ []
drop_all [] = refl
drop_all (x ∷ xs) = drop_all xs

pub below_end : (n : ℕ) → drop n (below n) ≡ []
below_end n = ap (λ k. drop k (below n)) (sym (length_below n)) ∙ drop_all (below n)

below_after : (n k : ℕ) → k < n → drop k (below n) ≡ k ∷ drop (suc k) (below n)
below_after zero k low = absurd (omega arith)
below_after (suc n) k low =
    elim (cases_lt k n) [
      | inl less ↦
          let short : k < length (below n) = subst (λ m. k < m) (sym (length_below n)) less in
          drop_front (below n) (n ∷ []) k short
          ∙ (ap (λ numbers. numbers ++ n ∷ []) (below_after n k less)
          ∙ ap (λ numbers. k ∷ numbers) (sym (drop_next (below n) (n ∷ []) k short)))
      | inr more ↦
          let same : k ≡ n = omega arith in
          let here : drop n (below n ++ n ∷ []) ≡ n ∷ [] = ap (λ m. drop m (below n ++ n ∷ [])) (sym (length_below n)) ∙ drop_behind (below n) (n ∷ []) in
          subst (λ m. drop m (below n ++ n ∷ []) ≡ m ∷ drop (suc m) (below n ++ n ∷ [])) (sym same) (here ∙ ap (λ numbers. n ∷ numbers) (sym (below_end (suc n))))
    ]

-- the numbers from k on
pub below_from : (n k : ℕ) → k < n → drop k (below n) ≡ k ∷ drop (k + 1) (below n)
below_from n k low = below_after n k low ∙ ap (λ m. k ∷ drop m (below n)) (sym (add-one k))

-- the loop over the rows of one table: where it ends, after one row, and where it stops
pub over_end : (at : ℕ → Evaluated (List Value)) (xs : List Value) (n k : ℕ) (whole : Evaluated (List Value)) → k ≡ n →
    joined (Ok xs) (gathered_over at (drop k (below n))) ≡ whole → whole ≡ Ok xs
over_end at xs n k whole same so_far =
    sym so_far ∙ (ap (λ numbers. joined (Ok xs) (gathered_over at numbers)) (ap (λ m. drop m (below n)) same ∙ below_end n) ∙ ap Ok (append-nil xs))

pub over_step : (at : ℕ → Evaluated (List Value)) (xs zs : List Value) (n k : ℕ) (whole : Evaluated (List Value)) → k < n →
    joined (Ok xs) (gathered_over at (drop k (below n))) ≡ whole → Gives (joined (Ok xs) (at k)) (Ok zs) →
    joined (Ok zs) (gathered_over at (drop (k + 1) (below n))) ≡ whole
over_step at xs zs n k whole low so_far gives =
    sym (joined_step xs zs (at k) (gathered_over at (drop (k + 1) (below n))) gives)
    ∙ (ap (λ numbers. joined (Ok xs) (gathered_over at numbers)) (sym (below_from n k low)) ∙ so_far)

pub over_stops : (at : ℕ → Evaluated (List Value)) (xs : List Value) (n k : ℕ) (whole : Evaluated (List Value)) (stop : TruthStop) → k < n →
    joined (Ok xs) (gathered_over at (drop k (below n))) ≡ whole → Gives (joined (Ok xs) (at k)) (Err stop) → Gives whole (Err stop)
over_stops at xs n k whole stop low so_far gives =
    subst (λ x. Gives x (Err stop)) (ap (λ numbers. joined (Ok xs) (gathered_over at numbers)) (sym (below_from n k low)) ∙ so_far)
    (joined_stops xs (at k) (gathered_over at (drop (k + 1) (below n))) stop gives)

pub select_gives : (db : Database) (item : Term) (entries : List Entry) (cond : Meaning) (tables binding : List (List ℕ)) (so_far : List Value) (rows : List ℕ) (rest : List Entry) (result : Result (List Value) TruthStop) →
    so_far ≡ [] → rows ≡ [] → rest ≡ entries →
    Gives (joined (Ok so_far) (gathered db item (tables ++ tables_of entries ∷ []) binding cond rows (tables_of rest))) result →
    Gives (map_ok (items_at db item) (selected (inner_bindings db (tables_of entries) cond tables binding))) result
select_gives db item entries cond tables binding so_far rows rest result nothing no_rows all gives =
    let own = tables_of entries in
    let start : joined (Ok so_far) (gathered db item (tables ++ own ∷ []) binding cond rows (tables_of rest)) ≡ joined (Ok []) (gathered db item (tables ++ own ∷ []) binding cond [] own) = rw (nothing, no_rows, all) refl in
    subst (λ x. Gives x result)
    (start ∙ (nothing-joined (gathered db item (tables ++ own ∷ []) binding cond [] own) ∙ sym (gathered_is db item own cond tables binding)))
    gives

-- what the rest of the entries gives, by the rows of the first
by_rows : (db : Database) (item : Term) (tables binding : List (List ℕ)) (cond : Meaning) (rows : List ℕ) (rest : List Entry) (entry : Entry) (others : List Entry) (n : ℕ) →
    rest ≡ entry ∷ others → n ≡ length (rows_of db entry.table) →
    gathered db item tables binding cond rows (tables_of rest) ≡ gathered_over (λ row. gathered db item tables binding cond (rows ++ row ∷ []) (tables_of others)) (below n)
by_rows db item tables binding cond rows rest entry others n is count = rw (is, count) refl

module _ (db : Database) (item : Term) (tables binding : List (List ℕ)) (cond : Meaning) (rows : List ℕ) (rest : List Entry) (entry : Entry) (others : List Entry) (n k : ℕ) (initial xs : List Value)
    (is : rest ≡ entry ∷ others) (count : n ≡ length (rows_of db entry.table)) where
  -- what each row of the first entry gives
  abbrev pub at : ℕ → Evaluated (List Value)
  at row = gathered db item tables binding cond (rows ++ row ∷ []) (tables_of others)

  abbrev pub all_rows : Evaluated (List Value)
  all_rows = joined (Ok initial) (gathered_over at (below n))

  whole_is : joined (Ok initial) (gathered db item tables binding cond rows (tables_of rest)) ≡ all_rows
  whole_is = ap (joined (Ok initial)) (by_rows db item tables binding cond rows rest entry others n is count)

  module _ (so_far : joined (Ok xs) (gathered_over at (drop k (below n))) ≡ all_rows) where
    pub rows_end : k ≡ n → Gives (joined (Ok initial) (gathered db item tables binding cond rows (tables_of rest))) (Ok xs)
    rows_end same = subst (λ x. Gives x (Ok xs)) (sym (whole_is ∙ over_end at xs n k all_rows same so_far)) refl

    module _ (kept pushed : List ℕ) (low : k < n) (same : kept ≡ rows) (more : pushed ≡ kept ++ k ∷ []) where
      here : gathered db item tables binding cond pushed (tables_of others) ≡ at k
      here = ap (λ rows. gathered db item tables binding cond rows (tables_of others)) (more ∙ ap (λ rows. rows ++ k ∷ []) same)

      pub rows_stop : (stop : TruthStop) → Gives (joined (Ok xs) (gathered db item tables binding cond pushed (tables_of others))) (Err stop) →
          Gives (joined (Ok initial) (gathered db item tables binding cond rows (tables_of rest))) (Err stop)
      rows_stop stop gives =
          subst (λ x. Gives x (Err stop)) (sym whole_is)
          (over_stops at xs n k all_rows stop low so_far (subst (λ x. Gives (joined (Ok xs) x) (Err stop)) here gives))

      pub rows_step : (zs : List Value) → Gives (joined (Ok xs) (gathered db item tables binding cond pushed (tables_of others))) (Ok zs) →
          joined (Ok zs) (gathered_over at (drop (k + 1) (below n))) ≡ all_rows
      rows_step zs gives = over_step at xs zs n k all_rows low so_far (subst (λ x. Gives (joined (Ok xs) x) (Ok zs)) here gives)
