-- Lists of row terms, and their places.
use Rattle.std.proofs.Common.{◌≡◌, ◌∙◌, sym, ap, ap₂, refl, subst, ℕ, zero, suc, ◌+◌, ◌*◌, ◌<◌, ◌≤◌, ◌⊎◌, inl, inr, Bool, true, false, cond, List, [], ◌∷◌, ◌++◌, length, map, min, take, drop, get_or, append-nil, add-one, drop-cons, arith}
use Rattle.std.proofs.Math.Nat.{mul-zero, mul-suc}
use Rattle.std.proofs.lemmas.List.{map-append, length-append, length-map, take_more}
use Rattle.std.proofs.lemmas.List.Concat.{flat_map-append}
use Rattle.std.proofs.lemmas.List.Elements.{filter-append}
use Rattle.std.proofs.lemmas.List.Sums.{length-filter, count_by-le-length}
use Rattle.std.proofs.lemmas.Option.{same_Some, slice_get_within, slice_get_read}
use Rattle.std.proofs.lemmas.Bool.Decides.{nat_tests}
use Rattle.std.specs.Prelude.{Option, Some, None, slice_get, nat_eq, if◌then◌else◌}
use Rattle.std.specs.List.{filter, flat_map}
use Rattle.std.specs.Option.{option_map_or}
use Rattle.lint_base.proofs.Lists.{slice_get_front, slice_get_last, get_behind}
use Rattle.lint_core.specs.Database.{below}
use Rattle.sorted_skolem.specs.declared.term.RowTerm.{RowTerm}
use Rattle.sorted_skolem.specs.Terms.{is_of_table, terms_of, term_lists}
use Rattle.sorted_skolem.proofs.RowTerms.{AreRows, IsRowOf}
use Rattle.instantiate.specs.declared.rows.Step.{Step}
use Rattle.instantiate.specs.inner.Steps.{table_at, step_of, index_along}
use Rattle.instantiate.proofs.Layers.{at_map}

-- ---- numbers that stop at a greatest one

pub capped : (m a s p : ℕ) → min (min a m * s + p) m ≡ min (a * s + p) m
capped m a s p = elim (either a m) [ inl low ↦ let e : min a m ≡ a = omega arith in ap (λ b. min (b * s + p) m) e | inr high ↦ let e : min a m ≡ m = omega arith in ap (λ b. min (b * s + p) m) e ∙ by high s ]
  where
    either : (a m : ℕ) → (a ≤ m) ⊎ (m < a)
    either a m = grind arith

    by : m < a → (s : ℕ) → min (m * s + p) m ≡ min (a * s + p) m
    by high zero = let e = mul-zero m in let f = mul-zero a in omega arith
    by high (suc s) = let e = mul-suc m s in let f = mul-suc a s in omega arith

-- ---- one more table

abbrev pub with_last : List ℕ → List ℕ → List (List ℕ)
with_last rows list = map (λ row. list ++ row ∷ []) rows

prefixed_one : (row : ℕ) (rows list : List ℕ) → map (λ l. row ∷ l) (with_last rows list) ≡ with_last rows (row ∷ list)
prefixed_one row [] list = refl
prefixed_one row (r ∷ rows) list = ap (λ ls. (row ∷ (list ++ r ∷ [])) ∷ ls) (prefixed_one row rows list)

prefixed : (row : ℕ) (rows : List ℕ) (lists : List (List ℕ)) → map (λ l. row ∷ l) (flat_map (with_last rows) lists) ≡ flat_map (with_last rows) (map (λ l. row ∷ l) lists)
prefixed row rows [] = refl
prefixed row rows (l ∷ lists) =
    map-append (λ l. row ∷ l) (with_last rows l) (flat_map (with_last rows) lists)
    ∙ ap₂ (λ xs ys. xs ++ ys) (prefixed_one row rows l) (prefixed row rows lists)

all_prefixed : (firsts rows : List ℕ) (lists : List (List ℕ)) →
    flat_map (λ row. map (λ l. row ∷ l) (flat_map (with_last rows) lists)) firsts ≡ flat_map (with_last rows) (flat_map (λ row. map (λ l. row ∷ l) lists) firsts)
all_prefixed [] rows lists = refl
all_prefixed (row ∷ firsts) rows lists =
    ap₂ (λ xs ys. xs ++ ys) (prefixed row rows lists) (all_prefixed firsts rows lists)
    ∙ sym (flat_map-append (with_last rows) (map (λ l. row ∷ l) lists) (flat_map (λ row. map (λ l. row ∷ l) lists) firsts))

alone : (rows : List ℕ) → flat_map (λ row. (row ∷ []) ∷ []) rows ≡ with_last rows []
alone [] = refl
alone (row ∷ rows) = ap (λ ls. (row ∷ []) ∷ ls) (alone rows)

pub lists_last : (terms : List RowTerm) (tables : List ℕ) (table : ℕ) →
    term_lists terms (tables ++ table ∷ []) ≡ flat_map (λ list. map (λ row. list ++ row ∷ []) (terms_of terms table)) (term_lists terms tables)
lists_last terms [] table = alone (terms_of terms table) ∙ sym (append-nil (with_last (terms_of terms table) []))
lists_last terms (t ∷ tables) table =
    ap (λ lists. flat_map (λ row. map (λ l. row ∷ l) lists) (terms_of terms t)) (lists_last terms tables table)
    ∙ all_prefixed (terms_of terms t) (terms_of terms table) (term_lists terms tables)

-- ---- how many lists there are

product : (firsts : List ℕ) (lists : List (List ℕ)) → length (flat_map (λ row. map (λ l. row ∷ l) lists) firsts) ≡ length firsts * length lists
product [] lists = grind arith
product (row ∷ firsts) lists =
    length-append (map (λ l. row ∷ l) lists) (flat_map (λ row. map (λ l. row ∷ l) lists) firsts)
    ∙ (ap₂ (λ m n. m + n) (length-map lists (λ l. row ∷ l)) (product firsts lists)
    ∙ grind arith)

pub lists_count : (terms : List RowTerm) (table : ℕ) (tables : List ℕ) → length (term_lists terms (table ∷ tables)) ≡ length (terms_of terms table) * length (term_lists terms tables)
lists_count terms table tables = product (terms_of terms table) (term_lists terms tables)

-- ---- places

pub length_below : (n : ℕ) → length (below n) ≡ n
length_below zero = refl
length_below (suc n) = let e = length-append (below n) (n ∷ []) in let f = length_below n in omega arith

pub last_or : (n k : ℕ) → k < suc n → (k < n) ⊎ (k ≡ n)
last_or n k low = grind arith

pub at_below : (n k : ℕ) → k < n → slice_get (below n) k ≡ Some k
at_below zero k low = absurd (omega arith)
at_below (suc n) k low =
    elim (last_or n k low) [
      | inl earlier ↦ slice_get_front (below n) (n ∷ []) k k (at_below n k earlier)
      | inr same ↦
          let size : length (below n) ≡ k = length_below n ∙ sym same in
          subst (λ i. slice_get (below n ++ n ∷ []) i ≡ Some k) size (subst (λ m. slice_get (below n ++ n ∷ []) (length (below n)) ≡ Some m) (sym same) (slice_get_last (below n) n))
    ]

in_product : (firsts : List ℕ) (lists : List (List ℕ)) (place at row : ℕ) (list : List ℕ) → slice_get firsts place ≡ Some row → slice_get lists at ≡ Some list →
    slice_get (flat_map (λ row. map (λ l. row ∷ l) lists) firsts) (place * length lists + at) ≡ Some (row ∷ list)
in_product [] lists place at row list one two = cc
in_product (r ∷ firsts) lists zero at row list one two =
    let none : 0 * length lists + at ≡ at = grind arith in
    let here : List (List ℕ) = map (λ l. row ∷ l) lists in
    let rest : List (List ℕ) = flat_map (λ row. map (λ l. row ∷ l) lists) firsts in
    subst (λ i. slice_get (flat_map (λ row. map (λ l. row ∷ l) lists) (r ∷ firsts)) i ≡ Some (row ∷ list)) (sym none)
    (subst (λ q. slice_get (map (λ l. q ∷ l) lists ++ rest) at ≡ Some (row ∷ list)) (sym (same_Some r row one))
    (slice_get_front here rest at (row ∷ list) (at_map (λ l. row ∷ l) lists at list two)))
in_product (r ∷ firsts) lists (suc place) at row list one two =
    let here : List (List ℕ) = map (λ l. r ∷ l) lists in
    let rest : List (List ℕ) = flat_map (λ row. map (λ l. row ∷ l) lists) firsts in
    let size : length here ≡ length lists = length-map lists (λ l. r ∷ l) in
    let more : length here + (place * length lists + at) ≡ suc place * length lists + at = ap (λ n. n + (place * length lists + at)) size ∙ grind arith in
    subst (λ i. slice_get (here ++ rest) i ≡ Some (row ∷ list)) more
    (get_behind here rest (place * length lists + at) ∙ in_product firsts lists place at row list one two)

-- the place of what passes a test
pub filtered_at : (test : ℕ → Bool) (n k : ℕ) → k < n → test k ≡ true → slice_get (filter test (below n)) (length (filter test (below k))) ≡ Some k
filtered_at test zero k low passes = absurd (omega arith)
filtered_at test (suc n) k low passes =
    elim (last_or n k low) [
      | inl earlier ↦
          subst (λ ks. slice_get ks (length (filter test (below k))) ≡ Some k) (sym (filter-append test (below n) (n ∷ [])))
          (slice_get_front (filter test (below n)) (filter test (n ∷ [])) (length (filter test (below k))) k (filtered_at test n k earlier passes))
      | inr same ↦
          subst (λ m. slice_get (filter test (below (suc m))) (length (filter test (below k))) ≡ Some k) same
          (subst (λ ks. slice_get ks (length (filter test (below k))) ≡ Some k) (sym (filter-append test (below k) (k ∷ []) ∙ ap (λ ks. filter test (below k) ++ ks) (one test k passes)))
          (slice_get_last (filter test (below k)) k))
    ]
  where
    one : (test : ℕ → Bool) (k : ℕ) → test k ≡ true → filter test (k ∷ []) ≡ k ∷ []
    one test k passes = ap (λ b. cond b (k ∷ []) []) passes

module _ (terms : List RowTerm) where
  abbrev pub steps : List Step
  steps = map (step_of terms) (below (length terms))

  pub record IsFound (tables rows : List ℕ) : Type 0 where
    pub place : ℕ
    pub is_place : slice_get (term_lists terms tables) place ≡ Some rows
    pub index : (at : ℕ) → index_along steps at rows ≡ at * length (term_lists terms tables) + place

  -- the index of row terms is the place of their list
  pub lists_at : (tables rows : List ℕ) → AreRows terms tables rows → IsFound tables rows
  lists_at [] [] are = record { place = 0; is_place = refl; index = λ at. grind arith }
  lists_at [] (row ∷ rows) are = absurd are
  lists_at (table ∷ tables) [] are = absurd are
  lists_at (table ∷ tables) (row ∷ rows) are =
      let rest = lists_at tables rows are.1 in
      let own = row_step table row are.0 in
      let count : ℕ = length (term_lists terms tables) in
      record {
        place = own.0 * count + rest.place;
        is_place = in_product (terms_of terms table) (term_lists terms tables) own.0 rest.place row rows own.1 rest.is_place;
        index = λ at.
            ap (λ o. index_along steps (option_map_or (λ (s : Step). at * s.size + s.place) o 0) rows) own.2
            ∙ (rest.index (at * length (terms_of terms table) + own.0)
            ∙ regroup at (length (terms_of terms table)) own.0 count rest.place
            ∙ ap (λ n. at * n + (own.0 * count + rest.place)) (sym (lists_count terms table tables)));
      }
    where
      equal : (m n : ℕ) → m ≡ n → nat_eq m n ≡ true
      equal m n same = grind (arith, nat_tests)

      regroup : (at size place count rest : ℕ) → (at * size + place) * count + rest ≡ at * (size * count) + (place * count + rest)
      regroup at size place count rest = grind arith

      row_step : (table row : ℕ) → IsRowOf terms table row →
          (place : ℕ) × (slice_get (terms_of terms table) place ≡ Some row) × (slice_get steps row ≡ Some (record { place = place; size = length (terms_of terms table) }))
      row_step table row is =
          let low = slice_get_within terms row is.0 is.1 in
          let own : table_at terms row ≡ table = ap (λ o. option_map_or (λ (t : RowTerm). t.table) o 0) is.1 ∙ is.2 in
          let passes : is_of_table terms table row ≡ true = ap (λ o. option_map_or (λ (t : RowTerm). nat_eq t.table table) o false) is.1 ∙ equal is.0.table table is.2 in (
            length (filter (is_of_table terms table) (below row)),
            filtered_at (is_of_table terms table) (length terms) row low passes,
            at_map (step_of terms) (below (length terms)) row row (at_below (length terms) row low)
                ∙ ap (λ t. Some (record { place = length (filter (is_of_table terms t) (below row)); size = length (terms_of terms t) })) own,
          )

-- ---- one more row term, table or list

-- what the row terms of a table gain by one more row term
pub filter_step : (terms : List RowTerm) (table n : ℕ) (t : RowTerm) → n < length terms → t ≡ get_or terms n t →
    filter (is_of_table terms table) (below (n + 1)) ≡ filter (is_of_table terms table) (below n) ++ (if nat_eq t.table table then n ∷ [] else [])
filter_step terms table n t low is =
    let there : slice_get terms n ≡ Some t = slice_get_read terms (length terms) n t refl low is in
    ap (λ m. filter (is_of_table terms table) (below m)) (add-one n)
    ∙ (filter-append (is_of_table terms table) (below n) (n ∷ [])
    ∙ ap (λ o. filter (is_of_table terms table) (below n) ++ cond (option_map_or (λ (t : RowTerm). nat_eq t.table table) o false) (n ∷ []) []) there)

pub few_of_table : (terms : List RowTerm) (table n : ℕ) → length (filter (is_of_table terms table) (below n)) ≤ n
few_of_table terms table n =
    let e = length-filter (is_of_table terms table) (below n) in
    let f = count_by-le-length (is_of_table terms table) (below n) in
    let g = length_below n in
    omega arith

index_alike : (m : ℕ) (some : List Step) (rows : List ℕ) (x y : ℕ) → min x m ≡ min y m → min (index_along some x rows) m ≡ min (index_along some y rows) m
index_alike m some [] x y same = same
index_alike m some (row ∷ rows) x y same = index_alike m some rows (after x) (after y) (by (slice_get some row))
  where
    after : ℕ → ℕ
    after z = option_map_or (λ (s : Step). z * s.size + s.place) (slice_get some row) 0

    by : (o : Option Step) → min (option_map_or (λ (s : Step). x * s.size + s.place) o 0) m ≡ min (option_map_or (λ (s : Step). y * s.size + s.place) o 0) m
    by None = refl
    by (Some s) = sym (capped m x s.size s.place) ∙ (ap (λ z. min (z * s.size + s.place) m) same ∙ capped m y s.size s.place)

-- the index behind one more row term
pub index_step : (m : ℕ) (steps : List Step) (rows : List ℕ) (i row index next : ℕ) → i < length rows → row ≡ get_or rows i 0 →
    min next m ≡ min (option_map_or (λ (s : Step). index * s.size + s.place) (slice_get steps row) 0) m →
    min (index_along steps next (drop (i + 1) rows)) m ≡ min (index_along steps index (drop i rows)) m
index_step m steps rows i row index next low is same =
    index_alike m steps (drop (i + 1) rows) next (option_map_or (λ (s : Step). index * s.size + s.place) (slice_get steps row) 0) same
    ∙ ap (λ rs. min (index_along steps index rs) m) (sym (drop-cons rows i 0 low ∙ ap₂ (λ r n. r ∷ drop n rows) (sym is) (sym (add-one i))))

-- how many lists one more table leaves
pub count_step : (m : ℕ) (terms : List RowTerm) (tables : List ℕ) (i count next : ℕ) → i < length tables → next ≡ min (count * length (terms_of terms (get_or tables i 0))) m →
    min (next * length (term_lists terms (drop (i + 1) tables))) m ≡ min (count * length (term_lists terms (drop i tables))) m
count_step m terms tables i count next low is =
    let table : ℕ = get_or tables i 0 in
    let rest : ℕ = length (term_lists terms (drop (i + 1) tables)) in
    let whole : length (term_lists terms (drop i tables)) ≡ length (terms_of terms table) * rest =
    ap (λ ts. length (term_lists terms ts)) (drop-cons tables i 0 low ∙ ap (λ n. table ∷ drop n tables) (sym (add-one i))) ∙ lists_count terms table (drop (i + 1) tables) in
    let none : (n : ℕ) → n + 0 ≡ n = λ n. omega arith in
    ap (λ n. min (n * rest) m) is
    ∙ (ap (λ n. min n m) (sym (none (min (count * length (terms_of terms table)) m * rest)))
    ∙ (capped m (count * length (terms_of terms table)) rest 0
    ∙ (ap (λ n. min n m) (none (count * length (terms_of terms table) * rest))
    ∙ ap (λ n. min n m) (regroup count (length (terms_of terms table)) rest ∙ ap (λ n. count * n) (sym whole)))))
  where
    regroup : (a b c : ℕ) → a * b * c ≡ a * (b * c)
    regroup a b c = grind arith

module _ (terms : List RowTerm) (table n : ℕ) (t : RowTerm) (low : n < length terms) (is : t ≡ get_or terms n t) where
  same_test : t.table ≡ table → nat_eq t.table table ≡ true
  same_test same = grind (arith, nat_tests)

  other_test : (t.table ≡ table → ⊥) → nat_eq t.table table ≡ false
  other_test never = grind (arith, nat_tests)

  pub filter_added : t.table ≡ table → filter (is_of_table terms table) (below (n + 1)) ≡ filter (is_of_table terms table) (below n) ++ n ∷ []
  filter_added same = filter_step terms table n t low is ∙ ap (λ b. filter (is_of_table terms table) (below n) ++ (if b then n ∷ [] else [])) (same_test same)

  pub filter_same : (t.table ≡ table → ⊥) → filter (is_of_table terms table) (below (n + 1)) ≡ filter (is_of_table terms table) (below n)
  filter_same never =
      filter_step terms table n t low is
      ∙ (ap (λ b. filter (is_of_table terms table) (below n) ++ (if b then n ∷ [] else [])) (other_test never)
      ∙ append-nil (filter (is_of_table terms table) (below n)))

  pub steps_more : (so : List Step) (place size : ℕ) → so ≡ map (step_of terms) (below n) → place ≡ length (filter (is_of_table terms t.table) (below n)) → size ≡ length (terms_of terms t.table) →
      so ++ record { place = place; size = size } ∷ [] ≡ map (step_of terms) (below (n + 1))
  steps_more so place size so_far is_place is_size =
      let there : slice_get terms n ≡ Some t = slice_get_read terms (length terms) n t refl low is in
      let own : table_at terms n ≡ t.table = ap (λ o. option_map_or (λ (t : RowTerm). t.table) o 0) there in
      ap₂ (λ xs p. xs ++ record { place = p; size = size } ∷ []) so_far is_place
      ∙ (ap (λ s. map (step_of terms) (below n) ++ record { place = length (filter (is_of_table terms t.table) (below n)); size = s } ∷ []) is_size
      ∙ (ap (λ t. map (step_of terms) (below n) ++ record { place = length (filter (is_of_table terms t) (below n)); size = length (terms_of terms t) } ∷ []) (sym own)
      ∙ (sym (map-append (step_of terms) (below n) (n ∷ []))
      ∙ ap (λ m. map (step_of terms) (below m)) (sym (add-one n)))))

-- the lists of one more list
pub extended_more : (rows : List ℕ) (lists : List (List ℕ)) (i : ℕ) (list slice : List ℕ) (all : List (List ℕ)) → i < length lists → list ≡ get_or lists i list → slice ≡ list →
    all ≡ flat_map (with_last rows) (take i lists) → all ++ with_last rows slice ≡ flat_map (with_last rows) (take (i + 1) lists)
extended_more rows lists i list slice all low is same so_far =
    ap₂ (λ xs l. xs ++ with_last rows l) so_far same
    ∙ (ap (λ xs. flat_map (with_last rows) (take i lists) ++ xs) (sym (append-nil (with_last rows list)))
    ∙ (sym (flat_map-append (with_last rows) (take i lists) (list ∷ []))
    ∙ ap (flat_map (with_last rows)) (ap (λ l. take i lists ++ l ∷ []) is ∙ sym (take_more lists i list low))))

-- the lists of one more table
pub lists_more : (terms : List RowTerm) (tables : List ℕ) (i : ℕ) (rows slice : List ℕ) (lists items all : List (List ℕ)) → i < length tables → rows ≡ terms_of terms (get_or tables i 0) → slice ≡ rows →
    items ≡ lists → lists ≡ term_lists terms (take i tables) → all ≡ flat_map (λ list. map (λ row. list ++ row ∷ []) slice) items → all ≡ term_lists terms (take (i + 1) tables)
lists_more terms tables i rows slice lists items all low is same same' so_far made =
    made
    ∙ (ap₂ (λ rs ls. flat_map (with_last rs) ls) (same ∙ is) (same' ∙ so_far)
    ∙ (sym (lists_last terms (take i tables) (get_or tables i 0))
    ∙ ap (term_lists terms) (sym (take_more tables i 0 low))))

-- behind a row term that has a step, and behind one that has none
pub index_some : (m : ℕ) (own : List Step) (row index mul next : ℕ) (s : Step) → slice_get own row ≡ Some s → mul ≡ min (index * s.size) m → next ≡ min (mul + s.place) m →
    min next m ≡ min (option_map_or (λ (s : Step). index * s.size + s.place) (slice_get own row) 0) m
index_some m own row index mul next s there one two =
    joined (index * s.size) s.place mul next one two ∙ ap (λ o. min (option_map_or (λ (s : Step). index * s.size + s.place) o 0) m) (sym there)
  where
    joined : (a p mul next : ℕ) → mul ≡ min a m → next ≡ min (mul + p) m → min next m ≡ min (a + p) m
    joined a p mul next one two = omega arith

pub index_none : (m : ℕ) (own : List Step) (row index next : ℕ) → slice_get own row ≡ None → next ≡ 0 →
    min next m ≡ min (option_map_or (λ (s : Step). index * s.size + s.place) (slice_get own row) 0) m
index_none m own row index next none is = ap (λ n. min n m) is ∙ ap (λ o. min (option_map_or (λ (s : Step). index * s.size + s.place) o 0) m) (sym none)
