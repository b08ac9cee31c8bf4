-- The lists of one row for each table: each has rows that are there, and no two are the same.
use Rattle.std.proofs.Common.{◌≡◌, ◌∙◌, ap, refl, ℕ, zero, suc, ◌<◌, Bool, true, false, ◌&&◌, not, nat_eq, nat_lt, List, [], ◌∷◌, ◌++◌, length, map, arith}
use Rattle.std.proofs.lemmas.Bool.{and_parts, and_from}
use Rattle.std.proofs.lemmas.Bool.Decides.{nat_tests}
use Rattle.std.proofs.lemmas.Cmp.{nat_list_eq_equiv}
use Rattle.std.specs.List.{flat_map, AllByRecursion}
use Rattle.lint_base.proofs.Lists.{every_append, every_then, true_below}
use Rattle.lint_core.specs.declared.database.Database.{Database}
use Rattle.lint_core.specs.Database.{below, rows_of, row_lists}
use Rattle.lint_core.specs.Points.{are_rows, is_binding, are_same_rows, differ_in_last_level}
use Rattle.question_truths.proofs.Every.{every_map}

same_itself : (rows : List ℕ) → are_same_rows rows rows ≡ true
same_itself rows = nat_list_eq_equiv.refl rows

eq_itself : (n : ℕ) → nat_eq n n ≡ true
eq_itself n = grind (arith, nat_tests)

-- ---- the numbers below a number

abbrev pub IsBelow : ℕ → ℕ → Type 0
IsBelow n row = row < n

pub each_below : (n : ℕ) → AllByRecursion (IsBelow n) (below n)
each_below zero = tt
each_below (suc n) =
    every_append (IsBelow (suc n)) (below n) (n ∷ []) (every_then (IsBelow n) (IsBelow (suc n)) (λ row low. omega (arith, low)) (below n) (each_below n)) (omega arith, tt)

-- no two of them are equal
abbrev pub Apart : {A : Type 0} → (A → A → Bool) → List A → Type 0
Apart e [] = Unit {0}
Apart e (x ∷ xs) = AllByRecursion (λ y. e x y ≡ false) xs × Apart e xs

apart_append : {A : Type 0} (e : A → A → Bool) (xs ys : List A) → Apart e xs → Apart e ys → AllByRecursion (λ x. AllByRecursion (λ y. e x y ≡ false) ys) xs → Apart e (xs ++ ys)
apart_append e [] ys first second between = second
apart_append e (x ∷ xs) ys first second between =
    (every_append (λ y. e x y ≡ false) xs ys first.0 between.0, apart_append e xs ys first.1 second between.1)

below_apart : (n : ℕ) → Apart nat_eq (below n)
below_apart zero = tt
below_apart (suc n) =
    apart_append nat_eq (below n) (n ∷ []) (below_apart n) (tt, tt)
    (every_then (IsBelow n) (λ x. AllByRecursion (λ y. nat_eq x y ≡ false) (n ∷ [])) (λ row low. (grind (arith, nat_tests), tt)) (below n) (each_below n))

-- ---- one row before lists of the others

module _ (rests : List (List ℕ)) where
  abbrev with_first : ℕ → List (List ℕ)
  with_first row = map (λ rows. row ∷ rows) rests

  differs_first : (row other : ℕ) (rows : List ℕ) → nat_eq row other ≡ false → (lists : List (List ℕ)) →
      AllByRecursion (λ others. are_same_rows (row ∷ rows) others ≡ false) (map (λ others. other ∷ others) lists)
  differs_first row other rows differ [] = tt
  differs_first row other rows differ (others ∷ lists) = (ap (λ b. b && are_same_rows rows others) differ, differs_first row other rows differ lists)

  -- those that begin with another row differ
  apart_from : (row : ℕ) (rows firsts : List ℕ) → AllByRecursion (λ other. nat_eq row other ≡ false) firsts →
      AllByRecursion (λ others. are_same_rows (row ∷ rows) others ≡ false) (flat_map with_first firsts)
  apart_from row rows [] differ = tt
  apart_from row rows (other ∷ firsts) differ =
      every_append (λ others. are_same_rows (row ∷ rows) others ≡ false) (with_first other) (flat_map with_first firsts)
      (differs_first row other rows differ.0 rests) (apart_from row rows firsts differ.1)

  each_apart : (row : ℕ) (firsts : List ℕ) → AllByRecursion (λ other. nat_eq row other ≡ false) firsts → (lists : List (List ℕ)) →
      AllByRecursion (λ rows. AllByRecursion (λ others. are_same_rows rows others ≡ false) (flat_map with_first firsts)) (map (λ rows. row ∷ rows) lists)
  each_apart row firsts differ [] = tt
  each_apart row firsts differ (rows ∷ lists) = (apart_from row rows firsts differ, each_apart row firsts differ lists)

  -- behind one row they differ as they did
  after_one : (row : ℕ) (lists : List (List ℕ)) → Apart are_same_rows lists → Apart are_same_rows (map (λ rows. row ∷ rows) lists)
  after_one row [] apart = tt
  after_one row (rows ∷ lists) apart = (
    every_map (λ others. are_same_rows (row ∷ rows) others ≡ false) (λ others. are_same_rows rows others ≡ false) (λ others. row ∷ others)
        (λ others differ. ap (λ b. b && are_same_rows rows others) (eq_itself row) ∙ differ) lists apart.0,
    after_one row lists apart.1,
  )

  firsts_apart : Apart are_same_rows rests → (firsts : List ℕ) → Apart nat_eq firsts → Apart are_same_rows (flat_map with_first firsts)
  firsts_apart rests_apart [] apart = tt
  firsts_apart rests_apart (row ∷ firsts) apart =
      apart_append are_same_rows (with_first row) (flat_map with_first firsts)
      (after_one row rests rests_apart) (firsts_apart rests_apart firsts apart.1) (each_apart row firsts apart.0 rests)

-- ---- lists of rows

module _ (db : Database) where
  abbrev AreThere : List ℕ → List ℕ → Type 0
  AreThere own rows = are_rows db own rows ≡ true

  firsts_there : (table : ℕ) (own : List ℕ) → AllByRecursion (AreThere own) (row_lists db own) → (firsts : List ℕ) → AllByRecursion (IsBelow (length (rows_of db table))) firsts →
      AllByRecursion (AreThere (table ∷ own)) (flat_map (with_first (row_lists db own)) firsts)
  firsts_there table own there [] low = tt
  firsts_there table own there (row ∷ firsts) low =
      let count = length (rows_of db table) in
      every_append (AreThere (table ∷ own)) (with_first (row_lists db own) row) (flat_map (with_first (row_lists db own)) firsts)
      (every_map (AreThere (table ∷ own)) (AreThere own) (λ rows. row ∷ rows) (λ rows known. and_from (nat_lt row count) (are_rows db own rows) (true_below row count low.0) known) (row_lists db own) there)
      (firsts_there table own there firsts low.1)

  pub rows_are_there : (own : List ℕ) → AllByRecursion (λ rows. are_rows db own rows ≡ true) (row_lists db own)
  rows_are_there [] = (refl, tt)
  rows_are_there (table ∷ own) = firsts_there table own (rows_are_there own) (below (length (rows_of db table))) (each_below (length (rows_of db table)))

  pub no_two_are_same : (own : List ℕ) → Apart are_same_rows (row_lists db own)
  no_two_are_same [] = (tt, tt)
  no_two_are_same (table ∷ own) = firsts_apart (row_lists db own) (no_two_are_same own) (below (length (rows_of db table))) (below_apart (length (rows_of db table)))

  -- ---- one more level

  pub binding_inside : (tables binding : List (List ℕ)) (own rows : List ℕ) → is_binding db tables binding ≡ true → are_rows db own rows ≡ true →
      is_binding db (tables ++ own ∷ []) (binding ++ rows ∷ []) ≡ true
  binding_inside [] [] own rows outside there = and_from (are_rows db own rows) true there refl
  binding_inside [] (level ∷ binding) own rows outside there = cc
  binding_inside (entries ∷ tables) [] own rows outside there = cc
  binding_inside (entries ∷ tables) (level ∷ binding) own rows outside there =
      let parts = and_parts (are_rows db entries level) (is_binding db tables binding) outside in
      and_from (are_rows db entries level) (is_binding db (tables ++ own ∷ []) (binding ++ rows ∷ [])) parts.0 (binding_inside tables binding own rows parts.1 there)

pub differ_inside : (binding : List (List ℕ)) (rows others : List ℕ) → are_same_rows rows others ≡ false → differ_in_last_level (binding ++ rows ∷ []) (binding ++ others ∷ []) ≡ true
differ_inside [] rows others differ = ap not differ
differ_inside (level ∷ []) rows others differ = and_from (are_same_rows level level) (not (are_same_rows rows others)) (same_itself level) (ap not differ)
differ_inside (level ∷ next ∷ binding) rows others differ =
    and_from (are_same_rows level level) (differ_in_last_level (next ∷ binding ++ rows ∷ []) (next ∷ binding ++ others ∷ [])) (same_itself level) (differ_inside (next ∷ binding) rows others differ)
