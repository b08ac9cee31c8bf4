-- The lists of one row for each of some tables: all of them, and each once.
use Rattle.std.proofs.Common.{◌≡◌, ◌∙◌, ◌⊎◌, inl, inr, refl, sym, subst, ℕ, zero, suc, true, List, [], ◌∷◌, length, map, arith}
use Rattle.std.proofs.lemmas.Bool.{and_parts, and_from}
use Rattle.std.proofs.lemmas.Bool.Decides.{nat_tests}
use Rattle.std.specs.Prelude.{nat_lt}
use Rattle.lint_base.proofs.Lists.{below_true}
use Rattle.lint_core.specs.declared.database.Database.{Database}
use Rattle.lint_core.specs.Database.{below, row_lists, rows_of}
use Rattle.lint_core.specs.Points.{are_rows}
use Rattle.lint_core.proofs.Lists.{below_last, below_wider}
use Rattle.meaning_laws.proofs.Members.{Stands, stands_below, stands_map, stands_flat_map}
use Rattle.answer_laws.proofs.Listed.{AllDiffer, stands_either, differ_append, map_stands, differ_map, flat_map_stands, differ_flat_map}

-- ---- the numbers below a number

none_below : (k : ℕ) → nat_lt k zero ≡ true → ⊥
none_below k low = grind (arith, nat_tests)

below_split : (k n : ℕ) → nat_lt k (suc n) ≡ true → (nat_lt k n ≡ true) ⊎ (n ≡ k)
below_split k n low = grind (arith, nat_tests)

not_itself : (n : ℕ) → nat_lt n n ≡ true → ⊥
not_itself n low = grind (arith, nat_tests)

below_stands : (n k : ℕ) → Stands k (below n) → nat_lt k n ≡ true
below_stands zero k here = absurd here
below_stands (suc n) k here =
    elim (stands_either k (below n) (n ∷ []) here) [
      | inl less ↦ below_wider k n (below_stands n k less)
      | inr (inl same) ↦ subst (λ k. nat_lt k (suc n) ≡ true) same (below_last n)
      | inr (inr never) ↦ absurd never
    ]

differ_below : (n : ℕ) → AllDiffer (below n)
differ_below zero = tt
differ_below (suc n) =
    differ_append (below n) (n ∷ []) (differ_below n) (λ y here. absurd here, tt)
    (λ x y one two same. elim two [
      | inl last ↦ not_itself n (subst (λ k. nat_lt k n ≡ true) (same ∙ sym last) (below_stands n x one))
      | inr never ↦ never
    ])

-- ---- the lists of rows

same_head : (a b : ℕ) (xs ys : List ℕ) → a ∷ xs ≡ b ∷ ys → a ≡ b
same_head a b xs ys same = cc

same_tail : (a b : ℕ) (xs ys : List ℕ) → a ∷ xs ≡ b ∷ ys → xs ≡ ys
same_tail a b xs ys same = cc

module _ (db : Database) where
  -- those with this row first
  abbrev first : List ℕ → ℕ → List (List ℕ)
  first own row = map (λ rows. row ∷ rows) (row_lists db own)

  pub lists_give : (own rows : List ℕ) → Stands rows (row_lists db own) → are_rows db own rows ≡ true
  lists_give [] rows (inl same) = subst (λ rows. are_rows db [] rows ≡ true) same refl
  lists_give [] rows (inr never) = absurd never
  lists_give (table ∷ own) rows here =
      let count = length (rows_of db table) in
      let found = flat_map_stands (first own) rows (below count) here in
      let more = map_stands (λ rows. found.0 ∷ rows) rows (row_lists db own) found.2 in
      subst (λ rows. are_rows db (table ∷ own) rows ≡ true) more.2
      (and_from (nat_lt found.0 count) (are_rows db own more.0) (below_stands count found.0 found.1) (lists_give own more.0 more.1))

  pub give_lists : (own rows : List ℕ) → are_rows db own rows ≡ true → Stands rows (row_lists db own)
  give_lists [] [] all = inl refl
  give_lists [] (row ∷ rows) all = cc
  give_lists (table ∷ own) [] all = cc
  give_lists (table ∷ own) (row ∷ rows) all =
      let count = length (rows_of db table) in
      let both = and_parts (nat_lt row count) (are_rows db own rows) all in
      stands_flat_map (first own) row (row ∷ rows) (below count) (stands_below count row (below_true row count both.0))
      (stands_map (λ rows. row ∷ rows) rows (row_lists db own) (give_lists own rows both.1))

  pub lists_differ : (own : List ℕ) → AllDiffer (row_lists db own)
  lists_differ [] = (λ y here. absurd here, tt)
  lists_differ (table ∷ own) =
      let lists = row_lists db own in
      differ_flat_map (first own) (below (length (rows_of db table))) (differ_below (length (rows_of db table)))
      (λ row. differ_map (λ rows. row ∷ rows) lists (lists_differ own) (λ a b one two apart same. apart (same_tail row row a b same)))
      (λ a b y z apart one two same.
      let here = map_stands (λ rows. a ∷ rows) y lists one in
      let there = map_stands (λ rows. b ∷ rows) z lists two in
      apart (same_head a b here.0 there.0 (here.2 ∙ (same ∙ sym there.2))))
