-- A sentence of quantifiers holds exactly where its body does at some leading rows.
use Rattle.std.proofs.Common.{◌≡◌, ◌∙◌, refl, sym, ap, ℕ, zero, suc, Bool, true, false, ◌||◌, List, [], ◌∷◌, ◌++◌, length, nat_lt, inl, inr, arith}
use Rattle.std.proofs.lemmas.Bool.{cases_lt}
use Rattle.std.proofs.lemmas.List.{append-nil, append_assoc}
use Rattle.std.proofs.lemmas.List.Folds.{list_any-append}
use Rattle.std.specs.List.{list_any}
use Rattle.lint_base.proofs.Lists.{any_map, or_true, both_left, both_right, below_true, true_below}
use Rattle.lint_core.specs.declared.database.Database.{Database}
use Rattle.lint_core.specs.Database.{Place, below, rows_of, places_of}
use Rattle.lint_core.specs.Points.{are_rows}
use Rattle.sort_formula.specs.declared.formula.Formula.{Formula}
use Rattle.sort_formula.specs.Holds.{holds}
use Rattle.sort_formula.specs.Translation.{exist_rows}
use Rattle.sort_formula.proofs.Holding.{holds_exists}
use Rattle.truth_laws.proofs.Fitting.{both_are}
use Rattle.truth_laws.proofs.Quantified.{place_in, places_in}

-- ---- some number below

abbrev SomeBelow : ℕ → (ℕ → Bool) → Type 0
SomeBelow n p = (k : ℕ) × (nat_lt k n ≡ true) × (p k ≡ true)

last_below : (n : ℕ) (p : ℕ → Bool) (b : Bool) → p n ≡ b → (b || false) ≡ true → SomeBelow (suc n) p
last_below n p true is known = (n, true_below n (suc n) (omega arith), is)
last_below n p false is known = cc

before_last : (n : ℕ) (p : ℕ → Bool) → (list_any p (below n) ≡ true → SomeBelow n p) → (b : Bool) → list_any p (below n) ≡ b → (b || (p n || false)) ≡ true → SomeBelow (suc n) p
before_last n p before true is known =
    let found = before is in
    let low = below_true found.0 n found.1 in
    (found.0, true_below found.0 (suc n) (omega (arith, low)), found.2)
before_last n p before false is known = last_below n p (p n) refl known

pub some_below : (n : ℕ) (p : ℕ → Bool) → list_any p (below n) ≡ true → (k : ℕ) × (nat_lt k n ≡ true) × (p k ≡ true)
some_below zero p some = cc
some_below (suc n) p some = before_last n p (some_below n p) (list_any p (below n)) refl (sym (list_any-append p (below n) (n ∷ [])) ∙ some)

or_left_true : (a b : Bool) → a ≡ true → (a || b) ≡ true
or_left_true a b is = ap (λ a. a || b) is

or_right_true : (a b : Bool) → b ≡ true → (a || b) ≡ true
or_right_true a b is = ap (λ b. a || b) is ∙ or_true a

pub one_below : (n : ℕ) (p : ℕ → Bool) (k : ℕ) → nat_lt k n ≡ true → p k ≡ true → list_any p (below n) ≡ true
one_below zero p k low is = absurd (omega (arith, below_true k zero low))
one_below (suc n) p k low is =
    let less = below_true k (suc n) low in
    list_any-append p (below n) (n ∷ [])
    ∙ elim (cases_lt k n) [
      | inl under ↦ or_left_true (list_any p (below n)) (p n || false) (one_below n p k (true_below k n under) is)
      | inr over ↦
          let same : n ≡ k = omega (arith, less, over) in
          or_right_true (list_any p (below n)) (p n || false) (or_left_true (p n) false (ap p same ∙ is))
    ]

-- ---- some row of a table

module _ (db : Database) where
  pub some_place : (table : ℕ) (p : Place → Bool) → list_any p (places_of db table) ≡ true → (row : ℕ) × (nat_lt row (length (rows_of db table)) ≡ true) × (p (place_in table row) ≡ true)
  some_place table p some =
      some_below (length (rows_of db table)) (λ row. p (place_in table row)) (sym (any_map (place_in table) p (below (length (rows_of db table)))) ∙ some)

  pub one_place : (table : ℕ) (p : Place → Bool) (row : ℕ) → nat_lt row (length (rows_of db table)) ≡ true → p (place_in table row) ≡ true → list_any p (places_of db table) ≡ true
  one_place table p row low is =
      any_map (place_in table) p (below (length (rows_of db table))) ∙ one_below (length (rows_of db table)) (λ row. p (place_in table row)) row low is

  module _ (body : Formula) where
    pub rows_from : (lead : List ℕ) (rows : List Place) → holds db (exist_rows lead body) rows ≡ true →
        (places : List ℕ) × (are_rows db lead places ≡ true) × (holds db body (rows ++ places_in lead places) ≡ true)
    rows_from [] rows holding = ([], refl, ap (holds db body) (append-nil rows) ∙ holding)
    rows_from (table ∷ lead) rows holding =
        let here = some_place table (λ place. holds db (exist_rows lead body) (rows ++ place ∷ [])) (sym (holds_exists db table (exist_rows lead body) rows) ∙ holding) in
        let rest = rows_from lead (rows ++ place_in table here.0 ∷ []) here.2 in (
          here.0 ∷ rest.0,
          both_are (nat_lt here.0 (length (rows_of db table))) (are_rows db lead rest.0) here.1 rest.1,
          ap (holds db body) (sym (append_assoc rows (place_in table here.0 ∷ []) (places_in lead rest.0))) ∙ rest.2,
        )

    pub rows_to : (lead : List ℕ) (rows : List Place) (places : List ℕ) → are_rows db lead places ≡ true → holds db body (rows ++ places_in lead places) ≡ true → holds db (exist_rows lead body) rows ≡ true
    rows_to [] rows [] are holding = sym (ap (holds db body) (append-nil rows)) ∙ holding
    rows_to [] rows (row ∷ places) are holding = cc
    rows_to (table ∷ lead) rows [] are holding = cc
    rows_to (table ∷ lead) rows (row ∷ places) are holding =
        let low = nat_lt row (length (rows_of db table)) in
        let more = are_rows db lead places in
        holds_exists db table (exist_rows lead body) rows
        ∙ one_place table (λ place. holds db (exist_rows lead body) (rows ++ place ∷ [])) row (both_left low more are)
        (rows_to lead (rows ++ place_in table row ∷ []) places (both_right low more are)
        (ap (holds db body) (append_assoc rows (place_in table row ∷ []) (places_in lead places)) ∙ holding))
