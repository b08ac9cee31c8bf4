-- One quantifier for each table of a list: over all lists of one row for each of them.
use Rattle.std.proofs.Common.{◌≡◌, ◌∙◌, ap, sym, refl, ℕ, Bool, true, false, ◌&&◌, ◌||◌, List, [], ◌∷◌, ◌++◌, map, length}
use Rattle.std.proofs.lemmas.List.{append-nil, append_assoc}
use Rattle.std.proofs.lemmas.List.Folds.{list_all-map, list_any-append, list_all-append}
use Rattle.std.specs.List.{list_any, list_all, flat_map}
use Rattle.lint_core.specs.declared.database.Database.{Database}
use Rattle.lint_core.specs.Database.{Place, below, rows_of, row_lists}
use Rattle.sort_formula.specs.declared.formula.Formula.{Formula}
use Rattle.sort_formula.specs.Holds.{holds}
use Rattle.sort_formula.specs.Translation.{exist_rows, for_all_rows}
use Rattle.sort_formula.proofs.Holding.{holds_exists, holds_forall}
use Rattle.lint_base.proofs.Lists.{any_map, any_alike, all_alike, and_true, or_false}

any_flat : {A B : Type 0} (f : A → List B) (p : B → Bool) (xs : List A) → list_any p (flat_map f xs) ≡ list_any (λ x. list_any p (f x)) xs
any_flat f p [] = refl
any_flat f p (x ∷ xs) = list_any-append p (f x) (flat_map f xs) ∙ ap (λ b. list_any p (f x) || b) (any_flat f p xs)

all_flat : {A B : Type 0} (f : A → List B) (p : B → Bool) (xs : List A) → list_all p (flat_map f xs) ≡ list_all (λ x. list_all p (f x)) xs
all_flat f p [] = refl
all_flat f p (x ∷ xs) = list_all-append p (f x) (flat_map f xs) ∙ ap (λ b. list_all p (f x) && b) (all_flat f p xs)

abbrev pub place_in : ℕ → ℕ → Place
place_in table row = record { table = table; row = row }

-- the place of each row, in the table that stands at its place
abbrev pub places_in : List ℕ → List ℕ → List Place
places_in [] rows = []
places_in (table ∷ own) [] = []
places_in (table ∷ own) (row ∷ rows) = place_in table row ∷ places_in own rows

module _ (db : Database) (body : Formula) where
  -- the body at the rows of an inner binding
  abbrev pub holds_at : List Place → List ℕ → List ℕ → Bool
  holds_at rows own inner = holds db body (rows ++ places_in own inner)

  one_more : (rows : List Place) (table row : ℕ) (own inner : List ℕ) →
      holds_at (rows ++ place_in table row ∷ []) own inner ≡ holds_at rows (table ∷ own) (row ∷ inner)
  one_more rows table row own inner = ap (holds db body) (append_assoc rows (place_in table row ∷ []) (places_in own inner))

  pub exist_is : (own : List ℕ) (rows : List Place) → holds db (exist_rows own body) rows ≡ list_any (holds_at rows own) (row_lists db own)
  exist_is [] rows = sym (or_false (holds db body (rows ++ [])) ∙ ap (holds db body) (append-nil rows))
  exist_is (table ∷ own) rows =
      let lists = row_lists db own in
      let numbers = below (length (rows_of db table)) in
      holds_exists db table (exist_rows own body) rows
      ∙ (any_map (place_in table) (λ place. holds db (exist_rows own body) (rows ++ place ∷ [])) numbers
      ∙ (any_alike (λ row. list_any (holds_at rows (table ∷ own)) (map (λ inner. row ∷ inner) lists)) (λ row. holds db (exist_rows own body) (rows ++ place_in table row ∷ []))
      (λ row.
      exist_is own (rows ++ place_in table row ∷ [])
      ∙ (any_alike (λ inner. holds_at rows (table ∷ own) (row ∷ inner)) (holds_at (rows ++ place_in table row ∷ []) own) (one_more rows table row own) lists
      ∙ sym (any_map (λ inner. row ∷ inner) (holds_at rows (table ∷ own)) lists)))
      numbers
      ∙ sym (any_flat (λ row. map (λ inner. row ∷ inner) lists) (holds_at rows (table ∷ own)) numbers)))

  pub for_all_is : (own : List ℕ) (rows : List Place) → holds db (for_all_rows own body) rows ≡ list_all (holds_at rows own) (row_lists db own)
  for_all_is [] rows = sym (and_true (holds db body (rows ++ [])) ∙ ap (holds db body) (append-nil rows))
  for_all_is (table ∷ own) rows =
      let lists = row_lists db own in
      let numbers = below (length (rows_of db table)) in
      holds_forall db table (for_all_rows own body) rows
      ∙ (list_all-map (λ place. holds db (for_all_rows own body) (rows ++ place ∷ [])) (place_in table) numbers
      ∙ (all_alike (λ row. list_all (holds_at rows (table ∷ own)) (map (λ inner. row ∷ inner) lists)) (λ row. holds db (for_all_rows own body) (rows ++ place_in table row ∷ []))
      (λ row.
      for_all_is own (rows ++ place_in table row ∷ [])
      ∙ (all_alike (λ inner. holds_at rows (table ∷ own) (row ∷ inner)) (holds_at (rows ++ place_in table row ∷ []) own) (one_more rows table row own) lists
      ∙ sym (list_all-map (holds_at rows (table ∷ own)) (λ inner. row ∷ inner) lists)))
      numbers
      ∙ sym (all_flat (λ row. map (λ inner. row ∷ inner) lists) (holds_at rows (table ∷ own)) numbers)))
