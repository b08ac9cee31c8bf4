-- The leading rows, and what stands among them.
use Rattle.std.proofs.Common.{◌≡◌, ◌∙◌, refl, sym, ap, ℕ, zero, suc, Bool, true, false, List, [], ◌∷◌, length, arith}
use Rattle.std.proofs.lemmas.List.{append-nil}
use Rattle.std.proofs.lemmas.Option.{same_Some}
use Rattle.std.specs.Option.{option_map_or}
use Rattle.std.specs.Prelude.{Option, Some, None, slice_get, unwrap_or}
use Rattle.lint_core.specs.declared.condition.Entry.{Entry}
use Rattle.lint_core.specs.declared.database.Database.{Database}
use Rattle.lint_core.specs.Fits.{tables_of}
use Rattle.lint_core.specs.Points.{are_rows}
use Rattle.sort_formula.specs.CounterPoints.{in_levels}
use Rattle.sort_formula.specs.Loose.{rows_at}
use Rattle.sort_formula.specs.Rows.{tables_of_rows}
use Rattle.sort_formula.specs.Sides.{all_of}
use Rattle.formula_laws.proofs.InLevels.{flattened}
use Rattle.formula_laws.proofs.LeadRows.{as_many}
use Rattle.truth_laws.proofs.Quantified.{place_in, places_in}
use Rattle.counter_laws.specs.LeadingRows.{leading_rows}

pub leading_is : (lead places : List ℕ) → leading_rows lead places ≡ places_in lead places
leading_is [] places = refl
leading_is (table ∷ lead) [] = refl
leading_is (table ∷ lead) (row ∷ places) = ap (λ rows. place_in table row ∷ rows) (leading_is lead places)

-- the row of a table of the lead
pub lead_at : (lead places : List ℕ) → length places ≡ length lead → (i table : ℕ) → slice_get lead i ≡ Some table →
    slice_get (leading_rows lead places) i ≡ Some (place_in table (unwrap_or (slice_get places i) 0))
lead_at [] places same i table at = cc
lead_at (t ∷ lead) [] same i table at = absurd (omega (arith, same))
lead_at (t ∷ lead) (row ∷ places) same zero table at = ap (λ t. Some (place_in t row)) (same_Some t table at)
lead_at (t ∷ lead) (row ∷ places) same (suc i) table at = lead_at lead places (omega (arith, same)) i table at

pub lead_tables : (lead places : List ℕ) → length places ≡ length lead → tables_of_rows (leading_rows lead places) ≡ lead
lead_tables [] places same = refl
lead_tables (t ∷ lead) [] same = absurd (omega (arith, same))
lead_tables (t ∷ lead) (row ∷ places) same = ap (λ ts. t ∷ ts) (lead_tables lead places (omega (arith, same)))

-- the table of an entry
pub table_at : (entries : List Entry) (i : ℕ) (entry : Entry) → slice_get entries i ≡ Some entry → slice_get (tables_of entries) i ≡ Some entry.table
table_at [] i entry at = cc
table_at (e ∷ entries) zero entry at = ap (λ (e : Entry). Some e.table) (same_Some e entry at)
table_at (e ∷ entries) (suc i) entry at = table_at entries i entry at

-- two that are there, of which the test says yes
pub two_there : {A : Type 0} (test : A → A → Bool) (one other : Option A) → option_map_or (λ x. option_map_or (test x) other false) one false ≡ true →
    (x : A) × (y : A) × (one ≡ Some x) × (other ≡ Some y) × (test x y ≡ true)
two_there test None other is = cc
two_there test (Some x) None is = cc
two_there test (Some x) (Some y) is = (x, y, refl, refl, is)

pub one_there : {A : Type 0} (test : A → Bool) (one : Option A) → option_map_or test one false ≡ true → (x : A) × (one ≡ Some x) × (test x ≡ true)
one_there test None is = cc
one_there test (Some x) is = (x, refl, is)

module _ (db : Database) where
  -- the rows of the points of these levels are the leading rows
  pub level_rows : (tables : List (List ℕ)) (places : List ℕ) → length places ≡ length (all_of tables) → rows_at tables (in_levels tables places) ≡ leading_rows (all_of tables) places
  level_rows tables places same = ap (leading_rows (all_of tables)) (flattened tables places same)

  pub one_level_rows : (own places : List ℕ) → are_rows db own places ≡ true → rows_at (own ∷ []) (in_levels (own ∷ []) places) ≡ leading_rows own places
  one_level_rows own places are =
      level_rows (own ∷ []) places (as_many db own places are ∙ sym (ap length (append-nil own))) ∙ ap (λ lead. leading_rows lead places) (append-nil own)
