-- The quantifiers of a list of tables: the last table's is the innermost.
use Rattle.std.proofs.Common.{◌≡◌, refl, ap, ℕ, List, [], ◌∷◌, ◌++◌}
use Rattle.sort_formula.specs.declared.formula.Formula.{Formula}
use Rattle.sort_formula.specs.declared.formula.Formula.TheVariants as f
use Rattle.sort_formula.specs.Translation.{exist_rows, for_all_rows}

pub exist_last : (tables : List ℕ) (table : ℕ) (body : Formula) → exist_rows (tables ++ table ∷ []) body ≡ exist_rows tables (f.Exists table body)
exist_last [] table body = refl
exist_last (t ∷ tables) table body = ap (f.Exists t) (exist_last tables table body)

pub for_all_last : (tables : List ℕ) (table : ℕ) (body : Formula) → for_all_rows (tables ++ table ∷ []) body ≡ for_all_rows tables (f.Forall table body)
for_all_last [] table body = refl
for_all_last (t ∷ tables) table body = ap (f.Forall t) (for_all_last tables table body)
