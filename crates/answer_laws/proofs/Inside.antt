-- Bindings of one more level inside.
use Rattle.std.proofs.Common.{◌≡◌, ◌≢◌, ◌∙◌, refl, sym, ap, ap₂, subst, ℕ, true, false, not, List, [], ◌∷◌, ◌++◌}
use Rattle.std.proofs.lemmas.Bool.{and_parts, and_from, false_from_ne_true}
use Rattle.std.proofs.lemmas.Cmp.{nat_list_eq_equiv}
use Rattle.std.specs.Cmp.Lexicographic.{same_text}
use Rattle.lint_core.specs.declared.database.Database.{Database}
use Rattle.lint_core.specs.Database.{row_lists}
use Rattle.lint_core.specs.Points.{are_rows, are_same_rows, differ_in_last_level, is_binding}
use Rattle.meaning_laws.proofs.Members.{Stands}
use Rattle.answer_laws.proofs.RowLists.{give_lists, lists_give}

never : false ≡ true → ⊥
never h = cc

pub one_level : (db : Database) (own : List ℕ) (levels : List (List ℕ)) → is_binding db (own ∷ []) levels ≡ true → (rows : List ℕ) × (levels ≡ rows ∷ []) × Stands rows (row_lists db own)
one_level db own [] all = cc
one_level db own (rows ∷ []) all = (rows, refl, give_lists db own rows (and_parts (are_rows db own rows) true all).0)
one_level db own (rows ∷ more ∷ levels) all = absurd (never (and_parts (are_rows db own rows) false all).1)

module _ (db : Database) (own : List ℕ) where
  pub bound_inside : (tables binding : List (List ℕ)) (rows : List ℕ) → is_binding db tables binding ≡ true → Stands rows (row_lists db own) →
      is_binding db (tables ++ own ∷ []) (binding ++ rows ∷ []) ≡ true
  bound_inside [] [] rows bound here = and_from (are_rows db own rows) true (lists_give db own rows here) refl
  bound_inside [] (level ∷ binding) rows bound here = cc
  bound_inside (table ∷ tables) [] rows bound here = cc
  bound_inside (table ∷ tables) (level ∷ binding) rows bound here =
      let both = and_parts (are_rows db table level) (is_binding db tables binding) bound in
      and_from (are_rows db table level) (is_binding db (tables ++ own ∷ []) (binding ++ rows ∷ [])) both.0 (bound_inside tables binding rows both.1 here)

  pub split : (tables levels : List (List ℕ)) → is_binding db (tables ++ own ∷ []) levels ≡ true →
      (binding : List (List ℕ)) × (rows : List ℕ) × (levels ≡ binding ++ rows ∷ []) × (is_binding db tables binding ≡ true) × Stands rows (row_lists db own)
  split [] levels bound = let level = one_level db own levels bound in ([], level.0, level.1, refl, level.2)
  split (table ∷ tables) [] bound = cc
  split (table ∷ tables) (level ∷ levels) bound =
      let both = and_parts (are_rows db table level) (is_binding db (tables ++ own ∷ []) levels) bound in
      let more = split tables levels both.1 in
      (level ∷ more.0, more.1, ap (λ ls. level ∷ ls) more.2, and_from (are_rows db table level) (is_binding db tables more.0) both.0 more.3, more.4)

-- ---- which differ in this level alone

rows_apart : (a b : List ℕ) → a ≢ b → not (are_same_rows a b) ≡ true
rows_apart a b apart = ap not (false_from_ne_true (are_same_rows a b) (λ same. apart (same_text a b (sym same))))

apart_rows : (a b : List ℕ) → not (are_same_rows a b) ≡ true → a ≢ b
apart_rows a b apart same =
    let itself : are_same_rows a b ≡ true = subst (λ c. are_same_rows a c ≡ true) same (nat_list_eq_equiv.refl a) in
    never (sym (ap not itself) ∙ apart)

pub differ_inside : (binding : List (List ℕ)) (a b : List ℕ) → a ≢ b → differ_in_last_level (binding ++ a ∷ []) (binding ++ b ∷ []) ≡ true
differ_inside [] a b apart = rows_apart a b apart
differ_inside (level ∷ []) a b apart =
    and_from (are_same_rows level level) (differ_in_last_level (a ∷ []) (b ∷ [])) (nat_list_eq_equiv.refl level) (differ_inside [] a b apart)
differ_inside (level ∷ next ∷ more) a b apart =
    and_from (are_same_rows level level) (differ_in_last_level (next ∷ (more ++ a ∷ [])) (next ∷ (more ++ b ∷ []))) (nat_list_eq_equiv.refl level) (differ_inside (next ∷ more) a b apart)

deeper : (level other : List ℕ) (binding : List (List ℕ)) (a : List ℕ) (others : List (List ℕ)) → differ_in_last_level (level ∷ (binding ++ a ∷ [])) (other ∷ others) ≡ true →
    (are_same_rows level other ≡ true) × (differ_in_last_level (binding ++ a ∷ []) others ≡ true)
deeper level other [] a others differ = and_parts (are_same_rows level other) (differ_in_last_level (a ∷ []) others) differ
deeper level other (next ∷ binding) a others differ = and_parts (are_same_rows level other) (differ_in_last_level (next ∷ (binding ++ a ∷ [])) others) differ

not_empty : (binding : List (List ℕ)) (a : List ℕ) → differ_in_last_level (binding ++ a ∷ []) [] ≡ true → ⊥
not_empty [] a differ = never differ
not_empty (level ∷ binding) a differ = never differ

pub inside_differ : (binding others : List (List ℕ)) (a b : List ℕ) → differ_in_last_level (binding ++ a ∷ []) (others ++ b ∷ []) ≡ true → (binding ≡ others) × (a ≢ b)
inside_differ [] [] a b differ = (refl, apart_rows a b differ)
inside_differ [] (other ∷ []) a b differ = absurd (never differ)
inside_differ [] (other ∷ next ∷ others) a b differ = absurd (never differ)
inside_differ (level ∷ binding) [] a b differ = absurd (not_empty binding a (deeper level b binding a [] differ).1)
inside_differ (level ∷ binding) (other ∷ others) a b differ =
    let parts = deeper level other binding a (others ++ b ∷ []) differ in
    let rest = inside_differ binding others a b parts.1 in
    (ap₂ (λ (l : List ℕ) (ls : List (List ℕ)). l ∷ ls) (same_text level other (sym parts.0)) rest.0, rest.1)
