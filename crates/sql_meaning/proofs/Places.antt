-- Points: lists of places, whole and in two parts.
use Rattle.std.proofs.Common.{◌≡◌, ◌∙◌, ap, refl, sym, add-one, ◌+◌, ℕ, zero, suc, Bool, true, false, ◌&&◌, List, [], ◌∷◌, ◌++◌, length, take, drop, remove, nat_eq, nat_lt, arith}
use Rattle.std.specs.Prelude.{not}
use Rattle.lint_core.specs.declared.database.Database.{Database}
use Rattle.lint_core.specs.Database.{rows_of}
use Rattle.lint_core.specs.Points.{are_rows, is_binding, are_same_rows, is_same_binding, differ_in_last_level}

and-assoc : (a b c : Bool) → a && (b && c) ≡ (a && b) && c
and-assoc true b c = refl
and-assoc false b c = refl

and-false : (a : Bool) → a && false ≡ false
and-false true = refl
and-false false = refl

-- lists that are not as long
pub not_rows : (db : Database) (tables rows : List ℕ) → (length tables ≡ length rows → ⊥) → false ≡ are_rows db tables rows
not_rows db [] [] unlike = absurd (unlike refl)
not_rows db [] (row ∷ rows) unlike = refl
not_rows db (table ∷ tables) [] unlike = refl
not_rows db (table ∷ tables) (row ∷ rows) unlike =
    elim (nat_lt row (length (rows_of db table))) as (λ b. false ≡ b && are_rows db tables rows) [
      | true ↦ not_rows db tables rows (λ same. unlike (ap suc same))
      | false ↦ refl
    ]

pub not_binding : (db : Database) (tables levels : List (List ℕ)) → (length tables ≡ length levels → ⊥) → false ≡ is_binding db tables levels
not_binding db [] [] unlike = absurd (unlike refl)
not_binding db [] (rows ∷ levels) unlike = refl
not_binding db (tables ∷ more) [] unlike = refl
not_binding db (tables ∷ more) (rows ∷ levels) unlike =
    elim (are_rows db tables rows) as (λ b. false ≡ b && is_binding db more levels) [
      | true ↦ not_binding db more levels (λ same. unlike (ap suc same))
      | false ↦ refl
    ]

pub not_same : (binding other : List (List ℕ)) → (length binding ≡ length other → ⊥) → false ≡ is_same_binding binding other
not_same [] [] unlike = absurd (unlike refl)
not_same [] (rows ∷ other) unlike = refl
not_same (rows ∷ binding) [] unlike = refl
not_same (rows ∷ binding) (others ∷ other) unlike =
    elim (are_same_rows rows others) as (λ b. false ≡ b && is_same_binding binding other) [
      | true ↦ not_same binding other (λ same. unlike (ap suc same))
      | false ↦ refl
    ]

-- but for one place
same_parts : (e : ℕ) (xs ys : List ℕ) →
    are_same_rows (remove xs e) (remove ys e) ≡ are_same_rows (take e xs) (take e ys) && are_same_rows (drop (suc e) xs) (drop (suc e) ys)
same_parts zero [] [] = refl
same_parts zero [] (y ∷ ys) = refl
same_parts zero (x ∷ xs) [] = refl
same_parts zero (x ∷ xs) (y ∷ ys) = refl
same_parts (suc e) [] [] = refl
same_parts (suc e) [] (y ∷ ys) = refl
same_parts (suc e) (x ∷ xs) [] = refl
same_parts (suc e) (x ∷ xs) (y ∷ ys) =
    ap (λ b. nat_eq x y && b) (same_parts e xs ys)
    ∙ and-assoc (nat_eq x y) (are_same_rows (take e xs) (take e ys)) (are_same_rows (drop (suc e) xs) (drop (suc e) ys))

pub same_without : (e : ℕ) (xs ys : List ℕ) →
    are_same_rows (remove xs e) (remove ys e) ≡ are_same_rows (take e xs) (take e ys) && are_same_rows (drop (e + 1) xs) (drop (e + 1) ys)
same_without e xs ys = same_parts e xs ys ∙ ap (λ k. are_same_rows (take e xs) (take e ys) && are_same_rows (drop k xs) (drop k ys)) (sym (add-one e))

rows_parts : (db : Database) (e : ℕ) (tables rows : List ℕ) →
    are_rows db (remove tables e) rows ≡ are_rows db (take e tables) (take e rows) && are_rows db (drop (suc e) tables) (drop e rows)
rows_parts db zero [] [] = refl
rows_parts db zero [] (row ∷ rows) = refl
rows_parts db zero (table ∷ tables) [] = refl
rows_parts db zero (table ∷ tables) (row ∷ rows) = refl
rows_parts db (suc e) [] [] = refl
rows_parts db (suc e) [] (row ∷ rows) = refl
rows_parts db (suc e) (table ∷ tables) [] = refl
rows_parts db (suc e) (table ∷ tables) (row ∷ rows) =
    ap (λ b. nat_lt row (length (rows_of db table)) && b) (rows_parts db e tables rows)
    ∙ and-assoc (nat_lt row (length (rows_of db table))) (are_rows db (take e tables) (take e rows)) (are_rows db (drop (suc e) tables) (drop e rows))

pub rows_without : (db : Database) (e : ℕ) (tables rows : List ℕ) →
    are_rows db (remove tables e) rows ≡ are_rows db (take e tables) (take e rows) && are_rows db (drop (e + 1) tables) (drop e rows)
rows_without db e tables rows = rows_parts db e tables rows ∙ ap (λ k. are_rows db (take e tables) (take e rows) && are_rows db (drop k tables) (drop e rows)) (sym (add-one e))

-- the last level beside those before it
differ_none : (ys : List (List ℕ)) → differ_in_last_level ys [] ≡ false
differ_none [] = refl
differ_none (y ∷ ys) = refl

differ_beyond : (rows other : List ℕ) (others : List (List ℕ)) (last : List ℕ) → differ_in_last_level (rows ∷ []) (other ∷ (others ++ last ∷ [])) ≡ false
differ_beyond rows other [] last = refl
differ_beyond rows other (o ∷ os) last = refl

differ_cons : (x y : List ℕ) (xs ys : List (List ℕ)) (last : List ℕ) →
    differ_in_last_level (x ∷ (xs ++ last ∷ [])) (y ∷ ys) ≡ are_same_rows x y && differ_in_last_level (xs ++ last ∷ []) ys
differ_cons x y [] ys last = refl
differ_cons x y (x' ∷ xs) ys last = refl

pub differ_last : (outer : List (List ℕ)) (rows : List ℕ) (other_outer : List (List ℕ)) (others : List ℕ) →
    differ_in_last_level (outer ++ rows ∷ []) (other_outer ++ others ∷ []) ≡ is_same_binding outer other_outer && not (are_same_rows rows others)
differ_last [] rows [] others = refl
differ_last [] rows (y ∷ ys) others = differ_beyond rows y ys others
differ_last (x ∷ xs) rows [] others =
    differ_cons x others xs [] rows ∙ (ap (λ b. are_same_rows x others && b) (differ_none (xs ++ rows ∷ [])) ∙ and-false (are_same_rows x others))
differ_last (x ∷ xs) rows (y ∷ ys) others =
    differ_cons x y xs (ys ++ others ∷ []) rows
    ∙ (ap (λ b. are_same_rows x y && b) (differ_last xs rows ys others)
    ∙ and-assoc (are_same_rows x y) (is_same_binding xs ys) (not (are_same_rows rows others)))

pub differ_first : (binding other : List (List ℕ)) → length binding ≡ 0 → false ≡ differ_in_last_level binding other
differ_first [] other none = refl
differ_first (rows ∷ binding) other none = absurd (omega arith)

pub differ_second : (binding other : List (List ℕ)) → length other ≡ 0 → false ≡ differ_in_last_level binding other
differ_second binding [] none = sym (differ_none binding)
differ_second binding (rows ∷ other) none = absurd (omega arith)

-- what is made of two parts, where the first part is known
pub not_first : (whole a b first : Bool) → whole ≡ a && b → first ≡ a → first ≡ false → false ≡ whole
not_first whole a b first is known fails = sym (is ∙ ap (λ c. c && b) (sym known ∙ fails))

pub as_second : (whole a b first second : Bool) → whole ≡ a && b → first ≡ a → first ≡ true → second ≡ b → second ≡ whole
as_second whole a b first second is known holds later = later ∙ sym (is ∙ ap (λ c. c && b) (sym known ∙ holds))

pub differ_ends : (binding other outer other_outer : List (List ℕ)) (rows others : List ℕ) → binding ≡ outer ++ rows ∷ [] → other ≡ other_outer ++ others ∷ [] →
    differ_in_last_level binding other ≡ is_same_binding outer other_outer && not (are_same_rows rows others)
differ_ends binding other outer other_outer rows others is other_is = rw (is, other_is) (differ_last outer rows other_outer others)
