-- The scopes of two rows of a subquery, and what is said of these rows.
use Rattle.std.proofs.Common.{◌≡◌, ◌∙◌, refl, sym, ap, ap₂, ℕ, zero, suc, ◌+◌, ◌<◌, ◌^◌, List, [], ◌∷◌, ◌++◌, length, arith}
use Rattle.std.specs.Prelude.{None, slice_get}
use Rattle.lint_core.specs.declared.schema.Table.{Table}
use Rattle.lint_core.specs.declared.scope.Scope.{Scope}
use Rattle.lint_core.specs.Subqueries.{Subquery}
use Rattle.question_truths.specs.Room.{entries_in}
use Rattle.sort_formula.specs.declared.formula.Formula.{Formula}
use Rattle.sort_formula.specs.declared.formula.Formula.TheVariants as f
use Rattle.sort_formula.specs.Counters.{deeper, first_scope, last_level, outer_levels, second_scope, some_other, two_rows}
use Rattle.sort_formula.specs.Sides.{all_of, from_number, numbered_from}
use Rattle.sort_formula.specs.Translation.{is_true_formula}
use Rattle.counter_forms.proofs.Outside.{last_of}
use Rattle.error_reductions.specs.inner.Parts.{two_at}
use Rattle.error_reductions.specs.inner.Stands.{TwoStand}
use Rattle.error_reductions.proofs.Variables.{entries_are, entries_first}

-- a subquery that is asked of is there
pub is_there : {A : Type 0} (xs : List A) (i : ℕ) → i < length xs → None ≡ slice_get xs i → ⊥
is_there [] i within none = absurd (omega arith)
is_there (x ∷ xs) zero within none = cc
is_there (x ∷ xs) (suc i) within none = is_there xs i (omega arith) none

-- ---- the last level

pub outer_of : (levels : List (List ℕ)) (level : List ℕ) → outer_levels (levels ++ level ∷ []) ≡ levels
outer_of [] level = refl
outer_of (one ∷ []) level = refl
outer_of (one ∷ two ∷ levels) level = ap (λ rest. one ∷ rest) (outer_of (two ∷ levels) level)

pub outer_entries : (tables : List (List ℕ)) → entries_in (outer_levels tables) + length (last_level tables) ≡ entries_in tables
outer_entries [] = refl
outer_entries (level ∷ []) = omega (arith, entries_first level [])
outer_entries (level ∷ next ∷ levels) = omega (arith, outer_entries (next ∷ levels), entries_first level (outer_levels (next ∷ levels)), entries_first level (next ∷ levels))

last_numbered : (first : ℕ) (tables : List (List ℕ)) → last_level (numbered_from first tables) ≡ from_number (first + entries_in (outer_levels tables)) (length (last_level tables))
last_numbered first [] = refl
last_numbered first (level ∷ []) =
    let same : first ≡ first + entries_in [] = omega arith in
    ap (λ n. from_number n (length level)) same
last_numbered first (level ∷ next ∷ levels) =
    let same : first + length level + entries_in (outer_levels (next ∷ levels)) ≡ first + entries_in (level ∷ outer_levels (next ∷ levels)) =
    omega (arith, entries_first level (outer_levels (next ∷ levels)))
    in
    last_numbered (first + length level) (next ∷ levels) ∙ ap (λ n. from_number n (length (last_level (next ∷ levels)))) same

zero_first : (n : ℕ) → n ≡ 0 + n
zero_first n = omega arith

-- ---- the two scopes

abbrev pub first_at : List (List ℕ) → ℕ → Scope
first_at tables depth = record { levels = numbered_from 0 tables; tables = tables; depth = depth }

abbrev pub second_at : List (List ℕ) → ℕ → ℕ → Scope
second_at tables first n = record { levels = numbered_from 0 (outer_levels tables) ++ from_number first n ∷ []; tables = tables; depth = first + n }

module _ (schema : List Table) (sub : Subquery) (tables : List (List ℕ)) (seen : tables ≡ sub.tables) where
  pub alone_is : (scope : Scope) → scope ≡ first_at tables (entries_in tables + 0) → scope ≡ first_scope schema sub
  alone_is scope is =
      let same : entries_in sub.tables + 0 ≡ length (all_of sub.tables) = omega (arith, entries_are sub.tables) in
      is ∙ (ap (λ ts. first_at ts (entries_in ts + 0)) seen ∙ ap (first_at sub.tables) same)

  module _ (n : ℕ) (count : n ≡ length (last_level sub.tables)) where
    pub first_is : (scope : Scope) → scope ≡ first_at tables (entries_in tables + n) → scope ≡ deeper schema sub (first_scope schema sub)
    first_is scope is =
        is
        ∙ (ap (λ ts. first_at ts (entries_in ts + n)) seen
        ∙ ap (first_at sub.tables) (ap₂ (λ a b. a + b) (sym (entries_are sub.tables)) count))

    pub second_is : (scope : Scope) → scope ≡ second_at tables (entries_in tables) n → scope ≡ second_scope schema sub
    second_is scope is =
        is
        ∙ (ap (λ ts. second_at ts (entries_in ts) n) seen
        ∙ ap₂ (second_at sub.tables) (sym (entries_are sub.tables)) count)

    -- the rows that differ are those of the last levels
    differing : (first : ℕ) → first ≡ entries_in (outer_levels sub.tables) →
        some_other (from_number first n) (from_number (first + n) n) ≡ some_other (last_level (first_scope schema sub).levels) (last_level (second_scope schema sub).levels)
    differing first outside =
        let last = length (last_level sub.tables) in
        let own : from_number first n ≡ last_level (first_scope schema sub).levels =
        ap₂ from_number outside count ∙ (ap (λ k. from_number k last) (zero_first (entries_in (outer_levels sub.tables))) ∙ sym (last_numbered 0 sub.tables))
        in
        let behind : first + n ≡ length (all_of sub.tables) = omega (arith, outside, count, outer_entries sub.tables, entries_are sub.tables) in
        let other : from_number (first + n) n ≡ last_level (second_scope schema sub).levels =
        ap₂ from_number behind count ∙ sym (last_of (numbered_from 0 (outer_levels sub.tables)) (from_number (length (all_of sub.tables)) last))
        in
        ap₂ some_other own other

    pub body_is : (first : ℕ) (one two : Scope) → first ≡ entries_in (outer_levels sub.tables) → one ≡ deeper schema sub (first_scope schema sub) → two ≡ second_scope schema sub →
        two_at schema sub.cond one two first n ≡ (two_rows schema sub).body
    body_is first one two outside one_is two_is =
        ap₂ (λ (a b : Scope). two_at schema sub.cond a b first n) one_is two_is
        ∙ ap (λ (other : Formula). f.And (is_true_formula schema sub.cond (deeper schema sub (first_scope schema sub)) ∷ is_true_formula schema sub.cond (second_scope schema sub) ∷ other ∷ []))
        (differing first outside)

-- no more variables than there is room for
pub few_variables : (schema : List Table) (sub : Subquery) → TwoStand schema sub → entries_in sub.tables + length (last_level sub.tables) < 2 ^ 32
few_variables schema sub stands = omega (arith, stands.second.room, entries_are sub.tables)
