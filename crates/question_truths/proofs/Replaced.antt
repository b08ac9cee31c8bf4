-- The scalar subqueries of a condition with a predicate replaced are among those of the condition, where what stands
-- there now has none.
use Rattle.std.proofs.Common.{◌≡◌, sym, subst, ℕ, zero, suc, ◌-◌, true, false, List, [], ◌∷◌, ◌++◌, length, nat_lt, if◌then◌else◌}
use Rattle.std.specs.List.{AllByRecursion, flat_map}
use Rattle.lint_base.proofs.Lists.{every_append, every_parts}
use Rattle.lint_core.specs.declared.condition.Block.{out-Block}
use Rattle.lint_core.specs.declared.condition.Cond.{Cond}
use Rattle.lint_core.specs.declared.condition.Cond.TheVariants as c
use Rattle.lint_core.specs.Fits.{tables_of}
use Rattle.lint_core.specs.Predicates.{predicates, with_replaced, first_or}
use Rattle.lint_core.specs.Subqueries.{Subquery, scalar_subqueries}
use Rattle.lint_core.proofs.Parted.{scalars_and, scalars_or, scalars_not, scalars_exists, scalars_in, replaced_among, block_replaced, replaced_true, replaced_false, replaced_and, replaced_or, replaced_not, replaced_compare, replaced_is_null, replaced_exists, replaced_in_subquery, replaced_scalar}
use Rattle.question_truths.proofs.ByParts.{by_parts}

module _ (Passes : Subquery → Type 0) (by : Cond) (none : (tables : List (List ℕ)) → scalar_subqueries by tables ≡ []) where
  abbrev AllPass : List (List ℕ) → Cond → Type 0
  AllPass tables cond = AllByRecursion Passes (scalar_subqueries cond tables)

  abbrev StillPass : Cond → Type 0
  StillPass cond = (tables : List (List ℕ)) → AllPass tables cond → (n : ℕ) → AllPass tables (with_replaced by n cond)

  by_passes : (tables : List (List ℕ)) → AllPass tables by
  by_passes tables = subst (AllByRecursion Passes) (sym (none tables)) tt

  -- the predicate itself is replaced, or one inside it
  first_passes : (tables : List (List ℕ)) (inside : ℕ → Cond) → ((n : ℕ) → AllPass tables (inside n)) → (n : ℕ) → AllPass tables (first_or by inside n)
  first_passes tables inside pass zero = by_passes tables
  first_passes tables inside pass (suc n) = pass n

  module _ (tables : List (List ℕ)) where
    abbrev of_parts : List Cond → List Subquery
    of_parts parts = flat_map (λ part. scalar_subqueries part tables) parts

    abbrev PartsPass : List Cond → Type 0
    PartsPass parts = AllByRecursion Passes (of_parts parts)

    parts_pass : (parts : List Cond) → AllByRecursion StillPass parts → PartsPass parts → (n : ℕ) → PartsPass (replaced_among by parts n)
    parts_pass [] each all n = tt
    parts_pass (part ∷ parts) each all n =
        let here = (every_parts Passes (scalar_subqueries part tables) (of_parts parts) all).0 in
        let later = (every_parts Passes (scalar_subqueries part tables) (of_parts parts) all).1 in
        elim (nat_lt n (length (predicates part))) as (λ b. PartsPass (if b then with_replaced by n part ∷ parts else part ∷ replaced_among by parts (n - length (predicates part)))) [
          | true ↦ every_append Passes (scalar_subqueries (with_replaced by n part) tables) (of_parts parts) (each.0 tables here n) later
          | false ↦ every_append Passes (scalar_subqueries part tables) (of_parts (replaced_among by parts (n - length (predicates part)))) here (parts_pass parts each.1 later (n - length (predicates part)))
        ]

  pub still_pass : (cond : Cond) → StillPass cond
  still_pass = by_parts StillPass (record {
    when_true = λ tables all n. subst (AllPass tables) (sym (replaced_true by n)) all;
    when_false = λ tables all n. subst (AllPass tables) (sym (replaced_false by n)) all;
    when_and = λ parts each tables all n.
        subst (AllPass tables) (sym (replaced_and by n parts))
        (subst (AllByRecursion Passes) (sym (scalars_and tables (replaced_among by parts n))) (parts_pass tables parts each (subst (AllByRecursion Passes) (scalars_and tables parts) all) n));
    when_or = λ parts each tables all n.
        subst (AllPass tables) (sym (replaced_or by n parts))
        (subst (AllByRecursion Passes) (sym (scalars_or tables (replaced_among by parts n))) (parts_pass tables parts each (subst (AllByRecursion Passes) (scalars_or tables parts) all) n));
    when_not = λ part inside tables all n.
        subst (AllPass tables) (sym (replaced_not by n part))
        (subst (AllByRecursion Passes) (sym (scalars_not tables (with_replaced by n part))) (inside tables (subst (AllByRecursion Passes) (scalars_not tables part) all) n));
    when_compare = λ op left right span tables all n.
        subst (AllPass tables) (sym (replaced_compare by n op left right span)) (first_passes tables (λ m. c.Compare op left right span) (λ m. all) n);
    when_is_null = λ t negated span tables all n.
        subst (AllPass tables) (sym (replaced_is_null by n t negated span)) (first_passes tables (λ m. c.IsNull t negated span) (λ m. all) n);
    when_exists = λ block span inside tables all n.
        subst (AllPass tables) (sym (replaced_exists by n block span))
        (first_passes tables (λ m. c.Exists (block_replaced by m block) span)
        (λ m. subst (AllByRecursion Passes) (sym (scalars_exists tables (block_replaced by m block) span)) (inside (tables ++ tables_of (out-Block block).entries ∷ []) (subst (AllByRecursion Passes) (scalars_exists tables block span) all) m)) n);
    when_in = λ t block item negated span inside tables all n.
        subst (AllPass tables) (sym (replaced_in_subquery by n t block item negated span))
        (first_passes tables (λ m. c.In t (block_replaced by m block) item negated span)
        (λ m. subst (AllByRecursion Passes) (sym (scalars_in tables t (block_replaced by m block) item negated span)) (inside (tables ++ tables_of (out-Block block).entries ∷ []) (subst (AllByRecursion Passes) (scalars_in tables t block item negated span) all) m)) n);
    when_scalar = λ op left block item span inside tables all n.
        subst (AllPass tables) (sym (replaced_scalar by n op left block item span)) (first_passes tables (λ m. c.Scalar op left block item span) (λ m. all) n);
  })
