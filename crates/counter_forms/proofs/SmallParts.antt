-- The numbers of a condition's conjuncts, of its subqueries, and of the condition with a predicate replaced are among
-- its own.
use Rattle.std.proofs.Common.{◌≡◌, ◌∙◌, refl, sym, subst, ℕ, zero, suc, ◌-◌, Bool, true, false, ◌&&◌, List, [], ◌∷◌, ◌++◌, length, nat_lt, if◌then◌else◌}
use Rattle.std.specs.List.{AllByRecursion, flat_map, list_all}
use Rattle.lint_base.proofs.Lists.{both_left, both_right, every_append}
use Rattle.lint_core.specs.declared.condition.Block.{out-Block}
use Rattle.lint_core.specs.declared.condition.Cond.{Cond}
use Rattle.lint_core.specs.declared.condition.Cond.TheVariants as c
use Rattle.lint_core.specs.Conjuncts.{conjuncts}
use Rattle.lint_core.specs.Fits.{tables_of}
use Rattle.lint_core.specs.Predicates.{first_or, predicates, with_replaced}
use Rattle.lint_core.specs.Subqueries.{Subquery, is_column, not_in_subqueries, scalar_subqueries, subquery}
use Rattle.lint_core.proofs.Parted.{scalars_true, scalars_false, scalars_and, scalars_or, scalars_not, scalars_compare, scalars_is_null, scalars_exists, scalars_in, scalars_scalar, not_ins_true, not_ins_false, not_ins_and, not_ins_or, not_ins_not, not_ins_compare, not_ins_is_null, not_ins_exists, not_ins_in, not_ins_scalar}
use Rattle.lint_core.proofs.Parted.{replaced_among, block_replaced, replaced_true, replaced_false, replaced_and, replaced_or, replaced_not, replaced_compare, replaced_is_null, replaced_exists, replaced_in_subquery, replaced_scalar}
use Rattle.truth_laws.proofs.Fitting.{both_are}
use Rattle.question_laws.proofs.Conjuncts.{of_all}
use Rattle.question_truths.proofs.ByParts.{by_parts}
use Rattle.counter_forms.specs.SmallNumbers.{has_small_numbers, term_is_small}
use Rattle.counter_forms.proofs.SmallLayers.{block_small, small_and, small_or, small_not, small_exists, small_in, small_scalar}

abbrev pub Small : Cond → Type 0
Small cond = has_small_numbers cond ≡ true

abbrev all_small : List Cond → Bool
all_small = list_all has_small_numbers

pub conjuncts_small : (cond : Cond) → Small cond → all_small (conjuncts cond) ≡ true
conjuncts_small cond small = sym (of_all has_small_numbers small_and cond) ∙ small

-- ---- a predicate replaced

module _ (by : Cond) (by_small : Small by) where
  abbrev StillSmall : Cond → Type 0
  StillSmall cond = Small cond → (n : ℕ) → Small (with_replaced by n cond)

  first_small : (inside : ℕ → Cond) → ((n : ℕ) → Small (inside n)) → (n : ℕ) → Small (first_or by inside n)
  first_small inside small zero = by_small
  first_small inside small (suc n) = small n

  parts_small : (parts : List Cond) → AllByRecursion StillSmall parts → all_small parts ≡ true → (n : ℕ) → all_small (replaced_among by parts n) ≡ true
  parts_small [] each all n = refl
  parts_small (part ∷ parts) each all n =
      let here = both_left (has_small_numbers part) (all_small parts) all in
      let rest = both_right (has_small_numbers part) (all_small parts) all in
      let further = n - length (predicates part) in
      elim (nat_lt n (length (predicates part))) as (λ b. all_small (if b then with_replaced by n part ∷ parts else part ∷ replaced_among by parts further) ≡ true) [
        | true ↦ both_are (has_small_numbers (with_replaced by n part)) (all_small parts) (each.0 here n) rest
        | false ↦ both_are (has_small_numbers part) (all_small (replaced_among by parts further)) here (parts_small parts each.1 rest further)
      ]

  pub still_small : (cond : Cond) → StillSmall cond
  still_small = by_parts StillSmall (record {
    when_true = λ small n. subst Small (sym (replaced_true by n)) small;
    when_false = λ small n. subst Small (sym (replaced_false by n)) small;
    when_and = λ parts each small n. subst Small (sym (replaced_and by n parts)) (small_and (replaced_among by parts n) ∙ parts_small parts each (sym (small_and parts) ∙ small) n);
    when_or = λ parts each small n. subst Small (sym (replaced_or by n parts)) (small_or (replaced_among by parts n) ∙ parts_small parts each (sym (small_or parts) ∙ small) n);
    when_not = λ part inside small n. subst Small (sym (replaced_not by n part)) (small_not (with_replaced by n part) ∙ inside (sym (small_not part) ∙ small) n);
    when_compare = λ op left right span small n. subst Small (sym (replaced_compare by n op left right span)) (first_small (λ m. c.Compare op left right span) (λ m. small) n);
    when_is_null = λ t negated span small n. subst Small (sym (replaced_is_null by n t negated span)) (first_small (λ m. c.IsNull t negated span) (λ m. small) n);
    when_exists = λ block span inside small n.
        subst Small (sym (replaced_exists by n block span))
        (first_small (λ m. c.Exists (block_replaced by m block) span) (λ m. small_exists (block_replaced by m block) span ∙ inside (sym (small_exists block span) ∙ small) m) n);
    when_in = λ t block item negated span inside small n.
        let terms = term_is_small t && term_is_small item in
        let all = sym (small_in t block item negated span) ∙ small in
        subst Small (sym (replaced_in_subquery by n t block item negated span))
        (first_small (λ m. c.In t (block_replaced by m block) item negated span)
        (λ m.
        small_in t (block_replaced by m block) item negated span
        ∙ both_are terms (has_small_numbers (with_replaced by m (out-Block block).cond)) (both_left terms (block_small block) all) (inside (both_right terms (block_small block) all) m)) n);
    when_scalar = λ op left block item span inside small n. subst Small (sym (replaced_scalar by n op left block item span)) (first_small (λ m. c.Scalar op left block item span) (λ m. small) n);
  })

-- ---- subqueries

abbrev pub SmallInside : Subquery → Type 0
SmallInside sub = Small sub.cond

abbrev AllSmall : List Subquery → Type 0
AllSmall subs = AllByRecursion SmallInside subs

abbrev Inside : Cond → Type 0
Inside cond = Small cond → (tables : List (List ℕ)) → AllSmall (scalar_subqueries cond tables) × AllSmall (not_in_subqueries cond tables)

parts_inside : (parts : List Cond) → AllByRecursion Inside parts → all_small parts ≡ true → (tables : List (List ℕ)) →
    AllSmall (flat_map (λ part. scalar_subqueries part tables) parts) × AllSmall (flat_map (λ part. not_in_subqueries part tables) parts)
parts_inside [] each all tables = (tt, tt)
parts_inside (part ∷ parts) each all tables =
    let here = each.0 (both_left (has_small_numbers part) (all_small parts) all) tables in
    let later = parts_inside parts each.1 (both_right (has_small_numbers part) (all_small parts) all) tables in (
      every_append SmallInside (scalar_subqueries part tables) (flat_map (λ part. scalar_subqueries part tables) parts) here.0 later.0,
      every_append SmallInside (not_in_subqueries part tables) (flat_map (λ part. not_in_subqueries part tables) parts) here.1 later.1,
    )

one_if : (b : Bool) (sub : Subquery) → SmallInside sub → AllSmall (if b then sub ∷ [] else [])
one_if true sub small = (small, tt)
one_if false sub small = tt

-- both lists, by what they are
listed : (cond : Cond) (tables : List (List ℕ)) (scalars not_ins : List Subquery) → scalar_subqueries cond tables ≡ scalars → not_in_subqueries cond tables ≡ not_ins →
    AllSmall scalars × AllSmall not_ins → AllSmall (scalar_subqueries cond tables) × AllSmall (not_in_subqueries cond tables)
listed cond tables scalars not_ins is is_too all = (subst AllSmall (sym is) all.0, subst AllSmall (sym is_too) all.1)

pub small_inside : (cond : Cond) → Inside cond
small_inside = by_parts Inside (record {
  when_true = λ small tables. listed _ tables [] [] (scalars_true tables) (not_ins_true tables) (tt, tt);
  when_false = λ small tables. listed _ tables [] [] (scalars_false tables) (not_ins_false tables) (tt, tt);
  when_and = λ parts each small tables. listed _ tables _ _ (scalars_and tables parts) (not_ins_and tables parts) (parts_inside parts each (sym (small_and parts) ∙ small) tables);
  when_or = λ parts each small tables. listed _ tables _ _ (scalars_or tables parts) (not_ins_or tables parts) (parts_inside parts each (sym (small_or parts) ∙ small) tables);
  when_not = λ part inside small tables. listed _ tables _ _ (scalars_not tables part) (not_ins_not tables part) (inside (sym (small_not part) ∙ small) tables);
  when_compare = λ op left right span small tables. listed _ tables [] [] (scalars_compare tables op left right span) (not_ins_compare tables op left right span) (tt, tt);
  when_is_null = λ t negated span small tables. listed _ tables [] [] (scalars_is_null tables t negated span) (not_ins_is_null tables t negated span) (tt, tt);
  when_exists = λ block span inside small tables.
      listed _ tables _ _ (scalars_exists tables block span) (not_ins_exists tables block span) (inside (sym (small_exists block span) ∙ small) (tables ++ tables_of (out-Block block).entries ∷ []));
  when_in = λ t block item negated span inside small tables.
      let own = tables ++ tables_of (out-Block block).entries ∷ [] in
      let terms = term_is_small t && term_is_small item in
      let here : block_small block ≡ true = both_right terms (block_small block) (sym (small_in t block item negated span) ∙ small) in
      let within = inside here own in
      listed _ tables _ _ (scalars_in tables t block item negated span) (not_ins_in tables t block item negated span) (
        within.0,
        every_append SmallInside (if negated && is_column item then subquery tables block item span ∷ [] else []) (not_in_subqueries (out-Block block).cond own)
            (one_if (negated && is_column item) (subquery tables block item span) here) within.1,
      );
  when_scalar = λ op left block item span inside small tables.
      let own = tables ++ tables_of (out-Block block).entries ∷ [] in
      let terms = term_is_small left && term_is_small item in
      let here : block_small block ≡ true = both_right terms (block_small block) (sym (small_scalar op left block item span) ∙ small) in
      let within = inside here own in
      listed _ tables _ _ (scalars_scalar tables op left block item span) (not_ins_scalar tables op left block item span) (
        every_append SmallInside (scalar_subqueries (out-Block block).cond own) (subquery tables block item (out-Block block).span ∷ []) within.0 (here, tt),
        within.1,
      );
})
