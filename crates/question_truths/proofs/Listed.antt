-- The scalar subqueries inside a subquery are listed too: those inside a scalar subquery before it. Said by what passes:
-- where each listed one passes, each inside does.
use Rattle.std.proofs.Common.{◌≡◌, sym, refl, subst, ℕ, zero, suc, ◌<◌, Bool, true, false, ◌&&◌, List, [], ◌∷◌, ◌++◌, if◌then◌else◌, arith}
use Rattle.std.proofs.lemmas.Option.{same_Some}
use Rattle.std.specs.List.{AllByRecursion, flat_map}
use Rattle.std.specs.Prelude.{Some, slice_get}
use Rattle.lint_base.proofs.Lists.{every_append, every_parts}
use Rattle.lint_core.specs.declared.condition.Block.{out-Block}
use Rattle.lint_core.specs.declared.condition.Cond.{Cond}
use Rattle.lint_core.specs.Fits.{tables_of}
use Rattle.lint_core.specs.Subqueries.{Subquery, subquery, is_column, scalar_subqueries, not_in_subqueries}
use Rattle.lint_core.proofs.Parted.{scalars_true, scalars_false, scalars_and, scalars_or, scalars_not, scalars_compare, scalars_is_null, scalars_exists, scalars_in, scalars_scalar, not_ins_true, not_ins_false, not_ins_and, not_ins_or, not_ins_not, not_ins_compare, not_ins_is_null, not_ins_exists, not_ins_in, not_ins_scalar}
use Rattle.question_truths.proofs.ByParts.{by_parts}

module _ (Passes : Subquery → Type 0) where
  abbrev pub AllPass : List Subquery → Type 0
  AllPass subs = AllByRecursion Passes subs

  -- each scalar subquery inside it passes
  abbrev pub PassesInside : Subquery → Type 0
  PassesInside sub = AllPass (scalar_subqueries sub.cond sub.tables)

  -- ---- those inside a scalar subquery stand before it

  -- where those before it pass, each inside it does
  abbrev pub InOrder : List Subquery → Type 0
  InOrder [] = Unit {0}
  InOrder (sub ∷ subs) = PassesInside sub × (Passes sub → InOrder subs)

  order_append : (subs more : List Subquery) → InOrder subs → (AllPass subs → InOrder more) → InOrder (subs ++ more)
  order_append [] more first second = second tt
  order_append (sub ∷ subs) more first second = (first.0, λ passes. order_append subs more (first.1 passes) (λ all. second (passes, all)))

  pub at_place : (subs : List Subquery) → InOrder subs → (i : ℕ) (sub : Subquery) → slice_get subs i ≡ Some sub →
      ((j : ℕ) (before : Subquery) → j < i → slice_get subs j ≡ Some before → Passes before) → PassesInside sub
  at_place [] order i sub at earlier = cc
  at_place (first ∷ subs) order zero sub at earlier = subst PassesInside (same_Some first sub at) order.0
  at_place (first ∷ subs) order (suc i) sub at earlier =
      at_place subs (order.1 (earlier zero first (omega arith) refl)) i sub at (λ j before low there. earlier (suc j) before (omega (arith, low)) there)

  abbrev Ordered : Cond → Type 0
  Ordered cond = (tables : List (List ℕ)) → InOrder (scalar_subqueries cond tables)

  parts_ordered : (parts : List Cond) → AllByRecursion Ordered parts → (tables : List (List ℕ)) → InOrder (flat_map (λ part. scalar_subqueries part tables) parts)
  parts_ordered [] each tables = tt
  parts_ordered (part ∷ parts) each tables =
      order_append (scalar_subqueries part tables) (flat_map (λ part. scalar_subqueries part tables) parts) (each.0 tables) (λ all. parts_ordered parts each.1 tables)

  pub scalars_ordered : (cond : Cond) → Ordered cond
  scalars_ordered = by_parts Ordered (record {
    when_true = λ tables. subst InOrder (sym (scalars_true tables)) tt;
    when_false = λ tables. subst InOrder (sym (scalars_false tables)) tt;
    when_and = λ parts each tables. subst InOrder (sym (scalars_and tables parts)) (parts_ordered parts each tables);
    when_or = λ parts each tables. subst InOrder (sym (scalars_or tables parts)) (parts_ordered parts each tables);
    when_not = λ part inside tables. subst InOrder (sym (scalars_not tables part)) (inside tables);
    when_compare = λ op left right span tables. subst InOrder (sym (scalars_compare tables op left right span)) tt;
    when_is_null = λ t negated span tables. subst InOrder (sym (scalars_is_null tables t negated span)) tt;
    when_exists = λ block span inside tables. subst InOrder (sym (scalars_exists tables block span)) (inside (tables ++ tables_of (out-Block block).entries ∷ []));
    when_in = λ t block item negated span inside tables. subst InOrder (sym (scalars_in tables t block item negated span)) (inside (tables ++ tables_of (out-Block block).entries ∷ []));
    when_scalar = λ op left block item span inside tables.
        let own = tables ++ tables_of (out-Block block).entries ∷ [] in
        subst InOrder (sym (scalars_scalar tables op left block item span))
        (order_append (scalar_subqueries (out-Block block).cond own) (subquery tables block item (out-Block block).span ∷ []) (inside own) (λ all. (all, λ passes. tt)));
  })

  -- ---- those inside a NOT IN subquery

  abbrev NotInsPass : Cond → Type 0
  NotInsPass cond = (tables : List (List ℕ)) → AllPass (scalar_subqueries cond tables) → AllByRecursion PassesInside (not_in_subqueries cond tables)

  parts_pass : (parts : List Cond) → AllByRecursion NotInsPass parts → (tables : List (List ℕ)) → AllPass (flat_map (λ part. scalar_subqueries part tables) parts) →
      AllByRecursion PassesInside (flat_map (λ part. not_in_subqueries part tables) parts)
  parts_pass [] each tables all = tt
  parts_pass (part ∷ parts) each tables all =
      let here = scalar_subqueries part tables in
      let others = flat_map (λ part. scalar_subqueries part tables) parts in
      every_append PassesInside (not_in_subqueries part tables) (flat_map (λ part. not_in_subqueries part tables) parts)
      (each.0 tables (every_parts Passes here others all).0) (parts_pass parts each.1 tables (every_parts Passes here others all).1)

  one_if : (b : Bool) (sub : Subquery) → PassesInside sub → AllByRecursion PassesInside (if b then sub ∷ [] else [])
  one_if true sub passes = (passes, tt)
  one_if false sub passes = tt

  pub not_ins_pass : (cond : Cond) → NotInsPass cond
  not_ins_pass = by_parts NotInsPass (record {
    when_true = λ tables all. subst (AllByRecursion PassesInside) (sym (not_ins_true tables)) tt;
    when_false = λ tables all. subst (AllByRecursion PassesInside) (sym (not_ins_false tables)) tt;
    when_and = λ parts each tables all. subst (AllByRecursion PassesInside) (sym (not_ins_and tables parts)) (parts_pass parts each tables (subst AllPass (scalars_and tables parts) all));
    when_or = λ parts each tables all. subst (AllByRecursion PassesInside) (sym (not_ins_or tables parts)) (parts_pass parts each tables (subst AllPass (scalars_or tables parts) all));
    when_not = λ part inside tables all. subst (AllByRecursion PassesInside) (sym (not_ins_not tables part)) (inside tables (subst AllPass (scalars_not tables part) all));
    when_compare = λ op left right span tables all. subst (AllByRecursion PassesInside) (sym (not_ins_compare tables op left right span)) tt;
    when_is_null = λ t negated span tables all. subst (AllByRecursion PassesInside) (sym (not_ins_is_null tables t negated span)) tt;
    when_exists = λ block span inside tables all.
        subst (AllByRecursion PassesInside) (sym (not_ins_exists tables block span)) (inside (tables ++ tables_of (out-Block block).entries ∷ []) (subst AllPass (scalars_exists tables block span) all));
    when_in = λ t block item negated span inside tables all.
        let own = tables ++ tables_of (out-Block block).entries ∷ [] in
        let pass = subst AllPass (scalars_in tables t block item negated span) all in
        subst (AllByRecursion PassesInside) (sym (not_ins_in tables t block item negated span))
        (every_append PassesInside (if negated && is_column item then subquery tables block item span ∷ [] else []) (not_in_subqueries (out-Block block).cond own)
        (one_if (negated && is_column item) (subquery tables block item span) pass) (inside own pass));
    when_scalar = λ op left block item span inside tables all.
        let own = tables ++ tables_of (out-Block block).entries ∷ [] in
        subst (AllByRecursion PassesInside) (sym (not_ins_scalar tables op left block item span))
        (inside own (every_parts Passes (scalar_subqueries (out-Block block).cond own) (subquery tables block item (out-Block block).span ∷ []) (subst AllPass (scalars_scalar tables op left block item span) all)).0);
  })
