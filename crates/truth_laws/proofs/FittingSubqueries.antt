-- The conditions of a fitting condition's scalar subqueries, and of its NOT IN subqueries, fit at their tables.
use Rattle.std.proofs.Common.{◌≡◌, ◌∙◌, sym, ap, refl, subst, ℕ, Bool, true, false, ◌&&◌, List, [], ◌∷◌, ◌++◌, map, if◌then◌else◌}
use Rattle.std.specs.List.{list_all, flat_map}
use Rattle.lint_base.specs.declared.place.Span.{Span}
use Rattle.lint_tables.specs.declared.op.Op.{Op}
use Rattle.lint_core.specs.declared.condition.Block.{Block, out-Block, roll-Block}
use Rattle.lint_core.specs.declared.condition.Cond.{Cond, ind-Cond, roll-Cond, map-Cond}
use Rattle.lint_core.specs.declared.condition.Cond.TheVariants as c
use Rattle.lint_core.specs.declared.condition.Cond.TheOpen.{Cond-F}
use Rattle.lint_core.specs.declared.condition.Term.{Term}
use Rattle.lint_core.specs.declared.schema.Table.{Table}
use Rattle.lint_core.specs.Fits.{cond_fits, tables_of}
use Rattle.lint_core.specs.Subqueries.{Subquery, subquery, is_column, scalar_subqueries, not_in_subqueries}
use Rattle.lint_core.proofs.Parted.{scalars_true, scalars_false, scalars_and, scalars_or, scalars_not, scalars_compare, scalars_is_null, scalars_exists, scalars_in, scalars_scalar}
use Rattle.lint_core.proofs.Parted.{not_ins_true, not_ins_false, not_ins_and, not_ins_or, not_ins_not, not_ins_compare, not_ins_is_null, not_ins_exists, not_ins_in, not_ins_scalar}
use Rattle.lint_base.proofs.Lists.{both_left, both_right, all_append}
use Rattle.truth_laws.proofs.Fitting.{both_are}
use Rattle.truth_laws.proofs.FittingParts.{exists_inner, in_inner, scalar_inner}
use Rattle.truth_laws.proofs.Layers.{fits_and, fits_or, fits_not}

module _ (schema : List Table) where
  abbrev pub is_fit : Subquery → Bool
  is_fit s = cond_fits schema s.tables s.cond

  abbrev AreFit : List Subquery → Type 0
  AreFit subs = list_all is_fit subs ≡ true

  abbrev BothFit : Cond → List (List ℕ) → Type 0
  BothFit cond tables = AreFit (scalar_subqueries cond tables) × AreFit (not_in_subqueries cond tables)

  abbrev Listed : Cond → Type 0
  Listed cond = (tables : List (List ℕ)) → cond_fits schema tables cond ≡ true → BothFit cond tables

  abbrev ListedInside : Block → Type 0
  ListedInside block = Listed block.cond

  abbrev SomeCond : Type 0
  SomeCond = (cond : Cond) × Listed cond

  abbrev SomeBlock : Type 0
  SomeBlock = (block : Block) × ListedInside block

  abbrev part_of : Cond-F SomeCond SomeBlock → Cond-F Cond Block
  part_of = map-Cond SomeCond SomeBlock Cond Block (λ e. e.0) (λ e. e.0)

  abbrev conds : List SomeCond → List Cond
  conds parts = map (λ (e : SomeCond). e.0) parts

  both_same : (cond : Cond) (tables : List (List ℕ)) (scalars not_ins : List Subquery) → scalar_subqueries cond tables ≡ scalars → not_in_subqueries cond tables ≡ not_ins → AreFit scalars → AreFit not_ins → BothFit cond tables
  both_same cond tables scalars not_ins one two first second = (ap (list_all is_fit) one ∙ first, ap (list_all is_fit) two ∙ second)

  no_subqueries : (cond : Cond) → ((tables : List (List ℕ)) → scalar_subqueries cond tables ≡ []) → ((tables : List (List ℕ)) → not_in_subqueries cond tables ≡ []) → Listed cond
  no_subqueries cond one two tables fit = both_same cond tables [] [] (one tables) (two tables) refl refl

  abbrev part_scalars : List (List ℕ) → Cond → List Subquery
  part_scalars tables part = scalar_subqueries part tables

  abbrev part_not_ins : List (List ℕ) → Cond → List Subquery
  part_not_ins tables part = not_in_subqueries part tables

  parts_listed : (parts : List SomeCond) (tables : List (List ℕ)) → list_all (cond_fits schema tables) (conds parts) ≡ true →
      AreFit (flat_map (part_scalars tables) (conds parts)) × AreFit (flat_map (part_not_ins tables) (conds parts))
  parts_listed [] tables fit = (refl, refl)
  parts_listed (part ∷ parts) tables fit =
      let here = cond_fits schema tables part.0 in
      let rest = list_all (cond_fits schema tables) (conds parts) in
      let first = part.1 tables (both_left here rest fit) in
      let later = parts_listed parts tables (both_right here rest fit) in (
        all_append is_fit (part_scalars tables part.0) (flat_map (part_scalars tables) (conds parts)) first.0 later.0,
        all_append is_fit (part_not_ins tables part.0) (flat_map (part_not_ins tables) (conds parts)) first.1 later.1,
      )

  one_fits : (s : Subquery) → is_fit s ≡ true → AreFit (s ∷ [])
  one_fits s fit = both_are (is_fit s) true fit refl

  perhaps_fits : (b : Bool) (s : Subquery) → is_fit s ≡ true → AreFit (if b then s ∷ [] else [])
  perhaps_fits true s fit = one_fits s fit
  perhaps_fits false s fit = refl

  abbrev inner : List (List ℕ) → Block → List (List ℕ)
  inner tables block = tables ++ tables_of (out-Block block).entries ∷ []

  in_listed : (t : Term) (block : SomeBlock) (item : Term) (negated : Bool) (span : Span) → Listed (c.In t block.0 item negated span)
  in_listed t block item negated span tables fit =
      let inside = in_inner schema tables t block.0 item negated span fit in
      let here = subquery tables block.0 item span in
      let both = block.1 (inner tables block.0) inside in
      let own = if negated && is_column item then here ∷ [] else [] in
      let deeper = not_in_subqueries (out-Block block.0).cond (inner tables block.0) in
      both_same (c.In t block.0 item negated span) tables (scalar_subqueries (out-Block block.0).cond (inner tables block.0)) (own ++ deeper)
      (scalars_in tables t block.0 item negated span) (not_ins_in tables t block.0 item negated span)
      both.0 (all_append is_fit own deeper (perhaps_fits (negated && is_column item) here inside) both.1)

  scalar_listed : (op : Op) (left : Term) (block : SomeBlock) (item : Term) (span : Span) → Listed (c.Scalar op left block.0 item span)
  scalar_listed op left block item span tables fit =
      let inside = scalar_inner schema tables op left block.0 item span fit in
      let here = subquery tables block.0 item (out-Block block.0).span in
      let both = block.1 (inner tables block.0) inside in
      let deeper = scalar_subqueries (out-Block block.0).cond (inner tables block.0) in
      both_same (c.Scalar op left block.0 item span) tables (deeper ++ here ∷ []) (not_in_subqueries (out-Block block.0).cond (inner tables block.0))
      (scalars_scalar tables op left block.0 item span) (not_ins_scalar tables op left block.0 item span)
      (all_append is_fit deeper (here ∷ []) both.0 (one_fits here inside)) both.1

  listed_layer : (y : Cond-F SomeCond SomeBlock) → Listed (roll-Cond (part_of y))
  listed_layer Cond-F.True = subst Listed (sym c.rolls-True) (no_subqueries c.True scalars_true not_ins_true)
  listed_layer Cond-F.False = subst Listed (sym c.rolls-False) (no_subqueries c.False scalars_false not_ins_false)
  listed_layer (Cond-F.And parts) =
      let cs = conds parts in
      subst Listed (sym (c.rolls-And cs))
      (λ tables fit.
      let both = parts_listed parts tables (sym (fits_and schema tables cs) ∙ fit) in
      both_same (c.And cs) tables (flat_map (part_scalars tables) cs) (flat_map (part_not_ins tables) cs) (scalars_and tables cs) (not_ins_and tables cs) both.0 both.1)
  listed_layer (Cond-F.Or parts) =
      let cs = conds parts in
      subst Listed (sym (c.rolls-Or cs))
      (λ tables fit.
      let both = parts_listed parts tables (sym (fits_or schema tables cs) ∙ fit) in
      both_same (c.Or cs) tables (flat_map (part_scalars tables) cs) (flat_map (part_not_ins tables) cs) (scalars_or tables cs) (not_ins_or tables cs) both.0 both.1)
  listed_layer (Cond-F.Not part) =
      subst Listed (sym (c.rolls-Not part.0))
      (λ tables fit.
      let both = part.1 tables (sym (fits_not schema tables part.0) ∙ fit) in
      both_same (c.Not part.0) tables (scalar_subqueries part.0 tables) (not_in_subqueries part.0 tables) (scalars_not tables part.0) (not_ins_not tables part.0) both.0 both.1)
  listed_layer (Cond-F.Compare op left right span) =
      subst Listed (sym (c.rolls-Compare op left right span))
      (no_subqueries (c.Compare op left right span) (λ tables. scalars_compare tables op left right span) (λ tables. not_ins_compare tables op left right span))
  listed_layer (Cond-F.IsNull t negated span) =
      subst Listed (sym (c.rolls-IsNull t negated span))
      (no_subqueries (c.IsNull t negated span) (λ tables. scalars_is_null tables t negated span) (λ tables. not_ins_is_null tables t negated span))
  listed_layer (Cond-F.Exists block span) =
      subst Listed (sym (c.rolls-Exists block.0 span))
      (λ tables fit.
      let both = block.1 (inner tables block.0) (exists_inner schema tables block.0 span fit) in
      let cond = (out-Block block.0).cond in
      both_same (c.Exists block.0 span) tables (scalar_subqueries cond (inner tables block.0)) (not_in_subqueries cond (inner tables block.0))
      (scalars_exists tables block.0 span) (not_ins_exists tables block.0 span) both.0 both.1)
  listed_layer (Cond-F.In t block item negated span) = subst Listed (sym (c.rolls-In t block.0 item negated span)) (in_listed t block item negated span)
  listed_layer (Cond-F.Scalar op left block item span) = subst Listed (sym (c.rolls-Scalar op left block.0 item span)) (scalar_listed op left block item span)

  listed : (cond : Cond) → Listed cond
  listed =
      ind-Cond Listed ListedInside
      (λ x y is. subst (λ z. Listed (roll-Cond z)) is (listed_layer y))
      (λ x y is. subst (λ z. ListedInside (roll-Block z)) is y.cond.1)

  pub scalars_fit : (cond : Cond) (tables : List (List ℕ)) → cond_fits schema tables cond ≡ true → AreFit (scalar_subqueries cond tables)
  scalars_fit cond tables fit = (listed cond tables fit).0

  pub not_ins_fit : (cond : Cond) (tables : List (List ℕ)) → cond_fits schema tables cond ≡ true → AreFit (not_in_subqueries cond tables)
  not_ins_fit cond tables fit = (listed cond tables fit).1
