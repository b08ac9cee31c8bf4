-- With a predicate replaced by what has no scalar subquery, a condition has no new ones.
use Rattle.std.proofs.Common.{◌≡◌, inl, inr, refl, sym, subst, ℕ, zero, suc, true, false, ◌-◌, List, [], ◌∷◌, ◌++◌, length, map}
use Rattle.std.specs.List.{flat_map}
use Rattle.std.specs.Prelude.{nat_lt, if◌then◌else◌}
use Rattle.lint_core.specs.declared.condition.Block.{Block, out-Block, roll-Block}
use Rattle.lint_core.specs.declared.condition.Cond.{Cond, ind-Cond, roll-Cond, map-Cond}
use Rattle.lint_core.specs.declared.condition.Cond.TheVariants as c
use Rattle.lint_core.specs.declared.condition.Cond.TheOpen.{Cond-F}
use Rattle.lint_core.specs.Fits.{tables_of}
use Rattle.lint_core.specs.Predicates.{first_or, predicates, with_replaced}
use Rattle.lint_core.specs.Subqueries.{Subquery, scalar_subqueries}
use Rattle.lint_core.proofs.Parted.{block_replaced, replaced_among, replaced_and, replaced_compare, replaced_exists, replaced_false, replaced_in_subquery, replaced_is_null, replaced_not, replaced_or, replaced_scalar, replaced_true, scalars_and, scalars_exists, scalars_in, scalars_not, scalars_or}
use Rattle.meaning_laws.proofs.Members.{Stands, stands_behind, stands_front}
use Rattle.answer_laws.proofs.Listed.{stands_either}

module _ (by : Cond) (none : (tables : List (List ℕ)) → scalar_subqueries by tables ≡ []) where
  abbrev pub Fewer : Cond → Type 0
  Fewer cond = (n : ℕ) (tables : List (List ℕ)) (s : Subquery) → Stands s (scalar_subqueries (with_replaced by n cond) tables) → Stands s (scalar_subqueries cond tables)

  abbrev FewerBlock : Block → Type 0
  FewerBlock block = Fewer (out-Block block).cond

  abbrev Part : Type 0
  Part = (cond : Cond) × Fewer cond

  abbrev Inside : Type 0
  Inside = (block : Block) × FewerBlock block

  abbrev conds : List Part → List Cond
  conds parts = map (λ (e : Part). e.0) parts

  -- with what it lists, before and after
  listed : (cond made : Cond) (n : ℕ) (tables : List (List ℕ)) (before after : List Subquery) → with_replaced by n cond ≡ made →
      scalar_subqueries cond tables ≡ before → scalar_subqueries made tables ≡ after → (s : Subquery) → (Stands s after → Stands s before) →
      Stands s (scalar_subqueries (with_replaced by n cond) tables) → Stands s (scalar_subqueries cond tables)
  listed cond made n tables before after replaced lists lists_after s fewer here =
      subst (Stands s) (sym lists) (fewer (subst (Stands s) lists_after (subst (λ x. Stands s (scalar_subqueries x tables)) replaced here)))

  -- a predicate is replaced itself, or inside
  predicate : (cond : Cond) (inside : ℕ → Cond) → ((n : ℕ) → with_replaced by n cond ≡ first_or by inside n) →
      ((n : ℕ) (tables : List (List ℕ)) (s : Subquery) → Stands s (scalar_subqueries (inside n) tables) → Stands s (scalar_subqueries cond tables)) → Fewer cond
  predicate cond inside replaced within zero tables s here =
      absurd (subst (Stands s) (none tables) (subst (λ x. Stands s (scalar_subqueries x tables)) (replaced zero) here))
  predicate cond inside replaced within (suc n) tables s here = within n tables s (subst (λ x. Stands s (scalar_subqueries x tables)) (replaced (suc n)) here)

  among : (parts : List Part) (n : ℕ) (tables : List (List ℕ)) (s : Subquery) →
      Stands s (flat_map (λ part. scalar_subqueries part tables) (replaced_among by (conds parts) n)) → Stands s (flat_map (λ part. scalar_subqueries part tables) (conds parts))
  among [] n tables s here = here
  among (part ∷ parts) n tables s here =
      let of_each = flat_map (λ part. scalar_subqueries part tables) in
      let first = scalar_subqueries part.0 tables in
      let others = of_each (conds parts) in
      let rest = replaced_among by (conds parts) (n - length (predicates part.0)) in
      elim (nat_lt n (length (predicates part.0))) as (λ b. Stands s (of_each (if b then with_replaced by n part.0 ∷ conds parts else part.0 ∷ rest)) → Stands s (first ++ others)) [
        | true ↦ λ stands.
            elim (stands_either s (scalar_subqueries (with_replaced by n part.0) tables) others stands) [
              | inl front ↦ stands_front s first others (part.1 n tables s front)
              | inr behind ↦ stands_behind s first others behind
            ]
        | false ↦ λ stands.
            elim (stands_either s first (of_each rest) stands) [
              | inl front ↦ stands_front s first others front
              | inr behind ↦ stands_behind s first others (among parts (n - length (predicates part.0)) tables s behind)
            ]
      ]
      here

  several : (cond : Cond) (made : List Cond → Cond) (parts : List Part) → ((n : ℕ) → with_replaced by n cond ≡ made (replaced_among by (conds parts) n)) → made (conds parts) ≡ cond →
      ((tables : List (List ℕ)) (some : List Cond) → scalar_subqueries (made some) tables ≡ flat_map (λ part. scalar_subqueries part tables) some) → Fewer cond
  several cond made parts replaced is lists n tables s =
      listed cond (made (replaced_among by (conds parts) n)) n tables
      (flat_map (λ part. scalar_subqueries part tables) (conds parts)) (flat_map (λ part. scalar_subqueries part tables) (replaced_among by (conds parts) n))
      (replaced n) (subst (λ x. scalar_subqueries x tables ≡ flat_map (λ part. scalar_subqueries part tables) (conds parts)) is (lists tables (conds parts)))
      (lists tables (replaced_among by (conds parts) n)) s (among parts n tables s)

  around : (made : Block → Cond) (block : Inside) → ((n : ℕ) → with_replaced by n (made block.0) ≡ first_or by (λ m. made (block_replaced by m block.0)) n) →
      ((tables : List (List ℕ)) (b : Block) → scalar_subqueries (made b) tables ≡ scalar_subqueries (out-Block b).cond (tables ++ tables_of (out-Block b).entries ∷ [])) →
      Fewer (made block.0)
  around made block replaced lists =
      predicate (made block.0) (λ m. made (block_replaced by m block.0)) replaced
      (λ n tables s here.
      subst (Stands s) (sym (lists tables block.0))
      (block.1 n (tables ++ tables_of (out-Block block.0).entries ∷ []) s (subst (Stands s) (lists tables (block_replaced by n block.0)) here)))

  layer : (y : Cond-F Part Inside) → Fewer (roll-Cond (map-Cond Part Inside Cond Block (λ e. e.0) (λ e. e.0) y))
  layer Cond-F.True = subst Fewer (sym c.rolls-True) (λ n tables s here. subst (λ x. Stands s (scalar_subqueries x tables)) (replaced_true by n) here)
  layer Cond-F.False = subst Fewer (sym c.rolls-False) (λ n tables s here. subst (λ x. Stands s (scalar_subqueries x tables)) (replaced_false by n) here)
  layer (Cond-F.And parts) =
      subst Fewer (sym (c.rolls-And (conds parts))) (several (c.And (conds parts)) c.And parts (λ n. replaced_and by n (conds parts)) refl scalars_and)
  layer (Cond-F.Or parts) =
      subst Fewer (sym (c.rolls-Or (conds parts))) (several (c.Or (conds parts)) c.Or parts (λ n. replaced_or by n (conds parts)) refl scalars_or)
  layer (Cond-F.Not part) =
      subst Fewer (sym (c.rolls-Not part.0))
      (λ n tables s.
      listed (c.Not part.0) (c.Not (with_replaced by n part.0)) n tables (scalar_subqueries part.0 tables) (scalar_subqueries (with_replaced by n part.0) tables)
      (replaced_not by n part.0) (scalars_not tables part.0) (scalars_not tables (with_replaced by n part.0)) s (part.1 n tables s))
  layer (Cond-F.Compare op left right span) =
      subst Fewer (sym (c.rolls-Compare op left right span))
      (predicate (c.Compare op left right span) (λ n. c.Compare op left right span) (λ n. replaced_compare by n op left right span) (λ n tables s here. here))
  layer (Cond-F.IsNull term negated span) =
      subst Fewer (sym (c.rolls-IsNull term negated span))
      (predicate (c.IsNull term negated span) (λ n. c.IsNull term negated span) (λ n. replaced_is_null by n term negated span) (λ n tables s here. here))
  layer (Cond-F.Exists block span) =
      subst Fewer (sym (c.rolls-Exists block.0 span))
      (around (λ b. c.Exists b span) block (λ n. replaced_exists by n block.0 span) (λ tables b. scalars_exists tables b span))
  layer (Cond-F.In term block item negated span) =
      subst Fewer (sym (c.rolls-In term block.0 item negated span))
      (around (λ b. c.In term b item negated span) block (λ n. replaced_in_subquery by n term block.0 item negated span) (λ tables b. scalars_in tables term b item negated span))
  layer (Cond-F.Scalar op left block item span) =
      subst Fewer (sym (c.rolls-Scalar op left block.0 item span))
      (predicate (c.Scalar op left block.0 item span) (λ n. c.Scalar op left block.0 item span) (λ n. replaced_scalar by n op left block.0 item span) (λ n tables s here. here))

  pub fewer : (cond : Cond) → Fewer cond
  fewer = ind-Cond Fewer FewerBlock (λ x y is. subst (λ z. Fewer (roll-Cond z)) is (layer y)) (λ x y is. subst (λ z. FewerBlock (roll-Block z)) is y.cond.1)
