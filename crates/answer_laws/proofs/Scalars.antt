-- A condition has a truth at every binding exactly where each scalar subquery in it gives at most one row.
use Rattle.std.proofs.Common.{◌≡◌, ◌≢◌, ◌∙◌, inl, inr, refl, sym, ap, subst, ℕ, true, List, [], ◌∷◌, ◌++◌, map}
use Rattle.std.specs.List.{filter, flat_map}
use Rattle.std.specs.Prelude.{◌↔◌, Ok, Err}
use Rattle.lint_base.specs.declared.place.Span.{Span}
use Rattle.lint_tables.specs.declared.op.Op.{Op}
use Rattle.lint_core.specs.declared.condition.Block.{Block, out-Block, roll-Block}
use Rattle.lint_core.specs.declared.condition.Cond.{Cond, ind-Cond, roll-Cond, map-Cond}
use Rattle.lint_core.specs.declared.condition.Cond.TheVariants as c
use Rattle.lint_core.specs.declared.condition.Cond.TheOpen.{Cond-F}
use Rattle.lint_core.specs.declared.condition.Term.{Term}
use Rattle.lint_core.specs.declared.database.Database.{Database}
use Rattle.lint_core.specs.declared.database.Truth.{Truth}
use Rattle.lint_core.specs.declared.database.Value.{Value}
use Rattle.lint_core.specs.Comparison.{compare}
use Rattle.lint_core.specs.Condition.{BlockMeaning, Inner, exists_truth, in_truth, inner_bindings, is_true_at, items_at, scalar_value, selected, term_value, truth}
use Rattle.lint_core.specs.Database.{row_lists}
use Rattle.lint_core.specs.Evaluation.{Evaluated, all_ok, and_then, map_ok}
use Rattle.lint_core.specs.Fits.{tables_of}
use Rattle.lint_core.specs.Points.{differ_in_last_level, is_binding}
use Rattle.lint_core.specs.Subqueries.{Subquery, scalar_subqueries, subquery}
use Rattle.lint_core.specs.Truth.{and_of, negated_if, not_of, or_of}
use Rattle.lint_core.proofs.Conditions.{block_truth, block_truth_is, truth_and, truth_compare, truth_exists, truth_false, truth_in, truth_is_null, truth_not, truth_or, truth_scalar, truth_true}
use Rattle.lint_core.proofs.Parted.{scalars_and, scalars_compare, scalars_exists, scalars_false, scalars_in, scalars_is_null, scalars_not, scalars_or, scalars_scalar, scalars_true}
use Rattle.answer_laws.proofs.Inside.{bound_inside, differ_inside, inside_differ, split}
use Rattle.meaning_laws.proofs.Members.{Stands, stands_behind, stands_filter, stands_front}
use Rattle.answer_laws.proofs.Listed.{AllDiffer, differ_filter, filter_stands, stands_either}
use Rattle.answer_laws.proofs.RowLists.{lists_differ}
use Rattle.answer_laws.proofs.Selecting.{IsKnown, inner, is_true_inside, some_selected, truths_of_some}

-- ---- what is known

then : {A B C : Type 0} → A ↔ B → B ↔ C → A ↔ C
then one two = (λ a. two.0 (one.0 a), λ c. one.1 (two.1 c))

known_map : {A B : Type 0} (f : A → B) (e : Evaluated A) → IsKnown e ↔ IsKnown (map_ok f e)
known_map f (Ok a) = (λ known. (f a, refl), λ known. (a, refl))
known_map f (Err place) = (λ known. cc, λ known. cc)

known_then : {A B : Type 0} (f : A → Evaluated B) (e : Evaluated A) → IsKnown (and_then f e) → (a : A) × (e ≡ Ok a) × IsKnown (f a)
known_then f (Ok a) known = (a, refl, known)
known_then f (Err place) known = cc

known_cons : {A : Type 0} (e : Evaluated A) (es : List (Evaluated A)) → (IsKnown e × IsKnown (all_ok es)) ↔ IsKnown (all_ok (e ∷ es))
known_cons (Ok a) es =
    let later = known_map (λ xs. a ∷ xs) (all_ok es) in
    (λ both. later.0 both.1, λ known. ((a, refl), later.1 known))
known_cons (Err place) es = (λ both. let here = both.0 in cc, λ known. cc)

module _ (db : Database) where
  -- at no two bindings that differ in its own level alone is its condition true
  abbrev pub GivesOne : Subquery → Type 0
  GivesOne s = (one two : List (List ℕ)) → is_binding db s.tables one ≡ true → is_binding db s.tables two ≡ true → differ_in_last_level one two ≡ true →
      is_true_at db s.cond s.tables one ≡ true → is_true_at db s.cond s.tables two ≡ true → ⊥

  abbrev pub AllGiveOne : List Subquery → Type 0
  AllGiveOne subs = (s : Subquery) → Stands s subs → GivesOne s

  abbrev AtEach : List (List ℕ) → (List (List ℕ) → Type 0) → Type 0
  AtEach tables P = (binding : List (List ℕ)) → is_binding db tables binding ≡ true → P binding

  -- it has a truth at every binding
  abbrev pub IsKnownAt : Cond → List (List ℕ) → Type 0
  IsKnownAt cond tables = AtEach tables (λ binding. IsKnown (truth db cond tables binding))

  abbrev pub Law : Cond → Type 0
  Law cond = (tables : List (List ℕ)) → AllGiveOne (scalar_subqueries cond tables) ↔ IsKnownAt cond tables

  -- ---- conditions without parts

  leaf : (cond : Cond) → ((tables : List (List ℕ)) → scalar_subqueries cond tables ≡ []) → ((tables binding : List (List ℕ)) → IsKnown (truth db cond tables binding)) → Law cond
  leaf cond none known tables = (λ one binding bound. known tables binding, λ all s here. absurd (subst (Stands s) (none tables) here))

  -- by what it lists, and what is known where its truth is
  by_parts : (cond : Cond) (tables : List (List ℕ)) (subs : List Subquery) (P : List (List ℕ) → Type 0) → scalar_subqueries cond tables ≡ subs →
      ((binding : List (List ℕ)) → P binding ↔ IsKnown (truth db cond tables binding)) → AllGiveOne subs ↔ AtEach tables P →
      AllGiveOne (scalar_subqueries cond tables) ↔ IsKnownAt cond tables
  by_parts cond tables subs P lists known law = (
    λ one binding bound. (known binding).0 (law.0 (λ s here. one s (subst (Stands s) (sym lists) here)) binding bound),
    λ all s here. law.1 (λ binding bound. (known binding).1 (all binding bound)) s (subst (Stands s) lists here),
  )

  -- ---- several parts

  abbrev LawCond : Type 0
  LawCond = (cond : Cond) × Law cond

  abbrev conds : List LawCond → List Cond
  conds parts = map (λ (e : LawCond). e.0) parts

  parts_law : (parts : List LawCond) (tables : List (List ℕ)) →
      AllGiveOne (flat_map (λ part. scalar_subqueries part tables) (conds parts))
      ↔ AtEach tables (λ binding. IsKnown (all_ok (map (λ part. truth db part tables binding) (conds parts))))
  parts_law [] tables = (λ one binding bound. ([], refl), λ all s here. absurd here)
  parts_law (part ∷ parts) tables =
      let first = scalar_subqueries part.0 tables in
      let others = flat_map (λ p. scalar_subqueries p tables) (conds parts) in
      let here = part.1 tables in
      let later = parts_law parts tables in
      let both = λ (binding : List (List ℕ)). known_cons (truth db part.0 tables binding) (map (λ p. truth db p tables binding) (conds parts)) in (
        λ one binding bound.
            (both binding).0 (here.0 (λ s in_first. one s (stands_front s first others in_first)) binding bound, later.0 (λ s in_others. one s (stands_behind s first others in_others)) binding bound),
        λ all s stands. elim (stands_either s first others stands) [
          | inl in_first ↦ here.1 (λ binding bound. ((both binding).1 (all binding bound)).0) s in_first
          | inr in_others ↦ later.1 (λ binding bound. ((both binding).1 (all binding bound)).1) s in_others
        ],
      )

  -- ---- a subquery

  module _ (cond : Cond) (own : List ℕ) (tables : List (List ℕ)) where
    abbrev deeper : List (List ℕ)
    deeper = tables ++ own ∷ []

    abbrev lists : List (List ℕ)
    lists = row_lists db own

    abbrev chosen : List (List ℕ) → Evaluated (List Inner)
    chosen binding = selected (inner_bindings db own (truth db cond) tables binding)

    -- the rows at which it is true
    abbrev true_rows : List (List ℕ) → List (List ℕ)
    true_rows binding = filter (is_true_inside db cond tables binding own) lists

    chosen_is : IsKnownAt cond deeper → (binding : List (List ℕ)) → is_binding db tables binding ≡ true → chosen binding ≡ Ok (map (inner db cond tables binding own) (true_rows binding))
    chosen_is known binding bound = some_selected db cond tables binding own lists (λ rows here. known (binding ++ rows ∷ []) (bound_inside db own tables binding rows bound here))

    chosen_known : IsKnownAt cond deeper ↔ AtEach tables (λ binding. IsKnown (chosen binding))
    chosen_known = (
      λ known binding bound. (_, chosen_is known binding bound),
      λ all levels bound.
          let at = split db own tables levels bound in
          let kept = all at.0 at.3 in
          let found = truths_of_some db cond tables at.0 own lists kept.0 kept.1 at.1 at.4 in
          (found.0, ap (truth db cond deeper) at.2 ∙ found.1),
    )

    -- ---- a scalar subquery

    abbrev value_of : Span → Term → List (List ℕ) → List (List ℕ) → Evaluated Value
    value_of place item binding some = scalar_value place (items_at db item (map (inner db cond tables binding own) some))

    one_known : (place : Span) (item : Term) (binding some : List (List ℕ)) → AllDiffer some → ((a b : List ℕ) → Stands a some → Stands b some → a ≢ b → ⊥) → IsKnown (value_of place item binding some)
    one_known place item binding [] differ few = (_, refl)
    one_known place item binding (a ∷ []) differ few = (_, refl)
    one_known place item binding (a ∷ b ∷ some) differ few = absurd (few a b (inl refl) (inr (inl refl)) (differ.0 b (inl refl)))

    known_one : (place : Span) (item : Term) (binding some : List (List ℕ)) → IsKnown (value_of place item binding some) → (a b : List ℕ) → Stands a some → Stands b some → a ≢ b → ⊥
    known_one place item binding [] known a b one two apart = one
    known_one place item binding (x ∷ []) known a b (inl one) (inl two) apart = apart (sym one ∙ two)
    known_one place item binding (x ∷ []) known a b (inl one) (inr two) apart = two
    known_one place item binding (x ∷ []) known a b (inr one) two apart = one
    known_one place item binding (x ∷ y ∷ some) known a b one two apart = cc

    module _ (place : Span) (item : Term) where
      abbrev itself : Subquery
      itself = record { tables = deeper; cond = cond; item = item; place = place }

      -- the value is known where the subquery gives at most one row
      value_known : IsKnownAt cond deeper → GivesOne itself ↔ AtEach tables (λ binding. IsKnown (value_of place item binding (true_rows binding)))
      value_known known = (
        λ one binding bound.
            one_known place item binding (true_rows binding) (differ_filter (is_true_inside db cond tables binding own) lists (lists_differ db own))
            (λ a b stands other apart.
            let first = filter_stands (is_true_inside db cond tables binding own) a lists stands in
            let second = filter_stands (is_true_inside db cond tables binding own) b lists other in
            one (binding ++ a ∷ []) (binding ++ b ∷ [])
            (bound_inside db own tables binding a bound first.0) (bound_inside db own tables binding b bound second.0)
            (differ_inside binding a b apart) first.1 second.1),
        λ all one two bound other differ is_true also_true.
            let first = split db own tables one bound in
            let second = split db own tables two other in
            let levels_differ = subst (λ ls. differ_in_last_level ls (second.0 ++ second.1 ∷ []) ≡ true) first.2 (subst (λ ls. differ_in_last_level one ls ≡ true) second.2 differ) in
            let apart = inside_differ first.0 second.0 first.1 second.1 levels_differ in
            let true_one = subst (λ ls. is_true_at db cond deeper ls ≡ true) first.2 is_true in
            let true_two = subst (λ ls. is_true_at db cond deeper (ls ++ second.1 ∷ []) ≡ true) (sym apart.0) (subst (λ ls. is_true_at db cond deeper ls ≡ true) second.2 also_true) in
            let test = is_true_inside db cond tables first.0 own in
            known_one place item first.0 (true_rows first.0) (all first.0 first.3) first.1 second.1
            (stands_filter test first.1 lists true_one first.4) (stands_filter test second.1 lists true_two second.4) apart.1,
      )

      abbrev scalar : List (List ℕ) → Evaluated Value
      scalar binding = and_then (λ inners. scalar_value place (items_at db item inners)) (chosen binding)

      scalar_known : AllGiveOne (scalar_subqueries cond deeper) ↔ IsKnownAt cond deeper →
          AllGiveOne (scalar_subqueries cond deeper ++ itself ∷ []) ↔ AtEach tables (λ binding. IsKnown (scalar binding))
      scalar_known law =
          let inside = scalar_subqueries cond deeper in (
            λ one.
                let known = law.0 (λ s here. one s (stands_front s inside (itself ∷ []) here)) in
                λ binding bound.
                let found = (value_known known).0 (one itself (stands_behind itself inside (itself ∷ []) (inl refl))) binding bound in
                (found.0, ap (and_then (λ inners. scalar_value place (items_at db item inners))) (chosen_is known binding bound) ∙ found.1),
            λ all.
                let parts = λ (binding : List (List ℕ)) (bound : is_binding db tables binding ≡ true). known_then (λ inners. scalar_value place (items_at db item inners)) (chosen binding) (all binding bound) in
                let known : IsKnownAt cond deeper = chosen_known.1 (λ binding bound. ((parts binding bound).0, (parts binding bound).1)) in
                λ s here. elim (stands_either s inside (itself ∷ []) here) [
                  | inl deep ↦ law.1 known s deep
                  | inr (inl same) ↦
                      subst GivesOne same
                      ((value_known known).1 (λ binding bound.
                      let found = all binding bound in
                      (found.0, sym (ap (and_then (λ inners. scalar_value place (items_at db item inners))) (chosen_is known binding bound)) ∙ found.1)))
                  | inr (inr none) ↦ absurd none
                ],
          )

  -- ---- each kind of condition

  abbrev LawBlock : Block → Type 0
  LawBlock block = Law (out-Block block).cond

  abbrev LawBlocks : Type 0
  LawBlocks = (block : Block) × LawBlock block

  -- one that asks of what a subquery selects
  around : (cond : Cond) (block : Block) (f : List (List ℕ) → List (List ℕ) → List Inner → Truth) →
      ((tables : List (List ℕ)) → scalar_subqueries cond tables ≡ scalar_subqueries (out-Block block).cond (tables ++ tables_of (out-Block block).entries ∷ [])) →
      ((tables binding : List (List ℕ)) → truth db cond tables binding ≡ map_ok (f tables binding) (selected ((block_truth db block).bindings tables binding))) →
      LawBlock block → Law cond
  around cond block f lists is law tables =
      let inside = (out-Block block).cond in
      let own = tables_of (out-Block block).entries in
      by_parts cond tables (scalar_subqueries inside (tables ++ own ∷ [])) (λ binding. IsKnown (chosen inside own tables binding)) (lists tables)
      (λ binding.
      let made = is tables binding ∙ ap (λ (m : BlockMeaning). map_ok (f tables binding) (selected (m.bindings tables binding))) (block_truth_is db block) in
      subst (λ t. IsKnown (chosen inside own tables binding) ↔ IsKnown t) (sym made) (known_map (f tables binding) (chosen inside own tables binding)))
      (then (law (tables ++ own ∷ [])) (chosen_known inside own tables))

  map_then : {A : Type 0} (g : Value → Truth) (f : A → Evaluated Value) (e : Evaluated A) → and_then (λ a. map_ok g (f a)) e ≡ map_ok g (and_then f e)
  map_then g f (Ok a) = refl
  map_then g f (Err place) = refl

  compared : (op : Op) (left : Term) (block : Block) (item : Term) (span : Span) → LawBlock block → Law (c.Scalar op left block item span)
  compared op left block item span law tables =
      let inside = (out-Block block).cond in
      let own = tables_of (out-Block block).entries in
      let place = (out-Block block).span in
      by_parts (c.Scalar op left block item span) tables (scalar_subqueries inside (tables ++ own ∷ []) ++ subquery tables block item place ∷ [])
      (λ binding. IsKnown (scalar inside own tables place item binding)) (scalars_scalar tables op left block item span)
      (λ binding.
      let test = compare op (term_value db tables binding left) in
      let made =
      truth_scalar db op left block item span tables binding
      ∙ (ap (λ (m : BlockMeaning). and_then (λ inners. map_ok test (scalar_value m.place (items_at db item inners))) (selected (m.bindings tables binding))) (block_truth_is db block)
      ∙ map_then test (λ inners. scalar_value place (items_at db item inners)) (chosen inside own tables binding))
      in
      subst (λ t. IsKnown (scalar inside own tables place item binding) ↔ IsKnown t) (sym made) (known_map test (scalar inside own tables place item binding)))
      (scalar_known inside own tables place item (law (tables ++ own ∷ [])))

  several : (cond : Cond) (parts : List LawCond) (f : List Truth → Truth) →
      ((tables : List (List ℕ)) → scalar_subqueries cond tables ≡ flat_map (λ part. scalar_subqueries part tables) (conds parts)) →
      ((tables binding : List (List ℕ)) → truth db cond tables binding ≡ map_ok f (all_ok (map (λ part. truth db part tables binding) (conds parts)))) → Law cond
  several cond parts f lists is tables =
      by_parts cond tables (flat_map (λ part. scalar_subqueries part tables) (conds parts)) (λ binding. IsKnown (all_ok (map (λ part. truth db part tables binding) (conds parts)))) (lists tables)
      (λ binding.
      let each = all_ok (map (λ part. truth db part tables binding) (conds parts)) in
      subst (λ t. IsKnown each ↔ IsKnown t) (sym (is tables binding)) (known_map f each))
      (parts_law parts tables)

  negated : (part : Cond) → Law part → Law (c.Not part)
  negated part law tables =
      by_parts (c.Not part) tables (scalar_subqueries part tables) (λ binding. IsKnown (truth db part tables binding)) (scalars_not tables part)
      (λ binding. subst (λ t. IsKnown (truth db part tables binding) ↔ IsKnown t) (sym (truth_not db part tables binding)) (known_map not_of (truth db part tables binding)))
      (law tables)

  layer : (y : Cond-F LawCond LawBlocks) → Law (roll-Cond (map-Cond LawCond LawBlocks Cond Block (λ e. e.0) (λ e. e.0) y))
  layer Cond-F.True = subst Law (sym c.rolls-True) (leaf c.True scalars_true (λ tables binding. (_, truth_true db tables binding)))
  layer Cond-F.False = subst Law (sym c.rolls-False) (leaf c.False scalars_false (λ tables binding. (_, truth_false db tables binding)))
  layer (Cond-F.And parts) =
      subst Law (sym (c.rolls-And (conds parts))) (several (c.And (conds parts)) parts and_of (λ tables. scalars_and tables (conds parts)) (truth_and db (conds parts)))
  layer (Cond-F.Or parts) =
      subst Law (sym (c.rolls-Or (conds parts))) (several (c.Or (conds parts)) parts or_of (λ tables. scalars_or tables (conds parts)) (truth_or db (conds parts)))
  layer (Cond-F.Not part) = subst Law (sym (c.rolls-Not part.0)) (negated part.0 part.1)
  layer (Cond-F.Compare op left right span) =
      subst Law (sym (c.rolls-Compare op left right span))
      (leaf (c.Compare op left right span) (λ tables. scalars_compare tables op left right span) (λ tables binding. (_, truth_compare db op left right span tables binding)))
  layer (Cond-F.IsNull term negated span) =
      subst Law (sym (c.rolls-IsNull term negated span))
      (leaf (c.IsNull term negated span) (λ tables. scalars_is_null tables term negated span) (λ tables binding. (_, truth_is_null db term negated span tables binding)))
  layer (Cond-F.Exists block span) =
      subst Law (sym (c.rolls-Exists block.0 span))
      (around (c.Exists block.0 span) block.0 (λ tables binding. exists_truth) (λ tables. scalars_exists tables block.0 span) (truth_exists db block.0 span) block.1)
  layer (Cond-F.In term block item negated span) =
      subst Law (sym (c.rolls-In term block.0 item negated span))
      (around (c.In term block.0 item negated span) block.0
      (λ tables binding inners. negated_if negated (in_truth (term_value db tables binding term) (items_at db item inners)))
      (λ tables. scalars_in tables term block.0 item negated span) (truth_in db term block.0 item negated span) block.1)
  layer (Cond-F.Scalar op left block item span) = subst Law (sym (c.rolls-Scalar op left block.0 item span)) (compared op left block.0 item span block.1)

  pub law : (cond : Cond) → Law cond
  law = ind-Cond Law LawBlock (λ x y is. subst (λ z. Law (roll-Cond z)) is (layer y)) (λ x y is. subst (λ z. LawBlock (roll-Block z)) is y.cond.1)
