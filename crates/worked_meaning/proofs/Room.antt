-- The main condition of a query that fits can stand at the row of its one entry: its subqueries have at most 16
-- entries for each of their conditions.
use Rattle.std.proofs.Common.{◌≡◌, ◌∙◌, get_or, refl, sym, ap, subst, ℕ, ◌+◌, ◌*◌, ◌^◌, ◌<◌, ◌≤◌, Bool, true, false, ◌&&◌, List, [], ◌∷◌, ◌++◌, length, map, nat_le, nat_lt, arith}
use Rattle.std.proofs.lemmas.Bool.{leb-true}
use Rattle.std.proofs.lemmas.List.Sums.{sum_by-cons}
use Rattle.std.specs.List.{list_all}
use Rattle.std.specs.Prelude.{sum}
use Rattle.lint_core.specs.declared.condition.Block.{Block, roll-Block, fold-Block, fold-roll-Block, map-Block, out-Block, fold_out-Block}
use Rattle.lint_core.specs.declared.condition.Cond.{Cond, ind-Cond, roll-Cond, fold-Cond, fold-roll-Cond, map-Cond}
use Rattle.lint_core.specs.declared.condition.Cond.TheOpen.{Cond-F, Block-F}
use Rattle.lint_core.specs.declared.condition.Entry.{Entry}
use Rattle.lint_core.specs.declared.query.Query.{Query}
use Rattle.lint_core.specs.declared.schema.Table.{Table}
use Rattle.lint_core.specs.Fits.{Meaning, BlockMeaning, fits_step, cond_fits, block_fits, block_meaning, tables_of, query_fits, selection_fits, count_conditions, count_step}
use Rattle.lint_core.specs.Fits as fits
use Rattle.lint_base.proofs.Lists.{both_left, both_right}
use Rattle.lint_core.specs.declared.scope.Scope.{Scope}
use Rattle.truth_formula.specs.Scopes.{CanStand, count_entries, entries_step, block_step}

module _ (schema : List Table) where
  abbrev meaning : Cond → Meaning
  meaning = fold-Cond Meaning BlockMeaning (fits_step schema) (fits.block_step schema)

  abbrev block_entries : Block → ℕ
  block_entries = fold-Block ℕ ℕ entries_step block_step

  abbrev block_conditions : Block → ℕ
  block_conditions = fold-Block ℕ ℕ count_step (λ block. block.cond)

  abbrev Few : Cond → Type 0
  Few cond = (tables : List (List ℕ)) → meaning cond tables ≡ true → count_entries cond ≤ 16 * count_conditions cond

  abbrev FewInside : Block → Type 0
  FewInside block = (tables : List (List ℕ)) → (block_meaning schema block).fits tables ≡ true → block_entries block ≤ 16 + 16 * block_conditions block

  abbrev FewCond : Type 0
  FewCond = (cond : Cond) × Few cond

  abbrev FewBlock : Type 0
  FewBlock = (block : Block) × FewInside block

  abbrev part_of : Cond-F FewCond FewBlock → Cond-F Cond Block
  part_of = map-Cond FewCond FewBlock Cond Block (λ e. e.0) (λ e. e.0)

  abbrev block_of : Block-F FewCond FewBlock → Block-F Cond Block
  block_of = map-Block FewCond FewBlock Cond Block (λ e. e.0) (λ e. e.0)

  abbrev conds : List FewCond → List Cond
  conds parts = map (λ (e : FewCond). e.0) parts

  abbrev layer_fits : Cond-F Cond Block → Meaning
  layer_fits layer = fits_step schema (map-Cond Cond Block Meaning BlockMeaning meaning (block_meaning schema) layer)

  abbrev layer_entries : Cond-F Cond Block → ℕ
  layer_entries layer = entries_step (map-Cond Cond Block ℕ ℕ count_entries block_entries layer)

  abbrev layer_conditions : Cond-F Cond Block → ℕ
  layer_conditions layer = count_step (map-Cond Cond Block ℕ ℕ count_conditions block_conditions layer)

  joined : (a b c d e f : ℕ) → e ≡ a + b → f ≡ c + d → a ≤ 16 * c → b ≤ 16 * d → e ≤ 16 * f
  joined a b c d e f one other here rest = omega (arith, one, other, here, rest)

  parts_few : (parts : List FewCond) (tables : List (List ℕ)) → list_all (λ (part : Meaning). part tables) (map meaning (conds parts)) ≡ true →
      sum (map count_entries (conds parts)) ≤ 16 * sum (map count_conditions (conds parts))
  parts_few [] tables fit = omega arith
  parts_few (part ∷ parts) tables fit =
      let rest_fit = list_all (λ (part : Meaning). part tables) (map meaning (conds parts)) in
      joined (count_entries part.0) (sum (map count_entries (conds parts))) (count_conditions part.0) (sum (map count_conditions (conds parts))) _ _
      (sum_by-cons (λ n. n) (count_entries part.0) (map count_entries (conds parts)))
      (sum_by-cons (λ n. n) (count_conditions part.0) (map count_conditions (conds parts)))
      (part.1 tables (both_left (meaning part.0 tables) rest_fit fit))
      (parts_few parts tables (both_right (meaning part.0 tables) rest_fit fit))

  one_more : (n m : ℕ) → n ≤ 16 * m → n ≤ 16 * (1 + m)
  one_more n m few = omega (arith, few)

  at_parts : (parts : List FewCond) (tables : List (List ℕ)) → list_all (λ (part : Meaning). part tables) (map meaning (conds parts)) ≡ true →
      sum (map count_entries (conds parts)) ≤ 16 * (1 + sum (map count_conditions (conds parts)))
  at_parts parts tables fit = one_more (sum (map count_entries (conds parts))) (sum (map count_conditions (conds parts))) (parts_few parts tables fit)

  inside : (n m : ℕ) → n ≤ 16 + 16 * m → n ≤ 16 * (1 + m)
  inside n m few = omega (arith, few)

  at_block : (block : FewBlock) (tables : List (List ℕ)) → (block_meaning schema block.0).fits tables ≡ true → block_entries block.0 ≤ 16 * (1 + block_conditions block.0)
  at_block block tables fit = inside (block_entries block.0) (block_conditions block.0) (block.1 tables fit)

  first_of : (a b c : Bool) → (a && b && c) ≡ true → a ≡ true
  first_of true b c is = refl
  first_of false b c is = cc

  none : (n : ℕ) → 0 ≤ n
  none n = omega arith

  at_layer : (y : Cond-F FewCond FewBlock) (tables : List (List ℕ)) → layer_fits (part_of y) tables ≡ true → layer_entries (part_of y) ≤ 16 * layer_conditions (part_of y)
  at_layer Cond-F.True tables fit = omega arith
  at_layer Cond-F.False tables fit = omega arith
  at_layer (Cond-F.And parts) tables fit = at_parts parts tables fit
  at_layer (Cond-F.Or parts) tables fit = at_parts parts tables fit
  at_layer (Cond-F.Not part) tables fit = one_more (count_entries part.0) (count_conditions part.0) (part.1 tables fit)
  at_layer (Cond-F.Compare op left right span) tables fit = omega arith
  at_layer (Cond-F.IsNull t negated span) tables fit = omega arith
  at_layer (Cond-F.Exists block span) tables fit = at_block block tables fit
  at_layer (Cond-F.In t block item negated span) tables fit = at_block block tables (first_of ((block_meaning schema block.0).fits tables) _ _ fit)
  at_layer (Cond-F.Scalar op left block item span) tables fit = at_block block tables (first_of ((block_meaning schema block.0).fits tables) _ _ fit)

  rolled : (y : Cond-F FewCond FewBlock) → Few (roll-Cond (part_of y))
  rolled y tables fit =
      subst (λ n. n ≤ 16 * count_conditions (roll-Cond (part_of y))) (sym (fold-roll-Cond ℕ ℕ entries_step block_step (part_of y)))
      (subst (λ n. layer_entries (part_of y) ≤ 16 * n) (sym (fold-roll-Cond ℕ ℕ count_step (λ block. block.cond) (part_of y)))
      (at_layer y tables (sym (ap (λ (m : Meaning). m tables) (fold-roll-Cond Meaning BlockMeaning (fits_step schema) (fits.block_step schema) (part_of y))) ∙ fit)))

  at_inside : (y : Block-F FewCond FewBlock) (tables : List (List ℕ)) →
      (fits.block_step schema (map-Block Cond Block Meaning BlockMeaning meaning (block_meaning schema) (block_of y))).fits tables ≡ true →
      block_step (map-Block Cond Block ℕ ℕ count_entries block_entries (block_of y)) ≤ 16 + 16 * count_conditions y.cond.0
  at_inside y tables fit =
      let few = nat_le (length y.entries) 16 in
      let exist = list_all (λ (e : Entry). nat_lt e.table (length schema)) y.entries in
      let within = tables ++ tables_of y.entries ∷ [] in
      let at_most = leb-true (length y.entries) 16 (first_of few exist (meaning y.cond.0 within) fit) in
      let under = y.cond.1 within (both_right (few && exist) (meaning y.cond.0 within) fit) in
      omega (arith, at_most, under)

  rolled_block : (y : Block-F FewCond FewBlock) → FewInside (roll-Block (block_of y))
  rolled_block y tables fit =
      subst (λ n. n ≤ 16 + 16 * block_conditions (roll-Block (block_of y))) (sym (fold-roll-Block ℕ ℕ entries_step block_step (block_of y)))
      (subst (λ n. block_step (map-Block Cond Block ℕ ℕ count_entries block_entries (block_of y)) ≤ 16 + 16 * n) (sym (fold-roll-Block ℕ ℕ count_step (λ block. block.cond) (block_of y)))
      (at_inside y tables (sym (ap (λ (m : BlockMeaning). m.fits tables) (fold-roll-Block Meaning BlockMeaning (fits_step schema) (fits.block_step schema) (block_of y))) ∙ fit)))

  few_entries : (cond : Cond) → Few cond
  few_entries =
      ind-Cond Few FewInside
      (λ x y is. subst (λ z. Few (roll-Cond z)) is (rolled y))
      (λ x y is. subst (λ z. FewInside (roll-Block z)) is (rolled_block y))

  module _ (query : Query) (entry : Entry) (fit : query_fits schema query ≡ true) (one : (out-Block query.block).entries ≡ entry ∷ []) where
    abbrev block : Block-F Cond Block
    block = out-Block query.block

    abbrev selected : Bool
    selected = selection_fits schema query

    abbrev inner : Bool
    inner = block_fits schema [] query.block

    abbrev few : Bool
    few = nat_le (count_conditions block.cond) 65536

    abbrev known : Bool
    known = nat_le (length block.entries) 16 && list_all (λ (e : Entry). nat_lt e.table (length schema)) block.entries

    main_is : cond_fits schema (tables_of block.entries ∷ []) block.cond ≡ true
    main_is =
        both_right known (cond_fits schema (tables_of block.entries ∷ []) block.cond)
        (ap (λ (m : BlockMeaning). m.fits []) (sym (fold_out-Block Meaning BlockMeaning (fits_step schema) (fits.block_step schema) query.block))
        ∙ both_right selected inner (both_left (selected && inner) few fit))

    at_entry : cond_fits schema ((entry.table ∷ []) ∷ []) block.cond ≡ true
    at_entry = subst (λ (entries : List Entry). cond_fits schema (tables_of entries ∷ []) block.cond ≡ true) one main_is

    abbrev given : Scope
    given = record { levels = (0 ∷ []) ∷ []; tables = (entry.table ∷ []) ∷ []; depth = 1 }

    suffices : (n m : ℕ) → n ≤ 16 * m → m ≤ 65536 → 1 + n < 2 ^ 32
    suffices n m few most = omega (arith, few, most)

    pub can_stand : CanStand schema block.cond given
    can_stand = record {
      fits = at_entry;
      variables = refl;
      below = refl;
      room =
          suffices (count_entries block.cond) (count_conditions block.cond) (few_entries block.cond ((entry.table ∷ []) ∷ []) at_entry)
          (leb-true (count_conditions block.cond) 65536 (both_right (selected && inner) few fit));
    }

-- a scope with one level, whose one entry stands in the table
pub can_stand_at : (schema : List Table) (query : Query) (entry : Entry) (levels tables : List (List ℕ)) → query_fits schema query ≡ true →
    (out-Block query.block).entries ≡ entry ∷ [] → levels ≡ (0 ∷ []) ∷ [] → tables ≡ (entry.table ∷ []) ∷ [] →
    CanStand schema (out-Block query.block).cond (record { levels = levels; tables = tables; depth = 1 })
can_stand_at schema query entry levels tables fit one level table =
    subst (λ ls. CanStand schema (out-Block query.block).cond (record { levels = ls; tables = tables; depth = 1 })) (sym level)
    (subst (λ ts. CanStand schema (out-Block query.block).cond (record { levels = (0 ∷ []) ∷ []; tables = ts; depth = 1 })) (sym table)
    (can_stand schema query entry fit one))

-- a list of one
pub only_item : {A : Type 0} (xs : List A) (x : A) → 1 ≤ length xs → length xs < 2 → x ≡ get_or xs 0 x → xs ≡ x ∷ []
only_item [] x least most first = grind arith
only_item (y ∷ []) x least most first = ap (λ z. z ∷ []) (sym first)
only_item (y ∷ z ∷ zs) x least most first = grind arith
