-- The truth of a condition depends on the rows that its binding names, and on those of the tables that it names.
use Rattle.std.proofs.Common.{◌≡◌, ◌∙◌, ◌≤◌, ◌<◌, ◌+◌, sym, ap, ap₂, refl, subst, ℕ, true, false, List, [], ◌∷◌, ◌++◌, length, map, if◌then◌else◌, inl, inr, arith}
use Rattle.std.proofs.lemmas.Bool.{cases_lt}
use Rattle.std.proofs.lemmas.Option.{slice_get_past}
use Rattle.std.specs.Prelude.{Option, Some, None, Ok, Err, slice_get, unwrap_or, option_and_then}
use Rattle.std.specs.Option.{option_map}
use Rattle.std.specs.List.{AllByRecursion, flat_map}
use Rattle.lint_core.specs.declared.condition.Term.{Term}
use Rattle.lint_core.specs.declared.condition.Term.TheVariants as term
use Rattle.lint_core.specs.declared.condition.Block.{Block, roll-Block, fold-Block, fold-roll-Block, map-Block}
use Rattle.lint_core.specs.declared.condition.Cond.{Cond, ind-Cond, roll-Cond, fold-roll-Cond, map-Cond}
use Rattle.lint_core.specs.declared.condition.Cond.TheOpen.{Cond-F, Block-F}
use Rattle.lint_core.specs.declared.database.Database.{Database}
use Rattle.lint_core.specs.declared.database.Row.{Row}
use Rattle.lint_core.specs.declared.database.Truth.{Truth}
use Rattle.lint_core.specs.declared.database.Truth.TheVariants.{False, True}
use Rattle.lint_core.specs.declared.database.Value.{Value}
use Rattle.lint_core.specs.declared.database.Value.TheVariants.{Null}
use Rattle.lint_core.specs.Comparison.{compare, plus, is_null}
use Rattle.lint_core.specs.Condition.{Inner, Meaning, BlockMeaning, place_of, term_value, items_at, inner_bindings, selected, exists_truth, in_truth, scalar_value, cond_step, block_step, truth}
use Rattle.lint_core.specs.Fits.{at_entry}
use Rattle.lint_core.specs.Database.{Place, rows_of, value_at, below, row_lists}
use Rattle.lint_core.specs.Evaluation.{Evaluated, and_then, map_ok, all_ok}
use Rattle.lint_core.specs.Fits.{tables_of}
use Rattle.meaning_laws.specs.SameRows.{HaveEqualRows, named_step, block_named_step, tables_named, HaveSameTables}
use Rattle.lint_core.specs.Truth.{truth_of, is_true, not_of, negated_if, and_of, or_of}
use Rattle.lint_core.proofs.Conditions.{block_truth, layer_truth}
use Rattle.lint_core.proofs.LevelTables.{length_inside, at_outer, at_own}
use Rattle.lint_base.proofs.Lists.{every_at, every_parts}
use Rattle.meaning_laws.proofs.MeaningLaws.{map_ok_map_ok}

-- ---- what is selected

-- the item's values at the inner bindings that are selected
abbrev items_selected : Database → Term → List Inner → Evaluated (List Value)
items_selected db item inners = map_ok (items_at db item) (selected inners)

items_step : (db : Database) (item : Term) (inner : Inner) (inners : List Inner) →
    items_selected db item (inner ∷ inners)
    ≡ and_then (λ t. map_ok (λ later. if is_true t then term_value db inner.tables inner.binding item ∷ later else later) (items_selected db item inners)) inner.truth
items_step db item inner inners =
    elim inner.truth as (λ e.
    map_ok (items_at db item) (and_then (λ t. map_ok (λ later. if is_true t then inner ∷ later else later) (selected inners)) e)
    ≡ and_then (λ t. map_ok (λ later. if is_true t then term_value db inner.tables inner.binding item ∷ later else later) (map_ok (items_at db item) (selected inners))) e) [
      | Ok t ↦
          elim (selected inners) as (λ others.
          map_ok (items_at db item) (map_ok (λ later. if is_true t then inner ∷ later else later) others)
          ≡ map_ok (λ later. if is_true t then term_value db inner.tables inner.binding item ∷ later else later) (map_ok (items_at db item) others)) [
            | Ok later ↦ ap Ok (elim (is_true t) as (λ b. items_at db item (if b then inner ∷ later else later) ≡ (if b then term_value db inner.tables inner.binding item ∷ items_at db item later else items_at db item later)) [
              | true ↦ refl
              | false ↦ refl
            ])
            | Err place ↦ refl
          ]
      | Err place ↦ refl
    ]

some : List Value → Truth
some [] = False
some (value ∷ values) = True

exists_by_items : (db : Database) (item : Term) (inners : Evaluated (List Inner)) → map_ok exists_truth inners ≡ map_ok some (map_ok (items_at db item) inners)
unfolding some
exists_by_items db item (Ok []) = refl
exists_by_items db item (Ok (inner ∷ inners)) = refl
exists_by_items db item (Err place) = refl

and_then_map_ok : {A B C : Type 0} (f : A → B) (g : B → Evaluated C) (e : Evaluated A) → and_then g (map_ok f e) ≡ and_then (λ a. g (f a)) e
and_then_map_ok f g (Ok a) = refl
and_then_map_ok f g (Err place) = refl

-- ---- rows

-- the values of a row, where its table and its place are there
abbrev values_at : Database → Option ℕ → Option ℕ → Option (List Value)
values_at db table row =
    option_and_then (λ (place : Place). option_map (λ (row : Row). row.values) (slice_get (rows_of db place.table) place.row))
    (option_and_then (λ table. option_and_then (λ row. Some (record { table = table; row = row })) row) table)

column_of : (db : Database) (place : Option Place) (column : ℕ) →
    option_and_then (λ place. value_at db place column) place
    ≡ option_and_then (λ values. slice_get values column) (option_and_then (λ (place : Place). option_map (λ (row : Row). row.values) (slice_get (rows_of db place.table) place.row)) place)
column_of db None column = refl
column_of db (Some place) column =
    elim (slice_get (rows_of db place.table) place.row) as (λ row.
    option_and_then (λ (r : Row). slice_get r.values column) row ≡ option_and_then (λ values. slice_get values column) (option_map (λ (r : Row). r.values) row)) [
      | Some row ↦ refl
      | None ↦ refl
    ]

module _ (db other : Database) where
  term_same : (tables binding others : List (List ℕ)) → HaveEqualRows db other tables binding others → (t : Term) → term_value db tables binding t ≡ term_value other tables others t
  term_same tables binding others rows (term.Cell level entry column added) =
      ap (λ o. plus (unwrap_or o Null) added)
      (column_of db (place_of db tables binding level entry) column
      ∙ (ap (option_and_then (λ values. slice_get values column)) (rows.equal level entry)
      ∙ sym (column_of other (place_of other tables others level entry) column)))
  term_same tables binding others rows (term.Number n unit) = refl
  term_same tables binding others rows (term.Text text) = refl
  term_same tables binding others rows term.Null = refl

  own_same : (own rows : List ℕ) → HaveSameTables db other own → (entry : ℕ) → values_at db (slice_get own entry) (slice_get rows entry) ≡ values_at other (slice_get own entry) (slice_get rows entry)
  own_same own rows same entry =
      elim (slice_get own entry) as (λ table. slice_get own entry ≡ table → values_at db table (slice_get rows entry) ≡ values_at other table (slice_get rows entry)) [
        | None ↦ λ at. refl
        | Some table ↦ λ at.
            elim (slice_get rows entry) as (λ row. values_at db (Some table) row ≡ values_at other (Some table) row) [
              | None ↦ refl
              | Some row ↦ ap (λ rs. option_map (λ (r : Row). r.values) (slice_get rs row)) (every_at (λ table. rows_of db table ≡ rows_of other table) own entry table same at)
            ]
      ]
      refl

  past : (levels : List (List ℕ)) (own : List ℕ) (level entry : ℕ) → length levels < level → at_entry (levels ++ own ∷ []) level entry ≡ None
  past levels own level entry far =
      let long : length (levels ++ own ∷ []) ≤ level = rw (length_inside levels own) (omega arith) in
      ap (option_and_then (λ entries. slice_get entries entry)) (slice_get_past (levels ++ own ∷ []) level long)

  -- one level more, with the same rows in each
  inside_same : (tables binding others : List (List ℕ)) (own rows : List ℕ) → HaveSameTables db other own → HaveEqualRows db other tables binding others →
      HaveEqualRows db other (tables ++ own ∷ []) (binding ++ rows ∷ []) (others ++ rows ∷ [])
  inside_same tables binding others own rows same equal = record {
    levels = length_inside binding rows ∙ (ap (λ n. n + 1) equal.levels ∙ sym (length_inside tables own));
    other_levels = length_inside others rows ∙ (ap (λ n. n + 1) equal.other_levels ∙ sym (length_inside tables own));
    equal = λ level entry.
        let b : length binding ≡ length tables = equal.levels in
        let o : length others ≡ length tables = equal.other_levels in
        elim (cases_lt level (length tables)) [
          | inl low ↦
              ap₂ (values_at db) (at_outer tables own level entry low) (at_outer binding rows level entry (omega arith))
              ∙ (equal.equal level entry
              ∙ sym (ap₂ (values_at other) (at_outer tables own level entry low) (at_outer others rows level entry (omega arith))))
          | inr high ↦
              elim (cases_lt (length tables) level) [
                | inl far ↦ ap (λ t. values_at db t (at_entry (binding ++ rows ∷ []) level entry)) (past tables own level entry far)
                    ∙ sym (ap (λ t. values_at other t (at_entry (others ++ rows ∷ []) level entry)) (past tables own level entry far))
                | inr near ↦
                    ap₂ (values_at db) (at_own tables own level entry (omega arith)) (at_own binding rows level entry (omega arith))
                    ∙ (own_same own rows same entry
                    ∙ sym (ap₂ (values_at other) (at_own tables own level entry (omega arith)) (at_own others rows level entry (omega arith))))
              ]
        ];
  }

  lists_same : (own : List ℕ) → HaveSameTables db other own → row_lists db own ≡ row_lists other own
  lists_same [] same = refl
  lists_same (table ∷ own) same = ap₂ (λ lists rows. flat_map (λ row. map (λ rows. row ∷ rows) lists) (below (length rows))) (lists_same own same.1) same.0

  -- ---- conditions

  abbrev Same : Cond → Type 0
  Same cond = (tables binding others : List (List ℕ)) → HaveSameTables db other (tables_named cond) → HaveEqualRows db other tables binding others → truth db cond tables binding ≡ truth other cond tables others

  abbrev block_named : Block → List ℕ
  block_named = fold-Block (List ℕ) (List ℕ) named_step block_named_step

  abbrev SameItems : Block → Type 0
  SameItems block = (tables binding others : List (List ℕ)) → HaveSameTables db other (block_named block) → HaveEqualRows db other tables binding others →
      (item : Term) → items_selected db item ((block_truth db block).bindings tables binding) ≡ items_selected other item ((block_truth other block).bindings tables others)

  abbrev SameBlock : Block → Type 0
  SameBlock block = ((block_truth db block).place ≡ (block_truth other block).place) × SameItems block

  abbrev SameCond : Type 0
  SameCond = (cond : Cond) × Same cond

  abbrev SameBlocks : Type 0
  SameBlocks = (block : Block) × SameBlock block

  abbrev part_of : Cond-F SameCond SameBlocks → Cond-F Cond Block
  part_of = map-Cond SameCond SameBlocks Cond Block (λ e. e.0) (λ e. e.0)

  abbrev block_part_of : Block-F SameCond SameBlocks → Block-F Cond Block
  block_part_of = map-Block SameCond SameBlocks Cond Block (λ e. e.0) (λ e. e.0)

  abbrev named_layer : Cond-F Cond Block → List ℕ
  named_layer layer = named_step (map-Cond Cond Block (List ℕ) (List ℕ) tables_named block_named layer)

  abbrev conds : List SameCond → List Cond
  conds parts = map (λ (e : SameCond). e.0) parts

  parts_same : (parts : List SameCond) (tables binding others : List (List ℕ)) → HaveSameTables db other (flat_map (λ part. part) (map tables_named (conds parts))) → HaveEqualRows db other tables binding others →
      map (λ part. part tables binding) (map (truth db) (conds parts)) ≡ map (λ part. part tables others) (map (truth other) (conds parts))
  parts_same [] tables binding others same rows = refl
  parts_same (part ∷ parts) tables binding others same rows =
      let split = every_parts (λ table. rows_of db table ≡ rows_of other table) (tables_named part.0) (flat_map (λ part. part) (map tables_named (conds parts))) same in
      ap₂ (λ (t : Evaluated Truth) (ts : List (Evaluated Truth)). t ∷ ts) (part.1 tables binding others split.0 rows) (parts_same parts tables binding others split.1 rows)

  at_layer : (y : Cond-F SameCond SameBlocks) (tables binding others : List (List ℕ)) → HaveSameTables db other (named_layer (part_of y)) → HaveEqualRows db other tables binding others →
      layer_truth db (part_of y) tables binding ≡ layer_truth other (part_of y) tables others
  at_layer Cond-F.True tables binding others same rows = refl
  at_layer Cond-F.False tables binding others same rows = refl
  at_layer (Cond-F.And parts) tables binding others same rows = ap (λ ts. map_ok and_of (all_ok ts)) (parts_same parts tables binding others same rows)
  at_layer (Cond-F.Or parts) tables binding others same rows = ap (λ ts. map_ok or_of (all_ok ts)) (parts_same parts tables binding others same rows)
  at_layer (Cond-F.Not part) tables binding others same rows = ap (map_ok not_of) (part.1 tables binding others same rows)
  at_layer (Cond-F.Compare op left right span) tables binding others same rows =
      ap₂ (λ a b. Ok (compare op a b)) (term_same tables binding others rows left) (term_same tables binding others rows right)
  at_layer (Cond-F.IsNull t negated span) tables binding others same rows = ap (λ a. Ok (negated_if negated (truth_of (is_null a)))) (term_same tables binding others rows t)
  at_layer (Cond-F.Exists block span) tables binding others same rows =
      exists_by_items db term.Null (selected ((block_truth db block.0).bindings tables binding))
      ∙ (ap (map_ok some) (block.1.1 tables binding others same rows term.Null)
      ∙ sym (exists_by_items other term.Null (selected ((block_truth other block.0).bindings tables others))))
  at_layer (Cond-F.In t block item negated span) tables binding others same rows =
      sym (map_ok_map_ok (items_at db item) (λ values. negated_if negated (in_truth (term_value db tables binding t) values)) (selected ((block_truth db block.0).bindings tables binding)))
      ∙ (ap₂ (λ a values. map_ok (λ values. negated_if negated (in_truth a values)) values) (term_same tables binding others rows t) (block.1.1 tables binding others same rows item)
      ∙ map_ok_map_ok (items_at other item) (λ values. negated_if negated (in_truth (term_value other tables others t) values)) (selected ((block_truth other block.0).bindings tables others)))
  at_layer (Cond-F.Scalar op left block item span) tables binding others same rows =
      sym (and_then_map_ok (items_at db item) (λ values. map_ok (compare op (term_value db tables binding left)) (scalar_value (block_truth db block.0).place values)) (selected ((block_truth db block.0).bindings tables binding)))
      ∙ (ap₂ (λ a place. and_then (λ values. map_ok (compare op a) (scalar_value place values)) (items_selected db item ((block_truth db block.0).bindings tables binding))) (term_same tables binding others rows left) block.1.0
      ∙ (ap (and_then (λ values. map_ok (compare op (term_value other tables others left)) (scalar_value (block_truth other block.0).place values))) (block.1.1 tables binding others same rows item)
      ∙ and_then_map_ok (items_at other item) (λ values. map_ok (compare op (term_value other tables others left)) (scalar_value (block_truth other block.0).place values)) (selected ((block_truth other block.0).bindings tables others))))

  -- ---- subqueries

  module _ (cond : Cond) (meaning : Same cond) (named : HaveSameTables db other (tables_named cond)) (tables binding others : List (List ℕ)) (equal : HaveEqualRows db other tables binding others) (own : List ℕ) (same : HaveSameTables db other own) (item : Term) where
    abbrev inner : Database → List (List ℕ) → List ℕ → Inner
    inner within outer rows = record {
      tables = tables ++ own ∷ [];
      binding = outer ++ rows ∷ [];
      truth = truth within cond (tables ++ own ∷ []) (outer ++ rows ∷ []);
    }

    items_same : (lists : List (List ℕ)) → items_selected db item (map (inner db binding) lists) ≡ items_selected other item (map (inner other others) lists)
    items_same [] = refl
    items_same (rows ∷ lists) =
        let inside = inside_same tables binding others own rows same equal in
        let here = meaning (tables ++ own ∷ []) (binding ++ rows ∷ []) (others ++ rows ∷ []) named inside in
        let value = term_same (tables ++ own ∷ []) (binding ++ rows ∷ []) (others ++ rows ∷ []) inside item in
        items_step db item (inner db binding rows) (map (inner db binding) lists)
        ∙ (ap₂ (λ (v : Value) (values : Evaluated (List Value)). and_then (λ t. map_ok (λ later. if is_true t then v ∷ later else later) values) (truth db cond (tables ++ own ∷ []) (binding ++ rows ∷ []))) value (items_same lists)
        ∙ (ap (and_then (λ t. map_ok (λ later. if is_true t then term_value other (tables ++ own ∷ []) (others ++ rows ∷ []) item ∷ later else later) (items_selected other item (map (inner other others) lists)))) here
        ∙ sym (items_step other item (inner other others rows) (map (inner other others) lists))))

    block_items : items_selected db item (inner_bindings db own (truth db cond) tables binding) ≡ items_selected other item (inner_bindings other own (truth other cond) tables others)
    block_items =
        ap (λ lists. items_selected db item (map (inner db binding) lists)) (lists_same own same)
        ∙ items_same (row_lists other own)

  cond_rolled : (y : Cond-F SameCond SameBlocks) → Same (roll-Cond (part_of y))
  cond_rolled y tables binding others same rows =
      let named = fold-roll-Cond (List ℕ) (List ℕ) named_step block_named_step (part_of y) in
      ap (λ (m : Meaning). m tables binding) (fold-roll-Cond Meaning BlockMeaning (cond_step db) (block_step db) (part_of y))
      ∙ (at_layer y tables binding others (subst (HaveSameTables db other) named same) rows
      ∙ sym (ap (λ (m : Meaning). m tables others) (fold-roll-Cond Meaning BlockMeaning (cond_step other) (block_step other) (part_of y))))

  block_rolled : (y : Block-F SameCond SameBlocks) → SameBlock (roll-Block (block_part_of y))
  block_rolled y =
      let one = fold-roll-Block Meaning BlockMeaning (cond_step db) (block_step db) (block_part_of y) in
      let two = fold-roll-Block Meaning BlockMeaning (cond_step other) (block_step other) (block_part_of y) in (
        ap (λ (m : BlockMeaning). m.place) one ∙ sym (ap (λ (m : BlockMeaning). m.place) two),
        λ tables binding others same rows item.
            let named = fold-roll-Block (List ℕ) (List ℕ) named_step block_named_step (block_part_of y) in
            let split = every_parts (λ table. rows_of db table ≡ rows_of other table) (tables_of y.entries) (tables_named y.cond.0) (subst (HaveSameTables db other) named same) in
            ap (λ (m : BlockMeaning). items_selected db item (m.bindings tables binding)) one
            ∙ (block_items y.cond.0 y.cond.1 split.1 tables binding others rows (tables_of y.entries) split.0 item
            ∙ sym (ap (λ (m : BlockMeaning). items_selected other item (m.bindings tables others)) two)),
      )

  pub truth_same : (cond : Cond) → Same cond
  truth_same =
      ind-Cond Same SameBlock
      (λ x y is. subst (λ z. Same (roll-Cond z)) is (cond_rolled y))
      (λ x y is. subst (λ z. SameBlock (roll-Block z)) is (block_rolled y))

pub all_same : (db : Database) (tables : List ℕ) → HaveSameTables db db tables
all_same db [] = tt
all_same db (table ∷ tables) = (refl, all_same db tables)
