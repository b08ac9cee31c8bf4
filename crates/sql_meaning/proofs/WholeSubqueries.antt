-- The subqueries with their whole blocks, of each kind of condition by its parts, and that without the entries of
-- the blocks they are those that lint_core lists.
use Rattle.std.proofs.Common.{◌≡◌, ◌∙◌, refl, sym, ap, ap₂, subst, ℕ, Bool, true, false, ◌&&◌, List, [], ◌∷◌, ◌++◌, map, if◌then◌else◌, Option, Some, None, slice_get}
use Rattle.std.specs.Prelude.{option_map}
use Rattle.std.proofs.lemmas.List.{map-append}
use Rattle.std.proofs.lemmas.List.Folds.{flat_map-map}
use Rattle.std.proofs.lemmas.Option.{slice_get-map}
use Rattle.std.specs.List.{flat_map}
use Rattle.lint_base.specs.declared.place.Span.{Span}
use Rattle.lint_tables.specs.declared.op.Op.{Op}
use Rattle.lint_core.specs.declared.condition.Term.{Term}
use Rattle.lint_core.specs.declared.condition.Cond.{Cond, ind-Cond, roll-Cond, map-Cond}
use Rattle.lint_core.specs.declared.condition.Cond.TheVariants as c
use Rattle.lint_core.specs.declared.condition.Cond.TheOpen.{Cond-F, Block-F}
use Rattle.lint_core.specs.declared.condition.Block.{Block, out-Block, roll-Block, out-roll-Block, map-Block}
use Rattle.lint_core.specs.Fits.{tables_of}
use Rattle.lint_core.specs.Parts.{described}
use Rattle.lint_core.specs.Subqueries as sub
use Rattle.lint_core.proofs.Described.{block_itself_is, meaning_out, block_meaning_is, block_described, layer_described}
use Rattle.sql_meaning.specs.declared.subqueries.Subquery.{Subquery}
use Rattle.sql_meaning.specs.Answered.{whole_of, subquery_of}
use Rattle.sql_meaning.specs.WholeSubqueries.{WholeSubquery, without_entries, Listing, CondPart, BlockPart, whole, in_parts, block_step, scalar_step, not_in_step, whole_scalars, whole_not_ins}

module _ (step : Cond-F CondPart BlockPart → Listing) where
  abbrev listed : Cond → Listing
  listed cond = (described Listing Listing step block_step cond).meaning

  abbrev listed_block : Block → BlockPart
  listed_block = block_described Listing Listing step block_step

  abbrev listed_layer : Cond-F Cond Block → Cond-F CondPart BlockPart
  listed_layer = layer_described Listing Listing step block_step

  listed_out : (tables : List (List ℕ)) (cond : Cond) (layer : Cond-F Cond Block) → roll-Cond layer ≡ cond → listed cond tables ≡ step (listed_layer layer) tables
  listed_out tables cond layer is = ap (λ (l : Listing). l tables) (meaning_out Listing Listing step block_step cond layer is)

  parts_listed : (tables : List (List ℕ)) (parts : List Cond) → in_parts (map (described Listing Listing step block_step) parts) tables ≡ flat_map (λ part. listed part tables) parts
  parts_listed tables parts = flat_map-map (λ (part : CondPart). part.meaning tables) (described Listing Listing step block_step) parts

  block_listed : (tables : List (List ℕ)) (block : Block) → (listed_block block).meaning tables ≡ listed (out-Block block).cond (tables ++ tables_of (out-Block block).entries ∷ [])
  block_listed tables block = ap (λ (l : Listing). l tables) (block_meaning_is Listing Listing step block_step block)

  block_same : (block : Block) → (listed_block block).itself ≡ block
  block_same block = block_itself_is Listing Listing step block_step block

pub scalars_and : (tables : List (List ℕ)) (parts : List Cond) → whole_scalars (c.And parts) tables ≡ flat_map (λ part. whole_scalars part tables) parts
scalars_and tables parts = listed_out scalar_step tables (c.And parts) (Cond-F.And parts) (c.rolls-And parts) ∙ parts_listed scalar_step tables parts

pub scalars_or : (tables : List (List ℕ)) (parts : List Cond) → whole_scalars (c.Or parts) tables ≡ flat_map (λ part. whole_scalars part tables) parts
scalars_or tables parts = listed_out scalar_step tables (c.Or parts) (Cond-F.Or parts) (c.rolls-Or parts) ∙ parts_listed scalar_step tables parts

pub scalars_scalar : (tables : List (List ℕ)) (op : Op) (left : Term) (block : Block) (item : Term) (span : Span) →
    whole_scalars (c.Scalar op left block item span) tables ≡ whole_scalars (out-Block block).cond (tables ++ tables_of (out-Block block).entries ∷ []) ++ whole tables block item (out-Block block).span ∷ []
scalars_scalar tables op left block item span =
    listed_out scalar_step tables (c.Scalar op left block item span) (Cond-F.Scalar op left block item span) (c.rolls-Scalar op left block item span)
    ∙ ap₂ (λ (inside : List WholeSubquery) (b : Block). inside ++ whole tables b item (out-Block b).span ∷ []) (block_listed scalar_step tables block) (block_same scalar_step block)

pub not_ins_and : (tables : List (List ℕ)) (parts : List Cond) → whole_not_ins (c.And parts) tables ≡ flat_map (λ part. whole_not_ins part tables) parts
not_ins_and tables parts = listed_out not_in_step tables (c.And parts) (Cond-F.And parts) (c.rolls-And parts) ∙ parts_listed not_in_step tables parts

pub not_ins_or : (tables : List (List ℕ)) (parts : List Cond) → whole_not_ins (c.Or parts) tables ≡ flat_map (λ part. whole_not_ins part tables) parts
not_ins_or tables parts = listed_out not_in_step tables (c.Or parts) (Cond-F.Or parts) (c.rolls-Or parts) ∙ parts_listed not_in_step tables parts

pub not_ins_in : (tables : List (List ℕ)) (term : Term) (block : Block) (item : Term) (negated : Bool) (span : Span) →
    whole_not_ins (c.In term block item negated span) tables
    ≡ (if negated && sub.is_column item then whole tables block item span ∷ [] else []) ++ whole_not_ins (out-Block block).cond (tables ++ tables_of (out-Block block).entries ∷ [])
not_ins_in tables term block item negated span =
    listed_out not_in_step tables (c.In term block item negated span) (Cond-F.In term block item negated span) (c.rolls-In term block item negated span)
    ∙ ap₂ (λ (inside : List WholeSubquery) (b : Block). (if negated && sub.is_column item then whole tables b item span ∷ [] else []) ++ inside) (block_listed not_in_step tables block) (block_same not_in_step block)

-- one walk beside that of lint_core
module _ (step : Cond-F CondPart BlockPart → Listing) (core : Cond-F sub.CondPart sub.BlockPart → sub.Listing) where
  abbrev core_listed : Cond → sub.Listing
  core_listed cond = (described sub.Listing sub.Listing core sub.block_step cond).meaning

  abbrev core_block : Block → sub.BlockPart
  core_block = block_described sub.Listing sub.Listing core sub.block_step

  abbrev core_layer : Cond-F Cond Block → Cond-F sub.CondPart sub.BlockPart
  core_layer = layer_described sub.Listing sub.Listing core sub.block_step

  abbrev Agrees : Cond → Type 0
  Agrees cond = (tables : List (List ℕ)) → map without_entries (listed step cond tables) ≡ core_listed cond tables

  abbrev AgreesInside : Block → Type 0
  AgreesInside block = (tables : List (List ℕ)) → map without_entries ((listed_block step block).meaning tables) ≡ (core_block block).meaning tables

  abbrev AgreeingCond : Type 0
  AgreeingCond = (cond : Cond) × Agrees cond

  abbrev AgreeingBlock : Type 0
  AgreeingBlock = (block : Block) × AgreesInside block

  abbrev agreeing_part : Cond-F AgreeingCond AgreeingBlock → Cond-F Cond Block
  agreeing_part = map-Cond AgreeingCond AgreeingBlock Cond Block (λ e. e.0) (λ e. e.0)

  parts_agree : (parts : List AgreeingCond) (tables : List (List ℕ)) →
      map without_entries (in_parts (map (described Listing Listing step block_step) (map (λ (e : AgreeingCond). e.0) parts)) tables)
      ≡ sub.in_parts (map (described sub.Listing sub.Listing core sub.block_step) (map (λ (e : AgreeingCond). e.0) parts)) tables
  parts_agree [] tables = refl
  parts_agree (part ∷ parts) tables =
      map-append without_entries (listed step part.0 tables) (in_parts (map (described Listing Listing step block_step) (map (λ (e : AgreeingCond). e.0) parts)) tables)
      ∙ ap₂ (λ (xs ys : List sub.Subquery). xs ++ ys) (part.1 tables) (parts_agree parts tables)

  abbrev LayersAgree : Type 0
  LayersAgree = (y : Cond-F AgreeingCond AgreeingBlock) (tables : List (List ℕ)) →
      map without_entries (step (listed_layer step (agreeing_part y)) tables) ≡ core (core_layer (agreeing_part y)) tables

  at_layer : LayersAgree → (y : Cond-F AgreeingCond AgreeingBlock) → Agrees (roll-Cond (agreeing_part y))
  at_layer layers y tables =
      let layer = agreeing_part y in
      ap (map without_entries) (listed_out step tables (roll-Cond layer) layer refl)
      ∙ (layers y tables ∙ sym (ap (λ (l : sub.Listing). l tables) (meaning_out sub.Listing sub.Listing core sub.block_step (roll-Cond layer) layer refl)))

  at_block : (block : Block) → Agrees (out-Block block).cond → AgreesInside block
  at_block block alike tables =
      ap (map without_entries) (block_listed step tables block)
      ∙ (alike (tables ++ tables_of (out-Block block).entries ∷ [])
      ∙ sym (ap (λ (l : sub.Listing). l tables) (block_meaning_is sub.Listing sub.Listing core sub.block_step block)))

  at_block_layer : (layer : Block-F Cond Block) → Agrees layer.cond → AgreesInside (roll-Block layer)
  at_block_layer layer alike = at_block (roll-Block layer) (subst (λ (l : Block-F Cond Block). Agrees l.cond) (sym (out-roll-Block layer)) alike)

  agrees : LayersAgree → (cond : Cond) → Agrees cond
  agrees layers =
      ind-Cond Agrees AgreesInside
      (λ x y is. subst (λ z. Agrees (roll-Cond z)) is (at_layer layers y))
      (λ x y is. subst (λ z. AgreesInside (roll-Block z)) is (at_block_layer (map-Block AgreeingCond AgreeingBlock Cond Block (λ e. e.0) (λ e. e.0) y) y.cond.1))

same_block : (step : Cond-F CondPart BlockPart → Listing) (core : Cond-F sub.CondPart sub.BlockPart → sub.Listing) (block : Block) → (listed_block step block).itself ≡ (core_block step core block).itself
same_block step core block = block_same step block ∙ sym (block_itself_is sub.Listing sub.Listing core sub.block_step block)

scalar_layers : LayersAgree scalar_step sub.scalar_step
scalar_layers Cond-F.True tables = refl
scalar_layers Cond-F.False tables = refl
scalar_layers (Cond-F.And parts) tables = parts_agree scalar_step sub.scalar_step parts tables
scalar_layers (Cond-F.Or parts) tables = parts_agree scalar_step sub.scalar_step parts tables
scalar_layers (Cond-F.Not part) tables = part.1 tables
scalar_layers (Cond-F.Compare op left right span) tables = refl
scalar_layers (Cond-F.IsNull t negated span) tables = refl
scalar_layers (Cond-F.Exists block span) tables = block.1 tables
scalar_layers (Cond-F.In t block item negated span) tables = block.1 tables
scalar_layers (Cond-F.Scalar op left block item span) tables =
    let described_block = listed_block scalar_step block.0 in
    map-append without_entries (described_block.meaning tables) (whole tables described_block.itself item (out-Block described_block.itself).span ∷ [])
    ∙ ap₂ (λ (inside : List sub.Subquery) (b : Block). inside ++ sub.subquery tables b item (out-Block b).span ∷ []) (block.1 tables) (same_block scalar_step sub.scalar_step block.0)

perhaps_alike : (b : Bool) (s : WholeSubquery) → map without_entries (if b then s ∷ [] else []) ≡ (if b then without_entries s ∷ [] else [])
perhaps_alike true s = refl
perhaps_alike false s = refl

not_in_layers : LayersAgree not_in_step sub.not_in_step
not_in_layers Cond-F.True tables = refl
not_in_layers Cond-F.False tables = refl
not_in_layers (Cond-F.And parts) tables = parts_agree not_in_step sub.not_in_step parts tables
not_in_layers (Cond-F.Or parts) tables = parts_agree not_in_step sub.not_in_step parts tables
not_in_layers (Cond-F.Not part) tables = part.1 tables
not_in_layers (Cond-F.Compare op left right span) tables = refl
not_in_layers (Cond-F.IsNull t negated span) tables = refl
not_in_layers (Cond-F.Exists block span) tables = block.1 tables
not_in_layers (Cond-F.Scalar op left block item span) tables = block.1 tables
not_in_layers (Cond-F.In t block item negated span) tables =
    let described_block = listed_block not_in_step block.0 in
    let asked = negated && sub.is_column item in
    map-append without_entries (if asked then whole tables described_block.itself item span ∷ [] else []) (described_block.meaning tables)
    ∙ ap₂ (λ (xs ys : List sub.Subquery). xs ++ ys)
    (perhaps_alike asked (whole tables described_block.itself item span)
    ∙ ap (λ (b : Block). if asked then sub.subquery tables b item span ∷ [] else []) (same_block not_in_step sub.not_in_step block.0))
    (block.1 tables)

pub scalars_listed : (cond : Cond) (tables : List (List ℕ)) → map without_entries (whole_scalars cond tables) ≡ sub.scalar_subqueries cond tables
scalars_listed = agrees scalar_step sub.scalar_step scalar_layers

pub not_ins_listed : (cond : Cond) (tables : List (List ℕ)) → map without_entries (whole_not_ins cond tables) ≡ sub.not_in_subqueries cond tables
not_ins_listed = agrees not_in_step sub.not_in_step not_in_layers

-- an answer without the entries
forgotten : (found : Option Subquery) → option_map subquery_of found ≡ option_map without_entries (option_map whole_of found)
forgotten None = refl
forgotten (Some s) = refl

pub answer_listed : (found : Option Subquery) (wholes : List WholeSubquery) (subs : List sub.Subquery) (n : ℕ) → map without_entries wholes ≡ subs →
    option_map whole_of found ≡ slice_get wholes n → option_map subquery_of found ≡ slice_get subs n
answer_listed found wholes subs n alike is =
    forgotten found ∙ (ap (option_map without_entries) is ∙ (sym (slice_get-map without_entries wholes n) ∙ ap (λ (l : List sub.Subquery). slice_get l n) alike))
