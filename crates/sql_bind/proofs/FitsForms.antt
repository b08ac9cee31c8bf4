-- When each form of a bound condition fits, and how a block stands in the levels around it.
use Rattle.std.proofs.Common.{ℕ, ◌≡◌, sym, ap, ◌∙◌, Bool, true, ◌&&◌, List, [], ◌∷◌, ◌++◌, length, map, nat_le, nat_lt}
use Rattle.std.proofs.lemmas.List.{reverse-append}
use Rattle.std.proofs.lemmas.List.Folds.{list_all-map}
use Rattle.std.specs.List.{list_all}
use Rattle.lint_base.specs.declared.place.Span.{Span}
use Rattle.lint_tables.specs.declared.op.Op.{Op}
use Rattle.lint_tables.specs.declared.op.Op.TheVariants.{Eq}
use Rattle.lint_core.specs.declared.condition.Term.{Term}
use Rattle.lint_core.specs.declared.condition.Cond.{Cond, roll-Cond, map-Cond, fold-roll-Cond}
use Rattle.lint_core.specs.declared.condition.Cond.TheVariants as bound
use Rattle.lint_core.specs.declared.condition.Cond.TheOpen.{Cond-F}
use Rattle.lint_core.specs.declared.condition.Block.{Block, out-Block, fold_out-Block, map-Block}
use Rattle.lint_core.specs.declared.condition.Entry.{Entry}
use Rattle.lint_core.specs.declared.schema.Table.{Table}
use Rattle.lint_core.specs.Fits.{Meaning, BlockMeaning, fits_step, block_step, cond_fits, block_fits, block_meaning, selected_fits, term_kind, term_fits, tables_of}
use Rattle.lint_core.specs.Kind.{compares_both}
use Rattle.sql_bind.specs.Names.{Level, level_tables}

module _ (schema : List Table) where
  abbrev pub of_cond : Cond → Meaning
  of_cond cond tables = cond_fits schema tables cond

  pub roll_fits : (x : Cond-F Cond Block) (cond : Cond) (tables : List (List ℕ)) → roll-Cond x ≡ cond →
      cond_fits schema tables cond ≡ fits_step schema (map-Cond Cond Block Meaning BlockMeaning of_cond (block_meaning schema) x) tables
  roll_fits x cond tables e =
      ap (λ c. cond_fits schema tables c) (sym e) ∙ ap (λ m. m tables) (fold-roll-Cond Meaning BlockMeaning (fits_step schema) (block_step schema) x)

  pub fits_true : (tables : List (List ℕ)) → cond_fits schema tables bound.True ≡ true
  fits_true tables = roll_fits Cond-F.True bound.True tables bound.rolls-True

  pub fits_and : (tables : List (List ℕ)) (conds : List Cond) → cond_fits schema tables (bound.And conds) ≡ list_all (cond_fits schema tables) conds
  fits_and tables conds = roll_fits (Cond-F.And conds) (bound.And conds) tables (bound.rolls-And conds) ∙ list_all-map (λ part. part tables) of_cond conds

  pub fits_or : (tables : List (List ℕ)) (conds : List Cond) → cond_fits schema tables (bound.Or conds) ≡ list_all (cond_fits schema tables) conds
  fits_or tables conds = roll_fits (Cond-F.Or conds) (bound.Or conds) tables (bound.rolls-Or conds) ∙ list_all-map (λ part. part tables) of_cond conds

  pub fits_not : (tables : List (List ℕ)) (cond : Cond) → cond_fits schema tables (bound.Not cond) ≡ cond_fits schema tables cond
  fits_not tables cond = roll_fits (Cond-F.Not cond) (bound.Not cond) tables (bound.rolls-Not cond)

  pub fits_compare : (tables : List (List ℕ)) (op : Op) (left right : Term) (span : Span) →
      cond_fits schema tables (bound.Compare op left right span) ≡ compares_both op (term_kind schema tables left) (term_kind schema tables right)
  fits_compare tables op left right span = roll_fits (Cond-F.Compare op left right span) (bound.Compare op left right span) tables (bound.rolls-Compare op left right span)

  pub fits_is_null : (tables : List (List ℕ)) (t : Term) (negated : Bool) (span : Span) → cond_fits schema tables (bound.IsNull t negated span) ≡ term_fits schema tables t
  fits_is_null tables t negated span = roll_fits (Cond-F.IsNull t negated span) (bound.IsNull t negated span) tables (bound.rolls-IsNull t negated span)

  pub fits_exists : (tables : List (List ℕ)) (block : Block) (span : Span) → cond_fits schema tables (bound.Exists block span) ≡ block_fits schema tables block
  fits_exists tables block span = roll_fits (Cond-F.Exists block span) (bound.Exists block span) tables (bound.rolls-Exists block span)

  pub fits_in : (tables : List (List ℕ)) (t : Term) (block : Block) (item : Term) (negated : Bool) (span : Span) →
      cond_fits schema tables (bound.In t block item negated span) ≡ selected_fits schema tables Eq t (block_meaning schema block) item
  fits_in tables t block item negated span = roll_fits (Cond-F.In t block item negated span) (bound.In t block item negated span) tables (bound.rolls-In t block item negated span)

  pub fits_scalar : (tables : List (List ℕ)) (op : Op) (t : Term) (block : Block) (item : Term) (span : Span) →
      cond_fits schema tables (bound.Scalar op t block item span) ≡ selected_fits schema tables op t (block_meaning schema block) item
  fits_scalar tables op t block item span = roll_fits (Cond-F.Scalar op t block item span) (bound.Scalar op t block item span) tables (bound.rolls-Scalar op t block item span)

  -- a block, by what is in it
  meaning_out : (block : Block) → block_meaning schema block ≡ block_step schema (map-Block Cond Block Meaning BlockMeaning of_cond (block_meaning schema) (out-Block block))
  meaning_out block = fold_out-Block Meaning BlockMeaning (fits_step schema) (block_step schema) block

  pub own_is : (block : Block) → (block_meaning schema block).own ≡ tables_of (out-Block block).entries
  own_is block = ap (λ (m : BlockMeaning). m.own) (meaning_out block)

  pub block_is : (tables : List (List ℕ)) (block : Block) →
      block_fits schema tables block ≡ (nat_le (length (out-Block block).entries) 16 && list_all (λ (e : Entry). nat_lt e.table (length schema)) (out-Block block).entries
      && cond_fits schema (tables ++ tables_of (out-Block block).entries ∷ []) (out-Block block).cond)
  block_is tables block = ap (λ (m : BlockMeaning). m.fits tables) (meaning_out block)

-- one more level inside
pub inner_level : (level : Level) (levels : List Level) → level_tables (level ∷ levels) ≡ level_tables levels ++ tables_of level.entries ∷ []
inner_level level levels = reverse-append (tables_of level.entries ∷ []) (map (λ (l : Level). tables_of l.entries) levels)
