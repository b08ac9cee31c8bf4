-- Whether a condition without subqueries fits depends on the columns of the tables alone, not on their constraints.
use Rattle.std.proofs.Common.{ℕ, ◌≡◌, refl, sym, ap, ap₂, ◌∙◌, subst, true, ◌&&◌, List, [], ◌∷◌, map, Option, Some, None, slice_get, option_map, option_and_then, is_some}
use Rattle.std.proofs.lemmas.Bool.{and_parts, false≢true}
use Rattle.std.proofs.lemmas.Option.{same_Some}
use Rattle.std.specs.List.{list_all}
use Rattle.lint_core.specs.declared.condition.Term.{Term}
use Rattle.lint_core.specs.declared.condition.Term.TheVariants as term
use Rattle.lint_core.specs.declared.condition.Cond.{Cond, ind-Cond, roll-Cond, map-Cond}
use Rattle.lint_core.specs.declared.condition.Cond.TheOpen.{Cond-F}
use Rattle.lint_core.specs.declared.condition.Block.{Block}
use Rattle.lint_core.specs.declared.schema.Column.{Column}
use Rattle.lint_core.specs.declared.schema.Table.{Table}
use Rattle.lint_core.specs.Fits.{is_flat, cond_fits, cell_kind, term_kind, at_entry}
use Rattle.lint_core.specs.Kind.{column_kind, kind_of, with_added, compares_both}
use Rattle.sql_bind.proofs.FitsFlat.{flat_roll}
use Rattle.sql_bind.proofs.FitsForms.{of_cond, roll_fits}

abbrev pub columns_at : List Table → ℕ → Option (List Column)
columns_at schema number = option_map (λ (t : Table). t.columns) (slice_get schema number)

module _ (schema other : List Table) (same : (number : ℕ) → columns_at schema number ≡ columns_at other number) where
  column_alike : (column : ℕ) (a b : Option Table) → option_map (λ (t : Table). t.columns) a ≡ option_map (λ (t : Table). t.columns) b →
      option_and_then (λ (t : Table). column_kind t column) a ≡ option_and_then (λ (t : Table). column_kind t column) b
  column_alike column None None e = refl
  column_alike column None (Some b) e = absurd (cc)
  column_alike column (Some a) None e = absurd (cc)
  column_alike column (Some a) (Some b) e = ap (λ (cs : List Column). option_and_then (λ (c : Column). Some (kind_of c.domain)) (slice_get cs column)) (same_Some a.columns b.columns e)

  cell_alike : (table : Option ℕ) (column : ℕ) (added : _) → cell_kind schema table column added ≡ cell_kind other table column added
  cell_alike None column added = refl
  cell_alike (Some number) column added = ap (option_and_then (with_added added)) (column_alike column (slice_get schema number) (slice_get other number) (same number))

  kind_alike : (tables : List (List ℕ)) (t : Term) → term_kind schema tables t ≡ term_kind other tables t
  kind_alike tables (term.Cell level entry column added) = cell_alike (at_entry tables level entry) column added
  kind_alike tables (term.Number value unit) = refl
  kind_alike tables (term.Text text) = refl
  kind_alike tables term.Null = refl

  abbrev pub Alike : Cond → Type 0
  Alike cond = is_flat cond ≡ true → (tables : List (List ℕ)) → cond_fits schema tables cond ≡ cond_fits other tables cond

  abbrev AlikeCond : Type 0
  AlikeCond = (cond : Cond) × Alike cond

  abbrev OtherBlock : Type 0
  OtherBlock = (block : Block) × Unit {0}

  abbrev alike_part : Cond-F AlikeCond OtherBlock → Cond-F Cond Block
  alike_part = map-Cond AlikeCond OtherBlock Cond Block (λ e. e.0) (λ e. e.0)

  parts_alike : (tables : List (List ℕ)) (parts : List AlikeCond) → list_all (λ part. part) (map is_flat (map (λ e. e.0) parts)) ≡ true →
      list_all (λ part. part tables) (map (of_cond schema) (map (λ e. e.0) parts)) ≡ list_all (λ part. part tables) (map (of_cond other) (map (λ e. e.0) parts))
  parts_alike tables [] flat = refl
  parts_alike tables (part ∷ parts) flat =
      let both = and_parts (is_flat part.0) (list_all (λ part. part) (map is_flat (map (λ e. e.0) parts))) flat in
      ap₂ (λ a b. a && b) (part.1 both.0 tables) (parts_alike tables parts both.1)

  at_layer : (y : Cond-F AlikeCond OtherBlock) → Alike (roll-Cond (alike_part y))
  at_layer Cond-F.True flat tables = let x = Cond-F.True in roll_fits schema x (roll-Cond x) tables refl ∙ sym (roll_fits other x (roll-Cond x) tables refl)
  at_layer Cond-F.False flat tables = let x = Cond-F.False in roll_fits schema x (roll-Cond x) tables refl ∙ sym (roll_fits other x (roll-Cond x) tables refl)
  at_layer (Cond-F.And parts) flat tables =
      let x = Cond-F.And (map (λ (e : AlikeCond). e.0) parts) in
      roll_fits schema x (roll-Cond x) tables refl ∙ (parts_alike tables parts (sym (flat_roll x (roll-Cond x) refl) ∙ flat) ∙ sym (roll_fits other x (roll-Cond x) tables refl))
  at_layer (Cond-F.Or parts) flat tables =
      let x = Cond-F.Or (map (λ (e : AlikeCond). e.0) parts) in
      roll_fits schema x (roll-Cond x) tables refl ∙ (parts_alike tables parts (sym (flat_roll x (roll-Cond x) refl) ∙ flat) ∙ sym (roll_fits other x (roll-Cond x) tables refl))
  at_layer (Cond-F.Not part) flat tables =
      let x = Cond-F.Not part.0 in
      roll_fits schema x (roll-Cond x) tables refl ∙ (part.1 (sym (flat_roll x (roll-Cond x) refl) ∙ flat) tables ∙ sym (roll_fits other x (roll-Cond x) tables refl))
  at_layer (Cond-F.Compare op left right span) flat tables =
      let x = Cond-F.Compare op left right span in
      roll_fits schema x (roll-Cond x) tables refl ∙ (ap₂ (compares_both op) (kind_alike tables left) (kind_alike tables right) ∙ sym (roll_fits other x (roll-Cond x) tables refl))
  at_layer (Cond-F.IsNull t negated span) flat tables =
      let x = Cond-F.IsNull t negated span in
      roll_fits schema x (roll-Cond x) tables refl ∙ (ap is_some (kind_alike tables t) ∙ sym (roll_fits other x (roll-Cond x) tables refl))
  at_layer (Cond-F.Exists block span) flat tables = absurd (false≢true (sym (flat_roll (Cond-F.Exists block.0 span) _ refl) ∙ flat))
  at_layer (Cond-F.In t block item negated span) flat tables = absurd (false≢true (sym (flat_roll (Cond-F.In t block.0 item negated span) _ refl) ∙ flat))
  at_layer (Cond-F.Scalar op left block item span) flat tables = absurd (false≢true (sym (flat_roll (Cond-F.Scalar op left block.0 item span) _ refl) ∙ flat))

  pub fits_alike : (cond : Cond) → Alike cond
  fits_alike = ind-Cond Alike (λ block. Unit {0}) (λ x y is. subst (λ z. Alike (roll-Cond z)) is (at_layer y)) (λ x y is. tt)
