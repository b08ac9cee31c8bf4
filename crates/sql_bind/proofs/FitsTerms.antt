-- Selected items and order keys: a term that was bound, to which nothing is added, fits.
use Rattle.std.proofs.Common.{◌≡◌, refl, sym, ap, ◌∙◌, subst, true, ℤ, pos, List, Option, Some, None, Ok}
use Rattle.std.proofs.lemmas.Bool.Decides.{Decides-int_eq}
use Rattle.std.specs.Ordering.{int_eq}
use Rattle.lint_tables.specs.declared.op.Op.TheVariants.{Eq, Ne, Lt, Le, Gt, Ge}
use Rattle.sql_tree.specs.declared.term.TermTree.{TermTree}
use Rattle.sql_tree.specs.declared.term.TermTree.TheVariants as tree
use Rattle.lint_core.specs.declared.condition.Term.{Term}
use Rattle.lint_core.specs.declared.condition.Term.TheVariants.{Cell, Number, Text}
use Rattle.lint_core.specs.declared.schema.Unit.TheVariants.{Whole}
use Rattle.lint_core.specs.declared.schema.Table.{Table}
use Rattle.lint_core.specs.Fits.{term_fits, is_plain}
use Rattle.lint_core.specs.Kind.{compares_both}
use Rattle.sql_bind.specs.Bound.{Bound}
use Rattle.sql_bind.specs.Names.{Level, level_tables, find_column}
use Rattle.sql_bind.specs.Terms.{with_added, bind_term}
use Rattle.sql_bind.specs.Shape.{is_bare_column, is_item_term}
use Rattle.sql_bind.proofs.FitsBound.{and_then_ok, same_ok}
use Rattle.sql_bind.proofs.FitsNames.{Found, column_found}

-- texts are compared by = and <> alone, so one order compares where another does
pub lt_is_ge : (a b : Option _) → compares_both Lt a b ≡ compares_both Ge a b
lt_is_ge None b = refl
lt_is_ge (Some a) None = refl
lt_is_ge (Some a) (Some b) = refl

pub gt_is_le : (a b : Option _) → compares_both Gt a b ≡ compares_both Le a b
gt_is_le None b = refl
gt_is_le (Some a) None = refl
gt_is_le (Some a) (Some b) = refl

pub ne_is_eq : (a b : Option _) → compares_both Ne a b ≡ compares_both Eq a b
ne_is_eq None b = refl
ne_is_eq (Some a) None = refl
ne_is_eq (Some a) (Some b) = refl

module _ (schema : List Table) where
  -- a term that fits with nothing added
  pub record Plain (levels : List Level) (term : Term) : Type 0 where
    pub fits : term_fits schema (level_tables levels) term ≡ true
    pub plain : is_plain term ≡ true

  plain_same : (levels : List Level) (a b : Term) → ◌≡◌ {A = Bound Term} (Ok a) (Ok b) → Plain levels a → Plain levels b
  plain_same levels a b e = subst (Plain levels) (same_ok a b e)

  -- nothing was added to what was found
  not_added : (levels : List Level) (cell : Term) (added : ℤ) → int_eq added (pos 0) ≡ true → Found schema levels cell → Found schema levels (with_added added cell)
  not_added levels cell added none found =
      let zero_is : added ≡ pos 0 = (Decides-int_eq added (pos 0)).0 none in
      record {
        level = found.level;
        entry = found.entry;
        column = found.column;
        is = ap (with_added added) found.is ∙ ap (Cell found.level found.entry found.column) zero_is;
        fits = found.fits;
      }

  pub column_fits : (levels : List Level) (t : TermTree) (term : Term) → is_bare_column t ≡ true → bind_term schema levels t ≡ Ok term → Found schema levels term
  column_fits levels (tree.Column table name added span) term bare is =
      let found = and_then_ok (find_column schema table name levels) (λ cell. Ok (with_added added cell)) term is in
      subst (Found schema levels) (same_ok (with_added added found.0) term found.2)
      (not_added levels found.0 added bare (column_found schema table name levels found.0 found.1))
  column_fits levels (tree.Number value span) term bare is = absurd (cc)
  column_fits levels (tree.Text text span) term bare is = absurd (cc)
  column_fits levels (tree.Null span) term bare is = absurd (cc)

  pub item_term_fits : (levels : List Level) (t : TermTree) (term : Term) → is_item_term t ≡ true → bind_term schema levels t ≡ Ok term → Plain levels term
  item_term_fits levels (tree.Column table name added span) term item is =
      let found = column_fits levels (tree.Column table name added span) term item is in
      subst (Plain levels) (sym found.is) (record { fits = found.fits; plain = refl })
  item_term_fits levels (tree.Number value span) term item is = plain_same levels (Number value Whole) term is (record { fits = refl; plain = refl })
  item_term_fits levels (tree.Text text span) term item is = plain_same levels (Text text) term is (record { fits = refl; plain = refl })
  item_term_fits levels (tree.Null span) term item is = absurd (cc)
