-- How a search for a subquery goes on at a predicate that has one.
use Rattle.std.proofs.Common.{◌≡◌, ◌∙◌, ap, ap₂, ℕ, ◌+◌, Bool, true, ◌&&◌, List, [], ◌∷◌, ◌++◌, Ok, Err, if◌then◌else◌}
use Rattle.lint_base.specs.declared.place.Span.{Span}
use Rattle.lint_tables.specs.declared.op.Op.{Op}
use Rattle.lint_core.specs.declared.condition.Term.{Term}
use Rattle.lint_core.specs.declared.condition.Cond.TheVariants as c
use Rattle.lint_core.specs.declared.condition.Block.{Block, out-Block}
use Rattle.lint_core.specs.Fits.{tables_of}
use Rattle.lint_core.specs.Subqueries.{is_column}
use Rattle.sql_meaning.specs.WholeSubqueries.{WholeSubquery, whole, whole_scalars, whole_not_ins}
use Rattle.sql_meaning.specs.inner.Reached.{item_at}
use Rattle.sql_meaning.proofs.Reached.{item_there, item_later, last_later}
use Rattle.sql_meaning.proofs.WholeSubqueries.{scalars_scalar, not_ins_in}

module _ (tables : List (List ℕ)) (op : Op) (left : Term) (block : Block) (item : Term) (span : Span) (n : ℕ) where
  abbrev pub inside : List WholeSubquery
  inside = whole_scalars (out-Block block).cond (tables ++ tables_of (out-Block block).entries ∷ [])

  abbrev itself : WholeSubquery
  itself = whole tables block item (out-Block block).span

  pub scalar_inside : (x : WholeSubquery) → Ok x ≡ item_at inside n → item_at (whole_scalars (c.Scalar op left block item span) tables) n ≡ Ok x
  scalar_inside x found = ap (λ xs. item_at xs n) (scalars_scalar tables op left block item span) ∙ item_there inside (itself ∷ []) n x found

  pub scalar_found : Err 0 ≡ item_at inside n → item_at (whole_scalars (c.Scalar op left block item span) tables) n ≡ Ok itself
  scalar_found more = ap (λ xs. item_at xs n) (scalars_scalar tables op left block item span) ∙ item_later inside (itself ∷ []) n 0 more

  pub scalar_later : (m k : ℕ) → m ≡ k + 1 → Err m ≡ item_at inside n → item_at (whole_scalars (c.Scalar op left block item span) tables) n ≡ Err k
  scalar_later m k is more =
      ap (λ xs. item_at xs n) (scalars_scalar tables op left block item span) ∙ (item_later inside (itself ∷ []) n m more ∙ last_later itself m k is)

pub not_in_found : (tables : List (List ℕ)) (term : Term) (block : Block) (item : Term) (negated : Bool) (span : Span) → negated ≡ true → is_column item ≡ true →
    item_at (whole_not_ins (c.In term block item negated span) tables) 0 ≡ Ok (whole tables block item span)
not_in_found tables term block item negated span is_not column =
    let inside = whole_not_ins (out-Block block).cond (tables ++ tables_of (out-Block block).entries ∷ []) in
    ap (λ xs. item_at xs 0) (not_ins_in tables term block item negated span)
    ∙ ap₂ (λ (a b : Bool). item_at ((if a && b then whole tables block item span ∷ [] else []) ++ inside) 0) is_not column
