-- Conditions, one layer at a time, from what their parts bind to. In a predicate the terms are bound from left to
-- right, then a subquery; then the subquery must have one column; then the kinds must go with each other.
use Rattle.std.specs.Prelude.{ℕ, Bool, true, false, ◌&&◌, if◌then◌else◌, List, [], ◌∷◌, map, Option, Ok}
use Rattle.std.specs.List.{list_all}
use Rattle.lint_base.specs.declared.place.Span.{Span}
use Rattle.lint_base.specs.declared.place.Fault.TheVariants.{TypeMismatch, OneColumnNeeded}
use Rattle.lint_tables.specs.declared.op.Op.{Op}
use Rattle.lint_tables.specs.declared.op.Op.TheVariants.{Eq, Ne, Lt, Le, Gt, Ge}
use Rattle.sql_tree.specs.declared.term.NameTree.{NameTree}
use Rattle.sql_tree.specs.declared.term.TermTree.{TermTree}
use Rattle.sql_tree.specs.declared.term.TermTree.TheVariants as tree
use Rattle.sql_tree.specs.declared.select.CondTree.TheOpen.{CondTree-F}
use Rattle.lint_core.specs.declared.condition.Term.{Term}
use Rattle.lint_core.specs.declared.condition.Cond.{Cond}
use Rattle.lint_core.specs.declared.condition.Cond.TheVariants.{And, Or, Not, Compare, IsNull, Exists, In, Scalar}
use Rattle.lint_core.specs.declared.condition.Block.{Block, out-Block}
use Rattle.lint_core.specs.declared.query.Item.{Item}
use Rattle.lint_core.specs.declared.schema.Table.{Table}
use Rattle.lint_core.specs.Fits.{term_kind, term_fits}
use Rattle.lint_core.specs.Kind.{compares_both}
-- a selected item with its alias, a SELECT with what it selects and from where, and a value of an IN list with its place
pub use Rattle.sql_bind.specs.declared.selects.Selected.{Selected}
pub use Rattle.sql_bind.specs.declared.selects.BoundSelect.{BoundSelect}
pub use Rattle.sql_bind.specs.declared.predicates.Value.{Value}
use Rattle.sql_bind.specs.Bound.{Bound, refused, and_then, all_bound}
use Rattle.sql_bind.specs.Names.{Level, whole_level, level_tables}
use Rattle.sql_bind.specs.Terms.{bind_term, compares}

-- what a condition, and a SELECT, binds to at the levels around it
abbrev pub CondMeaning : Type 0
CondMeaning = List Level → Bound Cond

abbrev pub SelectMeaning : Type 0
SelectMeaning = List Level → Bound BoundSelect

-- an entry, whose ON binds to this at the levels that it sees
pub record EntryMeaning : Type 0 where
  pub table : NameTree
  pub alias : Option NameTree
  pub on : Option CondMeaning
  pub first : ℕ

-- a predicate that compares what may be compared
abbrev pub matching : Bool → Span → Cond → Bound Cond
matching goes at cond = if goes then Ok cond else refused TypeMismatch at

-- BETWEEN is two comparisons; the first has its place from the term to the lower bound, the second that of the
-- upper bound
abbrev pub between : Bool → Term → Term → Term → Span → Span → Cond
between false a low high first second = And (Compare Ge a low first ∷ Compare Le a high second ∷ [])
between true a low high first second = Or (Compare Lt a low first ∷ Compare Gt a high second ∷ [])

-- IN over a list is one comparison for each value, which has the value's place; one comparison stands alone
abbrev pub joined : (List Cond → Cond) → List Cond → Cond
joined join [] = join []
joined join (cond ∷ []) = cond
joined join (cond ∷ next ∷ conds) = join (cond ∷ next ∷ conds)

abbrev pub tree_span : TermTree → Span
tree_span (tree.Column table name added span) = span
tree_span (tree.Number value span) = span
tree_span (tree.Text text span) = span
tree_span (tree.Null span) = span

abbrev pub in_list : Bool → Term → List Value → Cond
in_list false a values = joined Or (map (λ (v : Value). Compare Eq a v.term v.span) values)
in_list true a values = joined And (map (λ (v : Value). Compare Ne a v.term v.span) values)

abbrev pub only_one : Span → List Selected → Bound Term
only_one at [] = refused OneColumnNeeded at
only_one at (s ∷ []) = Ok s.item.term
only_one at (s ∷ next ∷ more) = refused OneColumnNeeded at

-- the one column of a subquery
abbrev pub one_column : BoundSelect → Bound Term
one_column select = only_one (out-Block select.block).span select.selected

module _ (schema : List Table) where
  -- the subquery's column stands in its own level
  abbrev pub compares_selected : List Level → Op → Term → BoundSelect → Term → Bool
  compares_selected levels op left select item =
      compares_both op (term_kind schema (level_tables levels) left)
      (term_kind schema (level_tables (whole_level (out-Block select.block).entries ∷ levels)) item)

  unfoldable pub bind_values : List Level → List TermTree → Bound (List Value)
  bind_values levels [] = Ok []
  bind_values levels (value ∷ values) =
      and_then (bind_term schema levels value) (λ term. and_then (bind_values levels values) (λ more. Ok (record { term = term; span = tree_span value } ∷ more)))

  abbrev pub cond_step : CondTree-F CondMeaning EntryMeaning SelectMeaning → CondMeaning
  cond_step (CondTree-F.And parts) levels = and_then (all_bound (map (λ part. part levels) parts)) (λ conds. Ok (And conds))
  cond_step (CondTree-F.Or parts) levels = and_then (all_bound (map (λ part. part levels) parts)) (λ conds. Ok (Or conds))
  cond_step (CondTree-F.Not part) levels = and_then (part levels) (λ cond. Ok (Not cond))
  cond_step (CondTree-F.Compare op left right span) levels =
      and_then (bind_term schema levels left) (λ a. and_then (bind_term schema levels right) (λ b. matching (compares schema levels op a b) span (Compare op a b span)))
  cond_step (CondTree-F.Scalar op left select span) levels =
      and_then (bind_term schema levels left) (λ a. and_then (select levels) (λ s. and_then (one_column s) (λ item.
      matching (compares_selected levels op a s item) span (Scalar op a s.block item span))))
  cond_step (CondTree-F.IsNull term negated span) levels =
      and_then (bind_term schema levels term) (λ a. matching (term_fits schema (level_tables levels) a) span (IsNull a negated span))
  cond_step (CondTree-F.Between term low high negated span) levels =
      and_then (bind_term schema levels term) (λ a. and_then (bind_term schema levels low) (λ b. and_then (bind_term schema levels high) (λ c.
      matching (compares schema levels Ge a b && compares schema levels Le a c) span
      (between negated a b c (record { from = (tree_span term).from; to = (tree_span low).to }) (tree_span high)))))
  cond_step (CondTree-F.InList term values negated span) levels =
      and_then (bind_term schema levels term) (λ a. and_then (bind_values levels values) (λ bound.
      matching (term_fits schema (level_tables levels) a && list_all (λ (v : Value). compares schema levels Eq a v.term) bound) span (in_list negated a bound)))
  cond_step (CondTree-F.InSelect term select negated span) levels =
      and_then (bind_term schema levels term) (λ a. and_then (select levels) (λ s. and_then (one_column s) (λ item.
      matching (compares_selected levels Eq a s item) span (In a s.block item negated span))))
  cond_step (CondTree-F.Exists select span) levels = and_then (select levels) (λ s. Ok (Exists s.block span))
