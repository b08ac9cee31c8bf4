-- What the reading of a query says of the grammar.
use Rattle.std.proofs.Common.{◌≡◌, ℕ, ◌≤◌, List, length, Some, None}
use Rattle.lint_base.specs.declared.place.Span.{Span}
use Rattle.lint_base.specs.declared.place.Fault.TheVariants.{Deep, Syntax}
use Rattle.lint_base.specs.declared.place.Refusal.{Refusal}
use Rattle.sql_lex.specs.declared.token.Token.{Token}
use Rattle.sql_tree.specs.declared.select.QueryTree.{QueryTree}
use Rattle.sql_parse.specs.Refusals.{IsQuery, IsNoQuery, too_deep, deep, syntax}
use Rattle.sql_parse.specs.grammar.Queries.{SpellsQuery}
use Rattle.sql_parse.specs.inner.readers.Queries.{query_of}
use Rattle.sql_parse.proofs.Sound.{query_sound}
use Rattle.sql_parse.proofs.Complete.{query_complete}
use Rattle.sql_parse.specs.inner.readers.Stopped.{stopped_at}
use Rattle.sql_parse.proofs.Places.{stopped_place}

module _ (tokens : List Token) (few : length tokens ≤ 4096) where
  pub is_query : (query : QueryTree) → too_deep tokens ≡ None → query_of tokens ≡ Some query → IsQuery tokens query
  is_query query shallow read = record { few = few; shallow = shallow; spelled = query_sound query tokens read }

  none_spelled : query_of tokens ≡ None → (query : QueryTree) → SpellsQuery query tokens → ⊥
  none_spelled none query spelled =
      let read = query_complete query tokens spelled in
      cc

  pub no_query : (refusal : Refusal) (left : ℕ) → too_deep tokens ≡ None → query_of tokens ≡ None → refusal ≡ record { fault = Syntax; span = stopped_at tokens left; count = 0 } → IsNoQuery tokens refusal
  no_query refusal left shallow none is = syntax (stopped_at tokens left) few shallow (none_spelled none) (stopped_place tokens left) is

  pub deep_query : (refusal : Refusal) (at : Span) → too_deep tokens ≡ Some at → refusal ≡ record { fault = Deep; span = at; count = 0 } → IsNoQuery tokens refusal
  deep_query refusal at found is = deep at few found is
