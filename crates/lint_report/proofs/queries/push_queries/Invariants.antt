use Rattle.std.proofs.Common.{◌≡◌, ◌++◌, ◌+◌, drop, string_bytes}
use Rattle.lint_report.specs.Text.{queries_text}
use Rattle.lint_report.proofs.queries.push_queries.Given as goal

abbrev pub invariant-loop-query : goal.invariant-loop-query
invariant-loop-query l = record {
  told : string_bytes l.out ++ queries_text l.schema l.number (drop l.query-index l.queries) ≡ string_bytes l.fn.out ++ queries_text l.schema 1 l.queries;
  count : l.number ≡ 1 + l.query-index;
}
