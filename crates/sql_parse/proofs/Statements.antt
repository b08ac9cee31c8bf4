-- Reading statement after statement.
use Rattle.std.proofs.Common.{◌≡◌, ℕ, ◌+◌, ◌<◌, true, false, List, [], ◌++◌, length, refl, sym, ap, ◌∙◌}
use Rattle.sql_lex.specs.declared.token.Token.{Token}
use Rattle.sql_tree.specs.declared.schema.CreateTable.{CreateTable}
use Rattle.sql_parse.specs.declared.front.ParseStop.{ParseStop}
use Rattle.sql_parse.specs.declared.front.ParseStop.TheVariants as stop
use Rattle.sql_parse.specs.inner.readers.Tokens.{Read, found, and_then, is_semicolon, at_head, expect, read_after}
use Rattle.sql_parse.specs.inner.readers.Gives.{Stops}
use Rattle.sql_parse.specs.inner.readers.Schemas.{read_statement, read_next_statement, read_schema}
use Rattle.sql_parse.proofs.Shorter.{next_statement_below, next_statement_shorter}
use Rattle.sql_parse.proofs.Collected.{from_here, goes_on, ends, stops, stops_whole}

-- what is read of the rest, after these tables
abbrev pub statements_from : ℕ → List CreateTable → ℕ → List Token → Read (List CreateTable)
statements_from depth tables count rest = from_here (at_head is_semicolon) (read_next_statement depth) (λ others after. found others after) tables count rest

-- the tables so far and those of the rest are those of all tokens, however many statements were before
pub record Continues (depth : ℕ) (tokens : List Token) (tables : List CreateTable) (rest : List Token) : Type 0 where
  pub count : ℕ
  pub whole : statements_from depth tables count rest ≡ read_schema depth tokens

pub continues_first : (depth : ℕ) (tokens : List Token) (first none one : List CreateTable) (left : List Token) → read_statement depth tokens ≡ found first left → none ≡ [] → one ≡ none ++ first →
    Continues depth tokens one left
unfolding read_schema and_then
continues_first depth tokens first none one left e empty is = record { count = 0; whole = rw (e, is, empty) refl }

after_semicolon : (depth count : ℕ) (rest after : List Token) (t : Token) → expect is_semicolon rest ≡ found t after → read_next_statement depth count rest ≡ read_statement depth after
unfolding read_next_statement read_after and_then
after_semicolon depth count rest after t e = rw e refl

pub continues_next : (depth : ℕ) (tokens : List Token) (tables longer part : List CreateTable) (rest after left : List Token) (t : Token) →
    at_head is_semicolon rest ≡ true → expect is_semicolon rest ≡ found t after → read_statement depth after ≡ found part left → longer ≡ tables ++ part →
    Continues depth tokens tables rest → Continues depth tokens longer left
continues_next depth tokens tables longer part rest after left t begun e h is so_far = record {
  count = so_far.count + length part;
  whole =
      ap (λ all. statements_from depth all (so_far.count + length part) left) is
      ∙ sym (goes_on (at_head is_semicolon) (read_next_statement depth) (λ others after. found others after) (next_statement_below depth) tables part so_far.count rest left begun (after_semicolon depth so_far.count rest after t e ∙ h))
      ∙ so_far.whole;
}

pub continues_end : (depth : ℕ) (tokens : List Token) (tables : List CreateTable) (rest : List Token) → at_head is_semicolon rest ≡ false → Continues depth tokens tables rest → read_schema depth tokens ≡ found tables rest
continues_end depth tokens tables rest over so_far =
    sym so_far.whole ∙ ends (at_head is_semicolon) (read_next_statement depth) (λ others after. found others after) tables so_far.count rest over

pub stops_at_first : (stop : ParseStop) (depth : ℕ) (tokens : List Token) → Stops (read_statement depth tokens) stop → Stops (read_schema depth tokens) stop
unfolding read_schema and_then
stops_at_first (stop.Syntax left) depth tokens h = rw h refl
stops_at_first stop.NoMemory depth tokens h = tt

pub stops_at_next : (stop : ParseStop) (depth : ℕ) (tokens : List Token) (tables : List CreateTable) (rest after : List Token) (t : Token) →
    at_head is_semicolon rest ≡ true → expect is_semicolon rest ≡ found t after → Stops (read_statement depth after) stop → Continues depth tokens tables rest → Stops (read_schema depth tokens) stop
stops_at_next stop depth tokens tables rest after t begun e h so_far =
    stops_whole stop _ _ so_far.whole
    (stops (at_head is_semicolon) (read_next_statement depth) (λ others after. found others after) (next_statement_below depth) stop tables so_far.count rest begun
    (stops_whole stop _ _ (sym (after_semicolon depth so_far.count rest after t e)) h))

pub next_smaller : (depth : ℕ) (rest after left : List Token) (t : Token) (part : List CreateTable) → expect is_semicolon rest ≡ found t after → read_statement depth after ≡ found part left → length left < length rest
next_smaller depth rest after left t part e h = next_statement_shorter depth 0 rest part left (after_semicolon depth 0 rest after t e ∙ h)

pub ruleset statement_rules = (continues_first, continues_next, continues_end, stops_at_first, stops_at_next, next_smaller)
