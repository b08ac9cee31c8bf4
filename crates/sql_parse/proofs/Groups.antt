-- The loops over the entries of FROM: over the joins of a group, and over the groups.
use Rattle.std.proofs.Common.{◌≡◌, ℕ, ◌+◌, ◌<◌, Bool, true, false, List, [], ◌∷◌, ◌++◌, length, Option, None, refl, sym, ap, ◌∙◌, arith}
use Rattle.std.proofs.lemmas.List.{length-append}
use Rattle.sql_lex.specs.declared.token.Token.{Token}
use Rattle.sql_tree.specs.declared.term.NameTree.{NameTree}
use Rattle.sql_tree.specs.declared.select.EntryTree.{EntryTree}
use Rattle.sql_tree.specs.declared.select.CondTree.{CondTree}
use Rattle.sql_parse.specs.declared.front.ParseStop.{ParseStop}
use Rattle.sql_parse.specs.declared.front.ParseStop.TheVariants as stops
use Rattle.sql_parse.specs.grammar.Selects.{entry_tree}
use Rattle.sql_parse.specs.inner.readers.Tokens.{Read, found, and_then, is_comma, at_head, expect, read_alone, read_after}
use Rattle.sql_parse.specs.inner.readers.Items.{read_entry}
use Rattle.sql_parse.specs.inner.readers.Selects.{is_join, read_join, read_group, read_groups, read_cond}
use Rattle.sql_parse.specs.inner.readers.Gives.{Stops}
use Rattle.sql_parse.proofs.Shorter.{Below, within, alone_below, after_below, join_below, group_below, cond_below, expect_shorter, group_shorter}
use Rattle.sql_parse.proofs.Collected.{from_here, goes_on, stops, ends}
use Rattle.sql_parse.proofs.Conditions.{stops_then}

alone : {A : Type 0} (read : List Token → Read A) (count : ℕ) (tokens rest : List Token) (a : A) → read tokens ≡ found a rest → read_alone read count tokens ≡ found (a ∷ []) rest
unfolding read_alone and_then
alone read count tokens rest a e = rw e refl

alone_stops : {A : Type 0} (stop : ParseStop) (read : List Token → Read A) (count : ℕ) (tokens : List Token) → Stops (read tokens) stop → Stops (read_alone read count tokens) stop
unfolding read_alone
alone_stops stop read count tokens e = stops_then stop (read tokens) _ e

after : {A : Type 0} (read : List Token → Read A) (tokens inside rest : List Token) (t : Token) (a : A) → expect is_comma tokens ≡ found t inside → read inside ≡ found a rest → read_after is_comma read tokens ≡ found a rest
unfolding read_after and_then
after read tokens inside rest t a e h = rw e h

after_stops : {A : Type 0} (stop : ParseStop) (read : List Token → Read A) (tokens inside : List Token) (t : Token) → expect is_comma tokens ≡ found t inside → Stops (read inside) stop → Stops (read_after is_comma read tokens) stop
unfolding read_after and_then
after_stops stops.NoMemory read tokens inside t e h = tt
after_stops (stops.Syntax left) read tokens inside t e h = rw e h

module _ (flat : Bool) (depth : ℕ) where
  abbrev self : List Token → Read CondTree
  self = read_cond flat depth

  self_below : (tokens : List Token) → Below (length tokens) (self tokens)
  self_below tokens = cond_below flat depth tokens

  module _ (first : ℕ) where
    abbrev one_join : ℕ → List Token → Read (List EntryTree)
    one_join = read_alone (read_join flat self first)

    one_join_below : (count : ℕ) (tokens : List Token) → Below (length tokens) (one_join count tokens)
    one_join_below count tokens = alone_below (read_join flat self first) count tokens (join_below flat self self_below first tokens)

    -- the entries so far and those that are still joined are all of the group
    unfoldable pub with_joins : List EntryTree → List Token → Read (List EntryTree)
    with_joins so_far rest = from_here (at_head is_join) one_join (λ parts left. found parts left) so_far (length so_far) rest

    pub joins_start : (none one : List EntryTree) (tokens rest : List Token) (table : NameTree) (alias : Option NameTree) → read_entry tokens ≡ found (table, alias) rest → none ≡ []
        → one ≡ none ++ entry_tree table alias None first ∷ [] → with_joins one rest ≡ read_group flat self first tokens
    unfolding with_joins read_group and_then
    joins_start none one tokens rest table alias e empty is = rw (e, is, empty) refl

    pub joins_step : (so_far longer : List EntryTree) (tokens rest : List Token) (entry : EntryTree) → at_head is_join tokens ≡ true → read_join flat self first tokens ≡ found entry rest
        → longer ≡ so_far ++ entry ∷ [] → with_joins longer rest ≡ with_joins so_far tokens
    unfolding with_joins
    joins_step so_far longer tokens rest entry head e is =
        let count : length longer ≡ length so_far + 1 = ap (length {A = EntryTree}) is ∙ length-append so_far (entry ∷ []) in
        ap (λ (n : ℕ). from_here (at_head is_join) one_join (λ parts left. found parts left) longer n rest) count
        ∙ ap (λ (l : List EntryTree). from_here (at_head is_join) one_join (λ parts left. found parts left) l (length so_far + 1) rest) is
        ∙ sym (goes_on (at_head is_join) one_join (λ parts left. found parts left) one_join_below so_far (entry ∷ []) (length so_far) tokens rest head (alone (read_join flat self first) (length so_far) tokens rest entry e))

    pub joins_end : (so_far : List EntryTree) (tokens : List Token) → at_head is_join tokens ≡ false → with_joins so_far tokens ≡ found so_far tokens
    unfolding with_joins
    joins_end so_far tokens head = ends (at_head is_join) one_join (λ parts left. found parts left) so_far (length so_far) tokens head

    pub joins_stop_first : (stop : ParseStop) (tokens : List Token) → Stops (read_entry tokens) stop → Stops (read_group flat self first tokens) stop
    unfolding read_group
    joins_stop_first stop tokens e = stops_then stop (read_entry tokens) _ e

    pub joins_stop_later : (stop : ParseStop) (so_far : List EntryTree) (tokens : List Token) → at_head is_join tokens ≡ true → Stops (read_join flat self first tokens) stop → Stops (with_joins so_far tokens) stop
    unfolding with_joins
    joins_stop_later stop so_far tokens head e =
        stops (at_head is_join) one_join (λ parts left. found parts left) one_join_below stop so_far (length so_far) tokens head (alone_stops stop (read_join flat self first) (length so_far) tokens e)

  abbrev one_group : ℕ → List Token → Read (List EntryTree)
  one_group first = read_after is_comma (read_group flat self first)

  one_group_below : (count : ℕ) (tokens : List Token) → Below (length tokens) (one_group count tokens)
  one_group_below count tokens = after_below is_comma (read_group flat self count) tokens (λ rest. within (group_below flat self self_below count rest))

  -- the entries so far and those of the groups that are still read are all
  unfoldable pub with_groups : List EntryTree → List Token → Read (List EntryTree)
  with_groups so_far rest = from_here (at_head is_comma) one_group (λ parts left. found parts left) so_far (length so_far) rest

  pub groups_start : (group : List EntryTree) (tokens rest : List Token) → read_group flat self 0 tokens ≡ found group rest → with_groups group rest ≡ read_groups flat self tokens
  unfolding with_groups read_groups and_then
  groups_start group tokens rest e = rw e refl

  pub groups_step : (so_far longer part : List EntryTree) (tokens inside rest : List Token) (t : Token) (count : ℕ) → at_head is_comma tokens ≡ true → expect is_comma tokens ≡ found t inside
      → count ≡ length so_far → read_group flat self count inside ≡ found part rest → longer ≡ so_far ++ part → with_groups longer rest ≡ with_groups so_far tokens
  unfolding with_groups
  groups_step so_far longer part tokens inside rest t count head e counted h is =
      let more : length longer ≡ length so_far + length part = ap (length {A = EntryTree}) is ∙ length-append so_far part in
      let h' : read_group flat self (length so_far) inside ≡ found part rest = ap (λ (n : ℕ). read_group flat self n inside) (sym counted) ∙ h in
      ap (λ (n : ℕ). from_here (at_head is_comma) one_group (λ parts left. found parts left) longer n rest) more
      ∙ ap (λ (l : List EntryTree). from_here (at_head is_comma) one_group (λ parts left. found parts left) l (length so_far + length part) rest) is
      ∙ sym
      (goes_on (at_head is_comma) one_group (λ parts left. found parts left) one_group_below so_far part (length so_far) tokens rest head
      (after (read_group flat self (length so_far)) tokens inside rest t part e h'))

  pub groups_end : (so_far : List EntryTree) (tokens : List Token) → at_head is_comma tokens ≡ false → with_groups so_far tokens ≡ found so_far tokens
  unfolding with_groups
  groups_end so_far tokens head = ends (at_head is_comma) one_group (λ parts left. found parts left) so_far (length so_far) tokens head

  pub groups_stop_first : (stop : ParseStop) (tokens : List Token) → Stops (read_group flat self 0 tokens) stop → Stops (read_groups flat self tokens) stop
  unfolding read_groups
  groups_stop_first stop tokens e = stops_then stop (read_group flat self 0 tokens) _ e

  pub groups_stop_later : (stop : ParseStop) (so_far : List EntryTree) (tokens inside : List Token) (t : Token) (count : ℕ) → at_head is_comma tokens ≡ true → expect is_comma tokens ≡ found t inside
      → count ≡ length so_far → Stops (read_group flat self count inside) stop → Stops (with_groups so_far tokens) stop
  unfolding with_groups
  groups_stop_later stop so_far tokens inside t count head e counted h =
      stops (at_head is_comma) one_group (λ parts left. found parts left) one_group_below stop so_far (length so_far) tokens head
      (after_stops stop (read_group flat self (length so_far)) tokens inside t e (rw (sym counted) h))

  pub groups_smaller : (tokens inside rest : List Token) (t : Token) (count : ℕ) (part : List EntryTree) → expect is_comma tokens ≡ found t inside → read_group flat self count inside ≡ found part rest → length rest < length tokens
  groups_smaller tokens inside rest t count part e h =
      let one = expect_shorter is_comma tokens t inside e in
      let two = group_shorter flat depth count inside part rest h in
      omega arith

pub ruleset group_rules = (joins_start, joins_step, joins_end, joins_stop_first, joins_stop_later, groups_start, groups_step, groups_end, groups_stop_first, groups_stop_later)
