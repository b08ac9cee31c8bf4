-- The steps by which SELECTs are read whole, each from what its parts read.
use Rattle.std.proofs.Common.{ℕ, ◌+◌, ◌≤◌, ◌≡◌, refl, ap, sym, ◌∙◌, Bool, true, false, List, [], ◌∷◌, ◌++◌, length, Option, Some, None, arith, inl, inr}
use Rattle.std.proofs.lemmas.List.{append_assoc, append-nil}
use Rattle.lint_base.specs.declared.place.Span.{Span}
use Rattle.sql_lex.specs.declared.token.Sign.TheVariants.{Open, Close, Comma}
use Rattle.sql_lex.specs.declared.token.Token.{Token}
use Rattle.sql_tree.specs.declared.term.NameTree.{NameTree}
use Rattle.sql_tree.specs.declared.select.ItemTree.{ItemTree}
use Rattle.sql_tree.specs.declared.select.EntryTree.{EntryTree}
use Rattle.sql_tree.specs.declared.select.CondTree.{CondTree}
use Rattle.sql_parse.specs.grammar.Words.{word, sign, span_of, MayBe, CROSS, FROM, INNER, JOIN, ON, SELECT, WHERE}
use Rattle.sql_parse.specs.grammar.Selects.{entry_tree}
use Rattle.sql_parse.specs.inner.readers.Tokens.{Read, found, and_then, is_word, is_comma, is_open, is_close, at_head, expect, read_alone, read_after, read_parts}
use Rattle.sql_parse.specs.inner.readers.Items.{read_quantifier, read_items, read_entry}
use Rattle.sql_parse.specs.inner.readers.Selects.{Parts, placed, is_join, without_inner, cross_joined, inner_joined, read_join, read_group, read_groups, read_where, read_select, read_subquery}
use Rattle.sql_parse.proofs.CompleteTokens.{place_is, place_rank, rank, no_word}
use Rattle.sql_parse.proofs.CompleteLists.{after_read, alone_read, Looped, loop_end, loop_more, loop_whole}

no_cross : (rest : List Token) → 6 ≤ rank rest → at_head (is_word CROSS) rest ≡ false
unfolding place_rank
no_cross rest h = no_word CROSS rest h

no_joining : (rest : List Token) → 6 ≤ rank rest → at_head (is_word JOIN) rest ≡ false
unfolding place_rank
no_joining rest h = no_word JOIN rest h

no_inner : (rest : List Token) → 6 ≤ rank rest → at_head (is_word INNER) rest ≡ false
unfolding place_rank
no_inner rest h = no_word INNER rest h

none_of : (t : Token) (rest : List Token) → at_head (is_word CROSS) (t ∷ rest) ≡ false → at_head (is_word JOIN) (t ∷ rest) ≡ false → at_head (is_word INNER) (t ∷ rest) ≡ false → at_head is_join (t ∷ rest) ≡ false
unfolding at_head is_join
none_of t rest d e f = rw (d, e, f) refl

no_join : (rest : List Token) → 6 ≤ rank rest → at_head is_join rest ≡ false
unfolding at_head
no_join [] h = refl
no_join (t ∷ rest) h = none_of t rest (no_cross (t ∷ rest) h) (no_joining (t ∷ rest) h) (no_inner (t ∷ rest) h)

module _ (flat : Bool) (self : List Token → Read CondTree) where
  -- the joins of a group
  abbrev pub Joined : ℕ → List EntryTree → List Token → List Token → Type 0
  Joined first entries tokens rest = (count : ℕ) → Looped (at_head is_join) (read_alone (read_join flat self first)) count entries tokens rest

  pub no_join_step : (first : ℕ) (rest : List Token) → 6 ≤ rank rest → Joined first [] [] rest
  no_join_step first rest r count = loop_end (at_head is_join) (read_alone (read_join flat self first)) count rest (no_join rest r)

  pub cross_step : (first : ℕ) (table : NameTree) (alias : Option NameTree) (others : List EntryTree) (cross_at join_at : Span) (own more rest : List Token) →
      read_entry (own ++ (more ++ rest)) ≡ found (table, alias) (more ++ rest) → Joined first others more rest →
      Joined first (entry_tree table alias None first ∷ others) (word CROSS cross_at ∷ word JOIN join_at ∷ own ++ more) rest
  unfolding read_join cross_joined read_after expect and_then at_head is_word is_join
  cross_step first table alias others cross_at join_at own more rest e joined count =
      let entry : EntryTree = entry_tree table alias None first in
      loop_more (at_head is_join) (read_alone (read_join flat self first)) count (entry ∷ []) others (word CROSS cross_at ∷ word JOIN join_at ∷ own) more rest (omega arith) refl
      (alone_read (read_join flat self first) count (word CROSS cross_at ∷ word JOIN join_at ∷ own ++ (more ++ rest)) entry (more ++ rest) (rw e refl)) (joined (count + 1))

  inner_part : (first : ℕ) (table : NameTree) (alias : Option NameTree) (tree : CondTree) (inner_word : List Token) (join_at : Span) (own : List Token) (on_at : Span) (condition rest : List Token) →
      MayBe INNER inner_word →
      read_entry (own ++ (word ON on_at ∷ condition ++ rest)) ≡ found (table, alias) (word ON on_at ∷ condition ++ rest) →
      self (condition ++ rest) ≡ found tree rest →
      (at_head is_join (inner_word ++ (word JOIN join_at ∷ own ++ (word ON on_at ∷ condition ++ rest))) ≡ true)
      × (read_join flat self first (inner_word ++ (word JOIN join_at ∷ own ++ (word ON on_at ∷ condition ++ rest))) ≡ found (entry_tree table alias (Some tree) first) rest)
  unfolding read_join inner_joined without_inner read_after expect and_then at_head is_word is_join
  inner_part first table alias tree inner_word join_at own on_at condition rest (inl w) e f = rw w (refl, rw (e, f) refl)
  inner_part first table alias tree inner_word join_at own on_at condition rest (inr w) e f = rw w.1 (refl, rw (e, f) refl)

  pub inner_step : (first : ℕ) (table : NameTree) (alias : Option NameTree) (tree : CondTree) (others : List EntryTree) →
      (inner_word : List Token) (join_at : Span) (own : List Token) (on_at : Span) (condition more rest : List Token) →
      MayBe INNER inner_word →
      read_entry (own ++ (word ON on_at ∷ condition ++ (more ++ rest))) ≡ found (table, alias) (word ON on_at ∷ condition ++ (more ++ rest)) →
      self (condition ++ (more ++ rest)) ≡ found tree (more ++ rest) →
      Joined first others more rest →
      Joined first (entry_tree table alias (Some tree) first ∷ others) (inner_word ++ (word JOIN join_at ∷ own ++ (word ON on_at ∷ condition ++ more))) rest
  inner_step first table alias tree others inner_word join_at own on_at condition more rest w e f joined count =
      let entry : EntryTree = entry_tree table alias (Some tree) first in
      let front : List Token = inner_word ++ (word JOIN join_at ∷ own ++ (word ON on_at ∷ condition)) in
      let apart : (ts : List Token) → front ++ ts ≡ inner_word ++ (word JOIN join_at ∷ own ++ (word ON on_at ∷ condition ++ ts)) =
      λ ts. append_assoc inner_word (word JOIN join_at ∷ own ++ (word ON on_at ∷ condition)) ts
      ∙ ap (λ us. inner_word ++ word JOIN join_at ∷ us) (append_assoc own (word ON on_at ∷ condition) ts) in
      let part = inner_part first table alias tree inner_word join_at own on_at condition (more ++ rest) w e f in
      rw (← apart more)
      (loop_more (at_head is_join) (read_alone (read_join flat self first)) count (entry ∷ []) others front more rest (some_tokens inner_word join_at (own ++ (word ON on_at ∷ condition)))
      (rw (apart (more ++ rest)) part.0)
      (alone_read (read_join flat self first) count (front ++ (more ++ rest)) entry (more ++ rest) (rw (apart (more ++ rest)) part.1))
      (joined (count + 1)))
    where
      some_tokens : (before : List Token) (at : Span) (after : List Token) → 1 ≤ length (before ++ word JOIN at ∷ after)
      some_tokens [] at after = omega arith
      some_tokens (t ∷ before) at after = omega arith

  pub group_step : (first : ℕ) (table : NameTree) (alias : Option NameTree) (others : List EntryTree) (own more rest : List Token) →
      read_entry (own ++ (more ++ rest)) ≡ found (table, alias) (more ++ rest) → Joined first others more rest →
      read_group flat self first ((own ++ more) ++ rest) ≡ found (entry_tree table alias None first ∷ others) rest
  unfolding read_group and_then
  group_step first table alias others own more rest e joined =
      rw (append_assoc own more rest, e, loop_whole (at_head is_join) (read_alone (read_join flat self first)) 1 others more rest (joined 1)) refl

  -- the groups, from an entry of this number on
  abbrev pub next_group : ℕ → List Token → Read (List EntryTree)
  next_group first tokens = read_after is_comma (read_group flat self first) tokens

  abbrev pub Grouped : ℕ → List EntryTree → List Token → List Token → Type 0
  Grouped first entries tokens rest =
      (group : List EntryTree) × (others : List EntryTree) × (own : List Token) × (more : List Token) × (entries ≡ group ++ others) × (tokens ≡ own ++ more)
      × (read_group flat self first (own ++ (more ++ rest)) ≡ found group (more ++ rest)) × Looped (at_head is_comma) next_group (first + length group) others more rest

  pub last_group_step : (first : ℕ) (entries : List EntryTree) (tokens rest : List Token) → read_group flat self first (tokens ++ rest) ≡ found entries rest → at_head is_comma rest ≡ false →
      Grouped first entries tokens rest
  last_group_step first entries tokens rest e f =
      (entries, [], tokens, [], sym (append-nil entries), sym (append-nil tokens), e, loop_end (at_head is_comma) next_group (first + length entries) rest f)

  more_groups_loop : (first : ℕ) (entries : List EntryTree) (comma_at : Span) (tokens rest : List Token) → Grouped first entries tokens rest →
      Looped (at_head is_comma) next_group first entries (sign Comma comma_at ∷ tokens) rest
  unfolding at_head is_comma
  more_groups_loop first entries comma_at tokens rest g =
      rw (g.4, g.5)
      (loop_more (at_head is_comma) next_group first g.0 g.1 (sign Comma comma_at ∷ g.2) g.3 rest (omega arith) refl
      (after_read is_comma (read_group flat self first) (sign Comma comma_at) (g.2 ++ (g.3 ++ rest)) g.0 (g.3 ++ rest) refl g.6) g.7)

  pub more_groups_step : (first : ℕ) (group others : List EntryTree) (own : List Token) (comma_at : Span) (tokens rest : List Token) →
      read_group flat self first (own ++ (sign Comma comma_at ∷ tokens ++ rest)) ≡ found group (sign Comma comma_at ∷ tokens ++ rest) → Grouped (first + length group) others tokens rest →
      Grouped first (group ++ others) (own ++ sign Comma comma_at ∷ tokens) rest
  more_groups_step first group others own comma_at tokens rest e g =
      (group, others, own, sign Comma comma_at ∷ tokens, refl, refl, e, more_groups_loop (first + length group) others comma_at tokens rest g)

  pub groups_step : (entries : List EntryTree) (tokens rest : List Token) → Grouped 0 entries tokens rest → read_groups flat self (tokens ++ rest) ≡ found entries rest
  unfolding read_groups and_then
  groups_step entries tokens rest g =
      let counted : 0 + length g.0 ≡ length g.0 = omega arith in
      let others : read_parts (at_head is_comma) next_group (length g.0) (g.3 ++ rest) ≡ found g.1 rest =
      loop_whole (at_head is_comma) next_group (length g.0) g.1 g.3 rest (rw counted at g.7) in
      rw (g.4, g.5, append_assoc g.2 g.3 rest, g.6, others) refl

  pub everything_step : (rest : List Token) → at_head (is_word WHERE) rest ≡ false → read_where flat self rest ≡ found None rest
  unfolding read_where
  everything_step rest h = rw h refl

  pub filtered_step : (tree : CondTree) (where_at : Span) (own rest : List Token) → self (own ++ rest) ≡ found tree rest →
      read_where flat self ((word WHERE where_at ∷ own) ++ rest) ≡ found (Some tree) rest
  unfolding read_where read_after expect and_then at_head is_word
  filtered_step tree where_at own rest e = rw e refl

  pub select_step : (scalar : Bool) (distinct : Option Span) (items : List ItemTree) (entries : List EntryTree) (filter : Option CondTree) →
      (select_at : Span) (quantifier listed : List Token) (from_at : Span) (groups condition rest : List Token) →
      read_quantifier scalar (quantifier ++ (listed ++ (word FROM from_at ∷ groups ++ (condition ++ rest)))) ≡ found distinct (listed ++ (word FROM from_at ∷ groups ++ (condition ++ rest))) →
      read_items (listed ++ (word FROM from_at ∷ groups ++ (condition ++ rest))) ≡ found items (word FROM from_at ∷ groups ++ (condition ++ rest)) →
      read_groups flat self (groups ++ (condition ++ rest)) ≡ found entries (condition ++ rest) →
      read_where flat self (condition ++ rest) ≡ found filter rest →
      read_select flat self scalar ((word SELECT select_at ∷ quantifier ++ (listed ++ (word FROM from_at ∷ groups ++ condition))) ++ rest) ≡ found (distinct, items, entries, filter) rest
  unfolding read_select read_after expect and_then is_word
  select_step scalar distinct items entries filter select_at quantifier listed from_at groups condition rest d e f g =
      rw (append_assoc quantifier (listed ++ (word FROM from_at ∷ groups ++ condition)) rest, append_assoc listed (word FROM from_at ∷ groups ++ condition) rest, append_assoc groups condition rest, d, e, f, g) refl

pub subquery_step : (self : List Token → Read CondTree) (scalar : Bool) (parts : Parts) (tokens : List Token) (open_at close_at : Span) (own rest : List Token) →
    tokens ≡ sign Open open_at ∷ own ++ sign Close close_at ∷ [] →
    read_select false self scalar (own ++ (sign Close close_at ∷ rest)) ≡ found parts (sign Close close_at ∷ rest) →
    read_subquery false self scalar (tokens ++ rest) ≡ found (placed parts (span_of tokens)) rest
unfolding read_subquery expect and_then is_open is_close
subquery_step self scalar parts tokens open_at close_at own rest whole e =
    let split : tokens ++ rest ≡ sign Open open_at ∷ own ++ (sign Close close_at ∷ rest) =
    ap (λ ts. ts ++ rest) whole ∙ ap (λ ts. sign Open open_at ∷ ts) (append_assoc own (sign Close close_at ∷ []) rest) in
    let opened : read_after is_open (read_select false self scalar) (tokens ++ rest) ≡ found parts (sign Close close_at ∷ rest) =
    rw split (after_read is_open (read_select false self scalar) (sign Open open_at) (own ++ (sign Close close_at ∷ rest)) parts (sign Close close_at ∷ rest) refl e) in
    rw (opened, place_is tokens rest) refl
