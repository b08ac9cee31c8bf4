-- The conditions and SELECTs that are read are in the grammar.
use Rattle.std.proofs.Common.{ℕ, zero, suc, ◌+◌, ◌≡◌, refl, ap, ◌∙◌, Bool, true, false, List, [], ◌∷◌, ◌++◌, length, None, append_assoc, append-nil, inl, inr, arith}
use Rattle.lint_base.specs.declared.place.Span.{Span}
use Rattle.sql_lex.specs.declared.token.Sign.TheVariants.{Open, Close, Comma}
use Rattle.sql_lex.specs.declared.token.Kind.TheVariants as kind
use Rattle.sql_lex.specs.declared.token.Token.{Token}
use Rattle.sql_tree.specs.declared.select.EntryTree.{EntryTree}
use Rattle.sql_tree.specs.declared.select.SelectTree.{out-roll-SelectTree}
use Rattle.sql_tree.specs.declared.select.CondTree.{CondTree}
use Rattle.sql_tree.specs.declared.select.CondTree.TheVariants.{And, Or, Exists}
use Rattle.sql_parse.specs.grammar.Words.{word, sign, span_of, MayBe, AND, CROSS, EXISTS, FROM, INNER, JOIN, NOT, ON, OR, SELECT, WHERE}
use Rattle.sql_parse.specs.grammar.Selects as select
use Rattle.sql_parse.specs.grammar.Selects.{Level, Disjunction, Conjunction, Factor, Primary, SpellsJoined, SpellsSelect, SpellsWhere, SpellsGroups, SpellsGroup, SpellsJoins}
use Rattle.sql_parse.specs.inner.readers.Tokens.{Read, is_word, is_comma, is_open, at_head, read_alone, read_after, read_separated}
use Rattle.sql_parse.specs.inner.readers.Selects.{Parts, placed, is_join, without_inner, cross_joined, inner_joined, read_join, read_group, read_groups, read_where, read_select, read_subquery, read_parenthesized, read_exists, read_primary, read_factor, read_conjunction, read_disjunction, read_cond}
use Rattle.sql_parse.proofs.SoundTokens.{Reads, sound_weaker, sound_none, sound_found, sound_then, sound_last, sound_regroup, sound_placed, sound_if, word_is, sound_word, sound_open, sound_close, sound_comma, parts_sound, separated_sound}
use Rattle.sql_parse.proofs.SoundItems.{quantifier_sound, items_sound, entry_sound}
use Rattle.sql_parse.proofs.SoundFlat.{AllFlat, flat_not, flat_and, flat_or, more_flat, flat_alone}
use Rattle.sql_parse.proofs.SoundPredicates.{Condition, Subquery, predicate_sound}

-- [ INNER ]
inner_sound : (tokens : List Token) → Reads (λ inner own. MayBe INNER own) tokens (without_inner tokens)
unfolding without_inner
inner_sound tokens = sound_if (at_head (is_word INNER) tokens) (λ e. sound_word _ INNER (λ at rest. sound_found (inr (at, refl)))) (λ e. sound_found (inl refl))

-- a join before others of its group
abbrev Join : ℕ → EntryTree → List Token → Type 0
Join first entry own = (others : List EntryTree) (rest : List Token) → SpellsJoins first others rest → SpellsJoins first (entry ∷ others) (own ++ rest)

-- what follows a group: others after commas
abbrev OtherGroups : ℕ → List EntryTree → List Token → Type 0
OtherGroups count others tokens =
    (first : ℕ) (group : List EntryTree) (own : List Token) → count ≡ first + length group → SpellsGroup first group own → SpellsGroups first (group ++ others) (own ++ tokens)

abbrev CommaGroup : ℕ → List EntryTree → List Token → Type 0
CommaGroup first group tokens = (at : Span) × (own : List Token) × (tokens ≡ sign Comma at ∷ own) × SpellsGroup first group own

no_groups : (count : ℕ) → OtherGroups count [] []
no_groups count first group own e g = rw (append-nil group, append-nil own) (select.last_group g)

more_groups : (count : ℕ) (part parts : List EntryTree) (own rest : List Token) → CommaGroup count part own → OtherGroups (count + length part) parts rest → OtherGroups count (part ++ parts) (own ++ rest)
more_groups count part parts own rest s others first group before e g =
    rw s.2 (select.more_groups group (part ++ parts) before s.0 (s.1 ++ rest) refl refl g (rw (← e) (others count part s.1 refl s.3)))

-- a SELECT, whatever its place
abbrev pub SpellsParts : Bool → Parts → List Token → Type 0
SpellsParts scalar parts own = ((span : Span) → SpellsSelect span (placed parts span) own) × (scalar ≡ true → parts.0 ≡ None)

-- parts of a level with a word between them
module _ (flat : Bool) (level : Level) (joint : ℕ) (read : List Token → Read CondTree) (each : (tokens : List Token) → Reads (Condition flat level) tokens (read tokens)) where
  abbrev Joined : List CondTree → List Token → Type 0
  Joined parts tokens = SpellsJoined level joint parts tokens × (flat ≡ true → AllFlat parts)

  -- what follows a part
  abbrev After : List CondTree → List Token → Type 0
  After parts tokens = (part : CondTree) (own : List Token) → Condition flat level part own → Joined (part ∷ parts) (own ++ tokens)

  none_after : After [] []
  none_after part own s = rw (append-nil own) (select.last part refl s.0, λ f. more_flat part [] (s.1 f) refl)

  more_after : (at : Span) (part : CondTree) (parts : List CondTree) (own rest : List Token) → Condition flat level part own → After parts rest → After (part ∷ parts) (word joint at ∷ own ++ rest)
  more_after at part parts own rest s others first before t =
      let all = others part own s in
      (select.more first (part ∷ parts) before at (own ++ rest) refl refl t.0 all.0, λ f. more_flat first (part ∷ parts) (t.1 f) (all.1 f))

  joined_sound : (tokens : List Token) → Reads Joined tokens (read_separated (is_word joint) read tokens)
  joined_sound tokens =
      separated_sound (is_word joint) (kind.Reserved joint) (word_is joint) read (Condition flat level) each After Joined none_after more_after (λ part parts own rest s others. others part own s) tokens

module _ (flat : Bool) (self : List Token → Read CondTree) (self_sound : (tokens : List Token) → Reads (Condition flat Disjunction) tokens (self tokens)) where
  cross_sound : (first : ℕ) (tokens : List Token) → Reads (Join first) tokens (cross_joined flat self first tokens)
  unfolding cross_joined read_after
  cross_sound first tokens =
      sound_word _ CROSS (λ cross_at at_join. sound_regroup _ _ _ (sound_word _ JOIN (λ join_at rest. sound_last _ (entry_sound rest) (λ entry own left s others after joins.
      select.cross_join entry.0 entry.1 others cross_at join_at own after refl refl s joins))))

  inner_join_sound : (first : ℕ) (tokens : List Token) → Reads (Join first) tokens (inner_joined flat self first tokens)
  unfolding inner_joined read_after
  inner_join_sound first tokens =
      sound_then (inner_sound tokens) (λ inner inner_word at_join may. sound_regroup _ _ _ (sound_word _ JOIN (λ join_at rest. sound_then (entry_sound rest) (λ entry own left s. sound_regroup _ _ _
      (sound_word _ ON (λ on_at more. sound_last _ (self_sound more) (λ tree condition after c others last joins.
      select.inner_join entry.0 entry.1 tree others inner_word join_at own on_at condition last refl (simp append_assoc) may s c.0 joins)))))))

  join_sound : (first : ℕ) (tokens : List Token) → Reads (Join first) tokens (read_join flat self first tokens)
  unfolding read_join
  join_sound first tokens = sound_if (at_head (is_word CROSS) tokens) (λ e. cross_sound first tokens) (λ e. inner_join_sound first tokens)

  -- joins one after the other
  abbrev OneJoin : ℕ → List EntryTree → List Token → Type 0
  OneJoin first entries own = (others : List EntryTree) (rest : List Token) → SpellsJoins first others rest → SpellsJoins first (entries ++ others) (own ++ rest)

  alone_join_sound : (first count : ℕ) (tokens : List Token) → Reads (OneJoin first) tokens (read_alone (read_join flat self first) count tokens)
  unfolding read_alone
  alone_join_sound first count tokens = sound_last _ (join_sound first tokens) (λ entry own left s. s)

  group_sound : (first : ℕ) (tokens : List Token) → Reads (SpellsGroup first) tokens (read_group flat self first tokens)
  unfolding read_group
  group_sound first tokens =
      sound_then (entry_sound tokens) (λ entry own left s. sound_last _
      (parts_sound (at_head is_join) (read_alone (read_join flat self first)) (λ count. OneJoin first) (λ count. SpellsJoins first) (alone_join_sound first) (λ count. select.no_join refl refl) (λ count part parts before rest j joins. j parts rest joins) 1 left)
      (λ others rest after joins. select.group entry.0 entry.1 others own rest refl refl s joins))

  comma_group_sound : (count : ℕ) (tokens : List Token) → Reads (CommaGroup count) tokens (read_after is_comma (read_group flat self count) tokens)
  unfolding read_after
  comma_group_sound count tokens = sound_comma _ (λ at rest. sound_weaker (λ a own left s. (at, own, refl, s)) (group_sound count rest))

  groups_sound : (tokens : List Token) → Reads (SpellsGroups 0) tokens (read_groups flat self tokens)
  unfolding read_groups
  groups_sound tokens =
      sound_then (group_sound 0 tokens) (λ group own left s. sound_last _
      (parts_sound (at_head is_comma) (λ first. read_after is_comma (read_group flat self first)) CommaGroup OtherGroups comma_group_sound no_groups more_groups (length group) left)
      (λ others rest after m. m 0 group own (omega arith) s))

  where_sound : (tokens : List Token) → Reads SpellsWhere tokens (read_where flat self tokens)
  unfolding read_where read_after
  where_sound tokens =
      sound_if (at_head (is_word WHERE) tokens)
      (λ e. sound_regroup _ _ _ (sound_word _ WHERE (λ at rest. sound_last _ (self_sound rest) (λ tree own left s. select.filtered tree at own refl refl s.0))))
      (λ e. sound_found (select.everything refl refl))

  pub select_sound : (scalar : Bool) (tokens : List Token) → Reads (SpellsParts scalar) tokens (read_select flat self scalar tokens)
  unfolding read_select read_after
  select_sound scalar tokens =
      sound_word _ SELECT (λ select_at at_quantifier.
      sound_then (quantifier_sound scalar at_quantifier) (λ distinct quantifier at_items q.
      sound_then (items_sound at_items) (λ items listed at_from i.
      sound_regroup _ _ _ (sound_word _ FROM (λ from_at rest.
      sound_then (groups_sound rest) (λ entries groups at_where g.
      sound_last _ (where_sound at_where) (λ filter condition left w. (
        λ span. select.select distinct items entries filter select_at quantifier listed from_at groups condition refl refl q.0 i g w,
        q.1,
      ))))))))

  subquery_sound : (scalar : Bool) (tokens : List Token) → Reads (Subquery flat scalar) tokens (read_subquery flat self scalar tokens)
  unfolding read_subquery read_after
  subquery_sound scalar tokens =
      sound_if flat (λ e. sound_none)
      (λ e. sound_placed (sound_regroup _ _ _ (sound_open _ (λ open_at rest. sound_then (select_sound scalar rest) (λ parts own left s. sound_close _ (λ close_at after. sound_found (λ place. (
        rw place (select.subquery open_at own close_at refl (s.0 (span_of (sign Open open_at ∷ own ++ sign Close close_at ∷ [])))),
        λ is. rw out-roll-SelectTree (s.1 is),
        λ is. cc,
      ))))))))

  parenthesized_sound : (tokens : List Token) → Reads (Condition flat Primary) tokens (read_parenthesized flat self tokens)
  unfolding read_parenthesized read_after
  parenthesized_sound tokens =
      sound_regroup _ _ _ (sound_open _ (λ open_at rest. sound_then (self_sound rest) (λ tree own left s. sound_close _ (λ close_at after. sound_found (select.parenthesized open_at own close_at refl s.0, s.1)))))

  exists_sound : (tokens : List Token) → Reads (Condition flat Primary) tokens (read_exists flat self tokens)
  unfolding read_exists read_after
  exists_sound tokens =
      sound_placed (sound_regroup _ _ _ (sound_word _ EXISTS (λ at rest. sound_last _ (subquery_sound false rest) (λ tree own left s place.
      (select.exists tree at own (ap (λ p. Exists tree p) place) refl s.0, λ f. absurd (s.2 f))))))

  primary_sound : (tokens : List Token) → Reads (Condition flat Primary) tokens (read_primary flat self tokens)
  unfolding read_primary
  primary_sound tokens =
      sound_if (at_head is_open tokens) (λ e. parenthesized_sound tokens)
      (λ e. sound_if (at_head (is_word EXISTS) tokens) (λ f. exists_sound tokens) (λ f. predicate_sound flat (read_subquery flat self) subquery_sound tokens))

  factor_sound : (tokens : List Token) → Reads (Condition flat Factor) tokens (read_factor flat self tokens)
  unfolding read_factor read_after
  factor_sound tokens =
      sound_if (at_head (is_word NOT) tokens)
      (λ e. sound_regroup _ _ _ (sound_word _ NOT (λ at rest. sound_last _ (primary_sound rest) (λ inner own left s. (select.negation inner at own refl refl s.0, λ f. flat_not inner ∙ s.1 f)))))
      (λ e. sound_weaker (λ tree own left s. (select.plain s.0, s.1)) (primary_sound tokens))

  conjunction_sound : (tokens : List Token) → Reads (Condition flat Conjunction) tokens (read_conjunction flat self tokens)
  unfolding read_conjunction
  conjunction_sound tokens =
      sound_last _ (joined_sound flat Factor AND (read_factor flat self) factor_sound tokens) (λ parts own left s. (select.conjunction parts refl s.0, λ f. flat_alone And flat_and parts (s.1 f)))

  disjunction_sound : (tokens : List Token) → Reads (Condition flat Disjunction) tokens (read_disjunction flat self tokens)
  unfolding read_disjunction
  disjunction_sound tokens =
      sound_last _ (joined_sound flat Conjunction OR (read_conjunction flat self) conjunction_sound tokens) (λ parts own left s. (select.disjunction parts refl s.0, λ f. flat_alone Or flat_or parts (s.1 f)))

-- a whole condition
pub cond_sound : (flat : Bool) (depth : ℕ) (tokens : List Token) → Reads (Condition flat Disjunction) tokens (read_cond flat depth tokens)
unfolding read_cond
cond_sound flat zero tokens = sound_none
cond_sound flat (suc depth) tokens = disjunction_sound flat (read_cond flat depth) (λ others. cond_sound flat depth others) tokens
