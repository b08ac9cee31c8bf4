-- What is read as a declaration of a table is in the grammar.
use Rattle.std.proofs.Common.{ℕ, ◌≡◌, refl, ap, true, false, List, [], ◌∷◌, ◌++◌, codes, append_assoc}
use Rattle.lint_base.specs.declared.place.Span.{Span}
use Rattle.sql_lex.specs.declared.token.Sign.TheVariants.{Open, Close}
use Rattle.sql_lex.specs.declared.token.Kind.{Kind}
use Rattle.sql_lex.specs.declared.token.Token.{Token}
use Rattle.sql_tree.specs.declared.term.NameTree.{NameTree}
use Rattle.sql_tree.specs.declared.schema.RuleTree.{RuleTree}
use Rattle.sql_tree.specs.declared.schema.Element.{Element}
use Rattle.sql_parse.specs.grammar.Words.{word, called, sign, CHECK, CREATE, FOREIGN, NOT, NULL, PRIMARY, REFERENCES, TABLE, UNIQUE}
use Rattle.sql_parse.specs.grammar.Lists.{SpellsList}
use Rattle.sql_parse.specs.grammar.Names.{SpellsNames}
use Rattle.sql_parse.specs.grammar.Tables as table
use Rattle.sql_parse.specs.grammar.Tables.{SpellsCheck, SpellsColumnRule, SpellsTableRule, SpellsColumnRules, SpellsElement, SpellsCreate}
use Rattle.sql_parse.specs.inner.readers.Tokens.{found, and_then, is_word, is_name, at_head, read_after}
use Rattle.sql_parse.specs.inner.readers.Tables.{foreign_tree, begins_rule, read_reference, read_check, word_rule, column_rule_from, read_column_rule, read_named_rule, read_rules, read_key_names, table_rule_from, read_table_rule, read_declared_column, read_element, read_elements, read_create}
use Rattle.sql_parse.proofs.SoundTokens.{Sound, Reads, sound_weaker, sound_none, sound_found, sound_first, sound_then, sound_last, sound_regroup, sound_from, sound_if, word_is, sound_word, sound_called, sound_open, sound_close, parts_sound}
use Rattle.sql_parse.proofs.SoundTerms.{list_sound, name_sound, names_sound}
use Rattle.sql_parse.proofs.SoundSelects.{cond_sound}
use Rattle.sql_parse.proofs.SoundTypes.{type_sound, default_sound, constraint_sound}
use Rattle.sql_parse.proofs.SoundReferences.{IsReference, reference_sound}

-- where the first token stands
abbrev place_of_first : List Token → Span
place_of_first [] = record { from = 0; to = 0 }
place_of_first (t ∷ rest) = t.span

-- a reference at a column
column_reference : (column : NameTree) (k : Kind) (at : Span) (rest : List Token) (r : NameTree × List NameTree) (own left : List Token) → record { kind = k; span = at } ∷ rest ≡ own ++ left → IsReference true r own →
    SpellsColumnRule column (foreign_tree (column ∷ []) at r ∷ []) own
column_reference column k at rest r own left w s =
    let same : at ≡ s.at = ap place_of_first (rw s.begins at w) in
    rw same (table.references r.0 r.1 s.at refl (s.few refl) s.spelled)

-- what stands before the names of a key
abbrev KeyNames : List NameTree → List Token → Type 0
KeyNames names own = (key_at : Span) × (listed : List Token) × (own ≡ called (codes "KEY") key_at ∷ listed) × SpellsNames names listed

-- rules before others of their column
abbrev BeforeRules : NameTree → List RuleTree → List Token → Type 0
BeforeRules column rules own = (others : List RuleTree) (rest : List Token) → SpellsColumnRules column others rest → SpellsColumnRules column (rules ++ others) (own ++ rest)

module _ (depth : ℕ) where
  check_sound : (tokens : List Token) → Reads SpellsCheck tokens (read_check depth tokens)
  unfolding read_check read_after
  check_sound tokens =
      sound_regroup _ _ _ (sound_word _ CHECK (λ check_at more. sound_regroup _ _ _ (sound_open _ (λ open_at rest. sound_then (cond_sound true depth rest) (λ tree own left s. sound_close _ (λ close_at after. sound_found (record {
        check_at = check_at;
        open_at = open_at;
        own = own;
        close_at = close_at;
        whole = refl;
        condition = s.0;
        flat = s.1 refl;
      })))))))

  word_rule_sound : (column : NameTree) (k : Kind) (at : Span) (rest : List Token) → Sound (λ rules own left. SpellsColumnRule column rules (record { kind = k; span = at } ∷ own)) rest (word_rule depth column k at rest)
  unfolding word_rule
  word_rule_sound column k at rest =
      sound_if (is_word NOT k) (λ e. rw (word_is NOT k e) (sound_word _ NULL (λ null_at left. sound_found (table.not_null at null_at refl refl))))
      (λ not_not. sound_if (is_word NULL k) (λ e. rw (word_is NULL k e) (sound_found (table.null at refl refl)))
      (λ not_null. sound_if (is_word UNIQUE k) (λ e. rw (word_is UNIQUE k e) (sound_found (table.unique at refl refl)))
      (λ not_unique. sound_if (is_word PRIMARY k) (λ e. rw (word_is PRIMARY k e) (sound_called _ (codes "KEY") (λ key_at left. sound_found (table.primary at key_at refl refl)))) (λ e. sound_none))))

  column_rule_from_sound : (column : NameTree) (k : Kind) (at : Span) (rest : List Token) →
      Reads (SpellsColumnRule column) (record { kind = k; span = at } ∷ rest) (column_rule_from depth column k at (record { kind = k; span = at } ∷ rest) rest)
  unfolding column_rule_from
  column_rule_from_sound column k at rest =
      sound_if (is_word CHECK k) (λ e. sound_last _ (check_sound (record { kind = k; span = at } ∷ rest)) (λ tree own left s. table.check tree refl s))
      (λ not_check. sound_if (is_word REFERENCES k)
      (λ e. sound_from (sound_last _ (reference_sound true (record { kind = k; span = at } ∷ rest)) (λ r own left s w. column_reference column k at rest r own left w s)))
      (λ not_reference. sound_first (record { kind = k; span = at }) (word_rule_sound column k at rest)))

  column_rule_sound : (column : NameTree) (tokens : List Token) → Reads (SpellsColumnRule column) tokens (read_column_rule depth column tokens)
  unfolding read_column_rule
  column_rule_sound column [] = sound_none
  column_rule_sound column (t ∷ rest) = column_rule_from_sound column t.kind t.span rest

  named_rule_sound : (column : NameTree) (count : ℕ) (tokens : List Token) → Reads (BeforeRules column) tokens (read_named_rule depth column count tokens)
  unfolding read_named_rule
  named_rule_sound column count tokens =
      sound_then (constraint_sound tokens) (λ c constraint left s. sound_weaker (λ rules own after r others rest more.
      table.more_rules rules others constraint own rest refl (append_assoc constraint own rest) s r more) (column_rule_sound column left))

  rules_sound : (column : NameTree) (tokens : List Token) → Reads (SpellsColumnRules column) tokens (read_rules depth column tokens)
  unfolding read_rules
  rules_sound column tokens =
      parts_sound (at_head begins_rule) (read_named_rule depth column) (λ count. BeforeRules column) (λ count. SpellsColumnRules column) (named_rule_sound column) (λ count. table.no_rules refl refl)
      (λ count part parts own rest s more. s parts rest more) 0 tokens

  key_names_sound : (tokens : List Token) → Reads KeyNames tokens (read_key_names depth tokens)
  unfolding read_key_names read_after
  key_names_sound tokens = sound_called _ (codes "KEY") (λ key_at rest. sound_weaker (λ names listed left s. (key_at, listed, refl, s)) (names_sound rest))

  foreign_sound : (at : Span) (rest : List Token) → Sound (λ rule own left. SpellsTableRule rule (word FOREIGN at ∷ own)) rest
      (and_then (read_key_names depth rest) (λ columns left. and_then (read_reference false left) (λ r after. found (foreign_tree columns at r) after)))
  foreign_sound at rest =
      sound_then (key_names_sound rest) (λ columns own left s. sound_last _ (reference_sound false left) (λ r more after t.
      table.foreign_names columns r.0 r.1 at s.0 t.at s.1 more refl (ap (λ tokens. word FOREIGN at ∷ tokens ++ more) s.2) s.3 t.spelled))

  table_rule_from_sound : (k : Kind) (at : Span) (rest : List Token) → Reads SpellsTableRule (record { kind = k; span = at } ∷ rest) (table_rule_from depth k at (record { kind = k; span = at } ∷ rest) rest)
  unfolding table_rule_from
  table_rule_from_sound k at rest =
      sound_if (is_word UNIQUE k) (λ e. rw (word_is UNIQUE k e) (sound_first (word UNIQUE at) (sound_last _ (names_sound rest) (λ names own left s. table.unique_names names at own refl refl s))))
      (λ not_unique. sound_if (is_word PRIMARY k)
      (λ e. rw (word_is PRIMARY k e)
      (sound_first (word PRIMARY at) (sound_last _ (key_names_sound rest) (λ names own left s. table.primary_names names at s.0 s.1 refl (ap (λ tokens. word PRIMARY at ∷ tokens) s.2) s.3))))
      (λ not_primary. sound_if (is_word CHECK k) (λ e. sound_last _ (check_sound (record { kind = k; span = at } ∷ rest)) (λ tree own left s. table.table_check tree refl s))
      (λ not_check. sound_if (is_word FOREIGN k) (λ e. rw (word_is FOREIGN k e) (sound_first (word FOREIGN at) (foreign_sound at rest))) (λ e. sound_none))))

  table_rule_sound : (tokens : List Token) → Reads SpellsTableRule tokens (read_table_rule depth tokens)
  unfolding read_table_rule
  table_rule_sound [] = sound_none
  table_rule_sound (t ∷ rest) = table_rule_from_sound t.kind t.span rest

  declared_column_sound : (tokens : List Token) → Reads SpellsElement tokens (read_declared_column depth tokens)
  unfolding read_declared_column
  declared_column_sound tokens =
      sound_then (name_sound tokens) (λ name own at_type n. sound_then (type_sound at_type) (λ kind type_tokens at_default k. sound_then (default_sound at_default) (λ d default_tokens at_rules s.
      sound_last _ (rules_sound name at_rules) (λ rules rest after r. (n.0, type_tokens, default_tokens, rest, ap (λ tokens. tokens ++ (type_tokens ++ (default_tokens ++ rest))) n.1, k, s, r)))))

  element_sound : (tokens : List Token) → Reads SpellsElement tokens (read_element depth tokens)
  unfolding read_element
  element_sound tokens =
      sound_if (at_head is_name tokens) (λ e. declared_column_sound tokens)
      (λ e. sound_then (constraint_sound tokens) (λ c constraint left s. sound_last _ (table_rule_sound left) (λ rule own after r. (constraint, own, refl, s, r))))

  -- the elements in parentheses
  abbrev SpellsElements : List Element → List Token → Type 0
  SpellsElements elements own = (open_at : Span) × (listed : List Token) × (close_at : Span) × (own ≡ sign Open open_at ∷ listed ++ sign Close close_at ∷ []) × SpellsList SpellsElement elements listed

  elements_sound : (tokens : List Token) → Reads SpellsElements tokens (read_elements depth tokens)
  unfolding read_elements read_after
  elements_sound tokens =
      sound_regroup _ _ _ (sound_open _ (λ open_at rest. sound_then (list_sound SpellsElement (read_element depth) element_sound rest) (λ elements listed left s. sound_close _ (λ close_at after.
      sound_found (open_at, listed, close_at, refl, s)))))

  pub create_sound : (tokens : List Token) → Reads SpellsCreate tokens (read_create depth tokens)
  unfolding read_create read_after
  create_sound tokens =
      sound_regroup _ _ _ (sound_word _ CREATE (λ create_at at_table. sound_regroup _ _ _ (sound_word _ TABLE (λ table_at at_name. sound_then (name_sound at_name) (λ name own left n.
      sound_last _ (elements_sound left) (λ elements more after s. record {
        create_at = create_at;
        table_at = table_at;
        quoted = n.0;
        open_at = s.0;
        listed = s.1;
        close_at = s.2;
        whole = rw (n.1, s.3) refl;
        elements = s.4;
      }))))))
