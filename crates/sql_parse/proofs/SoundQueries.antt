-- What is read as a query is in the grammar.
use Rattle.std.proofs.Common.{◌≡◌, ◌⊎◌, refl, ap, true, false, List, [], ◌∷◌, length, codes, inl, inr}
use Rattle.lint_base.specs.declared.place.Span.{Span}
use Rattle.sql_lex.specs.declared.token.Kind.{Kind}
use Rattle.sql_lex.specs.declared.token.Token.{Token}
use Rattle.sql_tree.specs.declared.select.OrderTree.{OrderTree}
use Rattle.sql_tree.specs.declared.select.OrderTree.TheVariants.{Place, Column}
use Rattle.sql_parse.specs.grammar.Words.{span_of, BY, ORDER}
use Rattle.sql_parse.specs.grammar.Queries as query
use Rattle.sql_parse.specs.grammar.Queries.{SpellsDirection, SpellsKey, SpellsOrder, SpellsQuery}
use Rattle.sql_parse.specs.inner.readers.Tokens.{is_word, is_name, is_called, at_head, read_after}
use Rattle.sql_parse.specs.inner.readers.Selects.{read_cond}
use Rattle.sql_parse.specs.inner.readers.Queries.{is_direction, directed, read_key, read_order, read_query}
use Rattle.sql_parse.proofs.SoundTokens.{Reads, sound_weaker, sound_found, sound_then, sound_last, sound_if, sound_token, sound_word, called_is, either}
use Rattle.sql_parse.proofs.SoundTerms.{list_sound, number_sound, bare_sound}
use Rattle.sql_parse.proofs.SoundSelects.{select_sound, cond_sound}

-- ASC or DESC
direction_is : (k : Kind) (at : Span) → is_direction k ≡ true → SpellsDirection (record { kind = k; span = at } ∷ [])
unfolding is_direction
direction_is k at e = of_word (either (is_called (codes "ASC") k) (is_called (codes "DESC") k) e)
  where
    of_word : (is_called (codes "ASC") k ≡ true) ⊎ (is_called (codes "DESC") k ≡ true) → SpellsDirection (record { kind = k; span = at } ∷ [])
    of_word (inl a) = query.ascending at (ap (λ (kind : Kind). record { kind = kind; span = at } ∷ []) (called_is (codes "ASC") k a))
    of_word (inr d) = query.descending at (ap (λ (kind : Kind). record { kind = kind; span = at } ∷ []) (called_is (codes "DESC") k d))

-- after a key
directed_sound : (key : OrderTree) (tokens : List Token) → Reads (λ same own. (same ≡ key) × SpellsDirection own) tokens (directed key tokens)
unfolding directed
directed_sound key tokens =
    sound_if (at_head is_direction tokens) (λ e. sound_token is_direction tokens (λ t rest w d. sound_found (refl, direction_is t.kind t.span d)))
    (λ e. sound_found (refl, query.unsaid refl))

key_sound : (tokens : List Token) → Reads SpellsKey tokens (read_key tokens)
unfolding read_key
key_sound tokens =
    sound_if (at_head is_name tokens)
    (λ e. sound_then (bare_sound tokens) (λ term own left s. sound_weaker (λ key more after d. rw d.0 (own, more, refl, s, d.1)) (directed_sound (Column term) left)))
    (λ e. sound_then (number_sound tokens) (λ n own left s. sound_weaker (λ key more after d. rw d.0 (s.0, more, s.1, rw s.2 refl, d.1)) (directed_sound (Place n.0 n.1) left)))

order_sound : (tokens : List Token) → Reads SpellsOrder tokens (read_order tokens)
unfolding read_order read_after
order_sound tokens =
    sound_if (at_head (is_word ORDER) tokens)
    (λ e. sound_word _ ORDER (λ order_at rest. sound_word _ BY (λ by_at more. sound_weaker (λ keys listed left s. query.ordered order_at by_at listed refl s) (list_sound SpellsKey read_key key_sound more))))
    (λ e. sound_found (query.unordered refl refl))

-- the place of its SELECT runs over all tokens
pub query_reads : (tokens : List Token) → Reads (λ tree own. own ≡ tokens → SpellsQuery tree own) tokens (read_query tokens)
unfolding read_query
query_reads tokens =
    sound_then (select_sound false (read_cond false (length tokens)) (λ others. cond_sound false (length tokens) others) false tokens) (λ parts own left s.
    sound_last _ (order_sound left) (λ keys rest after o whole.
    record { own = own; rest = rest; whole = refl; main = rw whole (s.0 (span_of tokens)); order = o }))
