-- What is read of a declaration of a table, but for its rules, is in the grammar.
use Rattle.std.proofs.Common.{ℕ, pos, ◌≡◌, ◌⊎◌, refl, ap, true, false, if◌then◌else◌, List, [], ◌∷◌, codes, inl, inr}
use Rattle.lint_base.specs.declared.place.Span.{Span}
use Rattle.sql_lex.specs.declared.token.Sign.TheVariants.{Open, Close}
use Rattle.sql_lex.specs.declared.token.Kind.{Kind}
use Rattle.sql_lex.specs.declared.token.Kind.TheVariants as kind
use Rattle.sql_lex.specs.declared.token.Token.{Token}
use Rattle.sql_tree.specs.declared.schema.TypeTree.{TypeTree}
use Rattle.sql_tree.specs.declared.schema.TypeTree.TheVariants.{Integer, Text}
use Rattle.sql_parse.specs.grammar.Words.{word, called, sign, number, CONSTRAINT}
use Rattle.sql_parse.specs.grammar.Tables as table
use Rattle.sql_parse.specs.grammar.Tables.{IsChar, SpellsType, SpellsDefault, SpellsConstraint}
use Rattle.sql_parse.specs.inner.readers.Tokens.{found, is_word, is_open, is_called, at_head, read_after}
use Rattle.sql_parse.specs.inner.readers.Tables.{read_length, character_rest, is_character, is_integer, type_from, read_type, read_default, read_constraint}
use Rattle.sql_parse.proofs.SoundTokens.{Sound, Reads, sound_weaker, sound_none, sound_found, sound_first, sound_then, sound_last, sound_regroup, sound_if, either, called_is, sound_word, sound_called, sound_open, sound_close}
use Rattle.sql_parse.proofs.SoundTerms.{name_sound, number_sound, value_sound}

-- one of two words
pub one_of : (first second : List ℕ) (k : Kind) → (if is_called first k then true else is_called second k) ≡ true → (text : List ℕ) × ((text ≡ first) ⊎ (text ≡ second)) × (k ≡ kind.Name text false)
one_of first second k e = of_word (either (is_called first k) (is_called second k) e)
  where
    of_word : (is_called first k ≡ true) ⊎ (is_called second k ≡ true) → (text : List ℕ) × ((text ≡ first) ⊎ (text ≡ second)) × (k ≡ kind.Name text false)
    of_word (inl a) = (first, inl refl, called_is first k a)
    of_word (inr b) = (second, inr refl, called_is second k b)

-- "(" number ")"
abbrev IsLength : TypeTree → List Token → Type 0
IsLength tree own = (value : ℕ) × (place : Span) × (open_at : Span) × (close_at : Span) × (tree ≡ Text (pos value) place) × (own ≡ sign Open open_at ∷ number value place ∷ sign Close close_at ∷ [])

length_sound : (tokens : List Token) → Reads IsLength tokens (read_length tokens)
unfolding read_length read_after
length_sound tokens =
    sound_regroup _ _ _ (sound_open _ (λ open_at rest. sound_then (number_sound rest) (λ n own left s. sound_close _ (λ close_at after. sound_found (
      s.0,
      n.1,
      open_at,
      close_at,
      ap (λ v. Text v n.1) s.1,
      rw s.2 refl,
    )))))

-- after CHAR or CHARACTER
character_sound : (char : List ℕ) (at : Span) (rest : List Token) → IsChar char → Sound (λ tree own left. SpellsType tree (called char at ∷ own)) rest (character_rest at rest)
unfolding character_rest read_after
character_sound char at rest is =
    sound_if (at_head is_open rest)
    (λ e. sound_weaker (λ tree own left l. table.fixed l.0 l.1 char at l.2 l.3 l.4 (ap (λ tokens. called char at ∷ tokens) l.5) is) (length_sound rest))
    (λ e. sound_if (at_head (is_called (codes "VARYING")) rest)
    (λ f. sound_called _ (codes "VARYING") (λ varying_at more.
    sound_weaker (λ tree own left l. table.varying l.0 l.1 char at varying_at l.2 l.3 l.4 (ap (λ tokens. called char at ∷ called (codes "VARYING") varying_at ∷ tokens) l.5) is) (length_sound more)))
    (λ f. sound_found (table.single char at refl refl is)))

type_from_sound : (k : Kind) (at : Span) (rest : List Token) → Sound (λ tree own left. SpellsType tree (record { kind = k; span = at } ∷ own)) rest (type_from k at rest)
unfolding type_from is_integer is_character
type_from_sound k at rest =
    sound_if (is_called (codes "SMALLINT") k) (λ e. rw (called_is (codes "SMALLINT") k e) (sound_found (table.smallint at refl refl)))
    (λ not_small. sound_if (is_integer k) (λ e. integer (one_of (codes "INTEGER") (codes "INT") k e))
    (λ not_integer. sound_if (is_called (codes "BIGINT") k) (λ e. rw (called_is (codes "BIGINT") k e) (sound_found (table.bigint at refl refl)))
    (λ not_big. sound_if (is_called (codes "VARCHAR") k)
    (λ e. rw (called_is (codes "VARCHAR") k e) (sound_weaker (λ tree own left l. table.varchar l.0 l.1 at l.2 l.3 l.4 (ap (λ tokens. called (codes "VARCHAR") at ∷ tokens) l.5)) (length_sound rest)))
    (λ not_varchar. sound_if (is_character k) (λ e. let char = one_of (codes "CHAR") (codes "CHARACTER") k e in rw char.2 (character_sound char.0 at rest char.1)) (λ e. sound_none)))))
  where
    integer : ((text : List ℕ) × ((text ≡ codes "INTEGER") ⊎ (text ≡ codes "INT")) × (k ≡ kind.Name text false)) → Sound (λ tree own left. SpellsType tree (record { kind = k; span = at } ∷ own)) rest (found Integer rest)
    integer (text, inl e, w) = rw (w, e) (sound_found (table.integer at refl refl))
    integer (text, inr e, w) = rw (w, e) (sound_found (table.int at refl refl))

pub type_sound : (tokens : List Token) → Reads SpellsType tokens (read_type tokens)
unfolding read_type
type_sound [] = sound_none
type_sound (t ∷ rest) = sound_first t (type_from_sound t.kind t.span rest)

pub default_sound : (tokens : List Token) → Reads (λ d own. SpellsDefault own) tokens (read_default tokens)
unfolding read_default read_after
default_sound tokens =
    sound_if (at_head (is_called (codes "DEFAULT")) tokens)
    (λ e. sound_regroup _ _ _ (sound_called _ (codes "DEFAULT") (λ at rest. sound_last _ (value_sound rest) (λ value own left s. table.default value at own refl s))))
    (λ e. sound_found (table.no_default refl))

pub constraint_sound : (tokens : List Token) → Reads (λ c own. SpellsConstraint own) tokens (read_constraint tokens)
unfolding read_constraint read_after
constraint_sound tokens =
    sound_if (at_head (is_word CONSTRAINT) tokens)
    (λ e. sound_regroup _ _ _ (sound_word _ CONSTRAINT (λ at rest. sound_last _ (name_sound rest) (λ name own left s. table.named name s.0 at (ap (λ tokens. word CONSTRAINT at ∷ tokens) s.1)))))
    (λ e. sound_found (table.unnamed refl))
