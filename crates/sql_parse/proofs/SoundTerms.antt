-- The names and terms that are read are in the grammar.
use Rattle.std.proofs.Common.{ℕ, ℤ, pos, negsuc, neg_ℤ, int_le, ◌≡◌, ◌⊎◌, refl, ap, sym, ◌∙◌, true, List, [], ◌∷◌, ◌++◌, Some, append-nil, true≢false, inl, inr}
use Rattle.lint_base.specs.declared.place.Span.{Span}
use Rattle.sql_lex.specs.declared.token.Sign.TheVariants.{Comma, Plus, Minus}
use Rattle.sql_lex.specs.declared.token.Kind.{Kind}
use Rattle.sql_lex.specs.declared.token.Kind.TheVariants as kind
use Rattle.sql_lex.specs.declared.token.Token.{Token}
use Rattle.sql_tree.specs.declared.term.NameTree.{NameTree}
use Rattle.sql_tree.specs.declared.term.TermTree.TheVariants.{Column, Number}
use Rattle.sql_parse.specs.grammar.Words.{word, sign, number, text, span_of, AS, NULL}
use Rattle.sql_parse.specs.grammar.Lists.{SpellsMore, SpellsList}
use Rattle.sql_parse.specs.grammar.Names.{SpellsName, SpellsNames, SpellsAlias}
use Rattle.sql_parse.specs.grammar.Terms as term
use Rattle.sql_parse.specs.grammar.Terms.{SpellsSigned, SpellsLiteral, SpellsValue, SpellsColumn, SpellsBareColumn, SpellsTerm}
use Rattle.sql_parse.specs.inner.readers.Tokens.{Read, is_word, is_comma, is_dot, is_plus, is_name, at_head, read_after, read_separated, place_before}
use Rattle.sql_parse.specs.inner.readers.Terms.{Named, read_name, name_from, read_names, read_alias, number_from, read_number, signed_from, read_signed, literal_from, read_literal, read_value, column_after, read_column, read_bare, term_after, read_term}
use Rattle.sql_parse.proofs.SoundTokens.{Sound, Reads, sound_weaker, sound_none, sound_found, sound_then, sound_last, sound_regroup, sound_placed, sound_if, sound_first, comma_is, sound_word, sound_open, sound_close, sound_dot, separated_sound}

-- lists with commas
module _ {A : Type 0} (Spells : A → List Token → Type 0) (read : List Token → Read A) (each : (tokens : List Token) → Reads Spells tokens (read tokens)) where
  pub list_sound : (tokens : List Token) → Reads (SpellsList Spells) tokens (read_separated is_comma read tokens)
  list_sound tokens =
      separated_sound is_comma (kind.Sign Comma) comma_is read Spells each (SpellsMore Spells) (SpellsList Spells) refl (λ at part parts own rest s m. (at, own, rest, refl, s, m))
      (λ part parts own rest s m. (own, rest, refl, s, m)) tokens

-- a name
name_from_sound : (k : Kind) (at : Span) (rest : List Token) → Sound (λ name own left. SpellsName name (record { kind = k; span = at } ∷ own)) rest (name_from k at rest)
unfolding name_from
name_from_sound (kind.Name text quoted) at rest = sound_found (quoted, refl)
name_from_sound _ at rest = sound_none

pub name_sound : (tokens : List Token) → Reads SpellsName tokens (read_name tokens)
unfolding read_name
name_sound [] = sound_none
name_sound (t ∷ rest) = sound_first t (name_from_sound t.kind t.span rest)

pub names_sound : (tokens : List Token) → Reads SpellsNames tokens (read_names tokens)
unfolding read_names
names_sound tokens =
    sound_open _ (λ open_at rest.
    sound_then (list_sound SpellsName read_name name_sound rest) (λ names listed left s.
    sound_close _ (λ close_at after.
    sound_found (record { open_at = open_at; listed = listed; close_at = close_at; whole = refl; names_listed = s }))))

named_alias : (as_word : List Token) (name : NameTree) (own : List Token) → (as_word ≡ []) ⊎ ((at : Span) × (as_word ≡ word AS at ∷ [])) → SpellsName name own → SpellsAlias (Some name) (as_word ++ own)
named_alias as_word name own may s = (s.0, as_word, ap (λ tokens. as_word ++ tokens) s.1, may)

pub alias_sound : (tokens : List Token) → Reads SpellsAlias tokens (read_alias tokens)
unfolding read_alias read_after
alias_sound tokens =
    sound_if (at_head (is_word AS) tokens) (λ e. sound_regroup _ _ _ (sound_word _ AS (λ at rest. sound_last _ (name_sound rest) (λ name own left s. named_alias (word AS at ∷ []) name own (inr (at, refl)) s))))
    (λ e. sound_if (at_head is_name tokens) (λ f. sound_last _ (name_sound tokens) (λ name own left s. named_alias [] name own (inl refl) s)) (λ f. sound_found refl))

-- a number
abbrev pub IsNumber : ℤ × Span → List Token → Type 0
IsNumber n tokens = (value : ℕ) × (n.0 ≡ pos value) × (tokens ≡ number value n.1 ∷ [])

no_sign : (value : ℤ) → int_le (pos 0) value ≡ true → (n : ℕ) × (value ≡ pos n)
no_sign (pos n) e = (n, refl)
no_sign (negsuc n) e = absurd (true≢false (sym e))

number_from_sound : (k : Kind) (at : Span) (rest : List Token) → Sound (λ n own left. IsNumber n (record { kind = k; span = at } ∷ own)) rest (number_from k at rest)
unfolding number_from
number_from_sound (kind.Number value) at rest =
    sound_if _ (λ e. let n = no_sign value e in sound_found (n.0, n.1, ap (λ (v : ℤ). record { kind = kind.Number v; span = at } ∷ []) n.1)) (λ e. sound_none)
number_from_sound _ at rest = sound_none

pub number_sound : (tokens : List Token) → Reads IsNumber tokens (read_number tokens)
unfolding read_number
number_sound [] = sound_none
number_sound (t ∷ rest) = sound_first t (number_from_sound t.kind t.span rest)

-- + or - and a number
signed_from_sound : (k : Kind) (at : Span) (rest : List Token) → Sound (λ value own left. SpellsSigned value (record { kind = k; span = at } ∷ own)) rest (signed_from k rest)
unfolding signed_from
signed_from_sound (kind.Sign Plus) at rest = sound_last _ (number_sound rest) (λ n own left s. term.plus at n.1 s.0 s.1 (ap (λ tokens. sign Plus at ∷ tokens) s.2))
signed_from_sound (kind.Sign Minus) at rest = sound_last _ (number_sound rest) (λ n own left s. term.minus at n.1 s.0 (ap neg_ℤ s.1) (ap (λ tokens. sign Minus at ∷ tokens) s.2))
signed_from_sound _ at rest = sound_none

pub signed_sound : (tokens : List Token) → Reads SpellsSigned tokens (read_signed tokens)
unfolding read_signed
signed_sound [] = sound_none
signed_sound (t ∷ rest) = sound_first t (signed_from_sound t.kind t.span rest)

-- a literal
literal_from_sound : (k : Kind) (at : Span) (rest : List Token) → Reads SpellsLiteral (record { kind = k; span = at } ∷ rest) (literal_from k at (record { kind = k; span = at } ∷ rest) rest)
unfolding literal_from
literal_from_sound (kind.Number value) at rest =
    sound_last _ (number_sound (record { kind = kind.Number value; span = at } ∷ rest)) (λ n own left s. term.unsigned s.0 n.1 (ap (λ v. Number v n.1) s.1) s.2)
literal_from_sound (kind.Text characters) at rest = sound_first (text characters at) (sound_found (term.quoted characters at refl refl))
literal_from_sound (kind.Sign s) at rest =
    sound_placed (sound_last _ (signed_sound (sign s at ∷ rest)) (λ value own left signed place. term.signed value (ap (λ p. Number value p) place) signed))
literal_from_sound _ at rest = sound_none

pub literal_sound : (tokens : List Token) → Reads SpellsLiteral tokens (read_literal tokens)
unfolding read_literal
literal_sound [] = sound_none
literal_sound (t ∷ rest) = literal_from_sound t.kind t.span rest

-- a value
pub value_sound : (tokens : List Token) → Reads SpellsValue tokens (read_value tokens)
unfolding read_value
value_sound tokens =
    sound_if (at_head (is_word NULL) tokens) (λ e. sound_word _ NULL (λ at rest. sound_found (term.null at refl refl))) (λ e. sound_weaker (λ a own left s. term.literal s) (literal_sound tokens))

-- a column
abbrev pub SpellsNamed : Named → List Token → Type 0
SpellsNamed c tokens = SpellsColumn c.0 c.1 tokens

column_after_sound : (first : NameTree) (own rest : List Token) → SpellsName first own → Sound (λ c more left. SpellsNamed c (own ++ more)) rest (column_after first rest)
unfolding column_after read_after
column_after_sound first own rest s =
    sound_if (at_head is_dot rest)
    (λ e. sound_regroup _ _ _ (sound_dot _ (λ at others w. sound_last _ (name_sound others) (λ name more left m. (s.0, at, m.0, rw (s.1, m.1) refl)))))
    (λ e. sound_found (s.0, append-nil own ∙ s.1))

pub column_sound : (tokens : List Token) → Reads SpellsNamed tokens (read_column tokens)
unfolding read_column
column_sound tokens = sound_then (name_sound tokens) (λ name own left s. column_after_sound name own left s)

pub bare_sound : (tokens : List Token) → Reads SpellsBareColumn tokens (read_bare tokens)
unfolding read_bare
bare_sound tokens =
    sound_placed (sound_last _ (column_sound tokens) (λ c own left s place.
    record { table = c.0; name = c.1; tree = ap (λ p. Column c.0 c.1 (pos 0) p) place; column = s }))

-- a term
term_after_sound : (tokens : List Token) (c : Named) (own rest : List Token) → SpellsNamed c own →
    Sound (λ tree more left. place_before tokens left ≡ span_of (own ++ more) → SpellsTerm tree (own ++ more)) rest (term_after tokens c rest)
unfolding term_after
term_after_sound tokens c own rest s =
    sound_if (at_head is_plus rest)
    (λ e. sound_last _ (signed_sound rest) (λ added more left m place.
    term.sum (record { table = c.0; name = c.1; added = added; own = own; rest = more; tree = ap (λ p. Column c.0 c.1 added p) place; whole = refl; column = s; sum = m })))
    (λ e. sound_found (λ place.
    term.column (record { table = c.0; name = c.1; tree = ap (λ p. Column c.0 c.1 (pos 0) p) place; column = rw (append-nil own) s })))

pub term_sound : (tokens : List Token) → Reads SpellsTerm tokens (read_term tokens)
unfolding read_term
term_sound tokens =
    sound_if (at_head is_name tokens) (λ e. sound_placed (sound_then (column_sound tokens) (λ c own left s. term_after_sound tokens c own left s)))
    (λ e. sound_weaker (λ a own left s. term.value s) (value_sound tokens))
