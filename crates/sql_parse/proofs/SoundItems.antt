-- What is read at the beginning of a SELECT, and as an entry of FROM, is in the grammar.
use Rattle.std.proofs.Common.{pos, ◌≡◌, ◌⊎◌, refl, ap, sym, ◌∙◌, Bool, true, List, ◌∷◌, ◌++◌, Option, Some, None, append_assoc, inl, inr}
use Rattle.lint_base.specs.declared.place.Span.{Span}
use Rattle.sql_lex.specs.declared.token.Sign.TheVariants.{Dot}
use Rattle.sql_lex.specs.declared.token.Token.{Token}
use Rattle.sql_tree.specs.declared.term.NameTree.{NameTree}
use Rattle.sql_tree.specs.declared.term.TermTree.{TermTree}
use Rattle.sql_tree.specs.declared.term.TermTree.TheVariants.{Column}
use Rattle.sql_parse.specs.grammar.Words.{sign, span_of, ALL, DISTINCT}
use Rattle.sql_parse.specs.grammar.Names.{SpellsName}
use Rattle.sql_parse.specs.grammar.Terms.{SpellsBareColumn, SpellsLiteral}
use Rattle.sql_parse.specs.grammar.Items as item
use Rattle.sql_parse.specs.grammar.Items.{SpellsQuantifier, SpellsItem, SpellsItems, SpellsEntry}
use Rattle.sql_parse.specs.inner.readers.Tokens.{is_word, is_dot, is_star, is_name, at_head, place_before}
use Rattle.sql_parse.specs.inner.readers.Items.{Entry, read_quantifier, item_after, dotted_item, named_item, read_item, read_items, read_entry}
use Rattle.sql_parse.proofs.SoundTokens.{Sound, Reads, sound_weaker, sound_none, sound_found, sound_then, sound_then_from, sound_last, place_is, sound_if, sound_word, sound_dot, sound_star}
use Rattle.sql_parse.proofs.SoundTerms.{list_sound, name_sound, alias_sound, literal_sound}

-- of a scalar subquery nothing is distinct
abbrev pub Quantified : Bool → Option Span → List Token → Type 0
Quantified scalar distinct tokens = SpellsQuantifier distinct tokens × (scalar ≡ true → distinct ≡ None)

pub quantifier_sound : (scalar : Bool) (tokens : List Token) → Reads (Quantified scalar) tokens (read_quantifier scalar tokens)
unfolding read_quantifier
quantifier_sound scalar tokens =
    sound_if (at_head (is_word DISTINCT) tokens) (λ e. sound_if scalar (λ f. sound_none) (λ f. sound_word _ DISTINCT (λ at rest. sound_found (refl, λ is. cc))))
    (λ e. sound_if (at_head (is_word ALL) tokens) (λ f. sound_word _ ALL (λ at rest. sound_found (inr (at, refl), λ is. refl))) (λ f. sound_found (inl refl, λ is. refl)))

-- after a term
item_after_sound : (tokens : List Token) (term : TermTree) (own rest : List Token) → (SpellsBareColumn term own ⊎ SpellsLiteral term own) →
    Sound (λ item more left. SpellsItem item (own ++ more)) rest (item_after tokens term rest)
unfolding item_after
item_after_sound tokens term own rest s = sound_last _ (alias_sound rest) (λ alias more left a. (own, more, refl, s, a))

-- after a name and a dot
dotted_sound : (tokens : List Token) (table : NameTree) (own : List Token) (dot : Span) (rest : List Token) → tokens ≡ own ++ sign Dot dot ∷ rest → SpellsName table own →
    Sound (λ item more left. SpellsItem item (own ++ sign Dot dot ∷ more)) rest (dotted_item tokens table rest)
unfolding dotted_item
dotted_sound tokens table own dot rest whole s =
    sound_if (at_head is_star rest)
    (λ e. sound_star _ (λ star left. sound_found (s.0, dot, rw s.1 refl)))
    (λ e. sound_then_from (name_sound rest) (λ name more left w m.
    let column : List Token = own ++ sign Dot dot ∷ more in
    let place : place_before tokens left ≡ span_of column = place_is tokens column left (whole ∙ ap (λ (others : List Token). own ++ sign Dot dot ∷ others) w ∙ sym (append_assoc own (sign Dot dot ∷ more) left)) in
    sound_weaker (λ item others after i. rw append_assoc at i)
    (item_after_sound tokens (Column (Some table) name (pos 0) (place_before tokens left)) column left (inl (record {
      table = Some table;
      name = name;
      tree = ap (λ p. Column (Some table) name (pos 0) p) place;
      column = (s.0, dot, m.0, rw (s.1, m.1) refl);
    })))))

named_sound : (tokens : List Token) (name : NameTree) (own rest : List Token) → tokens ≡ own ++ rest → SpellsName name own → Sound (λ item more left. SpellsItem item (own ++ more)) rest (named_item tokens name rest)
unfolding named_item
named_sound tokens name own rest whole s =
    sound_if (at_head is_dot rest)
    (λ e. sound_dot _ (λ dot left w. dotted_sound tokens name own dot left (whole ∙ ap (λ (others : List Token). own ++ others) w) s))
    (λ e. item_after_sound tokens (Column None name (pos 0) (place_before tokens rest)) own rest (inl (record {
      table = None;
      name = name;
      tree = ap (λ p. Column None name (pos 0) p) (place_is tokens own rest whole);
      column = s;
    })))

pub item_sound : (tokens : List Token) → Reads SpellsItem tokens (read_item tokens)
unfolding read_item
item_sound tokens =
    sound_if (at_head is_name tokens) (λ e. sound_then_from (name_sound tokens) (λ name own left w s. named_sound tokens name own left w s))
    (λ e. sound_then (literal_sound tokens) (λ term own left s. item_after_sound tokens term own left (inr s)))

pub items_sound : (tokens : List Token) → Reads SpellsItems tokens (read_items tokens)
unfolding read_items
items_sound tokens =
    sound_if (at_head is_star tokens) (λ e. sound_star _ (λ at rest. sound_found (item.star at refl refl)))
    (λ e. sound_weaker (λ items own left s. item.listed s) (list_sound SpellsItem read_item item_sound tokens))

-- an entry
abbrev pub SpellsPair : Entry → List Token → Type 0
SpellsPair entry tokens = SpellsEntry entry.0 entry.1 tokens

pub entry_sound : (tokens : List Token) → Reads SpellsPair tokens (read_entry tokens)
unfolding read_entry
entry_sound tokens =
    sound_then (name_sound tokens) (λ table own left s. sound_last _ (alias_sound left) (λ alias more after a. record { quoted = s.0; rest = more; whole = rw s.1 refl; visible = a }))
