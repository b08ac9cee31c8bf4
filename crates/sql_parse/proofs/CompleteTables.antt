-- The parts of a declaration of a table, but for its rules, are read whole.
use Rattle.std.proofs.Common.{ℕ, ◌+◌, ◌≤◌, ◌≡◌, refl, ap, ◌∙◌, Bool, true, false, List, [], ◌∷◌, ◌++◌, length, codes, lit≤, arith, ◌⊎◌, inl, inr}
use Rattle.std.proofs.lemmas.List.{append_assoc}
use Rattle.lint_base.specs.declared.place.Span.{Span}
use Rattle.sql_lex.specs.declared.token.Sign.TheVariants.{Close}
use Rattle.sql_lex.specs.declared.token.Token.{Token}
use Rattle.sql_tree.specs.declared.term.NameTree.{NameTree}
use Rattle.sql_tree.specs.declared.schema.TypeTree.{TypeTree}
use Rattle.sql_parse.specs.grammar.Words.{word, called, sign, CONSTRAINT, ON}
use Rattle.sql_parse.specs.grammar.Lists.{SpellsList}
use Rattle.sql_parse.specs.grammar.Names.{name_token, SpellsName, SpellsNames}
use Rattle.sql_parse.specs.grammar.Tables as table
use Rattle.sql_parse.specs.grammar.Tables.{IsEvent, SpellsType, SpellsDefault, SpellsConstraint, SpellsAction, SpellsActions, SpellsTarget, SpellsReference}
use Rattle.sql_parse.specs.inner.readers.Tokens.{found, and_then, is_word, is_comma, is_open, is_close, is_called, at_head, expect, read_after, read_separated}
use Rattle.sql_parse.specs.inner.readers.Terms.{name_from, read_name, read_names}
use Rattle.sql_parse.specs.inner.readers.Tables.{read_length, character_rest, is_character, is_integer, type_from, read_type, read_default, read_constraint, is_event, is_plain_action, is_set_value, action_from, read_action, read_event, read_actions, read_one_name, read_target, read_reference}
use Rattle.sql_parse.proofs.CompleteTokens.{kind_rank, rank}
use Rattle.sql_parse.proofs.CompleteLists.{after_read, Looped, loop_end, loop_more, loop_whole, list_read}
use Rattle.sql_parse.proofs.CompleteTerms.{name_read, number_is_read, value_read}

-- names in parentheses
listed_names : (names : List NameTree) (listed : List Token) (close_at : Span) (rest : List Token) → SpellsList SpellsName names listed →
    read_separated is_comma read_name (listed ++ (sign Close close_at ∷ rest)) ≡ found names (sign Close close_at ∷ rest)
unfolding rank kind_rank
listed_names names listed close_at rest s =
    list_read SpellsName read_name 0 (lit≤ tt) (length listed) (λ a own n small rest r. name_read a own n rest) names listed s (omega arith) (sign Close close_at ∷ rest) (lit≤ tt)

pub names_read : (names : List NameTree) (tokens : List Token) → SpellsNames names tokens → (rest : List Token) → read_names (tokens ++ rest) ≡ found names rest
unfolding read_names expect and_then is_open is_close
names_read names tokens s rest = rw (s.whole, append_assoc s.listed (sign Close s.close_at ∷ []) rest, listed_names names s.listed s.close_at rest s.names_listed) refl

-- a type
pub type_read : (tree : TypeTree) (tokens : List Token) → SpellsType tree tokens → (rest : List Token) → at_head is_open rest ≡ false → at_head (is_called (codes "VARYING")) rest ≡ false →
    read_type (tokens ++ rest) ≡ found tree rest
unfolding read_type type_from read_length character_rest is_character is_integer is_called read_after expect and_then at_head is_open is_close
type_read tree tokens (table.smallint at e whole) rest h f = rw (e, whole) refl
type_read tree tokens (table.integer at e whole) rest h f = rw (e, whole) refl
type_read tree tokens (table.int at e whole) rest h f = rw (e, whole) refl
type_read tree tokens (table.bigint at e whole) rest h f = rw (e, whole) refl
type_read tree tokens (table.varchar value place at open_at close_at e whole) rest h f = rw (e, whole, number_is_read value place (sign Close close_at ∷ rest)) refl
type_read tree tokens (table.varying value place char at varying_at open_at close_at e whole (inl c)) rest h f = rw (e, whole, c, number_is_read value place (sign Close close_at ∷ rest)) refl
type_read tree tokens (table.varying value place char at varying_at open_at close_at e whole (inr c)) rest h f = rw (e, whole, c, number_is_read value place (sign Close close_at ∷ rest)) refl
type_read tree tokens (table.fixed value place char at open_at close_at e whole (inl c)) rest h f = rw (e, whole, c, number_is_read value place (sign Close close_at ∷ rest)) refl
type_read tree tokens (table.fixed value place char at open_at close_at e whole (inr c)) rest h f = rw (e, whole, c, number_is_read value place (sign Close close_at ∷ rest)) refl
type_read tree tokens (table.single char at e whole (inl c)) rest h f = rw (e, whole, c, h, f) refl
type_read tree tokens (table.single char at e whole (inr c)) rest h f = rw (e, whole, c, h, f) refl

-- what leaves nothing in the tree is read as false
undefaulted : (rest : List Token) → at_head (is_called (codes "DEFAULT")) rest ≡ false → read_default rest ≡ found false rest
unfolding read_default
undefaulted rest h = rw h refl

pub default_read : (tokens : List Token) → SpellsDefault tokens → (rest : List Token) → at_head (is_called (codes "DEFAULT")) rest ≡ false → read_default (tokens ++ rest) ≡ found false rest
unfolding read_default read_after expect and_then at_head is_called
default_read tokens (table.no_default e) rest h = rw e (undefaulted rest h)
default_read tokens (table.«default» term at own e s) rest h = rw (e, value_read term own s rest) refl

pub constraint_read : (tokens : List Token) → SpellsConstraint tokens → (rest : List Token) → at_head (is_word CONSTRAINT) rest ≡ false → read_constraint (tokens ++ rest) ≡ found false rest
unfolding read_constraint read_after expect read_name name_from and_then at_head is_word
constraint_read tokens (table.unnamed e) rest h = rw (e, h) refl
constraint_read tokens (table.named name quoted at e) rest h = rw e refl

-- the actions of a reference
action_read : (tokens : List Token) → SpellsAction tokens → (rest : List Token) → read_action (tokens ++ rest) ≡ found false rest
unfolding read_action action_from is_plain_action is_set_value is_called is_word expect and_then
action_read tokens (table.cascade at e) rest = rw e refl
action_read tokens (table.restrict at e) rest = rw e refl
action_read tokens (table.set_null at null_at e) rest = rw e refl
action_read tokens (table.set_default at default_at e) rest = rw e refl
action_read tokens (table.no_action at action_at e) rest = rw e refl

event_is : (event : List ℕ) (at : Span) → IsEvent event → is_event (called event at).kind ≡ true
unfolding is_event is_called
event_is event at (inl e) = rw e refl
event_is event at (inr e) = rw e refl

event_read : (count : ℕ) (event : List ℕ) (on_at event_at : Span) (own rest : List Token) → IsEvent event → SpellsAction own →
    read_event count (word ON on_at ∷ called event event_at ∷ own ++ rest) ≡ found [] rest
unfolding read_event and_then is_word
event_read count event on_at event_at own rest i s =
    let acted : read_after is_event read_action (called event event_at ∷ own ++ rest) ≡ found false rest =
    after_read is_event read_action (called event event_at) (own ++ rest) false rest (event_is event event_at i) (action_read own s rest) in
    rw (after_read (is_word ON) (read_after is_event read_action) (word ON on_at) (called event event_at ∷ own ++ rest) false rest refl acted) refl

actions_loop : (tokens : List Token) → SpellsActions tokens → (rest : List Token) → at_head (is_word ON) rest ≡ false → (count : ℕ) → Looped (at_head (is_word ON)) read_event count [] tokens rest
unfolding at_head is_word
actions_loop tokens (table.no_actions e) rest f count = rw e (loop_end (at_head (is_word ON)) read_event count rest f)
actions_loop tokens (table.more_actions event on_at event_at own more whole i s t) rest f count =
    rw whole
    (loop_more (at_head (is_word ON)) read_event count [] [] (word ON on_at ∷ called event event_at ∷ own) more rest (omega arith) refl
    (event_read count event on_at event_at own (more ++ rest) i s) (actions_loop more t rest f (count + 0)))

actions_read : (tokens : List Token) → SpellsActions tokens → (rest : List Token) → at_head (is_word ON) rest ≡ false → read_actions (tokens ++ rest) ≡ found false rest
unfolding read_actions and_then
actions_read tokens s rest f = rw (loop_whole (at_head (is_word ON)) read_event 0 [] tokens rest (actions_loop tokens s rest f 0)) refl

-- a reference, at a column of one name
abbrev pub MayTarget : Bool → List NameTree → Type 0
MayTarget one target = (one ≡ false) ⊎ (length target ≤ 1)

names_open : (names : List NameTree) (tokens : List Token) → SpellsNames names tokens → (rest : List Token) → at_head is_open (tokens ++ rest) ≡ true
unfolding at_head is_open
names_open names tokens s rest = rw s.whole refl

one_name_read : (name : NameTree) (tokens : List Token) → SpellsNames (name ∷ []) tokens → (rest : List Token) → read_one_name (tokens ++ rest) ≡ found (name ∷ []) rest
unfolding read_one_name read_after expect read_name name_from and_then is_open is_close
one_name_read name tokens s rest =
    let listed = s.names_listed in
    let alone : s.listed ≡ name_token name listed.3.0 ∷ [] = listed.2 ∙ ap (λ ts. listed.0 ++ ts) listed.4 ∙ ap (λ ts. ts ++ []) listed.3.1 in
    rw (s.whole, alone) refl

one_target : (one : Bool) (target : List NameTree) (tokens rest : List Token) → at_head is_open tokens ≡ true → read_names tokens ≡ found target rest → read_one_name tokens ≡ found target rest →
    read_target one tokens ≡ found target rest
unfolding read_target
one_target true target tokens rest h e f = rw h f
one_target false target tokens rest h e f = rw h e

target_read : (one : Bool) (target : List NameTree) (tokens : List Token) → SpellsTarget target tokens → MayTarget one target → (rest : List Token) → at_head is_open rest ≡ false →
    read_target one (tokens ++ rest) ≡ found target rest
unfolding read_target
target_read one [] tokens s m rest f = rw (s, f) refl
target_read one (name ∷ []) tokens s m rest f =
    one_target one (name ∷ []) (tokens ++ rest) rest (names_open (name ∷ []) tokens s rest) (names_read (name ∷ []) tokens s rest) (one_name_read name tokens s rest)
target_read one (name ∷ next ∷ names) tokens s (inl e) rest f =
    rw (names_open (name ∷ next ∷ names) tokens s rest, e) (names_read (name ∷ next ∷ names) tokens s rest)
target_read one (name ∷ next ∷ names) tokens s (inr few) rest f = absurd (omega arith)

actions_open : (tokens : List Token) → SpellsActions tokens → (rest : List Token) → at_head is_open rest ≡ false → at_head is_open (tokens ++ rest) ≡ false
unfolding at_head is_open
actions_open tokens (table.no_actions e) rest h = rw (e, h) refl
actions_open tokens (table.more_actions event on_at event_at own more whole i s t) rest h = rw whole refl

pub reference_read : (one : Bool) (name : NameTree) (target : List NameTree) (at : Span) (tokens : List Token) → SpellsReference name target at tokens → MayTarget one target →
    (rest : List Token) → at_head is_open rest ≡ false → at_head (is_word ON) rest ≡ false → read_reference one (tokens ++ rest) ≡ found (name, target) rest
unfolding read_reference read_after expect read_name name_from and_then is_word
reference_read one name target at tokens s m rest f g =
    rw (
      s.whole,
      append_assoc s.listed s.rest rest,
      target_read one target s.listed s.names m (s.rest ++ rest) (actions_open s.rest s.actions rest f),
      actions_read s.rest s.actions rest g,
    ) refl
