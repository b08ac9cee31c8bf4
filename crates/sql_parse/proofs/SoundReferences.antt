-- What is read as a reference to a table is in the grammar.
use Rattle.std.proofs.Common.{ℕ, ◌≤◌, ◌≡◌, ◌⊎◌, refl, ap, sym, ◌∙◌, Bool, true, false, List, [], ◌∷◌, ◌++◌, length, codes, append-nil, true≢false, inl, inr, lit≤}
use Rattle.lint_base.specs.declared.place.Span.{Span}
use Rattle.sql_lex.specs.declared.token.Kind.{Kind}
use Rattle.sql_lex.specs.declared.token.Kind.TheVariants as kind
use Rattle.sql_lex.specs.declared.token.Token.{Token}
use Rattle.sql_tree.specs.declared.term.NameTree.{NameTree}
use Rattle.sql_parse.specs.grammar.Words.{word, called, NULL, ON, REFERENCES}
use Rattle.sql_parse.specs.grammar.Names.{SpellsNames}
use Rattle.sql_parse.specs.grammar.Tables as table
use Rattle.sql_parse.specs.grammar.Tables.{SpellsAction, SpellsActions, SpellsTarget, SpellsReference}
use Rattle.sql_parse.specs.inner.readers.Tokens.{found, is_word, is_open, is_called, at_head, read_after}
use Rattle.sql_parse.specs.inner.readers.Tables.{is_event, is_plain_action, is_set_value, action_from, read_action, read_event, read_actions, read_one_name, read_target, read_reference}
use Rattle.sql_parse.proofs.SoundTokens.{Sound, Reads, sound_weaker, sound_none, sound_found, sound_first, sound_then, sound_last, sound_regroup, sound_if, sound_token, either, word_is, called_is, sound_word, sound_called, sound_open, sound_close, parts_sound}
use Rattle.sql_parse.proofs.SoundTerms.{name_sound, names_sound}
use Rattle.sql_parse.proofs.SoundTypes.{one_of}

-- NULL or DEFAULT after SET
set_sound : (at : Span) (k : Kind) (value_at : Span) → is_set_value k ≡ true → SpellsAction (called (codes "SET") at ∷ record { kind = k; span = value_at } ∷ [])
unfolding is_set_value
set_sound at k value_at e = of_value (either (is_word NULL k) (is_called (codes "DEFAULT") k) e)
  where
    of_value : (is_word NULL k ≡ true) ⊎ (is_called (codes "DEFAULT") k ≡ true) → SpellsAction (called (codes "SET") at ∷ record { kind = k; span = value_at } ∷ [])
    of_value (inl n) = rw (word_is NULL k n) (table.set_null at value_at refl)
    of_value (inr d) = rw (called_is (codes "DEFAULT") k d) (table.set_default at value_at refl)

action_from_sound : (k : Kind) (at : Span) (rest : List Token) → Sound (λ a own left. SpellsAction (record { kind = k; span = at } ∷ own)) rest (action_from k rest)
unfolding action_from is_plain_action
action_from_sound k at rest =
    sound_if (is_plain_action k) (λ e. plain (one_of (codes "CASCADE") (codes "RESTRICT") k e))
    (λ not_plain. sound_if (is_called (codes "SET") k) (λ e. rw (called_is (codes "SET") k e) (sound_token is_set_value rest (λ t left w v. sound_found (set_sound at t.kind t.span v))))
    (λ not_set. sound_if (is_called (codes "NO") k) (λ e. rw (called_is (codes "NO") k e) (sound_called _ (codes "ACTION") (λ action_at left. sound_found (table.no_action at action_at refl)))) (λ e. sound_none)))
  where
    plain : ((text : List ℕ) × ((text ≡ codes "CASCADE") ⊎ (text ≡ codes "RESTRICT")) × (k ≡ kind.Name text false)) → Sound (λ a own left. SpellsAction (record { kind = k; span = at } ∷ own)) rest (found false rest)
    plain (text, inl e, w) = rw (w, e) (sound_found (table.cascade at refl))
    plain (text, inr e, w) = rw (w, e) (sound_found (table.restrict at refl))

action_sound : (tokens : List Token) → Reads (λ a own. SpellsAction own) tokens (read_action tokens)
unfolding read_action
action_sound [] = sound_none
action_sound (t ∷ rest) = sound_first t (action_from_sound t.kind t.span rest)

-- an action before others
abbrev BeforeActions : List Bool → List Token → Type 0
BeforeActions nothing own = (rest : List Token) → SpellsActions rest → SpellsActions (own ++ rest)

event_sound : (count : ℕ) (tokens : List Token) → Reads BeforeActions tokens (read_event count tokens)
unfolding read_event read_after is_event
event_sound count tokens =
    sound_regroup _ _ _ (sound_word _ ON (λ on_at more. sound_regroup _ _ _ (sound_token is_event more (λ t left w e.
    let event = one_of (codes "DELETE") (codes "UPDATE") t.kind e in
    sound_last _ (action_sound left) (λ a own after s rest actions.
    table.more_actions event.0 on_at t.span own rest (ap (λ (k : Kind). word ON on_at ∷ record { kind = k; span = t.span } ∷ own ++ rest) event.2) event.1 s actions)))))

actions_sound : (tokens : List Token) → Reads (λ a own. SpellsActions own) tokens (read_actions tokens)
unfolding read_actions
actions_sound tokens =
    sound_last _
    (parts_sound (at_head (is_word ON)) read_event (λ count. BeforeActions) (λ count nothing own. SpellsActions own) event_sound (λ count. table.no_actions refl) (λ count part parts own rest s actions. s rest actions) 0 tokens)
    (λ nothing own left s. s)

-- "(" name ")"
one_name_sound : (tokens : List Token) → Reads (λ names own. SpellsNames names own × length names ≤ 1) tokens (read_one_name tokens)
unfolding read_one_name read_after
one_name_sound tokens =
    sound_regroup _ _ _ (sound_open _ (λ open_at rest. sound_then (name_sound rest) (λ name own left s. sound_close _ (λ close_at after. sound_found (
      record { open_at = open_at; listed = own; close_at = close_at; whole = refl; names_listed = (own, [], sym (append-nil own), s, refl) },
      lit≤ tt,
    )))))

some_names : (names : List NameTree) (own : List Token) → SpellsNames names own → SpellsTarget names own
some_names [] own s = absurd s.names_listed
some_names (name ∷ names) own s = s

target_sound : (one : Bool) (tokens : List Token) → Reads (λ target own. SpellsTarget target own × (one ≡ true → length target ≤ 1)) tokens (read_target one tokens)
unfolding read_target
target_sound one tokens =
    sound_if (at_head is_open tokens)
    (λ e. sound_if one (λ f. sound_weaker (λ names own left s. (some_names names own s.0, λ is. s.1)) (one_name_sound tokens))
    (λ f. sound_weaker (λ names own left s. (some_names names own s, λ is. absurd (true≢false (sym is ∙ f)))) (names_sound tokens)))
    (λ e. sound_found (refl, λ is. lit≤ tt))

-- a reference whose word stands here, of at most one name where that is wanted
pub record IsReference (one : Bool) (r : NameTree × List NameTree) (own : List Token) : Type 0 where
  pub at : Span
  pub others : List Token
  pub begins : own ≡ word REFERENCES at ∷ others
  pub spelled : SpellsReference r.0 r.1 at own
  pub few : one ≡ true → length r.1 ≤ 1

pub reference_sound : (one : Bool) (tokens : List Token) → Reads (IsReference one) tokens (read_reference one tokens)
unfolding read_reference read_after
reference_sound one tokens =
    sound_regroup _ _ _ (sound_word _ REFERENCES (λ at rest. sound_then (name_sound rest) (λ name own left s. sound_then (target_sound one left) (λ target listed more t. sound_last _ (actions_sound more) (λ a actions after acts. record {
      at = at;
      others = own ++ (listed ++ actions);
      begins = refl;
      spelled = record { quoted = s.0; listed = listed; rest = actions; whole = rw s.1 refl; names = t.0; actions = acts };
      few = t.1;
    })))))
