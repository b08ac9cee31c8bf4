-- The predicates that are read are in the grammar, over a reading of subqueries that is so.
use Rattle.std.proofs.Common.{◌≡◌, refl, ap, Bool, true, false, if◌then◌else◌, List, [], ◌∷◌, ◌++◌, None}
use Rattle.lint_base.specs.declared.place.Span.{Span}
use Rattle.lint_tables.specs.declared.op.Op.{Op}
use Rattle.sql_lex.specs.declared.token.Sign.TheVariants.{Open, Compare as Operator}
use Rattle.sql_lex.specs.declared.token.Kind.{Kind}
use Rattle.sql_lex.specs.declared.token.Kind.TheVariants as kind
use Rattle.sql_lex.specs.declared.token.Token.{Token}
use Rattle.sql_tree.specs.declared.term.TermTree.{TermTree}
use Rattle.sql_tree.specs.declared.select.SelectTree.{SelectTree, out-SelectTree}
use Rattle.sql_tree.specs.declared.select.CondTree.{CondTree}
use Rattle.sql_tree.specs.declared.select.CondTree.TheVariants.{Compare, IsNull, Between, InList, InSelect, Scalar}
use Rattle.sql_parse.specs.grammar.Words.{word, sign, span_of, AND, BETWEEN, IN, IS, NOT, NULL, SELECT}
use Rattle.sql_parse.specs.grammar.Terms.{SpellsTerm, SpellsValue}
use Rattle.sql_parse.specs.grammar.Predicates as predicate
use Rattle.sql_parse.specs.grammar.Predicates.{SpellsNot}
use Rattle.sql_parse.specs.grammar.Selects as select
use Rattle.sql_parse.specs.grammar.Selects.{Level, Primary, SpellsCond, SpellsSubquery}
use Rattle.sql_parse.specs.grammar.Tables.{is_flat}
use Rattle.sql_parse.specs.inner.readers.Tokens.{Read, and_then, is_word, is_open, at_head, place_before}
use Rattle.sql_parse.specs.inner.readers.Terms.{read_value}
use Rattle.sql_parse.specs.inner.readers.Predicates.{read_not, comparison_rest, null_rest, between_rest, values_rest, list_or_select, in_rest, negatable, predicate_from, predicate_rest, read_predicate}
use Rattle.sql_parse.proofs.SoundTokens.{Sound, Reads, sound_none, sound_found, sound_first, sound_then, sound_last, sound_placed, sound_if, sound_again, word_is, open_is, sound_word, sound_close}
use Rattle.sql_parse.proofs.SoundTerms.{list_sound, value_sound, term_sound}
use Rattle.sql_parse.proofs.SoundFlat.{flat_compare, flat_is_null, flat_between, flat_in_list}

-- a condition of a level, without a subquery where that is wanted
abbrev pub Condition : Bool → Level → CondTree → List Token → Type 0
Condition flat level tree tokens = SpellsCond level tree tokens × (flat ≡ true → is_flat tree ≡ true)

-- a subquery, where true a scalar one
abbrev pub Subquery : Bool → Bool → SelectTree → List Token → Type 0
Subquery flat scalar tree tokens = SpellsSubquery tree tokens × (scalar ≡ true → (out-SelectTree tree).distinct ≡ None) × (flat ≡ true → ⊥)

-- [ NOT ]
not_sound : (tokens : List Token) → Reads SpellsNot tokens (read_not tokens)
unfolding read_not
not_sound tokens = sound_if (at_head (is_word NOT) tokens) (λ e. sound_word _ NOT (λ at rest. sound_found (at, refl))) (λ e. sound_found refl)

module _ (flat : Bool) (sub : Bool → List Token → Read SelectTree) (sub_sound : (scalar : Bool) (tokens : List Token) → Reads (Subquery flat scalar) tokens (sub scalar tokens))
    (tokens : List Token) (term : TermTree) (own : List Token) (spelled : SpellsTerm term own) where
  -- a predicate of these tokens, where its place is theirs
  abbrev Placed : CondTree → List Token → List Token → Type 0
  Placed tree all left = place_before tokens left ≡ span_of all → Condition flat Primary tree all

  comparison_sound : (op : Op) (at : Span) (rest : List Token) → Sound (λ tree more left. Placed tree (own ++ sign (Operator op) at ∷ more) left) rest (comparison_rest sub tokens term op rest)
  unfolding comparison_rest
  comparison_sound op at rest =
      sound_if (at_head is_open rest)
      (λ e. sound_last _ (sub_sound true rest) (λ tree inner left s place. (select.scalar op term tree own at inner (ap (λ p. Scalar op term tree p) place) refl spelled s.0 (s.1 refl), λ f. absurd (s.2 f))))
      (λ e. sound_last _ (term_sound rest) (λ right after left s place.
      let same = ap (λ p. Compare op term right p) place in (
        select.predicate (predicate.compare (record { op = op; left = term; right = right; tree_is = same; before = own; op_at = at; after = after; whole = refl; left_term = spelled; right_term = s })),
        λ f. flat_compare op term right (place_before tokens left),
      )))

  null_sound : (at : Span) (rest : List Token) → Sound (λ tree more left. Placed tree (own ++ word IS at ∷ more) left) rest (null_rest sub tokens term rest)
  unfolding null_rest
  null_sound at rest =
      sound_then (not_sound rest) (λ negated not_word left s. sound_word _ NULL (λ null_at after. sound_found (λ place. (
        select.predicate (predicate.is_null (record {
          term = term;
          negated = negated;
          tree_is = ap (λ p. IsNull term negated p) place;
          own = own;
          is_at = at;
          not_word = not_word;
          null_at = null_at;
          whole = refl;
          own_term = spelled;
          negation = s;
        })),
        λ f. flat_is_null term negated (place_before tokens after),
      ))))

  module _ (negated : Bool) (not_word : List Token) (negation : SpellsNot negated not_word) where
    between_sound : (at : Span) (rest : List Token) → Sound (λ tree more left. Placed tree (own ++ (not_word ++ word BETWEEN at ∷ more)) left) rest (between_rest sub tokens term negated rest)
    unfolding between_rest
    between_sound at rest =
        sound_then (term_sound rest) (λ low lower left s. sound_word _ AND (λ and_at more. sound_last _ (term_sound more) (λ high upper after t place. (
          select.predicate (predicate.between (record {
            term = term;
            low = low;
            high = high;
            negated = negated;
            tree_is = ap (λ p. Between term low high negated p) place;
            own = own;
            not_word = not_word;
            between_at = at;
            lower = lower;
            and_at = and_at;
            upper = upper;
            whole = refl;
            own_term = spelled;
            negation = negation;
            low_term = s;
            high_term = t;
          })),
          λ f. flat_between term low high negated (place_before tokens after),
        ))))

    values_sound : (at open_at : Span) (rest : List Token) → Sound (λ tree more left. Placed tree (own ++ (not_word ++ word IN at ∷ sign Open open_at ∷ more)) left) rest (values_rest sub tokens term negated rest)
    unfolding values_rest
    values_sound at open_at rest =
        sound_then (list_sound SpellsValue read_value value_sound rest) (λ values listed left s. sound_close _ (λ close_at after. sound_found (λ place. (
          select.predicate (predicate.in_list (record {
            term = term;
            values = values;
            negated = negated;
            tree_is = ap (λ p. InList term values negated p) place;
            own = own;
            not_word = not_word;
            in_at = at;
            open_at = open_at;
            listed = listed;
            close_at = close_at;
            whole = refl;
            own_term = spelled;
            negation = negation;
            values_listed = s;
          })),
          λ f. flat_in_list term values negated (place_before tokens after),
        ))))

    list_or_select_sound : (at open_at : Span) (rest : List Token) →
        Sound (λ tree more left. Placed tree (own ++ (not_word ++ word IN at ∷ more)) left) (sign Open open_at ∷ rest) (list_or_select sub tokens term negated (sign Open open_at ∷ rest) rest)
    unfolding list_or_select
    list_or_select_sound at open_at rest =
        sound_if (at_head (is_word SELECT) rest)
        (λ e. sound_last _ (sub_sound false (sign Open open_at ∷ rest)) (λ tree inner left s place. (
          select.in_select term tree negated own not_word at inner (ap (λ p. InSelect term tree negated p) place) refl spelled negation s.0,
          λ f. absurd (s.2 f),
        )))
        (λ e. sound_first (sign Open open_at) (values_sound at open_at rest))

    in_sound : (at : Span) (rest : List Token) → Sound (λ tree more left. Placed tree (own ++ (not_word ++ word IN at ∷ more)) left) rest (in_rest sub tokens term negated rest)
    unfolding in_rest
    in_sound at rest = sound_again is_open rest (λ t inside w e. opened t.kind t.span inside w (open_is t.kind e))
      where
        opened : (k : Kind) (open_at : Span) (inside : List Token) → rest ≡ record { kind = k; span = open_at } ∷ inside → k ≡ kind.Sign Open →
            Sound (λ tree more left. Placed tree (own ++ (not_word ++ word IN at ∷ more)) left) rest (list_or_select sub tokens term negated rest inside)
        opened k open_at inside w e = rw w (rw e (list_or_select_sound at open_at inside))

    negatable_sound : (rest : List Token) → Sound (λ tree more left. Placed tree (own ++ (not_word ++ more)) left) rest (negatable sub tokens term negated rest)
    unfolding negatable
    negatable_sound rest =
        sound_if (at_head (is_word BETWEEN) rest) (λ e. sound_word _ BETWEEN (λ at left. between_sound at left)) (λ e. sound_word _ IN (λ at left. in_sound at left))

  other_sound : (k : Kind) (at : Span) (rest : List Token) → Sound (λ tree more left. Placed tree (own ++ more) left) (record { kind = k; span = at } ∷ rest)
      (if is_word IS k then null_rest sub tokens term rest else and_then (read_not (record { kind = k; span = at } ∷ rest)) (negatable sub tokens term))
  other_sound k at rest =
      sound_if (is_word IS k) (λ e. rw (word_is IS k e) (sound_first (word IS at) (null_sound at rest)))
      (λ e. sound_then (not_sound (record { kind = k; span = at } ∷ rest)) (λ negated not_word left s. negatable_sound negated not_word s left))

  predicate_from_sound : (k : Kind) (at : Span) (rest : List Token) → Sound (λ tree more left. Placed tree (own ++ more) left) (record { kind = k; span = at } ∷ rest)
      (predicate_from sub tokens term k (record { kind = k; span = at } ∷ rest) rest)
  unfolding predicate_from
  predicate_from_sound (kind.Sign (Operator op)) at rest = sound_first (sign (Operator op) at) (comparison_sound op at rest)
  predicate_from_sound k at rest = other_sound k at rest

  predicate_rest_sound : (rest : List Token) → Sound (λ tree more left. Placed tree (own ++ more) left) rest (predicate_rest sub tokens term rest)
  unfolding predicate_rest
  predicate_rest_sound [] = sound_none
  predicate_rest_sound (t ∷ rest) = predicate_from_sound t.kind t.span rest

pub predicate_sound : (flat : Bool) (sub : Bool → List Token → Read SelectTree) → ((scalar : Bool) (tokens : List Token) → Reads (Subquery flat scalar) tokens (sub scalar tokens)) →
    (tokens : List Token) → Reads (Condition flat Primary) tokens (read_predicate sub tokens)
unfolding read_predicate
predicate_sound flat sub h tokens = sound_placed (sound_then (term_sound tokens) (λ term own left s. predicate_rest_sound flat sub h tokens term own s left))
