-- What a condition can begin with, level by level.
use Rattle.std.proofs.Common.{ℕ, ℤ, ◌≡◌, refl, ap, ◌∙◌, Bool, true, false, nat_eq, ◌||◌, List, ◌∷◌, ◌++◌, Option, Some, None}
use Rattle.sql_lex.specs.declared.token.Sign.TheVariants as s
use Rattle.sql_lex.specs.declared.token.Kind.{Kind}
use Rattle.sql_lex.specs.declared.token.Kind.TheVariants as kind
use Rattle.sql_lex.specs.declared.token.Token.{Token}
use Rattle.sql_tree.specs.declared.term.NameTree.{NameTree}
use Rattle.sql_tree.specs.declared.term.TermTree.{TermTree}
use Rattle.sql_tree.specs.declared.select.CondTree.{CondTree}
use Rattle.sql_parse.specs.grammar.Words.{word, sign, NULL, NOT, EXISTS}
use Rattle.sql_parse.specs.grammar.Terms.{SpellsTerm, SpellsValue, SpellsSigned, SpellsColumn}
use Rattle.sql_parse.specs.grammar.Terms as term
use Rattle.sql_parse.specs.grammar.Predicates as predicate
use Rattle.sql_parse.specs.grammar.Predicates.{SpellsPredicate}
use Rattle.sql_parse.specs.grammar.Selects as c
use Rattle.sql_parse.specs.grammar.Selects.{SpellsCond, SpellsJoined, Level, Disjunction, Conjunction, Factor, Primary}

abbrev pub begins_term : Kind → Bool
begins_term (kind.Name text quoted) = true
begins_term (kind.Reserved place) = nat_eq place NULL
begins_term (kind.Text text) = true
begins_term (kind.Number value) = true
begins_term (kind.Sign s.Plus) = true
begins_term (kind.Sign s.Minus) = true
begins_term (kind.Sign _) = false

abbrev pub begins_primary : Kind → Bool
begins_primary (kind.Sign s.Open) = true
begins_primary (kind.Reserved place) = nat_eq place EXISTS || nat_eq place NULL
begins_primary k = begins_term k

abbrev pub begins_factor : Kind → Bool
begins_factor (kind.Reserved place) = nat_eq place NOT || begins_primary (kind.Reserved place)
begins_factor k = begins_primary k

abbrev pub begins : Level → Kind → Bool
begins Primary k = begins_primary k
begins _ k = begins_factor k

pub record Begins (p : Kind → Bool) (tokens : List Token) : Type 0 where
  pub token : Token
  pub rest : List Token
  pub whole : tokens ≡ token ∷ rest
  pub good : p token.kind ≡ true

or_true : (b : Bool) → (b || true) ≡ true
or_true true = refl
or_true false = refl

wider : (k : Kind) → begins_term k ≡ true → begins_primary k ≡ true
wider (kind.Sign s.Open) e = refl
wider (kind.Reserved place) e = rw e (or_true _)
wider (kind.Name text quoted) e = e
wider (kind.Text text) e = e
wider (kind.Number value) e = e
wider (kind.Sign _) e = e

wider_factor : (k : Kind) → begins_primary k ≡ true → begins_factor k ≡ true
wider_factor (kind.Reserved place) e = rw e (or_true _)
wider_factor _ e = e

-- what begins a run of tokens begins it with what follows
before_more : {p : Kind → Bool} {tokens whole : List Token} (more : List Token) → whole ≡ tokens ++ more → Begins p tokens → Begins p whole
before_more more w b = record { token = b.token; rest = b.rest ++ more; whole = w ∙ ap (λ ts. ts ++ more) b.whole; good = b.good }

signed_begins : {n : ℤ} {tokens : List Token} → SpellsSigned n tokens → Begins begins_term tokens
signed_begins (term.plus at place n e w) = record { token = sign s.Plus at; rest = _; whole = w; good = refl }
signed_begins (term.minus at place n e w) = record { token = sign s.Minus at; rest = _; whole = w; good = refl }

column_begins : (table : Option NameTree) (name : NameTree) {tokens : List Token} → SpellsColumn table name tokens → Begins begins_term tokens
column_begins None name (quoted, w) = record { token = _; rest = _; whole = w; good = refl }
column_begins (Some table) name (table_quoted, dot, quoted, w) = record { token = _; rest = _; whole = w; good = refl }

value_begins : {t : TermTree} {tokens : List Token} → SpellsValue t tokens → Begins begins_term tokens
value_begins (term.literal (term.unsigned value at e w)) = record { token = _; rest = _; whole = w; good = refl }
value_begins (term.literal (term.signed value e d)) = signed_begins d
value_begins (term.literal (term.quoted text at e w)) = record { token = _; rest = _; whole = w; good = refl }
value_begins (term.null at e w) = record { token = _; rest = _; whole = w; good = refl }

term_begins : {t : TermTree} {tokens : List Token} → SpellsTerm t tokens → Begins begins_term tokens
term_begins (term.column d) = column_begins d.table d.name d.column
term_begins (term.sum d) = before_more d.rest d.whole (column_begins d.table d.name d.column)
term_begins (term.value d) = value_begins d

predicate_begins : {tree : CondTree} {tokens : List Token} → SpellsPredicate tree tokens → Begins begins_term tokens
predicate_begins (predicate.compare d) = before_more _ d.whole (term_begins d.left_term)
predicate_begins (predicate.is_null d) = before_more _ d.whole (term_begins d.own_term)
predicate_begins (predicate.between d) = before_more _ d.whole (term_begins d.own_term)
predicate_begins (predicate.in_list d) = before_more _ d.whole (term_begins d.own_term)

primary : {tokens : List Token} → Begins begins_term tokens → Begins begins_primary tokens
primary b = record { token = b.token; rest = b.rest; whole = b.whole; good = wider b.token.kind b.good }

factor : {tokens : List Token} → Begins begins_primary tokens → Begins begins_factor tokens
factor b = record { token = b.token; rest = b.rest; whole = b.whole; good = wider_factor b.token.kind b.good }

at_factor : (level : Level) {tokens : List Token} → Begins (begins level) tokens → Begins begins_factor tokens
at_factor Primary b = factor b
at_factor Disjunction b = b
at_factor Conjunction b = b
at_factor Factor b = b

mutual
  pub cond_begins : {level : Level} {tree : CondTree} {tokens : List Token} → SpellsCond level tree tokens → Begins (begins level) tokens
  cond_begins (c.disjunction parts e d) = joined_begins d
  cond_begins (c.conjunction parts e d) = joined_begins d
  cond_begins (c.plain d) = factor (cond_begins d)
  cond_begins (c.negation inner at own e w d) = record { token = word NOT at; rest = own; whole = w; good = refl }
  cond_begins (c.parenthesized open_at own close_at w d) = record { token = sign s.Open open_at; rest = _; whole = w; good = refl }
  cond_begins (c.exists select at inner e w d) = record { token = word EXISTS at; rest = inner; whole = w; good = refl }
  cond_begins (c.scalar op left select own at inner e w l d n) = primary (before_more _ w (term_begins l))
  cond_begins (c.in_select term select negated own not_word at inner e w t n d) = primary (before_more _ w (term_begins t))
  cond_begins (c.predicate d) = primary (predicate_begins d)

  joined_begins : {level : Level} {joint : ℕ} {parts : List CondTree} {tokens : List Token} → SpellsJoined level joint parts tokens → Begins begins_factor tokens
  joined_begins (c.last part e d) = at_factor _ (cond_begins d)
  joined_begins (c.more part others own at rest e w d ds) = before_more _ w (at_factor _ (cond_begins d))
