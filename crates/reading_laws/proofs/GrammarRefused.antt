-- No condition begins with two NOTs.
use Rattle.std.proofs.Common.{ℕ, ◌≡◌, refl, ap, sym, ◌∙◌, subst, Bool, true, List, [], ◌∷◌, ◌++◌, append_assoc}
use Rattle.lint_base.specs.declared.place.Span.{Span}
use Rattle.sql_lex.specs.declared.token.Kind.{Kind}
use Rattle.sql_lex.specs.declared.token.Token.{Token}
use Rattle.sql_tree.specs.declared.select.CondTree.{CondTree}
use Rattle.sql_parse.specs.grammar.Words.{word, NOT}
use Rattle.sql_parse.specs.grammar.Selects as c
use Rattle.sql_parse.specs.grammar.Selects.{SpellsCond, SpellsJoined, Level, Disjunction, Primary}
use Rattle.reading_laws.specs.Examples.{not_not_tokens, at}
use Rattle.reading_laws.proofs.GrammarBegins.{Begins, begins_primary, cond_begins}

-- the first token, when there are more behind
first_is : {p : Kind → Bool} {tokens : List Token} (more : List Token) (t : Token) (rest : List Token) → Begins p tokens → tokens ++ more ≡ t ∷ rest → p t.kind ≡ true
first_is {p} {tokens} more t rest b e =
    let same : b.token ∷ (b.rest ++ more) ≡ t ∷ rest = ap (λ ts. ts ++ more) (sym b.whole) ∙ e in
    let token : b.token ≡ t = cc in
    subst (λ (x : Token). p x.kind ≡ true) token b.good

tail_is : {ts us : List Token} (t u : Token) → t ∷ ts ≡ u ∷ us → ts ≡ us
tail_is t u e = cc

not_primary : {tree : CondTree} {tokens : List Token} (more : List Token) (not_at : Span) (rest : List Token) → SpellsCond Primary tree tokens → tokens ++ more ≡ word NOT not_at ∷ rest → ⊥
not_primary more not_at rest d e =
    let good : begins_primary (word NOT not_at).kind ≡ true = first_is more (word NOT not_at) rest (cond_begins d) e in
    cc

mutual
  not_twice : {level : Level} {tree : CondTree} {tokens : List Token} → SpellsCond level tree tokens → (more : List Token) (first second : Span) (rest : List Token) → tokens ++ more ≡ word NOT first ∷ word NOT second ∷ rest → ⊥
  not_twice (c.disjunction parts e d) more first second rest w = joined_not_twice d more first second rest w
  not_twice (c.conjunction parts e d) more first second rest w = joined_not_twice d more first second rest w
  not_twice (c.plain d) more first second rest w = not_primary more first (word NOT second ∷ rest) d w
  not_twice (c.negation inner not_at own e own_is d) more first second rest w =
      let behind : own ++ more ≡ word NOT second ∷ rest = tail_is (word NOT not_at) (word NOT first) (ap (λ ts. ts ++ more) (sym own_is) ∙ w) in
      not_primary more second rest d behind
  not_twice (c.parenthesized open_at own close_at e d) more first second rest w = not_primary more first (word NOT second ∷ rest) (c.parenthesized open_at own close_at e d) w
  not_twice (c.exists select exists_at inner e f d) more first second rest w = not_primary more first (word NOT second ∷ rest) (c.exists select exists_at inner e f d) w
  not_twice (c.scalar op left select own op_at inner e f l d n) more first second rest w =
      not_primary more first (word NOT second ∷ rest) (c.scalar op left select own op_at inner e f l d n) w
  not_twice (c.in_select term select negated own not_word in_at inner e f t n d) more first second rest w =
      not_primary more first (word NOT second ∷ rest) (c.in_select term select negated own not_word in_at inner e f t n d) w
  not_twice (c.predicate d) more first second rest w = not_primary more first (word NOT second ∷ rest) (c.predicate d) w

  joined_not_twice : {level : Level} {joint : ℕ} {parts : List CondTree} {tokens : List Token} → SpellsJoined level joint parts tokens → (more : List Token) (first second : Span) (rest : List Token) → tokens ++ more ≡ word NOT first ∷ word NOT second ∷ rest → ⊥
  joined_not_twice (c.last part e d) more first second rest w = not_twice d more first second rest w
  joined_not_twice {joint = joint} (c.more part others own joint_at behind e own_is d ds) more first second rest w =
      not_twice d ((word joint joint_at ∷ behind) ++ more) first second rest (sym (append_assoc own (word joint joint_at ∷ behind) more) ∙ ap (λ ts. ts ++ more) (sym own_is) ∙ w)

pub not_not_refused : (tree : CondTree) → SpellsCond Disjunction tree not_not_tokens → ⊥
not_not_refused tree d = not_twice d [] (at 0 3) (at 4 7) _ refl
