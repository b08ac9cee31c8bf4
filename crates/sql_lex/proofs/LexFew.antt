-- A token has bytes, and so a text has at most as many tokens as bytes.
use Rattle.std.proofs.Common.{◌≡◌, ◌<◌, ◌≤◌, ◌+◌, ℕ, true, false, List, [], ◌∷◌, ◌++◌, length, ap, subst, sym, ◌∙◌, arith, length-append, inl, inr}
use Rattle.lint_tables.specs.declared.op.Op.TheVariants.{Eq, Ne, Lt, Le, Gt, Ge}
use Rattle.sql_lex.specs.declared.token.Sign.{Sign as SignOf}
use Rattle.sql_lex.specs.declared.token.Sign.TheVariants as sign
use Rattle.sql_lex.specs.declared.token.Kind.{Kind}
use Rattle.sql_lex.specs.declared.token.Kind.TheVariants as kind
use Rattle.sql_lex.specs.declared.token.Token.{Token}
use Rattle.sql_lex.specs.Tokens.{IsWord, IsQuoted, IsSign, IsSpelling, Begins, BeginsWith, Spells, doubled}

-- a list that is another with bytes has some
some_as : (body bytes : List ℕ) → 0 < length bytes → body ≡ bytes → 0 < length body
some_as body bytes some e = subst (λ (x : List ℕ). 0 < length x) (sym e) some

sign_some : (s : SignOf) (body : List ℕ) → IsSign s body → 0 < length body
sign_some sign.Open body e = some_as body _ (omega arith) e
sign_some sign.Close body e = some_as body _ (omega arith) e
sign_some sign.Comma body e = some_as body _ (omega arith) e
sign_some sign.Dot body e = some_as body _ (omega arith) e
sign_some sign.Semicolon body e = some_as body _ (omega arith) e
sign_some sign.Star body e = some_as body _ (omega arith) e
sign_some sign.Plus body e = some_as body _ (omega arith) e
sign_some sign.Minus body e = some_as body _ (omega arith) e
sign_some (sign.Compare Eq) body e = some_as body _ (omega arith) e
sign_some (sign.Compare Ne) body (inl e) = some_as body _ (omega arith) e
sign_some (sign.Compare Ne) body (inr e) = some_as body _ (omega arith) e
sign_some (sign.Compare Lt) body e = some_as body _ (omega arith) e
sign_some (sign.Compare Le) body e = some_as body _ (omega arith) e
sign_some (sign.Compare Gt) body e = some_as body _ (omega arith) e
sign_some (sign.Compare Ge) body e = some_as body _ (omega arith) e

word_some : (body : List ℕ) → IsWord body → 0 < length body
word_some [] w = absurd w
word_some (b ∷ bs) w = omega arith

quoted_some : (mark : ℕ) (body text : List ℕ) → IsQuoted mark body text → 0 < length body
quoted_some mark body text q = some_as body (mark ∷ (doubled mark q.bytes ++ mark ∷ [])) (omega arith) q.whole

spelling_some : (k : Kind) (body : List ℕ) → IsSpelling k body → 0 < length body
spelling_some (kind.Name text false) body s = word_some body s.0
spelling_some (kind.Name text true) body s = quoted_some 34 body text s.0
spelling_some (kind.Reserved place) body s = word_some body s.0
spelling_some (kind.Text text) body s = quoted_some 39 body text s
spelling_some (kind.Number value) body s = s.1.some
spelling_some (kind.Sign s) body e = sign_some s body e

less_left : (at : ℕ) (text : List ℕ) (token : Token) (rest : List ℕ) → Begins at text token rest → length rest < length text
less_left at text token rest b =
    let some = spelling_some token.kind b.body b.spelled in
    let count : length text ≡ length b.gap + length b.body + length rest =
    ap length b.whole ∙ length-append (b.gap ++ b.body) rest ∙ ap (λ (n : ℕ). n + length rest) (length-append b.gap b.body) in
    omega arith

few_read : (at : ℕ) (text : List ℕ) (tokens : List Token) (rest : List ℕ) (end : ℕ) → BeginsWith at text tokens rest end → length tokens + length rest ≤ length text
few_read at text [] rest end (same, here) = omega (arith, ap length same)
few_read at text (t ∷ ts) rest end (next, first, more) =
    let less = less_left at text t next first in
    let few = few_read t.span.to next ts rest end more in
    omega arith

pub spelled_tokens_are_few : (at : ℕ) (text : List ℕ) (tokens : List Token) → Spells at text tokens → length tokens ≤ length text
spelled_tokens_are_few at text tokens s = omega (arith, few_read at text tokens s.rest s.end s.begins)

-- the same for the tokens of a part of a text
pub part_tokens_are_few : (at : ℕ) (text part : List ℕ) (tokens : List Token) → length part ≤ length text → Spells at part tokens → length tokens ≤ length text
part_tokens_are_few at text part tokens within s = omega (arith, spelled_tokens_are_few at part tokens s)
