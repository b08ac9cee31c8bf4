-- What the proofs of completeness stand on: the place of what was read, and which tokens can stand after a part.
use Rattle.std.proofs.Common.{ℕ, suc, ◌-◌, ◌≤◌, ◌≡◌, refl, ap, Bool, true, false, if◌then◌else◌, nat_eq, List, [], ◌∷◌, ◌++◌, length, Some, arith}
use Rattle.std.proofs.lemmas.Bool.{eqb-true}
use Rattle.std.proofs.lemmas.List.{append-nil, length-append}
use Rattle.std.proofs.Math.Seq.{take-append_seam}
use Rattle.sql_lex.specs.declared.token.Sign.TheVariants.{Open, Comma, Dot, Plus, Minus}
use Rattle.sql_lex.specs.declared.token.Kind.{Kind}
use Rattle.sql_lex.specs.declared.token.Kind.TheVariants.{Name, Reserved, Sign}
use Rattle.sql_lex.specs.declared.token.Token.{Token}
use Rattle.sql_parse.specs.grammar.Words.{span_of, AND, AS, CHECK, CONSTRAINT, CROSS, INNER, JOIN, NOT, NULL, ON, OR, ORDER, PRIMARY, REFERENCES, UNIQUE, WHERE}
use Rattle.sql_parse.specs.inner.readers.Tokens.{Read, found, is_word, is_open, is_comma, is_dot, is_plus, is_name, is_called, at_head, place_before, all_read}

-- the place of what was read
pub place_is : (own rest : List Token) → place_before (own ++ rest) rest ≡ span_of own
unfolding place_before
place_is own rest =
    let count : length (own ++ rest) - length rest ≡ length own = omega (arith, length-append own rest) in
    rw (count, take-append_seam own rest) refl

-- what reads all tokens
pub all_found : {A : Type 0} (a : A) (tokens : List Token) (read : List Token → Read A) → read (tokens ++ []) ≡ found a [] → all_read (read tokens) ≡ Some a
unfolding all_read
all_found a tokens read e =
    let whole : read tokens ≡ found a [] = rw (append-nil tokens) at e in
    rw whole refl

-- How large a part is that a token can continue: 0 a column, 1 a term, 2 and 3 the parts of AND and OR,
-- 4 an entry, 5 a group of joins or a column with its rules, 6 a list, 7 a SELECT before its WHERE, 8 one before its
-- ORDER BY; 9 none.
unfoldable pub place_rank : ℕ → ℕ
place_rank p =
    if nat_eq p AND
    then 2
    else if nat_eq p OR
    then 3
    else if nat_eq p AS
    then 4
    else if nat_eq p JOIN
    then 5
    else if nat_eq p INNER
    then 5
    else if nat_eq p CROSS
    then 5
    else if nat_eq p WHERE
    then 7
    else if nat_eq p ORDER
    then 8
    else if nat_eq p ON
    then 5
    else if nat_eq p NOT
    then 5
    else if nat_eq p NULL
    then 5
    else if nat_eq p UNIQUE then 5 else if nat_eq p PRIMARY then 5 else if nat_eq p CHECK then 5 else if nat_eq p REFERENCES then 5 else if nat_eq p CONSTRAINT then 5 else 9

unfoldable pub kind_rank : Kind → ℕ
kind_rank (Name text quoted) = 4
kind_rank (Reserved p) = place_rank p
kind_rank (Sign Dot) = 0
kind_rank (Sign Plus) = 1
kind_rank (Sign Minus) = 1
kind_rank (Sign Comma) = 6
kind_rank (Sign Open) = 5
kind_rank _ = 9

unfoldable pub rank : List Token → ℕ
rank [] = 9
rank (t ∷ rest) = kind_rank t.kind

dot_rank : (k : Kind) → 1 ≤ kind_rank k → is_dot k ≡ false
unfolding is_dot kind_rank
dot_rank (Sign Dot) h = absurd (omega arith)
dot_rank _ h = refl

pub no_dot : (rest : List Token) → 1 ≤ rank rest → at_head is_dot rest ≡ false
unfolding at_head rank
no_dot [] h = refl
no_dot (t ∷ rest) h = dot_rank t.kind h

plus_rank : (k : Kind) → 2 ≤ kind_rank k → is_plus k ≡ false
unfolding is_plus kind_rank
plus_rank (Sign Plus) h = absurd (omega arith)
plus_rank (Sign Minus) h = absurd (omega arith)
plus_rank _ h = refl

pub no_plus : (rest : List Token) → 2 ≤ rank rest → at_head is_plus rest ≡ false
unfolding at_head rank
no_plus [] h = refl
no_plus (t ∷ rest) h = plus_rank t.kind h

name_rank : (k : Kind) → 5 ≤ kind_rank k → is_name k ≡ false
unfolding is_name kind_rank
name_rank (Name text quoted) h = absurd (omega arith)
name_rank _ h = refl

pub no_name : (rest : List Token) → 5 ≤ rank rest → at_head is_name rest ≡ false
unfolding at_head rank
no_name [] h = refl
no_name (t ∷ rest) h = name_rank t.kind h

-- a word that is no reserved one is a name
pub not_called : (word : List ℕ) (k : Kind) → is_name k ≡ false → is_called word k ≡ false
unfolding is_name is_called
not_called word (Name text quoted) h = cc
not_called word _ h = refl

open_rank : (k : Kind) → 6 ≤ kind_rank k → is_open k ≡ false
unfolding is_open kind_rank
open_rank (Sign Open) h = absurd (omega arith)
open_rank _ h = refl

pub no_open : (rest : List Token) → 6 ≤ rank rest → at_head is_open rest ≡ false
unfolding at_head rank
no_open [] h = refl
no_open (t ∷ rest) h = open_rank t.kind h

comma_rank : (k : Kind) → 7 ≤ kind_rank k → is_comma k ≡ false
unfolding is_comma kind_rank
comma_rank (Sign Comma) h = absurd (omega arith)
comma_rank _ h = refl

pub no_comma : (rest : List Token) → 7 ≤ rank rest → at_head is_comma rest ≡ false
unfolding at_head rank
no_comma [] h = refl
no_comma (t ∷ rest) h = comma_rank t.kind h

word_rank : (place : ℕ) (k : Kind) → suc (place_rank place) ≤ kind_rank k → is_word place k ≡ false
unfolding is_word kind_rank
word_rank place (Reserved p) h = decided (nat_eq p place) refl
  where
    decided : (b : Bool) → nat_eq p place ≡ b → nat_eq p place ≡ false
    decided true e =
        let same : place_rank p ≡ place_rank place = ap place_rank (eqb-true p place e) in
        absurd (omega arith)
    decided false e = e
word_rank place _ h = refl

pub no_word : (place : ℕ) (rest : List Token) → suc (place_rank place) ≤ rank rest → at_head (is_word place) rest ≡ false
unfolding at_head rank
no_word place [] h = refl
no_word place (t ∷ rest) h = word_rank place t.kind h
