-- The first lexical fault of a text, from the left.
use Rattle.std.specs.Prelude.{ℕ, ◌+◌, ◌<◌, ◌≡◌, ◌⊎◌, Bool, true, false, ◌&&◌, ◌||◌, not, nat_eq, List, [], ◌∷◌, ◌++◌, length, codes}
use Rattle.std.specs.List.{list_any}
use Rattle.std.specs.Str.{IsUtf8}
use Rattle.lint_base.specs.declared.place.Fault.{Fault}
use Rattle.lint_base.specs.declared.place.Fault.TheVariants as fault
use Rattle.lint_base.specs.declared.place.Refusal.{Refusal}
use Rattle.sql_lex.specs.declared.token.Token.{Token}
use Rattle.sql_lex.specs.Bytes.{is_white, is_letter, is_digit, is_quote}
use Rattle.sql_lex.specs.Gaps.{is_gap}
use Rattle.sql_lex.specs.Tokens.{BeginsWith, IsDigits, doubled, begins_without}

-- the bytes that signs begin with; `!` begins one only before `=`
abbrev pub begins_sign : ℕ → List ℕ → Bool
begins_sign b rest =
    list_any (nat_eq b) (codes "(),.;*+-=<>") || (nat_eq b 33 && not (begins_without (λ c. nat_eq c 61) rest))

-- behind a quote of this kind, which is closed, stand bytes that are no UTF-8, or none in a delimited name
pub record IsBadQuoted (mark : ℕ) (text : List ℕ) : Type 0 where
  pub quote : is_quote mark ≡ true
  pub bytes : List ℕ
  pub behind : List ℕ
  pub whole : text ≡ doubled mark bytes ++ mark ∷ behind
  pub closed : begins_without (nat_eq mark) behind ≡ true
  pub bad : (IsUtf8 bytes → ⊥) ⊎ ((mark ≡ 34) × (bytes ≡ []))

-- the text begins with this fault, of so many bytes: a byte that begins no token; a quoted token that is no
-- UTF-8, or a delimited name of no characters; a quote that is not closed; a number that is too great
abbrev pub IsFault : Fault → List ℕ → ℕ → Type 0
IsFault fault.BadByte [] len = ⊥
IsFault fault.BadByte (b ∷ rest) len =
    (len ≡ 1) × (((is_white b || is_letter b || is_digit b || is_quote b || begins_sign b rest) ≡ false) ⊎ IsBadQuoted b rest)
IsFault fault.OpenQuote [] len = ⊥
IsFault fault.OpenQuote (b ∷ rest) len = (len ≡ 1) × (is_quote b ≡ true) × ((bytes behind : List ℕ) → rest ≡ doubled b bytes ++ b ∷ behind → begins_without (nat_eq b) behind ≡ true → ⊥)
IsFault fault.BigNumber text len =
    (body : List ℕ) × (behind : List ℕ) × (n : ℕ) × (text ≡ body ++ behind) × (length body ≡ len) × IsDigits body n × (9223372036854775807 < n) × (begins_without is_digit behind ≡ true)
-- no other fault is one of spelling
IsFault other text len = ⊥

-- from an offset on the text is tokens, a gap, and then this fault
pub record IsFaulty (at : ℕ) (text : List ℕ) (refusal : Refusal) : Type 0 where
  pub tokens : List Token
  pub rest : List ℕ
  pub end : ℕ
  pub before : BeginsWith at text tokens rest end
  pub gap : List ℕ
  pub from_fault : List ℕ
  pub whole : rest ≡ gap ++ from_fault
  pub between : is_gap gap ≡ true
  pub len : ℕ
  pub is_fault : IsFault refusal.fault from_fault len
  pub from : refusal.span.from ≡ end + length gap
  pub to : refusal.span.to ≡ end + length gap + len
  pub count : refusal.count ≡ 0
