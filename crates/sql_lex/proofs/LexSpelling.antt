-- Upper case, and numbers digit by digit.
use Rattle.std.proofs.Common.{◌≡◌, ◌≤◌, ◌<◌, ◌+◌, ◌-◌, ◌*◌, ℕ, suc, true, false, cond, ◌&&◌, leb, List, [], ◌∷◌, ◌++◌, length, take, drop, map, get_or, Some, None, refl, sym, ap, ◌∙◌, arith}
use Rattle.std.specs.Str.{chars, encode_utf8_all}
use Rattle.std.specs.Prelude.{encode_utf8}
use Rattle.std.proofs.Math.Utf8.{scalar, scalars, low_scalar}
use Rattle.std.proofs.lemmas.Str.{chars-encodes, encodes-append}
use Rattle.std.proofs.lemmas.List.{map_more, append-nil, take_all, drop_more}
use Rattle.std.proofs.lemmas.Bool.{and_from, leb-true, leb-false, lt-leb}
use Rattle.lint_tables.specs.Words.{upper}
use Rattle.sql_lex.specs.Bytes.{decimal_value}
use Rattle.sql_lex.specs.inner.Lexing.{within_limit}

upper-lt : (b : ℕ) → b < 256 → upper b < 256
upper-lt b lt = elim (leb 97 b && leb b 122) as (λ t. cond t (b - 32) b < 256) [ true ↦ omega arith | false ↦ lt ]

upper_scalars : (bs : List ℕ) → ((k : ℕ) → get_or bs k 0 < 256) → scalars (map upper bs) ≡ true
upper_scalars [] fits = refl
upper_scalars (b ∷ bs) fits =
    and_from (scalar (upper b)) (scalars (map upper bs)) (low_scalar (upper b) (omega (arith, upper-lt b (fits 0)))) (upper_scalars bs (λ k. fits (suc k)))

-- what is written of a word, a letter further
pub upper_more : (text letter : List ℕ) (word : List ℕ) (i b : ℕ) → i < length word → b ≡ get_or word i 0
    → text ≡ encode_utf8_all (map upper (take i word)) → letter ≡ encode_utf8 (upper b) → text ++ letter ≡ encode_utf8_all (map upper (take (i + 1) word))
upper_more text letter word i b lt at so_far one =
    let more : map upper (take (i + 1) word) ≡ map upper (take i word) ++ upper b ∷ [] = map_more upper word i 0 lt ∙ ap (λ (x : ℕ). map upper (take i word) ++ upper x ∷ []) (sym at) in
    let parts : encode_utf8_all (map upper (take (i + 1) word)) ≡ encode_utf8_all (map upper (take i word)) ++ (encode_utf8 (upper b) ++ []) = ap encode_utf8_all more ∙ encodes-append (map upper (take i word)) (upper b ∷ []) in
    rw (so_far, one) (ap (λ (x : List ℕ). encode_utf8_all (map upper (take i word)) ++ x) (sym (append-nil (encode_utf8 (upper b)))) ∙ sym parts)

pub upper_done : (text word : List ℕ) (i : ℕ) → length word ≤ i → ((k : ℕ) → get_or word k 0 < 256) → text ≡ encode_utf8_all (map upper (take i word)) → chars text ≡ map upper word
upper_done text word i le fits so_far =
    ap chars (so_far ∙ ap (λ (x : List ℕ). encode_utf8_all (map upper x)) (take_all i word le)) ∙ chars-encodes (map upper word) (upper_scalars word fits)

decimal_value-le : (so_far : ℕ) (bs : List ℕ) → so_far ≤ decimal_value so_far bs
decimal_value-le so_far [] = omega arith
decimal_value-le so_far (b ∷ bs) = omega (arith, decimal_value-le (10 * so_far + (b - 48)) bs)

-- a number that is too large does not grow smaller
pub too_large : (value b : ℕ) (bs : List ℕ) → within_limit (decimal_value value (b ∷ [])) ≡ None → within_limit (decimal_value value (b ∷ bs)) ≡ None
too_large value b bs none =
    let next = 10 * value + (b - 48) in
    let grows = decimal_value-le next bs in
    elim (leb next 9223372036854775807) as (λ t. leb next 9223372036854775807 ≡ t → cond t (Some next) None ≡ None → within_limit (decimal_value next bs) ≡ None) [
      | true ↦ λ e h. absurd cc
      | false ↦ λ e h. let above = leb-false next 9223372036854775807 e in rw (lt-leb (decimal_value next bs) 9223372036854775807 (omega arith)) refl
    ] refl none

pub limit_is : (n v : ℕ) → within_limit n ≡ Some v → v ≡ n
limit_is n v e =
    elim (leb n 9223372036854775807) as (λ t. cond t (Some n) None ≡ Some v → v ≡ n) [ true ↦ λ h. cc | false ↦ λ h. absurd cc ] e

pub limit_le : (n v : ℕ) → within_limit n ≡ Some v → v ≤ 9223372036854775807
limit_le n v e =
    elim (leb n 9223372036854775807) as (λ t. leb n 9223372036854775807 ≡ t → cond t (Some n) None ≡ Some v → v ≤ 9223372036854775807) [
      | true ↦ λ t h. let is : n ≡ v = cc in rw (← is) (leb-true n _ t)
      | false ↦ λ t h. absurd cc
    ] refl e

-- the number so far, and what is left of the digits
pub record Counts (digits : List ℕ) (value i : ℕ) : Type 0 where
  pub whole : decimal_value value (drop i digits) ≡ decimal_value 0 digits
  pub fits : within_limit value ≡ Some value

pub counts_stop : (digits : List ℕ) (value i b : ℕ) → i < length digits → b ≡ get_or digits i 0 → within_limit (decimal_value value (b ∷ [])) ≡ None → Counts digits value i → within_limit (decimal_value 0 digits) ≡ None
counts_stop digits value i b lt at none counts =
    let step : decimal_value value (drop i digits) ≡ decimal_value value (b ∷ drop (i + 1) digits) = ap (decimal_value value) (drop_more digits i 0 lt ∙ ap (λ (x : ℕ). x ∷ drop (i + 1) digits) (sym at)) in
    ap within_limit (sym counts.whole ∙ step) ∙ too_large value b (drop (i + 1) digits) none
