-- The fault of the grammar is what is found at the front of a text.
use Rattle.std.proofs.Common.{◌≡◌, ℕ, Bool, true, false, not, ◌||◌, ◌&&◌, eqb, List, [], ◌∷◌, ◌++◌, refl, sym, ap, subst, ◌∙◌, inl, inr, ◌⊎◌}
use Rattle.std.specs.Prelude.{Some, None, codes}
use Rattle.std.specs.List.{list_any}
use Rattle.std.specs.Str.{IsUtf8, is_utf8}
use Rattle.std.proofs.lemmas.Bool.{or_parts, false_from_ne_true}
use Rattle.std.proofs.lemmas.Str.{IsUtf8-from_is_utf8}
use Rattle.lint_base.specs.declared.place.Fault.{Fault}
use Rattle.lint_base.specs.declared.place.Fault.TheVariants as fault
use Rattle.sql_lex.specs.Bytes.{is_white, is_letter, is_digit, is_quote}
use Rattle.sql_lex.specs.Tokens.{begins_without, doubled}
use Rattle.sql_lex.specs.Faults.{IsFault, IsBadQuoted, begins_sign}
use Rattle.sql_lex.specs.inner.Lexing.{flaw, bad_byte, unquoted, closed_found, not_found, sign_at, first_found}
use Rattle.sql_lex.proofs.LexQuotes.{unquoted_takes, other_side}
use Rattle.sql_lex.proofs.LexFounds.{NoSign}
use Rattle.reading_laws.proofs.LexAgain.{quote_first, quote_again, quote_white, quote_dash, number_again, number_flaw, Begun, begun, begun_number}

-- what a byte that begins no token is not
record Bad (b : ℕ) (rest : List ℕ) : Type 0 where
  white : is_white b ≡ false
  letter : is_letter b ≡ false
  digit : is_digit b ≡ false
  quote : is_quote b ≡ false
  signs : NoSign b
  other : (eqb b 33 && not (begins_without (λ c. eqb c 61) rest)) ≡ false

no_sign_of : (b : ℕ) → list_any (eqb b) (codes "(),.;*+-=<>") ≡ false → NoSign b
no_sign_of b e =
    let p1 = or_parts (eqb b 40) (list_any (eqb b) (codes "),.;*+-=<>")) e in
    let p2 = or_parts (eqb b 41) (list_any (eqb b) (codes ",.;*+-=<>")) p1.1 in
    let p3 = or_parts (eqb b 44) (list_any (eqb b) (codes ".;*+-=<>")) p2.1 in
    let p4 = or_parts (eqb b 46) (list_any (eqb b) (codes ";*+-=<>")) p3.1 in
    let p5 = or_parts (eqb b 59) (list_any (eqb b) (codes "*+-=<>")) p4.1 in
    let p6 = or_parts (eqb b 42) (list_any (eqb b) (codes "+-=<>")) p5.1 in
    let p7 = or_parts (eqb b 43) (list_any (eqb b) (codes "-=<>")) p6.1 in
    let p8 = or_parts (eqb b 45) (list_any (eqb b) (codes "=<>")) p7.1 in
    let p9 = or_parts (eqb b 61) (list_any (eqb b) (codes "<>")) p8.1 in
    let p10 = or_parts (eqb b 60) (list_any (eqb b) (codes ">")) p9.1 in
    let p11 = or_parts (eqb b 62) (list_any (eqb b) []) p10.1 in
    record { opening = p1.0; closing = p2.0; comma = p3.0; dot = p4.0; semicolon = p5.0; star = p6.0; plus = p7.0; minus = p8.0; equal = p9.0; less = p10.0; greater = p11.0 }

bad_of : (b : ℕ) (rest : List ℕ) → (is_white b || is_letter b || is_digit b || is_quote b || begins_sign b rest) ≡ false → Bad b rest
bad_of b rest e =
    let p1 = or_parts (is_white b || is_letter b || is_digit b || is_quote b) (begins_sign b rest) e in
    let p2 = or_parts (is_white b || is_letter b || is_digit b) (is_quote b) p1.0 in
    let p3 = or_parts (is_white b || is_letter b) (is_digit b) p2.0 in
    let p4 = or_parts (is_white b) (is_letter b) p3.0 in
    let s = or_parts (list_any (eqb b) (codes "(),.;*+-=<>")) (eqb b 33 && not (begins_without (λ c. eqb c 61) rest)) p1.1 in
    record { white = p4.0; letter = p4.1; digit = p3.1; quote = p2.1; signs = no_sign_of b s.0; other = s.1 }

-- a `!` before no `=`
not_again : (rest : List ℕ) → not (begins_without (λ c. eqb c 61) rest) ≡ false → not_found rest ≡ bad_byte
not_again [] e = refl
not_again (c ∷ cs) e =
    elim (eqb c 61) as (λ t. eqb c 61 ≡ t → not_found (c ∷ cs) ≡ bad_byte) [
      | true ↦ λ t. let clash : true ≡ false = ap (λ (x : Bool). not (not x)) (sym t) ∙ e in absurd cc
      | false ↦ λ t. rw t refl
    ] refl

sign_bad : (b : ℕ) (rest : List ℕ) → Bad b rest → sign_at (b ∷ rest) ≡ bad_byte
sign_bad b rest bad =
    let n = bad.signs in
    elim (eqb b 33) as (λ t. eqb b 33 ≡ t → sign_at (b ∷ rest) ≡ bad_byte) [
      | true ↦ λ t. rw (n.opening, n.closing, n.comma, n.dot, n.semicolon, n.star, n.plus, n.minus, n.equal, n.less, n.greater, t) (not_again rest (ap (λ (x : Bool). x && not (begins_without (λ c. eqb c 61) rest)) (sym t) ∙ bad.other))
      | false ↦ λ t. rw (n.opening, n.closing, n.comma, n.dot, n.semicolon, n.star, n.plus, n.minus, n.equal, n.less, n.greater, t) refl
    ] refl

byte_again : (b : ℕ) (rest : List ℕ) → Bad b rest → first_found (b ∷ rest) ≡ bad_byte
unfolding first_found
byte_again b rest bad = rw (bad.letter, bad.digit, bad.quote) (sign_bad b rest bad)

closed_none : (mark : ℕ) (bytes : List ℕ) (len : ℕ) → ((IsUtf8 bytes → ⊥) ⊎ ((mark ≡ 34) × (bytes ≡ []))) → closed_found mark bytes len ≡ bad_byte
closed_none mark bytes len (inl bad) = rw (false_from_ne_true (is_utf8 bytes) (λ e. bad (IsUtf8-from_is_utf8 bytes e))) refl
closed_none mark bytes len (inr (is, none)) =
    subst (λ (x : ℕ). closed_found x bytes len ≡ bad_byte) (sym is) (subst (λ (x : List ℕ). closed_found 34 x len ≡ bad_byte) (sym none)
    (elim (is_utf8 []) as (λ t. is_utf8 [] ≡ t → closed_found 34 [] len ≡ bad_byte) [ true ↦ λ t. rw t refl | false ↦ λ t. rw t refl ] refl))

quoted_bad : (mark : ℕ) (rest : List ℕ) → IsBadQuoted mark rest → first_found (mark ∷ rest) ≡ bad_byte
quoted_bad mark rest q =
    ap (λ (x : List ℕ). first_found (mark ∷ x)) q.whole ∙ quote_again mark q.bytes q.behind q.quote (sym (other_side mark q.behind) ∙ q.closed)
    ∙ closed_none mark q.bytes _ q.bad

open_again : (mark : ℕ) (rest : List ℕ) → is_quote mark ≡ true → ((bytes behind : List ℕ) → rest ≡ doubled mark bytes ++ mark ∷ behind → begins_without (eqb mark) behind ≡ true → ⊥)
    → first_found (mark ∷ rest) ≡ flaw fault.OpenQuote 1
open_again mark rest quote never =
    elim (unquoted mark false rest) as (λ o. unquoted mark false rest ≡ o → first_found (mark ∷ rest) ≡ flaw fault.OpenQuote 1) [
      | None ↦ λ e. quote_first mark rest quote ∙ rw e refl
      | Some x ↦ λ e. let held = unquoted_takes mark false rest x e in absurd (never x.0 x.1 held.whole (other_side mark x.1 ∙ held.closed))
    ] refl

-- the fault that the grammar has is found
pub fault_again : (f : Fault) (text : List ℕ) (len : ℕ) → IsFault f text len → first_found text ≡ flaw f len
fault_again fault.BadByte [] len e = absurd e
fault_again fault.BadByte (b ∷ rest) len (one, inl e) = byte_again b rest (bad_of b rest e) ∙ ap (λ (n : ℕ). flaw fault.BadByte n) (sym one)
fault_again fault.BadByte (b ∷ rest) len (one, inr q) = quoted_bad b rest q ∙ ap (λ (n : ℕ). flaw fault.BadByte n) (sym one)
fault_again fault.OpenQuote [] len e = absurd e
fault_again fault.OpenQuote (b ∷ rest) len (one, quote, never) = open_again b rest quote never ∙ ap (λ (n : ℕ). flaw fault.OpenQuote n) (sym one)
fault_again fault.BigNumber text len (body, behind, n, whole, count, digits, above, ends) =
    ap first_found whole ∙ number_again body behind n digits ends ∙ number_flaw body n digits above ∙ ap (λ (x : ℕ). flaw fault.BigNumber x) count
fault_again other text len e = absurd e

-- a fault begins no gap
pub fault_begun : (f : Fault) (text : List ℕ) (len : ℕ) → IsFault f text len → Begun text
fault_begun fault.BadByte [] len e = absurd e
fault_begun fault.BadByte (b ∷ rest) len (one, inl e) = let bad = bad_of b rest e in begun b rest bad.white bad.signs.minus
fault_begun fault.BadByte (b ∷ rest) len (one, inr q) = begun b rest (quote_white b q.quote) (quote_dash b q.quote)
fault_begun fault.OpenQuote [] len e = absurd e
fault_begun fault.OpenQuote (b ∷ rest) len (one, quote, never) = begun b rest (quote_white b quote) (quote_dash b quote)
fault_begun fault.BigNumber text len (body, behind, n, whole, count, digits, above, ends) = subst Begun (sym whole) (begun_number body behind n digits)
fault_begun other text len e = absurd e
