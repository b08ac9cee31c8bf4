-- What is found at the front of a text is the token or the fault of the grammar.
use Rattle.std.proofs.Common.{◌≡◌, ◌≤◌, ◌<◌, ◌+◌, ◌-◌, ℕ, pos, suc, Bool, true, false, cond, not, ◌||◌, ◌&&◌, eqb, leb, List, [], ◌∷◌, ◌++◌, length, take, drop, map, refl, sym, ap, subst, ◌∙◌, arith, inl, inr, ◌⊎◌, length-append, append_assoc}
use Rattle.std.specs.Prelude.{Option, Some, None, codes}
use Rattle.std.specs.Option.{option_map_or}
use Rattle.std.specs.List.{list_any}
use Rattle.std.specs.Str.{chars, encode_utf8_all, IsUtf8, is_utf8}
use Rattle.std.proofs.lemmas.Bool.{eqb-true, or_left, cond_both, and_right, leb-false}
use Rattle.std.proofs.lemmas.Bool.Decides.{nat_tests}
use Rattle.std.proofs.lemmas.List.{length-take-le, take_at, drop_at, take-append-drop}
use Rattle.std.proofs.lemmas.Str.{IsUtf8-from_is_utf8, is_utf8-from_IsUtf8, encodes-chars}
use Rattle.lint_base.specs.declared.place.Fault.{Fault}
use Rattle.lint_base.specs.declared.place.Fault.TheVariants as fault
use Rattle.lint_tables.specs.Words.{upper, place_of, reserved}
use Rattle.lint_tables.specs.declared.op.Op.TheVariants.{Eq, Ne, Lt, Le, Gt, Ge}
use Rattle.sql_lex.specs.declared.token.Sign.{Sign as SignOf}
use Rattle.sql_lex.specs.declared.token.Sign.TheVariants as sign
use Rattle.sql_lex.specs.declared.token.Kind.{Kind}
use Rattle.sql_lex.specs.declared.token.Kind.TheVariants as kind
use Rattle.sql_lex.specs.declared.found.Found.{Found}
use Rattle.sql_lex.specs.declared.found.Found.TheVariants.{Lexeme, Flaw}
use Rattle.sql_lex.specs.Bytes.{is_white, is_letter, is_digit, is_quote, goes_on_word, decimal_value}
use Rattle.sql_lex.specs.Classes.{begins_with_dash}
use Rattle.sql_lex.specs.Tokens.{IsSpelling, IsSign, IsDigits, ends_before, sign_ends_before, begins_without, doubled}
use Rattle.sql_lex.specs.Faults.{IsFault, begins_sign}
use Rattle.sql_lex.specs.inner.Lexing.{front_len, bad_byte, word_found, within_limit, number_found, unquoted, closed_found, quoted_found, sign_found, less_found, greater_found, not_found, sign_at, first_found}
use Rattle.sql_lex.proofs.LexGaps.{Dark}
use Rattle.sql_lex.proofs.LexFront.{front_len-le, front_passes, front_stops}
use Rattle.sql_lex.proofs.LexSpelling.{limit_is, limit_le}
use Rattle.sql_lex.proofs.LexQuotes.{unquoted_takes, unquoted_again, other_side}

-- what the grammar wants of a token that was found
pub record IsLexeme (text : List ℕ) (k : Kind) (len : ℕ) : Type 0 where
  pub spelled : IsSpelling k (take len text)
  pub longest : ends_before k (drop len text) ≡ true
  pub some : 0 < len
  pub within : len ≤ length text

-- and of a fault
pub record IsFlaw (text : List ℕ) (f : Fault) (len : ℕ) : Type 0 where
  pub is_fault : IsFault f text len
  pub within : len ≤ length text

abbrev pub IsFound : List ℕ → Found → Type 0
IsFound text (Lexeme k len) = IsLexeme text k len
IsFound text (Flaw f len) = IsFlaw text f len

pub letter_goes : (b : ℕ) → is_letter b ≡ true → goes_on_word b ≡ true
letter_goes b e = or_left (is_letter b || is_digit b) (eqb b 95) (or_left (is_letter b) (is_digit b) e)

-- a byte and those that pass behind it
front_lexeme : (p : ℕ → Bool) (b : ℕ) (bs : List ℕ) (k : Kind) → IsSpelling k (b ∷ take (front_len p bs) bs) → ends_before k (drop (front_len p bs) bs) ≡ true
    → IsLexeme (b ∷ bs) k (length (b ∷ take (front_len p bs) bs))
front_lexeme p b bs k spelled longest =
    let len : length (take (front_len p bs) bs) ≡ front_len p bs = length-take-le (front_len p bs) bs (front_len-le p bs) in
    let is : IsLexeme (b ∷ bs) k (suc (front_len p bs)) = record { spelled = spelled; longest = longest; some = omega arith; within = omega (arith, front_len-le p bs) } in
    subst (λ (n : ℕ). IsLexeme (b ∷ bs) k (suc n)) (sym len) is

-- words
word_body : (b : ℕ) (bs : List ℕ) → is_letter b ≡ true → IsFound (b ∷ bs) (word_found (b ∷ take (front_len goes_on_word bs) bs))
word_body b bs letter =
    let body = b ∷ take (front_len goes_on_word bs) bs in
    let passes = front_passes goes_on_word bs in
    let stops = front_stops goes_on_word bs in
    elim (place_of reserved body) as (λ o. place_of reserved body ≡ o → IsFound (b ∷ bs) (option_map_or (λ place. Lexeme (kind.Reserved place) (length body)) o (Lexeme (kind.Name (map upper body) false) (length body)))) [
      | None ↦ λ e. front_lexeme goes_on_word b bs (kind.Name (map upper body) false) ((letter, passes), e, refl) stops
      | Some place ↦ λ e. front_lexeme goes_on_word b bs (kind.Reserved place) ((letter, passes), e) stops
    ] refl

word_len_is : (b : ℕ) (bs : List ℕ) → is_letter b ≡ true → front_len goes_on_word (b ∷ bs) ≡ suc (front_len goes_on_word bs)
word_len_is b bs letter = rw (letter_goes b letter) refl

word_takes : (b : ℕ) (bs : List ℕ) → is_letter b ≡ true → IsFound (b ∷ bs) (word_found (take (front_len goes_on_word (b ∷ bs)) (b ∷ bs)))
word_takes b bs letter = subst (λ (n : ℕ). IsFound (b ∷ bs) (word_found (take n (b ∷ bs)))) (sym (word_len_is b bs letter)) (word_body b bs letter)

-- numbers
pub limit_none : (n : ℕ) → within_limit n ≡ None → 9223372036854775807 < n
limit_none n e =
    elim (leb n 9223372036854775807) as (λ t. leb n 9223372036854775807 ≡ t → cond t (Some n) None ≡ None → 9223372036854775807 < n) [
      | true ↦ λ t h. absurd cc
      | false ↦ λ t h. leb-false n 9223372036854775807 t
    ] refl e

digits_are : (b : ℕ) (bs : List ℕ) → is_digit b ≡ true → IsDigits (b ∷ take (front_len is_digit bs) bs) (decimal_value 0 (b ∷ take (front_len is_digit bs) bs))
digits_are b bs digit = record { some = omega arith; digits = rw (digit, front_passes is_digit bs) refl; spell = refl }

big_number : (b : ℕ) (bs : List ℕ) → is_digit b ≡ true → within_limit (decimal_value 0 (b ∷ take (front_len is_digit bs) bs)) ≡ None → IsFlaw (b ∷ bs) fault.BigNumber (length (b ∷ take (front_len is_digit bs) bs))
big_number b bs digit none =
    let n = front_len is_digit bs in
    record {
      is_fault = (b ∷ take n bs, drop n bs, decimal_value 0 (b ∷ take n bs), ap (λ (x : List ℕ). b ∷ x) (sym (take-append-drop n bs)), refl, digits_are b bs digit, limit_none _ none, front_stops is_digit bs);
      within = omega (arith, length-take-le n bs (front_len-le is_digit bs), front_len-le is_digit bs);
    }

number_body : (b : ℕ) (bs : List ℕ) → is_digit b ≡ true → IsFound (b ∷ bs) (number_found (b ∷ take (front_len is_digit bs) bs))
number_body b bs digit =
    let body = b ∷ take (front_len is_digit bs) bs in
    let n = decimal_value 0 body in
    elim (within_limit n) as (λ o. within_limit n ≡ o → IsFound (b ∷ bs) (option_map_or (λ v. Lexeme (kind.Number (pos v)) (length body)) o (Flaw fault.BigNumber (length body)))) [
      | None ↦ λ e. big_number b bs digit e
      | Some v ↦ λ e. front_lexeme is_digit b bs (kind.Number (pos v)) (v, record { some = (digits_are b bs digit).some; digits = (digits_are b bs digit).digits; spell = limit_is n v e }, limit_le n v e, refl) (front_stops is_digit bs)
    ] refl

number_len_is : (b : ℕ) (bs : List ℕ) → is_digit b ≡ true → front_len is_digit (b ∷ bs) ≡ suc (front_len is_digit bs)
number_len_is b bs digit = rw digit refl

number_takes : (b : ℕ) (bs : List ℕ) → is_digit b ≡ true → IsFound (b ∷ bs) (number_found (take (front_len is_digit (b ∷ bs)) (b ∷ bs)))
number_takes b bs digit = subst (λ (n : ℕ). IsFound (b ∷ bs) (number_found (take n (b ∷ bs)))) (sym (number_len_is b bs digit)) (number_body b bs digit)

-- quotes
pub quote_body : (mark : ℕ) (bytes behind : List ℕ) → doubled mark bytes ++ mark ∷ behind ≡ (doubled mark bytes ++ mark ∷ []) ++ behind
quote_body mark bytes behind = sym (append_assoc (doubled mark bytes) (mark ∷ []) behind)

pub quote_len : (mark : ℕ) (bytes behind rest : List ℕ) → rest ≡ doubled mark bytes ++ mark ∷ behind → length (mark ∷ doubled mark bytes ++ mark ∷ []) ≡ length rest - length behind + 1
quote_len mark bytes behind rest whole =
    let total : length rest ≡ length (doubled mark bytes) + suc (length behind) = ap length whole ∙ length-append (doubled mark bytes) (mark ∷ behind) in
    let front : length (doubled mark bytes ++ mark ∷ []) ≡ length (doubled mark bytes) + 1 = length-append (doubled mark bytes) (mark ∷ []) in
    omega arith

-- a quoted token of this kind, whose text is what stands between the quotes
quoted_lexeme : (mark : ℕ) (bytes behind rest : List ℕ) (k : Kind) (len : ℕ) → rest ≡ doubled mark bytes ++ mark ∷ behind → len ≡ length rest - length behind + 1
    → IsSpelling k (mark ∷ doubled mark bytes ++ mark ∷ []) → ends_before k behind ≡ true → IsLexeme (mark ∷ rest) k len
quoted_lexeme mark bytes behind rest k len whole is spelled longest =
    let body = mark ∷ doubled mark bytes ++ mark ∷ [] in
    let text : mark ∷ rest ≡ body ++ behind = ap (λ (x : List ℕ). mark ∷ x) (whole ∙ quote_body mark bytes behind) in
    let count : length body ≡ len = quote_len mark bytes behind rest whole ∙ sym is in
    let front : take len (mark ∷ rest) ≡ body = ap (λ (x : List ℕ). take len x) text ∙ take_at body behind len count in
    let back : drop len (mark ∷ rest) ≡ behind = ap (λ (x : List ℕ). drop len x) text ∙ drop_at body behind len count in
    record {
      spelled = subst (IsSpelling k) (sym front) spelled;
      longest = ap (ends_before k) back ∙ longest;
      some = omega arith;
      within = omega (arith, ap length text, length-append body behind);
    }

one_within : (b : ℕ) (bs : List ℕ) → 1 ≤ length (b ∷ bs)
one_within b bs = omega arith

bad_quoted : (mark : ℕ) (bytes behind rest : List ℕ) → is_quote mark ≡ true → rest ≡ doubled mark bytes ++ mark ∷ behind → begins_without (λ b. eqb b mark) behind ≡ true
    → ((IsUtf8 bytes → ⊥) ⊎ ((mark ≡ 34) × (bytes ≡ []))) → IsFlaw (mark ∷ rest) fault.BadByte 1
bad_quoted mark bytes behind rest quote whole closed bad = record {
  is_fault = (refl, inr (record { quote = quote; bytes = bytes; behind = behind; whole = whole; closed = other_side mark behind ∙ closed; bad = bad }));
  within = one_within mark rest;
}

other_quote : (mark : ℕ) → is_quote mark ≡ true → eqb mark 39 ≡ false → mark ≡ 34
other_quote mark quote other = grind (arith, nat_tests)

nothing_in : (bytes : List ℕ) → eqb (length bytes) 0 ≡ true → bytes ≡ []
nothing_in [] e = refl
nothing_in (b ∷ bs) e = let none = eqb-true _ _ e in absurd (omega arith)

-- characters are spelled by bytes
some_chars : (bytes : List ℕ) → IsUtf8 bytes → eqb (length bytes) 0 ≡ false → 0 < length (chars bytes)
some_chars bytes good some =
    elim (chars bytes) as (λ cs. chars bytes ≡ cs → 0 < length cs) [
      | [] ↦ λ e. let none : bytes ≡ [] = sym (encodes-chars bytes good) ∙ ap encode_utf8_all e in absurd (let is : eqb (length bytes) 0 ≡ true = ap (λ (x : List ℕ). eqb (length x) 0) none in cc)
      | c ∷ cs ↦ λ e. omega arith
    ] refl

closed_takes : (mark : ℕ) (bytes behind rest : List ℕ) (len : ℕ) → is_quote mark ≡ true → rest ≡ doubled mark bytes ++ mark ∷ behind → begins_without (λ b. eqb b mark) behind ≡ true
    → len ≡ length rest - length behind + 1 → IsFound (mark ∷ rest) (closed_found mark bytes len)
closed_takes mark bytes behind rest len quote whole closed is =
    let P : Found → Type 0 = IsFound (mark ∷ rest) in
    cond_both (is_utf8 bytes) _ _ P
    (λ good. cond_both (eqb mark 39) _ _ P
    (λ text. let m : mark ≡ 39 = eqb-true mark 39 text in
    quoted_lexeme mark bytes behind rest (kind.Text (chars bytes)) len whole is
    (record { bytes = bytes; whole = ap (λ (x : ℕ). x ∷ doubled x bytes ++ x ∷ []) m; utf8 = IsUtf8-from_is_utf8 bytes good; characters = refl })
    (ap (λ (x : ℕ). begins_without (λ b. eqb b x) behind) (sym m) ∙ closed))
    (λ name. let m : mark ≡ 34 = other_quote mark quote name in
    cond_both (eqb (length bytes) 0) _ _ P
    (λ none. bad_quoted mark bytes behind rest quote whole closed (inr (m, nothing_in bytes none)))
    (λ some. quoted_lexeme mark bytes behind rest (kind.Name (chars bytes) true) len whole is
    (record { bytes = bytes; whole = ap (λ (x : ℕ). x ∷ doubled x bytes ++ x ∷ []) m; utf8 = IsUtf8-from_is_utf8 bytes good; characters = refl }, some_chars bytes (IsUtf8-from_is_utf8 bytes good) some)
    (ap (λ (x : ℕ). begins_without (λ b. eqb b x) behind) (sym m) ∙ closed))))
    (λ bad. bad_quoted mark bytes behind rest quote whole closed (inl (λ good. let clash : true ≡ false = sym (is_utf8-from_IsUtf8 bytes good) ∙ bad in absurd cc)))

-- a quote that is not closed
pub open_quote : (mark : ℕ) (rest : List ℕ) → unquoted mark false rest ≡ None → (bytes behind : List ℕ) → rest ≡ doubled mark bytes ++ mark ∷ behind → begins_without (eqb mark) behind ≡ true → ⊥
open_quote mark rest none bytes behind whole closed =
    let found = unquoted_again mark bytes behind (sym (other_side mark behind) ∙ closed) in
    let clash : ◌≡◌ {A = Option (List ℕ × List ℕ)} None (Some (bytes, behind)) = sym none ∙ ap (unquoted mark false) whole ∙ found in
    absurd cc

quoted_takes : (mark : ℕ) (rest : List ℕ) → is_quote mark ≡ true → IsFound (mark ∷ rest) (quoted_found mark rest)
quoted_takes mark rest quote =
    elim (unquoted mark false rest) as (λ o. unquoted mark false rest ≡ o → IsFound (mark ∷ rest) (option_map_or (λ x. closed_found mark x.0 (length rest - length x.1 + 1)) o (Flaw fault.OpenQuote 1))) [
      | None ↦ λ e. record { is_fault = (refl, quote, open_quote mark rest e); within = one_within mark rest }
      | Some x ↦ λ e. let held = unquoted_takes mark false rest x e in closed_takes mark x.0 x.1 rest (length rest - length x.1 + 1) quote held.whole held.closed refl
    ] refl

-- signs
sign_is : (b c : ℕ) (bs : List ℕ) (s : SignOf) → IsSign s (c ∷ []) → sign_ends_before s bs ≡ true → b ≡ c → IsFound (b ∷ bs) (sign_found s 1)
sign_is b c bs s spelled longest e = record {
  spelled = subst (λ (x : ℕ). IsSign s (x ∷ [])) (sym e) spelled;
  longest = longest;
  some = omega arith;
  within = one_within b bs;
}

two_sign_is : (b c d e : ℕ) (bs : List ℕ) (s : SignOf) → IsSign s (d ∷ e ∷ []) → sign_ends_before s bs ≡ true → b ≡ d → c ≡ e → IsFound (b ∷ c ∷ bs) (sign_found s 2)
two_sign_is b c d e bs s spelled longest p q = record {
  spelled = subst (λ (x : ℕ). IsSign s (x ∷ c ∷ [])) (sym p) (subst (λ (x : ℕ). IsSign s (d ∷ x ∷ [])) (sym q) spelled);
  longest = longest;
  some = omega arith;
  within = omega arith;
}

less_takes : (b : ℕ) (bs : List ℕ) → b ≡ 60 → IsFound (b ∷ bs) (less_found bs)
less_takes b [] e = sign_is b 60 [] (sign.Compare Lt) refl refl e
less_takes b (c ∷ cs) e =
    let P : Found → Type 0 = IsFound (b ∷ c ∷ cs) in
    cond_both (eqb c 61) _ _ P (λ t. two_sign_is b c 60 61 cs (sign.Compare Le) refl refl e (eqb-true c 61 t))
    (λ n. cond_both (eqb c 62) _ _ P (λ t. two_sign_is b c 60 62 cs (sign.Compare Ne) (inl refl) refl e (eqb-true c 62 t)) (λ m. sign_is b 60 (c ∷ cs) (sign.Compare Lt) refl (rw (n, m) refl) e))

greater_takes : (b : ℕ) (bs : List ℕ) → b ≡ 62 → IsFound (b ∷ bs) (greater_found bs)
greater_takes b [] e = sign_is b 62 [] (sign.Compare Gt) refl refl e
greater_takes b (c ∷ cs) e =
    let P : Found → Type 0 = IsFound (b ∷ c ∷ cs) in
    cond_both (eqb c 61) _ _ P (λ t. two_sign_is b c 62 61 cs (sign.Compare Ge) refl refl e (eqb-true c 61 t)) (λ n. sign_is b 62 (c ∷ cs) (sign.Compare Gt) refl (rw n refl) e)

-- a byte that is none of these
pub record Plain (b : ℕ) : Type 0 where
  pub white : is_white b ≡ false
  pub letter : is_letter b ≡ false
  pub digit : is_digit b ≡ false
  pub quote : is_quote b ≡ false

-- a byte that is no sign but `!`
pub record NoSign (b : ℕ) : Type 0 where
  pub opening : eqb b 40 ≡ false
  pub closing : eqb b 41 ≡ false
  pub comma : eqb b 44 ≡ false
  pub dot : eqb b 46 ≡ false
  pub semicolon : eqb b 59 ≡ false
  pub star : eqb b 42 ≡ false
  pub plus : eqb b 43 ≡ false
  pub minus : eqb b 45 ≡ false
  pub equal : eqb b 61 ≡ false
  pub less : eqb b 60 ≡ false
  pub greater : eqb b 62 ≡ false

all_false : (v w x y z : Bool) → v ≡ false → w ≡ false → x ≡ false → y ≡ false → z ≡ false → (v || w || x || y || z) ≡ false
all_false v w x y z a b c d e = rw (a, b, c, d, e) refl

no_sign : (b : ℕ) → NoSign b → list_any (eqb b) (codes "(),.;*+-=<>") ≡ false
no_sign b n = rw (n.opening, n.closing, n.comma, n.dot, n.semicolon, n.star, n.plus, n.minus, n.equal, n.less, n.greater) refl

bad_is : (b : ℕ) (bs : List ℕ) → Plain b → NoSign b → (eqb b 33 && not (begins_without (λ c. eqb c 61) bs)) ≡ false → IsFound (b ∷ bs) bad_byte
bad_is b bs p n other = record {
  is_fault = (
    refl,
    inl (all_false (is_white b) (is_letter b) (is_digit b) (is_quote b) (begins_sign b bs) p.white p.letter p.digit p.quote
        (let none = no_sign b n in rw (none, other) refl)),
  );
  within = one_within b bs;
}

not_takes : (b : ℕ) (bs : List ℕ) → Plain b → NoSign b → b ≡ 33 → IsFound (b ∷ bs) (not_found bs)
not_takes b [] p n e = bad_is b [] p n (and_right (eqb b 33) false refl)
not_takes b (c ∷ cs) p n e =
    cond_both (eqb c 61) _ _ (IsFound (b ∷ c ∷ cs)) (λ t. two_sign_is b c 33 61 cs (sign.Compare Ne) (inr refl) refl e (eqb-true c 61 t))
    (λ m. bad_is b (c ∷ cs) p n (and_right (eqb b 33) (not (not (eqb c 61))) (rw m refl)))

-- a single dash
minus_takes : (b : ℕ) (bs : List ℕ) → (eqb b 45 && begins_with_dash bs) ≡ false → eqb b 45 ≡ true → IsFound (b ∷ bs) (sign_found sign.Minus 1)
minus_takes b [] dark e = sign_is b 45 [] sign.Minus refl refl (eqb-true b 45 e)
minus_takes b (c ∷ cs) dark e =
    let other : eqb c 45 ≡ false = sym (ap (λ (t : Bool). t && eqb c 45) e) ∙ dark in
    sign_is b 45 (c ∷ cs) sign.Minus refl (rw other refl) (eqb-true b 45 e)

sign_takes : (b : ℕ) (bs : List ℕ) → Plain b → (eqb b 45 && begins_with_dash bs) ≡ false → IsFound (b ∷ bs) (sign_at (b ∷ bs))
sign_takes b bs p dark =
    let P : Found → Type 0 = IsFound (b ∷ bs) in
    cond_both (eqb b 40) _ _ P (λ t. sign_is b 40 bs sign.Open refl refl (eqb-true b 40 t)) (λ n1.
    cond_both (eqb b 41) _ _ P (λ t. sign_is b 41 bs sign.Close refl refl (eqb-true b 41 t)) (λ n2.
    cond_both (eqb b 44) _ _ P (λ t. sign_is b 44 bs sign.Comma refl refl (eqb-true b 44 t)) (λ n3.
    cond_both (eqb b 46) _ _ P (λ t. sign_is b 46 bs sign.Dot refl refl (eqb-true b 46 t)) (λ n4.
    cond_both (eqb b 59) _ _ P (λ t. sign_is b 59 bs sign.Semicolon refl refl (eqb-true b 59 t)) (λ n5.
    cond_both (eqb b 42) _ _ P (λ t. sign_is b 42 bs sign.Star refl refl (eqb-true b 42 t)) (λ n6.
    cond_both (eqb b 43) _ _ P (λ t. sign_is b 43 bs sign.Plus refl refl (eqb-true b 43 t)) (λ n7.
    cond_both (eqb b 45) _ _ P (λ t. minus_takes b bs dark t) (λ n8.
    cond_both (eqb b 61) _ _ P (λ t. sign_is b 61 bs (sign.Compare Eq) refl refl (eqb-true b 61 t)) (λ n9.
    cond_both (eqb b 60) _ _ P (λ t. less_takes b bs (eqb-true b 60 t)) (λ n10.
    cond_both (eqb b 62) _ _ P (λ t. greater_takes b bs (eqb-true b 62 t)) (λ n11.
    let n : NoSign b = record { opening = n1; closing = n2; comma = n3; dot = n4; semicolon = n5; star = n6; plus = n7; minus = n8; equal = n9; less = n10; greater = n11 } in
    cond_both (eqb b 33) _ _ P (λ t. not_takes b bs p n (eqb-true b 33 t)) (λ m. bad_is b bs p n (rw m refl)))))))))))))

-- what is found is what the grammar wants
pub found_takes : (b : ℕ) (bs : List ℕ) → Dark b bs → IsFound (b ∷ bs) (first_found (b ∷ bs))
unfolding first_found
found_takes b bs dark =
    let P : Found → Type 0 = IsFound (b ∷ bs) in
    cond_both (is_letter b) _ _ P (λ l. word_takes b bs l) (λ l.
    cond_both (is_digit b) _ _ P (λ d. number_takes b bs d) (λ d.
    cond_both (is_quote b) _ _ P (λ q. quoted_takes b bs q) (λ q.
    sign_takes b bs (record { white = dark.white; letter = l; digit = d; quote = q }) dark.dashes)))
