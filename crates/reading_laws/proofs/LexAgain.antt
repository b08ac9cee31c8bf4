-- The token or the fault of the grammar is what is found at the front of a text.
use Rattle.std.proofs.Common.{◌≡◌, ◌≤◌, ◌<◌, ◌+◌, ◌-◌, ℕ, ℤ, pos, suc, true, false, eqb, List, [], ◌∷◌, ◌++◌, length, take, map, refl, sym, ap, subst, ◌∙◌, arith, inl, inr, append_assoc}
use Rattle.std.specs.Prelude.{Option, Some, None}
use Rattle.std.specs.Option.{option_map_or}
use Rattle.std.specs.List.{list_all}
use Rattle.std.specs.Str.{chars, IsUtf8}
use Rattle.std.proofs.lemmas.Bool.{eqb-true, and_parts, or_parts, not-true, le-leb, lt-leb, false_from_ne_true}
use Rattle.std.proofs.lemmas.Bool.Decides.{nat_tests}
use Rattle.std.proofs.lemmas.List.{take_at}
use Rattle.std.proofs.lemmas.Str.{is_utf8-from_IsUtf8, chars-nil}
use Rattle.lint_base.specs.declared.place.Fault.TheVariants as fault
use Rattle.lint_tables.specs.Words.{upper}
use Rattle.lint_tables.specs.declared.op.Op.TheVariants.{Eq, Ne, Lt, Le, Gt, Ge}
use Rattle.sql_lex.specs.declared.token.Sign.{Sign as SignOf}
use Rattle.sql_lex.specs.declared.token.Sign.TheVariants as sign
use Rattle.sql_lex.specs.declared.token.Kind.{Kind}
use Rattle.sql_lex.specs.declared.token.Kind.TheVariants as kind
use Rattle.sql_lex.specs.Bytes.{is_white, is_letter, is_digit, is_quote, goes_on_word, decimal_value}
use Rattle.sql_lex.specs.Tokens.{IsSpelling, IsSign, IsWord, IsQuoted, IsDigits, ends_before, sign_ends_before, begins_without, doubled}
use Rattle.sql_lex.specs.inner.Lexing.{lexeme, flaw, after_gap, front_len, word_found, within_limit, number_found, closed_found, quoted_found, sign_found, less_found, greater_found, first_found}
use Rattle.sql_lex.proofs.LexFront.{front_of}
use Rattle.sql_lex.proofs.LexGaps.{dark_byte}
use Rattle.sql_lex.proofs.LexQuotes.{unquoted_again}
use Rattle.sql_lex.proofs.LexFounds.{letter_goes, quote_len}

digit_apart : (b : ℕ) → is_digit b ≡ true → is_letter b ≡ false
digit_apart b e = grind (arith, nat_tests)

quote_no_letter : (b : ℕ) → is_quote b ≡ true → is_letter b ≡ false
quote_no_letter b e = grind (arith, nat_tests)

quote_no_digit : (b : ℕ) → is_quote b ≡ true → is_digit b ≡ false
quote_no_digit b e = grind (arith, nat_tests)

-- the three ways of a first byte
word_first : (b : ℕ) (bs : List ℕ) → is_letter b ≡ true → first_found (b ∷ bs) ≡ word_found (b ∷ take (front_len goes_on_word bs) bs)
unfolding first_found
word_first b bs letter =
    let goes : front_len goes_on_word (b ∷ bs) ≡ suc (front_len goes_on_word bs) = rw (letter_goes b letter) refl in
    let body : first_found (b ∷ bs) ≡ word_found (take (front_len goes_on_word (b ∷ bs)) (b ∷ bs)) = rw letter refl in
    body ∙ ap (λ (n : ℕ). word_found (take n (b ∷ bs))) goes

number_first : (b : ℕ) (bs : List ℕ) → is_digit b ≡ true → first_found (b ∷ bs) ≡ number_found (b ∷ take (front_len is_digit bs) bs)
unfolding first_found
number_first b bs digit =
    let goes : front_len is_digit (b ∷ bs) ≡ suc (front_len is_digit bs) = rw digit refl in
    let body : first_found (b ∷ bs) ≡ number_found (take (front_len is_digit (b ∷ bs)) (b ∷ bs)) = rw (digit_apart b digit, digit) refl in
    body ∙ ap (λ (n : ℕ). number_found (take n (b ∷ bs))) goes

pub quote_first : (b : ℕ) (bs : List ℕ) → is_quote b ≡ true → first_found (b ∷ bs) ≡ quoted_found b bs
unfolding first_found
quote_first b bs quote = rw (quote_no_letter b quote, quote_no_digit b quote, quote) refl

-- a word
word_again : (body rest : List ℕ) → IsWord body → begins_without goes_on_word rest ≡ true → first_found (body ++ rest) ≡ word_found body
word_again [] rest w end = absurd w
word_again (b ∷ bs) rest (letter, goes) end =
    let n : front_len goes_on_word (bs ++ rest) ≡ length bs = front_of goes_on_word bs rest goes end in
    word_first b (bs ++ rest) letter ∙ ap (λ (x : List ℕ). word_found (b ∷ x)) (take_at bs rest (front_len goes_on_word (bs ++ rest)) (sym n))

-- a number
pub number_again : (body rest : List ℕ) (n : ℕ) → IsDigits body n → begins_without is_digit rest ≡ true → first_found (body ++ rest) ≡ number_found body
number_again [] rest n d end = let some = d.some in absurd (omega arith)
number_again (b ∷ bs) rest n d end =
    let parts = and_parts (is_digit b) (list_all is_digit bs) d.digits in
    let len : front_len is_digit (bs ++ rest) ≡ length bs = front_of is_digit bs rest parts.1 end in
    number_first b (bs ++ rest) parts.0 ∙ ap (λ (x : List ℕ). number_found (b ∷ x)) (take_at bs rest (front_len is_digit (bs ++ rest)) (sym len))

within_is : (n : ℕ) → n ≤ 9223372036854775807 → within_limit n ≡ Some n
within_is n le = rw (le-leb n 9223372036854775807 le) refl

above_is : (n : ℕ) → 9223372036854775807 < n → within_limit n ≡ None
above_is n above = rw (lt-leb n 9223372036854775807 above) refl

number_lexeme : (body : List ℕ) (n : ℕ) → IsDigits body n → n ≤ 9223372036854775807 → number_found body ≡ lexeme (kind.Number (pos n)) (length body)
number_lexeme body n d le =
    let limit : within_limit (decimal_value 0 body) ≡ Some n = ap within_limit (sym d.spell) ∙ within_is n le in
    ap (λ (o : Option ℕ). option_map_or (λ v. lexeme (kind.Number (pos v)) (length body)) o (flaw fault.BigNumber (length body))) limit

pub number_flaw : (body : List ℕ) (n : ℕ) → IsDigits body n → 9223372036854775807 < n → number_found body ≡ flaw fault.BigNumber (length body)
number_flaw body n d above =
    let limit : within_limit (decimal_value 0 body) ≡ None = ap within_limit (sym d.spell) ∙ above_is n above in
    ap (λ (o : Option ℕ). option_map_or (λ v. lexeme (kind.Number (pos v)) (length body)) o (flaw fault.BigNumber (length body))) limit

-- a closed quote
pub quote_again : (mark : ℕ) (bytes behind : List ℕ) → is_quote mark ≡ true → begins_without (λ b. eqb b mark) behind ≡ true
    → first_found (mark ∷ (doubled mark bytes ++ mark ∷ behind)) ≡ closed_found mark bytes (length (mark ∷ doubled mark bytes ++ mark ∷ []))
quote_again mark bytes behind quote closed =
    let rest = doubled mark bytes ++ mark ∷ behind in
    quote_first mark rest quote
    ∙ ap (λ (o : Option (List ℕ × List ℕ)). option_map_or (λ x. closed_found mark x.0 (length rest - length x.1 + 1)) o (flaw fault.OpenQuote 1)) (unquoted_again mark bytes behind closed)
    ∙ ap (λ (n : ℕ). closed_found mark bytes n) (sym (quote_len mark bytes behind rest refl))

quoted_again : (mark : ℕ) (body text rest : List ℕ) (q : IsQuoted mark body text) → is_quote mark ≡ true → begins_without (λ b. eqb b mark) rest ≡ true → first_found (body ++ rest) ≡ closed_found mark q.bytes (length body)
quoted_again mark body text rest q quote closed =
    let whole : body ++ rest ≡ mark ∷ (doubled mark q.bytes ++ mark ∷ rest) = ap (λ (x : List ℕ). x ++ rest) q.whole ∙ ap (λ (x : List ℕ). mark ∷ x) (append_assoc (doubled mark q.bytes) (mark ∷ []) rest) in
    ap first_found whole ∙ quote_again mark q.bytes rest quote closed ∙ ap (λ (x : List ℕ). closed_found mark q.bytes (length x)) (sym q.whole)

text_closed : (bytes text : List ℕ) (len : ℕ) → IsUtf8 bytes → text ≡ chars bytes → closed_found 39 bytes len ≡ lexeme (kind.Text text) len
text_closed bytes text len good e = rw (is_utf8-from_IsUtf8 bytes good) (ap (λ (x : List ℕ). lexeme (kind.Text x) len) (sym e))

has_bytes : (bytes text : List ℕ) → text ≡ chars bytes → 0 < length text → eqb (length bytes) 0 ≡ false
has_bytes [] text e some = let none : length text ≡ 0 = ap length (e ∙ chars-nil) in absurd (omega arith)
has_bytes (b ∷ bs) text e some = false_from_ne_true _ (λ z. let none = eqb-true _ _ z in omega arith)

name_closed : (bytes text : List ℕ) (len : ℕ) → IsUtf8 bytes → text ≡ chars bytes → 0 < length text → closed_found 34 bytes len ≡ lexeme (kind.Name text true) len
name_closed bytes text len good e some = rw (is_utf8-from_IsUtf8 bytes good, has_bytes bytes text e some) (ap (λ (x : List ℕ). lexeme (kind.Name x true) len) (sym e))

-- a sign
abbrev SignFound : SignOf → List ℕ → List ℕ → Type 0
SignFound s rest body = first_found (body ++ rest) ≡ lexeme (kind.Sign s) (length body)

less_again : (rest : List ℕ) → sign_ends_before (sign.Compare Lt) rest ≡ true → less_found rest ≡ sign_found (sign.Compare Lt) 1
less_again [] end = refl
less_again (c ∷ cs) end = let parts = or_parts (eqb c 61) (eqb c 62) (not-true _ end) in rw (parts.0, parts.1) refl

greater_again : (rest : List ℕ) → sign_ends_before (sign.Compare Gt) rest ≡ true → greater_found rest ≡ sign_found (sign.Compare Gt) 1
greater_again [] end = refl
greater_again (c ∷ cs) end = rw (not-true (eqb c 61) end) refl

sign_again : (s : SignOf) (body rest : List ℕ) → IsSign s body → sign_ends_before s rest ≡ true → SignFound s rest body
unfolding first_found
sign_again sign.Open body rest e end = subst (SignFound sign.Open rest) (sym e) refl
sign_again sign.Close body rest e end = subst (SignFound sign.Close rest) (sym e) refl
sign_again sign.Comma body rest e end = subst (SignFound sign.Comma rest) (sym e) refl
sign_again sign.Dot body rest e end = subst (SignFound sign.Dot rest) (sym e) refl
sign_again sign.Semicolon body rest e end = subst (SignFound sign.Semicolon rest) (sym e) refl
sign_again sign.Star body rest e end = subst (SignFound sign.Star rest) (sym e) refl
sign_again sign.Plus body rest e end = subst (SignFound sign.Plus rest) (sym e) refl
sign_again sign.Minus body rest e end = subst (SignFound sign.Minus rest) (sym e) refl
sign_again (sign.Compare Eq) body rest e end = subst (SignFound (sign.Compare Eq) rest) (sym e) refl
sign_again (sign.Compare Ne) body rest (inl e) end = subst (SignFound (sign.Compare Ne) rest) (sym e) refl
sign_again (sign.Compare Ne) body rest (inr e) end = subst (SignFound (sign.Compare Ne) rest) (sym e) refl
sign_again (sign.Compare Lt) body rest e end = subst (SignFound (sign.Compare Lt) rest) (sym e) (less_again rest end)
sign_again (sign.Compare Le) body rest e end = subst (SignFound (sign.Compare Le) rest) (sym e) refl
sign_again (sign.Compare Gt) body rest e end = subst (SignFound (sign.Compare Gt) rest) (sym e) (greater_again rest end)
sign_again (sign.Compare Ge) body rest e end = subst (SignFound (sign.Compare Ge) rest) (sym e) refl

-- the token that the grammar has is found
pub found_again : (k : Kind) (body rest : List ℕ) → IsSpelling k body → ends_before k rest ≡ true → first_found (body ++ rest) ≡ lexeme k (length body)
found_again (kind.Name text false) body rest (w, none, is) end =
    word_again body rest w end ∙ ap (λ (o : Option ℕ). option_map_or (λ place. lexeme (kind.Reserved place) (length body)) o (lexeme (kind.Name (map upper body) false) (length body))) none
    ∙ ap (λ (x : List ℕ). lexeme (kind.Name x false) (length body)) (sym is)
found_again (kind.Name text true) body rest (q, some) end = quoted_again 34 body text rest q refl end ∙ name_closed q.bytes text (length body) q.utf8 q.characters some
found_again (kind.Reserved place) body rest (w, is) end =
    word_again body rest w end ∙ ap (λ (o : Option ℕ). option_map_or (λ place. lexeme (kind.Reserved place) (length body)) o (lexeme (kind.Name (map upper body) false) (length body))) is
found_again (kind.Text text) body rest q end = quoted_again 39 body text rest q refl end ∙ text_closed q.bytes text (length body) q.utf8 q.characters
found_again (kind.Number value) body rest (n, d, le, is) end =
    number_again body rest n d end ∙ number_lexeme body n d le ∙ ap (λ (x : ℤ). lexeme (kind.Number x) (length body)) (sym is)
found_again (kind.Sign s) body rest e end = sign_again s body rest e end

-- a token begins no gap
letter_white : (b : ℕ) → is_letter b ≡ true → is_white b ≡ false
letter_white b e = grind (arith, nat_tests)

letter_dash : (b : ℕ) → is_letter b ≡ true → eqb b 45 ≡ false
letter_dash b e = grind (arith, nat_tests)

digit_white : (b : ℕ) → is_digit b ≡ true → is_white b ≡ false
digit_white b e = grind (arith, nat_tests)

digit_dash : (b : ℕ) → is_digit b ≡ true → eqb b 45 ≡ false
digit_dash b e = grind (arith, nat_tests)

pub quote_white : (b : ℕ) → is_quote b ≡ true → is_white b ≡ false
quote_white b e = grind (arith, nat_tests)

pub quote_dash : (b : ℕ) → is_quote b ≡ true → eqb b 45 ≡ false
quote_dash b e = grind (arith, nat_tests)

-- a text that begins no gap, and has a byte
pub record Begun (text : List ℕ) : Type 0 where
  pub dark : after_gap false text ≡ text
  pub some : 0 < length text

pub begun : (b : ℕ) (bs : List ℕ) → is_white b ≡ false → eqb b 45 ≡ false → Begun (b ∷ bs)
begun b bs white dash = record { dark = dark_byte b bs (record { white = white; dashes = rw dash refl }); some = omega arith }

begun_word : (body rest : List ℕ) → IsWord body → Begun (body ++ rest)
begun_word [] rest w = absurd w
begun_word (b ∷ bs) rest (letter, goes) = begun b (bs ++ rest) (letter_white b letter) (letter_dash b letter)

pub begun_number : (body rest : List ℕ) (n : ℕ) → IsDigits body n → Begun (body ++ rest)
begun_number [] rest n d = let some = d.some in absurd (omega arith)
begun_number (b ∷ bs) rest n d =
    let digit = (and_parts (is_digit b) (list_all is_digit bs) d.digits).0 in
    begun b (bs ++ rest) (digit_white b digit) (digit_dash b digit)

begun_quoted : (mark : ℕ) (body text rest : List ℕ) → is_quote mark ≡ true → IsQuoted mark body text → Begun (body ++ rest)
begun_quoted mark body text rest quote q =
    subst (λ (x : List ℕ). Begun (x ++ rest)) (sym q.whole) (begun mark ((doubled mark q.bytes ++ mark ∷ []) ++ rest) (quote_white mark quote) (quote_dash mark quote))

abbrev BegunBefore : List ℕ → List ℕ → Type 0
BegunBefore rest body = Begun (body ++ rest)

begun_minus : (rest : List ℕ) → begins_without (λ b. eqb b 45) rest ≡ true → Begun (45 ∷ rest)
begun_minus [] end = record { dark = refl; some = omega arith }
begun_minus (c ∷ cs) end = record { dark = dark_byte 45 (c ∷ cs) (record { white = refl; dashes = not-true (eqb c 45) end }); some = omega arith }

begun_sign : (s : SignOf) (body rest : List ℕ) → IsSign s body → sign_ends_before s rest ≡ true → Begun (body ++ rest)
begun_sign sign.Open body rest e end = subst (BegunBefore rest) (sym e) (begun 40 rest refl refl)
begun_sign sign.Close body rest e end = subst (BegunBefore rest) (sym e) (begun 41 rest refl refl)
begun_sign sign.Comma body rest e end = subst (BegunBefore rest) (sym e) (begun 44 rest refl refl)
begun_sign sign.Dot body rest e end = subst (BegunBefore rest) (sym e) (begun 46 rest refl refl)
begun_sign sign.Semicolon body rest e end = subst (BegunBefore rest) (sym e) (begun 59 rest refl refl)
begun_sign sign.Star body rest e end = subst (BegunBefore rest) (sym e) (begun 42 rest refl refl)
begun_sign sign.Plus body rest e end = subst (BegunBefore rest) (sym e) (begun 43 rest refl refl)
begun_sign sign.Minus body rest e end = subst (BegunBefore rest) (sym e) (begun_minus rest end)
begun_sign (sign.Compare Eq) body rest e end = subst (BegunBefore rest) (sym e) (begun 61 rest refl refl)
begun_sign (sign.Compare Ne) body rest (inl e) end = subst (BegunBefore rest) (sym e) (begun 60 (62 ∷ rest) refl refl)
begun_sign (sign.Compare Ne) body rest (inr e) end = subst (BegunBefore rest) (sym e) (begun 33 (61 ∷ rest) refl refl)
begun_sign (sign.Compare Lt) body rest e end = subst (BegunBefore rest) (sym e) (begun 60 rest refl refl)
begun_sign (sign.Compare Le) body rest e end = subst (BegunBefore rest) (sym e) (begun 60 (61 ∷ rest) refl refl)
begun_sign (sign.Compare Gt) body rest e end = subst (BegunBefore rest) (sym e) (begun 62 rest refl refl)
begun_sign (sign.Compare Ge) body rest e end = subst (BegunBefore rest) (sym e) (begun 62 (61 ∷ rest) refl refl)

pub token_begun : (k : Kind) (body rest : List ℕ) → IsSpelling k body → ends_before k rest ≡ true → Begun (body ++ rest)
token_begun (kind.Name text false) body rest s end = begun_word body rest s.0
token_begun (kind.Name text true) body rest s end = begun_quoted 34 body text rest refl s.0
token_begun (kind.Reserved place) body rest s end = begun_word body rest s.0
token_begun (kind.Text text) body rest q end = begun_quoted 39 body text rest refl q
token_begun (kind.Number value) body rest s end = begun_number body rest s.0 s.1
token_begun (kind.Sign s) body rest e end = begun_sign s body rest e end
