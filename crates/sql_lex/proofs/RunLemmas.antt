-- Comments and quotes as runs: what is to come behind them.
use Rattle.std.proofs.Common.{◌≡◌, ◌<◌, ◌≤◌, ◌+◌, ◌-◌, ℕ, zero, suc, true, false, cond, eqb, List, [], ◌∷◌, length, drop, Option, Some, None, refl, sym, ap, add-one, subst, ◌∙◌, arith}
use Rattle.std.specs.Prelude.{option_to_list, slice_index}
use Rattle.std.specs.List.{list_all}
use Rattle.std.proofs.lemmas.List.{drop_all}
use Rattle.std.proofs.lemmas.Bool.{and_parts, eqb-true}
use Rattle.std.proofs.lemmas.Bool.Decides.{nat_tests}
use Rattle.memchr.specs.Find.{Nowhere, NoneBefore, Passes, is_byte}
use Rattle.lint_base.specs.declared.place.Span.{Span}
use Rattle.sql_lex.specs.Bytes.{is_white, is_quote}
use Rattle.sql_lex.specs.Classes.{Class, Blank, Solid, Nothing, Comment, Quote, classes}
use Rattle.sql_lex.specs.inner.Runs.{grown_to, to_come, after_run}
use Rattle.sql_lex.proofs.LexGaps.{nowhere_behind, not_here}

abbrev pub span_of : ℕ → ℕ → Span
span_of from to = record { from = from; to = to }

-- ---- comments

-- a comment without an end of line
comment_open : (text : List ℕ) (solid : Option Span) (at : ℕ) → Nowhere (Passes (is_byte 10) text) 0 (length text) → to_come solid at (classes Comment text) ≡ option_to_list solid
comment_open [] solid at none = refl
comment_open (b ∷ bs) solid at none =
    let other : eqb b 10 ≡ false = not_here (is_byte 10) b bs (length bs) none in
    rw other (comment_open bs solid (at + 1) (nowhere_behind (is_byte 10) b bs (length bs) none))

pub comment_unended : (text : List ℕ) (solid : Option Span) (at : ℕ) → Nowhere (Passes (is_byte 10) text) 0 (length text)
    → to_come solid at (classes Comment text) ≡ to_come solid (at + length text) (classes Nothing (drop (length text) text))
comment_unended text solid at none =
    comment_open text solid at none ∙ ap (λ (x : List ℕ). to_come solid (at + length text) (classes Nothing x)) (sym (drop_all (length text) text (omega arith)))

comment_some : (text : List ℕ) (i : ℕ) (solid : Option Span) (at : ℕ) → i < length text → Nowhere (Passes (is_byte 10) text) 0 i → Passes (is_byte 10) text i
    → to_come solid at (classes Comment text) ≡ to_come solid (at + suc i) (classes Nothing (drop (suc i) text))
comment_some [] i solid at within none here = absurd (omega arith)
comment_some (b ∷ bs) zero solid at within none here = let is : eqb b 10 ≡ true = here in rw is refl
comment_some (b ∷ bs) (suc i) solid at within none here =
    let other : eqb b 10 ≡ false = not_here (is_byte 10) b bs i none in
    let place : at + 1 + suc i ≡ at + suc (suc i) = omega arith in
    rw other (comment_some bs i solid (at + 1) (omega arith) (nowhere_behind (is_byte 10) b bs i none) here
    ∙ ap (λ (n : ℕ). to_come solid n (classes Nothing (drop (suc i) bs))) place)

-- a comment to the end of its line
pub comment_ended : (text : List ℕ) (i : ℕ) (solid : Option Span) (at : ℕ) → NoneBefore (Passes (is_byte 10) text) 0 (length text) i × Passes (is_byte 10) text i
    → to_come solid at (classes Comment text) ≡ to_come solid (at + (i + 1)) (classes Nothing (drop (i + 1) text))
comment_ended text i solid at found =
    comment_some text i solid at found.0.high found.0.before found.1 ∙ ap (λ (n : ℕ). to_come solid (at + n) (classes Nothing (drop n text))) (sym (add-one i))

-- ---- quotes

-- a byte of a quote that is not its mark, whether it is white or not
quote_byte : (mark b : ℕ) (bs : List ℕ) (from to at : ℕ) (left : List Span) → eqb b mark ≡ false
    → ((end : ℕ) → to_come (Some (span_of from end)) (at + 1) (classes (Quote mark) bs) ≡ left) → to_come (Some (span_of from to)) at (classes (Quote mark) (b ∷ bs)) ≡ left
quote_byte mark b bs from to at left other more =
    rw other (elim (is_white b) as (λ white. to_come (Some (span_of from to)) at (cond white Blank Solid ∷ classes (Quote mark) bs) ≡ left) [ true ↦ more to | false ↦ more (at + 1) ])

quote_some : (mark : ℕ) (text : List ℕ) (i from to at : ℕ) → is_white mark ≡ false → i < length text → Nowhere (Passes (is_byte mark) text) 0 i → Passes (is_byte mark) text i
    → to_come (Some (span_of from to)) at (classes (Quote mark) text) ≡ to_come (Some (span_of from (at + suc i))) (at + suc i) (classes Nothing (drop (suc i) text))
quote_some mark [] i from to at dark within none here = absurd (omega arith)
quote_some mark (b ∷ bs) zero from to at dark within none here =
    let is : eqb b mark ≡ true = here in
    let solid : is_white b ≡ false = ap is_white (eqb-true b mark is) ∙ dark in
    rw (is, solid) refl
quote_some mark (b ∷ bs) (suc i) from to at dark within none here =
    let place : at + 1 + suc i ≡ at + suc (suc i) = omega arith in
    quote_byte mark b bs from to at (to_come (Some (span_of from (at + suc (suc i)))) (at + suc (suc i)) (classes Nothing (drop (suc i) bs))) (not_here (is_byte mark) b bs i none)
    (λ end. quote_some mark bs i from end (at + 1) dark (omega arith) (nowhere_behind (is_byte mark) b bs i none) here
    ∙ ap (λ (n : ℕ). to_come (Some (span_of from n)) n (classes Nothing (drop (suc i) bs))) place)

mark_dark : (mark : ℕ) → is_quote mark ≡ true → is_white mark ≡ false
mark_dark mark quote = grind (arith, nat_tests)

-- a quote to the next of its marks
pub quote_closed : (mark : ℕ) (text : List ℕ) (i from at : ℕ) → is_quote mark ≡ true → NoneBefore (Passes (is_byte mark) text) 0 (length text) i × Passes (is_byte mark) text i
    → to_come (Some (span_of from at)) at (classes (Quote mark) text) ≡ to_come (Some (span_of from (at + (i + 1)))) (at + (i + 1)) (classes Nothing (drop (i + 1) text))
quote_closed mark text i from at quote found =
    quote_some mark text i from at at (mark_dark mark quote) found.0.high found.0.before found.1
    ∙ ap (λ (n : ℕ). to_come (Some (span_of from (at + n))) (at + n) (classes Nothing (drop n text))) (sym (add-one i))

white_apart : (b : ℕ) → is_white b ≡ true → (eqb b 45 ≡ false) × (eqb b 59 ≡ false) × (is_quote b ≡ false)
white_apart b white = (grind (arith, nat_tests), grind (arith, nat_tests), grind (arith, nat_tests))

-- white space at the end of a text adds nothing, in a quote and outside
white_outside : (text : List ℕ) (solid : Option Span) (at : ℕ) → list_all is_white text ≡ true → to_come solid at (classes Nothing text) ≡ option_to_list solid
white_outside [] solid at white = refl
white_outside (b ∷ bs) solid at white =
    let parts = and_parts (is_white b) (list_all is_white bs) white in
    let apart = white_apart b parts.0 in
    rw (apart.0, apart.1, parts.0, apart.2) (white_outside bs solid (at + 1) parts.1)

white_quoted : (mark : ℕ) (text : List ℕ) (solid : Option Span) (at : ℕ) → Nowhere (Passes (is_byte mark) text) 0 (length text) → list_all is_white text ≡ true → to_come solid at (classes (Quote mark) text) ≡ option_to_list solid
white_quoted mark [] solid at none white = refl
white_quoted mark (b ∷ bs) solid at none white =
    let parts = and_parts (is_white b) (list_all is_white bs) white in
    let other : eqb b mark ≡ false = not_here (is_byte mark) b bs (length bs) none in
    rw (other, parts.0) (white_quoted mark bs solid (at + 1) (nowhere_behind (is_byte mark) b bs (length bs) none) parts.1)

quote_open : (mark : ℕ) (text : List ℕ) (n from to at : ℕ) → Nowhere (Passes (is_byte mark) text) 0 (length text) → n < length text → list_all is_white (drop (suc n) text) ≡ true → is_white (slice_index text n) ≡ false
    → to_come (Some (span_of from to)) at (classes (Quote mark) text) ≡ option_to_list (Some (span_of from (at + suc n)))
quote_open mark [] n from to at none within white dark = absurd (omega arith)
quote_open mark (b ∷ bs) zero from to at none within white dark =
    let other : eqb b mark ≡ false = not_here (is_byte mark) b bs (length bs) none in
    let solid : is_white b ≡ false = dark in
    rw (other, solid) (white_quoted mark bs (Some (span_of from (at + 1))) (at + 1) (nowhere_behind (is_byte mark) b bs (length bs) none) white)
quote_open mark (b ∷ bs) (suc n) from to at none within white dark =
    let place : at + 1 + suc n ≡ at + suc (suc n) = omega arith in
    quote_byte mark b bs from to at (option_to_list (Some (span_of from (at + suc (suc n))))) (not_here (is_byte mark) b bs (length bs) none)
    (λ end. quote_open mark bs n from end (at + 1) (nowhere_behind (is_byte mark) b bs (length bs) none) (omega arith) white dark
    ∙ ap (λ (m : ℕ). option_to_list (Some (span_of from m))) place)

-- a quote that is not closed, to the end of the text without its white space
pub quote_unclosed : (mark : ℕ) (text : List ℕ) (len from at : ℕ) → Nowhere (Passes (is_byte mark) text) 0 (length text) → len ≤ length text
    → list_all is_white (drop len text) ≡ true → (0 < len → is_white (slice_index text (len - 1)) ≡ false)
    → to_come (Some (span_of from at)) at (classes (Quote mark) text) ≡ to_come (Some (span_of from (at + len))) (at + len) (classes Nothing (drop len text))
quote_unclosed mark text zero from at none within white dark =
    let place : at ≡ at + 0 = omega arith in
    white_quoted mark text (Some (span_of from at)) at none white ∙ ap (λ (n : ℕ). option_to_list (Some (span_of from n))) place
    ∙ sym (white_outside text (Some (span_of from (at + 0))) (at + 0) white)
quote_unclosed mark text (suc n) from at none within white dark =
    let last : suc n - 1 ≡ n = omega arith in
    let solid = subst (λ (i : ℕ). is_white (slice_index text i) ≡ false) last (dark (omega arith)) in
    quote_open mark text n from at at none (omega arith) white solid ∙ sym (white_outside (drop (suc n) text) (Some (span_of from (at + suc n))) (at + suc n) white)

-- ---- runs at the front of a text

grown_once : (solid : Option Span) (at : ℕ) → grown_to solid at 1 ≡ span_of (grown_to solid at 1).from (at + 1)
grown_once None at = refl
grown_once (Some span) at = refl

grown_on : (solid : Option Span) (at len : ℕ) → span_of (grown_to solid at 1).from (at + len) ≡ grown_to solid at len
grown_on None at len = refl
grown_on (Some span) at len = refl

mark_apart : (mark : ℕ) → is_quote mark ≡ true → (eqb mark 45 ≡ false) × (eqb mark 59 ≡ false) × (is_white mark ≡ false)
mark_apart mark quote = (grind (arith, nat_tests), grind (arith, nat_tests), grind (arith, nat_tests))

-- behind the mark of a quote
pub quote_run : (mark : ℕ) (text : List ℕ) (len : ℕ) (solid : Option Span) (at : ℕ) → is_quote mark ≡ true
    → ((from at : ℕ) → to_come (Some (span_of from at)) at (classes (Quote mark) text) ≡ to_come (Some (span_of from (at + len))) (at + len) (classes Nothing (drop len text)))
    → to_come solid at (classes Nothing (mark ∷ text)) ≡ after_run Solid (1 + len) solid at (drop (1 + len) (mark ∷ text))
quote_run mark text len solid at quote inner =
    let apart = mark_apart mark quote in
    let from = (grown_to solid at 1).from in
    let one : 1 + len ≡ suc len = omega arith in
    let place : at + 1 + len ≡ at + suc len = omega arith in
    rw (one, apart.0, apart.1, apart.2, quote)
    (ap (λ (s : Span). to_come (Some s) (at + 1) (classes (Quote mark) text)) (grown_once solid at)
    ∙ inner from (at + 1)
    ∙ ap (λ (n : ℕ). to_come (Some (span_of from n)) n (classes Nothing (drop len text))) place
    ∙ ap (λ (s : Span). to_come (Some s) (at + suc len) (classes Nothing (drop len text))) (grown_on solid at (suc len)))

front_is : (b c : ℕ) (bs cs : List ℕ) → b ≡ c → bs ≡ cs → b ∷ bs ≡ c ∷ cs
front_is b c bs cs first rest = cc

-- the same of a text by its first byte
pub quote_front : (text rest : List ℕ) (mark len : ℕ) (solid : Option Span) (at : ℕ) → 0 < length text → rest ≡ drop 1 text → mark ≡ slice_index text 0 → is_quote mark ≡ true
    → ((from at : ℕ) → to_come (Some (span_of from at)) at (classes (Quote mark) rest) ≡ to_come (Some (span_of from (at + len))) (at + len) (classes Nothing (drop len rest)))
    → to_come solid at (classes Nothing text) ≡ after_run Solid (1 + len) solid at (drop (1 + len) text)
quote_front [] rest mark len solid at some left is quote inner = absurd (omega arith)
quote_front (b ∷ bs) rest mark len solid at some left is quote inner =
    subst (λ (x : List ℕ). to_come solid at (classes Nothing x) ≡ after_run Solid (1 + len) solid at (drop (1 + len) x)) (front_is mark b rest bs is left) (quote_run mark rest len solid at quote inner)

-- what is to come behind the first run of a text
pub run_left : (class : Class) (len : ℕ) (solid : Option Span) (at : ℕ) (text rest : List ℕ) (left : List Span) → rest ≡ drop len text
    → to_come solid at (classes Nothing text) ≡ after_run class len solid at (drop len text) → to_come solid at (classes Nothing text) ≡ left → after_run class len solid at rest ≡ left
run_left class len solid at text rest left is run same = ap (λ (x : List ℕ). after_run class len solid at x) is ∙ (sym run ∙ same)
