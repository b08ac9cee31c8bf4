-- White space and comments before a token.
use Rattle.std.proofs.Common.{◌≡◌, ◌<◌, ◌≤◌, ◌+◌, ℕ, zero, suc, Bool, true, false, cond, ◌&&◌, eqb, List, [], ◌∷◌, ◌++◌, length, drop, refl, sym, ap, add-one, subst, ◌∙◌, arith}
use Rattle.std.proofs.lemmas.Bool.{and_parts, cond_both, false_from_ne_true}
use Rattle.std.proofs.lemmas.Bool.Decides.{nat_tests}
use Rattle.memchr.specs.Find.{Nowhere, NoneBefore, Passes, is_byte}
use Rattle.sql_lex.specs.Bytes.{is_white}
use Rattle.sql_lex.specs.Classes.{begins_with_dash}
use Rattle.sql_lex.specs.Gaps.{is_gap_from}
use Rattle.sql_lex.specs.inner.Lexing.{after_gap}

-- no byte of the rest is found where none of the whole is
pub nowhere_behind : (test : ℕ → Bool) (b : ℕ) (bs : List ℕ) (n : ℕ) → Nowhere (Passes test (b ∷ bs)) 0 (suc n) → Nowhere (Passes test bs) 0 n
nowhere_behind test b bs n none = λ k low high passes. none (suc k) (omega arith) (omega arith) passes

pub not_here : (test : ℕ → Bool) (b : ℕ) (bs : List ℕ) (n : ℕ) → Nowhere (Passes test (b ∷ bs)) 0 (suc n) → test b ≡ false
not_here test b bs n none = false_from_ne_true (test b) (λ e. none 0 (omega arith) (omega arith) e)

-- a comment without an end of line
pub line_none : (text : List ℕ) → Nowhere (Passes (is_byte 10) text) 0 (length text) → after_gap true text ≡ []
line_none [] none = refl
line_none (b ∷ bs) none =
    let here : eqb b 10 ≡ false = not_here (is_byte 10) b bs (length bs) none in
    rw here (line_none bs (nowhere_behind (is_byte 10) b bs (length bs) none))

-- a comment to the end of its line
pub line_some : (text : List ℕ) (i : ℕ) → i < length text → Nowhere (Passes (is_byte 10) text) 0 i → Passes (is_byte 10) text i → after_gap true text ≡ after_gap false (drop (suc i) text)
line_some [] i within none here = absurd (omega arith)
line_some (b ∷ bs) zero within none here = let is : eqb b 10 ≡ true = here in rw is refl
line_some (b ∷ bs) (suc i) within none here =
    let other : eqb b 10 ≡ false = not_here (is_byte 10) b bs i none in
    rw other (line_some bs i (omega arith) (nowhere_behind (is_byte 10) b bs i none) here)

pub line_next : (text : List ℕ) (i : ℕ) → NoneBefore (Passes (is_byte 10) text) 0 (length text) i × Passes (is_byte 10) text i → after_gap true text ≡ after_gap false (drop (i + 1) text)
line_next text i found = line_some text i found.0.high found.0.before found.1 ∙ ap (λ (n : ℕ). after_gap false (drop n text)) (sym (add-one i))

pub after_gap-le : (inside : Bool) (text : List ℕ) → length (after_gap inside text) ≤ length text
after_gap-le inside [] = omega arith
after_gap-le true (b ∷ bs) = let below = after_gap-le (cond (eqb b 10) false true) bs in omega arith
after_gap-le false (b ∷ bs) =
    let in_comment = after_gap-le true bs in
    let in_white = after_gap-le false bs in
    cond_both (eqb b 45 && begins_with_dash bs) (after_gap true bs) (cond (is_white b) (after_gap false bs) (b ∷ bs)) (λ (x : List ℕ). length x ≤ suc (length bs)) (λ e. omega arith)
    (λ e. cond_both (is_white b) (after_gap false bs) (b ∷ bs) (λ (x : List ℕ). length x ≤ suc (length bs)) (λ w. omega arith) (λ w. omega arith))

white_no_dash : (b : ℕ) → is_white b ≡ true → eqb b 45 ≡ false
white_no_dash b e = grind (arith, nat_tests)

-- two dashes begin a comment, also where they end a gap
dash_again : (gap rest : List ℕ) → is_gap_from false true gap ≡ true → begins_with_dash (gap ++ rest) ≡ begins_with_dash gap
dash_again [] rest e = absurd cc
dash_again (g ∷ gs) rest e = refl

-- what was passed is a gap
pub record Passed (inside : Bool) (text rest : List ℕ) : Type 0 where
  pub gap : List ℕ
  pub whole : text ≡ gap ++ rest
  pub between : is_gap_from false inside gap ≡ true

same_head : (b c : ℕ) (bs cs : List ℕ) → b ∷ bs ≡ c ∷ cs → Passed false (b ∷ bs) (c ∷ cs)
same_head b c bs cs e = record { gap = []; whole = e; between = refl }

passed_white : (b : ℕ) (bs rest : List ℕ) → is_white b ≡ true → Passed false bs rest → Passed false (b ∷ bs) rest
passed_white b bs rest white p = record {
  gap = b ∷ p.gap;
  whole = ap (λ (x : List ℕ). b ∷ x) p.whole;
  between = rw (white_no_dash b white, white) p.between;
}

passed_dashes : (b : ℕ) (bs rest : List ℕ) → (eqb b 45 && begins_with_dash bs) ≡ true → Passed true bs rest → Passed false (b ∷ bs) rest
passed_dashes b bs rest dashes p =
    let again : begins_with_dash bs ≡ begins_with_dash p.gap = ap begins_with_dash p.whole ∙ dash_again p.gap rest p.between in
    let test : (eqb b 45 && begins_with_dash p.gap) ≡ true = ap (λ (t : Bool). eqb b 45 && t) (sym again) ∙ dashes in
    record { gap = b ∷ p.gap; whole = ap (λ (x : List ℕ). b ∷ x) p.whole; between = rw test p.between }

passed_inside : (b : ℕ) (bs rest : List ℕ) → Passed (cond (eqb b 10) false true) bs rest → Passed true (b ∷ bs) rest
passed_inside b bs rest p = record { gap = b ∷ p.gap; whole = ap (λ (x : List ℕ). b ∷ x) p.whole; between = p.between }

pub gap_takes : (inside : Bool) (text : List ℕ) (c : ℕ) (cs : List ℕ) → after_gap inside text ≡ c ∷ cs → Passed inside text (c ∷ cs)
gap_takes inside [] c cs e = absurd cc
gap_takes true (b ∷ bs) c cs e = passed_inside b bs (c ∷ cs) (gap_takes (cond (eqb b 10) false true) bs c cs e)
gap_takes false (b ∷ bs) c cs e =
    let P : List ℕ → Type 0 = λ x. x ≡ c ∷ cs → Passed false (b ∷ bs) (c ∷ cs) in
    cond_both (eqb b 45 && begins_with_dash bs) (after_gap true bs) (cond (is_white b) (after_gap false bs) (b ∷ bs)) P
    (λ d h. passed_dashes b bs (c ∷ cs) d (gap_takes true bs c cs h))
    (λ d. cond_both (is_white b) (after_gap false bs) (b ∷ bs) P (λ w h. passed_white b bs (c ∷ cs) w (gap_takes false bs c cs h)) (λ w h. same_head b c bs cs h)) e

pub last_takes : (inside : Bool) (text : List ℕ) → after_gap inside text ≡ [] → is_gap_from true inside text ≡ true
last_takes true [] e = refl
last_takes false [] e = refl
last_takes true (b ∷ bs) e = last_takes (cond (eqb b 10) false true) bs e
last_takes false (b ∷ bs) e =
    let P : List ℕ → Type 0 = λ x. x ≡ [] → is_gap_from true false (b ∷ bs) ≡ true in
    cond_both (eqb b 45 && begins_with_dash bs) (after_gap true bs) (cond (is_white b) (after_gap false bs) (b ∷ bs)) P
    (λ d h. rw d (last_takes true bs h))
    (λ d. cond_both (is_white b) (after_gap false bs) (b ∷ bs) P (λ w h. rw (d, w) (last_takes false bs h)) (λ w h. absurd cc)) e

-- a gap is passed, up to what begins none
pub gap_again : (inside : Bool) (gap rest : List ℕ) → is_gap_from false inside gap ≡ true → after_gap false rest ≡ rest → after_gap inside (gap ++ rest) ≡ rest
gap_again true [] rest between dark = absurd cc
gap_again false [] rest between dark = dark
gap_again true (b ∷ bs) rest between dark = gap_again (cond (eqb b 10) false true) bs rest between dark
gap_again false (b ∷ bs) rest between dark =
    let P : Bool → Type 0 = λ x. x ≡ true → after_gap false (b ∷ (bs ++ rest)) ≡ rest in
    cond_both (eqb b 45 && begins_with_dash bs) (is_gap_from false true bs) (is_white b && is_gap_from false false bs) P
    (λ d h. let test : (eqb b 45 && begins_with_dash (bs ++ rest)) ≡ true = ap (λ (t : Bool). eqb b 45 && t) (dash_again bs rest h) ∙ d in rw test (gap_again true bs rest h dark))
    (λ d h. let parts = and_parts (is_white b) (is_gap_from false false bs) h in rw (white_no_dash b parts.0, parts.0) (gap_again false bs rest parts.1 dark)) between

pub last_again : (inside : Bool) (text : List ℕ) → is_gap_from true inside text ≡ true → after_gap inside text ≡ []
last_again inside [] between = refl
last_again true (b ∷ bs) between = last_again (cond (eqb b 10) false true) bs between
last_again false (b ∷ bs) between =
    let P : Bool → Type 0 = λ x. x ≡ true → after_gap false (b ∷ bs) ≡ [] in
    cond_both (eqb b 45 && begins_with_dash bs) (is_gap_from true true bs) (is_white b && is_gap_from true false bs) P
    (λ d h. rw d (last_again true bs h))
    (λ d h. let parts = and_parts (is_white b) (is_gap_from true false bs) h in rw (white_no_dash b parts.0, parts.0) (last_again false bs parts.1)) between

-- a text that begins no gap
pub record Dark (b : ℕ) (bs : List ℕ) : Type 0 where
  pub white : is_white b ≡ false
  pub dashes : (eqb b 45 && begins_with_dash bs) ≡ false

pub dark_byte : (b : ℕ) (bs : List ℕ) → Dark b bs → after_gap false (b ∷ bs) ≡ b ∷ bs
dark_byte b bs dark = rw (dark.dashes, dark.white) refl

same_dark : (b c : ℕ) (bs cs : List ℕ) → b ∷ bs ≡ c ∷ cs → Dark b bs → Dark c cs
same_dark b c bs cs e dark =
    let heads : b ≡ c = cc in
    let tails : bs ≡ cs = cc in
    subst (λ (x : ℕ). Dark x cs) heads (subst (λ (x : List ℕ). Dark b x) tails dark)

-- what is left behind a gap begins none
pub left_dark : (inside : Bool) (text : List ℕ) (c : ℕ) (cs : List ℕ) → after_gap inside text ≡ c ∷ cs → Dark c cs
left_dark inside [] c cs e = absurd cc
left_dark true (b ∷ bs) c cs e = left_dark (cond (eqb b 10) false true) bs c cs e
left_dark false (b ∷ bs) c cs e =
    let P : List ℕ → Type 0 = λ x. x ≡ c ∷ cs → Dark c cs in
    cond_both (eqb b 45 && begins_with_dash bs) (after_gap true bs) (cond (is_white b) (after_gap false bs) (b ∷ bs)) P
    (λ d h. left_dark true bs c cs h)
    (λ d. cond_both (is_white b) (after_gap false bs) (b ∷ bs) P (λ w h. left_dark false bs c cs h) (λ w h. same_dark b c bs cs h (record { white = w; dashes = d }))) e
