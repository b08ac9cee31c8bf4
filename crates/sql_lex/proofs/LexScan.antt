-- The loop of the lexer, over plain variables.
use Rattle.std.proofs.Common.{◌≡◌, ◌≤◌, ◌<◌, ◌+◌, ◌-◌, ℕ, Bool, true, false, eqb, List, [], ◌∷◌, ◌++◌, length, take, drop, refl, sym, ap, subst, ◌∙◌, arith, append_assoc, length-append}
use Rattle.std.proofs.lemmas.Bool.{eqb-true}
use Rattle.std.proofs.lemmas.List.{length-drop, length-take-le, take-append-drop}
use Rattle.lint_base.specs.declared.place.Fault.{Fault}
use Rattle.sql_lex.specs.declared.token.Token.{Token}
use Rattle.sql_lex.specs.declared.token.Kind.{Kind}
use Rattle.sql_lex.specs.declared.found.Found.{Found}
use Rattle.sql_lex.specs.declared.found.Found.TheVariants.{Lexeme, Flaw}
use Rattle.sql_lex.specs.Tokens.{Begins, BeginsWith, Spells}
use Rattle.sql_lex.specs.Faults.{IsFaulty}
use Rattle.sql_lex.specs.inner.Lexing.{after_gap, first_found}
use Rattle.sql_lex.proofs.LexGaps.{after_gap-le, gap_takes, last_takes, left_dark}
use Rattle.sql_lex.proofs.LexFounds.{IsFound, IsLexeme, found_takes}

pub begins_more : (at : ℕ) (text : List ℕ) (tokens : List Token) (rest : List ℕ) (end : ℕ) (token : Token) (next : List ℕ) → BeginsWith at text tokens rest end → Begins end rest token next
    → BeginsWith at text (tokens ++ token ∷ []) next token.span.to
begins_more at text [] rest end token next (same, here) begins =
    (next, subst (λ (n : ℕ). Begins n text token next) (sym here) (subst (λ (x : List ℕ). Begins end x token next) (sym same) begins), (refl, refl))
begins_more at text (t ∷ ts) rest end token next (left, first, more) begins = (left, first, begins_more t.span.to left ts rest end token next more begins)

-- the tokens so far, and what is left up to the end of the part
pub record Reads (part : List ℕ) (from to : ℕ) (tokens : List Token) (rest : List ℕ) : Type 0 where
  pub begins : BeginsWith from part tokens rest (to - length rest)
  pub within : length rest ≤ to

abbrev pub token_of : Kind → ℕ → ℕ → Token
token_of k from len = record { kind = k; span = record { from = from; to = from + len } }

-- what was found behind the gap
pub front_found : (rest inner : List ℕ) (found : Found) → inner ≡ after_gap false rest → 0 < length inner → found ≡ first_found inner → IsFound inner found
front_found rest [] found e some is = absurd (omega arith)
front_found rest (b ∷ bs) found e some is = subst (IsFound (b ∷ bs)) (sym is) (found_takes b bs (left_dark false rest b bs (sym e)))

begins_here : (rest inner : List ℕ) (to : ℕ) (k : Kind) (len : ℕ) → length rest ≤ to → inner ≡ after_gap false rest → 0 < length inner → IsLexeme inner k len
    → Begins (to - length rest) rest (token_of k (to - length inner) len) (drop len inner)
begins_here rest [] to k len within e some is = absurd (omega arith)
begins_here rest (b ∷ bs) to k len within e some is =
    let passed = gap_takes false rest b bs (sym e) in
    let count : length rest ≡ length passed.gap + length (b ∷ bs) = ap length passed.whole ∙ length-append passed.gap (b ∷ bs) in
    let body : length (take len (b ∷ bs)) ≡ len = length-take-le len (b ∷ bs) is.within in
    record {
      gap = passed.gap;
      body = take len (b ∷ bs);
      whole = passed.whole ∙ ap (λ (x : List ℕ). passed.gap ++ x) (sym (take-append-drop len (b ∷ bs))) ∙ sym (append_assoc passed.gap (take len (b ∷ bs)) (drop len (b ∷ bs)));
      between = passed.between;
      spelled = is.spelled;
      longest = is.longest;
      from = omega arith;
      to = omega arith;
    }

pub scan_more : (part : List ℕ) (from to : ℕ) (tokens new : List Token) (rest inner : List ℕ) (k : Kind) (len : ℕ) → Reads part from to tokens rest → inner ≡ after_gap false rest → 0 < length inner → Lexeme k len ≡ first_found inner
    → new ≡ tokens ++ token_of k (to - length inner) len ∷ [] → Reads part from to new (drop len inner)
scan_more part from to tokens new rest inner k len reads e some is pushed =
    let found = front_found rest inner (Lexeme k len) e some is in
    let below : length inner ≤ length rest = subst (λ (x : List ℕ). length x ≤ length rest) (sym e) (after_gap-le false rest) in
    let begins = begins_more from part tokens rest (to - length rest) (token_of k (to - length inner) len) (drop len inner) reads.begins (begins_here rest inner to k len reads.within e some found) in
    let left = length-drop len inner in
    let inside = reads.within in
    let fits = found.within in
    let place : to - length inner + len ≡ to - length (drop len inner) = omega arith in
    record {
      begins = subst (λ (n : ℕ). BeginsWith from part new (drop len inner) n) place (subst (λ (x : List Token). BeginsWith from part x (drop len inner) (to - length inner + len)) (sym pushed) begins);
      within = omega arith;
    }

pub scan_ends : (part : List ℕ) (from to : ℕ) (tokens : List Token) (rest inner : List ℕ) → Reads part from to tokens rest → inner ≡ after_gap false rest → length inner ≡ 0 → Spells from part tokens
scan_ends part from to tokens rest [] reads e none = record { rest = rest; end = to - length rest; begins = reads.begins; last = last_takes false rest (sym e) }
scan_ends part from to tokens rest (b ∷ bs) reads e none = absurd (omega arith)

pub scan_stops : (part : List ℕ) (from to : ℕ) (tokens : List Token) (rest inner : List ℕ) (f : Fault) (len : ℕ) → Reads part from to tokens rest → inner ≡ after_gap false rest → 0 < length inner → Flaw f len ≡ first_found inner
    → IsFaulty from part (record { fault = f; span = record { from = to - length inner; to = to - length inner + len }; count = 0 })
scan_stops part from to tokens rest [] f len reads e some is = absurd (omega arith)
scan_stops part from to tokens rest (b ∷ bs) f len reads e some is =
    let passed = gap_takes false rest b bs (sym e) in
    let inside = reads.within in
    let count : length rest ≡ length passed.gap + length (b ∷ bs) = ap length passed.whole ∙ length-append passed.gap (b ∷ bs) in
    record {
      tokens = tokens;
      rest = rest;
      end = to - length rest;
      before = reads.begins;
      gap = passed.gap;
      from_fault = b ∷ bs;
      whole = passed.whole;
      between = passed.between;
      len = len;
      is_fault = (front_found rest (b ∷ bs) (Flaw f len) e some is).is_fault;
      from = omega arith;
      to = omega arith;
      count = refl;
    }

pub nonempty : (r : Bool) (xs : List ℕ) → r ≡ eqb (length xs) 0 → r ≡ false → 0 < length xs
nonempty r [] e f = let is : true ≡ false = sym e ∙ f in absurd cc
nonempty r (x ∷ xs) e f = omega arith

pub empty : (r : Bool) (xs : List ℕ) → r ≡ eqb (length xs) 0 → r ≡ true → length xs ≡ 0
empty r xs e t = eqb-true (length xs) 0 (sym e ∙ t)
