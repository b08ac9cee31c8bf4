-- Reading parts with such a token between them one after the other, as a loop does.
use Rattle.std.proofs.Common.{Result, Ok, Err, ◌≡◌, ℕ, zero, suc, ◌+◌, ◌≤◌, ◌<◌, Bool, true, false, if◌then◌else◌, List, [], ◌∷◌, ◌++◌, length, Some, None, refl, sym, ap, ◌∙◌, append_assoc, arith}
use Rattle.std.proofs.lemmas.List.{append-nil, length-append}
use Rattle.std.specs.Prelude.{IfOk}
use Rattle.std.specs.Borrow.{Bor}
use Rattle.sql_lex.specs.declared.token.Kind.{Kind}
use Rattle.sql_lex.specs.declared.token.Token.{Token}
use Rattle.sql_parse.specs.declared.front.ParseStop.{ParseStop}
use Rattle.sql_parse.specs.declared.front.ParseStop.TheVariants as stops
use Rattle.sql_parse.specs.inner.readers.Tokens.{Read, found, and_then, at_head, expect, read_while, read_parts, read_alone, read_after, read_separated}
use Rattle.sql_parse.specs.inner.readers.Gives.{Stops, Gives}
use Rattle.sql_parse.proofs.Shorter.{Shorter, expect_shorter}

-- what was read before, and what is still read
abbrev pub with_front : {A : Type 0} → List A → Read (List A) → Read (List A)
with_front front more = and_then more (λ parts after. found (front ++ parts) after)

regroup : {A : Type 0} (front : List A) (a : A) (more : Read (List A)) → with_front front (and_then more (λ parts after. found (a ∷ parts) after)) ≡ with_front (front ++ a ∷ []) more
unfolding and_then
regroup front a None = refl
regroup front a (Some r) = ap (λ (parts : List _). found parts r.1) (sym (append_assoc front (a ∷ []) r.0))

module _ {A : Type 0} (test : Kind → Bool) (read : List Token → Read A) where
  -- the parts after a first one
  abbrev more : ℕ → List Token → Read (List A)
  more = read_parts (at_head test) (read_alone (read_after test read))

  abbrev while : ℕ → ℕ → List Token → Read (List A)
  while = read_while (at_head test) (read_alone (read_after test read))

  pub after_one : (tokens rest : List Token) (t : Token) (more : Read A) → expect test tokens ≡ found t rest → read rest ≡ more → read_after test read tokens ≡ more
  unfolding read_after and_then
  after_one tokens rest t more e h = rw e h

  alone_found : (count : ℕ) (tokens rest : List Token) (a : A) → read_after test read tokens ≡ found a rest → read_alone (read_after test read) count tokens ≡ found (a ∷ []) rest
  unfolding read_alone and_then
  alone_found count tokens rest a e = rw e refl

  alone_none : (count : ℕ) (tokens : List Token) → read_after test read tokens ≡ None → read_alone (read_after test read) count tokens ≡ None
  unfolding read_alone and_then
  alone_none count tokens e = rw e refl

  while_goes_on : (clock count : ℕ) (tokens rest : List Token) (a : A) → at_head test tokens ≡ true → read_after test read tokens ≡ found a rest
      → while (suc clock) count tokens ≡ and_then (while clock (count + 1) rest) (λ parts after. found (a ∷ parts) after)
  unfolding read_while and_then
  while_goes_on clock count tokens rest a head e = rw (head, alone_found count tokens rest a e) refl

  while_stops : (clock count : ℕ) (tokens : List Token) → at_head test tokens ≡ true → read_after test read tokens ≡ None → while (suc clock) count tokens ≡ None
  unfolding read_while and_then
  while_stops clock count tokens head e = rw (head, alone_none count tokens e) refl

  while_ends : (clock count : ℕ) (tokens : List Token) → at_head test tokens ≡ false → while (suc clock) count tokens ≡ found [] tokens
  unfolding read_while
  while_ends clock count tokens head = rw head refl

  after_shorter : Shorter read → Shorter (read_after test read)
  unfolding read_after and_then expect
  after_shorter short [] a rest e = absurd cc
  after_shorter short (t ∷ tokens) a rest e =
      elim (test t.kind) as (λ b. and_then (if b then found t tokens else None) (λ u left. read left) ≡ found a rest → suc (length rest) ≤ suc (length tokens)) [
        | true ↦ λ h. let k = short tokens a rest h in omega arith
        | false ↦ λ h. absurd cc
      ] e

  -- the clock is long enough
  same_clock : Shorter read → (clock other count : ℕ) (tokens : List Token) → suc (length tokens) ≤ clock → suc (length tokens) ≤ other → while clock count tokens ≡ while other count tokens
  same_clock short zero other count tokens l m = absurd (omega arith)
  same_clock short (suc clock) zero count tokens l m = absurd (omega arith)
  same_clock short (suc clock) (suc other) count tokens l m =
      elim (at_head test tokens) as (λ b. at_head test tokens ≡ b → while (suc clock) count tokens ≡ while (suc other) count tokens) [
        | false ↦ λ head. while_ends clock count tokens head ∙ sym (while_ends other count tokens head)
        | true ↦ λ head.
            elim (read_after test read tokens) as (λ o. read_after test read tokens ≡ o → while (suc clock) count tokens ≡ while (suc other) count tokens) [
              | None ↦ λ e. while_stops clock count tokens head e ∙ sym (while_stops other count tokens head e)
              | Some r ↦ λ e.
                  let less = after_shorter short tokens r.0 r.1 e in
                  let same = same_clock short clock other (count + 1) r.1 (omega arith) (omega arith) in
                  while_goes_on clock count tokens r.1 r.0 head e ∙ ap (λ (m : Read (List A)). and_then m (λ parts after. found (r.0 ∷ parts) after)) same ∙ sym (while_goes_on other count tokens r.1 r.0 head e)
            ] refl
      ] refl

  more_goes_on : Shorter read → (count : ℕ) (tokens rest : List Token) (a : A) → at_head test tokens ≡ true → read_after test read tokens ≡ found a rest
      → more count tokens ≡ and_then (more (count + 1) rest) (λ parts after. found (a ∷ parts) after)
  unfolding read_parts
  more_goes_on short count tokens rest a head e =
      let less = after_shorter short tokens a rest e in
      while_goes_on (length tokens) count tokens rest a head e
      ∙ ap (λ (m : Read (List A)). and_then m (λ parts after. found (a ∷ parts) after)) (same_clock short (length tokens) (suc (length rest)) (count + 1) rest less (omega arith))

  -- what the loop keeps: the parts so far and those that are still read are all of them
  unfoldable pub gathered : List A → List Token → Read (List A)
  gathered so_far rest = with_front so_far (more (length so_far) rest)

  pub gathered_start : (none one : List A) (tokens rest : List Token) (a : A) → read tokens ≡ found a rest → none ≡ [] → one ≡ none ++ a ∷ [] → gathered one rest ≡ read_separated test read tokens
  unfolding gathered read_separated and_then
  gathered_start none one tokens rest a e empty is = rw (e, is, empty) refl

  pub gathered_step : Shorter read → (so_far longer : List A) (tokens after rest : List Token) (t : Token) (a : A) → at_head test tokens ≡ true → expect test tokens ≡ found t after → read after ≡ found a rest
      → longer ≡ so_far ++ a ∷ [] → gathered longer rest ≡ gathered so_far tokens
  unfolding gathered
  gathered_step short so_far longer tokens after rest t a head e h is =
      let one = more_goes_on short (length so_far) tokens rest a head (after_one tokens after t (found a rest) e h) in
      let count : length longer ≡ length so_far + 1 = ap (length {A = A}) is ∙ length-append so_far (a ∷ []) in
      ap (λ (n : ℕ). with_front longer (more n rest)) count ∙ ap (λ (front : List A). with_front front (more (length so_far + 1) rest)) is
      ∙ sym (regroup so_far a (more (length so_far + 1) rest)) ∙ ap (with_front so_far) (sym one)

  pub gathered_end : (so_far : List A) (tokens : List Token) → at_head test tokens ≡ false → gathered so_far tokens ≡ found so_far tokens
  unfolding gathered and_then read_parts
  gathered_end so_far tokens head = rw (while_ends (length tokens) (length so_far) tokens head) (ap (λ (parts : List A). found parts tokens) (append-nil so_far))

  pub gathered_smaller : Shorter read → (tokens after rest : List Token) (t : Token) (a : A) → expect test tokens ≡ found t after → read after ≡ found a rest → length rest < length tokens
  gathered_smaller short tokens after rest t a e h =
      let one = expect_shorter test tokens t after e in
      let two = short after a rest h in
      omega arith

  -- where the first part is not read, and where another one is not
  pub stops_first : (stop : ParseStop) (tokens : List Token) → Stops (read tokens) stop → Stops (read_separated test read tokens) stop
  unfolding read_separated and_then
  stops_first stops.NoMemory tokens e = tt
  stops_first (stops.Syntax left) tokens e = rw e refl

  pub stops_later : (stop : ParseStop) (so_far : List A) (tokens after : List Token) (t : Token) → at_head test tokens ≡ true → expect test tokens ≡ found t after → Stops (read after) stop → Stops (gathered so_far tokens) stop
  unfolding gathered and_then read_parts
  stops_later stops.NoMemory so_far tokens after t head e h = tt
  stops_later (stops.Syntax left) so_far tokens after t head e h =
      rw (while_stops (length tokens) (length so_far) tokens head (after_one tokens after t None e h)) refl

pub ruleset separated_rules = (gathered_start, gathered_step, gathered_end, gathered_smaller, stops_first, stops_later)

-- what gives a reading that takes tokens takes tokens
pub gives_shorter : {A : Type 0} (read : List Token → Read A) → Shorter read → (tokens : List Token) (r : Result (A × Bor (List Token)) ParseStop) → Gives (read tokens) r → IfOk r (λ x. length x.1.now < length tokens)
gives_shorter read short tokens (Ok x) given = short tokens x.0 x.1.now given
gives_shorter read short tokens (Err e) given = tt
