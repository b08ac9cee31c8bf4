-- Loops and lists are read whole, where each part is.
use Rattle.std.proofs.Common.{ℕ, zero, suc, ◌+◌, ◌≤◌, ◌≡◌, refl, sym, Bool, true, false, List, [], ◌∷◌, ◌++◌, length, arith}
use Rattle.std.proofs.lemmas.List.{append_assoc, append-nil, length-append}
use Rattle.sql_lex.specs.declared.token.Sign.TheVariants.{Comma}
use Rattle.sql_lex.specs.declared.token.Kind.{Kind}
use Rattle.sql_lex.specs.declared.token.Token.{Token}
use Rattle.sql_parse.specs.grammar.Words.{sign}
use Rattle.sql_parse.specs.grammar.Lists.{SpellsMore, SpellsList}
use Rattle.sql_parse.specs.inner.readers.Tokens.{Read, found, and_then, is_comma, at_head, expect, read_while, read_parts, read_alone, read_after, read_separated}
use Rattle.sql_parse.proofs.CompleteTokens.{kind_rank, rank, no_comma}

-- what stands after a token is read after it
pub after_read : {A : Type 0} (test : Kind → Bool) (read : List Token → Read A) (t : Token) (tokens : List Token) (a : A) (rest : List Token) →
    test t.kind ≡ true → read tokens ≡ found a rest → read_after test read (t ∷ tokens) ≡ found a rest
unfolding read_after expect and_then
after_read test read t tokens a rest h e = rw (h, e) refl

-- the parts of a loop, with what follows them, are read by any clock that is more than their tokens
module _ {A : Type 0} (begins : List Token → Bool) (read : ℕ → List Token → Read (List A)) where
  abbrev pub Looped : ℕ → List A → List Token → List Token → Type 0
  Looped count parts tokens rest = (clock : ℕ) → suc (length tokens) ≤ clock → read_while begins read clock count (tokens ++ rest) ≡ found parts rest

  pub loop_end : (count : ℕ) (rest : List Token) → begins rest ≡ false → Looped count [] [] rest
  unfolding read_while
  loop_end count rest e zero h = absurd (omega arith)
  loop_end count rest e (suc clock) h = rw e refl

  more_while : (clock count : ℕ) (tokens more rest : List Token) (part parts : List A) → begins tokens ≡ true → read count tokens ≡ found part more →
      read_while begins read clock (count + length part) more ≡ found parts rest → read_while begins read (suc clock) count tokens ≡ found (part ++ parts) rest
  unfolding read_while and_then
  more_while clock count tokens more rest part parts b e f = rw (b, e, f) refl

  pub loop_more : (count : ℕ) (part parts : List A) (own more rest : List Token) → 1 ≤ length own → begins (own ++ (more ++ rest)) ≡ true →
      read count (own ++ (more ++ rest)) ≡ found part (more ++ rest) → Looped (count + length part) parts more rest → Looped count (part ++ parts) (own ++ more) rest
  loop_more count part parts own more rest some b e others zero h = absurd (omega arith)
  loop_more count part parts own more rest some b e others (suc clock) h =
      let shorter : suc (length more) ≤ clock = omega (arith, length-append own more) in
      rw (append_assoc own more rest) (more_while clock count (own ++ (more ++ rest)) (more ++ rest) rest part parts b e (others clock shorter))

  pub loop_whole : (count : ℕ) (parts : List A) (tokens rest : List Token) → Looped count parts tokens rest → read_parts begins read count (tokens ++ rest) ≡ found parts rest
  unfolding read_parts
  loop_whole count parts tokens rest e = e (suc (length (tokens ++ rest))) (omega (arith, length-append tokens rest))

pub alone_read : {A : Type 0} (read : List Token → Read A) (count : ℕ) (tokens : List Token) (a : A) (rest : List Token) → read tokens ≡ found a rest →
    read_alone read count tokens ≡ found (a ∷ []) rest
unfolding read_alone and_then
alone_read read count tokens a rest e = rw e refl

-- parts with such a token between them
module _ {A : Type 0} (test : Kind → Bool) (read : List Token → Read A) where
  -- those after the first
  abbrev pub Followed : List A → List Token → List Token → Type 0
  Followed parts tokens rest = (count : ℕ) → Looped (at_head test) (read_alone (read_after test read)) count parts tokens rest

  pub followed_none : (rest : List Token) → at_head test rest ≡ false → Followed [] [] rest
  followed_none rest e count = loop_end (at_head test) (read_alone (read_after test read)) count rest e

  pub followed_more : (t : Token) (part : A) (parts : List A) (own more rest : List Token) → test t.kind ≡ true → read (own ++ (more ++ rest)) ≡ found part (more ++ rest) →
      Followed parts more rest → Followed (part ∷ parts) (t ∷ own ++ more) rest
  unfolding at_head
  followed_more t part parts own more rest h e others count =
      loop_more (at_head test) (read_alone (read_after test read)) count (part ∷ []) parts (t ∷ own) more rest (omega arith) h
      (alone_read (read_after test read) count (t ∷ own ++ (more ++ rest)) part (more ++ rest) (after_read test read t (own ++ (more ++ rest)) part (more ++ rest) h e))
      (others (count + 1))

  -- with the first
  abbrev pub Separated : List A → List Token → List Token → Type 0
  Separated parts tokens rest =
      (part : A) × (others : List A) × (own : List Token) × (more : List Token) × (parts ≡ part ∷ others) × (tokens ≡ own ++ more)
      × (read (own ++ (more ++ rest)) ≡ found part (more ++ rest)) × Followed others more rest

  separated_step : (tokens more rest : List Token) (part : A) (others : List A) → read tokens ≡ found part (more ++ rest) → Followed others more rest →
      read_separated test read tokens ≡ found (part ∷ others) rest
  unfolding read_separated and_then
  separated_step tokens more rest part others e f = rw (e, loop_whole (at_head test) (read_alone (read_after test read)) 1 others more rest (f 1)) refl

  pub separated_read : (parts : List A) (tokens rest : List Token) → Separated parts tokens rest → read_separated test read (tokens ++ rest) ≡ found parts rest
  separated_read parts tokens rest s = rw (s.4, s.5, append_assoc s.2 s.3 rest) (separated_step (s.2 ++ (s.3 ++ rest)) s.3 rest s.0 s.1 s.6 s.7)

  -- one part alone
  pub separated_last : (part : A) (tokens rest : List Token) → read (tokens ++ rest) ≡ found part rest → at_head test rest ≡ false → Separated (part ∷ []) tokens rest
  separated_last part tokens rest e f = (part, [], tokens, [], refl, sym (append-nil tokens), e, followed_none rest f)

  -- a part before others
  pub separated_more : (t : Token) (part : A) (parts : List A) (own tokens rest : List Token) → test t.kind ≡ true → read (own ++ (t ∷ tokens ++ rest)) ≡ found part (t ∷ tokens ++ rest) →
      Separated parts tokens rest → Separated (part ∷ parts) (own ++ t ∷ tokens) rest
  separated_more t part parts own tokens rest h e s =
      (part, parts, own, t ∷ tokens, refl, refl, e, rw (s.4, s.5) (followed_more t s.0 s.1 s.2 s.3 rest h s.6 s.7))

-- a list with commas
module _ {A : Type 0} (Spells : A → List Token → Type 0) (read : List Token → Read A) (n : ℕ) (small : n ≤ 6) (limit : ℕ)
    (each : (a : A) (tokens : List Token) → Spells a tokens → length tokens ≤ limit → (rest : List Token) → n ≤ rank rest → read (tokens ++ rest) ≡ found a rest) where
  -- what follows a part
  more_rank : (parts : List A) (tokens : List Token) → SpellsMore Spells parts tokens → (rest : List Token) → 7 ≤ rank rest → n ≤ rank (tokens ++ rest)
  unfolding rank kind_rank
  more_rank [] tokens s rest r = rw s (omega arith)
  more_rank (part ∷ parts) tokens s rest r = rw s.3 small

  more_read : (parts : List A) (tokens : List Token) → SpellsMore Spells parts tokens → length tokens ≤ limit → (rest : List Token) → 7 ≤ rank rest →
      Followed is_comma read parts tokens rest
  unfolding is_comma
  more_read [] tokens s l rest r = rw s (followed_none is_comma read rest (no_comma rest r))
  more_read (part ∷ parts) tokens s l rest r =
      let sizes : length (sign Comma s.0 ∷ s.1 ++ s.2) ≤ limit = rw s.3 at l in
      let size = length-append s.1 s.2 in
      rw s.3
      (followed_more is_comma read (sign Comma s.0) part parts s.1 s.2 rest refl
      (each part s.1 s.4 (omega arith) (s.2 ++ rest) (more_rank parts s.2 s.5 rest r))
      (more_read parts s.2 s.5 (omega arith) rest r))

  pub list_read : (parts : List A) (tokens : List Token) → SpellsList Spells parts tokens → length tokens ≤ limit → (rest : List Token) → 7 ≤ rank rest →
      read_separated is_comma read (tokens ++ rest) ≡ found parts rest
  list_read [] tokens s l rest r = absurd s
  list_read (part ∷ parts) tokens s l rest r =
      let sizes : length (s.0 ++ s.1) ≤ limit = rw s.2 at l in
      let size = length-append s.0 s.1 in
      separated_read is_comma read (part ∷ parts) tokens rest
      (part, parts, s.0, s.1, refl, s.2, each part s.0 s.3 (omega arith) (s.1 ++ rest) (more_rank parts s.1 s.4 rest r), more_read parts s.1 s.4 (omega arith) rest r)
