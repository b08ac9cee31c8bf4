-- What a reading finds has tokens of its own, before those that are left. The rules follow how readings are built.
use Rattle.std.proofs.Common.{ℕ, zero, suc, ◌+◌, ◌-◌, ◌≡◌, ◌⊎◌, refl, ap, sym, ◌∙◌, Bool, true, false, not, ◌&&◌, if◌then◌else◌, List, [], ◌∷◌, ◌++◌, length, Some, None, append_assoc, append-nil, length-append, true≢false, inl, inr, arith}
use Rattle.std.proofs.lemmas.Bool.{eqb-true}
use Rattle.std.proofs.lemmas.Slice.Eq.{bytes_eq-Decides}
use Rattle.std.proofs.Math.Seq.{take-append_seam}
use Rattle.std.specs.Str.{bytes_eq}
use Rattle.lint_base.specs.declared.place.Span.{Span}
use Rattle.sql_lex.specs.declared.token.Sign.TheVariants.{Open, Close, Comma, Dot, Semicolon, Star}
use Rattle.sql_lex.specs.declared.token.Kind.{Kind}
use Rattle.sql_lex.specs.declared.token.Kind.TheVariants.{Name, Reserved, Sign}
use Rattle.sql_lex.specs.declared.token.Token.{Token}
use Rattle.sql_parse.specs.grammar.Words.{word, called, sign, span_of}
use Rattle.sql_parse.specs.inner.readers.Tokens.{Read, found, and_then, is_word, is_open, is_close, is_comma, is_dot, is_semicolon, is_star, is_called, at_head, expect, place_before, read_while, read_parts, read_alone, read_after, read_separated, all_read}
use Rattle.sql_parse.proofs.Shorter.{Meets, meets_weaker}

-- what is found, by its tokens and those that are left
abbrev pub Finding : Type 0 → Type 1
Finding A = A → List Token → List Token → Type 0

pub record Sound {A : Type 0} (So : Finding A) (tokens : List Token) (f : Read A) : Type 0 where
  pub reads : Meets (λ a left. (own : List Token) × (tokens ≡ own ++ left) × So a own left) f

-- what is found has these tokens, whatever is left
abbrev pub Reads : {A : Type 0} → (A → List Token → Type 0) → List Token → Read A → Type 0
Reads Spells tokens f = Sound (λ a own left. Spells a own) tokens f

pub sound_weaker : {A : Type 0} {So Then : Finding A} {tokens : List Token} {f : Read A} → ((a : A) (own left : List Token) → So a own left → Then a own left) → Sound So tokens f → Sound Then tokens f
sound_weaker {A} {So} {Then} {tokens} {f} g h = record {
  reads =
      meets_weaker (λ a left. (own : List Token) × (tokens ≡ own ++ left) × So a own left) (λ a left. (own : List Token) × (tokens ≡ own ++ left) × Then a own left)
      (λ a left s. (s.0, s.1, g a s.0 left s.2)) f h.reads;
}

pub sound_none : {A : Type 0} {So : Finding A} {tokens : List Token} → Sound So tokens None
sound_none = record { reads = tt }

-- nothing of these tokens is read
pub sound_found : {A : Type 0} {So : Finding A} {tokens : List Token} {a : A} → So a [] tokens → Sound So tokens (found a tokens)
sound_found s = record { reads = ([], refl, s) }

-- the tokens of what is found come before those left
pub sound_then_from : {A B : Type 0} {So : Finding A} {Then : Finding B} {tokens : List Token} {f : Read A} {k : A → List Token → Read B} →
    Sound So tokens f → ((a : A) (own left : List Token) → tokens ≡ own ++ left → So a own left → Sound (λ b more after. Then b (own ++ more) after) left (k a left)) → Sound Then tokens (and_then f k)
unfolding and_then
sound_then_from {f = None} h g = sound_none
sound_then_from {A} {B} {So} {Then} {tokens} {f = Some r} {k} h g =
    let own = h.reads.0 in
    record {
      reads =
          meets_weaker (λ b after. (more : List Token) × (r.1 ≡ more ++ after) × Then b (own ++ more) after) (λ b after. (all : List Token) × (tokens ≡ all ++ after) × Then b all after)
          (λ b after s. (own ++ s.0, h.reads.1 ∙ ap (λ rest. own ++ rest) s.1 ∙ sym (append_assoc own s.0 after), s.2)) (k r.0 r.1) (g r.0 own r.1 h.reads.1 h.reads.2).reads;
    }

pub sound_then : {A B : Type 0} {So : Finding A} {Then : Finding B} {tokens : List Token} {f : Read A} {k : A → List Token → Read B} →
    Sound So tokens f → ((a : A) (own left : List Token) → So a own left → Sound (λ b more after. Then b (own ++ more) after) left (k a left)) → Sound Then tokens (and_then f k)
sound_then h g = sound_then_from h (λ a own left e s. g a own left s)

-- a first token that is read before
pub sound_first : {A : Type 0} {So : Finding A} (t : Token) {rest : List Token} {f : Read A} → Sound (λ a own left. So a (t ∷ own) left) rest f → Sound So (t ∷ rest) f
sound_first {A} {So} t {rest} {f} h = record {
  reads =
      meets_weaker (λ a left. (own : List Token) × (rest ≡ own ++ left) × So a (t ∷ own) left) (λ a left. (own : List Token) × (t ∷ rest ≡ own ++ left) × So a own left)
      (λ a left s. (t ∷ s.0, ap (λ others. t ∷ others) s.1, s.2)) f h.reads;
}

pub sound_if : {A : Type 0} {So : Finding A} {tokens : List Token} (b : Bool) {f g : Read A} → (b ≡ true → Sound So tokens f) → (b ≡ false → Sound So tokens g) → Sound So tokens (if b then f else g)
sound_if true h k = h refl
sound_if false h k = k refl

-- more is read by a reading of more
pub sound_last : {A B : Type 0} {So : Finding A} {Then : Finding B} {tokens : List Token} {f : Read A} (g : A → List Token → B) →
    Sound So tokens f → ((a : A) (own left : List Token) → So a own left → Then (g a left) own left) → Sound Then tokens (and_then f (λ a left. found (g a left) left))
unfolding and_then
sound_last {f = None} g h s = sound_none
sound_last {f = Some r} g h s = record { reads = (h.reads.0, h.reads.1, s r.0 h.reads.0 r.1 h.reads.2) }

pub sound_regroup : {A B C : Type 0} {So : Finding C} {tokens : List Token} (f : Read A) (g : A → List Token → Read B) (k : B → List Token → Read C) →
    Sound So tokens (and_then f (λ a rest. and_then (g a rest) k)) → Sound So tokens (and_then (and_then f g) k)
unfolding and_then
sound_regroup None g k h = h
sound_regroup (Some r) g k h = h

-- the tokens begin with those of what is found
pub sound_from : {A : Type 0} {So : Finding A} {tokens : List Token} {f : Read A} → Sound (λ a own left. tokens ≡ own ++ left → So a own left) tokens f → Sound So tokens f
sound_from {A} {So} {tokens} {f} h = record {
  reads =
      meets_weaker (λ a left. (own : List Token) × (tokens ≡ own ++ left) × (tokens ≡ own ++ left → So a own left)) (λ a left. (own : List Token) × (tokens ≡ own ++ left) × So a own left)
      (λ a left s. (s.0, s.1, s.2 s.1)) f h.reads;
}

-- the place of what is found
pub place_is : (tokens own left : List Token) → tokens ≡ own ++ left → place_before tokens left ≡ span_of own
unfolding place_before
place_is tokens own left e =
    let counted : length tokens - length left ≡ length own = omega (arith, ap length e, length-append own left) in
    rw (counted, e, take-append_seam own left) refl

pub sound_placed : {A : Type 0} {So : Finding A} {tokens : List Token} {f : Read A} → Sound (λ a own left. place_before tokens left ≡ span_of own → So a own left) tokens f → Sound So tokens f
sound_placed {tokens = tokens} h = sound_from (sound_weaker (λ a own left s w. s (place_is tokens own left w)) h)

-- a first token that is so
pub sound_token : {A : Type 0} {So : Finding A} (test : Kind → Bool) {k : Token → List Token → Read A} (tokens : List Token) →
    ((t : Token) (rest : List Token) → tokens ≡ t ∷ rest → test t.kind ≡ true → Sound (λ a own left. So a (t ∷ own) left) rest (k t rest)) → Sound So tokens (and_then (expect test tokens) k)
unfolding expect and_then
sound_token test [] g = sound_none
sound_token {A} {So} test {k} (t ∷ rest) g = tested (test t.kind) refl
  where
    tested : (b : Bool) → test t.kind ≡ b → Sound So (t ∷ rest) (and_then (if b then found t rest else None) k)
    tested true e = sound_first t (g t rest refl e)
    tested false e = sound_none

-- a first token that is so, where all is read again
pub sound_again : {A : Type 0} {So : Finding A} (test : Kind → Bool) {k : Token → List Token → Read A} (tokens : List Token) →
    ((t : Token) (rest : List Token) → tokens ≡ t ∷ rest → test t.kind ≡ true → Sound So tokens (k t rest)) → Sound So tokens (and_then (expect test tokens) k)
unfolding expect and_then
sound_again test [] g = sound_none
sound_again {A} {So} test {k} (t ∷ rest) g = tested (test t.kind) refl
  where
    tested : (b : Bool) → test t.kind ≡ b → Sound So (t ∷ rest) (and_then (if b then found t rest else None) k)
    tested true e = g t rest refl e
    tested false e = sound_none

-- what the tests tell
pub either : (a b : Bool) → (if a then true else b) ≡ true → (a ≡ true) ⊎ (b ≡ true)
either true b e = inl refl
either false b e = inr e

pub word_is : (place : ℕ) (k : Kind) → is_word place k ≡ true → k ≡ Reserved place
unfolding is_word
word_is place (Reserved p) e = ap Reserved (eqb-true p place e)
word_is place _ e = absurd (true≢false (sym e))

pub open_is : (k : Kind) → is_open k ≡ true → k ≡ Sign Open
unfolding is_open
open_is (Sign Open) e = refl
open_is _ e = absurd (true≢false (sym e))

pub close_is : (k : Kind) → is_close k ≡ true → k ≡ Sign Close
unfolding is_close
close_is (Sign Close) e = refl
close_is _ e = absurd (true≢false (sym e))

pub comma_is : (k : Kind) → is_comma k ≡ true → k ≡ Sign Comma
unfolding is_comma
comma_is (Sign Comma) e = refl
comma_is _ e = absurd (true≢false (sym e))

pub dot_is : (k : Kind) → is_dot k ≡ true → k ≡ Sign Dot
unfolding is_dot
dot_is (Sign Dot) e = refl
dot_is _ e = absurd (true≢false (sym e))

pub semicolon_is : (k : Kind) → is_semicolon k ≡ true → k ≡ Sign Semicolon
unfolding is_semicolon
semicolon_is (Sign Semicolon) e = refl
semicolon_is _ e = absurd (true≢false (sym e))

pub star_is : (k : Kind) → is_star k ≡ true → k ≡ Sign Star
unfolding is_star
star_is (Sign Star) e = refl
star_is _ e = absurd (true≢false (sym e))

both : (a b : Bool) → a && b ≡ true → (a ≡ true) × (b ≡ true)
both true b e = (refl, e)
both false b e = absurd (true≢false (sym e))

unquoted : (quoted : Bool) → not quoted ≡ true → quoted ≡ false
unquoted true e = absurd (true≢false (sym e))
unquoted false e = refl

pub called_is : (text : List ℕ) (k : Kind) → is_called text k ≡ true → k ≡ Name text false
unfolding is_called
called_is text (Name own quoted) e =
    let parts : (not quoted ≡ true) × (bytes_eq own text ≡ true) = both (not quoted) (bytes_eq own text) e in
    rw ((bytes_eq-Decides own text).0 parts.1, unquoted quoted parts.0) refl
called_is text _ e = absurd (true≢false (sym e))

-- a first token of this kind
sound_kind : {A : Type 0} {So : Finding A} {test : Kind → Bool} (k : Token → List Token → Read A) (kind : Kind) → ((other : Kind) → test other ≡ true → other ≡ kind) → (tokens : List Token) →
    ((at : Span) (rest : List Token) → tokens ≡ record { kind = kind; span = at } ∷ rest → Sound (λ a own left. So a (record { kind = kind; span = at } ∷ own) left) rest (k (record { kind = kind; span = at }) rest)) →
    Sound So tokens (and_then (expect test tokens) k)
sound_kind {A} {So} {test} k kind is tokens g = sound_token test tokens (λ t rest w e. of_kind t.kind t.span rest w (is t.kind e))
  where
    of_kind : (other : Kind) (at : Span) (rest : List Token) → tokens ≡ record { kind = other; span = at } ∷ rest → other ≡ kind →
        Sound (λ a own left. So a (record { kind = other; span = at } ∷ own) left) rest (k (record { kind = other; span = at }) rest)
    of_kind other at rest w e = rw e (g at rest (rw e at w))

module _ {A : Type 0} {So : Finding A} {tokens : List Token} (k : Token → List Token → Read A) where
  pub sound_word : (place : ℕ) → ((at : Span) (rest : List Token) → Sound (λ a own left. So a (word place at ∷ own) left) rest (k (word place at) rest)) → Sound So tokens (and_then (expect (is_word place) tokens) k)
  sound_word place g = sound_kind k (Reserved place) (word_is place) tokens (λ at rest w. g at rest)

  pub sound_called : (text : List ℕ) → ((at : Span) (rest : List Token) → Sound (λ a own left. So a (called text at ∷ own) left) rest (k (called text at) rest)) → Sound So tokens (and_then (expect (is_called text) tokens) k)
  sound_called text g = sound_kind k (Name text false) (called_is text) tokens (λ at rest w. g at rest)

  pub sound_open : ((at : Span) (rest : List Token) → Sound (λ a own left. So a (sign Open at ∷ own) left) rest (k (sign Open at) rest)) → Sound So tokens (and_then (expect is_open tokens) k)
  sound_open g = sound_kind k (Sign Open) open_is tokens (λ at rest w. g at rest)

  pub sound_close : ((at : Span) (rest : List Token) → Sound (λ a own left. So a (sign Close at ∷ own) left) rest (k (sign Close at) rest)) → Sound So tokens (and_then (expect is_close tokens) k)
  sound_close g = sound_kind k (Sign Close) close_is tokens (λ at rest w. g at rest)

  pub sound_comma : ((at : Span) (rest : List Token) → Sound (λ a own left. So a (sign Comma at ∷ own) left) rest (k (sign Comma at) rest)) → Sound So tokens (and_then (expect is_comma tokens) k)
  sound_comma g = sound_kind k (Sign Comma) comma_is tokens (λ at rest w. g at rest)

  pub sound_dot : ((at : Span) (rest : List Token) → tokens ≡ sign Dot at ∷ rest → Sound (λ a own left. So a (sign Dot at ∷ own) left) rest (k (sign Dot at) rest)) → Sound So tokens (and_then (expect is_dot tokens) k)
  sound_dot g = sound_kind k (Sign Dot) dot_is tokens g

  pub sound_semicolon : ((at : Span) (rest : List Token) → Sound (λ a own left. So a (sign Semicolon at ∷ own) left) rest (k (sign Semicolon at) rest)) → Sound So tokens (and_then (expect is_semicolon tokens) k)
  sound_semicolon g = sound_kind k (Sign Semicolon) semicolon_is tokens (λ at rest w. g at rest)

  pub sound_star : ((at : Span) (rest : List Token) → Sound (λ a own left. So a (sign Star at ∷ own) left) rest (k (sign Star at) rest)) → Sound So tokens (and_then (expect is_star tokens) k)
  sound_star g = sound_kind k (Sign Star) star_is tokens (λ at rest w. g at rest)

-- parts as long as the tokens begin so
module _ {A : Type 0} (begins : List Token → Bool) (read : ℕ → List Token → Read (List A)) (Part All : ℕ → List A → List Token → Type 0)
    (each : (count : ℕ) (tokens : List Token) → Reads (Part count) tokens (read count tokens))
    (none : (count : ℕ) → All count [] [])
    (more : (count : ℕ) (part parts : List A) (own rest : List Token) → Part count part own → All (count + length part) parts rest → All count (part ++ parts) (own ++ rest)) where
  while_sound : (clock count : ℕ) (tokens : List Token) → Reads (All count) tokens (read_while begins read clock count tokens)
  unfolding read_while
  while_sound zero count tokens = sound_none
  while_sound (suc clock) count tokens =
      sound_if _ (λ e. sound_then (each count tokens) (λ part own left s. sound_last _ (while_sound clock (count + length part) left) (λ parts rest after t. more count part parts own rest s t)))
      (λ e. sound_found (none count))

  pub parts_sound : (count : ℕ) (tokens : List Token) → Reads (All count) tokens (read_parts begins read count tokens)
  unfolding read_parts
  parts_sound count tokens = while_sound (suc (length tokens)) count tokens

-- parts with tokens of one kind between them
module _ {A : Type 0} (test : Kind → Bool) (kind : Kind) (is : (other : Kind) → test other ≡ true → other ≡ kind) (read : List Token → Read A) (Spells : A → List Token → Type 0)
    (each : (tokens : List Token) → Reads Spells tokens (read tokens)) (More Whole : List A → List Token → Type 0)
    (none : More [] [])
    (more : (at : Span) (part : A) (parts : List A) (own rest : List Token) → Spells part own → More parts rest → More (part ∷ parts) (record { kind = kind; span = at } ∷ own ++ rest))
    (whole : (part : A) (parts : List A) (own rest : List Token) → Spells part own → More parts rest → Whole (part ∷ parts) (own ++ rest)) where
  -- a joint and a part
  abbrev Joint : List A → List Token → Type 0
  Joint parts tokens = (at : Span) × (part : A) × (own : List Token) × (parts ≡ part ∷ []) × (tokens ≡ record { kind = kind; span = at } ∷ own) × Spells part own

  joint_sound : (count : ℕ) (tokens : List Token) → Reads Joint tokens (read_alone (read_after test read) count tokens)
  unfolding read_alone read_after
  joint_sound count tokens = sound_regroup _ _ _ (sound_kind _ kind is tokens (λ at rest w. sound_last _ (each rest) (λ part own left s. (at, part, own, refl, refl, s))))

  one_more : (count : ℕ) (part parts : List A) (own rest : List Token) → Joint part own → More parts rest → More (part ++ parts) (own ++ rest)
  one_more count part parts own rest j m = rw (j.3, j.4) (more j.0 j.1 parts j.2 rest j.5 m)

  pub separated_sound : (tokens : List Token) → Reads Whole tokens (read_separated test read tokens)
  unfolding read_separated
  separated_sound tokens =
      sound_then (each tokens) (λ part own left s. sound_last _ (parts_sound (at_head test) (read_alone (read_after test read)) (λ count. Joint) (λ count. More) joint_sound (λ count. none) one_more 1 left)
      (λ parts rest after m. whole part parts own rest s m))

-- where all is read
pub all_sound : {A : Type 0} {Spells : A → List Token → Type 0} (tokens : List Token) (f : Read A) → Reads Spells tokens f → (a : A) → all_read f ≡ Some a → Spells a tokens
unfolding all_read
all_sound tokens None h a e = absurd (cc)
all_sound {A} {Spells} tokens (Some (b, [])) h a e =
    let same : b ≡ a = cc in
    rw (← same) (rw (h.reads.1, append-nil h.reads.0) h.reads.2)
all_sound tokens (Some (b, t ∷ rest)) h a e = absurd (cc)
