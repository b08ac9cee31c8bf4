-- Reading part after part, as the loops over parts that are lists do.
use Rattle.std.proofs.Common.{◌≡◌, ℕ, ◌+◌, Bool, true, false, List, [], ◌++◌, length, Some, None, refl, sym, ap, ◌∙◌, append_assoc}
use Rattle.std.proofs.lemmas.List.{append-nil, length-append}
use Rattle.sql_lex.specs.declared.token.Token.{Token}
use Rattle.sql_parse.specs.declared.front.ParseStop.{ParseStop}
use Rattle.sql_parse.specs.declared.front.ParseStop.TheVariants as stop
use Rattle.sql_parse.specs.inner.readers.Tokens.{Read, found, and_then, read_parts}
use Rattle.sql_parse.specs.inner.readers.Gives.{Stops}
use Rattle.sql_parse.proofs.Shorter.{Below, parts_step, parts_end}

pub then_then : {A B C : Type 0} (f : Read A) (k : A → List Token → Read B) (m : B → List Token → Read C) → and_then (and_then f k) m ≡ and_then f (λ a rest. and_then (k a rest) m)
unfolding and_then
then_then None k m = refl
then_then (Some r) k m = refl

module _ {A B : Type 0} (begins : List Token → Bool) (read : ℕ → List Token → Read (List A)) (k : List A → List Token → Read B) where
  -- what is read of the rest, after so many parts, and then of what follows all parts
  abbrev pub from_here : List A → ℕ → List Token → Read B
  from_here so_far count rest = and_then (read_parts begins read count rest) (λ parts after. k (so_far ++ parts) after)

  -- the first of the other parts was read
  joined : (so_far : List A) (f : Read (List A)) (next : List A → ℕ → List Token → Read (List A)) (count : ℕ) (part : List A) (left : List Token) → f ≡ found part left →
      and_then (and_then f (λ part left. and_then (next part count left) (λ parts after. found (part ++ parts) after))) (λ parts after. k (so_far ++ parts) after)
      ≡ and_then (next part count left) (λ parts after. k (so_far ++ (part ++ parts)) after)
  unfolding and_then
  joined so_far f next count part left e = rw e (then_then (next part count left) (λ parts after. found (part ++ parts) after) (λ parts after. k (so_far ++ parts) after))

  regrouped : (so_far part : List A) (f : Read (List A)) →
      and_then f (λ parts after. k (so_far ++ (part ++ parts)) after) ≡ and_then f (λ parts after. k ((so_far ++ part) ++ parts) after)
  unfolding and_then
  regrouped so_far part None = refl
  regrouped so_far part (Some r) = rw (append_assoc so_far part r.0) refl

  module _ (shorter : (count : ℕ) (tokens : List Token) → Below (length tokens) (read count tokens)) where
    pub goes_on : (so_far part : List A) (count : ℕ) (rest left : List Token) → begins rest ≡ true → read count rest ≡ found part left →
        from_here so_far count rest ≡ from_here (so_far ++ part) (count + length part) left
    goes_on so_far part count rest left b e =
        ap (λ (f : Read (List A)). and_then f (λ parts after. k (so_far ++ parts) after)) (parts_step begins read shorter count rest b)
        ∙ joined so_far (read count rest) (λ part count left. read_parts begins read (count + length part) left) count part left e
        ∙ regrouped so_far part (read_parts begins read (count + length part) left)

    pub stops : (stop : ParseStop) (so_far : List A) (count : ℕ) (rest : List Token) → begins rest ≡ true → Stops (read count rest) stop → Stops (from_here so_far count rest) stop
    unfolding and_then
    stops (stop.Syntax n) so_far count rest b e =
        ap (λ (f : Read (List A)). and_then f (λ parts after. k (so_far ++ parts) after)) (parts_step begins read shorter count rest b) ∙ rw e refl
    stops stop.NoMemory so_far count rest b e = tt

  pub ends : (so_far : List A) (count : ℕ) (rest : List Token) → begins rest ≡ false → from_here so_far count rest ≡ k so_far rest
  unfolding and_then
  ends so_far count rest b =
      ap (λ (f : Read (List A)). and_then f (λ parts after. k (so_far ++ parts) after)) (parts_end begins read count rest b) ∙ rw (append-nil so_far) refl

-- what is read of the rest, after these parts
abbrev pub collected : {A : Type 0} → (List Token → Bool) → (ℕ → List Token → Read (List A)) → List A → List Token → Read (List A)
collected begins read so_far rest = from_here begins read (λ parts after. found parts after) so_far (length so_far) rest

then_found : {A : Type 0} (f : Read A) → and_then f (λ a rest. found a rest) ≡ f
unfolding and_then
then_found None = refl
then_found (Some r) = refl

pub collected_start : {A : Type 0} (begins : List Token → Bool) (read : ℕ → List Token → Read (List A)) (none : List A) (tokens : List Token) → none ≡ [] → collected begins read none tokens ≡ read_parts begins read 0 tokens
collected_start begins read none tokens e = ap (λ so_far. collected begins read so_far tokens) e ∙ then_found (read_parts begins read 0 tokens)

pub collected_step : {A : Type 0} (begins : List Token → Bool) (read : ℕ → List Token → Read (List A)) → ((count : ℕ) (tokens : List Token) → Below (length tokens) (read count tokens)) →
    (so_far longer part : List A) (rest left : List Token) → begins rest ≡ true → read (length so_far) rest ≡ found part left → longer ≡ so_far ++ part →
    collected begins read longer left ≡ collected begins read so_far rest
collected_step begins read shorter so_far longer part rest left b e is =
    let count : length longer ≡ length so_far + length part = ap length is ∙ length-append so_far part in
    ap (λ n. from_here begins read (λ parts after. found parts after) longer n left) count
    ∙ ap (λ parts. from_here begins read (λ parts after. found parts after) parts (length so_far + length part) left) is
    ∙ sym (goes_on begins read (λ parts after. found parts after) shorter so_far part (length so_far) rest left b e)

pub stops_whole : {A : Type 0} (stop : ParseStop) (f g : Read A) → f ≡ g → Stops f stop → Stops g stop
stops_whole (stop.Syntax n) f g e h = sym e ∙ h
stops_whole stop.NoMemory f g e h = tt
