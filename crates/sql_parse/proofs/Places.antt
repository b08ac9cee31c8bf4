-- The place of a token among others.
use Rattle.std.specs.Option.{option_map_or}
use Rattle.std.specs.List.{slice_get}
use Rattle.std.proofs.lemmas.Option.{slice_get_cases}
use Rattle.std.proofs.Common.{◌≡◌, ℕ, suc, ◌-◌, ◌<◌, ◌≤◌, List, ◌∷◌, ◌++◌, length, take, drop, get_or, refl, sym, ap, ◌∙◌, inl, inr, arith}
use Rattle.std.proofs.lemmas.List.{take-append-drop, length-take-le}
use Rattle.std.proofs.Math.Seq.{drop-cons}
use Rattle.lint_base.specs.declared.place.Fault.TheVariants.{Long}
use Rattle.sql_lex.specs.declared.token.Token.{Token}
use Rattle.sql_parse.specs.Refusals.{IsPlace, IsNoQuery, long}
use Rattle.sql_parse.specs.inner.readers.Stopped.{end_place, stopped_at}

-- the tokens before a token, and those from it on
pub split_at : (tokens : List Token) (i : ℕ) (t : Token) → i < length tokens → t ≡ get_or tokens i t → tokens ≡ take i tokens ++ t ∷ drop (suc i) tokens
split_at tokens i t within is =
    let rest : drop i tokens ≡ t ∷ drop (suc i) tokens = drop-cons tokens i t within ∙ ap (λ (x : Token). x ∷ drop (suc i) tokens) (sym is) in
    sym (take-append-drop i tokens) ∙ ap (λ (x : List Token). take i tokens ++ x) rest

pub some_place : (tokens : List Token) (i : ℕ) (t : Token) → i < length tokens → t ≡ get_or tokens i t → IsPlace tokens t.span
some_place tokens i t within is = inl (take i tokens, t, drop (suc i) tokens, split_at tokens i t within is, refl)

pub is_long : (tokens : List Token) (t : Token) → 4096 < length tokens → t ≡ get_or tokens 4096 t → IsNoQuery tokens (record { fault = Long; span = t.span; count = length tokens })
is_long tokens t within is = let few : 4096 ≤ length tokens = omega arith in long (take 4096 tokens) t (drop 4097 tokens) (split_at tokens 4096 t within is) (length-take-le 4096 tokens few) refl

place_at : (tokens : List Token) (i : ℕ) → IsPlace tokens (option_map_or (λ t. t.span) (slice_get tokens i) (end_place tokens))
place_at tokens i =
    elim (slice_get_cases tokens i).1 [
      | inl w ↦ rw w.2 (some_place tokens i w.0 w.1 (sym w.3))
      | inr w ↦ rw w.1 (inr refl)
    ]

-- where a reading stopped is the place of some token, or the empty one behind the last
pub stopped_place : (tokens : List Token) (left : ℕ) → IsPlace tokens (stopped_at tokens left)
stopped_place tokens left = place_at tokens (length tokens - left)
