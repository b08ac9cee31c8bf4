-- Every text has its tokens or a first fault: reading goes on until one of the two is there.
use Rattle.std.proofs.Common.{◌≡◌, ◌≤◌, ◌<◌, ◌+◌, ◌-◌, ◌⊎◌, inl, inr, ℕ, zero, suc, false, List, [], ◌∷◌, ◌++◌, length, drop, refl, sym, subst, arith}
use Rattle.std.proofs.lemmas.List.{length-drop}
use Rattle.lint_base.specs.declared.place.Refusal.{Refusal}
use Rattle.sql_lex.specs.declared.token.Token.{Token}
use Rattle.sql_lex.specs.declared.found.Found.{Found}
use Rattle.sql_lex.specs.declared.found.Found.TheVariants.{Lexeme, Flaw}
use Rattle.sql_lex.specs.Tokens.{Spells}
use Rattle.sql_lex.specs.Faults.{IsFaulty}
use Rattle.sql_lex.specs.inner.Lexing.{after_gap, first_found}
use Rattle.sql_lex.proofs.LexGaps.{after_gap-le}
use Rattle.sql_lex.proofs.LexScan.{Reads, token_of, front_found, scan_more, scan_ends, scan_stops}

abbrev pub Lexed : ℕ → List ℕ → Type 0
Lexed at text = ((tokens : List Token) × Spells at text tokens) ⊎ ((refusal : Refusal) × IsFaulty at text refusal)

-- the text stands between these places
module _ (text : List ℕ) (at to : ℕ) where
  -- whatever is left of less than this is lexed
  abbrev GoesOn : List ℕ → Type 0
  GoesOn rest = (tokens : List Token) (left : List ℕ) → length left < length rest → Reads text at to tokens left → Lexed at text

  lexed_found : (tokens : List Token) (rest inner : List ℕ) (found : Found) → Reads text at to tokens rest → inner ≡ after_gap false rest → 0 < length inner → found ≡ first_found inner → GoesOn rest → Lexed at text
  lexed_found tokens rest inner (Lexeme k len) reads e some is on =
      let found = front_found rest inner (Lexeme k len) e some is in
      let below : length inner ≤ length rest = subst (λ (x : List ℕ). length x ≤ length rest) (sym e) (after_gap-le false rest) in
      let bytes = found.some in
      let within = found.within in
      let left = length-drop len inner in
      on (tokens ++ token_of k (to - length inner) len ∷ []) (drop len inner) (omega arith) (scan_more text at to tokens _ rest inner k len reads e some is refl)
  lexed_found tokens rest inner (Flaw f len) reads e some is on = inr (_, scan_stops text at to tokens rest inner f len reads e some is)

  lexed_behind : (tokens : List Token) (rest inner : List ℕ) → Reads text at to tokens rest → inner ≡ after_gap false rest → GoesOn rest → Lexed at text
  lexed_behind tokens rest [] reads e on = inl (tokens, scan_ends text at to tokens rest [] reads e refl)
  lexed_behind tokens rest (b ∷ bs) reads e on = lexed_found tokens rest (b ∷ bs) (first_found (b ∷ bs)) reads e (omega arith) refl on

  -- by how much may be left
  lexed_rest : (most : ℕ) (tokens : List Token) (rest : List ℕ) → length rest < most → Reads text at to tokens rest → Lexed at text
  lexed_rest zero tokens rest short reads = absurd (omega arith)
  lexed_rest (suc most) tokens rest short reads =
      lexed_behind tokens rest (after_gap false rest) reads refl (λ more left less further. lexed_rest most more left (omega arith) further)

pub every_lexed : (at : ℕ) (text : List ℕ) → Lexed at text
every_lexed at text =
    let to : ℕ = at + length text in
    lexed_rest text at to (suc (length text)) [] text (omega arith) (record { begins = (refl, omega arith); within = omega arith })
