-- Lists that are gathered from literals.
use Rattle.std.proofs.Common.{◌≡◌, ◌∙◌, sym, ap, refl, subst, ℕ, zero, suc, ◌<◌, ◌≤◌, ◌+◌, List, [], ◌∷◌, ◌++◌, length, drop, get_or, Some, inl, inr, arith}
use Rattle.std.specs.Prelude.{slice_get}
use Rattle.std.specs.List.{Contains}
use Rattle.std.proofs.lemmas.List.{append_assoc, append-nil, drop_more, drop_all}
use Rattle.std.proofs.lemmas.List.Elements.{Contains-append_left, Contains-append_right, Contains-append_cases}
use Rattle.sort_formula.specs.declared.formula.Atom.{Atom}
use Rattle.ground_theory.specs.declared.literal.Literal.{Literal}
use Rattle.ground_theory.specs.inner.Sifting.{gathered}

module _ {X : Type 0} (of : ℕ → Atom → List X) where
  -- one literal more
  pub gathered_more : (xs all new : List X) (literals : List Literal) (i : ℕ) (l d : Literal) → i < length literals → get_or literals i d ≡ l →
      xs ++ gathered of i (drop i literals) ≡ all → new ≡ xs ++ of i l.atom → new ++ gathered of (i + 1) (drop (i + 1) literals) ≡ all
  gathered_more xs all new literals i l d h is was next =
      let rest : List X = gathered of (i + 1) (drop (i + 1) literals) in
      let step : gathered of i (drop i literals) ≡ of i l.atom ++ rest =
      ap (gathered of i) (drop_more literals i d h ∙ ap (λ (x : Literal). x ∷ drop (i + 1) literals) is)
      ∙ ap (λ (n : ℕ). of i l.atom ++ gathered of n (drop (i + 1) literals)) (let e : suc i ≡ i + 1 = omega arith in e) in
      ap (λ (ys : List X). ys ++ rest) next ∙ (append_assoc xs (of i l.atom) rest ∙ (ap (λ (ys : List X). xs ++ ys) (sym step) ∙ was))

  -- all literals
  pub gathered_all : (xs all : List X) (literals : List Literal) (i : ℕ) → length literals ≤ i → xs ++ gathered of i (drop i literals) ≡ all → xs ≡ all
  gathered_all xs all literals i h was = sym (append-nil xs) ∙ (ap (λ (ls : List Literal). xs ++ gathered of i ls) (sym (drop_all i literals h)) ∙ was)

  -- what is in the list is told of a literal
  pub gathered_from : (literals : List Literal) (start : ℕ) (x : X) → Contains (gathered of start literals) x →
      (j : ℕ) × (l : Literal) × (slice_get literals j ≡ Some l) × Contains (of (start + j) l.atom) x
  gathered_from [] start x there = absurd (let h : there.0 < 0 = there.1 in omega arith)
  gathered_from (l ∷ ls) start x there = elim (Contains-append_cases (of start l.atom) (gathered of (suc start) ls) x there) [
    | inl here ↦ (zero, l, refl, subst (λ (n : ℕ). Contains (of n l.atom) x) (let e : start ≡ start + 0 = omega arith in e) here)
    | inr later ↦
        let rest = gathered_from ls (suc start) x later in
        (suc rest.0, rest.1, rest.2, subst (λ (n : ℕ). Contains (of n rest.1.atom) x) (let e : suc start + rest.0 ≡ start + suc rest.0 = omega arith in e) rest.3)
  ]

  -- what is told of a literal is in the list
  pub gathered_has : (literals : List Literal) (start j : ℕ) (l : Literal) (x : X) → slice_get literals j ≡ Some l → Contains (of (start + j) l.atom) x →
      Contains (gathered of start literals) x
  gathered_has [] start j l x at there = cc at
  gathered_has (m ∷ ms) start zero l x at there =
      let one : m ≡ l = cc at in
      Contains-append_left (of start m.atom) (gathered of (suc start) ms) x
      (subst (λ (k : Literal). Contains (of start k.atom) x) (sym one) (subst (λ (n : ℕ). Contains (of n l.atom) x) (let e : start + 0 ≡ start = omega arith in e) there))
  gathered_has (m ∷ ms) start (suc j) l x at there =
      Contains-append_right (of start m.atom) (gathered of (suc start) ms) x
      (gathered_has ms (suc start) j l x at (subst (λ (n : ℕ). Contains (of n l.atom) x) (let e : start + suc j ≡ suc start + j = omega arith in e) there))
