-- What literals that can be judged name is there.
use Rattle.std.proofs.Common.{◌≡◌, ◌∙◌, sym, ap, refl, subst, ℕ, suc, ◌<◌, ◌≤◌, ◌+◌, Bool, true, false, ◌&&◌, List, [], ◌∷◌, ◌++◌, length, arith}
use Rattle.std.specs.Prelude.{Some, slice_get, nat_eq}
use Rattle.std.specs.Option.{option_map_or}
use Rattle.std.specs.List.{Contains, list_all}
use Rattle.std.proofs.lemmas.Bool.{and_parts, and_from}
use Rattle.std.proofs.lemmas.List.{length-append}
use Rattle.std.proofs.lemmas.List.Elements.{Contains-get_or}
use Rattle.std.proofs.lemmas.Option.{slice_get_within}
use Rattle.lint_base.proofs.Lists.{all_at}
use Rattle.sort_formula.specs.declared.formula.Atom.{Atom}
use Rattle.sort_formula.specs.declared.formula.Atom.TheVariants as atom
use Rattle.ground_theory.specs.declared.joining.Join.{Join}
use Rattle.ground_theory.specs.declared.literal.Frame.{Frame}
use Rattle.ground_theory.specs.declared.literal.Literal.{Literal}
use Rattle.ground_theory.specs.Fitting.{fits, all_fit, are_moderate, is_moderate, are_of_one_table, has_domains}
use Rattle.ground_theory.specs.Judgeable.{is_frame, is_named_right, can_be_judged}
use Rattle.ground_theory.specs.inner.Joining.{AreJoined, AreSames, join_at}
use Rattle.ground_theory.specs.inner.Paths.{AreRooted}
use Rattle.ground_theory.specs.inner.Sifting.{gathered, same_of, other_of}
use Rattle.ground_theory.proofs.Bounds.{one_table}
use Rattle.ground_theory.proofs.Gathering.{gathered_from}
use Rattle.ground_theory.proofs.Moving.{passes}
use Rattle.ground_theory.proofs.Stating.{only, nothing}

all_then : {A : Type 0} (p q : A → Bool) → ((x : A) → p x ≡ true → q x ≡ true) → (xs : List A) → list_all p xs ≡ true → list_all q xs ≡ true
all_then p q leads [] all = refl
all_then p q leads (x ∷ xs) all = let parts = and_parts (p x) (list_all p xs) all in and_from (q x) (list_all q xs) (leads x parts.0) (all_then p q leads xs parts.1)

-- rows of one table are there
pub rows_there : (frame : Frame) (row other : ℕ) → are_of_one_table frame row other ≡ true → (row < length frame.tables) × (other < length frame.tables)
rows_there frame row other one =
    let t = passes (λ t. option_map_or (nat_eq t) (slice_get frame.tables other) false) (slice_get frame.tables row) one in
    (slice_get_within frame.tables row t.0 t.1, slice_get_within frame.tables other t.0 (sym (one_table frame row other one) ∙ t.1))

pub domains_there : (frame : Frame) → is_frame frame ≡ true → has_domains frame ≡ true
domains_there frame is = (and_parts (has_domains frame) _ is).0

module _ (frame : Frame) (literals : List Literal) (judged : list_all (can_be_judged frame) literals ≡ true) where
  parts : (l : Literal) → can_be_judged frame l ≡ true → (is_named_right frame l.atom ≡ true) × (fits frame l.atom ≡ true) × (is_moderate l.atom ≡ true)
  parts l is =
      let first = and_parts (is_named_right frame l.atom) (fits frame l.atom && is_moderate l.atom) is in
      let second = and_parts (fits frame l.atom) (is_moderate l.atom) first.1 in
      (first.0, second.0, second.1)

  pub fit : all_fit frame literals ≡ true
  fit = all_then (can_be_judged frame) (λ (l : Literal). fits frame l.atom) (λ l is. (parts l is).1) literals judged

  pub moderate : are_moderate literals ≡ true
  moderate = all_then (can_be_judged frame) (λ (l : Literal). is_moderate l.atom) (λ l is. (parts l is).2) literals judged

  at : (k : ℕ) (l : Literal) → slice_get literals k ≡ Some l → can_be_judged frame l ≡ true
  at k l there = all_at (can_be_judged frame) literals k l judged there

  -- what a same says
  pub same_from : (j : Join) → Contains (gathered same_of 0 literals) j → (l : Literal) × (slice_get literals j.fact ≡ Some l) × (l.atom ≡ atom.Same j.row j.other)
  same_from j there =
      let from = gathered_from same_of literals 0 j there in
      go from.0 from.1 from.1.atom refl from.2 (subst (λ (n : ℕ). Contains (same_of n from.1.atom) j) (let e : 0 + from.0 ≡ from.0 = omega arith in e) from.3)
    where
      go : (k : ℕ) (l : Literal) (x : Atom) → l.atom ≡ x → slice_get literals k ≡ Some l → Contains (same_of k x) j → (l : Literal) × (slice_get literals j.fact ≡ Some l) × (l.atom ≡ atom.Same j.row j.other)
      go k l (atom.Same row other) is listed told =
          let one = only (record { fact = k; row = row; other = other }) j told in
          (l, ap (λ (j : Join). slice_get literals j.fact) (sym one) ∙ listed, is ∙ ap (λ (j : Join). atom.Same j.row j.other) one)
      go k l (atom.Other row other) is listed told = absurd (nothing j told)
      go k l (atom.IsNull row column) is listed told = absurd (nothing j told)
      go k l (atom.NotNull row column) is listed told = absurd (nothing j told)
      go k l (atom.Le left right most) is listed told = absurd (nothing j told)
      go k l (atom.TextEq left right) is listed told = absurd (nothing j told)
      go k l (atom.TextNe left right) is listed told = absurd (nothing j told)

  pub sames_within : (sames : List Join) → sames ≡ gathered same_of 0 literals → AreSames (length frame.tables) sames
  sames_within sames are k h =
      let j : Join = join_at sames k in
      let there : Contains sames j = Contains-get_or sames k (record { fact = 0; row = 0; other = 0 }) h in
      let from = same_from j (subst (λ (js : List Join). Contains js j) are there) in
      rows_there frame j.row j.other (ap (fits frame) (sym from.2) ∙ (parts from.0 (at j.fact from.0 from.1)).1)

  -- each join is a literal
  pub joins_rooted : (rows : ℕ) (sames : List Join) → sames ≡ gathered same_of 0 literals → (labels : List ℕ) (joins : List Join) → AreJoined rows sames labels joins → AreRooted literals joins
  joins_rooted rows sames are labels joins joined k h =
      let listed = joined.from k h in
      let j : Join = join_at joins k in
      let none : Join = record { fact = 0; row = 0; other = 0 } in
      let there : Contains sames (join_at sames listed.0) = Contains-get_or sames listed.0 none listed.1 in
      same_from j (subst (λ (js : List Join). Contains js j) are (subst (Contains sames) listed.2 there))

-- ---- rows that differ, and how many bounds there are

module _ (frame : Frame) (literals : List Literal) (judged : list_all (can_be_judged frame) literals ≡ true) where
  -- what an other says
  pub other_from : (j : Join) → Contains (gathered other_of 0 literals) j → (l : Literal) × (slice_get literals j.fact ≡ Some l) × (l.atom ≡ atom.Other j.row j.other)
  other_from j there =
      let from = gathered_from other_of literals 0 j there in
      go from.0 from.1 from.1.atom refl from.2 (subst (λ (n : ℕ). Contains (other_of n from.1.atom) j) (let e : 0 + from.0 ≡ from.0 = omega arith in e) from.3)
    where
      go : (k : ℕ) (l : Literal) (x : Atom) → l.atom ≡ x → slice_get literals k ≡ Some l → Contains (other_of k x) j → (l : Literal) × (slice_get literals j.fact ≡ Some l) × (l.atom ≡ atom.Other j.row j.other)
      go k l (atom.Other row other) is listed told =
          let one = only (record { fact = k; row = row; other = other }) j told in
          (l, ap (λ (j : Join). slice_get literals j.fact) (sym one) ∙ listed, is ∙ ap (λ (j : Join). atom.Other j.row j.other) one)
      go k l (atom.Same row other) is listed told = absurd (nothing j told)
      go k l (atom.IsNull row column) is listed told = absurd (nothing j told)
      go k l (atom.NotNull row column) is listed told = absurd (nothing j told)
      go k l (atom.Le left right most) is listed told = absurd (nothing j told)
      go k l (atom.TextEq left right) is listed told = absurd (nothing j told)
      go k l (atom.TextNe left right) is listed told = absurd (nothing j told)

  pub others_within : (others : List Join) → others ≡ gathered other_of 0 literals → AreSames (length frame.tables) others
  others_within others are k h =
      let j : Join = join_at others k in
      let there : Contains others j = Contains-get_or others k (record { fact = 0; row = 0; other = 0 }) h in
      let from = other_from j (subst (λ (js : List Join). Contains js j) are there) in
      let can : can_be_judged frame from.0 ≡ true = all_at (can_be_judged frame) literals j.fact from.0 judged from.1 in
      let first = and_parts (is_named_right frame from.0.atom) (fits frame from.0.atom && is_moderate from.0.atom) can in
      rows_there frame j.row j.other (ap (is_named_right frame) (sym from.2) ∙ first.0)

-- no more of a kind than literals, where each says at most one
pub gathered_few : {X : Type 0} (of : ℕ → Atom → List X) → ((n : ℕ) (a : Atom) → length (of n a) ≤ 1) → (literals : List Literal) (start : ℕ) → length (gathered of start literals) ≤ length literals
gathered_few of few [] start = omega arith
gathered_few of few (l ∷ ls) start =
    let here = few start l.atom in
    let rest = gathered_few of few ls (suc start) in
    let size : length (of start l.atom ++ gathered of (suc start) ls) ≡ length (of start l.atom) + length (gathered of (suc start) ls) = length-append (of start l.atom) (gathered of (suc start) ls) in
    omega arith
