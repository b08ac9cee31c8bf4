-- The literals of choices, and conflicts over them.
use Rattle.std.proofs.Common.{◌≡◌, ◌∙◌, sym, ap, refl, subst, ℕ, zero, suc, ◌+◌, ◌<◌, ◌≤◌, inl, inr, Bool, true, List, [], ◌∷◌, ◌++◌, length, take, arith, length-set}
use Rattle.std.proofs.lemmas.Bool.{and_parts, and_from, cases_eq}
use Rattle.std.proofs.lemmas.List.{length-take-le, length-append, append_assoc, append-nil}
use Rattle.std.proofs.lemmas.List.Folds.{list_all-append}
use Rattle.std.proofs.lemmas.Option.{option_and_then_some, same_Some, slice_get_within, slice_get_past}
use Rattle.std.specs.Prelude.{Option, Some, None, slice_get, slice_set, replicate, option_and_then, option_to_list}
use Rattle.std.specs.List.{list_all}
use Rattle.std.specs.Option.{option_map_or}
use Rattle.ground_theory.specs.declared.literal.Clause.{Clause}
use Rattle.ground_theory.specs.declared.literal.Frame.{Frame}
use Rattle.ground_theory.specs.declared.literal.Guard.{Guard}
use Rattle.ground_theory.specs.declared.literal.Literal.{Literal}
use Rattle.ground_theory.specs.Judgeable.{can_be_judged}
use Rattle.ground_theory.specs.Leaves.{is_right_leaf}
use Rattle.case_split.specs.declared.state.State.{State}
use Rattle.case_split.specs.declared.taking.Cited.{Cited}
use Rattle.case_split.specs.declared.taking.Taken.{Taken}
use Rattle.case_split.specs.declared.tree.CaseTree.{roll-CaseTree}
use Rattle.case_split.specs.declared.tree.CaseTree.TheOpen.{CaseTree-F}
use Rattle.case_split.specs.Choices.{Choices, is_chosen, literal_of, literal_chosen, literals_of}
use Rattle.case_split.specs.Fitting.{is_fit, are_fit}
use Rattle.case_split.specs.Trees.{literal_at, literals_at}
use Rattle.case_split.specs.inner.Entries.{mark_all, entries_of, needed_of, IsSearch, IsRefuted}
use Rattle.case_split.specs.inner.Steps.{IsPart, with_guard, AddsLiteral, IsTaken, IsCited}
use Rattle.case_split.proofs.Leaving.{more_needed}
use Rattle.case_split.proofs.Ordering.{set_same, set_other, get_replicate, take_next, chosen_way, way_chosen, chosen_whole, chosen_first}
use Rattle.case_split.proofs.Refuting.{all_then, leaf_refutes}

-- ---- literals that fit

one_fits : (p : Literal → Bool) (ways : List (Option Literal)) (w : ℕ) → list_all (λ o. option_map_or p o true) ways ≡ true →
    list_all p (option_map_or (λ l. l ∷ []) (option_and_then (λ l. l) (slice_get ways w)) []) ≡ true
one_fits p [] w all = refl
one_fits p (None ∷ os) zero all = refl
one_fits p (Some l ∷ os) zero all = and_from (p l) true (and_parts (p l) (list_all (λ o. option_map_or p o true) os) all).0 refl
one_fits p (o ∷ os) (suc w) all = one_fits p os w (and_parts (option_map_or p o true) (list_all (λ o. option_map_or p o true) os) all).1

chosen_fits : (p : Literal → Bool) (c : Clause) (x : Option ℕ) → list_all (λ o. option_map_or p o true) c.ways ≡ true → list_all p (literal_chosen c x) ≡ true
chosen_fits p c None all = refl
chosen_fits p c (Some w) all = one_fits p c.ways w all

pub literals_fit : (frame : Frame) (cs : List Clause) (xs : Choices) → are_fit frame cs ≡ true → list_all (can_be_judged frame) (literals_of cs xs) ≡ true
literals_fit frame [] [] fit = refl
literals_fit frame [] (x ∷ xs) fit = refl
literals_fit frame (c ∷ cs) [] fit = refl
literals_fit frame (c ∷ cs) (x ∷ xs) fit =
    let parts = and_parts (list_all (is_fit frame) c.ways) (are_fit frame cs) fit in
    list_all-append (can_be_judged frame) (literal_chosen c x) (literals_of cs xs) ∙
    and_from (list_all (can_be_judged frame) (literal_chosen c x)) (list_all (can_be_judged frame) (literals_of cs xs))
    (chosen_fits (can_be_judged frame) c x parts.0) (literals_fit frame cs xs parts.1)

one_length : (o : Option Literal) → length (option_map_or (λ (l : Literal). l ∷ []) o []) ≤ 1
one_length None = omega arith
one_length (Some l) = omega arith

pub literals_few : (cs : List Clause) (xs : Choices) → length (literals_of cs xs) ≤ length cs
literals_few [] [] = omega arith
literals_few [] (x ∷ xs) = omega arith
literals_few (c ∷ cs) [] = omega arith
literals_few (c ∷ cs) (x ∷ xs) =
    let rest = literals_few cs xs in
    let one : length (literal_chosen c x) ≤ 1 = one_length (option_and_then (literal_of c) x) in
    let size = length-append (literal_chosen c x) (literals_of cs xs) in
    omega arith

-- ---- one clause more

pub literals_none : (cs : List Clause) → literals_of cs [] ≡ []
literals_none [] = refl
literals_none (c ∷ cs) = refl

literals_next : (cs : List Clause) (xs : Choices) (c : Clause) (x : Option ℕ) → slice_get cs (length xs) ≡ Some c → literals_of cs (xs ++ x ∷ []) ≡ literals_of cs xs ++ literal_chosen c x
literals_next [] xs c x at = cc
literals_next (d ∷ ds) [] c x at =
    ap (λ ls. literal_chosen d x ++ ls) (literals_none ds) ∙ (append-nil (literal_chosen d x) ∙ ap (λ (d : Clause). literal_chosen d x) (same_Some d c at))
literals_next (d ∷ ds) (y ∷ ys) c x at =
    ap (λ ls. literal_chosen d y ++ ls) (literals_next ds ys c x at) ∙ sym (append_assoc (literal_chosen d y) (literals_of ds ys) (literal_chosen c x))

option_listed : (o : Option Literal) → option_map_or (λ (l : Literal). l ∷ []) o [] ≡ option_to_list o
option_listed None = refl
option_listed (Some l) = refl

guard_passes : (p : Guard → Bool) (o : Option Literal) (g : Guard) → p g ≡ true → list_all p (with_guard o g) ≡ true
guard_passes p None g is = refl
guard_passes p (Some l) g is = and_from (p g) true is refl

module _ (clauses : List Clause) (frame : Frame) where
  at_more : (gs : List Guard) (ls : List Literal) (g : Guard) (l : Literal) → literals_at clauses frame gs ≡ Some ls → literal_at clauses frame g ≡ Some l →
      literals_at clauses frame (gs ++ g ∷ []) ≡ Some (ls ++ l ∷ [])
  at_more [] ls g l all here =
      ap (λ o. option_and_then (λ (l : Literal). option_and_then (λ ls. Some (l ∷ ls)) (Some [])) o) here ∙ ap (λ (ls : List Literal). Some (ls ++ l ∷ [])) (same_Some [] ls all)
  at_more (h ∷ hs) ls g l all here =
      option_and_then_some (λ (m : Literal). option_and_then (λ ms. Some (m ∷ ms)) (literals_at clauses frame hs)) (literal_at clauses frame h) ls all
      (λ m first rest.
      option_and_then_some (λ ms. Some (m ∷ ms)) (literals_at clauses frame hs) ls rest
      (λ ms later same.
      ap (λ o. option_and_then (λ (m : Literal). option_and_then (λ ms. Some (m ∷ ms)) (literals_at clauses frame (hs ++ g ∷ []))) o) first ∙
      (ap (λ o. option_and_then (λ ms. Some (m ∷ ms)) o) (at_more hs ms g l later here) ∙ ap (λ (ns : List Literal). Some (ns ++ l ∷ [])) (same_Some (m ∷ ms) ls same))))

  at_and : (gs : List Guard) (ls : List Literal) (g : Guard) (o : Option Literal) → literals_at clauses frame gs ≡ Some ls → literal_at clauses frame g ≡ o →
      literals_at clauses frame (gs ++ with_guard o g) ≡ Some (ls ++ option_to_list o)
  at_and gs ls g None all here = ap (literals_at clauses frame) (append-nil gs) ∙ (all ∙ ap Some (sym (append-nil ls)))
  at_and gs ls g (Some l) all here = at_more gs ls g l all here

  -- a way without literal adds nothing
  pub adds_none : (taken : Taken) (number way : ℕ) (c : Clause) → slice_get clauses number ≡ Some c → literal_of c way ≡ None → AddsLiteral clauses frame taken taken number way
  adds_none taken number way c at none =
      let g : Guard = record { clause = number; way = way } in
      let here : literal_at clauses frame g ≡ None = ap (λ d. option_and_then (λ (clause : Clause). literal_of clause way) d) at ∙ none in
      record {
        literals = sym (append-nil taken.literals.items) ∙ ap (λ o. taken.literals.items ++ option_to_list o) (sym here);
        guards = sym (append-nil taken.guards) ∙ ap (λ o. taken.guards ++ with_guard o g) (sym here);
      }

  pub adds_past : (taken : Taken) (number way : ℕ) (c : Clause) → slice_get clauses number ≡ Some c → length c.ways ≤ way → AddsLiteral clauses frame taken taken number way
  adds_past taken number way c at past =
      adds_none taken number way c at (ap (λ o. option_and_then (λ (l : Option Literal). l) o) (slice_get_past c.ways way past))

  pub adds_empty : (taken : Taken) (number way : ℕ) (c : Clause) → slice_get clauses number ≡ Some c → slice_get c.ways way ≡ Some None → AddsLiteral clauses frame taken taken number way
  adds_empty taken number way c at none = adds_none taken number way c at (ap (λ o. option_and_then (λ (l : Option Literal). l) o) none)

  pub adds_one : (taken later : Taken) (number way : ℕ) (c : Clause) (l : Literal) → slice_get clauses number ≡ Some c → slice_get c.ways way ≡ Some (Some l) →
      later.literals.items ≡ taken.literals.items ++ l ∷ [] → later.guards ≡ taken.guards ++ record { clause = number; way = way } ∷ [] → AddsLiteral clauses frame taken later number way
  adds_one taken later number way c l at there literals guards =
      let g : Guard = record { clause = number; way = way } in
      let here : literal_at clauses frame g ≡ Some l =
      ap (λ d. option_and_then (λ (clause : Clause). literal_of clause way) d) at ∙ ap (λ o. option_and_then (λ (l : Option Literal). l) o) there in
      record {
        literals = literals ∙ ap (λ o. taken.literals.items ++ option_to_list o) (sym here);
        guards = guards ∙ ap (λ o. taken.guards ++ with_guard o g) (sym here);
      }

  pub taken_none : (chosen : Choices) (taken : Taken) → taken.literals.items ≡ [] → taken.guards ≡ [] → IsTaken clauses frame (take 0 chosen) taken
  taken_none chosen taken literals guards = record {
    literals = literals ∙ sym (literals_none clauses);
    guards = ap (literals_at clauses frame) guards ∙ ap Some (sym literals);
    among = ap (list_all (is_chosen (take 0 chosen))) guards;
  }

  chosen_more : (xs : Choices) (i j : ℕ) (g : Guard) → i ≤ j → is_chosen (take i xs) g ≡ true → is_chosen (take j xs) g ≡ true
  chosen_more xs i j g low here = let up = chosen_whole xs i g here in let low' = up.1 in chosen_first xs j g (omega arith) up.0

  pub taken_passed : (xs : Choices) (i : ℕ) (c : Clause) (taken : Taken) → IsTaken clauses frame (take i xs) taken → slice_get clauses i ≡ Some c → slice_get xs i ≡ Some None →
      IsTaken clauses frame (take (i + 1) xs) taken
  taken_passed xs i c taken is at none =
      let low = slice_get_within xs i None none in
      let long : length (take i xs) ≡ i = length-take-le i xs (omega arith) in
      let one : i + 1 ≡ suc i = omega arith in
      let next : take (i + 1) xs ≡ take i xs ++ None ∷ [] = ap (λ j. take j xs) one ∙ take_next xs i None none in
      record {
        literals = is.literals ∙ (sym (append-nil (literals_of clauses (take i xs))) ∙ (sym (literals_next clauses (take i xs) c None (ap (slice_get clauses) long ∙ at)) ∙ ap (literals_of clauses) (sym next)));
        guards = is.guards;
        among = all_then (is_chosen (take i xs)) (is_chosen (take (i + 1) xs)) (λ g here. chosen_more xs i (i + 1) g (omega arith) here) taken.guards is.among;
      }

  pub taken_more : (xs : Choices) (i w : ℕ) (c : Clause) (taken later : Taken) → IsTaken clauses frame (take i xs) taken → slice_get clauses i ≡ Some c → slice_get xs i ≡ Some (Some w) →
      AddsLiteral clauses frame taken later i w → IsTaken clauses frame (take (i + 1) xs) later
  taken_more xs i w c taken later is at chosen adds =
      let low = slice_get_within xs i (Some w) chosen in
      let long : length (take i xs) ≡ i = length-take-le i xs (omega arith) in
      let one : i + 1 ≡ suc i = omega arith in
      let next : take (i + 1) xs ≡ take i xs ++ Some w ∷ [] = ap (λ j. take j xs) one ∙ take_next xs i (Some w) chosen in
      let g : Guard = record { clause = i; way = w } in
      let o = literal_at clauses frame g in
      let here : o ≡ literal_of c w = ap (λ d. option_and_then (λ (clause : Clause). literal_of clause w) d) at in
      let literal : literal_chosen c (Some w) ≡ option_to_list o = option_listed (literal_of c w) ∙ ap option_to_list (sym here) in
      let whole : literals_of clauses (take (i + 1) xs) ≡ literals_of clauses (take i xs) ++ option_to_list o =
      ap (literals_of clauses) next ∙ (literals_next clauses (take i xs) c (Some w) (ap (slice_get clauses) long ∙ at) ∙ ap (λ ls. literals_of clauses (take i xs) ++ ls) literal) in
      let p = is_chosen (take (i + 1) xs) in
      let first : list_all p taken.guards ≡ true = all_then (is_chosen (take i xs)) p (λ g here. chosen_more xs i (i + 1) g (omega arith) here) taken.guards is.among in
      let now : p g ≡ true = way_chosen (take (i + 1) xs) g (chosen_way (take (i + 1) xs) g (chosen_first xs (i + 1) g (omega arith) (way_chosen xs g chosen))) in
      record {
        literals = adds.literals ∙ (ap (λ ls. ls ++ option_to_list o) is.literals ∙ sym whole);
        guards = ap (literals_at clauses frame) adds.guards ∙ (at_and taken.guards taken.literals.items g o is.guards refl ∙ ap Some (sym adds.literals));
        among = ap (list_all p) adds.guards ∙ (list_all-append p taken.guards (with_guard o g) ∙ and_from (list_all p taken.guards) (list_all p (with_guard o g)) first (guard_passes p o g now));
      }

  -- ---- conflicts

  pub cited_from : (part chosen : Choices) (taken : Taken) (cited : Cited) → IsTaken clauses frame part taken → IsPart part chosen → cited.guards ≡ taken.guards →
      is_right_leaf frame taken.literals.items cited.conflict.leaf ≡ true → IsCited clauses frame chosen cited
  cited_from part chosen taken cited is of_them same right = record {
    literals = taken.literals.items;
    guards = ap (literals_at clauses frame) same ∙ is.guards;
    among = ap (list_all (is_chosen chosen)) same ∙ all_then (is_chosen part) (is_chosen chosen) of_them taken.guards is.among;
    right = right;
  }

  pub clashes : (s t : State) (cited : Cited) → IsSearch clauses frame s (entries_of s) → IsCited clauses frame s.chosen.items cited →
      t.tried ≡ s.tried → t.chosen.items ≡ s.chosen.items → t.needed.items ≡ mark_all s.needed.items cited.guards → t.entries.items ≡ s.entries.items →
      IsRefuted clauses frame t (roll-CaseTree (CaseTree-F.Leaf cited.conflict cited.guards))
  clashes s t cited search is tried chosen needed entries =
      let more = more_needed clauses frame s t cited.guards search tried chosen needed entries is.among in
      (more.0, leaf_refutes clauses frame (needed_of t.needed.items (entries_of t)) cited.guards cited.conflict is.literals more.1 is.guards is.right)

-- ---- choices at guards

pub part_none : (n : ℕ) (xs : Choices) → IsPart (replicate n None) xs
part_none n xs g chosen = let no = get_replicate n g.clause None (Some g.way) (chosen_way (replicate n None) g chosen) in cc

pub part_set : (part xs : Choices) (j : ℕ) (x : Option ℕ) → IsPart part xs → slice_get xs j ≡ Some x → IsPart (slice_set part j x) xs
part_set part xs j x is at g chosen =
    let here = chosen_way (slice_set part j x) g chosen in
    elim (cases_eq g.clause j) [
      | inl same ↦
          let low : g.clause < length (slice_set part j x) = slice_get_within (slice_set part j x) g.clause (Some g.way) here in
          let low' : j < length part = let size = length-set part j x in omega arith in
          let back : slice_get (slice_set part j x) j ≡ Some (Some g.way) = subst (λ k. slice_get (slice_set part j x) k ≡ Some (Some g.way)) same here in
          let x_is : x ≡ Some g.way = same_Some x (Some g.way) (sym (set_same part j x low') ∙ back) in
          way_chosen xs g (ap (slice_get xs) same ∙ (at ∙ ap Some x_is))
      | inr other ↦ is g (way_chosen part g (sym (set_other part j g.clause x other) ∙ here))
    ]
