-- No full case stands before what a search has chosen.
use Rattle.std.proofs.Common.{◌≡◌, ◌∙◌, sym, ap, refl, subst, ℕ, ◌<◌, ◌≤◌, inl, inr, Bool, true, false, ◌||◌, List, [], ◌∷◌, length, take, arith}
use Rattle.std.proofs.lemmas.Bool.{and_parts, and_from, or_cases, or_left, or_right, eqb-true, cases_Bool, ltb-true}
use Rattle.std.proofs.lemmas.List.{length-take-le}
use Rattle.std.proofs.lemmas.Option.{same_Some}
use Rattle.std.specs.Prelude.{Option, Some, slice_get, nat_lt, nat_eq}
use Rattle.std.specs.List.{list_all}
use Rattle.std.specs.Option.{option_map_or}
use Rattle.ground_theory.specs.declared.literal.Clause.{Clause}
use Rattle.ground_theory.specs.declared.literal.Frame.{Frame}
use Rattle.ground_theory.specs.declared.literal.Guard.{Guard}
use Rattle.case_split.specs.declared.state.Entry.{Entry}
use Rattle.case_split.specs.Cases.{IsFullCase, NoFullCaseBefore}
use Rattle.case_split.specs.Choices.{Choices, is_chosen, is_less, stands_before}
use Rattle.case_split.specs.Trails.{IsForced}
use Rattle.case_split.specs.Trees.{is_same_guard, is_among}
use Rattle.case_split.specs.inner.Entries.{guard_of, guards_of, needed_of, choices_of, has_one_way, splits_before, IsEntry, AreEntries}
use Rattle.case_split.proofs.Closed.{among_passes, chosen_is}
use Rattle.case_split.proofs.Entries.{choices_length, needed_within, guards_chosen, entry_at}
use Rattle.case_split.proofs.Forcing.{trail_chosen}
use Rattle.case_split.proofs.Ordering.{taken_at, chosen_alike, chosen_first, first_difference}
use Rattle.case_split.proofs.Places.{there}
use Rattle.case_split.proofs.Refuting.{same_as_itself, all_from_among, within_all, takes_way}

less_than : (v w : ℕ) → is_less (Some v) (Some w) ≡ true → v < w
less_than v w less = ltb-true v w less

module _ (clauses : List Clause) (frame : Frame) where
  abbrev n : ℕ
  n = length clauses

  pub one_way : (k : ℕ) (c : Clause) → slice_get clauses k ≡ Some c → has_one_way clauses k ≡ true → length c.ways ≡ 1
  one_way k c at one = eqb-true (length c.ways) 1 (sym (ap (λ o. option_map_or (λ (c : Clause). nat_eq (length c.ways) 1) o false) at) ∙ one)

  forced_here : (full : Choices) → IsFullCase clauses frame full → (counted : List Choices) (marks : List Bool) (es : List Entry) (e : Entry) → IsEntry clauses frame counted marks es e →
      has_one_way clauses e.clause ≡ true → list_all (is_chosen full) (guards_of es) ≡ true → is_chosen full (guard_of e) ≡ true
  forced_here full is counted marks es e entry one has =
      let count : length entry.clause.ways ≡ 1 = one_way e.clause entry.clause entry.stands one in
      let low : e.way < length entry.clause.ways = entry.way in
      let first : e.way ≡ 0 = omega arith in
      let forced : IsForced clauses (guards_of es) (guard_of e) =
      record { clause = entry.clause; stands = entry.stands; one = count; first = first; reached = entry.reached; before = entry.before } in
      (and_parts (is_chosen full (guard_of e)) true (trail_chosen clauses frame full is [] (guards_of es) (guard_of e ∷ []) refl has (inr forced, tt))).0

  -- a full case that has what was taken of several ways has all that was taken
  has_all : (full : Choices) → IsFullCase clauses frame full → (counted : List Choices) (marks : List Bool) (es : List Entry) → AreEntries clauses frame counted marks es →
      list_all (λ (e : Entry). has_one_way clauses e.clause || is_chosen full (guard_of e)) es ≡ true → list_all (is_chosen full) (guards_of es) ≡ true
  has_all full is counted marks [] are splits = refl
  has_all full is counted marks (e ∷ es) are splits =
      let parts = and_parts (has_one_way clauses e.clause || is_chosen full (guard_of e)) (list_all (λ (e : Entry). has_one_way clauses e.clause || is_chosen full (guard_of e)) es) splits in
      let rest = has_all full is counted marks es are.1 parts.1 in
      and_from (is_chosen full (guard_of e)) (list_all (is_chosen full) (guards_of es))
      (elim (or_cases (has_one_way clauses e.clause) (is_chosen full (guard_of e)) parts.0) [
        | inl one ↦ forced_here full is counted marks es e are.0 one rest
        | inr chosen ↦ chosen
      ])
      rest

  splits_pass : (p : Guard → Bool) (j : ℕ) (es : List Entry) → splits_before clauses j es ≡ true → ((g : Guard) → is_among (guards_of es) g ≡ true → g.clause < j → p g ≡ true) →
      list_all (λ (e : Entry). has_one_way clauses e.clause || p (guard_of e)) es ≡ true
  splits_pass p j [] before each = refl
  splits_pass p j (e ∷ es) before each =
      let parts = and_parts (has_one_way clauses e.clause || nat_lt e.clause j) (splits_before clauses j es) before in
      and_from (has_one_way clauses e.clause || p (guard_of e)) (list_all (λ (e : Entry). has_one_way clauses e.clause || p (guard_of e)) es)
      (elim (or_cases (has_one_way clauses e.clause) (nat_lt e.clause j) parts.0) [
        | inl one ↦ or_left (has_one_way clauses e.clause) (p (guard_of e)) one
        | inr low ↦
            or_right (has_one_way clauses e.clause) (p (guard_of e))
            (each (guard_of e) (or_left (is_same_guard (guard_of e) (guard_of e)) (is_among (guards_of es) (guard_of e)) (same_as_itself (guard_of e))) (ltb-true e.clause j low))
      ])
      (splits_pass p j es parts.1 (λ g among. each g (or_right (is_same_guard g (guard_of e)) (is_among (guards_of es) g) among)))

  module _ (counted : List Choices) (marks : List Bool) (es : List Entry) (are : AreEntries clauses frame counted marks es) where
    -- a full case that begins as the choices do and then has a lesser way
    none_less : (k : ℕ) → k ≤ n → (full : Choices) → IsFullCase clauses frame full → stands_before full (take k (choices_of n es)) ≡ true → ⊥
    none_less k within full is less =
        let xs = choices_of n es in
        let size : length xs ≡ n = choices_length n es in
        let long : length (take k xs) ≡ k = length-take-le k xs (omega arith) in
        let full_long : length full ≡ n = is.full in
        let d = first_difference full (take k xs) less (omega arith) in
        let up = taken_at xs k d.place (Some d.way) d.there in
        let at = entry_at clauses frame counted marks es d.place d.way are up.0 in
        let e = at.entry in
        let c : Clause = at.is.clause in
        let same : e.clause ≡ d.place = at.clause_is in
        let alike : take e.clause full ≡ take e.clause (take k xs) = subst (λ j. take j full ≡ take j (take k xs)) (sym same) d.same in
        let low : e.clause < k = subst (λ j. j < k) (sym same) up.1 in
        let chosen = guards_chosen clauses frame counted marks es are in
        let passes_here : (g : Guard) → is_among (guards_of at.earlier) g ≡ true → g.clause < e.clause → is_chosen full g ≡ true =
        λ g among below.
        let here : is_chosen xs g ≡ true = among_passes (is_chosen xs) (guards_of es) g chosen (at.within g among) in
        chosen_alike full (take k xs) e.clause g alike below (chosen_first xs k g (omega arith) here)
        in
        let reached : list_all (is_chosen full) c.guards ≡ true =
        all_from_among (is_chosen full) c.guards
        (λ g among.
        passes_here g (among_passes (is_among (guards_of at.earlier)) c.guards g at.is.reached among)
        (ltb-true g.clause e.clause (among_passes (λ (h : Guard). nat_lt h.clause e.clause) c.guards g at.is.before among)))
        in
        let taken = takes_way clauses frame full is e.clause c at.is.stands reached at.is.before in
        let other : Some d.other ≡ Some (Some taken.0) = sym (subst (λ j. slice_get full j ≡ Some d.other) (sym same) d.differs) ∙ taken.1 in
        let lesser : taken.0 < d.way = less_than taken.0 d.way (subst (λ (y : Option ℕ). is_less y (Some d.way) ≡ true) (same_Some d.other (Some taken.0) other) d.less) in
        let way : e.way ≡ d.way = at.way_is in
        let many : length e.cases ≡ e.way = at.is.as_many in
        let t = there e.cases taken.0 (omega arith) in
        let has = has_all full is counted marks at.earlier at.are (splits_pass (is_chosen full) e.clause at.earlier at.is.above passes_here) in
        (at.is.closed taken.0 t.0 t.1).excludes full is
        (and_from (is_chosen full (record { clause = e.clause; way = taken.0 })) (list_all (is_chosen full) (needed_of marks at.earlier)) (chosen_is full e.clause taken.0 taken.0 taken.1 refl)
        (within_all (is_chosen full) (needed_of marks at.earlier) (guards_of at.earlier) (needed_within marks at.earlier) has))

    pub none_before : (k : ℕ) → k ≤ n → NoFullCaseBefore clauses frame (take k (choices_of n es))
    none_before k within full is = elim (cases_Bool (stands_before full (take k (choices_of n es)))) [
      | inl less ↦ absurd (none_less k within full is less)
      | inr not_less ↦ not_less
    ]
