-- A full case that has the decided ways has all that follow.
use Rattle.std.proofs.Common.{◌≡◌, ◌∙◌, sym, ap, refl, subst, ℕ, ◌<◌, inl, inr, true, ◌&&◌, List, [], ◌∷◌, ◌++◌, length, take, arith}
use Rattle.std.proofs.lemmas.Bool.{and_from}
use Rattle.std.proofs.lemmas.Bool.Decides.{nat_tests}
use Rattle.std.proofs.lemmas.List.Folds.{list_all-append}
use Rattle.std.proofs.lemmas.Option.{slice_get_within}
use Rattle.std.specs.Prelude.{Some, nat_lt}
use Rattle.std.specs.List.{list_all}
use Rattle.ground_theory.specs.declared.literal.Clause.{Clause}
use Rattle.ground_theory.specs.declared.literal.Frame.{Frame}
use Rattle.ground_theory.specs.declared.literal.Guard.{Guard}
use Rattle.case_split.specs.Choices.{Choices, is_chosen, is_reached, is_way}
use Rattle.case_split.specs.Cases.{IsFullCase}
use Rattle.case_split.specs.Trails.{IsForced, IsTrail}
use Rattle.case_split.proofs.Closed.{among_passes, all_among_pass, choice_at, reached_earlier, chosen_is, way_of, if_true}
use Rattle.case_split.proofs.Places.{there}

module _ (clauses : List Clause) (frame : Frame) (full : Choices) (is : IsFullCase clauses frame full) where
  forced_chosen : (earlier : List Guard) (g : Guard) → list_all (is_chosen full) earlier ≡ true → IsForced clauses earlier g → is_chosen full g ≡ true
  forced_chosen earlier g has forced =
      let k : ℕ = g.clause in
      let c : Clause = forced.clause in
      let low : k < length full = subst (λ n. k < n) (sym is.full) (slice_get_within clauses k c forced.stands) in
      let x = there full k low in
      let reached : list_all (is_chosen full) c.guards ≡ true = all_among_pass (is_chosen full) earlier c.guards has forced.reached in
      let way = way_of c x.0
      (if_true (is_reached (take k full) c) (is_way c x.0) _ (reached_earlier full k c.guards reached forced.before) (choice_at [] clauses full k c x.0 is.case.legal forced.stands x.1)) in
      let count : length c.ways ≡ 1 = forced.one in
      let low' : nat_lt way.0 (length c.ways) ≡ true = way.2 in
      let zero' : way.0 ≡ 0 = grind (arith, nat_tests) in
      chosen_is full g.clause g.way way.0 (x.1 ∙ ap Some way.1) (forced.first ∙ sym zero')

  -- the whole trail
  pub trail_chosen : (decided earlier trail : List Guard) → list_all (is_chosen full) decided ≡ true → list_all (is_chosen full) earlier ≡ true → IsTrail clauses decided earlier trail →
      list_all (is_chosen full) trail ≡ true
  trail_chosen decided earlier [] has before is_trail = refl
  trail_chosen decided earlier (g ∷ gs) has before is_trail =
      let here : is_chosen full g ≡ true = elim is_trail.0 [ inl chosen ↦ among_passes (is_chosen full) decided g has chosen | inr forced ↦ forced_chosen earlier g before forced ] in
      and_from (is_chosen full g) (list_all (is_chosen full) gs) here
      (trail_chosen decided (earlier ++ g ∷ []) gs has
      (list_all-append (is_chosen full) earlier (g ∷ []) ∙ and_from (list_all (is_chosen full) earlier) (is_chosen full g && true) before (and_from (is_chosen full g) true here refl)) is_trail.1)
