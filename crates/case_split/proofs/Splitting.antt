-- Coming to a split: one more counted case.
use Rattle.std.proofs.Common.{◌≡◌, ◌∙◌, sym, ap, refl, subst, ℕ, zero, suc, ◌+◌, ◌<◌, ◌≤◌, inl, inr, Bool, true, false, ◌||◌, List, [], ◌∷◌, ◌++◌, length, take, reverse, arith}
use Rattle.std.proofs.lemmas.Bool.{and_parts, and_from, or_cases, or_right, cases_Bool, lt-ltb, ltb-true}
use Rattle.std.proofs.lemmas.List.{length-take-le, length-append, take-set, take-set-le}
use Rattle.std.proofs.lemmas.List.Folds.{list_all-append}
use Rattle.std.proofs.lemmas.Option.{slice_get_within}
use Rattle.std.proofs.Math.Seq.{take-length}
use Rattle.std.specs.Prelude.{Option, Some, None, slice_get, slice_set, nat_lt, replicate}
use Rattle.std.specs.List.{list_all, AllByRecursion}
use Rattle.ground_theory.specs.declared.literal.Clause.{Clause}
use Rattle.ground_theory.specs.declared.literal.Frame.{Frame}
use Rattle.ground_theory.specs.declared.literal.Literal.{Literal}
use Rattle.ground_theory.specs.Assignments.{HasAssignment, satisfies}
use Rattle.ground_theory.specs.Judging.{Settles}
use Rattle.case_split.specs.declared.state.Entry.{Entry}
use Rattle.case_split.specs.declared.state.State.{State}
use Rattle.case_split.specs.declared.tree.Branch.{Branch}
use Rattle.case_split.specs.Answers.{IsFirst, HasSpent}
use Rattle.case_split.specs.Cases.{IsCase, IsCounted, NoFullCaseBefore}
use Rattle.case_split.specs.Choices.{Choices, is_reached, are_choices, literal_chosen, literals_of, stands_before}
use Rattle.case_split.specs.inner.Entries.{choices_of, has_one_way, splits_before, AllBefore, IsSplit, IsEntry, AreEntries, HasEntries, entries_of, IsReady, IsFork}
use Rattle.case_split.proofs.Counting.{counted_here}
use Rattle.case_split.proofs.Entries.{choices_length, splits_more}
use Rattle.case_split.proofs.Firsts.{one_way, none_before}
use Rattle.case_split.proofs.Ordering.{set_same, set_other, take_next, before_longer, before_first, before_more, all_before, ascending_more, choices_more}
use Rattle.case_split.proofs.TakingWays.{entries_snoc, new_entry, has_more, choice_of_way}

-- what stands for all literals does for those of the first choices
pub literals_first : (p : Literal → Bool) (cs : List Clause) (xs : Choices) (k : ℕ) → list_all p (literals_of cs xs) ≡ true → list_all p (literals_of cs (take k xs)) ≡ true
literals_first p [] xs zero all = refl
literals_first p (c ∷ cs) xs zero all = refl
literals_first p cs [] (suc k) all = all
literals_first p [] (x ∷ xs) (suc k) all = refl
literals_first p (c ∷ cs) (x ∷ xs) (suc k) all =
    let parts = and_parts (list_all p (literal_chosen c x)) (list_all p (literals_of cs xs)) (sym (list_all-append p (literal_chosen c x) (literals_of cs xs)) ∙ all) in
    list_all-append p (literal_chosen c x) (literals_of cs (take k xs)) ∙
    and_from (list_all p (literal_chosen c x)) (list_all p (literals_of cs (take k xs))) parts.0 (literals_first p cs xs k parts.1)

all_before_both : (counted : List Choices) (now d : Choices) → AllBefore counted d → stands_before now d ≡ true → AllBefore (counted ++ now ∷ []) d
all_before_both [] now d all before = (before, tt)
all_before_both (c ∷ cs) now d all before = (all.0, all_before_both cs now d all.1 before)

one_more_counted : (P : Choices → Type 0) (counted : List Choices) (now : Choices) → AllByRecursion P counted → P now → AllByRecursion P (counted ++ now ∷ [])
one_more_counted P [] now all is = (is, tt)
one_more_counted P (c ∷ cs) now all is = (all.0, one_more_counted P cs now all.1 is)

module _ (clauses : List Clause) (frame : Frame) where
  abbrev n : ℕ
  n = length clauses

  -- the choices are still those under which each entry of several ways was taken
  abbrev Agrees : Choices → List Entry → Type 0
  Agrees now [] = Unit {0}
  Agrees now (e ∷ es) =
      (has_one_way clauses e.clause ≡ false → (take e.clause now ≡ take e.clause (choices_of n es)) × (slice_get now e.clause ≡ Some (Some e.way))) × Agrees now es

  several_below : (k j : ℕ) → has_one_way clauses k ≡ false → (has_one_way clauses k || nat_lt k j) ≡ true → k < j
  several_below k j several before = elim (or_cases (has_one_way clauses k) (nat_lt k j) before) [
    | inl one ↦ (let no : true ≡ false = sym one ∙ several in cc)
    | inr low ↦ ltb-true k j low
  ]

  agrees_set : (now : Choices) (es : List Entry) (j : ℕ) (x : Option ℕ) → splits_before clauses j es ≡ true → Agrees now es → Agrees (slice_set now j x) es
  agrees_set now [] j x before agrees = tt
  agrees_set now (e ∷ es) j x before agrees =
      let parts = and_parts (has_one_way clauses e.clause || nat_lt e.clause j) (splits_before clauses j es) before in (
        λ several.
            let low : e.clause < j = several_below e.clause j several parts.0 in
            let was = agrees.0 several in
            let other : e.clause ≡ j → ⊥ = λ same. omega arith in
            (take-set-le e.clause now j x (omega arith) ∙ was.0, set_other now j e.clause x other ∙ was.1),
        agrees_set now es j x parts.1 agrees.1,
      )

  agrees_now : (counted : List Choices) (marks : List Bool) (es : List Entry) → AreEntries clauses frame counted marks es → Agrees (choices_of n es) es
  agrees_now counted marks [] are = tt
  agrees_now counted marks (e ∷ es) are =
      let xs = choices_of n es in (
        λ several. (take-set xs e.clause (Some e.way), set_same xs e.clause (Some e.way) (slice_get_within xs e.clause None are.0.fresh)),
        agrees_set xs es e.clause (Some e.way) are.0.above (agrees_now counted marks es are.1),
      )

  -- the next ways of the entries stand behind one more counted case
  entries_counted : (counted : List Choices) (marks : List Bool) (es : List Entry) (now : Choices) (k : ℕ) → Agrees now es → splits_before clauses k es ≡ true →
      AreEntries clauses frame counted marks es → AreEntries clauses frame (counted ++ take k now ∷ []) marks es
  entries_counted counted marks [] now k agrees before are = tt
  entries_counted counted marks (e ∷ es) now k agrees before are =
      let is = are.0 in
      let xs = choices_of n es in
      let parts = and_parts (has_one_way clauses e.clause || nat_lt e.clause k) (splits_before clauses k es) before in (
        record {
          clause = is.clause;
          stands = is.stands;
          way = is.way;
          reached = is.reached;
          before = is.before;
          fresh = is.fresh;
          above = is.above;
          as_many = is.as_many;
          closed = is.closed;
          split = elim (cases_Bool (has_one_way clauses e.clause)) [
            | inl one ↦ inl (one_way clauses frame e.clause is.clause is.stands one)
            | inr several ↦ elim is.split [
              | inl one ↦ inl one
              | inr split ↦
                  let was = agrees.0 several in
                  let low : e.clause < k = several_below e.clause k several parts.0 in
                  let before' : stands_before (take k now) (take e.clause now ++ Some (suc e.way) ∷ []) ≡ true = before_first now k e.clause e.way (suc e.way) low was.1 (omega arith) in
                  inr (record {
                    legal = split.legal;
                    later =
                        all_before_both counted (take k now) (take e.clause xs ++ Some (suc e.way) ∷ []) split.later
                        (subst (λ (ys : Choices). stands_before (take k now) (ys ++ Some (suc e.way) ∷ []) ≡ true) was.0 before');
                  })
            ]
          ];
        },
        entries_counted counted marks es now k agrees.1 parts.1 are.1,
      )

  -- the choices before a split are a counted case
  now_counted : (s : State) (k : ℕ) → IsReady clauses frame s k → k < n → HasAssignment frame (literals_of clauses s.chosen.items) → IsCounted clauses frame (take k s.chosen.items)
  now_counted s k ready low satisfied =
      let xs = s.chosen.items in
      let has = ready.has in
      let size : length xs ≡ n = ap length has.chosen ∙ choices_length n (entries_of s) in
      let long : length (take k xs) ≡ k = length-take-le k xs (omega arith) in
      let p : Literal → Bool = λ (l : Literal). satisfies satisfied.assignment l.atom in
      let case : IsCase clauses frame (take k xs) = record {
        legal = ready.legal;
        satisfied = record { assignment = satisfied.assignment; is = satisfied.is; satisfied = literals_first p clauses xs k satisfied.satisfied };
      } in
      counted_here clauses frame (take k xs) case (omega arith)
      (subst (λ (ys : Choices). NoFullCaseBefore clauses frame (take k ys)) (sym has.chosen)
      (none_before clauses frame ready.counted s.needed.items (entries_of s) has.entries k ready.within))

  pub splits : (s t : State) (k : ℕ) (e : Entry) → IsReady clauses frame s k → IsFork clauses frame s k → HasAssignment frame (literals_of clauses s.chosen.items) →
      e.clause ≡ k → e.way ≡ 0 → e.cases ≡ [] → t.tried ≡ s.tried + 1 → t.chosen.items ≡ slice_set s.chosen.items e.clause (Some e.way) →
      t.needed.items ≡ slice_set s.needed.items e.clause false → t.entries.items ≡ s.entries.items ++ e ∷ [] → IsReady clauses frame t (k + 1)
  splits s t k e ready fork satisfied same first empty tried chosen needed entries =
      let es = entries_of s in
      let has = ready.has in
      let xs = choices_of n es in
      let c = fork.clause in
      let now = take k s.chosen.items in
      let now_is : now ≡ take k xs = ap (λ (ys : Choices). take k ys) has.chosen in
      let more = ready.counted ++ now ∷ [] in
      let low : k < n = slice_get_within clauses k c fork.stands in
      let several : 2 ≤ length c.ways = fork.several in
      let at' : slice_get clauses e.clause ≡ Some c = ap (slice_get clauses) same ∙ fork.stands in
      let fresh : slice_get xs e.clause ≡ Some None = ap (slice_get xs) same ∙ (ap (λ (ys : Choices). slice_get ys k) (sym has.chosen) ∙ fork.free) in
      let reached : is_reached (take e.clause xs) c ≡ true = ap (λ i. is_reached (take i xs) c) same ∙ (ap (λ (ys : Choices). is_reached ys c) (sym now_is) ∙ fork.reached) in
      let above : splits_before clauses e.clause es ≡ true = ap (λ i. splits_before clauses i es) same ∙ ready.splits in
      let later : AllBefore more (now ++ Some (suc e.way) ∷ []) =
      all_before_both ready.counted now (now ++ Some (suc e.way) ∷ []) (all_before ready.counted now (now ++ Some (suc e.way) ∷ []) (λ d before. before_more d now (Some (suc e.way) ∷ []) before) ready.later)
      (before_longer now (Some (suc e.way))) in
      let later' : AllBefore more (now ++ Some e.way ∷ []) =
      all_before_both ready.counted now (now ++ Some e.way ∷ []) (all_before ready.counted now (now ++ Some e.way ∷ []) (λ d before. before_more d now (Some e.way ∷ []) before) ready.later)
      (before_longer now (Some e.way)) in
      let split : IsSplit clauses frame more es e = record {
        legal = ap (λ i. are_choices clauses (take i xs)) same ∙ (ap (are_choices clauses) (sym now_is) ∙ ready.legal);
        later = subst (λ i. AllBefore more (take i xs ++ Some (suc e.way) ∷ [])) (sym same) (subst (λ (ys : Choices). AllBefore more (ys ++ Some (suc e.way) ∷ [])) now_is later);
      } in
      let entry : IsEntry clauses frame more (slice_set s.needed.items e.clause false) es e =
      new_entry clauses frame more (slice_set s.needed.items e.clause false) es e c at' (omega arith) reached fresh above first empty (inr split) in
      let agrees = agrees_now ready.counted s.needed.items es has.entries in
      let counted' : AreEntries clauses frame more s.needed.items es =
      subst (λ (ys : Choices). AreEntries clauses frame (ready.counted ++ ys ∷ []) s.needed.items es) (sym now_is)
      (entries_counted ready.counted s.needed.items es xs k agrees ready.splits has.entries) in
      -- the same state with the case counted
      let u : State = record { tried = t.tried; chosen = s.chosen; needed = s.needed; entries = s.entries } in
      let has_u : HasEntries clauses frame u es more = record {
        chosen = has.chosen;
        marks = has.marks;
        entries = counted';
        as_many = (let size = length-append ready.counted (now ∷ []) in let many = has.as_many in size ∙ omega arith);
        ascending = ascending_more clauses frame ready.counted now has.ascending ready.later;
        all_counted = one_more_counted (IsCounted clauses frame) ready.counted now has.all_counted (now_counted s k ready low satisfied);
      } in
      let has_t : HasEntries clauses frame t (e ∷ es) more = has_more clauses frame u t es e more has_u fresh entry refl chosen needed in
      let longer : entries_of t ≡ e ∷ es = entries_snoc s t e entries in
      let size : length s.chosen.items ≡ n = ap length has.chosen ∙ choices_length n es in
      let below : take k t.chosen.items ≡ now = ap (λ (ys : Choices). take k ys) chosen ∙ take-set-le k s.chosen.items e.clause (Some e.way) (omega arith) in
      let at_t : slice_get t.chosen.items k ≡ Some (Some e.way) =
      ap (slice_get t.chosen.items) (sym same) ∙ (ap (λ (ys : Choices). slice_get ys e.clause) chosen ∙ set_same s.chosen.items e.clause (Some e.way) (omega arith)) in
      let one : k + 1 ≡ suc k = omega arith in
      let next : take (k + 1) t.chosen.items ≡ now ++ Some e.way ∷ [] =
      ap (λ i. take i t.chosen.items) one ∙ (take_next t.chosen.items k (Some e.way) at_t ∙ ap (λ (ys : Choices). ys ++ Some e.way ∷ []) below) in
      let long : length now ≡ k = length-take-le k s.chosen.items (omega arith) in
      record {
        counted = more;
        has = subst (λ (fs : List Entry). HasEntries clauses frame t fs more) (sym longer) has_t;
        within = omega arith;
        legal =
            ap (are_choices clauses) next ∙
            choices_more [] clauses now c (Some e.way) ready.legal (ap (slice_get clauses) long ∙ fork.stands) (choice_of_way clauses frame now c e.way fork.reached (omega arith));
        splits =
            ap (splits_before clauses (k + 1)) longer ∙
            and_from (has_one_way clauses e.clause || nat_lt e.clause (k + 1)) (splits_before clauses (k + 1) es)
            (or_right (has_one_way clauses e.clause) (nat_lt e.clause (k + 1)) (lt-ltb e.clause (k + 1) (omega arith)))
            (splits_more clauses k (k + 1) es (omega arith) ready.splits);
        later = subst (AllBefore more) (sym next) later';
      }

  -- nothing is taken yet
  pub begins : (s : State) → s.tried ≡ 0 → s.chosen.items ≡ replicate n None → length s.needed.items ≡ n → s.entries.items ≡ [] → IsReady clauses frame s 0
  begins s tried chosen marks entries =
      let none : entries_of s ≡ [] = ap (λ (es : List Entry). reverse es) entries in
      record {
        counted = [];
        has = subst (λ (es : List Entry). HasEntries clauses frame s es []) (sym none)
            (record { chosen = chosen; marks = marks; entries = tt; as_many = sym tried; ascending = tt; all_counted = tt });
        within = omega arith;
        legal = refl;
        splits = ap (splits_before clauses 0) none;
        later = tt;
      }

  -- a choice for every clause whose literals are settled
  pub first_full : (s : State) (branch : Branch) → IsReady clauses frame s n → branch.choices ≡ s.chosen.items → Settles frame (literals_of clauses s.chosen.items) branch.assignment →
      IsFirst clauses frame branch
  first_full s branch ready same settled =
      let xs = s.chosen.items in
      let has = ready.has in
      let size : length xs ≡ n = ap length has.chosen ∙ choices_length n (entries_of s) in
      let whole : take n xs ≡ branch.choices = (ap (λ i. take i xs) (sym size) ∙ take-length xs) ∙ sym same in
      let settles : Settles frame (literals_of clauses branch.choices) branch.assignment =
      subst (λ (ys : Choices). Settles frame (literals_of clauses ys) branch.assignment) (sym same) settled in
      record {
        first = record {
          full = record {
            case = record {
              legal = ap (are_choices clauses) (sym whole) ∙ ready.legal;
              satisfied = record { assignment = branch.assignment; is = settles.is; satisfied = settles.satisfied };
            };
            full = ap length same ∙ size;
          };
          first =
              subst (λ (ys : Choices). NoFullCaseBefore clauses frame ys) whole
              (subst (λ (ys : Choices). NoFullCaseBefore clauses frame (take n ys)) (sym has.chosen)
              (none_before clauses frame ready.counted s.needed.items (entries_of s) has.entries n ready.within));
        };
        settled = settles;
      }

  -- more splits than the budget
  pub spent : (s : State) (budget from : ℕ) → IsReady clauses frame s from → budget < s.tried → HasSpent clauses frame budget s.tried
  spent s budget from ready above =
      let has = ready.has in
      record { above = above; counted = record { cases = ready.counted; as_many = has.as_many; ascending = has.ascending; counted = has.all_counted } }
