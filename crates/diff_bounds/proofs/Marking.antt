-- Marks: each step marks one variable more, and what is known of the marked ones stays.
use Rattle.std.proofs.Common.{◌≡◌, ◌≢◌, ℕ, ◌+◌, ◌<◌, List, [], ◌∷◌, ◌++◌, length, sum_by, Option, Some, None, true, is_some, slice_index_or, set, take, drop, replicate, zero, suc, refl, sym, inl, inr, arith, ◌∙◌}
use Rattle.std.proofs.lemmas.List.{get_or-set_same, get_or-set_other, get_or_read, take_at}
use Rattle.std.proofs.lemmas.List.Sums.{sum_by-set}
use Rattle.std.proofs.lemmas.Bool.{cases_eq}
use Rattle.diff_bounds.specs.declared.system.Edge.{Edge}
use Rattle.diff_bounds.specs.Rings.{edge_at}
use Rattle.diff_bounds.specs.inner.Relaxing.{reason_of, mark_of, Ends, AllEnd, Runs, IsSettled, IsSettledAfter, Closes}
use Rattle.diff_bounds.proofs.Chains.{reason_listed}
use Rattle.diff_bounds.proofs.Closing.{runs_more, runs_ends, first}

-- 1 where there is no mark
abbrev pub unmarked : Option ℕ → ℕ
unmarked None = 1
unmarked (Some mark) = 0

-- what is known while the chain of `root` is marked and has come to `at`
pub record IsOnTheWay (edges : List Edge) (reasons : List (Option ℕ)) (root at : ℕ) (marks : List (Option ℕ)) : Type 0 where
  pub open_ones : (v : ℕ) → mark_of marks v ≡ Some root → (es : List ℕ) × Runs edges reasons v es at
  pub others : (v mark : ℕ) → mark_of marks v ≡ Some mark → mark ≢ root → (mark < root) × ((es : List ℕ) × Ends edges reasons v es)
  pub way : (es : List ℕ) × Runs edges reasons root es at

-- at the start nothing is marked by `root`
pub on_the_way_first : (edges : List Edge) (reasons : List (Option ℕ)) (root : ℕ) (marks : List (Option ℕ)) → IsSettled edges reasons root marks → IsOnTheWay edges reasons root root marks
on_the_way_first edges reasons root marks settled = record {
  open_ones = λ v is. absurd (let low : root < root = (settled v root is).0 in omega arith);
  others = λ v mark is apart. settled v mark is;
  way = ([], refl);
}

-- when `at` is marked too
pub marked : (edges : List Edge) (reasons : List (Option ℕ)) (root at : ℕ) (marks : List (Option ℕ)) → at < length marks → IsOnTheWay edges reasons root at marks → IsOnTheWay edges reasons root at (set marks at (Some root))
marked edges reasons root at marks within known = record {
  open_ones = λ v is. elim (cases_eq v at) [
    | inl same ↦ ([], same)
    | inr apart ↦ known.open_ones v (sym (get_or-set_other marks at v (Some root) None apart) ∙ is)
  ];
  others = λ v mark is not_root. elim (cases_eq v at) [
    | inl same ↦ (
        let own : mark_of (set marks at (Some root)) v ≡ Some root = rw same (get_or-set_same marks at (Some root) None within) in
        let root_is : mark ≡ root = cc in
        absurd (not_root root_is))
    | inr apart ↦ known.others v mark (sym (get_or-set_other marks at v (Some root) None apart) ∙ is) not_root
  ];
  way = known.way;
}

-- one edge on
pub one_on : (edges : List Edge) (reasons : List (Option ℕ)) (root at number : ℕ) (marks : List (Option ℕ)) → reason_of reasons at ≡ Some number → IsOnTheWay edges reasons root at marks → IsOnTheWay edges reasons root (edge_at edges number).right marks
one_on edges reasons root at number marks some known = record {
  open_ones = λ v is. (
      let run = known.open_ones v is in
      (run.0 ++ number ∷ [], runs_more edges reasons v at number run.0 run.1 some));
  others = known.others;
  way = (known.way.0 ++ number ∷ [], runs_more edges reasons root at number known.way.0 known.way.1 some);
}

-- where the chain of `at` ends, all do that were marked
pub settles : (edges : List Edge) (reasons : List (Option ℕ)) (root at : ℕ) (marks : List (Option ℕ)) (es : List ℕ) → Ends edges reasons at es → IsOnTheWay edges reasons root at marks → IsSettledAfter edges reasons root marks
settles edges reasons root at marks es ends known = record {
  settled = λ v mark is. elim (cases_eq mark root) [
    | inl same ↦ (
        let run = known.open_ones v (rw (← same) is) in
        (omega arith, (run.0 ++ es, runs_ends edges reasons v at run.0 es run.1 ends)))
    | inr apart ↦ (
        let old = known.others v mark is apart in
        let low : mark < root = old.0 in
        (omega arith, old.1))
  ];
  ends = (known.way.0 ++ es, runs_ends edges reasons root at known.way.0 es known.way.1 ends);
}

-- an edge from `at` to a variable of this chain closes it
pub closing : (edges : List Edge) (reasons : List (Option ℕ)) (root at number : ℕ) (marks : List (Option ℕ)) → (edge_at edges number).left ≡ at → reason_of reasons at ≡ Some number → IsOnTheWay edges reasons root at marks → mark_of marks (edge_at edges number).right ≡ Some root → Closes edges reasons number
closing edges reasons root at number marks starts some known is =
    let run = known.open_ones (edge_at edges number).right is in
    record { reason = rw starts some; back = rw starts (first edges reasons (edge_at edges number).right at run.0 run.1) }

-- a variable that had no mark counts no more
pub fewer : (marks : List (Option ℕ)) (at root : ℕ) → at < length marks → mark_of marks at ≡ None → sum_by unmarked (set marks at (Some root)) < sum_by unmarked marks
fewer marks at root within free =
    let sums = sum_by-set unmarked marks at (Some root) None within in
    let one : unmarked (mark_of marks at) ≡ 1 = rw free refl in
    omega (arith, sums)

-- ---- all roots in turn

none_of : (count at : ℕ) → mark_of (replicate count None) at ≡ None
none_of zero at = refl
none_of (suc count) zero = refl
none_of (suc count) (suc at) = none_of count at

-- where nothing is marked, all that is marked is settled
pub none_settled : (edges : List Edge) (reasons : List (Option ℕ)) (root : ℕ) (marks : List (Option ℕ)) (count : ℕ) → marks ≡ replicate count None → IsSettled edges reasons root marks
none_settled edges reasons root marks count nones v mark is =
    absurd (let none : mark_of marks v ≡ None = rw nones (none_of count v) in cc)

pub settled_more : (edges : List Edge) (reasons : List (Option ℕ)) (root : ℕ) (marks : List (Option ℕ)) → IsSettled edges reasons root marks → IsSettled edges reasons (root + 1) marks
settled_more edges reasons root marks settled v mark is =
    let old = settled v mark is in
    let low : mark < root = old.0 in
    (omega arith, old.1)

pub ends_more : (edges : List Edge) (reasons : List (Option ℕ)) (root : ℕ) → ((at : ℕ) → at < root → (es : List ℕ) × Ends edges reasons at es) → (es : List ℕ) × Ends edges reasons root es → (at : ℕ) → at < root + 1 → (es : List ℕ) × Ends edges reasons at es
ends_more edges reasons root before here at below =
    elim (cases_eq at root) [
      | inl same ↦ (here.0, rw same here.1)
      | inr apart ↦ before at (omega arith)
    ]

-- the chain of a marked root ends
pub marked_ends : (edges : List Edge) (reasons : List (Option ℕ)) (root : ℕ) (marks : List (Option ℕ)) (mark : Option ℕ) → IsSettled edges reasons root marks → root < length marks → mark ≡ slice_index_or marks root mark → is_some mark ≡ true → (es : List ℕ) × Ends edges reasons root es
marked_ends edges reasons root marks None settled within read some = absurd (cc some)
marked_ends edges reasons root marks (Some mark) settled within read some =
    (settled root mark (sym (get_or_read marks root (Some mark) within read None))).1

-- where the chain of each listed variable ends, all do
pub all_end : (edges : List Edge) (reasons : List (Option ℕ)) → ((at : ℕ) → at < length reasons → (es : List ℕ) × Ends edges reasons at es) → AllEnd edges reasons
all_end edges reasons listed at = by_reason (reason_of reasons at) refl
  where
    by_reason : (reason : Option ℕ) → reason_of reasons at ≡ reason → (es : List ℕ) × Ends edges reasons at es
    by_reason None is = ([], is)
    by_reason (Some e) is = listed at (reason_listed reasons at e is)

-- a slice of marks that was written to is what the `Vec` holds then
pub written_back : (new old : List (Option ℕ)) (count : ℕ) → length new ≡ count → take count (new ++ drop (length new) old) ≡ new
written_back new old count whole = take_at new (drop (length new) old) count whole
