-- A literal joins two classes.
use Rattle.std.proofs.Common.{◌≡◌, ◌≢◌, ◌∙◌, sym, ap, refl, subst, ℕ, ◌<◌, ◌+◌, List, [], ◌∷◌, ◌++◌, length, Option, Some, None, set, inl, inr, arith}
use Rattle.std.specs.Prelude.{nat_eq}
use Rattle.std.proofs.lemmas.Bool.{cases_eq, cases_lt, eq-eqb, ne_eqb, cond-true, cond-false}
use Rattle.std.proofs.lemmas.List.{get_or-set_same, get_or-set_other, length-set, length_push, get_or_push, get_or_append_left, get_or_past}
use Rattle.ground_theory.specs.declared.joining.Join.{Join}
use Rattle.ground_theory.specs.inner.Joining.{Mark, label_at, by_at, IsJoining, IsJoined, IsRelabelled, AreThere, IsFolded, AreSames, AreJoined, join_at}

module _ (rows : ℕ) (labels : List ℕ) (by : List (Option Join)) (same : Join) (is : IsJoining rows labels by) (row_in : same.row < rows) (other_in : same.other < rows)
    (from to : ℕ) (from_is : label_at labels same.other ≡ from) (to_is : label_at labels same.row ≡ to) (apart : from ≢ to)
    (new : List ℕ) (relabelled : IsRelabelled labels from to rows new) (new_by : List (Option Join)) (by_is : new_by ≡ set by from (Some same)) where
  here : (k : ℕ) → k < rows → label_at labels k ≡ from → label_at new k ≡ to
  here k h e = relabelled.below k h ∙ cond-true (nat_eq (label_at labels k) from) to (label_at labels k) (eq-eqb (label_at labels k) from e)

  there : (k : ℕ) → k < rows → label_at labels k ≢ from → label_at new k ≡ label_at labels k
  there k h e = relabelled.below k h ∙ cond-false (nat_eq (label_at labels k) from) to (label_at labels k) (ne_eqb (label_at labels k) from e)

  from_in : from < rows
  from_in = subst (λ (n : ℕ). n < rows) from_is (is.within same.other other_in)

  to_in : to < rows
  to_in = subst (λ (n : ℕ). n < rows) to_is (is.within same.row row_in)

  own_from : label_at labels from ≡ from
  own_from = subst (λ (n : ℕ). label_at labels n ≡ n) from_is (is.own same.other other_in)

  own_to : label_at labels to ≡ to
  own_to = subst (λ (n : ℕ). label_at labels n ≡ n) to_is (is.own same.row row_in)

  to_new : label_at new to ≡ to
  to_new = there to to_in (λ e. apart (sym e ∙ own_to)) ∙ own_to

  by_here : by_at new_by from ≡ Some same
  by_here = ap (λ (b : List (Option Join)). by_at b from) by_is ∙ get_or-set_same by from (Some same) None (let s = is.slots in let f = from_in in omega arith)

  by_there : (k : ℕ) → k ≢ from → by_at new_by k ≡ by_at by k
  by_there k other = ap (λ (b : List (Option Join)). by_at b k) by_is ∙ get_or-set_other by from k (Some same) None other

  within : (k : ℕ) → k < rows → label_at new k < rows
  within k h = elim (cases_eq (label_at labels k) from) [
    | inl e ↦ subst (λ (n : ℕ). n < rows) (sym (here k h e)) to_in
    | inr e ↦ subst (λ (n : ℕ). n < rows) (sym (there k h e)) (is.within k h)
  ]

  own : (k : ℕ) → k < rows → label_at new (label_at new k) ≡ label_at new k
  own k h = elim (cases_eq (label_at labels k) from) [
    | inl e ↦ subst (λ (n : ℕ). label_at new n ≡ n) (sym (here k h e)) to_new
    | inr e ↦
        let l = label_at labels k in
        let again : label_at labels l ≡ l = is.own k h in
        subst (λ (n : ℕ). label_at new n ≡ n) (sym (there k h e)) (there l (is.within k h) (λ f. e (sym again ∙ f)) ∙ again)
  ]

  free : (k : ℕ) → k < rows → label_at new k ≡ k → by_at new_by k ≡ None
  free k h e = elim (cases_eq (label_at labels k) from) [
    | inl f ↦
        let one : k ≡ to = sym e ∙ here k h f in
        absurd (apart (sym f ∙ ap (label_at labels) one ∙ own_to))
    | inr f ↦
        let was : label_at labels k ≡ k = sym (there k h f) ∙ e in
        by_there k (λ g. f (was ∙ g)) ∙ is.free k h was
  ]

  tied : (mark : ℕ → Mark) → ((k : ℕ) (j : Join) → by_at new_by k ≡ Some j → mark j.row ≡ mark j.other)
      → (a b : ℕ) → a < rows → b < rows → label_at new a ≡ label_at new b → mark a ≡ mark b
  tied mark alike a b in_a in_b e =
      let was : (c d : ℕ) → c < rows → d < rows → label_at labels c ≡ label_at labels d → mark c ≡ mark d =
      is.tied mark (λ k j some. elim (cases_eq k from) [
        | inl f ↦ (let e : Some j ≡ None = sym some ∙ ap (by_at by) f ∙ is.free from from_in own_from in cc e)
        | inr f ↦ alike k j (by_there k f ∙ some)
      ]) in
      let across : mark same.row ≡ mark same.other = alike from same by_here in
      let over : (c d : ℕ) → c < rows → d < rows → label_at labels c ≡ from → label_at labels d ≢ from → label_at new c ≡ label_at new d → mark c ≡ mark d =
      λ c d in_c in_d f g same_new.
      was c same.other in_c other_in (f ∙ sym from_is) ∙ sym across ∙ was same.row d row_in in_d (to_is ∙ sym (here c in_c f) ∙ same_new ∙ there d in_d g) in
      elim (cases_eq (label_at labels a) from) [
        | inl f ↦ elim (cases_eq (label_at labels b) from) [
          | inl g ↦ was a b in_a in_b (f ∙ sym g)
          | inr g ↦ over a b in_a in_b f g e
        ]
        | inr f ↦ elim (cases_eq (label_at labels b) from) [
          | inl g ↦ sym (over b a in_b in_a g f (sym e))
          | inr g ↦ was a b in_a in_b (sym (there a in_a f) ∙ e ∙ there b in_b g)
        ]
      ]

  pub joined : rows ≡ length labels → IsJoined labels by same new new_by
  joined rows_is = record {
    joining = subst (λ (n : ℕ). IsJoining n new new_by) rows_is (record {
      count = relabelled.count ∙ is.count;
      slots = ap length by_is ∙ length-set by from (Some same) ∙ is.slots;
      within = within;
      own = own;
      free = free;
      tied = tied;
    });
    joined = there same.row row_in (λ e. apart (sym e ∙ to_is)) ∙ to_is ∙ sym (here same.other other_in from_is);
    kept = λ a b in_a in_b e. (let in_rows : a < rows = omega arith in let in_too : b < rows = omega arith in elim (cases_eq (label_at labels a) from) [
      | inl f ↦ here a in_rows f ∙ sym (here b in_too (sym e ∙ f))
      | inr f ↦ there a in_rows f ∙ e ∙ sym (there b in_too (λ g. f (e ∙ g)))
    ]);
    sound = λ k j some. elim (cases_eq k from) [
      | inl f ↦ (let e : Some same ≡ Some j = sym by_here ∙ ap (by_at new_by) (sym f) ∙ some in let o : j ≡ same = cc e in inr o)
      | inr f ↦ inl (sym (by_there k f) ∙ some)
    ];
  }

-- ---- the literals in their places

module _ (by : List (Option Join)) (upto : ℕ) (joins : List Join) (are : AreThere by upto joins) where
  pub there_passed : by_at by upto ≡ None → AreThere by (upto + 1) joins
  there_passed none = record {
    count = (let c = are.count in omega arith);
    whole = λ k j h some. elim (cases_eq k upto) [
      | inl e ↦ (let no : Some j ≡ None = sym some ∙ ap (by_at by) e ∙ none in cc no)
      | inr e ↦ are.whole k j (omega arith) some
    ];
    sound = are.sound;
  }

  pub there_more : (j : Join) → by_at by upto ≡ Some j → AreThere by (upto + 1) (joins ++ j ∷ [])
  there_more j is = record {
    count = (let c = are.count in let p = length_push joins j in omega arith);
    whole = λ k i h some. elim (cases_eq k upto) [
      | inl e ↦
          let both : Some j ≡ Some i = sym is ∙ ap (by_at by) (sym e) ∙ some in
          let one : j ≡ i = cc both in
          (length joins, (let p = length_push joins j in omega arith), get_or_push joins j (join_at [] 0) (length joins) refl ∙ one)
      | inr e ↦
          let was = are.whole k i (omega arith) some in
          (was.0, (let p = length_push joins j in let b : was.0 < length joins = was.1 in omega arith), get_or_append_left joins (j ∷ []) (join_at [] 0) was.0 was.1 ∙ was.2)
    ];
    sound = λ i h. elim (cases_eq i (length joins)) [
      | inl e ↦ (upto, is ∙ ap Some (sym (ap (join_at (joins ++ j ∷ [])) e ∙ get_or_push joins j (join_at [] 0) (length joins) refl)))
      | inr e ↦
          let low : i < length joins = (let p = length_push joins j in omega arith) in
          let was = are.sound i low in
          (was.0, was.1 ∙ ap Some (sym (get_or_append_left joins (j ∷ []) (join_at [] 0) i low)))
    ];
  }

-- ---- a literal whose rows are of one class already

pub same_already : (labels : List ℕ) (by : List (Option Join)) (same : Join) → IsJoining (length labels) labels by →
    label_at labels same.row ≡ label_at labels same.other → IsJoined labels by same labels by
same_already labels by same is e = record { joining = is; joined = e; kept = λ a b in_a in_b f. f; sound = λ k j some. inl some }

-- ---- the literals one after the other

pub folded_more : (rows : ℕ) (sames : List Join) (done : ℕ) (labels : List ℕ) (by : List (Option Join)) → IsFolded rows sames done labels by → AreSames rows sames →
    done < length sames → (same : Join) → join_at sames done ≡ same → (new : List ℕ) (new_by : List (Option Join)) → IsJoined labels by same new new_by →
    IsFolded rows sames (done + 1) new new_by
folded_more rows sames done labels by is within here same same_is new new_by next =
    let count : length labels ≡ rows = is.joining.count in
    record {
      joining = subst (λ (n : ℕ). IsJoining n new new_by) count next.joining;
      joined = λ k h. elim (cases_eq k done) [
        | inl e ↦
            let one : join_at sames k ≡ same = ap (join_at sames) e ∙ same_is in
            ap (λ (j : Join). label_at new j.row) one ∙ next.joined ∙ sym (ap (λ (j : Join). label_at new j.other) one)
        | inr e ↦
            let low : k < done = omega arith in
            let listed : k < length sames = omega arith in
            let both = within k listed in
            next.kept (join_at sames k).row (join_at sames k).other (let b = both.0 in omega arith) (let b = both.1 in omega arith) (is.joined k low)
      ];
      from = λ k j some. elim (next.sound k j some) [
        | inl was ↦ is.from k j was
        | inr one ↦ (done, here, same_is ∙ sym one)
      ];
    }

pub folded_all : (rows : ℕ) (sames : List Join) (labels : List ℕ) (by : List (Option Join)) (joins : List Join) (done : ℕ) → done ≡ length sames →
    IsFolded rows sames done labels by → AreThere by (length by) joins → AreJoined rows sames labels joins
folded_all rows sames labels by joins done all is are = record {
  count = is.joining.count;
  few = (let c = are.count in let s = is.joining.slots in omega arith);
  within = is.joining.within;
  own = is.joining.own;
  joined = λ k h. is.joined k (omega arith);
  from = λ k h. (let was = are.sound k h in is.from was.0 (join_at joins k) was.1);
  tied = λ mark alike. is.joining.tied mark (λ k j some.
      elim (cases_lt k (length by)) [
        | inl h ↦
            let at = are.whole k j h some in
            ap (λ (j : Join). mark j.row) (sym at.2) ∙ alike at.0 at.1 ∙ ap (λ (j : Join). mark j.other) at.2
        | inr h ↦ (let no : Some j ≡ None = sym some ∙ get_or_past by k None h in cc no)
      ]);
}
