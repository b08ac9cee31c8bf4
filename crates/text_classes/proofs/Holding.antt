-- The constant text of each class.
use Rattle.std.proofs.Common.{◌≡◌, ◌≢◌, ◌∙◌, sym, ap, ℕ, ◌<◌, ◌≤◌, ◌+◌, List, length, Option, Some, None, slice_index_or, set, inl, inr, arith}
use Rattle.std.proofs.lemmas.Bool.{cases_eq}
use Rattle.std.proofs.lemmas.List.{get_or-set_same, get_or-set_other, length-set, get_or_read}
use Rattle.text_classes.specs.declared.forest.Forest.{Forest}
use Rattle.text_classes.specs.inner.Forest.{class_in, IsIndexed}
use Rattle.text_classes.specs.inner.Fresh.{held_at, AreHeld, AreClashing}

module _ (vars nodes node class : ℕ) (s : Forest) (held : List (Option ℕ)) (indexed : IsIndexed nodes s) (are : AreHeld vars node s held) (is : class_in s node ≡ Some class)
    (above : vars ≤ node) (below : node < nodes) (p : Option ℕ) (p_is : p ≡ slice_index_or held class p) where
  within : class < length held
  within = let h : class < s.classes = (indexed.classes node class is).0 in let c = are.count in omega arith

  here : held_at held class ≡ p
  here = sym (get_or_read held class p within p_is None)

  pub clashing : (other : ℕ) → p ≡ Some other → AreClashing vars nodes s other node
  clashing other some =
      let back = are.back class other (here ∙ some) in
      record { first = back.0; second = back.1; within = below; same = back.2 ∙ sym is }

  pub held_more : p ≡ None → AreHeld vars (node + 1) s (set held class (Some node))
  held_more none =
      let now = get_or-set_same held class (Some node) None within in
      let rest : (k : ℕ) → k ≢ class → held_at (set held class (Some node)) k ≡ held_at held k = λ k other. get_or-set_other held class k (Some node) None other in
      record {
        count = length-set held class (Some node) ∙ are.count;
        each = λ n c from upto of. elim (cases_eq n node) [
          | inl same ↦
              let both : Some c ≡ Some class = sym of ∙ ap (class_in s) same ∙ is in
              let one : c ≡ class = cc both in
              ap (held_at (set held class (Some node))) one ∙ now ∙ ap Some (sym same)
          | inr other ↦
              let was = are.each n c from (omega arith) of in
              rest c (λ one. (let e : Some n ≡ None = sym was ∙ ap (held_at held) one ∙ here ∙ none in cc e)) ∙ was
        ];
        back = λ c n some. elim (cases_eq c class) [
          | inl same ↦
              let both : Some node ≡ Some n = sym now ∙ ap (held_at (set held class (Some node))) (sym same) ∙ some in
              let one : node ≡ n = cc both in
              (omega arith, omega arith, ap (class_in s) (sym one) ∙ is ∙ ap Some (sym same))
          | inr other ↦
              let was = are.back c n (sym (rest c other) ∙ some) in
              (was.0, (let h : n < node = was.1 in omega arith), was.2)
        ];
      }
