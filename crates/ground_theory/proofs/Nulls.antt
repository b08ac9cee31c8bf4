-- A table of the cells that are NULL.
use Rattle.std.proofs.Common.{◌≡◌, ◌≢◌, ◌∙◌, sym, ap, refl, ℕ, zero, suc, ◌<◌, ◌+◌, ◌*◌, List, length, Option, Some, None, set, replicate, inl, inr, arith}
use Rattle.std.specs.Prelude.{slice_index_or}
use Rattle.std.proofs.lemmas.Bool.{cases_eq}
use Rattle.std.proofs.lemmas.List.{get_or-set_same, get_or-set_other, length-set, get_or_read, length-replicate}
use Rattle.ground_theory.specs.declared.numbering.Named.{Named}
use Rattle.ground_theory.specs.inner.Joining.{label_at}
use Rattle.ground_theory.specs.inner.Numbering.{named_at, AreWithin}
use Rattle.ground_theory.specs.inner.Clashes.{LabelsWithin, class_place, held_at, AreNulls, AreFirm, IsNullClash}

-- the place of a cell is in the table
pub place_within : (labels : List ℕ) (named : List Named) (k : ℕ) → LabelsWithin labels → AreWithin (length labels) named → k < length named → class_place labels (named_at named k) < length labels * 64
place_within labels named k lw within h =
    let both = within k h in
    let row : label_at labels (named_at named k).row < length labels = lw (named_at named k).row both.0 in
    let column : (named_at named k).column < 64 = both.1 in
    omega arith

none_held : (n p : ℕ) (x : Named) → held_at (replicate n None) p ≡ Some x → ⊥
none_held zero p x some = cc some
none_held (suc n) zero x some = cc some
none_held (suc n) (suc p) x some = none_held n p x some

pub nulls_none : (labels : List ℕ) (nulls : List Named) (held : List (Option Named)) → held ≡ replicate (length labels * 64) None → AreNulls labels nulls 0 held
nulls_none labels nulls held is = record {
  count = ap length is ∙ length-replicate (length labels * 64) None;
  sound = λ p x some. absurd (none_held (length labels * 64) p x (ap (λ (h : List (Option Named)). held_at h p) (sym is) ∙ some));
  whole = λ k h. absurd (omega arith);
}

module _ (labels : List ℕ) (nulls : List Named) (upto : ℕ) (held : List (Option Named)) (is : AreNulls labels nulls upto held) (within : AreWithin (length labels) nulls) (lw : LabelsWithin labels)
    (listed : upto < length nulls) where
  pub nulls_more : AreNulls labels nulls (upto + 1) (set held (class_place labels (named_at nulls upto)) (Some (named_at nulls upto)))
  nulls_more =
      let x : Named = named_at nulls upto in
      let p : ℕ = class_place labels x in
      let new : List (Option Named) = set held p (Some x) in
      let here : p < length held = (let w = place_within labels nulls upto lw within listed in let c = is.count in omega arith) in
      let now : held_at new p ≡ Some x = get_or-set_same held p (Some x) None here in
      let rest : (q : ℕ) → q ≢ p → held_at new q ≡ held_at held q = λ q other. get_or-set_other held p q (Some x) None other in
      record {
        count = length-set held p (Some x) ∙ is.count;
        sound = λ q y some. elim (cases_eq q p) [
          | inl e ↦
              let both : Some x ≡ Some y = sym now ∙ ap (held_at new) (sym e) ∙ some in
              let one : x ≡ y = cc both in
              ((upto, listed, one), ap (class_place labels) (sym one) ∙ sym e)
          | inr e ↦ is.sound q y (sym (rest q e) ∙ some)
        ];
        whole = λ k h. elim (cases_eq (class_place labels (named_at nulls k)) p) [
          | inl e ↦ (x, ap (held_at new) e ∙ now)
          | inr e ↦ elim (cases_eq k upto) [
            | inl f ↦ absurd (e (ap (λ (n : ℕ). class_place labels (named_at nulls n)) f))
            | inr f ↦ (let was = is.whole k (omega arith) in (was.0, rest (class_place labels (named_at nulls k)) e ∙ was.1))
          ]
        ];
      }

module _ (labels : List ℕ) (nulls firms : List Named) (k : ℕ) (held : List (Option Named)) (is : AreNulls labels nulls (length nulls) held) (within : AreWithin (length labels) firms) (lw : LabelsWithin labels)
    (listed : k < length firms) (o : Option Named) (read : o ≡ slice_index_or held (class_place labels (named_at firms k)) o) where
  at : held_at held (class_place labels (named_at firms k)) ≡ o
  at = sym (get_or_read held (class_place labels (named_at firms k)) o (let w = place_within labels firms k lw within listed in let c = is.count in omega arith) read None)

  pub null_found : (null : Named) → o ≡ Some null → IsNullClash labels nulls firms (record { null = null; firm = named_at firms k })
  null_found null some =
      let was = is.sound (class_place labels (named_at firms k)) null (at ∙ some) in
      record { null = was.0; firm = (k, listed, refl); place = was.1 }

  pub firm_more : o ≡ None → AreFirm labels nulls firms k → AreFirm labels nulls firms (k + 1)
  firm_more none firm i m h g e = elim (cases_eq m k) [
    | inl f ↦
        let was = is.whole i h in
        let no : Some was.0 ≡ None = sym was.1 ∙ ap (held_at held) (e ∙ ap (λ (n : ℕ). class_place labels (named_at firms n)) f) ∙ at ∙ none in
        cc no
    | inr f ↦ firm i m h (omega arith) e
  ]
