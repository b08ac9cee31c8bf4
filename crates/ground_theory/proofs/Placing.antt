-- A cell gets a variable.
use Rattle.std.proofs.Common.{◌≡◌, ◌≢◌, ◌∙◌, sym, ap, refl, subst, ℕ, ◌<◌, ◌+◌, ◌*◌, List, [], ◌∷◌, ◌++◌, length, Option, Some, None, set, replicate, inl, inr, arith, zero, suc}
use Rattle.std.proofs.lemmas.Bool.{cases_eq}
use Rattle.std.proofs.lemmas.List.{get_or-set_same, get_or-set_other, length-set, length_push, get_or_push, get_or_append_left, get_or_read, length-replicate}
use Rattle.std.proofs.lemmas.List.Sums.{sum_by-set}
use Rattle.std.proofs.lemmas.List.Folds.{sum_by-replicate}
use Rattle.std.specs.Prelude.{slice_index_or, false, true, is_some}
use Rattle.ground_theory.specs.declared.numbering.Cell.{Cell}
use Rattle.ground_theory.specs.declared.numbering.Named.{Named}
use Rattle.ground_theory.specs.inner.Numbering.{label_of, place_at, number_at, cell_at, named_at, open_one, open_count, IsPlaced, IsKept, IsNumbering, IsAdded, IsClassAdded, IsNumbered, IsOfNamed, IsOfClass}

-- one place in the table has no two cells
pub one_place : (row column other second : ℕ) → column < 64 → second < 64 → row * 64 + column ≡ other * 64 + second → (row ≡ other) × (column ≡ second)
one_place row column other second c d e = (let r : row ≡ other = omega arith in (r, omega arith))

module _ (rows row column : ℕ) (places : List (Option ℕ)) (cells : List Cell) (is : IsNumbering rows places cells) (row_in : row < rows) (column_in : column < 64) where
  pub there_already : (n : ℕ) → number_at places row column ≡ Some n → IsAdded rows row column places cells places cells
  there_already n some = record {
    numbering = is;
    placed = (n, some);
    keeps = λ q m e. e;
    from = λ m h. inl (h, refl);
  }

  here : row * 64 + column < length places
  here = let c = is.count in omega arith

  module _ (fresh : number_at places row column ≡ None) where
    pub added : IsAdded rows row column places cells (set places (row * 64 + column) (Some (length cells))) (cells ++ record { row = row; column = column } ∷ [])
    added =
        let cell : Cell = record { row = row; column = column } in
        let at : ℕ = row * 64 + column in
        let new : List (Option ℕ) = set places at (Some (length cells)) in
        let more : List Cell = cells ++ cell ∷ [] in
        let size : length more ≡ length cells + 1 = length_push cells cell in
        let none : Cell = record { row = 0; column = 0 } in
        let now : place_at new at ≡ Some (length cells) = get_or-set_same places at (Some (length cells)) None here in
        let rest : (q : ℕ) → q ≢ at → place_at new q ≡ place_at places q = λ q other. get_or-set_other places at q (Some (length cells)) None other in
        let last : cell_at more (length cells) ≡ cell = get_or_push cells cell none (length cells) refl in
        let front : (n : ℕ) → n < length cells → cell_at more n ≡ cell_at cells n = λ n h. get_or_append_left cells (cell ∷ []) none n h in
        let keeps : (q n : ℕ) → place_at places q ≡ Some n → place_at new q ≡ Some n =
        λ q n some. rest q (λ e. (let no : Some n ≡ None = sym some ∙ ap (place_at places) e ∙ fresh in cc no)) ∙ some in
        record {
          numbering = record {
            count = length-set places at (Some (length cells)) ∙ is.count;
            balance =
                (let sums : open_count new + open_one (place_at places at) ≡ open_count places + 0 = sum_by-set open_one places at (Some (length cells)) None here in
                let one : open_one (place_at places at) ≡ 1 = ap open_one fresh in
                let was : open_count places + length cells ≡ rows * 64 = is.balance in
                omega arith);
            placed = λ q n some. elim (cases_eq q at) [
              | inl e ↦
                  let both : Some (length cells) ≡ Some n = sym now ∙ ap (place_at new) (sym e) ∙ some in
                  let one : length cells ≡ n = cc both in
                  ((let s = size in omega arith), ap (λ (c : Cell). c.row * 64 + c.column) (ap (cell_at more) (sym one) ∙ last) ∙ sym e)
              | inr e ↦
                  let was = is.placed q n (sym (rest q e) ∙ some) in
                  ((let s = size in let h = was.0 in omega arith), ap (λ (c : Cell). c.row * 64 + c.column) (front n was.0) ∙ was.1)
            ];
            kept = λ n h. elim (cases_eq n (length cells)) [
              | inl e ↦
                  let is_cell : cell_at more n ≡ cell = ap (cell_at more) e ∙ last in
                  subst (λ (c : Cell). IsKept rows new c n) (sym is_cell) (record { row = row_in; column = column_in; number = now ∙ ap Some (sym e) })
              | inr e ↦
                  let low : n < length cells = (let s = size in omega arith) in
                  let was = is.kept n low in
                  subst (λ (c : Cell). IsKept rows new c n) (sym (front n low)) (record { row = was.row; column = was.column; number = keeps _ n was.number })
            ];
          };
          placed = (length cells, now);
          keeps = keeps;
          from = λ n h. elim (cases_eq n (length cells)) [
            | inl e ↦ inr (ap (cell_at more) e ∙ last)
            | inr e ↦ (let low : n < length cells = (let s = size in omega arith) in inl (low, front n low))
          ];
        }

-- ---- the row terms of a class

module _ (labels : List ℕ) (row column upto : ℕ) (places : List (Option ℕ)) (cells : List Cell) (now : List (Option ℕ)) (more : List Cell)
    (is : IsClassAdded labels row column upto places cells now more) where
  pub passed_more : (label_of labels upto ≡ label_of labels row → ⊥) → IsClassAdded labels row column (upto + 1) places cells now more
  passed_more other = record {
    numbering = is.numbering;
    placed = λ k h e. elim (cases_eq k upto) [
      | inl f ↦ absurd (other (ap (label_of labels) (sym f) ∙ e))
      | inr f ↦ is.placed k (omega arith) e
    ];
    keeps = is.keeps;
    from = is.from;
  }

  pub added_more : label_of labels upto ≡ label_of labels row → (next : List (Option ℕ)) (rest : List Cell) → IsAdded (length labels) upto column now more next rest →
      IsClassAdded labels row column (upto + 1) places cells next rest
  added_more same next rest added = record {
    numbering = added.numbering;
    placed = λ k h e. elim (cases_eq k upto) [
      | inl f ↦ subst (λ (r : ℕ). IsPlaced next r column) (sym f) added.placed
      | inr f ↦ (let was = is.placed k (omega arith) e in (was.0, added.keeps (k * 64 + column) was.0 was.1))
    ];
    keeps = λ q n e. added.keeps q n (is.keeps q n e);
    from = λ n h. elim (added.from n h) [
      | inl old ↦ elim (is.from n old.0) [
        | inl older ↦ inl (older.0, old.1 ∙ older.1)
        | inr of ↦ inr (subst (IsOfClass labels row column) (sym old.1) of)
      ]
      | inr new ↦ inr (subst (IsOfClass labels row column) (sym new) (refl, sym same))
    ];
  }

pub none_added : (labels : List ℕ) (row column : ℕ) (places : List (Option ℕ)) (cells : List Cell) → IsNumbering (length labels) places cells → IsClassAdded labels row column 0 places cells places cells
none_added labels row column places cells is = record { numbering = is; placed = λ k h. absurd (omega arith); keeps = λ q n e. e; from = λ n h. inl (h, refl) }

-- ---- the literals one after the other

no_open : (n : ℕ) (k : ℕ) (m : ℕ) → place_at (replicate n None) k ≡ Some m → ⊥
no_open zero k m some = cc some
no_open (suc n) zero m some = cc some
no_open (suc n) (suc k) m some = no_open n k m some

all_open : (n : ℕ) → open_count (replicate n None) ≡ n
all_open n = let h : open_count (replicate n None) ≡ n * open_one None = sum_by-replicate open_one n None in omega arith

pub none_numbered : (labels : List ℕ) (named : List Named) (places : List (Option ℕ)) (cells : List Cell) → places ≡ replicate (length labels * 64) None → cells ≡ [] → IsNumbered labels named 0 places cells
none_numbered labels named places cells is none =
    let empty : length cells ≡ 0 = ap length none in
    record {
      numbering = record {
        count = ap length is ∙ length-replicate (length labels * 64) None;
        balance = (let a : open_count places ≡ length labels * 64 = ap open_count is ∙ all_open (length labels * 64) in omega arith);
        placed = λ q n some. absurd (no_open (length labels * 64) q n (ap (λ (ps : List (Option ℕ)). place_at ps q) (sym is) ∙ some));
        kept = λ n h. absurd (omega arith);
      };
      placed = λ k h. absurd (omega arith);
      from = λ n h. absurd (omega arith);
    }

pub class_more : (labels : List ℕ) (named : List Named) (upto : ℕ) (places : List (Option ℕ)) (cells : List Cell) → IsNumbered labels named upto places cells → upto < length named →
    (one : Named) → named_at named upto ≡ one → (next : List (Option ℕ)) (rest : List Cell) → IsClassAdded labels one.row one.column (length labels) places cells next rest →
    IsNumbered labels named (upto + 1) next rest
class_more labels named upto places cells is listed one one_is next rest added = record {
  numbering = added.numbering;
  placed = λ k h row row_in e. elim (cases_eq k upto) [
    | inl f ↦
        let same : named_at named k ≡ one = ap (named_at named) f ∙ one_is in
        subst (λ (c : ℕ). IsPlaced next row c) (sym (ap (λ (m : Named). m.column) same)) (added.placed row row_in (e ∙ ap (λ (m : Named). label_of labels m.row) same))
    | inr f ↦ (let was = is.placed k (omega arith) row row_in e in (was.0, added.keeps (row * 64 + (named_at named k).column) was.0 was.1))
  ];
  from = λ n h. elim (added.from n h) [
    | inl old ↦ subst (IsOfNamed labels named) (sym old.1) (is.from n old.0)
    | inr of ↦ record { place = upto; listed = listed; of = (of.0 ∙ sym (ap (λ (m : Named). m.column) one_is), ap (λ (m : Named). label_of labels m.row) one_is ∙ of.1) }
  ];
}

-- ---- what a table is read as

pub none_read : (places : List (Option ℕ)) (p : ℕ) (o : Option ℕ) → p < length places → o ≡ slice_index_or places p o → is_some o ≡ false → place_at places p ≡ None
none_read places p None h is test = sym (get_or_read places p None h is None)
none_read places p (Some n) h is test = cc test

pub some_read : (places : List (Option ℕ)) (p : ℕ) (o : Option ℕ) → p < length places → o ≡ slice_index_or places p o → is_some o ≡ true → (n : ℕ) × (place_at places p ≡ Some n)
some_read places p None h is test = cc test
some_read places p (Some n) h is test = (n, sym (get_or_read places p (Some n) h is None))
