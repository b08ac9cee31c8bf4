-- What a word is, where a part begins.
use Rattle.std.proofs.Common.{◌≡◌, sym, refl, inl, inr, ◌⊎◌, ℕ, Bool, true, false, not, ◌&&◌, nat_eq, List, [], ◌∷◌, ◌++◌, codes, Option, Some, None, if◌then◌else◌}
use Rattle.std.specs.Str.{bytes_eq}
use Rattle.std.proofs.lemmas.Slice.Eq.{bytes_eq-Decides}
use Rattle.std.proofs.lemmas.Option.{same_Some}
use Rattle.command_words.specs.declared.parts.Expected.TheVariants as expected
use Rattle.command_words.specs.CommandLine.{Part, file, budget, check, certs, begins_with_dash}
use Rattle.command_words.specs.WantedOf.{Reading, ends, is_option, read_value, behind, read_attached, read_part}
use Rattle.command_words.proofs.Behind.{behind_is}

pub data Form (word : List ℕ) (reading : Reading) : Type 0 where
  marker : word ≡ codes "--" → reading ≡ record { part = None; then_comes = expected.File } → Form word reading
  flag : word ≡ codes "--certs" → reading ≡ ends certs → Form word reading
  budget_alone : word ≡ codes "--budget" → reading ≡ record { part = None; then_comes = expected.BudgetValue } → Form word reading
  check_alone : word ≡ codes "--check" → reading ≡ record { part = None; then_comes = expected.CheckValue } → Form word reading
  with_budget : (value : List ℕ) → word ≡ codes "--budget=" ++ value → begins_with_dash value ≡ false → reading ≡ ends (budget value) → Form word reading
  with_check : (value : List ℕ) → word ≡ codes "--check=" ++ value → begins_with_dash value ≡ false → reading ≡ ends (check value) → Form word reading
  path : (begins_with_dash word ≡ false) ⊎ (word ≡ codes "-") → reading ≡ ends (file word) → Form word reading

-- which way a choice went
pub chosen : {A : Type 0} (b : Bool) (x y : Option A) (r : A) → (if b then x else y) ≡ Some r → ((b ≡ true) × (x ≡ Some r)) ⊎ ((b ≡ false) × (y ≡ Some r))
chosen true x y r is = inl (refl, is)
chosen false x y r is = inr (refl, is)

pub same_bytes : (xs ys : List ℕ) → bytes_eq xs ys ≡ true → xs ≡ ys
same_bytes xs ys is = (bytes_eq-Decides xs ys).0 is

pub value_read : (option : List ℕ → Part) (value : List ℕ) (reading : Reading) → read_value option value ≡ Some reading → (begins_with_dash value ≡ false) × (reading ≡ ends (option value))
value_read option value reading is =
    elim (chosen (begins_with_dash value) None (Some (ends (option value))) reading is) [
      | inl dashed ↦ cc
      | inr plain ↦ (plain.0, sym (same_Some _ _ plain.1))
    ]

path_word : (word : List ℕ) → is_option word ≡ false → (begins_with_dash word ≡ false) ⊎ (word ≡ codes "-")
path_word word is =
    (elim (begins_with_dash word) as (λ v. v ≡ begins_with_dash word → (v && not (bytes_eq word (codes "-"))) ≡ false → (begins_with_dash word ≡ false) ⊎ (word ≡ codes "-")) [
      | true ↦ λ same other. inr (same_bytes word (codes "-") (single (bytes_eq word (codes "-")) other))
      | false ↦ λ same other. inl (sym same)
    ]) refl is
  where
    single : (b : Bool) → not b ≡ false → b ≡ true
    single true e = refl
    single false e = cc

attached : (word : List ℕ) (in_budget in_check : Option (List ℕ)) (reading : Reading) →
    behind (codes "--budget=") word ≡ in_budget → behind (codes "--check=") word ≡ in_check →
    read_attached in_budget in_check word ≡ Some reading → Form word reading
attached word (Some value) in_check reading is_budget is_check is =
    let parts = value_read budget value reading is in
    with_budget value (behind_is (codes "--budget=") word value is_budget) parts.0 parts.1
attached word None (Some value) reading is_budget is_check is =
    let parts = value_read check value reading is in
    with_check value (behind_is (codes "--check=") word value is_check) parts.0 parts.1
attached word None None reading is_budget is_check is =
    elim (chosen (is_option word) None (Some (ends (file word))) reading is) [
      | inl unknown ↦ cc
      | inr plain ↦ path (path_word word plain.0) (sym (same_Some _ _ plain.1))
    ]

-- a word that is read has one of the forms
pub form_of : (word : List ℕ) (reading : Reading) → read_part word ≡ Some reading → Form word reading
form_of word reading is =
    elim (chosen (bytes_eq word (codes "--")) _ _ reading is) [
      | inl (same, then_is) ↦ marker (same_bytes word _ same) (sym (same_Some _ _ then_is))
      | inr (other, rest) ↦ elim (chosen (bytes_eq word (codes "--certs")) _ _ reading rest) [
        | inl (same, then_is) ↦ flag (same_bytes word _ same) (sym (same_Some _ _ then_is))
        | inr (other, rest) ↦ elim (chosen (bytes_eq word (codes "--budget")) _ _ reading rest) [
          | inl (same, then_is) ↦ budget_alone (same_bytes word _ same) (sym (same_Some _ _ then_is))
          | inr (other, rest) ↦ elim (chosen (bytes_eq word (codes "--check")) _ _ reading rest) [
            | inl (same, then_is) ↦ check_alone (same_bytes word _ same) (sym (same_Some _ _ then_is))
            | inr (other, rest) ↦ attached word (behind (codes "--budget=") word) (behind (codes "--check=") word) reading refl refl rest
          ]
        ]
      ]
    ]

-- ---- and back

pub budget_attached : (value : List ℕ) → begins_with_dash value ≡ false → read_part (codes "--budget=" ++ value) ≡ Some (ends (budget value))
budget_attached value plain = rw plain refl

pub check_attached : (value : List ℕ) → begins_with_dash value ≡ false → read_part (codes "--check=" ++ value) ≡ Some (ends (check value))
check_attached value plain = rw plain refl

plain_path : (word : List ℕ) → begins_with_dash word ≡ false → read_part word ≡ Some (ends (file word))
plain_path [] plain = refl
plain_path (b ∷ bs) plain = let apart : nat_eq b 45 ≡ false = plain in
    let no_option : is_option (b ∷ bs) ≡ false = rw apart refl in
    rw apart (rw no_option refl)

pub path_read : (word : List ℕ) → (begins_with_dash word ≡ false) ⊎ (word ≡ codes "-") → read_part word ≡ Some (ends (file word))
path_read word (inl plain) = plain_path word plain
path_read word (inr dash) = rw dash refl
