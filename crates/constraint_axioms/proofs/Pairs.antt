-- Two lists side by side, of which the shorter has come to its end.
use Rattle.std.proofs.Common.{◌≡◌, ◌∙◌, sym, ap, ℕ, List, [], ◌++◌, length, drop, min, arith}
use Rattle.std.proofs.lemmas.List.{append-nil, length-drop, nil_from_length}
use Rattle.std.proofs.lemmas.Slice.Zip.{length-zip}
use Rattle.std.specs.List.{flat_map, zip}

no_pair : (ks vs : List ℕ) (n : ℕ) → n ≡ min (length ks) (length vs) → zip (drop n ks) (drop n vs) ≡ []
no_pair ks vs n end =
    nil_from_length (zip (drop n ks) (drop n vs)) (length-zip (drop n ks) (drop n vs) ∙ omega (arith, end, length-drop n ks, length-drop n vs))

pub all_paired : {B : Type 0} (f : (ℕ × ℕ) → List B) (ks vs : List ℕ) (n : ℕ) → n ≡ min (length ks) (length vs) → (parts whole : List B) →
    parts ++ flat_map f (zip (drop n ks) (drop n vs)) ≡ whole → parts ≡ whole
all_paired f ks vs n end parts whole so_far = sym (append-nil parts) ∙ (ap (λ pairs. parts ++ flat_map f pairs) (sym (no_pair ks vs n end)) ∙ so_far)
