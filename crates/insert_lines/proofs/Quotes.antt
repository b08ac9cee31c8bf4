-- Texts in which each mark stands twice, character by character.
use Rattle.std.proofs.Common.{◌≡◌, refl, ℕ, ◌++◌, List, [], ◌∷◌, map, true, false, if◌then◌else◌, nat_eq, encode_utf8_all, sym, ap, ◌∙◌, append_assoc, append-nil}
use Rattle.std.proofs.lemmas.List.{map-id}
use Rattle.std.proofs.lemmas.Str.{encodes-append}
use Rattle.insert_lines.specs.InsertText.{doubled}

doubled-append : (mark : ℕ) (xs ys : List ℕ) → doubled mark (xs ++ ys) ≡ doubled mark xs ++ doubled mark ys
unfolding doubled
doubled-append mark [] ys = refl
doubled-append mark (x ∷ xs) ys =
    elim (nat_eq x mark) as (λ same. (if same then x ∷ x ∷ doubled mark (xs ++ ys) else x ∷ doubled mark (xs ++ ys)) ≡ (if same then x ∷ x ∷ doubled mark xs else x ∷ doubled mark xs) ++ doubled mark ys) [
      | true ↦ ap (λ rest. x ∷ x ∷ rest) (doubled-append mark xs ys)
      | false ↦ ap (λ rest. x ∷ rest) (doubled-append mark xs ys)
    ]

-- none of them
pub doubled_none : (mark : ℕ) (start : List ℕ) → start ≡ start ++ encode_utf8_all (doubled mark [])
unfolding doubled
doubled_none mark start = sym (append-nil start)

-- a character more
pub doubled_more : (mark : ℕ) (start old new cs : List ℕ) (c : ℕ) → old ≡ start ++ encode_utf8_all (doubled mark cs)
    → new ≡ old ++ encode_utf8_all (doubled mark (c ∷ [])) → new ≡ start ++ encode_utf8_all (doubled mark (cs ++ c ∷ []))
doubled_more mark start old new cs c before pushed =
    let both : encode_utf8_all (doubled mark (cs ++ c ∷ [])) ≡ encode_utf8_all (doubled mark cs) ++ encode_utf8_all (doubled mark (c ∷ [])) =
    ap encode_utf8_all (doubled-append mark cs (c ∷ [])) ∙ encodes-append (doubled mark cs) (doubled mark (c ∷ [])) in
    pushed ∙ (ap (λ text. text ++ encode_utf8_all (doubled mark (c ∷ []))) before ∙ (append_assoc start _ _ ∙ ap (λ text. start ++ text) (sym both)))

-- all of them
pub doubled_whole : (mark : ℕ) (start out cs text : List ℕ) → out ≡ start ++ encode_utf8_all (doubled mark cs) → map (λ (c : ℕ). c) cs ≡ text
    → out ≡ start ++ encode_utf8_all (doubled mark text)
doubled_whole mark start out cs text pushed all = pushed ∙ ap (λ characters. start ++ encode_utf8_all (doubled mark characters)) (sym (map-id cs) ∙ all)
