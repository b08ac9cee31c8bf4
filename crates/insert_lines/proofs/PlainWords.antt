-- A plain word's characters are its bytes.
use Rattle.std.proofs.Common.{◌≡◌, ◌∙◌, sym, ap, refl, ℕ, zero, suc, ◌<◌, true, false, ◌&&◌, List, [], ◌∷◌, arith}
use Rattle.std.proofs.lemmas.Bool.{and_parts, false_from_ne_true}
use Rattle.std.proofs.lemmas.Bool.Decides.{nat_tests}
use Rattle.std.proofs.lemmas.Str.{encodes-IsAscii, encodes_same}
use Rattle.std.specs.Prelude.{slice_index, encode_utf8_all, is_none}
use Rattle.std.specs.List.{list_all}
use Rattle.std.specs.Str.{IsAscii}
use Rattle.lint_tables.specs.Words.{place_of, reserved}
use Rattle.lint_core.specs.PlainWord.{begins_word, goes_on_word, is_plain_word}

begins_ascii : (c : ℕ) → begins_word c ≡ true → c < 128
begins_ascii c h = grind (arith, nat_tests)

goes_on_ascii : (c : ℕ) → goes_on_word c ≡ true → c < 128
goes_on_ascii c h = grind (arith, nat_tests)

cons_ascii : (c : ℕ) (cs : List ℕ) → c < 128 → IsAscii cs → (i : ℕ) → slice_index (c ∷ cs) i < 128
cons_ascii c cs first rest zero = first
cons_ascii c cs first rest (suc i) = rest i

rest_ascii : (cs : List ℕ) → list_all goes_on_word cs ≡ true → IsAscii cs
rest_ascii [] h = λ i. omega arith
rest_ascii (c ∷ cs) h = λ i.
    let both = and_parts (goes_on_word c) (list_all goes_on_word cs) h in
    cons_ascii c cs (goes_on_ascii c both.0) (rest_ascii cs both.1) i

word_ascii : (cs : List ℕ) → is_plain_word cs ≡ true → IsAscii cs
word_ascii [] h = absurd cc
word_ascii (c ∷ cs) h =
    let both = and_parts (begins_word c && list_all goes_on_word cs) (is_none (place_of reserved (c ∷ cs))) h in
    let word = and_parts (begins_word c) (list_all goes_on_word cs) both.0 in
    cons_ascii c cs (begins_ascii c word.0) (rest_ascii cs word.1)

-- the bytes of a text are a plain word exactly where its characters are
pub plain_bytes : (cs : List ℕ) → is_plain_word (encode_utf8_all cs) ≡ is_plain_word cs
plain_bytes cs =
    elim (is_plain_word cs) as (λ plain. is_plain_word cs ≡ plain → is_plain_word (encode_utf8_all cs) ≡ plain) [
      | true ↦ λ h. ap is_plain_word (encodes-IsAscii cs (word_ascii cs h)) ∙ h
      | false ↦ λ h. false_from_ne_true (is_plain_word (encode_utf8_all cs)) (λ bytes.
          let same : cs ≡ encode_utf8_all cs = encodes_same cs (encode_utf8_all cs) (sym (encodes-IsAscii (encode_utf8_all cs) (word_ascii (encode_utf8_all cs) bytes))) in
          let both : true ≡ false = sym bytes ∙ (ap is_plain_word (sym same) ∙ h) in
          cc)
    ] refl
