-- Lines are read part by part: what was read is a line of the grammar, and each line of the grammar is read.
use Rattle.std.proofs.Common.{◌≡◌, ◌∙◌, sym, ap, subst, refl, inl, inr, ℕ, false, List, [], ◌∷◌, ◌++◌, map, codes, append_assoc, Option, Some, None}
use Rattle.std.proofs.lemmas.List.{append-nil}
use Rattle.std.proofs.lemmas.Option.{same_Some}
use Rattle.command_words.specs.declared.parts.Expected.{Expected}
use Rattle.command_words.specs.declared.parts.Expected.TheVariants as expected
use Rattle.command_words.specs.CommandLine.{Part, file, budget, check, certs, begins_with_dash, IsPart, AreParts, IsLine}
use Rattle.command_words.specs.WantedOf.{Reading, ends, read_value, read_part, read_word, with_part, go_on, parts_from}
use Rattle.command_words.proofs.WordForms.{Form, marker, flag, budget_alone, check_alone, with_budget, with_check, path, value_read, form_of, budget_attached, check_attached, path_read}

-- ---- what was read is a line

-- a reading, and the parts behind it
record Went (first : Option Reading) (rest : Expected → Option (List Part)) (parts : List Part) : Type 0 where
  reading : Reading
  is_first : first ≡ Some reading
  others : List Part
  is_rest : rest reading.then_comes ≡ Some others
  whole : with_part reading.part (Some others) ≡ Some parts

went : (first : Option Reading) (rest : Expected → Option (List Part)) (parts : List Part) → go_on first rest ≡ Some parts → Went first rest parts
went None rest parts is = cc
went (Some reading) rest parts is =
    (elim (rest reading.then_comes) as (λ r. rest reading.then_comes ≡ r → with_part reading.part r ≡ Some parts → Went (Some reading) rest parts) [
      | None ↦ λ same gone. cc
      | Some others ↦ λ same gone. record { reading = reading; is_first = refl; others = others; is_rest = same; whole = gone }
    ]) refl is

-- a part in front of a line
line_more : (part : Part) (own words : List (List ℕ)) (parts : List Part) → IsPart part own → IsLine parts words → IsLine (part ∷ parts) (own ++ words)
line_more part own words parts is (inl are) = inl (own, words, refl, is, are)
line_more part own words parts is (inr marked) = inr (record {
  front = part ∷ marked.front;
  written = own ++ marked.written;
  files = marked.files;
  whole = ap (λ (rest : List (List ℕ)). own ++ rest) marked.whole ∙ sym (append_assoc own marked.written (codes "--" ∷ marked.files));
  in_front = (own, marked.written, refl, is, marked.in_front);
  all = ap (λ (rest : List Part). part ∷ rest) marked.all;
})

-- an option in front of its value
record IsValued (option : List ℕ → Part) (parts : List Part) (words : List (List ℕ)) : Type 0 where
  value : List ℕ
  others : List Part
  rest : List (List ℕ)
  whole : words ≡ value ∷ rest
  plain : begins_with_dash value ≡ false
  all : parts ≡ option value ∷ others
  line : IsLine others rest

abbrev IsLineFrom : Expected → List Part → List (List ℕ) → Type 0
IsLineFrom expected.Part parts words = IsLine parts words
IsLineFrom expected.BudgetValue parts words = IsValued budget parts words
IsLineFrom expected.CheckValue parts words = IsValued check parts words
IsLineFrom expected.File parts words = parts ≡ map file words

same_line : {parts others : List Part} {words : List (List ℕ)} → Some others ≡ Some parts → IsLine others words → IsLine parts words
same_line {parts} {others} {words} same line = subst (λ (p : List Part). IsLine p words) (same_Some others parts same) line

module _ (word : List ℕ) (words : List (List ℕ)) (reading : Reading) (others parts : List Part)
    (is_rest : parts_from reading.then_comes words ≡ Some others) (whole : with_part reading.part (Some others) ≡ Some parts)
    (behind : (then_comes : Expected) (more : List Part) → parts_from then_comes words ≡ Some more → IsLineFrom then_comes more words) where
  -- a part that is one word
  one_word : (part : Part) → reading ≡ ends part → IsPart part (word ∷ []) → IsLine parts (word ∷ words)
  one_word part is own =
      let rest : parts_from expected.Part words ≡ Some others = rw is at is_rest in
      let all : Some (part ∷ others) ≡ Some parts = rw is at whole in
      same_line all (line_more part (word ∷ []) words others own (behind expected.Part others rest))

  -- an option that has its value in the next word
  two_words : (option : List ℕ → Part) → IsValued option others words → Some others ≡ Some parts → ((value : List ℕ) → begins_with_dash value ≡ false → IsPart (option value) (word ∷ value ∷ [])) → IsLine parts (word ∷ words)
  two_words option valued all own =
      let line : IsLine (option valued.value ∷ valued.others) (word ∷ valued.value ∷ valued.rest) =
      line_more (option valued.value) (word ∷ valued.value ∷ []) valued.rest valued.others (own valued.value valued.plain) valued.line in
      let here : IsLine others (word ∷ words) = rw (valued.whole, valued.all) line in
      same_line all here

  line_of : Form word reading → IsLine parts (word ∷ words)
  line_of (marker is e) =
      let rest : parts_from expected.File words ≡ Some others = rw e at is_rest in
      let all : Some others ≡ Some parts = rw e at whole in
      let files : others ≡ map file words = behind expected.File others rest in
      inr (record {
        front = [];
        written = [];
        files = words;
        whole = ap (λ (w : List ℕ). w ∷ words) is;
        in_front = refl;
        all = sym (same_Some _ _ all) ∙ files;
      })
  line_of (flag is e) = one_word certs e (ap (λ (w : List ℕ). w ∷ []) is)
  line_of (budget_alone is e) =
      let rest : parts_from expected.BudgetValue words ≡ Some others = rw e at is_rest in
      let all : Some others ≡ Some parts = rw e at whole in
      two_words budget (behind expected.BudgetValue others rest) all (λ value plain. (plain, inl (ap (λ (w : List ℕ). w ∷ value ∷ []) is)))
  line_of (check_alone is e) =
      let rest : parts_from expected.CheckValue words ≡ Some others = rw e at is_rest in
      let all : Some others ≡ Some parts = rw e at whole in
      two_words check (behind expected.CheckValue others rest) all (λ value plain. (plain, inl (ap (λ (w : List ℕ). w ∷ value ∷ []) is)))
  line_of (with_budget value is plain e) = one_word (budget value) e (plain, inr (ap (λ (w : List ℕ). w ∷ []) is))
  line_of (with_check value is plain e) = one_word (check value) e (plain, inr (ap (λ (w : List ℕ). w ∷ []) is))
  line_of (path plain e) = one_word (file word) e (plain, refl)

  valued_of : (option : List ℕ → Part) → read_value option word ≡ Some reading → IsValued option parts (word ∷ words)
  valued_of option is =
      let read = value_read option word reading is in
      let rest : parts_from expected.Part words ≡ Some others = rw (read.1) at is_rest in
      let all : Some (option word ∷ others) ≡ Some parts = rw (read.1) at whole in
      record {
        value = word;
        others = others;
        rest = words;
        whole = refl;
        plain = read.0;
        all = sym (same_Some _ _ all);
        line = behind expected.Part others rest;
      }

  files_of : reading ≡ record { part = Some (file word); then_comes = expected.File } → parts ≡ map file (word ∷ words)
  files_of is =
      let rest : parts_from expected.File words ≡ Some others = rw is at is_rest in
      let all : Some (file word ∷ others) ≡ Some parts = rw is at whole in
      sym (same_Some _ _ all) ∙ ap (λ (more : List Part). file word ∷ more) (behind expected.File others rest)

sound : (then_comes : Expected) (words : List (List ℕ)) (parts : List Part) → parts_from then_comes words ≡ Some parts → IsLineFrom then_comes parts words
sound expected.Part [] parts is = same_line is (inl refl)
sound expected.BudgetValue [] parts is = cc
sound expected.CheckValue [] parts is = cc
sound expected.File [] parts is = sym (same_Some [] parts is)
sound expected.Part (word ∷ words) parts is =
    let w = went (read_part word) (λ then_comes. parts_from then_comes words) parts is in
    line_of word words w.reading w.others parts w.is_rest w.whole (λ then_comes more e. sound then_comes words more e) (form_of word w.reading w.is_first)
sound expected.BudgetValue (word ∷ words) parts is =
    let w = went (read_value budget word) (λ then_comes. parts_from then_comes words) parts is in
    valued_of word words w.reading w.others parts w.is_rest w.whole (λ then_comes more e. sound then_comes words more e) budget w.is_first
sound expected.CheckValue (word ∷ words) parts is =
    let w = went (read_value check word) (λ then_comes. parts_from then_comes words) parts is in
    valued_of word words w.reading w.others parts w.is_rest w.whole (λ then_comes more e. sound then_comes words more e) check w.is_first
sound expected.File (word ∷ words) parts is =
    let w = went (read_word expected.File word) (λ then_comes. parts_from then_comes words) parts is in
    files_of word words w.reading w.others parts w.is_rest w.whole (λ then_comes more e. sound then_comes words more e) (sym (same_Some _ _ w.is_first))

pub line_sound : (words : List (List ℕ)) (parts : List Part) → parts_from expected.Part words ≡ Some parts → IsLine parts words
line_sound words parts is = sound expected.Part words parts is

-- ---- a line is read

no_part : (r : Option (List Part)) → with_part None r ≡ r
no_part None = refl
no_part (Some parts) = refl

-- a part is read, and then what stands behind it
part_read : (part : Part) (own rest : List (List ℕ)) → IsPart part own → parts_from expected.Part (own ++ rest) ≡ with_part (Some part) (parts_from expected.Part rest)
part_read (file name) own rest (plain, is) = let read : read_part name ≡ Some (ends (file name)) = path_read name plain in rw is (rw read refl)
part_read (budget value) own rest (plain, inl is) = rw is (rw plain (no_part _))
part_read (budget value) own rest (plain, inr is) =
    let read : read_part (codes "--budget=" ++ value) ≡ Some (ends (budget value)) = budget_attached value plain in rw is (rw read refl)
part_read (check value) own rest (plain, inl is) = rw is (rw plain (no_part _))
part_read (check value) own rest (plain, inr is) =
    let read : read_part (codes "--check=" ++ value) ≡ Some (ends (check value)) = check_attached value plain in rw is (rw read refl)
part_read certs own rest is = rw is refl

parts_read : (parts : List Part) (words rest : List (List ℕ)) (others : List Part) → AreParts parts words → parts_from expected.Part rest ≡ Some others → parts_from expected.Part (words ++ rest) ≡ Some (parts ++ others)
parts_read [] words rest others is then_is = rw is then_is
parts_read (part ∷ parts) words rest others (own, more, is, own_is, are) then_is =
    let inner : parts_from expected.Part (more ++ rest) ≡ Some (parts ++ others) = parts_read parts more rest others are then_is in
    ap (parts_from expected.Part) (ap (λ (w : List (List ℕ)). w ++ rest) is ∙ append_assoc own more rest) ∙ part_read part own (more ++ rest) own_is ∙ ap (with_part (Some part)) inner

files_read : (words : List (List ℕ)) → parts_from expected.File words ≡ Some (map file words)
files_read [] = refl
files_read (word ∷ words) = ap (with_part (Some (file word))) (files_read words)

pub line_read : (parts : List Part) (words : List (List ℕ)) → IsLine parts words → parts_from expected.Part words ≡ Some parts
line_read parts words (inl are) =
    let read : parts_from expected.Part (words ++ []) ≡ Some (parts ++ []) = parts_read parts words [] [] are refl in
    ap (parts_from expected.Part) (sym (append-nil words)) ∙ read ∙ ap (λ (p : List Part). Some p) (append-nil parts)
line_read parts words (inr marked) =
    let behind : parts_from expected.Part (codes "--" ∷ marked.files) ≡ Some (map file marked.files) = ap (with_part None) (files_read marked.files) in
    ap (parts_from expected.Part) marked.whole ∙ parts_read marked.front marked.written (codes "--" ∷ marked.files) (map file marked.files) marked.in_front behind ∙ ap (λ (p : List Part). Some p) (sym marked.all)
