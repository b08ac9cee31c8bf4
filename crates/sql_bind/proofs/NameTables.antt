-- A name that is looked up by its bytes is looked up by its characters.
use Rattle.std.proofs.Common.{◌≡◌, ℕ, ◌+◌, Bool, true, false, cond, ◌&&◌, ◌||◌, not, List, [], ◌∷◌, ◌++◌, map, length, nat_lt, is_some, Option, Some, None, position, refl, sym, ap, ◌∙◌, true≢false, Bor, encode_utf8_all, arith}
use Rattle.std.specs.List.{list_any, list_all, position_or_len, position_from}
use Rattle.std.specs.Str.{bytes_eq, chars}
use Rattle.std.proofs.lemmas.List.{length-map, map-append}
use Rattle.std.proofs.lemmas.Iterator.Adapters.{position_from-zero}
use Rattle.std.proofs.lemmas.Slice.Eq.{bytes_eq-Decides}
use Rattle.lint_base.proofs.Lists.{both_left, both_right, same_tests}
use Rattle.sql_bind.specs.inner.NameTables.{name_place, with_name}

abbrev pub is_text : Bor (List ℕ) → Bool
is_text key = bytes_eq (encode_utf8_all (chars key.now)) key.now

abbrev pub characters_of : Bor (List ℕ) → List ℕ
characters_of key = chars key.now

pub same_text : (text name : List ℕ) → chars text ≡ name → text ≡ encode_utf8_all name → (key : List ℕ) → bytes_eq (encode_utf8_all (chars key)) key ≡ true → bytes_eq text key ≡ bytes_eq (chars key) name
same_text text name characters bytes key valid =
    let is : encode_utf8_all (chars key) ≡ key = (bytes_eq-Decides (encode_utf8_all (chars key)) key).0 valid in
    same_tests (bytes_eq text key) (bytes_eq (chars key) name)
    (λ h. (bytes_eq-Decides (chars key) name).1 (sym (ap chars ((bytes_eq-Decides text key).0 h)) ∙ characters))
    (λ h. (bytes_eq-Decides text key).1 (bytes ∙ ap encode_utf8_all (sym ((bytes_eq-Decides (chars key) name).0 h)) ∙ is))

any_first : (b : Bool) (n : ℕ) (rest : Bool) (place : Option ℕ) → rest ≡ is_some place → (b || rest) ≡ is_some (cond b (Some n) place)
any_first true n rest place h = refl
any_first false n rest place h = h

-- a name is there, where it has a number
any_from : {A : Type 0} (test : A → Bool) (n : ℕ) (xs : List A) → list_any test xs ≡ is_some (position_from test n xs)
any_from test n [] = refl
any_from test n (x ∷ xs) = any_first (test x) n (list_any test xs) (position_from test (n + 1) xs) (any_from test (n + 1) xs)

pub any_position : {A : Type 0} (test : A → Bool) (xs : List A) → list_any test xs ≡ is_some (position test xs)
any_position test xs = any_from test 0 xs ∙ sym (ap is_some (position_from-zero test xs))

module _ (text name : List ℕ) (characters : chars text ≡ name) (bytes : text ≡ encode_utf8_all name) where
  before_text : (keys : List (Bor (List ℕ))) → list_all is_text keys ≡ true → position_or_len (λ key. bytes_eq text key.now) keys ≡ position_or_len (λ other. bytes_eq other name) (map characters_of keys)
  before_text [] h = refl
  before_text (key ∷ keys) h =
      let here = same_text text name characters bytes key.now (both_left (is_text key) (list_all is_text keys) h) in
      let rest = before_text keys (both_right (is_text key) (list_all is_text keys) h) in
      λ j. cond (not (here j)) (1 + rest j) 0

  pub position_text : (keys : List (Bor (List ℕ))) → list_all is_text keys ≡ true → position (λ key. bytes_eq text key.now) keys ≡ name_place (map characters_of keys) name
  position_text keys h =
      let before = before_text keys h in
      let size : length keys ≡ length (map characters_of keys) = sym (length-map keys characters_of) in
      λ j. cond (nat_lt (before j) (size j)) (Some (before j)) None

  pub any_text : (keys : List (Bor (List ℕ))) → list_all is_text keys ≡ true → list_any (λ key. bytes_eq text key.now) keys ≡ is_some (name_place (map characters_of keys) name)
  any_text keys h = any_position (λ (key : Bor (List ℕ)). bytes_eq text key.now) keys ∙ ap is_some (position_text keys h)

-- the names after one was added
pub names_added : (there : Bool) (place : Option ℕ) (keys : List (Bor (List ℕ))) (text : Bor (List ℕ)) (name : List ℕ) → there ≡ is_some place → chars text.now ≡ name → map characters_of (cond there keys (keys ++ text ∷ [])) ≡ with_name place (map characters_of keys) name
names_added true None keys text name is characters = absurd (true≢false is)
names_added true (Some place) keys text name is characters = refl
names_added false None keys text name is characters = map-append characters_of keys (text ∷ []) ∙ ap (λ n. map characters_of keys ++ n ∷ []) characters
names_added false (Some place) keys text name is characters = absurd (true≢false (sym is))

-- the columns, tables or entries of a name are looked up by their names
before_named : {A : Type 0} (name_of : A → List ℕ) (test : List ℕ → Bool) (xs : List A) → position_or_len test (map name_of xs) ≡ position_or_len (λ x. test (name_of x)) xs
before_named name_of test [] = refl
before_named name_of test (x ∷ xs) = let rest = before_named name_of test xs in λ j. cond (not (test (name_of x))) (1 + rest j) 0

pub name_place-map : {A : Type 0} (name_of : A → List ℕ) (xs : List A) (name : List ℕ) → name_place (map name_of xs) name ≡ position (λ x. bytes_eq (name_of x) name) xs
name_place-map name_of xs name =
    let before = before_named name_of (λ other. bytes_eq other name) xs in
    let size = length-map xs name_of in
    λ j. cond (nat_lt (before j) (size j)) (Some (before j)) None
