-- The text of a part of a file is read as the part's JSON value, also before the end of a line.
use Rattle.std.proofs.Common.{◌≡◌, ◌∙◌, sym, ap, subst, refl, ℕ, suc, ◌^◌, ◌<◌, ◌≤◌, ℤ, pos, negsuc, Bool, true, false, List, [], ◌∷◌, ◌++◌, map, Option, Some, option_map, option_and_then, decimal, ◌⊎◌, inl, inr, arith, append_assoc, append-nil}
use Rattle.std.proofs.lemmas.Bool.{and_parts, ltb-true}
use Rattle.std.specs.Fmt.{signed_decimal}
use Rattle.std.specs.List.{list_all, AllByRecursion}
use Rattle.std.specs.Prelude.{⊤}
use Rattle.json.specs.Token as Token
use Rattle.json.specs.Lex.{lex, between, token, string_token, tokens, punctuate, fresh}
use Rattle.json.specs.Json as grammar
use Rattle.json.specs.Print.{quoted, escape, IsNumber}
use Rattle.json.specs.Tree as tree
use Rattle.json.specs.Word.{ends_word, word}
use Rattle.json.proofs.Printed.Decimals.{IsNumber-decimal, IsNumber-signed_decimal}
use Rattle.json.proofs.Printed.Numbers.{lex-number, in_word-ended}
use Rattle.json.proofs.Printed.Strings.{content-escape, lex-escape}
use Rattle.json.proofs.Printed.Tokens.{tokens-print}
use Rattle.json.proofs.Printed.Trees.{ArePrintable-json_tokens, value-json_tokens}
use Rattle.serde_json.specs.Data.{Data, null, number, unsigned, string, array, item, object, Members, member, no_members}
use Rattle.serde_json.specs.Find.{of_integer}
use Rattle.serde_json.specs.Read.{of_json, of_items, of_members, read}
use Rattle.serde_json.specs.View.{items_of}
use Rattle.serde_json.specs.Written.{outline, items_outline, members_outline, compact_text, items_text, members_text, comma_if}
use Rattle.serde_json.proofs.Numbers.{number_of-decimal, number_of-negative}
use Rattle.serde_json.proofs.Texts.{print-outline}
use Rattle.cert_format.specs.Forms.{whole, list}
use Rattle.cert_format.specs.Fitting.{is_small}

-- what stands behind the text may be exchanged for what has the same lexemes
abbrev pub Passes : List ℕ → Type 0
Passes s = (r r' : List ℕ) → ends_word r ≡ true → ends_word r' ≡ true → lex between r ≡ lex between r' → lex between (s ++ r) ≡ lex between (s ++ r')

-- the value's text is JSON of it, nested at most so deep
pub record Shows (deep : ℕ) (json : Data) : Type 0 where
  pub reads : of_json (outline json) ≡ Some json
  pub numbers : tree.HasNumbers (outline json)
  pub shallow : tree.depth (outline json) ≤ deep
  pub passes : Passes (compact_text json)

pub deeper : (m n : ℕ) (json : Data) → m ≤ n → Shows m json → Shows n json
deeper m n json low shows = record { reads = shows.reads; numbers = shows.numbers; shallow = omega (arith, shows.shallow); passes = shows.passes }

-- ---- numbers, texts and null

number_passes : (s : List ℕ) → IsNumber s → Passes s
number_passes s is r r' ends ends' same = lex-number s r is ends ∙ ap (λ l. token (Token.number s) ∷ l) same ∙ sym (lex-number s r' is ends')

pub unsigned_shows : (n : ℕ) → n < 2 ^ 64 → Shows 0 (number (unsigned n))
unsigned_shows n low =
    let is = IsNumber-decimal n low in
    record { reads = ap (option_map number) (number_of-decimal n low); numbers = is; shallow = omega arith; passes = number_passes (decimal n) is }

pub integer_shows : (z : ℤ) (n : ℕ) → (z ≡ pos n) ⊎ (z ≡ negsuc n) → n < 2 ^ 63 → Shows 0 (number (of_integer z))
integer_shows z n (inl e) low = subst (λ y. Shows 0 (number (of_integer y))) (sym e) (unsigned_shows n (omega arith))
integer_shows z n (inr e) low =
    let is = IsNumber-signed_decimal (negsuc n) low in
    subst (λ y. Shows 0 (number (of_integer y))) (sym e)
    (record { reads = ap (option_map number) (number_of-negative n low); numbers = is; shallow = omega arith; passes = number_passes (signed_decimal (negsuc n)) is })

pub whole_shows : (n : ℕ) → is_small n ≡ true → Shows 0 (whole n)
whole_shows n small = let low = ltb-true n (2 ^ 32) small in unsigned_shows n (omega arith)

quoted_lexes : (s r : List ℕ) → lex between (quoted s ++ r) ≡ token (Token.string s) ∷ lex between r
unfolding lex
quoted_lexes s r =
    let regrouped = append_assoc (escape s) (34 ∷ []) r in
    ap (λ l. lex between (34 ∷ l)) regrouped ∙ (λ i. token (string_token (content-escape s r i)) ∷ lex-escape s r i)

pub quoted_passes : (s : List ℕ) → Passes (quoted s)
quoted_passes s r r' ends ends' same = quoted_lexes s r ∙ ap (λ l. token (Token.string s) ∷ l) same ∙ sym (quoted_lexes s r')

pub string_shows : (s : List ℕ) → Shows 0 (string s)
string_shows s = record { reads = refl; numbers = tt; shallow = omega arith; passes = quoted_passes s }

null_lexes : (r : List ℕ) → ends_word r ≡ true → lex between (compact_text null ++ r) ≡ token Token.null ∷ lex between r
unfolding lex word
null_lexes r ends = rw ends (ap (λ l. token Token.null ∷ l) (in_word-ended r ends))

pub null_shows : Shows 0 null
null_shows = record {
  reads = refl;
  numbers = tt;
  shallow = omega arith;
  passes = λ r r' ends ends' same. null_lexes r ends ∙ ap (λ l. token Token.null ∷ l) same ∙ sym (null_lexes r' ends');
}

-- ---- lists

-- one bracket, comma or colon
sign_passes : (c : ℕ) (s : List ℕ) → ((r : List ℕ) → lex between (c ∷ r) ≡ lex between (c ∷ []) ++ lex between r) → Passes s → Passes (c ∷ s)
sign_passes c s splits passes r r' ends ends' same = splits (s ++ r) ∙ ap (λ l. lex between (c ∷ []) ++ l) (passes r r' ends ends' same) ∙ sym (splits (s ++ r'))

comma_splits : (r : List ℕ) → lex between (44 ∷ r) ≡ lex between (44 ∷ []) ++ lex between r
unfolding lex
comma_splits r = refl

colon_splits : (r : List ℕ) → lex between (58 ∷ r) ≡ lex between (58 ∷ []) ++ lex between r
unfolding lex
colon_splits r = refl

bracket_splits : (r : List ℕ) → lex between (91 ∷ r) ≡ lex between (91 ∷ []) ++ lex between r
unfolding lex
bracket_splits r = refl

bracket_ends : (r : List ℕ) → lex between (93 ∷ r) ≡ lex between (93 ∷ []) ++ lex between r
unfolding lex
bracket_ends r = refl

brace_splits : (r : List ℕ) → lex between (123 ∷ r) ≡ lex between (123 ∷ []) ++ lex between r
unfolding lex
brace_splits r = refl

brace_ends : (r : List ℕ) → lex between (125 ∷ r) ≡ lex between (125 ∷ []) ++ lex between r
unfolding lex
brace_ends r = refl

nothing_passes : Passes []
nothing_passes r r' ends ends' same = same

comma_passes : (later : Bool) (s : List ℕ) → Passes s → Passes (comma_if later ++ s)
comma_passes true s passes = sign_passes 44 s comma_splits passes
comma_passes false s passes = passes

-- one text behind another, where a word ends between them
behind_passes : (s t : List ℕ) → ((r : List ℕ) → ends_word (t ++ r) ≡ true) → Passes s → Passes t → Passes (s ++ t)
behind_passes s t bounded first second r r' ends ends' same =
    ap (lex between) (append_assoc s t r) ∙ first (t ++ r) (t ++ r') (bounded r) (bounded r') (second r r' ends ends' same) ∙ ap (lex between) (sym (append_assoc s t r'))

items_bounded : (parts : List Data) (r : List ℕ) → ends_word (items_text true (items_of parts) ++ r) ≡ true
items_bounded [] r = refl
items_bounded (json ∷ parts) r = refl

items_pass : (deep : ℕ) (later : Bool) (parts : List Data) → AllByRecursion (Shows deep) parts → Passes (items_text later (items_of parts))
items_pass deep later [] all = sign_passes 93 [] bracket_ends nothing_passes
items_pass deep later (json ∷ parts) all =
    comma_passes later (compact_text json ++ items_text true (items_of parts))
    (behind_passes (compact_text json) (items_text true (items_of parts)) (items_bounded parts) all.0.passes (items_pass deep true parts all.1))

items_read : (deep : ℕ) (parts : List Data) → AllByRecursion (Shows deep) parts → of_items (items_outline (items_of parts)) ≡ Some (items_of parts)
items_read deep [] all = refl
items_read deep (json ∷ parts) all =
    ap (λ o. option_and_then (λ d. option_map (λ ds. item d ds) (of_items (items_outline (items_of parts)))) o) all.0.reads
    ∙ ap (option_map (λ ds. item json ds)) (items_read deep parts all.1)

items_numbers : (deep : ℕ) (parts : List Data) → AllByRecursion (Shows deep) parts → tree.ItemsHaveNumbers (items_outline (items_of parts))
items_numbers deep [] all = tt
items_numbers deep (json ∷ parts) all = (all.0.numbers, items_numbers deep parts all.1)

items_shallow : (deep : ℕ) (parts : List Data) → AllByRecursion (Shows deep) parts → tree.items_depth (items_outline (items_of parts)) ≤ deep
items_shallow deep [] all = omega arith
items_shallow deep (json ∷ parts) all = omega (arith, all.0.shallow, items_shallow deep parts all.1)

pub list_shows : (deep : ℕ) (parts : List Data) → AllByRecursion (Shows deep) parts → Shows (suc deep) (list parts)
list_shows deep parts all = record {
  reads = ap (option_map array) (items_read deep parts all);
  numbers = items_numbers deep parts all;
  shallow = omega (arith, items_shallow deep parts all);
  passes = sign_passes 91 (items_text false (items_of parts)) bracket_splits (items_pass deep false parts all);
}

all_show : {A : Type 0} (deep : ℕ) (form : A → Data) (fits : A → Bool) → ((x : A) → fits x ≡ true → Shows deep (form x)) → (xs : List A) → list_all fits xs ≡ true
    → AllByRecursion (Shows deep) (map form xs)
all_show deep form fits each [] all = tt
all_show deep form fits each (x ∷ xs) all = let p = and_parts (fits x) (list_all fits xs) all in (each x p.0, all_show deep form fits each xs p.1)

pub each_shows : {A : Type 0} (deep : ℕ) (form : A → Data) (fits : A → Bool) → ((x : A) → fits x ≡ true → Shows deep (form x)) → (xs : List A) → list_all fits xs ≡ true
    → Shows (suc deep) (list (map form xs))
each_shows deep form fits each xs all = list_shows deep (map form xs) (all_show deep form fits each xs all)

-- ---- objects

abbrev pub AllMembers : ℕ → Members → Type 0
AllMembers deep no_members = ⊤
AllMembers deep (member k json more) = Shows deep json × AllMembers deep more

members_bounded : (members : Members) (r : List ℕ) → ends_word (members_text true members ++ r) ≡ true
members_bounded no_members r = refl
members_bounded (member k json more) r = refl

members_pass : (deep : ℕ) (later : Bool) (members : Members) → AllMembers deep members → Passes (members_text later members)
members_pass deep later no_members all = sign_passes 125 [] brace_ends nothing_passes
members_pass deep later (member k json more) all =
    let value = behind_passes (compact_text json) (members_text true more) (members_bounded more) all.0.passes (members_pass deep true more all.1) in
    comma_passes later (quoted k ++ 58 ∷ (compact_text json ++ members_text true more))
    (behind_passes (quoted k) (58 ∷ (compact_text json ++ members_text true more)) (λ r. refl) (quoted_passes k)
    (sign_passes 58 (compact_text json ++ members_text true more) colon_splits value))

members_numbers : (deep : ℕ) (members : Members) → AllMembers deep members → tree.MembersHaveNumbers (members_outline members)
members_numbers deep no_members all = tt
members_numbers deep (member k json more) all = (all.0.numbers, members_numbers deep more all.1)

members_shallow : (deep : ℕ) (members : Members) → AllMembers deep members → tree.members_depth (members_outline members) ≤ deep
members_shallow deep no_members all = omega arith
members_shallow deep (member k json more) all = omega (arith, all.0.shallow, members_shallow deep more all.1)

pub object_shows : (deep : ℕ) (members : Members) → AllMembers deep members → of_members (members_outline members) no_members ≡ Some members → Shows (suc deep) (object members)
object_shows deep members all reads = record {
  reads = ap (option_map object) reads;
  numbers = members_numbers deep members all;
  shallow = omega (arith, members_shallow deep members all);
  passes = sign_passes 123 (members_text false members) brace_splits (members_pass deep false members all);
}

-- ---- the whole text

line_ends : lex between (10 ∷ []) ≡ lex between []
unfolding lex
line_ends = refl

line_tokens : (deep : ℕ) (json : Data) → Shows deep json → tokens (compact_text json ++ 10 ∷ []) ≡ tree.json_tokens (outline json)
line_tokens deep json shows =
    ap (punctuate fresh) (shows.passes (10 ∷ []) [] refl refl line_ends)
    ∙ ap tokens (append-nil (compact_text json) ∙ sym (print-outline json))
    ∙ tokens-print (tree.json_tokens (outline json)) (ArePrintable-json_tokens (outline json) shows.numbers)

abbrev whole_text : Option (grammar.Json × List Token.Token) → Option Data
whole_text o = option_and_then of_json (option_and_then (λ p. grammar.if_last p.0 p.1) o)

pub line_reads : (deep : ℕ) (json : Data) → deep ≤ 127 → Shows deep json → read (compact_text json ++ 10 ∷ []) ≡ Some json
line_reads deep json low shows =
    ap whole_text (ap (grammar.value 127) (line_tokens deep json shows ∙ sym (append-nil _)) ∙ value-json_tokens (outline json) 127 [] (omega (arith, shows.shallow)))
    ∙ shows.reads
