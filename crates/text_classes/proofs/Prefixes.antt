-- A beginning that no text has.
use Rattle.std.proofs.Common.{◌≡◌, ◌≢◌, ◌∙◌, sym, ap, refl, subst, ℕ, ◌<◌, ◌≤◌, ◌+◌, ◌^◌, List, [], ◌∷◌, ◌++◌, length, take, slice_index_or, inl, inr, arith, encode_utf8_all}
use Rattle.std.proofs.Common.{Vec}
use Rattle.std.specs.Str.{chars, IsAscii, IsUtf8}
use Rattle.std.specs.Fmt.{decimal}
use Rattle.std.proofs.lemmas.Bool.{cases_eq, cases_lt}
use Rattle.std.proofs.lemmas.List.{length_push, get_or_append_left, get_or_push, get_or_past, get_or_read, take-take, take_at, get_or-take, append_cancel_left}
use Rattle.std.proofs.lemmas.Str.{chars-encodes, IsUtf8-from_ascii, IsUtf8-append}
use Rattle.std.proofs.lemmas.Fmt.{decimal_injective, IsAscii-decimal}
use Rattle.text_classes.specs.inner.Nodes.{text_at}
use Rattle.text_classes.specs.inner.Fresh.{IsListed, byte_at, Begins, NoneBegins, AreListed, HasByte, fresh_text}

begins_more : (prefix b : List ℕ) (d : ℕ) → take (length (prefix ++ d ∷ [])) b ≡ prefix ++ d ∷ [] → (take (length prefix) b ≡ prefix) × (slice_index_or b (length prefix) 0 ≡ d)
begins_more prefix b d h =
    let size = length_push prefix d in
    let whole = length (prefix ++ d ∷ []) in
    let less : length prefix ≤ whole = omega arith in
    let below : length prefix < whole = omega arith in (
      sym (take-take (length prefix) whole b less) ∙ ap (take (length prefix)) h ∙ take_at prefix (d ∷ []) (length prefix) refl,
      sym (get_or-take whole b (length prefix) 0 below) ∙ ap (λ (xs : List ℕ). slice_index_or xs (length prefix) 0) h ∙ get_or_push prefix d 0 (length prefix) refl,
    )

pub ascii_push : (prefix : List ℕ) (d : ℕ) → IsAscii prefix → d < 128 → IsAscii (prefix ++ d ∷ [])
ascii_push prefix d ascii low i =
    let size = length_push prefix d in
    elim (cases_lt i (length prefix)) [
      | inl below ↦ (let e = get_or_append_left prefix (d ∷ []) 0 i below in let h = ascii i in omega arith)
      | inr above ↦ elim (cases_eq i (length prefix)) [
        | inl same ↦ (let e : slice_index_or (prefix ++ d ∷ []) i 0 ≡ d = ap (λ (k : ℕ). slice_index_or (prefix ++ d ∷ []) k 0) same ∙ get_or_push prefix d 0 (length prefix) refl in omega arith)
        | inr past ↦ (let e = get_or_past (prefix ++ d ∷ []) i 0 (omega arith) in omega arith)
      ]
    ]

-- one digit more
module _ (texts : List (List ℕ)) (rest rest' : List ℕ) (d : ℕ) (prefix prefix' : List ℕ) (depth : ℕ) (depth_is : depth ≡ length prefix) (prefix_is : prefix' ≡ prefix ++ d ∷ [])
    (has : HasByte texts rest (length rest) depth d rest') where
  pub narrowed : ((k : ℕ) → k < length texts → Begins prefix (text_at texts k) → IsListed rest k) → (k : ℕ) → k < length texts → Begins prefix' (text_at texts k) → IsListed rest' k
  narrowed whole k listed begins =
      let both = begins_more prefix (encode_utf8_all (text_at texts k)) d (subst (λ (p : List ℕ). Begins p (text_at texts k)) prefix_is begins) in
      let place = whole k listed both.0 in
      let byte : byte_at texts (slice_index_or rest place.0 0) depth ≡ d = ap (λ (j : ℕ). byte_at texts j depth) place.2 ∙ ap (byte_at texts k) depth_is ∙ both.1 in
      subst (IsListed rest') place.2 (has.whole place.0 place.1 byte)

  pub narrowed_ascii : IsAscii prefix → d < 128 → IsAscii prefix'
  narrowed_ascii ascii low = subst IsAscii (sym prefix_is) (ascii_push prefix d ascii low)

-- all texts, at the start
pub all_listed : (texts : List (List ℕ)) (rest : List ℕ) → length rest ≡ length texts → ((k : ℕ) → k < length texts → slice_index_or rest k 0 ≡ k) → (k : ℕ) → k < length texts → IsListed rest k
all_listed texts rest count each k h = (k, omega arith, each k h)

pub all_within : (texts : List (List ℕ)) (rest : List ℕ) → length rest ≡ length texts → ((k : ℕ) → k < length texts → slice_index_or rest k 0 ≡ k) → AreListed rest texts
all_within texts rest count each i h = (let e = each i (omega arith) in omega arith)

-- none is left
pub none_left : (texts : List (List ℕ)) (rest prefix : List ℕ) → length rest ≡ 0 → ((k : ℕ) → k < length texts → Begins prefix (text_at texts k) → IsListed rest k) → NoneBegins prefix texts
none_left texts rest prefix empty whole k h begins = let place = whole k h begins in let l = place.1 in omega arith

-- ---- the texts with a byte

pub byte_found : (texts : List (List ℕ)) (from : List ℕ) (i depth byte : ℕ) (found found' : List ℕ) → HasByte texts from i depth byte found → AreListed from texts → i < length from → found' ≡ found ++ slice_index_or from i 0 ∷ [] → HasByte texts from (i + 1) depth byte found'
byte_found texts from i depth byte found found' has listed within is =
    let n = slice_index_or from i 0 in
    let size = length_push found n in
    let old : (k : ℕ) → k < length found → slice_index_or (found ++ n ∷ []) k 0 ≡ slice_index_or found k 0 = λ k h. get_or_append_left found (n ∷ []) 0 k h in
    let new : slice_index_or (found ++ n ∷ []) (length found) 0 ≡ n = get_or_push found n 0 (length found) refl in
    subst (HasByte texts from (i + 1) depth byte) (sym is) (record {
      within = λ k h. elim (cases_eq k (length found)) [
        | inl last ↦ (let e : slice_index_or (found ++ n ∷ []) k 0 ≡ n = ap (λ (j : ℕ). slice_index_or (found ++ n ∷ []) j 0) last ∙ new in let l = listed i within in omega arith)
        | inr other ↦ (let below : k < length found = omega arith in let e = old k below in let l = has.within k below in omega arith)
      ];
      whole = λ k h b. elim (cases_eq k i) [
        | inl last ↦ (length found, omega arith, new ∙ ap (λ (j : ℕ). slice_index_or from j 0) (sym last))
        | inr other ↦ (let was = has.whole k (omega arith) b in (was.0, (let l : was.0 < length found = was.1 in omega arith), old was.0 was.1 ∙ was.2))
      ];
    })

pub byte_passed : (texts : List (List ℕ)) (from : List ℕ) (i depth byte : ℕ) (found : List ℕ) → HasByte texts from i depth byte found → byte_at texts (slice_index_or from i 0) depth ≢ byte → HasByte texts from (i + 1) depth byte found
byte_passed texts from i depth byte found has other = record {
  within = has.within;
  whole = λ k h b. elim (cases_eq k i) [
    | inl last ↦ absurd (other (ap (λ (j : ℕ). byte_at texts (slice_index_or from j 0) depth) (sym last) ∙ b))
    | inr before ↦ has.whole k (omega arith) b
  ];
}

-- ---- texts of one's own

-- the bytes of a text's characters are the text
utf8_back : (bs : List ℕ) → IsUtf8 bs → encode_utf8_all (chars bs) ≡ bs
utf8_back bs utf8 = ap (λ (t : List ℕ). encode_utf8_all (chars t)) (sym utf8.1.1) ∙ ap encode_utf8_all (chars-encodes utf8.0 utf8.1.0) ∙ utf8.1.1

pub fresh_bytes : (prefix : List ℕ) (n : ℕ) → IsAscii prefix → n < 2 ^ 64 → encode_utf8_all (fresh_text prefix n) ≡ prefix ++ decimal n
fresh_bytes prefix n ascii low = utf8_back (prefix ++ decimal n) (IsUtf8-append prefix (decimal n) (IsUtf8-from_ascii prefix ascii) (IsUtf8-from_ascii (decimal n) (IsAscii-decimal n low)))

-- none of the texts is one
pub fresh_other : (prefix : List ℕ) (n k : ℕ) (texts : List (List ℕ)) → NoneBegins prefix texts → IsAscii prefix → n < 2 ^ 64 → k < length texts → text_at texts k ≡ fresh_text prefix n → ⊥
fresh_other prefix n k texts none ascii low listed same =
    none k listed (ap (λ (t : List ℕ). take (length prefix) (encode_utf8_all t)) same ∙ ap (take (length prefix)) (fresh_bytes prefix n ascii low) ∙ take_at prefix (decimal n) (length prefix) refl)

-- and two of them differ
pub fresh_apart : (prefix : List ℕ) (n m : ℕ) → IsAscii prefix → n < 2 ^ 64 → m < 2 ^ 64 → fresh_text prefix n ≡ fresh_text prefix m → n ≡ m
fresh_apart prefix n m ascii low_n low_m same =
    decimal_injective n m low_n low_m (append_cancel_left prefix (decimal n) (decimal m) (sym (fresh_bytes prefix n ascii low_n) ∙ ap encode_utf8_all same ∙ fresh_bytes prefix m ascii low_m))

-- ---- as the code says it

-- the byte that is read
pub byte_read : (texts : List (List ℕ)) (number depth : ℕ) (t : List ℕ) (b : ℕ) → number < length texts → t ≡ slice_index_or texts number t → b ≡ slice_index_or (encode_utf8_all t) depth 0 → b ≡ byte_at texts number depth
byte_read texts number depth t b listed is read = read ∙ ap (λ (x : List ℕ). slice_index_or (encode_utf8_all x) depth 0) (get_or_read texts number t listed is [])

pub has_in : {A : Type 0} (texts : List (List ℕ)) (from : List ℕ) (count depth byte : ℕ) (v w : Vec ℕ A) → v ≡ w → HasByte texts from count depth byte w.items → HasByte texts from count depth byte v.items
has_in {A} texts from count depth byte v w is has = subst (λ (x : Vec ℕ A). HasByte texts from count depth byte x.items) (sym is) has

pub size_in : {A : Type 0} (v w : Vec ℕ A) → v ≡ w → length v.items ≡ length w.items
size_in {A} v w is = ap (λ (x : Vec ℕ A). length x.items) is

pub size_pushed : (old new : List ℕ) (n : ℕ) → new ≡ old ++ n ∷ [] → length new ≡ length old + 1
size_pushed old new n is = ap length is ∙ length_push old n

pub no_bytes_ascii : (bs : List ℕ) → bs ≡ [] → IsAscii bs
no_bytes_ascii bs none i = let e : slice_index_or bs i 0 ≡ 0 = ap (λ (xs : List ℕ). slice_index_or xs i 0) none ∙ refl in omega arith
