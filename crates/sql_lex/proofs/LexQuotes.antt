-- What stands in quotes.
use Rattle.std.proofs.Common.{◌≡◌, ◌≢◌, ◌<◌, ◌+◌, ℕ, zero, suc, Bool, true, false, not, eqb, List, [], ◌∷◌, ◌++◌, length, take, drop, refl, sym, ap, add-one, subst, ◌∙◌, arith, append_assoc}
use Rattle.std.proofs.lemmas.Bool.{eqb-true, cond_both, eq-eqb, not_from_false, not-true, false_from_ne_true, ne_eqb}
use Rattle.std.proofs.lemmas.Bool.Decides.{nat_tests}
use Rattle.std.specs.Prelude.{Option, Some, None}
use Rattle.memchr.specs.Find.{Nowhere, NoneBefore, Passes, is_byte}
use Rattle.sql_lex.specs.Tokens.{doubled, begins_without}
use Rattle.std.specs.Str.{chars, IsUtf8, is_utf8}
use Rattle.std.proofs.lemmas.Str.{IsUtf8-from_is_utf8, is_utf8-from_IsUtf8}
use Rattle.sql_lex.specs.declared.token.Kind.TheVariants as kind
use Rattle.sql_lex.specs.declared.found.Found.TheVariants.{Lexeme}
use Rattle.sql_lex.specs.inner.Lexing.{unquoted, with_front, bad_byte, closed_found}
use Rattle.sql_lex.proofs.LexGaps.{nowhere_behind, not_here}

pub with_front-nil : (found : Option (List ℕ × List ℕ)) → with_front [] found ≡ found
with_front-nil None = refl
with_front-nil (Some x) = refl

pub with_front-append : (a b : List ℕ) (found : Option (List ℕ × List ℕ)) → with_front a (with_front b found) ≡ with_front (a ++ b) found
with_front-append a b None = refl
with_front-append a b (Some x) = ap (λ (y : List ℕ). Some (y, x.1)) (sym (append_assoc a b x.0))

pub quote_none : (mark : ℕ) (text : List ℕ) → Nowhere (Passes (is_byte mark) text) 0 (length text) → unquoted mark false text ≡ None
quote_none mark [] none = refl
quote_none mark (b ∷ bs) none =
    let here : eqb b mark ≡ false = not_here (is_byte mark) b bs (length bs) none in
    rw (here, quote_none mark bs (nowhere_behind (is_byte mark) b bs (length bs) none)) refl

pub quote_some : (mark : ℕ) (text : List ℕ) (i : ℕ) → i < length text → Nowhere (Passes (is_byte mark) text) 0 i → Passes (is_byte mark) text i
    → unquoted mark false text ≡ with_front (take i text) (unquoted mark true (drop (suc i) text))
quote_some mark [] i within none here = absurd (omega arith)
quote_some mark (b ∷ bs) zero within none here = let is : eqb b mark ≡ true = here in rw is (sym (with_front-nil (unquoted mark true bs)))
quote_some mark (b ∷ bs) (suc i) within none here =
    let other : eqb b mark ≡ false = not_here (is_byte mark) b bs i none in
    rw other (ap (with_front (b ∷ [])) (quote_some mark bs i (omega arith) (nowhere_behind (is_byte mark) b bs i none) here) ∙ with_front-append (b ∷ []) (take i bs) (unquoted mark true (drop (suc i) bs)))

pub quote_next : (mark : ℕ) (text : List ℕ) (i : ℕ) → NoneBefore (Passes (is_byte mark) text) 0 (length text) i × Passes (is_byte mark) text i
    → unquoted mark false text ≡ with_front (take i text) (unquoted mark true (drop (i + 1) text))
quote_next mark text i found =
    quote_some mark text i found.0.high found.0.before found.1 ∙ ap (λ (n : ℕ). with_front (take i text) (unquoted mark true (drop n text))) (sym (add-one i))

pub mark_ends : (mark : ℕ) (behind : List ℕ) → begins_without (λ b. eqb b mark) behind ≡ true → unquoted mark true behind ≡ Some ([], behind)
mark_ends mark [] stop = refl
mark_ends mark (b ∷ bs) stop = rw (not-true (eqb b mark) stop) refl

-- what a quote holds is spelled with its marks twice
pub record Holds (mark : ℕ) (text : List ℕ) (x : List ℕ × List ℕ) : Type 0 where
  pub whole : text ≡ doubled mark x.0 ++ mark ∷ x.1
  pub closed : begins_without (λ b. eqb b mark) x.1 ≡ true

-- behind a mark: the quote is at its end, or the mark was the first of two
pub record HoldsMore (mark : ℕ) (text : List ℕ) (x : List ℕ × List ℕ) : Type 0 where
  pub whole : mark ∷ text ≡ doubled mark x.0 ++ mark ∷ x.1
  pub closed : begins_without (λ b. eqb b mark) x.1 ≡ true

some_is : (x y : List ℕ × List ℕ) → ◌≡◌ {A = Option (List ℕ × List ℕ)} (Some x) (Some y) → x ≡ y
some_is x y e = cc

no_mark : (mark b : ℕ) (bs : List ℕ) → eqb b mark ≡ false → doubled mark (b ∷ bs) ≡ b ∷ doubled mark bs
no_mark mark b bs e = rw e refl

a_mark : (mark b : ℕ) (bs : List ℕ) → b ≡ mark → doubled mark (b ∷ bs) ≡ mark ∷ mark ∷ doubled mark bs
a_mark mark b bs e = rw (eq-eqb b mark e) refl

holds_other : (mark b : ℕ) (bs : List ℕ) (found : Option (List ℕ × List ℕ)) (x : List ℕ × List ℕ) → eqb b mark ≡ false → ((y : List ℕ × List ℕ) → found ≡ Some y → Holds mark bs y)
    → with_front (b ∷ []) found ≡ Some x → Holds mark (b ∷ bs) x
holds_other mark b bs None x e inner is = absurd cc
holds_other mark b bs (Some y) x e inner is =
    let h = inner y refl in
    subst (Holds mark (b ∷ bs)) (some_is _ x is) (record {
      whole = ap (λ (z : List ℕ). b ∷ z) h.whole ∙ ap (λ (z : List ℕ). z ++ mark ∷ y.1) (sym (no_mark mark b y.0 e));
      closed = h.closed;
    })

holds_mark : (mark b : ℕ) (bs : List ℕ) (found : Option (List ℕ × List ℕ)) (x : List ℕ × List ℕ) → eqb b mark ≡ true → ((y : List ℕ × List ℕ) → found ≡ Some y → Holds mark bs y)
    → with_front (b ∷ []) found ≡ Some x → HoldsMore mark (b ∷ bs) x
holds_mark mark b bs None x e inner is = absurd cc
holds_mark mark b bs (Some y) x e inner is =
    let h = inner y refl in
    let same : b ≡ mark = eqb-true b mark e in
    subst (HoldsMore mark (b ∷ bs)) (some_is _ x is) (record {
      whole = ap (λ (z : List ℕ). mark ∷ b ∷ z) h.whole ∙ ap (λ (z : ℕ). mark ∷ z ∷ (doubled mark y.0 ++ mark ∷ y.1)) same ∙ ap (λ (z : List ℕ). z ++ mark ∷ y.1) (sym (a_mark mark b y.0 same));
      closed = h.closed;
    })

holds_end : (mark : ℕ) (behind : List ℕ) (x : List ℕ × List ℕ) → begins_without (λ b. eqb b mark) behind ≡ true → ◌≡◌ {A = Option (List ℕ × List ℕ)} (Some ([], behind)) (Some x) → HoldsMore mark behind x
holds_end mark behind x stop e = subst (HoldsMore mark behind) (some_is _ x e) (record { whole = refl; closed = stop })

holds_first : (mark b : ℕ) (bs : List ℕ) (x : List ℕ × List ℕ) → eqb b mark ≡ true → HoldsMore mark bs x → Holds mark (b ∷ bs) x
holds_first mark b bs x e h = record { whole = ap (λ (z : ℕ). z ∷ bs) (eqb-true b mark e) ∙ h.whole; closed = h.closed }

abbrev pub Held : ℕ → Bool → List ℕ → List ℕ × List ℕ → Type 0
Held mark false text x = Holds mark text x
Held mark true text x = HoldsMore mark text x

-- what is read is spelled so
pub unquoted_takes : (mark : ℕ) (after_mark : Bool) (text : List ℕ) (x : List ℕ × List ℕ) → unquoted mark after_mark text ≡ Some x → Held mark after_mark text x
unquoted_takes mark false [] x e = absurd cc
unquoted_takes mark true [] x e = holds_end mark [] x refl e
unquoted_takes mark false (b ∷ bs) x e =
    cond_both (eqb b mark) (unquoted mark true bs) (with_front (b ∷ []) (unquoted mark false bs)) (λ (o : Option (List ℕ × List ℕ)). o ≡ Some x → Holds mark (b ∷ bs) x)
    (λ t h. holds_first mark b bs x t (unquoted_takes mark true bs x h))
    (λ t h. holds_other mark b bs (unquoted mark false bs) x t (λ y. unquoted_takes mark false bs y) h) e
unquoted_takes mark true (b ∷ bs) x e =
    cond_both (eqb b mark) (with_front (b ∷ []) (unquoted mark false bs)) (Some ([], b ∷ bs)) (λ (o : Option (List ℕ × List ℕ)). o ≡ Some x → HoldsMore mark (b ∷ bs) x)
    (λ t h. holds_mark mark b bs (unquoted mark false bs) x t (λ y. unquoted_takes mark false bs y) h)
    (λ t h. holds_end mark (b ∷ bs) x (not_from_false (eqb b mark) t) h) e

-- what is spelled so is read
pub unquoted_again : (mark : ℕ) (bytes behind : List ℕ) → begins_without (λ b. eqb b mark) behind ≡ true → unquoted mark false (doubled mark bytes ++ mark ∷ behind) ≡ Some (bytes, behind)
unquoted_again mark [] behind stop = rw (eq-eqb mark mark refl) (mark_ends mark behind stop)
unquoted_again mark (b ∷ bs) behind stop =
    let again = unquoted_again mark bs behind stop in
    elim (eqb b mark) as (λ t. eqb b mark ≡ t → unquoted mark false (doubled mark (b ∷ bs) ++ mark ∷ behind) ≡ Some (b ∷ bs, behind)) [
      | true ↦ λ e. let same : b ≡ mark = eqb-true b mark e in
          ap (λ (z : List ℕ). unquoted mark false (z ++ mark ∷ behind)) (a_mark mark b bs same) ∙ rw (eq-eqb mark mark refl) (rw again (ap (λ (z : ℕ). Some (z ∷ bs, behind)) (sym same)))
      | false ↦ λ e. ap (λ (z : List ℕ). unquoted mark false (z ++ mark ∷ behind)) (no_mark mark b bs e) ∙ rw (e, again) refl
    ] refl

same_test : (a b : ℕ) → eqb a b ≡ eqb b a
same_test a b = grind (arith, nat_tests)

pub other_side : (mark : ℕ) (rest : List ℕ) → begins_without (eqb mark) rest ≡ begins_without (λ b. eqb b mark) rest
other_side mark [] = refl
other_side mark (b ∷ bs) = ap not (same_test mark b)

-- the token of a closed quote, by the ways that the code goes
pub closed_bad : (mark len : ℕ) (bytes : List ℕ) → ¬ (IsUtf8 bytes) → bad_byte ≡ closed_found mark bytes len
closed_bad mark len bytes bad = rw (false_from_ne_true (is_utf8 bytes) (λ e. bad (IsUtf8-from_is_utf8 bytes e))) refl

pub closed_text : (mark len : ℕ) (bytes inner text : List ℕ) → (inner ≡ bytes) × IsUtf8 bytes → mark ≡ 39 → text ≡ chars inner → Lexeme (kind.Text text) len ≡ closed_found mark bytes len
closed_text mark len bytes inner text (same, good) is e =
    rw (is_utf8-from_IsUtf8 bytes good, is) (ap (λ (x : List ℕ). Lexeme (kind.Text x) len) (e ∙ ap chars same))

pub closed_name : (mark len : ℕ) (bytes inner text : List ℕ) → (inner ≡ bytes) × IsUtf8 bytes → mark ≢ 39 → eqb (length bytes) 0 ≡ false → text ≡ chars inner → Lexeme (kind.Name text true) len ≡ closed_found mark bytes len
closed_name mark len bytes inner text (same, good) other some e =
    rw (is_utf8-from_IsUtf8 bytes good, ne_eqb mark 39 other, some) (ap (λ (x : List ℕ). Lexeme (kind.Name x true) len) (e ∙ ap chars same))
