-- The conjuncts of WHERE stand where an entry has a variable of its own.
use Rattle.std.proofs.Common.{◌≡◌, ◌∙◌, refl, sym, ap, ℕ, suc, ◌+◌, ◌<◌, Bool, true, false, ◌&&◌, List, [], ◌∷◌, ◌++◌, length, map, drop, get_or, nat_lt}
use Rattle.std.proofs.lemmas.List.{append_assoc, drop_more}
use Rattle.std.specs.List.{AllByRecursion, filter, list_any}
use Rattle.std.specs.Prelude.{Some, slice_get, not, if◌then◌else◌}
use Rattle.lint_base.proofs.Lists.{below_true, both_left, both_right}
use Rattle.lint_core.specs.declared.query.Query.{Query}
use Rattle.lint_core.specs.declared.query.Question.TheVariants.{NeedlessJoin}
use Rattle.lint_core.specs.declared.schema.Table.{Table}
use Rattle.lint_core.specs.Asked.{conjuncts_without, is_asked, is_selected, main_entries}
use Rattle.lint_core.specs.Naming.{has_scalar}

-- what holds at each place holds of each element, and of those that pass a test
module _ {A : Type 0} (P : A → Type 0) where
  pub each_of : (xs : List A) → ((i : ℕ) (x : A) → slice_get xs i ≡ Some x → P x) → AllByRecursion P xs
  each_of [] at = tt
  each_of (x ∷ xs) at = (at 0 x refl, each_of xs (λ i y is. at (suc i) y is))

  kept : (b : Bool) (x : A) (xs : List A) → P x → AllByRecursion P xs → AllByRecursion P (if b then x ∷ xs else xs)
  kept true x xs here rest = (here, rest)
  kept false x xs here rest = rest

  pub passing : (p : A → Bool) (xs : List A) → AllByRecursion P xs → AllByRecursion P (filter p xs)
  passing p [] all = tt
  passing p (x ∷ xs) all = kept (p x) x (filter p xs) all.0 (passing p xs all.1)

-- one more of what is made of the values behind some references
pub one_more : {R A B : Type 0} (value : R → A) (g : A → B) (refs : List R) (i : ℕ) (r : R) → i < length refs → r ≡ get_or refs i r → (so_far now whole : List B) →
    so_far ++ map g (map value (drop i refs)) ≡ whole → now ≡ so_far ++ g (value r) ∷ [] → now ++ map g (map value (drop (i + 1) refs)) ≡ whole
one_more value g refs i r low at so_far now whole was is =
    let later = map g (map value (drop (i + 1) refs)) in
    let here : drop i refs ≡ r ∷ drop (i + 1) refs = drop_more refs i r low ∙ ap (λ x. x ∷ drop (i + 1) refs) (sym at) in
    ap (λ xs. xs ++ later) is
    ∙ (append_assoc so_far (g (value r) ∷ []) later
    ∙ (sym (ap (λ rs. so_far ++ map g (map value rs)) here) ∙ was))

-- an entry that is asked of is there, beside others
pub asked_there : (schema : List Table) (query : Query) (entry : ℕ) → is_asked schema query (NeedlessJoin entry) ≡ true → (1 < length (main_entries query)) × (entry < length (main_entries query))
asked_there schema query entry asked =
    let n = length (main_entries query) in
    let free = not (is_selected query entry) in
    let plain = not (list_any has_scalar (conjuncts_without entry query)) in
    let both : (nat_lt 1 n && nat_lt entry n) ≡ true = both_left (nat_lt 1 n && nat_lt entry n) free (both_left (nat_lt 1 n && nat_lt entry n && free) plain asked) in
    (below_true 1 n (both_left (nat_lt 1 n) (nat_lt entry n) both), below_true entry n (both_right (nat_lt 1 n) (nat_lt entry n) both))
