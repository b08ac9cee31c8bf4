-- What a condition of each kind is with a predicate replaced, and what is left of the number behind it.
use Rattle.std.proofs.Common.{◌≡◌, ◌∙◌, refl, sym, ap, ap₂, ℕ, zero, suc, ◌+◌, ◌-◌, ◌≤◌, Bool, true, false, List, [], ◌∷◌, length, Option, None, Some, nat_lt, if◌then◌else◌, arith}
use Rattle.std.proofs.lemmas.Bool.Decides.{nat_tests}
use Rattle.std.proofs.lemmas.Bool.{le-ltb, ltb-false}
use Rattle.lint_base.specs.declared.place.Span.{Span}
use Rattle.lint_tables.specs.declared.op.Op.{Op}
use Rattle.lint_core.specs.declared.condition.Term.{Term}
use Rattle.lint_core.specs.declared.condition.Cond.{Cond}
use Rattle.lint_core.specs.declared.condition.Cond.TheVariants as c
use Rattle.lint_core.specs.declared.condition.Block.{Block, roll-out-Block}
use Rattle.lint_core.specs.Predicates.{predicates, with_replaced, first_or}
use Rattle.lint_core.proofs.Parted.{replaced_true, replaced_false, replaced_and, replaced_or, replaced_not, replaced_compare, replaced_is_null, replaced_exists, replaced_in_subquery, replaced_scalar}
use Rattle.lint_core.proofs.Parted.{replaced_among, replaced_kept, block_replaced}
use Rattle.sql_meaning.specs.inner.ReplacedParts.{after, replaced_at, parts_at, alone_at, block_at, around_at}

-- what is left

pub after_none : (left : Option ℕ) → after left 0 ≡ left
after_none None = refl
after_none (Some n) = ap₂ (λ (b : Bool) (m : ℕ). if b then None else Some m) (le-ltb n 0 (omega arith)) (let d : n - 0 ≡ n = omega arith in d)

by_test : (n k l : ℕ) (b : Bool) → nat_lt n k ≡ b → (if nat_lt n (k + l) then None else Some (n - (k + l))) ≡ after (if b then None else Some (n - k)) l
by_test n k l true e =
    let t : nat_lt n (k + l) ≡ true = grind (arith, nat_tests) in
    ap (λ (b : Bool). if b then None else Some (n - (k + l))) t
by_test n k l false e =
    let less : k ≤ n = ltb-false n k e in
    let t : nat_lt n (k + l) ≡ nat_lt (n - k) l = grind (arith, nat_tests) in
    let d : n - (k + l) ≡ (n - k) - l = omega arith in
    ap₂ (λ (b : Bool) (m : ℕ). if b then None else Some m) t d

pub after_sum : (left : Option ℕ) (k l : ℕ) → after left (k + l) ≡ after (after left k) l
after_sum None k l = refl
after_sum (Some n) k l = by_test n k l (nat_lt n k) refl

after_one : (n : ℕ) → after (Some (suc n)) 1 ≡ Some n
after_one n =
    let t : nat_lt (suc n) 1 ≡ false = le-ltb (suc n) 1 (omega arith) in
    let d : suc n - 1 ≡ n = omega arith in
    ap₂ (λ (b : Bool) (m : ℕ). if b then None else Some m) t d

module _ (by : Cond) where
  pub at_true : (left : Option ℕ) → replaced_at by left c.True ≡ c.True
  at_true None = refl
  at_true (Some n) = replaced_true by n

  pub at_false : (left : Option ℕ) → replaced_at by left c.False ≡ c.False
  at_false None = refl
  at_false (Some n) = replaced_false by n

  pub at_not : (left : Option ℕ) (part : Cond) → replaced_at by left (c.Not part) ≡ c.Not (replaced_at by left part)
  at_not None part = refl
  at_not (Some n) part = replaced_not by n part

  none_replaced : (parts : List Cond) → parts_at by None parts ≡ parts
  none_replaced [] = refl
  none_replaced (part ∷ parts) = ap (λ (xs : List Cond). part ∷ xs) (none_replaced parts)

  among_one : (part : Cond) (parts : List Cond) (n : ℕ) (b : Bool) → nat_lt n (length (predicates part)) ≡ b →
      replaced_among by parts (n - length (predicates part)) ≡ parts_at by (Some (n - length (predicates part))) parts →
      (if b then with_replaced by n part ∷ parts else part ∷ replaced_among by parts (n - length (predicates part)))
      ≡ with_replaced by n part ∷ parts_at by (if b then None else Some (n - length (predicates part))) parts
  among_one part parts n true e later = ap (λ (xs : List Cond). with_replaced by n part ∷ xs) (sym (none_replaced parts))
  among_one part parts n false e later =
      ap₂ (λ (x : Cond) (xs : List Cond). x ∷ xs) (sym (replaced_kept by part n (ltb-false n (length (predicates part)) e))) later

  among : (parts : List Cond) (n : ℕ) → replaced_among by parts n ≡ parts_at by (Some n) parts
  among [] n = refl
  among (part ∷ parts) n = among_one part parts n (nat_lt n (length (predicates part))) refl (among parts (n - length (predicates part)))

  pub at_and : (left : Option ℕ) (parts : List Cond) → replaced_at by left (c.And parts) ≡ c.And (parts_at by left parts)
  at_and None parts = ap c.And (sym (none_replaced parts))
  at_and (Some n) parts = replaced_and by n parts ∙ ap c.And (among parts n)

  pub at_or : (left : Option ℕ) (parts : List Cond) → replaced_at by left (c.Or parts) ≡ c.Or (parts_at by left parts)
  at_or None parts = ap c.Or (sym (none_replaced parts))
  at_or (Some n) parts = replaced_or by n parts ∙ ap c.Or (among parts n)

  alone_first : (n : ℕ) (cond : Cond) → first_or by (λ m. cond) n ≡ alone_at by (Some n) cond
  alone_first zero cond = refl
  alone_first (suc n) cond = refl

  pub at_compare : (left : Option ℕ) (op : Op) (a b : Term) (span : Span) → replaced_at by left (c.Compare op a b span) ≡ alone_at by left (c.Compare op a b span)
  at_compare None op a b span = refl
  at_compare (Some n) op a b span = replaced_compare by n op a b span ∙ alone_first n (c.Compare op a b span)

  pub at_is_null : (left : Option ℕ) (term : Term) (negated : Bool) (span : Span) → replaced_at by left (c.IsNull term negated span) ≡ alone_at by left (c.IsNull term negated span)
  at_is_null None term negated span = refl
  at_is_null (Some n) term negated span = replaced_is_null by n term negated span ∙ alone_first n (c.IsNull term negated span)

  pub at_scalar : (left : Option ℕ) (op : Op) (a : Term) (block : Block) (item : Term) (span : Span) →
      replaced_at by left (c.Scalar op a block item span) ≡ alone_at by left (c.Scalar op a block item span)
  at_scalar None op a block item span = refl
  at_scalar (Some n) op a block item span = replaced_scalar by n op a block item span ∙ alone_first n (c.Scalar op a block item span)

  -- a predicate around a block
  abbrev around_or : (Block → Cond) → Option Block → Cond
  around_or outside None = by
  around_or outside (Some block) = outside block

  at_around : (left : Option ℕ) (outside : Block → Cond) (block : Block) → ((n : ℕ) → with_replaced by n (outside block) ≡ first_or by (λ m. outside (block_replaced by m block)) n) →
      replaced_at by left (outside block) ≡ around_or outside (around_at by left block)
  at_around None outside block replaced = ap outside (sym (roll-out-Block block))
  at_around (Some zero) outside block replaced = replaced 0
  at_around (Some (suc n)) outside block replaced = replaced (suc n) ∙ ap (λ (m : Option ℕ). outside (block_at by m block)) (sym (after_one n))

  pub at_exists : (left : Option ℕ) (block : Block) (span : Span) → replaced_at by left (c.Exists block span) ≡ around_or (λ b. c.Exists b span) (around_at by left block)
  at_exists left block span = at_around left (λ b. c.Exists b span) block (λ n. replaced_exists by n block span)

  pub at_in : (left : Option ℕ) (term : Term) (block : Block) (item : Term) (negated : Bool) (span : Span) →
      replaced_at by left (c.In term block item negated span) ≡ around_or (λ b. c.In term b item negated span) (around_at by left block)
  at_in left term block item negated span = at_around left (λ b. c.In term b item negated span) block (λ n. replaced_in_subquery by n term block item negated span)

  pub exists_some : (left : Option ℕ) (block : Block) (span : Span) (b : Block) → Some b ≡ around_at by left block → replaced_at by left (c.Exists block span) ≡ c.Exists b span
  exists_some left block span b is = at_exists left block span ∙ ap (around_or (λ b. c.Exists b span)) (sym is)

  pub exists_none : (left : Option ℕ) (block : Block) (span : Span) → None ≡ around_at by left block → replaced_at by left (c.Exists block span) ≡ by
  exists_none left block span is = at_exists left block span ∙ ap (around_or (λ b. c.Exists b span)) (sym is)

  pub in_some : (left : Option ℕ) (term : Term) (block : Block) (item : Term) (negated : Bool) (span : Span) (b : Block) → Some b ≡ around_at by left block →
      replaced_at by left (c.In term block item negated span) ≡ c.In term b item negated span
  in_some left term block item negated span b is = at_in left term block item negated span ∙ ap (around_or (λ b. c.In term b item negated span)) (sym is)

  pub in_none : (left : Option ℕ) (term : Term) (block : Block) (item : Term) (negated : Bool) (span : Span) → None ≡ around_at by left block → replaced_at by left (c.In term block item negated span) ≡ by
  in_none left term block item negated span is = at_in left term block item negated span ∙ ap (around_or (λ b. c.In term b item negated span)) (sym is)
