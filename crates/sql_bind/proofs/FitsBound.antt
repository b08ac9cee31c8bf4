-- What is known of the parts, where the whole was bound.
use Rattle.std.proofs.Common.{ℕ, ◌≡◌, refl, Bool, true, false, Ok, Err, if◌then◌else◌}
use Rattle.lint_base.specs.declared.place.Span.{Span}
use Rattle.lint_base.specs.declared.place.Fault.{Fault}
use Rattle.sql_bind.specs.Bound.{Bound, refused, too_many, and_then}

pub and_then_ok : {A B : Type 0} (f : Bound A) (k : A → Bound B) (b : B) → and_then f k ≡ Ok b → (a : A) × (f ≡ Ok a) × (k a ≡ Ok b)
unfolding and_then
and_then_ok (Err refusal) k b e = absurd (cc)
and_then_ok (Ok a) k b e = (a, refl, e)

pub same_ok : {A : Type 0} (a b : A) → ◌≡◌ {A = Bound A} (Ok a) (Ok b) → a ≡ b
same_ok a b e = cc

-- a test that had to pass
pub if_ok : {A : Type 0} (test : Bool) (f : Bound A) (fault : Fault) (at : Span) (a : A) → (if test then f else refused fault at) ≡ Ok a → (test ≡ true) × (f ≡ Ok a)
if_ok true f fault at a e = (refl, e)
if_ok false f fault at a e = absurd (cc)

-- and one that had to fail
pub if_not : {A : Type 0} (test : Bool) (f : Bound A) (fault : Fault) (at : Span) (a : A) → (if test then refused fault at else f) ≡ Ok a → (test ≡ false) × (f ≡ Ok a)
if_not true f fault at a e = absurd (cc)
if_not false f fault at a e = (refl, e)

pub limit_ok : {A : Type 0} (test : Bool) (f : Bound A) (count : ℕ) (at : Span) (a : A) → (if test then f else too_many count at) ≡ Ok a → (test ≡ true) × (f ≡ Ok a)
limit_ok true f count at a e = (refl, e)
limit_ok false f count at a e = absurd (cc)

pub limit_not : {A : Type 0} (test : Bool) (f : Bound A) (count : ℕ) (at : Span) (a : A) → (if test then too_many count at else f) ≡ Ok a → (test ≡ false) × (f ≡ Ok a)
limit_not true f count at a e = absurd (cc)
limit_not false f count at a e = (refl, e)
