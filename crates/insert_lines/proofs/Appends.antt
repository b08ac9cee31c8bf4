-- Texts that are pushed one after another.
use Rattle.std.proofs.Common.{◌≡◌, ℕ, List, ◌++◌, ap, ◌∙◌, append_assoc}

-- two pieces
pub then_two : (old mid new a b : List ℕ) → mid ≡ old ++ a → new ≡ mid ++ b → new ≡ old ++ (a ++ b)
then_two old mid new a b e f = f ∙ ap (λ m. m ++ b) e ∙ append_assoc old a b

-- three pieces
pub then_three : (old one two new a b c : List ℕ) → one ≡ old ++ a → two ≡ one ++ b → new ≡ two ++ c → new ≡ old ++ (a ++ b ++ c)
then_three old one two new a b c e f g = then_two old two new (a ++ b) c (then_two old one two a b e f) g
