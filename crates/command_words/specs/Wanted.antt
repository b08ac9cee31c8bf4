-- What a command line asks for.
use Rattle.std.specs.Prelude.{ℕ, ◌<◌, ◌≤◌, List}
use Rattle.command_words.specs.declared.wanted.Form.{Form}

-- the paths of the two files, as bytes
pub record Paths : Type 0 where
  pub schema : List ℕ
  pub queries : List ℕ

-- to judge the queries within a budget, or to check the certificates of a file
pub data Asked : Type 0 where
  judges : (budget : ℕ) (form : Form) → Asked
  checks : (certs : List ℕ) → Asked

pub record Wanted : Type 0 where
  pub paths : Paths
  pub asked : Asked

-- the budget is from 1 to 1,000,000
abbrev pub KeepsLimits : Asked → Type 0
KeepsLimits (judges budget form) = (0 < budget) × (budget ≤ 1000000)
KeepsLimits (checks certs) = Unit {0}
