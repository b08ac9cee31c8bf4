-- Which values a column may hold (ISO/IEC 9075:1992, 4.1): NULL, or a value of its domain, which is a
-- range of whole numbers or all texts.
use Rattle.std.specs.Prelude.{ℤ, Bool, true, false, ◌&&◌, not, int_lt}
use Rattle.lint_core.specs.declared.schema.Domain.{Domain}
use Rattle.lint_core.specs.declared.schema.Domain.TheVariants as domain
use Rattle.lint_core.specs.declared.database.Value.{Value}
use Rattle.lint_core.specs.declared.database.Value.TheVariants.{Null, Int, Text}

-- a is at most b
abbrev pub int_le : ℤ → ℤ → Bool
int_le a b = not (int_lt b a)

-- the length of a text column restricts nothing
abbrev pub is_in_domain : Domain → Value → Bool
is_in_domain domain Null = true
is_in_domain (domain.Number least greatest unit) (Int n) = int_le least n && int_le n greatest
is_in_domain (domain.Number least greatest unit) (Text text) = false
is_in_domain (domain.Text length) (Int n) = false
is_in_domain (domain.Text length) (Text text) = true
