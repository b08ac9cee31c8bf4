-- Words of the code and their characters.
use Rattle.std.proofs.Common.{◌≡◌, ℕ, List, sym, ap, ◌∙◌, refl, codes}
use Rattle.std.specs.Str.{chars, IsUtf8, encode_utf8_all, bytes_eq}
use Rattle.std.proofs.lemmas.Str.{encodes-chars}
use Rattle.std.proofs.lemmas.Slice.Eq.{bytes_eq-Decides}
use Rattle.std.proofs.lemmas.Bool.Decides.{same_from_decides, Decides-like}

-- a text against a word of the code
pub text_eq : (bytes text word : List ℕ) → chars bytes ≡ text → bytes ≡ encode_utf8_all text → IsUtf8 word → bytes_eq bytes word ≡ bytes_eq text (chars word)
text_eq bytes text word characters encoded utf8 =
    same_from_decides (bytes_eq bytes word) (bytes_eq text (chars word))
    (Decides-like (bytes_eq bytes word) (λ e. sym characters ∙ ap chars e) (λ e. encoded ∙ ap encode_utf8_all e ∙ encodes-chars word utf8) (bytes_eq-Decides bytes word))
    (bytes_eq-Decides text (chars word))

pub chars_smallint : chars (codes "SMALLINT") ≡ codes "SMALLINT"
unfolding chars
chars_smallint = refl

pub chars_integer : chars (codes "INTEGER") ≡ codes "INTEGER"
unfolding chars
chars_integer = refl

pub chars_int : chars (codes "INT") ≡ codes "INT"
unfolding chars
chars_int = refl

pub chars_bigint : chars (codes "BIGINT") ≡ codes "BIGINT"
unfolding chars
chars_bigint = refl

pub chars_varchar : chars (codes "VARCHAR") ≡ codes "VARCHAR"
unfolding chars
chars_varchar = refl

pub chars_char : chars (codes "CHAR") ≡ codes "CHAR"
unfolding chars
chars_char = refl

pub chars_character : chars (codes "CHARACTER") ≡ codes "CHARACTER"
unfolding chars
chars_character = refl

pub chars_varying : chars (codes "VARYING") ≡ codes "VARYING"
unfolding chars
chars_varying = refl

pub chars_default : chars (codes "DEFAULT") ≡ codes "DEFAULT"
unfolding chars
chars_default = refl

pub chars_delete : chars (codes "DELETE") ≡ codes "DELETE"
unfolding chars
chars_delete = refl

pub chars_update : chars (codes "UPDATE") ≡ codes "UPDATE"
unfolding chars
chars_update = refl

pub chars_cascade : chars (codes "CASCADE") ≡ codes "CASCADE"
unfolding chars
chars_cascade = refl

pub chars_restrict : chars (codes "RESTRICT") ≡ codes "RESTRICT"
unfolding chars
chars_restrict = refl

pub chars_set : chars (codes "SET") ≡ codes "SET"
unfolding chars
chars_set = refl

pub chars_no : chars (codes "NO") ≡ codes "NO"
unfolding chars
chars_no = refl

pub chars_action : chars (codes "ACTION") ≡ codes "ACTION"
unfolding chars
chars_action = refl

pub chars_key : chars (codes "KEY") ≡ codes "KEY"
unfolding chars
chars_key = refl

pub chars_asc : chars (codes "ASC") ≡ codes "ASC"
unfolding chars
chars_asc = refl

pub chars_desc : chars (codes "DESC") ≡ codes "DESC"
unfolding chars
chars_desc = refl

pub ruleset called_words = (chars_asc, chars_desc, chars_smallint, chars_integer, chars_int, chars_bigint, chars_varchar, chars_char, chars_character, chars_varying, chars_default, chars_delete, chars_update, chars_cascade, chars_restrict, chars_set, chars_no, chars_action, chars_key)
