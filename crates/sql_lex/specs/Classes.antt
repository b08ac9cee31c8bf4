-- What each byte of a file is to the parts between semicolons. A quote runs to the next quote of its kind
-- (two side by side end one and begin another), a comment from `--` to the end of its line. White space and
-- comments are blank; a semicolon outside both separates; all else is solid.
use Rattle.std.specs.Prelude.{ℕ, Bool, false, ◌&&◌, nat_eq, List, [], ◌∷◌, if◌then◌else◌}
use Rattle.sql_lex.specs.Bytes.{is_white, is_quote}

pub data Class : Type 0 where
  Blank : Class
  Solid : Class
  Separator : Class

-- where a byte stands: outside quotes and comments, in a comment, or in a quote of this kind
pub data Inside : Type 0 where
  Nothing : Inside
  Comment : Inside
  Quote : (mark : ℕ) → Inside

abbrev pub blank_or_solid : ℕ → Class
blank_or_solid b = if is_white b then Blank else Solid

-- the second dash of `--` comes next
abbrev pub begins_with_dash : List ℕ → Bool
begins_with_dash [] = false
begins_with_dash (b ∷ bs) = nat_eq b 45

abbrev pub classes : Inside → List ℕ → List Class
classes inside [] = []
classes Nothing (b ∷ bs) =
    if nat_eq b 45 && begins_with_dash bs then Blank ∷ classes Comment bs
    else (if nat_eq b 59 then Separator ∷ classes Nothing bs else blank_or_solid b ∷ classes (if is_quote b then Quote b else Nothing) bs)
classes Comment (b ∷ bs) = Blank ∷ classes (if nat_eq b 10 then Nothing else Comment) bs
classes (Quote mark) (b ∷ bs) = blank_or_solid b ∷ classes (if nat_eq b mark then Nothing else Quote mark) bs
