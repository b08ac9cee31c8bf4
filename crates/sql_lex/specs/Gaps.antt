-- What stands between tokens: white space and comments. A comment runs from `--` to the end of its line, or
-- to the end of the part.
use Rattle.std.specs.Prelude.{ℕ, Bool, true, false, ◌&&◌, nat_eq, List, [], ◌∷◌, if◌then◌else◌}
use Rattle.sql_lex.specs.Bytes.{is_white}
use Rattle.sql_lex.specs.Classes.{begins_with_dash}

-- whether the bytes, which begin in a comment or not, are white space and comments alone; `open_end` says
-- whether they may end in a comment
abbrev pub is_gap_from : Bool → Bool → List ℕ → Bool
is_gap_from open_end false [] = true
is_gap_from open_end true [] = open_end
is_gap_from open_end true (b ∷ bs) = is_gap_from open_end (if nat_eq b 10 then false else true) bs
is_gap_from open_end false (b ∷ bs) =
    if nat_eq b 45 && begins_with_dash bs then is_gap_from open_end true bs else (is_white b && is_gap_from open_end false bs)

-- before a token: no comment is left open
abbrev pub is_gap : List ℕ → Bool
is_gap bytes = is_gap_from false false bytes

-- behind the last token
abbrev pub is_last_gap : List ℕ → Bool
is_last_gap bytes = is_gap_from true false bytes
