-- Words in a fixed order, looked up without regard to the case of ASCII letters.
use Rattle.std.specs.Prelude.{ℕ, List, Option, position, map, codes, [], ◌∷◌, ◌-◌, ◌&&◌, nat_le, if◌then◌else◌}
use Rattle.std.specs.Str.{bytes_eq}

-- an ASCII letter in upper case; any other byte as it is
abbrev pub upper : ℕ → ℕ
upper b = if nat_le 97 b && nat_le b 122 then b - 32 else b

-- the place of the first word that is the given one in upper case
abbrev pub place_of : List (List ℕ) → List ℕ → Option ℕ
place_of words word = position (bytes_eq (map upper word)) words

-- the reserved words, in their order (a choice of those of ISO/IEC 9075:1992, 5.2)
abbrev pub reserved : List (List ℕ)
reserved =
    codes "ALL" ∷ codes "AND" ∷ codes "ANY" ∷ codes "AS" ∷ codes "BETWEEN" ∷ codes "BY" ∷ codes "CASE" ∷ codes "CHECK"
    ∷ codes "CONSTRAINT" ∷ codes "CREATE" ∷ codes "CROSS" ∷ codes "DISTINCT" ∷ codes "EXCEPT" ∷ codes "EXISTS"
    ∷ codes "FOREIGN" ∷ codes "FROM" ∷ codes "FULL" ∷ codes "GROUP" ∷ codes "HAVING" ∷ codes "IN" ∷ codes "INNER"
    ∷ codes "INTERSECT" ∷ codes "IS" ∷ codes "JOIN" ∷ codes "LEFT" ∷ codes "LIKE" ∷ codes "NATURAL" ∷ codes "NOT"
    ∷ codes "NULL" ∷ codes "ON" ∷ codes "OR" ∷ codes "ORDER" ∷ codes "OUTER" ∷ codes "PRIMARY" ∷ codes "REFERENCES"
    ∷ codes "RIGHT" ∷ codes "SELECT" ∷ codes "SOME" ∷ codes "TABLE" ∷ codes "UNION" ∷ codes "UNIQUE" ∷ codes "USING"
    ∷ codes "WHERE" ∷ codes "WITH" ∷ []
