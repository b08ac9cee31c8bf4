-- The pieces of a text, by what is still to come.
use Rattle.std.proofs.Common.{◌≡◌, ℕ, suc, ◌+◌, ◌≤◌, List, [], ◌∷◌, ◌++◌, length, Option, Some, None, refl, sym, ◌∙◌, ap, arith, length-append, append-nil}
use Rattle.std.specs.Prelude.{option_to_list, MatchOption, is_some, true, false, ◌&&◌, nat_eq, if◌then◌else◌, All, IfSome}
use Rattle.std.specs.Iterator.{MakesProgress, YieldsFirst, item_count}
use Rattle.std.specs.Option.{option_map_or}
use Rattle.std.proofs.lemmas.List.Elements.{All-nil, All-cons, All-append}
use Rattle.lint_base.specs.declared.place.Span.{Span}
use Rattle.sql_lex.specs.Bytes.{is_quote}
use Rattle.sql_lex.specs.Classes.{Class, Blank, Solid, Separator, Inside, Nothing, Comment, Quote, classes, begins_with_dash, blank_or_solid}
use Rattle.sql_lex.specs.inner.Runs.{grown_to, to_come}
use Rattle.sql_lex.specs.Within.{IsWithin}
use Rattle.sql_lex.specs.Pieces.{parts_from, solid_places, last_of, spanned, spans_of, pieces_from, pieces}

solid_places-blank : (from : ℕ) (cs : List Class) → solid_places from (cs ++ Blank ∷ []) ≡ solid_places from cs
solid_places-blank from [] = refl
solid_places-blank from (Solid ∷ cs) = ap (λ places. from ∷ places) (solid_places-blank (from + 1) cs)
solid_places-blank from (Blank ∷ cs) = solid_places-blank (from + 1) cs
solid_places-blank from (Separator ∷ cs) = solid_places-blank (from + 1) cs

solid_places-solid : (from at : ℕ) (cs : List Class) → at ≡ from + length cs → solid_places from (cs ++ Solid ∷ []) ≡ solid_places from cs ++ at ∷ []
solid_places-solid from at [] e = ap (λ place. place ∷ []) (omega (arith, e))
solid_places-solid from at (Solid ∷ cs) e = ap (λ places. from ∷ places) (solid_places-solid (from + 1) at cs (omega (arith, e)))
solid_places-solid from at (Blank ∷ cs) e = solid_places-solid (from + 1) at cs (omega (arith, e))
solid_places-solid from at (Separator ∷ cs) e = solid_places-solid (from + 1) at cs (omega (arith, e))

last_of-append : (place at : ℕ) (places : List ℕ) → last_of place (places ++ at ∷ []) ≡ at
last_of-append place at [] = refl
last_of-append place at (next ∷ places) = last_of-append next at places

spanned-append : (solid : Option Span) (places : List ℕ) (at : ℕ) → option_to_list solid ≡ spanned places → grown_to solid at 1 ∷ [] ≡ spanned (places ++ at ∷ [])
spanned-append None [] at e = refl
spanned-append None (place ∷ places) at e = cc
spanned-append (Some span) [] at e = cc
spanned-append (Some span) (place ∷ places) at e = let last = last_of-append place at places in cc

pub to_come-parts :
    (solid : Option Span) (from : ℕ) (so_far : List Class) (at : ℕ) (cs : List Class) → at ≡ from + length so_far →
    option_to_list solid ≡ spanned (solid_places from so_far) → to_come solid at cs ≡ spans_of (parts_from from so_far at cs)
to_come-parts solid from so_far at [] e same = same ∙ sym (append-nil _)
to_come-parts solid from so_far at (Separator ∷ cs) e same =
    let later = to_come-parts None (at + 1) [] (at + 1) cs (omega arith) refl in cc
to_come-parts solid from so_far at (Blank ∷ cs) e same =
    to_come-parts solid from (so_far ++ Blank ∷ []) (at + 1) cs (omega (arith, e, length-append so_far (Blank ∷ [])))
    (same ∙ ap spanned (sym (solid_places-blank from so_far)))
to_come-parts solid from so_far at (Solid ∷ cs) e same =
    to_come-parts (Some (grown_to solid at 1)) from (so_far ++ Solid ∷ []) (at + 1) cs
    (omega (arith, e, length-append so_far (Solid ∷ [])))
    (spanned-append solid _ at same ∙ ap spanned (sym (solid_places-solid from at so_far e)))

-- a text's pieces are what is to come at its beginning
pub pieces_to_come : (at : ℕ) (text : List ℕ) → pieces_from at text ≡ to_come None at (classes Nothing text)
pieces_to_come at text = sym (to_come-parts None at [] at (classes Nothing text) (omega arith) refl)

span_is : (from to : ℕ) (span : Span) → span.from ≡ from → span.to ≡ to → record { from = from; to = to } ≡ span
span_is from to span begins ends =
    let begun : ℕ → Span = λ place. record { from = place; to = to } in
    let ended : ℕ → Span = λ place. record { from = span.from; to = place } in
    ap begun (sym begins) ∙ ap ended (sym ends)

-- a span by its ends
pub grown_is : (solid : Option Span) (at len : ℕ) (span : Span) → span.from ≡ option_map_or (λ span. span.from) solid at → span.to ≡ at + len → grown_to solid at len ≡ span
grown_is None at len span from to = span_is _ _ span from to
grown_is (Some first) at len span from to = span_is _ _ span from to

-- behind the last byte only the part that has begun is to come
pub last_piece :
    (solid : Option Span) (at : ℕ) (text : List ℕ) (begins : ℕ) (whole : List ℕ) → length text ≡ 0 →
    to_come solid at (classes Nothing text) ≡ to_come None begins (classes Nothing whole) →
    MatchOption solid ((pieces_from begins whole ≡ []) × (pieces_from at text ≡ [])) (λ span. pieces_from begins whole ≡ span ∷ pieces_from at text)
last_piece None at [] begins whole empty same = (pieces_to_come begins whole ∙ sym same, refl)
last_piece (Some span) at [] begins whole empty same = pieces_to_come begins whole ∙ sym same
last_piece solid at (b ∷ bs) begins whole empty same = absurd (omega (arith, empty))

-- at a separator the part that has begun ends
pub separated_piece :
    (solid : Option Span) (at : ℕ) (text : List ℕ) (begins : ℕ) (whole : List ℕ) → is_some solid ≡ true →
    option_to_list solid ++ to_come None at (classes Nothing text) ≡ to_come None begins (classes Nothing whole) →
    MatchOption solid ((pieces_from begins whole ≡ []) × (pieces_from at text ≡ [])) (λ span. pieces_from begins whole ≡ span ∷ pieces_from at text)
separated_piece None at text begins whole some same = absurd cc
separated_piece (Some span) at text begins whole some same =
    pieces_to_come begins whole ∙ sym same ∙ ap (λ (spans : List Span). span ∷ spans) (sym (pieces_to_come at text))

-- an iterator that gives the first of what was left makes progress
pub first_progress :
    {S A : Type 0} (can : S → Type 0) (rest : S → List A) (s : S) (r : Option A) (t : S) → can t → YieldsFirst rest s r t →
    MakesProgress can (item_count rest) s r t
first_progress can rest s None t can_go gives = record { on = λ _. tt; keeps = tt; rests = λ _. tt }
first_progress can rest s (Some x) t can_go gives =
    record { on = λ _. (can_go, tt, omega (arith, ap length gives)); keeps = can_go; rests = λ _. tt }

classes-length : (inside : Inside) (text : List ℕ) → length (classes inside text) ≡ length text
classes-length Nothing [] = refl
classes-length Comment [] = refl
classes-length (Quote mark) [] = refl
classes-length Comment (b ∷ bs) = ap suc (classes-length (if nat_eq b 10 then Nothing else Comment) bs)
classes-length (Quote mark) (b ∷ bs) = ap suc (classes-length (if nat_eq b mark then Nothing else Quote mark) bs)
classes-length Nothing (b ∷ bs) =
    elim (nat_eq b 45 && begins_with_dash bs) as (λ dashes. length (if dashes then Blank ∷ classes Comment bs else (if nat_eq b 59 then Separator ∷ classes Nothing bs else blank_or_solid b ∷ classes (if is_quote b then Quote b else Nothing) bs)) ≡ suc (length bs)) [
      | true ↦ ap suc (classes-length Comment bs)
      | false ↦ elim (nat_eq b 59) as (λ separates. length (if separates then Separator ∷ classes Nothing bs else blank_or_solid b ∷ classes (if is_quote b then Quote b else Nothing) bs) ≡ suc (length bs)) [
        | true ↦ ap suc (classes-length Nothing bs)
        | false ↦ ap suc (classes-length (if is_quote b then Quote b else Nothing) bs)
      ]
    ]

option_within : (len : ℕ) (solid : Option Span) → IfSome solid (IsWithin len) → All (IsWithin len) (option_to_list solid)
option_within len None within = All-nil (IsWithin len)
option_within len (Some span) within = All-cons (IsWithin len) span [] within (All-nil (IsWithin len))

wider : (at len : ℕ) (solid : Option Span) → at ≤ len → IfSome solid (IsWithin at) → IfSome solid (IsWithin len)
wider at len None more within = tt
wider at len (Some span) more within = (within.0, omega arith)

grown-within : (solid : Option Span) (at : ℕ) → IfSome solid (IsWithin at) → IsWithin (at + 1) (grown_to solid at 1)
grown-within None at within = (omega arith, omega arith)
grown-within (Some span) at within = (omega (arith, within.0, within.1), omega arith)

to_come-within :
    (solid : Option Span) (at : ℕ) (cs : List Class) (len : ℕ) → IfSome solid (IsWithin at) → at + length cs ≤ len →
    All (IsWithin len) (to_come solid at cs)
to_come-within solid at [] len within fits = option_within len solid (wider at len solid (omega arith) within)
to_come-within solid at (Separator ∷ cs) len within fits =
    All-append (IsWithin len) (option_to_list solid) (to_come None (at + 1) cs)
    (option_within len solid (wider at len solid (omega (arith, fits)) within))
    (to_come-within None (at + 1) cs len tt (omega (arith, fits)))
to_come-within solid at (Blank ∷ cs) len within fits =
    to_come-within solid (at + 1) cs len (wider at (at + 1) solid (omega arith) within) (omega (arith, fits))
to_come-within solid at (Solid ∷ cs) len within fits =
    to_come-within (Some (grown_to solid at 1)) (at + 1) cs len (grown-within solid at within) (omega (arith, fits))

-- each piece has bytes, and the text has them
pub pieces_within : (text : List ℕ) → All (IsWithin (length text)) (pieces text)
pieces_within text =
    rw pieces_to_come (to_come-within None 0 (classes Nothing text) (length text) tt (omega (arith, classes-length Nothing text)))
