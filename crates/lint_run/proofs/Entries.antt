-- Entries, one after another, and how many pieces a text has.
use Rattle.std.proofs.Common.{◌≡◌, refl, ℕ, suc, ◌+◌, ◌≤◌, ◌++◌, List, [], ◌∷◌, length, map, true, false, ◌&&◌, nat_eq, if◌then◌else◌, Result, Ok, Err, IfOk, sym, ap, ◌∙◌, subst, length-append, append_assoc, arith}
use Rattle.std.proofs.lemmas.List.{map-append, length-map}
use Rattle.std.proofs.lemmas.List.Elements.{All-cons, All-nil}
use Rattle.cert_checks.specs.Named.{IsRead, AreRead}
use Rattle.command_words.specs.Wanted.{Asked}
use Rattle.lint_base.specs.declared.place.Span.{Span}
use Rattle.lint_base.specs.declared.place.NoMemory.{NoMemory}
use Rattle.lint_core.specs.declared.schema.Table.{Table}
use Rattle.lint_core.specs.declared.query.Query.{Query}
use Rattle.lint_core.specs.declared.query.Question.{Question}
use Rattle.lint_core.specs.declared.run.Answer.{Answer}
use Rattle.lint_core.specs.declared.run.QueryResult.{QueryResult}
use Rattle.lint_core.specs.declared.run.QueryResult.TheVariants.{Refused, Answered}
use Rattle.lint_core.specs.declared.run.QueryRun.{QueryRun}
use Rattle.lint_core.specs.Asked.{questions as questions_of}
use Rattle.lint_core.specs.Fits.{query_fits}
use Rattle.sql_lex.specs.Bytes.{is_quote}
use Rattle.sql_lex.specs.Classes.{Class, Blank, Solid, Separator, Inside, Nothing, Comment, Quote, classes, begins_with_dash, blank_or_solid}
use Rattle.sql_lex.specs.Pieces.{Part, parts_from, solid_places, spanned, spans_of, pieces}
use Rattle.lint_run.specs.inner.Judging.{IsAnsweredRun}
use Rattle.lint_run.specs.RightRun.{AreAnswers, IsRightResult, AreRightFrom}
use Rattle.sql_reading.specs.TextReading.{ReadsQuery}

abbrev pub span_of : QueryRun → Span
span_of run = run.span

module _ (asked : Asked) (schema : List Table) where
  -- one entry more
  pub right_more : (number : ℕ) (text : List ℕ) (runs : List QueryRun) (run : QueryRun) →
      AreRightFrom asked schema number text runs → IsRightResult asked schema (number + length runs) text run run.result →
      AreRightFrom asked schema number text (runs ++ run ∷ [])
  right_more number text [] run right last =
      let e : number + 0 ≡ number = omega arith in
      (subst (λ n. IsRightResult asked schema n text run run.result) e last, tt)
  right_more number text (first ∷ runs) run right last =
      let e : number + suc (length runs) ≡ number + 1 + length runs = omega arith in
      (right.0, right_more (number + 1) text runs run right.1 (subst (λ n. IsRightResult asked schema n text run run.result) e last))

  -- what is answered of a query
  pub answered_run : (number : ℕ) (query : Query) (list : List Question) (answers : List Answer) →
      query_fits schema query ≡ true → list ≡ questions_of schema query → AreAnswers asked schema number query answers →
      IsAnsweredRun asked schema number query (Answered query list answers)
  answered_run number query list answers fits listed right = (refl, record { fits = fits; questions_are = listed; answers_are = right })

  -- a query that is read, and what is answered of it
  pub read_run : (number : ℕ) (text : List ℕ) (piece : Span) (query : Query) (answered : Result QueryResult NoMemory) →
      ReadsQuery schema text piece query → IfOk answered (λ r. IsAnsweredRun asked schema number query r) →
      IfOk answered (λ r. IsRightResult asked schema number text (record { span = piece; result = r }) r)
  read_run number text piece query (Err none) read right = tt
  read_run number text piece query (Ok (Refused refusal)) read right = absurd right
  read_run number text piece query (Ok (Answered own list answers)) read right =
      (subst (λ q. ReadsQuery schema text piece q) (sym right.0) read, right.1)

  -- right entries are read
  is_read : (number : ℕ) (text : List ℕ) (run : QueryRun) (span : Span) (result : QueryResult) →
      IsRightResult asked schema number text run result → IsRead schema (record { span = span; result = result })
  is_read number text run span (Refused refusal) right = tt
  is_read number text run span (Answered query list answers) right = (right.1.fits, right.1.questions_are)

  pub are_read : (number : ℕ) (text : List ℕ) (runs : List QueryRun) → AreRightFrom asked schema number text runs → AreRead schema runs
  are_read number text [] right = All-nil (IsRead schema)
  are_read number text (run ∷ runs) right =
      All-cons (IsRead schema) run runs (is_read number text run run.span run.result right.0) (are_read (number + 1) text runs right.1)

-- the span of one entry more
pub spans_more : (runs : List QueryRun) (run : QueryRun) (piece : Span) (left rest all : List Span) → map span_of runs ++ left ≡ all → left ≡ piece ∷ rest → run.span ≡ piece →
    map span_of (runs ++ run ∷ []) ++ rest ≡ all
spans_more runs run piece left rest all spans first own =
    ap (λ l. l ++ rest) (map-append span_of runs (run ∷ []))
    ∙ (append_assoc (map span_of runs) (run.span ∷ []) rest
    ∙ (ap (λ p. map span_of runs ++ p ∷ rest) own ∙ (ap (λ l. map span_of runs ++ l) (sym first) ∙ spans)))

-- a byte is of one class
one_class : (inside : Inside) (text : List ℕ) → length (classes inside text) ≡ length text
one_class Nothing [] = refl
one_class Comment [] = refl
one_class (Quote mark) [] = refl
one_class Comment (b ∷ bs) = ap suc (one_class (if nat_eq b 10 then Nothing else Comment) bs)
one_class (Quote mark) (b ∷ bs) = ap suc (one_class (if nat_eq b mark then Nothing else Quote mark) bs)
one_class Nothing (b ∷ bs) =
    elim (nat_eq b 45 && begins_with_dash bs) as (λ dashes. length (if dashes then Blank ∷ classes Comment bs else (if nat_eq b 59 then Separator ∷ classes Nothing bs else blank_or_solid b ∷ classes (if is_quote b then Quote b else Nothing) bs)) ≡ suc (length bs)) [
      | true ↦ ap suc (one_class Comment bs)
      | false ↦ elim (nat_eq b 59) as (λ separates. length (if separates then Separator ∷ classes Nothing bs else blank_or_solid b ∷ classes (if is_quote b then Quote b else Nothing) bs) ≡ suc (length bs)) [
        | true ↦ ap suc (one_class Nothing bs)
        | false ↦ ap suc (one_class (if is_quote b then Quote b else Nothing) bs)
      ]
    ]

-- at most one part more than bytes
few_parts : (from : ℕ) (so_far : List Class) (at : ℕ) (cs : List Class) → length (parts_from from so_far at cs) ≤ suc (length cs)
few_parts from so_far at [] = omega arith
few_parts from so_far at (Separator ∷ cs) = let few = few_parts (at + 1) [] (at + 1) cs in omega (arith, few)
few_parts from so_far at (Blank ∷ cs) = let few = few_parts from (so_far ++ Blank ∷ []) (at + 1) cs in omega (arith, few)
few_parts from so_far at (Solid ∷ cs) = let few = few_parts from (so_far ++ Solid ∷ []) (at + 1) cs in omega (arith, few)

one_span : (places : List ℕ) → length (spanned places) ≤ 1
one_span [] = omega arith
one_span (place ∷ places) = omega arith

few_spans : (parts : List Part) → length (spans_of parts) ≤ length parts
few_spans [] = omega arith
few_spans (part ∷ parts) =
    let one = one_span (solid_places part.from part.inside) in
    let few = few_spans parts in
    omega (arith, one, few, length-append (spanned (solid_places part.from part.inside)) (spans_of parts))

-- at most one piece more than bytes
pub few_pieces : (text : List ℕ) → length (pieces text) ≤ length text + 1
few_pieces text =
    let spans = few_spans (parts_from 0 [] 0 (classes Nothing text)) in
    let parts = few_parts 0 [] 0 (classes Nothing text) in
    let all = one_class Nothing text in
    omega (arith, spans, parts, all)

-- at most one entry more than bytes
pub few_runs : (text : List ℕ) (runs : List QueryRun) (left : List Span) → map span_of runs ++ left ≡ pieces text → length runs ≤ length text + 1
few_runs text runs left spans =
    let few = few_pieces text in
    let both = length-append (map span_of runs) left in
    let all = ap length spans in
    omega (arith, few, both, all, length-map runs span_of)
