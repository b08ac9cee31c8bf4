use Rattle.std.proofs.Common.{[], map, arith, sym, ◌∙◌, ap}
use Rattle.std.specs.Str.{bytes_eq}
use Rattle.lint_tables.specs.Words.{upper, place_of}
use Rattle.lint_tables.proofs.Places.{place_found, place_missing, still_missing}
use Rattle.lint_tables.proofs.fixed.Fixed.find.Goals as goal

pub returns-then-is_word-clause-place : goal.returns-then-is_word-clause-place
returns-then-is_word-clause-place g c =
    place_found (λ w. w.now) (bytes_eq (map upper c.args.word.now)) c.self.inside.words.now c.loop-place.place _ [] c.as_bytes.result.now
    c.loop-place-test.true c.loop-place.invariant c.as_bytes.ensures.value (sym c.is_word.ensures ∙ c.if-is_word.true)
    ∙ ap (λ words. place_of words c.args.word.now) c.self.view_is

pub returns-clause-place : goal.returns-clause-place
returns-clause-place g c =
    place_missing (λ w. w.now) (bytes_eq (map upper c.args.word.now)) c.self.inside.words.now c.loop-place.place []
    (omega arith) c.loop-place.invariant
    ∙ ap (λ words. place_of words c.args.word.now) c.self.view_is

pub loop-place-preserved : goal.loop-place-preserved
loop-place-preserved g c =
    still_missing (λ w. w.now) (bytes_eq (map upper c.args.word.now)) c.self.inside.words.now c.loop-place.place _ [] c.as_bytes.result.now
    c.loop-place-test.true c.loop-place.invariant c.as_bytes.ensures.value (sym c.is_word.ensures ∙ c.if-is_word.false)
