use Rattle.std.proofs.Common.{refl, get_or, ap, ◌≡◌, ◌++◌, ◌∙◌, string_bytes, encode_utf8, chars, map, arith}
use Rattle.std.proofs.lemmas.Result.{IfOk-weaker}
use Rattle.lint_tables.specs.Words.{upper}
use Rattle.sql_lex.proofs.LexSpelling.{upper_more, upper_done}
use Rattle.sql_lex.proofs.words.upper_case.Goals as goal

pub loop-b-preserved : goal.loop-b-preserved
loop-b-preserved c =
    let b = get_or c.args.word.now c.loop-b.b-index 0 in
    let letter : encode_utf8 c.from.result ≡ encode_utf8 (upper b) = cc in
    let pushed : string_bytes c.push.new.self ≡ string_bytes c.loop-b.text ++ encode_utf8 c.from.result = c.in_ok-push.ensures.bytes in
    pushed ∙ upper_more (string_bytes c.loop-b.text) _ c.args.word.now c.loop-b.b-index b c.loop-b-test.true refl c.loop-b.invariant letter

pub returns : goal.returns
returns c =
    let done = upper_done (string_bytes c.loop-b.text) c.args.word.now c.loop-b.b-index c.loop-b-test.false (λ k. omega (arith, c.type_inv.word k)) c.loop-b.invariant in
    IfOk-weaker c.from_str.result (λ s. s ≡ chars c.as_str.result.now) (λ s. s ≡ map upper c.args.word.now) (λ s e. e ∙ ap chars c.as_str.ensures.value ∙ done) c.from_str.ensures
