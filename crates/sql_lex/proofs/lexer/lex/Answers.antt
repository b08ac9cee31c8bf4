use Rattle.std.proofs.Common.{◌≡◌, ◌≤◌, ◌-◌, length, slice_range, List, ℕ, sym, subst, ◌∙◌, arith}
use Rattle.std.proofs.lemmas.List.{take_rest, length-drop, length-take}
use Rattle.sql_lex.specs.declared.found.Found.TheVariants.{Lexeme, Flaw}
use Rattle.sql_lex.proofs.LexScan.{Reads, nonempty, empty, front_found, scan_more, scan_ends, scan_stops}
use Rattle.sql_lex.proofs.LexFew.{part_tokens_are_few}
use Rattle.sql_lex.proofs.lexer.lex.Goals as goal

pub returns-then-is_empty-clause-tokens : goal.returns-then-is_empty-clause-tokens
returns-then-is_empty-clause-tokens c =
    let inner = c.after_gap-inner.result.now in
    scan_ends (slice_range c.args.text.now c.args.part.from c.args.part.to) c.args.part.from c.args.part.to c.loop-inner.tokens.items c.loop-inner.rest.now inner
    c.loop-inner.invariant c.after_gap-inner.ensures.rest (empty c.is_empty.result inner c.is_empty.ensures c.if-is_empty.true)

pub returns-then-is_empty-clause-few : goal.returns-then-is_empty-clause-few
returns-then-is_empty-clause-few c =
    let part = slice_range c.args.text.now c.args.part.from c.args.part.to in
    let within : length part ≤ length c.args.text.now = omega (arith, length-take {A = ℕ}, length-drop {A = ℕ}) in
    part_tokens_are_few c.args.part.from c.args.text.now part c.loop-inner.tokens.items within (returns-then-is_empty-clause-tokens c)

pub overflow_cast-to : goal.overflow_cast-to
overflow_cast-to c =
    let inner = c.after_gap-inner.result.now in
    let rest = c.loop-inner.rest.now in
    let is_gap = c.after_gap-inner.ensures.rest in
    let some = nonempty c.is_empty.result inner c.is_empty.ensures c.if-is_empty.false in
    let found = front_found rest inner (Lexeme c.in-Lexeme.kind c.in-Lexeme.len) is_gap some (sym c.in-Lexeme.is ∙ c.in_ok-kind.ensures) in
    let within = found.within in
    omega arith

pub overflow_add-to : goal.overflow_add-to
overflow_add-to c =
    let inner = c.after_gap-inner.result.now in
    let rest = c.loop-inner.rest.now in
    let is_gap = c.after_gap-inner.ensures.rest in
    let some = nonempty c.is_empty.result inner c.is_empty.ensures c.if-is_empty.false in
    let found = front_found rest inner (Lexeme c.in-Lexeme.kind c.in-Lexeme.len) is_gap some (sym c.in-Lexeme.is ∙ c.in_ok-kind.ensures) in
    let within = found.within in
    omega arith

pub slice_bounds-rest-count-in-Lexeme : goal.slice_bounds-rest-count-in-Lexeme
slice_bounds-rest-count-in-Lexeme c =
    let inner = c.after_gap-inner.result.now in
    let rest = c.loop-inner.rest.now in
    let is_gap = c.after_gap-inner.ensures.rest in
    let some = nonempty c.is_empty.result inner c.is_empty.ensures c.if-is_empty.false in
    let found = front_found rest inner (Lexeme c.in-Lexeme.kind c.in-Lexeme.len) is_gap some (sym c.in-Lexeme.is ∙ c.in_ok-kind.ensures) in
    let within = found.within in
    omega arith

pub slice_bounds-rest-start-in-Lexeme : goal.slice_bounds-rest-start-in-Lexeme
slice_bounds-rest-start-in-Lexeme c =
    let inner = c.after_gap-inner.result.now in
    let rest = c.loop-inner.rest.now in
    let is_gap = c.after_gap-inner.ensures.rest in
    let some = nonempty c.is_empty.result inner c.is_empty.ensures c.if-is_empty.false in
    let found = front_found rest inner (Lexeme c.in-Lexeme.kind c.in-Lexeme.len) is_gap some (sym c.in-Lexeme.is ∙ c.in_ok-kind.ensures) in
    let within = found.within in
    omega arith

pub loop-inner-smaller : goal.loop-inner-smaller
loop-inner-smaller c =
    let inner = c.after_gap-inner.result.now in
    let rest = c.loop-inner.rest.now in
    let is_gap = c.after_gap-inner.ensures.rest in
    let some = nonempty c.is_empty.result inner c.is_empty.ensures c.if-is_empty.false in
    let found = front_found rest inner (Lexeme c.in-Lexeme.kind c.in-Lexeme.len) is_gap some (sym c.in-Lexeme.is ∙ c.in_ok-kind.ensures) in
    let within = found.within in
    let more = found.some in
    let left = subst (λ (x : List ℕ). length x ≡ length inner - c.in-Lexeme.len) (sym (take_rest inner c.in-Lexeme.len)) (length-drop c.in-Lexeme.len inner) in
    let below = c.after_gap-inner.ensures.within in
    omega arith

pub loop-inner-preserved : goal.loop-inner-preserved
loop-inner-preserved c =
    let inner = c.after_gap-inner.result.now in
    let rest = c.loop-inner.rest.now in
    let is_gap = c.after_gap-inner.ensures.rest in
    let some = nonempty c.is_empty.result inner c.is_empty.ensures c.if-is_empty.false in
    let part = slice_range c.args.text.now c.args.part.from c.args.part.to in
    subst (λ (x : List ℕ). Reads part c.args.part.from c.args.part.to c.push.new.self.items x) (sym (take_rest inner c.in-Lexeme.len))
    (scan_more part c.args.part.from c.args.part.to c.loop-inner.tokens.items c.push.new.self.items rest inner c.in-Lexeme.kind c.in-Lexeme.len
    c.loop-inner.invariant is_gap some (sym c.in-Lexeme.is ∙ c.in_ok-kind.ensures) c.in_ok-push-in-Lexeme.ensures.items)

pub overflow_cast-to-in-Flaw : goal.overflow_cast-to-in-Flaw
overflow_cast-to-in-Flaw c =
    let inner = c.after_gap-inner.result.now in
    let rest = c.loop-inner.rest.now in
    let is_gap = c.after_gap-inner.ensures.rest in
    let some = nonempty c.is_empty.result inner c.is_empty.ensures c.if-is_empty.false in
    let found = front_found rest inner (Flaw c.in-Flaw.fault c.in-Flaw.len) is_gap some (sym c.in-Flaw.is ∙ c.in_ok-kind.ensures) in
    let within = found.within in
    omega arith

pub overflow_add-to-in-Flaw : goal.overflow_add-to-in-Flaw
overflow_add-to-in-Flaw c =
    let inner = c.after_gap-inner.result.now in
    let rest = c.loop-inner.rest.now in
    let is_gap = c.after_gap-inner.ensures.rest in
    let some = nonempty c.is_empty.result inner c.is_empty.ensures c.if-is_empty.false in
    let found = front_found rest inner (Flaw c.in-Flaw.fault c.in-Flaw.len) is_gap some (sym c.in-Flaw.is ∙ c.in_ok-kind.ensures) in
    let within = found.within in
    omega arith

pub returns-in-Flaw-clause-refused : goal.returns-in-Flaw-clause-refused
returns-in-Flaw-clause-refused c =
    let inner = c.after_gap-inner.result.now in
    let rest = c.loop-inner.rest.now in
    let is_gap = c.after_gap-inner.ensures.rest in
    let some = nonempty c.is_empty.result inner c.is_empty.ensures c.if-is_empty.false in
    scan_stops (slice_range c.args.text.now c.args.part.from c.args.part.to) c.args.part.from c.args.part.to c.loop-inner.tokens.items rest inner c.in-Flaw.fault c.in-Flaw.len
    c.loop-inner.invariant is_gap some (sym c.in-Flaw.is ∙ c.in_ok-kind.ensures)
