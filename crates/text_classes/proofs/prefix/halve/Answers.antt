use Rattle.std.proofs.Common.{◌≡◌, ◌≢◌, ◌∙◌, ◌<◌, ◌+◌, length, arith, slice_index_or}
use Rattle.text_classes.proofs.Prefixes.{byte_found, byte_passed, byte_read, has_in, size_in, size_pushed}
use Rattle.text_classes.proofs.prefix.halve.Goals as goal
use Rattle.text_classes.proofs.prefix.halve.Goals.{then-byte-eq48+in_ok-push, else-byte-eq48+then-byte-eq49+in_ok-push-2, else-byte-eq48+else-byte-eq49}

pub loop-number-preserved : goal.loop-number-preserved
loop-number-preserved c =
    let inv = c.loop-number.invariant in
    let texts = c.args.texts.now in
    let rest = c.args.rest.now in
    let i = c.loop-number.number-index in
    let depth = c.args.depth in
    let listed : i < length rest = c.loop-number-test.true in
    let byte = byte_read texts (slice_index_or rest i 0) depth c.index-texts-number.result c.byte_at-byte.result (c.requires.within i listed) c.index-texts-number.is c.byte_at-byte.ensures in
    let size = inv.few in
    elim c.if-byte-eq48.branch [
      | then-byte-eq48+in_ok-push w ↦
          let is48 : c.byte_at-byte.result ≡ 48 = w.if-byte-eq48.true in
          record {
            zeros = has_in texts rest (i + 1) depth 48 c.if-byte-eq48.zeros w.push.new.self w.zeros-is (byte_found texts rest i depth 48 c.loop-number.zeros.items w.push.new.self.items inv.zeros c.requires.within listed w.in_ok-push.ensures.items);
            ones = has_in texts rest (i + 1) depth 49 c.if-byte-eq48.ones c.loop-number.ones w.ones-is (byte_passed texts rest i depth 49 c.loop-number.ones.items inv.ones (λ h. (let e : c.byte_at-byte.result ≡ 49 = byte ∙ h in omega arith)));
            few = (let a = size_in c.if-byte-eq48.zeros w.push.new.self w.zeros-is in let b = size_in c.if-byte-eq48.ones c.loop-number.ones w.ones-is in let d = size_pushed c.loop-number.zeros.items w.push.new.self.items _ w.in_ok-push.ensures.items in omega arith);
          }
      | else-byte-eq48+then-byte-eq49+in_ok-push-2 w ↦
          let is49 : c.byte_at-byte.result ≡ 49 = w.if-byte-eq49.true in
          record {
            zeros = has_in texts rest (i + 1) depth 48 c.if-byte-eq48.zeros c.loop-number.zeros w.zeros-is (byte_passed texts rest i depth 48 c.loop-number.zeros.items inv.zeros (λ h. (let e : c.byte_at-byte.result ≡ 48 = byte ∙ h in omega arith)));
            ones = has_in texts rest (i + 1) depth 49 c.if-byte-eq48.ones w.push-then-byte-eq49.new.self w.ones-is (byte_found texts rest i depth 49 c.loop-number.ones.items w.push-then-byte-eq49.new.self.items inv.ones c.requires.within listed w.in_ok-push-2.ensures.items);
            few = (let a = size_in c.if-byte-eq48.zeros c.loop-number.zeros w.zeros-is in let b = size_in c.if-byte-eq48.ones w.push-then-byte-eq49.new.self w.ones-is in let d = size_pushed c.loop-number.ones.items w.push-then-byte-eq49.new.self.items _ w.in_ok-push-2.ensures.items in omega arith);
          }
      | else-byte-eq48+else-byte-eq49 w ↦
          let not48 : c.byte_at-byte.result ≢ 48 = w.if-byte-eq48.false in
          let not49 : c.byte_at-byte.result ≢ 49 = w.if-byte-eq49.false in
          record {
            zeros = has_in texts rest (i + 1) depth 48 c.if-byte-eq48.zeros c.loop-number.zeros w.zeros-is (byte_passed texts rest i depth 48 c.loop-number.zeros.items inv.zeros (λ h. not48 (byte ∙ h)));
            ones = has_in texts rest (i + 1) depth 49 c.if-byte-eq48.ones c.loop-number.ones w.ones-is (byte_passed texts rest i depth 49 c.loop-number.ones.items inv.ones (λ h. not49 (byte ∙ h)));
            few = (let a = size_in c.if-byte-eq48.zeros c.loop-number.zeros w.zeros-is in let b = size_in c.if-byte-eq48.ones c.loop-number.ones w.ones-is in omega arith);
          }
    ]
