use Rattle.std.proofs.Common.{◌≡◌, ◌∙◌, ◌++◌, ◌∷◌, [], ℕ, ap, length, List, string_bytes}
use Rattle.text_classes.proofs.Prefixes.{all_listed, all_within, narrowed, narrowed_ascii, no_bytes_ascii}
use Rattle.text_classes.proofs.prefix.unused.Goals as goal

pub loop-alloc-init : goal.loop-alloc-init
loop-alloc-init c =
    let count : length c.in_ok-rest.rest.items ≡ length c.args.texts.now = c.in_ok-rest.ensures.count in
    record {
      within = all_within c.args.texts.now c.in_ok-rest.rest.items count c.in_ok-rest.ensures.each;
      whole = λ k h begins. all_listed c.args.texts.now c.in_ok-rest.rest.items count c.in_ok-rest.ensures.each k h;
      ascii = no_bytes_ascii (string_bytes c.new-prefix.result) c.new-prefix.ensures.bytes;
    }

pub loop-alloc-preserved : goal.loop-alloc-preserved
loop-alloc-preserved c =
    let inv = c.loop-alloc.invariant in
    let d = c.in_ok-narrowed.narrowed.digit in
    let old = string_bytes c.loop-alloc.prefix in
    let new = string_bytes c.push.new.self in
    let depth : length c.as_str.result.now ≡ length old = ap length c.as_str.ensures.value in
    let rest : c.deref.result.now ≡ c.loop-alloc.rest.items = c.deref.ensures.value in
    let more : new ≡ old ++ d ∷ [] = c.in_ok-push.ensures.bytes ∙ ap (λ (bs : List ℕ). old ++ bs) (c.in_ok-push.ensures.ascii c.in_ok-narrowed.ensures.digit) in
    let has = rw rest at c.in_ok-narrowed.ensures.has in
    record {
      within = has.within;
      whole = narrowed c.args.texts.now c.loop-alloc.rest.items c.in_ok-narrowed.narrowed.rest.items d old new (length c.as_str.result.now) depth more has inv.whole;
      ascii = narrowed_ascii c.args.texts.now c.loop-alloc.rest.items c.in_ok-narrowed.narrowed.rest.items d old new (length c.as_str.result.now) depth more has inv.ascii c.in_ok-narrowed.ensures.digit;
    }
