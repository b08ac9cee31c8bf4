use Rattle.std.proofs.Common.{string_bytes, chars}
use Rattle.std.proofs.lemmas.Iterator.{YieldsList-from_chars}
use Rattle.std.proofs.lemmas.Iterator.Consumers.{YieldsList-end}
use Rattle.insert_lines.proofs.Quotes.{doubled_none, doubled_more, doubled_whole}
use Rattle.insert_lines.proofs.inserting.push_doubled.Goals as goal

pub loop-character-init : goal.loop-character-init
loop-character-init c = doubled_none c.args.mark (string_bytes c.args.out.now)

pub loop-character-preserved : goal.loop-character-preserved
loop-character-preserved c = doubled_more c.args.mark (string_bytes c.args.out.now) _ _ c.loop-character.yielded c.in-Some.character c.loop-character.invariant c.in_ok-push_doubled_char.ensures

pub returns : goal.returns
returns c =
    let all = YieldsList-end (YieldsList-from_chars c.args.text.now c.utf8.text cc) c.loop-character.yielded _ c.loop-character.yielded_by _ _ c.in-None.is c.next.ensures.steps in
    doubled_whole c.args.mark (string_bytes c.args.out.now) _ c.loop-character.yielded (chars c.args.text.now) c.loop-character.invariant all.0
