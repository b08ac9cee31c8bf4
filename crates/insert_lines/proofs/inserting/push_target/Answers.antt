use Rattle.std.proofs.Common.{codes, string_bytes}
use Rattle.std.proofs.lemmas.Result.{on_ok_weaker}
use Rattle.insert_lines.specs.InsertText.{name_text, target_text}
use Rattle.insert_lines.proofs.Appends.{then_three}
use Rattle.insert_lines.proofs.inserting.push_target.Goals as goal

pub returns : goal.returns
unfolding target_text
returns c = on_ok_weaker c.push_text-2.result (λ e.
    then_three (string_bytes c.args.out.now) (string_bytes c.push_text.new.out) (string_bytes c.push_name.new.out) (string_bytes c.push_text-2.new.out)
    (codes "INSERT INTO ") (name_text c.args.table.now.name) (codes " VALUES (")
    c.in_ok-push_text.ensures c.in_ok-push_name.ensures e) c.push_text-2.ensures
