use Rattle.std.proofs.Common.{rules, ◌≡◌, ◌∙◌, ap, length}
use Rattle.std.specs.List.{insert, take_while}
use Rattle.std.specs.Prelude.{nat_lt}
use Rattle.sorted_skolem.proofs.Living.{insert_is}
use Rattle.sorted_skolem.proofs.edges.insert_table.Goals as goal

pub returns : goal.returns
returns c =
    let count : c.count_less.result ≡ length (take_while (λ other. nat_lt other c.args.table) c.args.tables.now.items) = search rules in
    c.in_ok-insert.ensures.items ∙ (ap (λ n. insert c.args.tables.now.items n c.args.table) count ∙ insert_is c.args.tables.now.items c.args.table)
