use Rattle.std.proofs.Common.{◌∙◌, sym, map, string_bytes}
use Rattle.command_words.proofs.Grammar.{command_keeps}
use Rattle.command_words.proofs.reading.command_of.Goals as goal

pub returns-clause-limits : goal.returns-clause-limits
returns-clause-limits c =
    let words = map string_bytes c.args.words.now in
    command_keeps words c.command.result (c.command.ensures ∙ sym c.in_ok-with_words.ensures ∙ c.start.ensures words)
