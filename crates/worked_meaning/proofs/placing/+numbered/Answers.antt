use Rattle.worked_meaning.proofs.Numbered.{numbered_and, numbered_or}
use Rattle.worked_meaning.proofs.placing.+numbered.Goals as goal

pub is_numbered-returns-in-And : goal.is_numbered-returns-in-And
is_numbered-returns-in-And t c true_is =
    let all = numbered_and c.args.outside c.in-And.parts in
    let each = c.are_numbered.ensures true_is in
    cc

pub is_numbered-returns-in-Or : goal.is_numbered-returns-in-Or
is_numbered-returns-in-Or t c true_is =
    let all = numbered_or c.args.outside c.in-Or.parts in
    let each = c.are_numbered-in-Or.ensures true_is in
    cc
