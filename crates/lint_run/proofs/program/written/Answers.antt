use Rattle.std.proofs.Common.{◌∙◌, sym, subst}
use Rattle.std.specs.Prelude.{option_map}
use Rattle.command_words.specs.Said.{said}
use Rattle.lint_base.specs.Sink.{Appended}
use Rattle.lint_core.specs.declared.run.Run.{Run}
use Rattle.lint_run.proofs.Numbered.{read_back}
use Rattle.lint_run.proofs.Whole.{whole_ends}
use Rattle.lint_run.specs.Written.{sunk, EndsRight}
use Rattle.lint_run.proofs.program.written.Goals as goal

pub returns-in-Ok-write_text-clause-ends : goal.returns-in-Ok-write_text-clause-ends
returns-in-Ok-write_text-clause-ends g c = λ files before now cause.
    let wanted = option_map said c.args.command in
    let old = sunk g.K.Sink.faults g.K.Sink.contents c.args.out.now in
    let new = sunk g.K.Sink.faults g.K.Sink.contents c.write_text.new.sink in
    let run = c.args.judged.run in
    let stop = c.args.judged.stop in
    let whole : EndsRight files wanted before now old new run stop =
    whole_ends files before now run wanted old new stop (sym c.wants_memory.ensures ∙ c.if-wants_memory.false) (record {
      cause = cause;
      reads = read_back files wanted before now run stop cause c.in-Ok.ensures.reads;
      written = subst (Appended old.contents new.contents) (c.as_slice.ensures.value ∙ c.in-Ok.ensures.text) c.in-Ok-write_text.ensures.ok;
      no_fault = c.in-Ok-write_text.ensures.stand;
    }) in
    subst (λ s. EndsRight files wanted before now old new c.ended-in-Ok-write_text.result.run s) (sym c.ended-in-Ok-write_text.ensures.stop)
    (subst (λ (r : Run). EndsRight files wanted before now old new r stop) (sym c.ended-in-Ok-write_text.ensures.run) whole)
