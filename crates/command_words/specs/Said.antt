-- What a command that was read asks for, its texts as bytes.
use Rattle.command_words.specs.declared.wanted.Command.{Command}
use Rattle.command_words.specs.declared.wanted.Task.{Task}
use Rattle.command_words.specs.declared.wanted.Task.TheVariants as task
use Rattle.command_words.specs.Wanted.{Asked, judges, checks, Wanted}

abbrev pub asked_by : Task → Asked
asked_by (task.Judge budget form) = judges budget form
asked_by (task.Check certs) = checks certs.now

abbrev pub said : Command → Wanted
said command = record {
  paths = record { schema = command.schema.now; queries = command.queries.now };
  asked = asked_by command.task;
}
