use Rattle.text_classes.proofs.Paths.{excluded}
use Rattle.text_classes.proofs.facts.path_excludes_texts.Goals as goal

pub returns : goal.returns
returns c = λ facts last path texts is holds. excluded facts texts holds last path is
