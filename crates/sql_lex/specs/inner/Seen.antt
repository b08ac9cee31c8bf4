-- The code's classes as those of Classes.
use Rattle.sql_lex.specs.declared.classes.Class.{Class as CodeClass}
use Rattle.sql_lex.specs.declared.classes.Class.TheVariants as code
use Rattle.sql_lex.specs.Classes.{Class, Blank, Solid, Separator}

abbrev pub class_seen : CodeClass → Class
class_seen code.Blank = Blank
class_seen code.Solid = Solid
class_seen code.Separator = Separator
