-- `command::decode::decode` meets its contract: the row's command is of the code's class, and a class is one command.
use Rattle.command.specs.ClassLaws.{class_of-one}
use Rattle.command.proofs.decode.decode.Goals as goal

pub returns : goal.returns
returns c = class_of-one c.class_at.ensures
