-- A word that is not text is no name.
use Rattle.std.proofs.Common.{rules}
use Rattle.commands.proofs.ByName.{no_text}
use Rattle.commands.proofs.command_of.Goals as goal

pub returns-in_err-ok : goal.returns-in_err-ok
returns-in_err-ok c = search (rules, no_text)
