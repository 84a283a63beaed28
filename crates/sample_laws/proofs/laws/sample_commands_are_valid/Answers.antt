-- What words that name a sample ask of it.
use Rattle.scan_program.specs.Program.{command_in}
use Rattle.sample_laws.proofs.CommandLaws.{sample_commands}
use Rattle.sample_laws.proofs.laws.sample_commands_are_valid.Goals as goal

pub returns : goal.returns
returns c = sample_commands c.args._words.now (command_in c.args._words.now)
