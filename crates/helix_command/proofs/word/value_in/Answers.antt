use Rattle.std.proofs.Common.{◌+◌, ◌-◌, length, drop}
use Rattle.helix_command.proofs.Texts.{all_scalars-drop, all_scalars-take}
use Rattle.helix_command.proofs.word.value_in.Goals as goal

pub returns-in-Some-clause-scalars : goal.returns-in-Some-clause-scalars
returns-in-Some-clause-scalars c = λ all. all_scalars-take (drop (c.in-Some.at + 1) c.args.word.now)
    (length c.args.word.now - (c.in-Some.at + 1)) (all_scalars-drop c.args.word.now (c.in-Some.at + 1) all)
