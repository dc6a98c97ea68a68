-- The numbers of a workload as code has them.
use Rattle.helix_workload.specs.Workload.{Draws}
use Rattle.helix_workload.specs.declared.draws.Draws.{Draws as Drawn}

abbrev pub draws_in : Drawn → Draws
draws_in drawn = record { letters = drawn.letters; day = drawn.day; days = drawn.days; least = drawn.least }
