-- The names that an order holds.
use Rattle.helix_run.specs.declared.words.Order.{Order}
use Rattle.helix_run.specs.Words.{Names}

-- the names that an order holds
abbrev pub names : Order → Names
names order = record { profile = order.profile.now; output = order.output.now }
