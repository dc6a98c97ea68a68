-- What is known of a console that never fails: it does not tell its text, and counts no fault.
use Rattle.std.specs.Prelude.{false, []}
use Rattle.helix_outside.specs.Console.{Screen}

-- it tells no text, and counts no fault
abbrev pub steady_screen : Screen
steady_screen = record { told = false; text = []; faults = 0 }
