-- A disk and a console that tell nothing of their contents.
use Rattle.std.specs.Prelude.{ℕ, false, [], Option, option_map}
use Rattle.std.specs.FinMap.{empty}
use Rattle.helix_outside.specs.Disk.{DiskState}
use Rattle.helix_outside.specs.Console.{Screen}

-- what is known: what is open, and the counts
abbrev pub untold : {File : Type 0} → Option File → Option File → ℕ → ℕ → DiskState
untold input output read_faults write_faults = record {
  told = false;
  files = empty;
  input = option_map (λ _. []) input;
  output = option_map (λ _. []) output;
  read_faults = read_faults;
  write_faults = write_faults;
}

abbrev pub untold_screen : ℕ → Screen
untold_screen faults = record { told = false; text = []; faults = faults }
