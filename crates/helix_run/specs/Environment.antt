-- What is known of the environment of a run: its disk and its console.
use Rattle.std.specs.Prelude.{◌≡◌, ◌≤◌, List, ℕ, ◌++◌, IsTrue}
use Rattle.helix_outside.specs.Count.{Rose}
use Rattle.helix_outside.specs.Disk.{DiskState}
use Rattle.helix_outside.specs.Console.{Screen}
use Rattle.helix_run.specs.declared.status.Status.{Status}
use Rattle.helix_run.specs.Script.{Script}

-- a disk and a console
pub record Environment : Type 0 where
  pub disk : DiskState
  pub console : Screen

-- these two together
abbrev pub environment : DiskState → Screen → Environment
environment disk console = record { disk = disk; console = console }

-- no count of faults rose
pub record IsQuiet (before after : Environment) : Type 0 where
  pub read : ¬ Rose before.disk.read_faults after.disk.read_faults
  pub write : ¬ Rose before.disk.write_faults after.disk.write_faults
  pub console : ¬ Rose before.console.faults after.console.faults

-- neither part of the disk's count is greater than before
pub record DiskUnfailed (before after : Environment) : Type 0 where
  pub read : after.disk.read_faults ≤ before.disk.read_faults
  pub write : after.disk.write_faults ≤ before.disk.write_faults

-- a run goes by the script of its words and files, as far as the console tells what it shows
pub record FollowsScript (words : List (List ℕ)) (before : Environment) (status : Status)
    (after : Environment) : Type 0 where
  pub text : List ℕ
  pub script : Script words before.disk.files status after.disk.files text
  pub shown : IsTrue before.console.told → after.console.text ≡ before.console.text ++ text
