-- Why a run answers as it does, whatever disk and console do.
use Rattle.std.specs.Prelude.{◌≡◌, ℕ, ◌≤◌, ◌⊎◌, List, Some, None, IsSome, IsTrue, ⊤}
use Rattle.std.specs.FinMap.{get}
use Rattle.helix_outside.specs.Count.{Rose}
use Rattle.helix_outside.specs.Files.{FileMap}
use Rattle.helix_outside.specs.Disk.{DiskState}
use Rattle.helix_run.specs.declared.status.Status.{Status}
use Rattle.helix_run.specs.declared.status.Status.TheVariants.{Done, Cut, Empty, Usage, ReadFault, WriteFault, ProfileRefused, TokenRefused, WantOfMemory}
use Rattle.helix_run.specs.Words.{Names, order_of}
use Rattle.helix_run.specs.Profile.{Field, IsRefused}
use Rattle.helix_run.specs.Script.{HasProfile, HasField}
use Rattle.helix_run.specs.Environment.{Environment, DiskUnfailed}

-- the words are accepted, and the disk tells that there is no profile file
pub record LacksProfile (words : List (List ℕ)) (disk : DiskState) : Type 0 where
  pub told : IsTrue disk.told
  pub names : Names
  pub ordered : order_of words ≡ Some names
  pub missing : get disk.files names.profile ≡ None

-- the words are accepted, and the disk tells that the output is there already
pub record OutputIsThere (words : List (List ℕ)) (disk : DiskState) : Type 0 where
  pub told : IsTrue disk.told
  pub names : Names
  pub ordered : order_of words ≡ Some names
  pub there : IsSome (get disk.files names.output)

-- the words are accepted, and the profile file is refused
pub record ProfileIsRefused (words : List (List ℕ)) (files : FileMap) : Type 0 where
  pub names : Names
  pub bytes : List ℕ
  pub profile : HasProfile words files names bytes
  pub refused : IsRefused bytes

-- the words are accepted, and the profile file too
pub record ProfileIsRead (words : List (List ℕ)) (files : FileMap) : Type 0 where
  pub names : Names
  pub field : Field
  pub has : HasField words files names field

-- the words give no order
pub record CauseOfUsage (words : List (List ℕ)) (before after : Environment) : Type 0 where
  pub no_order : order_of words ≡ None
  pub disk : DiskUnfailed before after

-- reading failed in this run, or there is no profile file
pub record CauseOfReadFault (words : List (List ℕ)) (before after : Environment) : Type 0 where
  pub ordered : IsSome (order_of words)
  pub unwritten : after.disk.write_faults ≤ before.disk.write_faults
  pub cause : Rose before.disk.read_faults after.disk.read_faults ⊎ LacksProfile words before.disk

-- the profile is refused
pub record CauseOfRefusal (words : List (List ℕ)) (before after : Environment) : Type 0 where
  pub ordered : IsSome (order_of words)
  pub disk : DiskUnfailed before after
  pub refused : IsTrue before.disk.told → ProfileIsRefused words before.disk.files

-- writing or the console failed in this run, or the output is there; and all that comes before went well
pub record CauseOfWriteFault (words : List (List ℕ)) (before after : Environment) : Type 0 where
  pub ordered : IsSome (order_of words)
  pub unfailed : after.disk.read_faults ≤ before.disk.read_faults
  pub accepted : IsTrue before.disk.told → ProfileIsRead words before.disk.files
  pub cause : (Rose before.disk.write_faults after.disk.write_faults ⊎ Rose before.console.faults after.console.faults)
      ⊎ OutputIsThere words before.disk

-- nothing failed, the profile is accepted, and the output was not there
pub record CauseOfDone (words : List (List ℕ)) (before after : Environment) : Type 0 where
  pub ordered : IsSome (order_of words)
  pub disk : DiskUnfailed before after
  pub console : after.console.faults ≤ before.console.faults
  pub accepted : IsTrue before.disk.told → ProfileIsRead words before.disk.files
  pub absent : ¬ OutputIsThere words before.disk

-- the cause of each status; running out of memory has none, and three statuses don't come yet
abbrev pub Cause : List (List ℕ) → Environment → Status → Environment → Type 0
Cause words before Usage after = CauseOfUsage words before after
Cause words before ReadFault after = CauseOfReadFault words before after
Cause words before ProfileRefused after = CauseOfRefusal words before after
Cause words before WriteFault after = CauseOfWriteFault words before after
Cause words before Done after = CauseOfDone words before after
Cause words before WantOfMemory after = ⊤
Cause words before Cut after = ⊥
Cause words before Empty after = ⊥
Cause words before TokenRefused after = ⊥
