-- What showing an ending does.
use Rattle.std.specs.Prelude.{◌≡◌, ◌⊎◌, ℕ, ◌≤◌, ◌++◌, length, take, IsTrue}
use Rattle.helix_lines.specs.declared.ending.Ending.{Ending}
use Rattle.helix_lines.specs.declared.status.Status.{Status}
use Rattle.helix_lines.specs.Lines.{status_of, text_of, unshown}
use Rattle.helix_outside.specs.Console.{Screen}
use Rattle.helix_outside.specs.Count.{Rose}

-- all its lines are shown
pub record ShowsAll (ending : Ending) (old : Screen) (answer : Status) (new : Screen) : Type 0 where
  pub told : new.told ≡ old.told
  pub faults : new.faults ≡ old.faults
  pub text : IsTrue old.told → new.text ≡ old.text ++ text_of ending
  pub answer_is : answer ≡ status_of ending

-- the console failed, after a prefix of them
pub record FailsToShow (ending : Ending) (old : Screen) (answer : Status) (new : Screen) : Type 0 where
  pub told : new.told ≡ old.told
  pub rose : Rose old.faults new.faults
  pub text : IsTrue old.told → (n : ℕ) × (n ≤ length (text_of ending)) × (new.text ≡ old.text ++ take n (text_of ending))
  pub answer_is : answer ≡ unshown (status_of ending)

-- one of the two
abbrev pub Shows : Ending → Screen → Status → Screen → Type 0
Shows ending old answer new = ShowsAll ending old answer new ⊎ FailsToShow ending old answer new
