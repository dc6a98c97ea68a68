-- What a console in memory is, and what a line does there beside what it does on every console.
use Rattle.std.specs.Prelude.{◌≡◌, ℕ, ◌+◌, ◌≤◌, true, List, [], Contains, Result, IsErr, OnErr, refl}
use Rattle.std.specs.Coded.{Coded, code_by, coded×, coded_ℕ, coded_list}
use Rattle.helix_base.specs.Count.{raised}
use Rattle.helix_outside.specs.Console.{Screen}

-- a console in memory: its text, its counts, and the calls that are to fail
pub record ConsoleInMemory : Type 0 where
  pub text : List ℕ
  pub faults : ℕ
  -- how many calls were made, and the numbers of those that fail, from 1
  pub calls : ℕ
  pub failing : List ℕ

-- a console in memory tells its text
abbrev pub screen_of : ConsoleInMemory → Screen
screen_of console = record { told = true; text = console.text; faults = console.faults }

-- nothing was shown, no call was made and nothing failed
abbrev pub blank : List ℕ → ConsoleInMemory
blank failing = record { text = []; faults = 0; calls = 0; failing = failing }

-- every call has the next number and fails where it is listed; a call that fails adds nothing, and counts one fault at
-- most
pub record IsLine {T E : Type 0} (old : ConsoleInMemory) (result : Result T E) (new : ConsoleInMemory) : Type 0 where
  pub numbered : new.calls ≡ raised old.calls
  pub listed : new.failing ≡ old.failing
  pub due : Contains old.failing (raised old.calls) → IsErr result
  pub one_fault : new.faults ≤ old.faults + 1
  pub none : OnErr result (new.text ≡ old.text)

-- a console is stored as the tuple of its parts
abbrev pub console_code : Coded ConsoleInMemory
console_code =
    code_by (List ℕ × (ℕ × (ℕ × List ℕ)))
    (coded× (coded_list coded_ℕ) (coded× coded_ℕ (coded× coded_ℕ (coded_list coded_ℕ))))
    (λ c. (c.text, (c.faults, (c.calls, c.failing))))
    (λ p. record { text = p.0; faults = p.1.0; calls = p.1.1.0; failing = p.1.1.1 })
    (λ _. refl)
