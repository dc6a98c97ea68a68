-- What a disk in memory is, and what each of its calls does beside what every disk does.
use Rattle.std.specs.Prelude.{◌≡◌, ℕ, ◌+◌, ◌≤◌, true, List, Option, None, Contains, Result, IsErr, refl}
use Rattle.std.specs.Coded.{Coded, code_by, coded×, coded_ℕ, coded_list, coded_option}
use Rattle.std.specs.FinMap as map
use Rattle.helix_base.specs.Count.{raised}
use Rattle.helix_outside.specs.Files.{FileMap}
use Rattle.helix_outside.specs.Disk.{DiskState}

-- a disk in memory: its files, what is open, its counts, and the calls that are to fail
pub record DiskInMemory : Type 0 where
  pub files : FileMap
  -- the open input, as what is left of it
  pub input : Option (List ℕ)
  -- the open output, as its name
  pub output : Option (List ℕ)
  pub read_faults : ℕ
  pub write_faults : ℕ
  -- how many calls were made, and the numbers of those that fail, from 1
  pub calls : ℕ
  pub failing : List ℕ

-- a disk in memory tells its files
abbrev pub state_of : DiskInMemory → DiskState
state_of disk = record {
  told = true;
  files = disk.files;
  input = disk.input;
  output = disk.output;
  read_faults = disk.read_faults;
  write_faults = disk.write_faults;
}

-- nothing is open, no call was made and nothing failed
abbrev pub opened : FileMap → List ℕ → DiskInMemory
opened files failing = record {
  files = files;
  input = None;
  output = None;
  read_faults = 0;
  write_faults = 0;
  calls = 0;
  failing = failing;
}

-- the next call is one of those that fail
abbrev pub IsDue : DiskInMemory → Type 0
IsDue disk = Contains disk.failing (raised disk.calls)

-- what every call does: it has the next number, fails where it is listed, and counts one fault at most
pub record IsCall {T E : Type 0} (old : DiskInMemory) (result : Result T E) (new : DiskInMemory) : Type 0 where
  pub numbered : new.calls ≡ raised old.calls
  pub listed : new.failing ≡ old.failing
  pub due : IsDue old → IsErr result
  pub one_read_fault : new.read_faults ≤ old.read_faults + 1
  pub one_write_fault : new.write_faults ≤ old.write_faults + 1

-- a disk is stored as the tuple of its parts
abbrev pub disk_code : Coded DiskInMemory
disk_code =
    code_by (FileMap × (Option (List ℕ) × (Option (List ℕ) × (ℕ × (ℕ × (ℕ × List ℕ))))))
    (coded× (map.code (coded_list coded_ℕ) (coded_list coded_ℕ))
    (coded× (coded_option (coded_list coded_ℕ))
    (coded× (coded_option (coded_list coded_ℕ))
    (coded× coded_ℕ (coded× coded_ℕ (coded× coded_ℕ (coded_list coded_ℕ)))))))
    (λ d. (d.files, (d.input, (d.output, (d.read_faults, (d.write_faults, (d.calls, d.failing)))))))
    (λ p. record {
      files = p.0;
      input = p.1.0;
      output = p.1.1.0;
      read_faults = p.1.1.1.0;
      write_faults = p.1.1.1.1.0;
      calls = p.1.1.1.1.1.0;
      failing = p.1.1.1.1.1.1;
    })
    (λ _. refl)
