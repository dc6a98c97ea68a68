-- What a disk that never fails is, and what each of its calls does beside what every disk does.
use Rattle.std.specs.Prelude.{◌≡◌, ℕ, Bool, false, cond, List, [], Option, Some, None, Result, IsOk, refl}
use Rattle.std.specs.Coded.{Coded, code_by, coded×, coded_ℕ, coded_bool, coded_list, coded_option}
use Rattle.std.specs.FinMap as map
use Rattle.helix_outside.specs.Files.{FileMap, content}
use Rattle.helix_outside.specs.Disk.{DiskState}

-- a disk that never fails: what is read, whether an output is open, and how many bytes were written
pub record Steady : Type 0 where
  -- what is read, and never changes
  pub files : FileMap
  -- the open input, as what is left of it
  pub input : Option (List ℕ)
  -- whether an output is open
  pub writing : Bool
  -- how many bytes were written
  pub written : ℕ

-- a steady disk keeps nothing of what is written, so it does not tell its files
abbrev pub steady_state : Steady → DiskState
steady_state disk = record {
  told = false;
  files = disk.files;
  input = disk.input;
  output = cond disk.writing (Some []) None;
  read_faults = 0;
  write_faults = 0;
}

-- nothing is open and nothing was written
abbrev pub steady : FileMap → Steady
steady files = record { files = files; input = None; writing = false; written = 0 }

-- the input is all of the file, and empty where there is none
abbrev pub reading : Steady → List ℕ → Steady
reading disk name = record disk { input = Some (content disk.files name) }

-- what every call does: it never fails, and what can be read stays
pub record NeverFails {T E : Type 0} (old : Steady) (result : Result T E) (new : Steady) : Type 0 where
  pub never_fails : IsOk result
  pub files : new.files ≡ old.files

-- a steady disk is stored as the tuple of its parts
abbrev pub steady_code : Coded Steady
steady_code =
    code_by (FileMap × (Option (List ℕ) × (Bool × ℕ)))
    (coded× (map.code (coded_list coded_ℕ) (coded_list coded_ℕ))
    (coded× (coded_option (coded_list coded_ℕ)) (coded× coded_bool coded_ℕ)))
    (λ d. (d.files, (d.input, (d.writing, d.written))))
    (λ p. record { files = p.0; input = p.1.0; writing = p.1.1.0; written = p.1.1.1 })
    (λ _. refl)
