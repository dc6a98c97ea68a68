-- What a run does where neither disk nor console fails: its status, the files that it leaves, and what it shows.
use Rattle.std.specs.Prelude.{◌≡◌, ℕ, List, length, Some, None, IsSome}
use Rattle.std.specs.FinMap.{get, insert}
use Rattle.helix_outside.specs.Files.{FileMap}
use Rattle.helix_outside.specs.Console.{line_text}
use Rattle.helix_run.specs.declared.status.Status.{Status}
use Rattle.helix_run.specs.declared.status.Status.TheVariants.{Usage, ReadFault, WriteFault, ProfileRefused, Done}
use Rattle.helix_run.specs.Words.{Names, order_of}
use Rattle.helix_run.specs.Profile.{Field, ReadsProfile, IsRefused}
use Rattle.helix_run.specs.Rows.{Flag, IsFlagAnswer}
use Rattle.helix_run.specs.Output.{csv_text}
use Rattle.helix_run.specs.Lines.{usage_line, refused_line, read_fault_line, write_fault_line, done_line}

-- the words give these names, and the profile file holds these bytes
pub record HasProfile (words : List (List ℕ)) (files : FileMap) (names : Names) (bytes : List ℕ) : Type 0 where
  pub ordered : order_of words ≡ Some names
  pub there : get files names.profile ≡ Some bytes

-- and the bytes say that there is this field
pub record HasField (words : List (List ℕ)) (files : FileMap) (names : Names) (field : Field) : Type 0 where
  pub bytes : List ℕ
  pub profile : HasProfile words files names bytes
  pub reads : ReadsProfile bytes field

-- how a run ends: with a status, the files that it leaves, and one line
pub record EndsAs (status : Status) (after : FileMap) (text : List ℕ) (answer : Status) (left : FileMap)
    (line : List ℕ) : Type 0 where
  pub status_is : status ≡ answer
  pub files_are : after ≡ left
  pub text_is : text ≡ line_text line

-- the words and the files at entry lead to this status, these files after and this text on the console
pub data Script (words : List (List ℕ)) (files : FileMap) (status : Status) (after : FileMap)
    (text : List ℕ) : Type 0 where
  -- the words give no order
  no_order : order_of words ≡ None → EndsAs status after text Usage files usage_line
      → Script words files status after text
  -- there is no profile file
  no_profile : (names : Names) → order_of words ≡ Some names → get files names.profile ≡ None
      → EndsAs status after text ReadFault files read_fault_line → Script words files status after text
  -- the profile breaks a rule
  refused : (names : Names) (bytes : List ℕ) → HasProfile words files names bytes → IsRefused bytes
      → EndsAs status after text ProfileRefused files refused_line → Script words files status after text
  -- the output is there already
  taken : (names : Names) (field : Field) → HasField words files names field → IsSome (get files names.output)
      → EndsAs status after text WriteFault files write_fault_line → Script words files status after text
  -- else the output holds exactly the good rows, each once, in ascending order
  written : (names : Names) (field : Field) (rows : List (List Flag)) → HasField words files names field
      → get files names.output ≡ None → IsFlagAnswer field rows
      → EndsAs status after text Done (insert files names.output (csv_text field.name rows)) (done_line (length rows))
      → Script words files status after text
