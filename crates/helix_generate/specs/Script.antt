-- What a job leads to where nothing fails: how it ends, and the files that it leaves.
use Rattle.std.specs.Prelude.{◌≡◌, ℕ, Bool, true, false, List, [], ◌∷◌, ◌++◌, length, None, Some, encode_utf8_all, IsTrue}
use Rattle.std.specs.FinMap.{insert}
use Rattle.helix_command.specs.declared.order.Job.{Job}
use Rattle.helix_lines.specs.Lines.{refused_line, token_line}
use Rattle.helix_lines.specs.declared.ending.Ending.{Ending}
use Rattle.helix_lines.specs.declared.ending.Ending.TheVariants as ending
use Rattle.helix_loading.specs.Loading.{IsMissing, IsRefusedFor}
use Rattle.helix_loading.specs.declared.loaded.Loaded.{Loaded}
use Rattle.helix_outside.specs.Files.{FileMap}
use Rattle.helix_output.specs.DataText.{data_text}
use Rattle.helix_profile.specs.Good.{IsGood}
use Rattle.helix_schema.specs.declared.refusal.Refusal.{Refusal}
use Rattle.helix_token.specs.Token.{token_text}
use Rattle.helix_token.specs.declared.fault.TokenFault.{TokenFault}
use Rattle.helix_values.specs.declared.cell.Cell.{Cell}
use Rattle.helix_walk.specs.NextRows.{end_of}
use Rattle.helix_writing.specs.Rows.{AreRows}
use Rattle.helix_generate.specs.Starts.{Gives, HasTokenFault, IsAccepted, LacksToken, is_kept}

-- the rows that a job writes: those of its profile above the start, cut at the limit or not
abbrev pub Writes : (job : Job) (files : FileMap) → IsAccepted job files → List (List Cell) → Bool → Type 0
Writes job files accepted rows cut = AreRows accepted.loaded.profile accepted.start job.limit rows cut

-- the files with the data file of these rows
abbrev pub with_data : (job : Job) (files : FileMap) → IsAccepted job files → List (List Cell) → FileMap
with_data job files accepted rows = insert files (encode_utf8_all job.output)
    (data_text job.format accepted.loaded.profile.fields rows)

-- the token after rows, where there are some
abbrev pub token_after : (job : Job) (files : FileMap) → IsAccepted job files → List Cell → List ℕ
token_after job files accepted last = token_text accepted.loaded.identity accepted.loaded.profile.fields last

-- no row is good, whatever the token says
abbrev pub HasNoRow : (job : Job) (files : FileMap) → IsAccepted job files → Type 0
HasNoRow job files accepted = (row : List Cell) → ¬ IsGood accepted.loaded.profile row

-- some row is
abbrev pub HasRow : (job : Job) (files : FileMap) → IsAccepted job files → Type 0
HasRow job files accepted = (row : List Cell) × IsGood accepted.loaded.profile row

-- the rows are cut, and this is the last of them
pub record IsCutAt (job : Job) (files : FileMap) (accepted : IsAccepted job files) (rows : List (List Cell))
    (last : List Cell) : Type 0 where
  pub writes : Writes job files accepted rows true
  pub last_is : end_of accepted.start rows ≡ Some last

pub data JobScript (job : Job) (files : FileMap) : Ending → FileMap → Type 0 where
  -- the profile file isn't there, or a set file that it mentions
  no_file : IsMissing files job.profile job.alphabet → JobScript job files ending.ReadFault files
  -- the profile breaks a rule
  refused : (broken : Refusal) (line : List ℕ) → IsRefusedFor files job.profile job.alphabet job.violate broken
      → line ≡ refused_line broken → JobScript job files (ending.ProfileRefused line) files
  -- the file of the token isn't there
  no_token : (loaded : Loaded) → Gives job files loaded → LacksToken job files
      → JobScript job files ending.ReadFault files
  -- the token has a fault
  bad_token : (loaded : Loaded) (fault : TokenFault) (line : List ℕ) → Gives job files loaded
      → HasTokenFault job files loaded fault → line ≡ token_line fault
      → JobScript job files (ending.TokenRefused line) files
  -- the data file is there, and isn't to be replaced
  taken : IsAccepted job files → IsTrue (is_kept job files job.output) → JobScript job files ending.WriteFault files
  -- no row is good
  empty : (accepted : IsAccepted job files) → HasNoRow job files accepted → ¬ IsTrue (is_kept job files job.output)
      → JobScript job files ending.Empty (with_data job files accepted [])
  -- all good rows above the start are written
  done : (accepted : IsAccepted job files) (rows : List (List Cell)) (count : ℕ) → HasRow job files accepted
      → ¬ IsTrue (is_kept job files job.output) → Writes job files accepted rows false → count ≡ length rows
      → JobScript job files (ending.Done count) (with_data job files accepted rows)
  -- the first ones are, and the token is shown
  cut : (accepted : IsAccepted job files) (rows : List (List Cell)) (last : List Cell) (count : ℕ) (token : List ℕ)
      → ¬ IsTrue (is_kept job files job.output) → IsCutAt job files accepted rows last → count ≡ length rows
      → job.token ≡ None → token ≡ token_after job files accepted last
      → JobScript job files (ending.Cut count (Some token)) (with_data job files accepted rows)
  -- the first ones are, and the token is written with a line feed
  cut_to_file : (accepted : IsAccepted job files) (rows : List (List Cell)) (last : List Cell) (count : ℕ)
      (name : List ℕ) → ¬ IsTrue (is_kept job files job.output) → IsCutAt job files accepted rows last
      → count ≡ length rows → job.token ≡ Some name
      → ¬ IsTrue (is_kept job (with_data job files accepted rows) name)
      → JobScript job files (ending.Cut count None)
      (insert (with_data job files accepted rows) (encode_utf8_all name) (token_after job files accepted last ++ 10 ∷ []))
  -- the first ones are, and the token file is there and isn't to be replaced
  token_taken : (accepted : IsAccepted job files) (rows : List (List Cell)) (last : List Cell) (name : List ℕ)
      → ¬ IsTrue (is_kept job files job.output) → IsCutAt job files accepted rows last → job.token ≡ Some name
      → IsTrue (is_kept job (with_data job files accepted rows) name)
      → JobScript job files ending.WriteFault (with_data job files accepted rows)
