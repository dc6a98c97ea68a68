-- The steps of a job.
use Rattle.std.specs.Prelude.{◌≡◌, ◌⊎◌, ℕ, true, false, List, [], Option, None, Some, Result, Ok, Err, IfSome, IsTrue, encode_utf8_all, option_map, string_bytes}
use Rattle.helix_command.specs.declared.order.Job.{Job}
use Rattle.helix_lines.specs.Lines.{refused_line, token_line}
use Rattle.helix_lines.specs.declared.ending.Ending.{Ending}
use Rattle.helix_lines.specs.declared.ending.Ending.TheVariants as ending
use Rattle.helix_loading.specs.Files.{OnlyReads}
use Rattle.helix_loading.specs.declared.loaded.LoadFault.{LoadFault}
use Rattle.helix_loading.specs.declared.loaded.LoadFault.TheVariants as fault
use Rattle.helix_loading.specs.declared.loaded.Loaded.{Loaded}
use Rattle.helix_outside.specs.Count.{Rose}
use Rattle.helix_outside.specs.Disk.{DiskState}
use Rattle.helix_profile.specs.Good.{AreCellsOf, IsGood}
use Rattle.helix_token.specs.Broken.{IsFirstFault}
use Rattle.helix_token.specs.Token.{IsTokenOf}
use Rattle.helix_token.specs.declared.fault.TokenFault.{TokenFault}
use Rattle.helix_token.specs.declared.fault.TokenFault.TheVariants as token
use Rattle.helix_values.specs.declared.cell.Cell.{Cell}
use Rattle.helix_writing.specs.GoodRows.{IsFirstAbove}
use Rattle.helix_generate.specs.Starts.{HasTokenFault, LacksToken, StartsAfter}
use Rattle.helix_generate.specs.declared.preparing.Ready.{Ready}

-- the disk is as it was, but for its input and output
pub record SameDisk (old new : DiskState) : Type 0 where
  pub only_reads : OnlyReads old new
  pub read_faults : new.read_faults ≡ old.read_faults

-- the ending where no profile was loaded: a refusal has its line, for which memory may be wanting
abbrev pub EndsUnloaded : LoadFault → Ending → Type 0
EndsUnloaded fault.Read end = end ≡ ending.ReadFault
EndsUnloaded (fault.Refused broken) end = (end ≡ ending.WantOfMemory) ⊎ (end ≡ ending.ProfileRefused (refused_line broken))
EndsUnloaded fault.Memory end = end ≡ ending.WantOfMemory

-- the ending where bytes are no token
abbrev pub EndsToken : TokenFault → Ending → Type 0
EndsToken token.Memory end = end ≡ ending.WantOfMemory
EndsToken f end = (end ≡ ending.WantOfMemory) ⊎ (end ≡ ending.TokenRefused (token_line f))

-- the start that bytes of a token tell, or the ending
abbrev pub TellsStart : Loaded → List ℕ → Result (Option (List Cell)) Ending → Type 0
TellsStart loaded bytes (Ok None) = ⊥
TellsStart loaded bytes (Ok (Some row)) = IsTokenOf bytes loaded.identity loaded.profile.fields row
TellsStart loaded bytes (Err end) = (end ≡ ending.WantOfMemory) ⊎ ((f : TokenFault)
    × IsFirstFault bytes loaded.identity loaded.profile.fields f × (end ≡ ending.TokenRefused (token_line f)))

-- the start is found
pub record HasStart (job : Job) (loaded : Loaded) (old : DiskState) (start : Option (List Cell))
    (new : DiskState) : Type 0 where
  pub same : SameDisk old new
  pub starts : IsTrue old.told → StartsAfter job old.files loaded start
  pub cells : IfSome start (AreCellsOf loaded.profile.fields)

-- or why it isn't
abbrev pub LacksStart : Job → Loaded → DiskState → Ending → DiskState → Type 0
LacksStart job loaded old ending.ReadFault new = OnlyReads old new
    × (Rose old.read_faults new.read_faults ⊎ (IsTrue old.told × LacksToken job old.files))
LacksStart job loaded old ending.WantOfMemory new = SameDisk old new
LacksStart job loaded old (ending.TokenRefused line) new = SameDisk old new
    × (IsTrue old.told → (f : TokenFault) × HasTokenFault job old.files loaded f × (line ≡ token_line f))
LacksStart job loaded old other new = ⊥

abbrev pub FindsStart : Job → Loaded → DiskState → Result (Option (List Cell)) Ending → DiskState → Type 0
FindsStart job loaded old (Ok start) new = HasStart job loaded old start new
FindsStart job loaded old (Err end) new = LacksStart job loaded old end new

-- All is made that writing rows needs, and the first row is found.
pub record IsReady (job : Job) (loaded : Loaded) (start : Option (List Cell)) (ready : Ready) : Type 0 where
  pub profile_is : ready.rows.profile ≡ loaded.profile
  pub identity_is : ready.identity ≡ loaded.identity
  pub output_is : string_bytes ready.output ≡ encode_utf8_all job.output
  pub token_is : option_map string_bytes ready.token ≡ option_map encode_utf8_all job.token
  pub fields_are : ready.line.fields ≡ loaded.profile.fields
  pub none_owed : ready.block ≡ []
  pub first_is : IsFirstAbove ready.rows start ready.last ready.first
  pub some : ready.some ≡ true → (row : List Cell) × IsGood loaded.profile row
  pub none : ready.some ≡ false → (row : List Cell) → ¬ IsGood loaded.profile row
