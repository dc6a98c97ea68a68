-- What a job to generate rows rests on: its profile, and the row after which it goes on.
use Rattle.std.specs.Prelude.{◌≡◌, ℕ, Bool, List, Option, None, Some, encode_utf8_all, not, ◌&&◌, is_some}
use Rattle.std.specs.FinMap.{get}
use Rattle.helix_command.specs.declared.order.Job.{Job}
use Rattle.helix_loading.specs.Loading.{IsLoaded}
use Rattle.helix_loading.specs.Sources.{HoldsFile, LacksFile}
use Rattle.helix_loading.specs.declared.loaded.Loaded.{Loaded}
use Rattle.helix_outside.specs.Files.{FileMap}
use Rattle.helix_token.specs.Broken.{IsFirstFault}
use Rattle.helix_token.specs.Token.{IsTokenOf}
use Rattle.helix_token.specs.declared.fault.TokenFault.{TokenFault}
use Rattle.helix_values.specs.declared.cell.Cell.{Cell}

-- the profile file of a job and its set files give this
abbrev pub Gives : Job → FileMap → Loaded → Type 0
Gives job files loaded = IsLoaded files job.profile job.alphabet job.violate loaded

-- the file of the token isn't there
abbrev pub LacksToken : Job → FileMap → Type 0
LacksToken job files = (name : List ℕ) × (job.resume ≡ Some name) × LacksFile files name

-- it has this fault
abbrev pub HasTokenFault : Job → FileMap → Loaded → TokenFault → Type 0
HasTokenFault job files loaded fault = (name bytes : List ℕ) × (job.resume ≡ Some name) × HoldsFile files name bytes
    × IsFirstFault bytes loaded.identity loaded.profile.fields fault

-- the rows start after this one: that of the token, or nothing without a resume file
abbrev pub StartsAfter : Job → FileMap → Loaded → Option (List Cell) → Type 0
StartsAfter job files loaded None = job.resume ≡ None
StartsAfter job files loaded (Some row) = (name bytes : List ℕ) × (job.resume ≡ Some name) × HoldsFile files name bytes
    × IsTokenOf bytes loaded.identity loaded.profile.fields row

-- all is accepted: the profile, and the token if there is one
pub record IsAccepted (job : Job) (files : FileMap) : Type 0 where
  pub loaded : Loaded
  pub start : Option (List Cell)
  pub gives : Gives job files loaded
  pub starts : StartsAfter job files loaded start

-- a file is there that isn't to be replaced
abbrev pub is_kept : Job → FileMap → List ℕ → Bool
is_kept job files name = not job.replace && is_some (get files (encode_utf8_all name))
