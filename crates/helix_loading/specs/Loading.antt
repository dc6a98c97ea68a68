-- What loading a profile answers.
use Rattle.std.specs.Prelude.{◌≡◌, ◌≢◌, ◌⊎◌, ℕ, ◌<◌, ◌≤◌, List, ◌∷◌, ◌++◌, length, Option, None, Some, Result, Ok, Err, IsTrue, IfSome, codes}
use Rattle.helix_base.specs.declared.alphabet.Alphabet.{Alphabet}
use Rattle.helix_json.specs.Broken.{FirstBroken, SpellsJson}
use Rattle.helix_json.specs.declared.fault.JsonFault.{JsonFault}
use Rattle.helix_json.specs.declared.fault.JsonFault.TheVariants as json
use Rattle.helix_json.specs.declared.value.Json.{Json}
use Rattle.helix_outside.specs.Count.{Rose}
use Rattle.helix_outside.specs.Disk.{DiskState}
use Rattle.helix_outside.specs.Files.{FileMap}
use Rattle.helix_places.specs.Pointers.{pointer_of}
use Rattle.helix_profile.specs.Content.{Content}
use Rattle.helix_rules.specs.declared.rule.Rule.TheVariants as rule
use Rattle.helix_schema.specs.Drafts.{Drafted}
use Rattle.helix_schema.specs.Refusals.{IsRefused}
use Rattle.helix_schema.specs.declared.mention.Mention.{Mention}
use Rattle.helix_schema.specs.declared.refusal.Location.TheVariants as location
use Rattle.helix_schema.specs.declared.refusal.Refusal.{Refusal}
use Rattle.helix_sets.specs.SetFiles.{RefusesSet}
use Rattle.helix_sets.specs.declared.fault.SetFault.{SetFault}
use Rattle.helix_sets.specs.declared.fault.SetFault.TheVariants as set
use Rattle.helix_token.specs.Identity.{identity_of}
use Rattle.helix_values.specs.declared.cell.Cell.{Cell}
use Rattle.helix_loading.specs.Files.{OnlyReads}
use Rattle.helix_loading.specs.Sources.{AreSets, HoldsFile, IsDrafted, LacksFile, Reads, mentions, mode_line, profile_for}
use Rattle.helix_loading.specs.declared.loaded.LoadFault.{LoadFault}
use Rattle.helix_loading.specs.declared.loaded.LoadFault.TheVariants as fault
use Rattle.helix_loading.specs.declared.loaded.Loaded.{Loaded}

-- What is loaded: the profile, in which the constraint of a number may be violated, and the identity of the run.
pub record IsLoaded (files : FileMap) (name : List ℕ) (alphabet : Alphabet) (violate : Option ℕ)
    (loaded : Loaded) : Type 0 where
  pub bytes : List ℕ
  pub others : List (List ℕ)
  pub profile : Content
  pub reads : Reads files name alphabet bytes others profile
  pub listed : IfSome violate (λ number. (1 ≤ number) × (number ≤ length profile.constraints))
  pub profile_is : loaded.profile ≡ profile_for profile violate
  pub identity_is : loaded.identity ≡ identity_of bytes (mode_line violate alphabet) others

-- The mentions of a draft up to one are read, and it is one of the first hundred, or not.
pub record HasReached (files : FileMap) (draft : Drafted) (mention : Mention) (before : List Mention) : Type 0 where
  pub rest : List Mention
  pub others : List (List ℕ)
  pub sets : List (List Cell)
  pub mentions_are : mentions draft ≡ before ++ mention ∷ rest
  pub read : AreSets files before others sets

-- the profile file isn't there, or one that it mentions
pub record LacksSetFile (files : FileMap) (name : List ℕ) (alphabet : Alphabet) : Type 0 where
  pub bytes : List ℕ
  pub draft : Drafted
  pub mention : Mention
  pub before : List Mention
  pub there : HoldsFile files name bytes
  pub drafted : IsDrafted alphabet bytes draft
  pub reached : HasReached files draft mention before
  pub few : length before < 100
  pub missing : LacksFile files mention.name

abbrev pub IsMissing : FileMap → List ℕ → Alphabet → Type 0
IsMissing files name alphabet = LacksFile files name ⊎ LacksSetFile files name alphabet

-- the first broken rule of JSON, and its offset
abbrev pub json_refusal : JsonFault → Option Refusal
json_refusal json.TooLong = Some (record { rule = rule.J1; location = location.Byte 1048576 })
json_refusal (json.NotUtf8 at) = Some (record { rule = rule.J2; location = location.Byte at })
json_refusal (json.Grammar at) = Some (record { rule = rule.J3; location = location.Byte at })
json_refusal (json.TooDeep at) = Some (record { rule = rule.J4; location = location.Byte at })
json_refusal (json.DuplicateKey at) = Some (record { rule = rule.J5; location = location.Byte at })
json_refusal json.Memory = None

-- a set file is refused, or is the 101st that is mentioned
pub record BreaksSet (files : FileMap) (draft : Drafted) (refused : Refusal) : Type 0 where
  pub mention : Mention
  pub before : List Mention
  pub reached : HasReached files draft mention before
  pub broken : (length before ≡ 100) ⊎ ((length before < 100) × ((bytes : List ℕ) × (f : SetFault)
      × HoldsFile files mention.name bytes × (f ≢ set.Memory) × RefusesSet mention.kind bytes f))
  pub refused_is : refused ≡ record { rule = rule.S22; location = location.Pointer (pointer_of mention.place) }

-- no constraint has the number that is to be violated
pub record BreaksNumber (profile : Content) (violate : Option ℕ) (refused : Refusal) : Type 0 where
  pub number : ℕ
  pub chosen : violate ≡ Some number
  pub unlisted : length profile.constraints < number
  pub refused_is : refused ≡ record { rule = rule.S23; location = location.Pointer (codes "#/constraints") }

-- The profile is refused: for its JSON, for a rule of profiles, for a set file or for the number.
pub data IsRefusedFor (files : FileMap) (name : List ℕ) (alphabet : Alphabet) (violate : Option ℕ)
    (refused : Refusal) : Type 0 where
  no_json : (bytes : List ℕ) (f : JsonFault) → HoldsFile files name bytes → FirstBroken bytes f
      → json_refusal f ≡ Some refused → IsRefusedFor files name alphabet violate refused
  no_profile : (bytes : List ℕ) (value : Json) → HoldsFile files name bytes → SpellsJson bytes value
      → ((f : JsonFault) → ¬ FirstBroken bytes f) → IsRefused alphabet value refused
      → IsRefusedFor files name alphabet violate refused
  no_set : (bytes : List ℕ) (draft : Drafted) → HoldsFile files name bytes → IsDrafted alphabet bytes draft
      → BreaksSet files draft refused → IsRefusedFor files name alphabet violate refused
  no_number : (bytes : List ℕ) (others : List (List ℕ)) (profile : Content) → Reads files name alphabet bytes others profile
      → BreaksNumber profile violate refused → IsRefusedFor files name alphabet violate refused

-- why nothing was loaded
abbrev pub StopsLoading : DiskState → List ℕ → Alphabet → Option ℕ → LoadFault → DiskState → Type 0
StopsLoading old name alphabet violate fault.Read new =
    Rose old.read_faults new.read_faults ⊎ (IsTrue old.told × IsMissing old.files name alphabet)
StopsLoading old name alphabet violate (fault.Refused refused) new =
    (new.read_faults ≡ old.read_faults) × (IsTrue old.told → IsRefusedFor old.files name alphabet violate refused)
StopsLoading old name alphabet violate fault.Memory new = new.read_faults ≡ old.read_faults

abbrev pub EndsLoading : DiskState → List ℕ → Alphabet → Option ℕ → Result Loaded LoadFault → DiskState → Type 0
EndsLoading old name alphabet violate (Ok loaded) new =
    (new.read_faults ≡ old.read_faults) × (IsTrue old.told → IsLoaded old.files name alphabet violate loaded)
EndsLoading old name alphabet violate (Err stop) new = StopsLoading old name alphabet violate stop new

-- loading only reads, and this is how it ends
pub record Loads (old : DiskState) (name : List ℕ) (alphabet : Alphabet) (violate : Option ℕ)
    (result : Result Loaded LoadFault) (new : DiskState) : Type 0 where
  pub only_reads : OnlyReads old new
  pub end : EndsLoading old name alphabet violate result new
