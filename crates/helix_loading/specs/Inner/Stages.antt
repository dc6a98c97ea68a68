-- The stages of loading a profile: its file, the draft, the set files, the number.
use Rattle.std.specs.Prelude.{◌≡◌, ◌≢◌, ◌⊎◌, ℕ, ◌<◌, ◌≤◌, List, length, map, Option, Some, IsTrue, IfSome, codes}
use Rattle.helix_base.specs.declared.alphabet.Alphabet.{Alphabet}
use Rattle.helix_json.specs.Broken.{FirstBroken, SpellsJson}
use Rattle.helix_json.specs.declared.fault.JsonFault.{JsonFault}
use Rattle.helix_json.specs.declared.value.Json.{Json}
use Rattle.helix_outside.specs.Count.{Rose}
use Rattle.helix_outside.specs.Disk.{DiskState}
use Rattle.helix_outside.specs.Files.{FileMap}
use Rattle.helix_places.specs.Pointers.{pointer_of}
use Rattle.helix_places.specs.declared.place.Step.{Step}
use Rattle.helix_profile.specs.Content.{Content}
use Rattle.helix_rules.specs.declared.rule.Rule.TheVariants as rule
use Rattle.helix_schema.specs.Drafts.{Drafted, IsProfileOf, unfilled}
use Rattle.helix_schema.specs.Refusals.{IsRefused}
use Rattle.helix_schema.specs.declared.mention.Mention.{Mention}
use Rattle.helix_schema.specs.declared.refusal.Location.TheVariants as location
use Rattle.helix_schema.specs.declared.refusal.Refusal.{Refusal}
use Rattle.helix_sets.specs.SetFiles.{ReadsSet, RefusesSet}
use Rattle.helix_sets.specs.declared.fault.SetFault.{SetFault}
use Rattle.helix_sets.specs.declared.fault.SetFault.TheVariants as set
use Rattle.helix_token.specs.Identity.{identity_of}
use Rattle.helix_values.specs.declared.cell.Cell.{Cell}
use Rattle.helix_loading.specs.Files.{OnlyReads}
use Rattle.helix_loading.specs.Loading.{BreaksNumber, BreaksSet, HasReached, json_refusal}
use Rattle.helix_loading.specs.Sources.{AreSets, HoldsFile, LacksFile, mentions, mode_line, profile_for, with_members}
use Rattle.helix_loading.specs.declared.loaded.LoadFault.{LoadFault}
use Rattle.helix_loading.specs.declared.loaded.LoadFault.TheVariants as fault
use Rattle.helix_loading.specs.declared.loaded.Loaded.{Loaded}

-- reading leaves all as it was, the count of read faults too
pub record SameFiles (old new : DiskState) : Type 0 where
  pub only_reads : OnlyReads old new
  pub read_faults : new.read_faults ≡ old.read_faults

-- the bytes are those of the file of this name, where the disk tells them
abbrev pub AreOfFile : DiskState → List ℕ → List ℕ → Type 0
AreOfFile disk name bytes = IsTrue disk.told → HoldsFile disk.files name bytes

-- why a file was not read
abbrev pub StopsFile : DiskState → List ℕ → LoadFault → DiskState → Type 0
StopsFile old name fault.Read new =
    Rose old.read_faults new.read_faults ⊎ (IsTrue old.told × LacksFile old.files name)
StopsFile old name (fault.Refused refused) new = ⊥
StopsFile old name fault.Memory new = new.read_faults ≡ old.read_faults

-- what is answered where bytes are no JSON
abbrev pub IsJsonStop : JsonFault → LoadFault → Type 0
IsJsonStop f fault.Read = ⊥
IsJsonStop f (fault.Refused refused) = json_refusal f ≡ Some refused
IsJsonStop f fault.Memory = Unit {0}

-- the first broken rule of profiles
abbrev pub StopsValue : Alphabet → Json → LoadFault → Type 0
StopsValue alphabet value fault.Read = ⊥
StopsValue alphabet value (fault.Refused refused) = IsRefused alphabet value refused
StopsValue alphabet value fault.Memory = Unit {0}

-- bytes are refused for a rule of JSON
pub record IsNoJson (bytes : List ℕ) (refused : Refusal) : Type 0 where
  pub f : JsonFault
  pub broken : FirstBroken bytes f
  pub refused_is : json_refusal f ≡ Some refused

-- or their value for a rule of profiles
pub record IsNoProfile (alphabet : Alphabet) (bytes : List ℕ) (refused : Refusal) : Type 0 where
  pub value : Json
  pub spells : SpellsJson bytes value
  pub unbroken : (f : JsonFault) → ¬ FirstBroken bytes f
  pub refused_is : IsRefused alphabet value refused

-- why bytes give no draft
abbrev pub StopsDraft : Alphabet → List ℕ → LoadFault → Type 0
StopsDraft alphabet bytes fault.Read = ⊥
StopsDraft alphabet bytes (fault.Refused refused) = IsNoJson bytes refused ⊎ IsNoProfile alphabet bytes refused
StopsDraft alphabet bytes fault.Memory = Unit {0}

-- the refusal of a set file whose name is at a place
abbrev pub set_refusal : List Step → Refusal
set_refusal place = record { rule = rule.S22; location = location.Pointer (pointer_of place) }

-- a set file is refused, for want of memory perhaps without a word
abbrev pub IsSetStop : List Step → LoadFault → Type 0
IsSetStop place fault.Read = ⊥
IsSetStop place (fault.Refused refused) = refused ≡ set_refusal place
IsSetStop place fault.Memory = Unit {0}

-- the same for a fault, which then isn't want of memory
abbrev pub IsFaultStop : List Step → SetFault → LoadFault → Type 0
IsFaultStop place f fault.Read = ⊥
IsFaultStop place f (fault.Refused refused) = (f ≢ set.Memory) × (refused ≡ set_refusal place)
IsFaultStop place f fault.Memory = Unit {0}

-- bytes are no set
pub record IsNoSet (mention : Mention) (bytes : List ℕ) (refused : Refusal) : Type 0 where
  pub f : SetFault
  pub cause : f ≢ set.Memory
  pub broken : RefusesSet mention.kind bytes f
  pub refused_is : refused ≡ set_refusal mention.place

-- why bytes give no members
abbrev pub StopsMembers : Mention → List ℕ → LoadFault → Type 0
StopsMembers mention bytes fault.Read = ⊥
StopsMembers mention bytes (fault.Refused refused) = IsNoSet mention bytes refused
StopsMembers mention bytes fault.Memory = Unit {0}

-- the members of a set file, which is one of the first hundred
pub record ReadsMention (disk : DiskState) (mention : Mention) (count : ℕ) (bytes : List ℕ)
    (members : List Cell) : Type 0 where
  pub few : count < 100
  pub lists : ReadsSet mention.kind bytes members
  pub there : AreOfFile disk mention.name bytes

-- A mention after so many others is refused: it is one too many, or its file is no set.
abbrev pub RefusesMention : FileMap → Mention → ℕ → Refusal → Type 0
RefusesMention files mention count refused = ((count ≡ 100) × (refused ≡ set_refusal mention.place))
    ⊎ ((count < 100) × ((bytes : List ℕ) × HoldsFile files mention.name bytes × IsNoSet mention bytes refused))

-- why a set file that is mentioned after so many others isn't read
abbrev pub StopsMention : DiskState → Mention → ℕ → LoadFault → DiskState → Type 0
StopsMention old mention count fault.Read new =
    Rose old.read_faults new.read_faults ⊎ (IsTrue old.told × ((count < 100) × LacksFile old.files mention.name))
StopsMention old mention count (fault.Refused refused) new =
    (new.read_faults ≡ old.read_faults) × (IsTrue old.told → RefusesMention old.files mention count refused)
StopsMention old mention count fault.Memory new = new.read_faults ≡ old.read_faults

-- nothing of a draft is read yet
abbrev pub IsUnread : Drafted → Type 0
IsUnread draft = draft.wishes ≡ map unfilled (mentions draft)

-- all set files of a draft are read
pub record ReadsAll (disk : DiskState) (draft filled : Drafted) (others : List (List ℕ)) : Type 0 where
  pub sets : List (List Cell)
  pub few : length (mentions draft) < 101
  pub filled_is : filled ≡ record draft { wishes = with_members (mentions draft) sets }
  pub read : IsTrue disk.told → AreSets disk.files (mentions draft) others sets

-- a set file of a draft isn't there
pub record LacksSet (files : FileMap) (draft : Drafted) : Type 0 where
  pub mention : Mention
  pub before : List Mention
  pub reached : HasReached files draft mention before
  pub few : length before < 100
  pub missing : LacksFile files mention.name

-- why not all set files are read
abbrev pub StopsSets : DiskState → Drafted → LoadFault → DiskState → Type 0
StopsSets old draft fault.Read new =
    Rose old.read_faults new.read_faults ⊎ (IsTrue old.told × LacksSet old.files draft)
StopsSets old draft (fault.Refused refused) new =
    (new.read_faults ≡ old.read_faults) × (IsTrue old.told → BreaksSet old.files draft refused)
StopsSets old draft fault.Memory new = new.read_faults ≡ old.read_faults

-- the constraint of the number, if there is one, is listed and violated
pub record IsChosen (profile : Content) (violate : Option ℕ) (chosen : Content) : Type 0 where
  pub listed : IfSome violate (λ number. (1 ≤ number) × (number ≤ length profile.constraints))
  pub profile_is : chosen ≡ profile_for profile violate

-- why it isn't
abbrev pub StopsNumber : Content → Option ℕ → LoadFault → Type 0
StopsNumber profile violate fault.Read = ⊥
StopsNumber profile violate (fault.Refused refused) = BreaksNumber profile violate refused
StopsNumber profile violate fault.Memory = Unit {0}

-- the refusal of a number
abbrev pub number_refusal : Refusal
number_refusal = record { rule = rule.S23; location = location.Pointer (codes "#/constraints") }

-- a number is refused, for want of memory perhaps without a word
abbrev pub IsNumberStop : LoadFault → Type 0
IsNumberStop fault.Read = ⊥
IsNumberStop (fault.Refused refused) = refused ≡ number_refusal
IsNumberStop fault.Memory = Unit {0}

-- what a profile gives
pub record IsLoadedOf (profile : Content) (alphabet : Alphabet) (violate : Option ℕ) (bytes : List ℕ)
    (others : List (List ℕ)) (loaded : Loaded) : Type 0 where
  pub chosen : IsChosen profile violate loaded.profile
  pub identity_is : loaded.identity ≡ identity_of bytes (mode_line violate alphabet) others

-- what a draft gives, once all set files are read
pub record Completes (draft : Drafted) (alphabet : Alphabet) (violate : Option ℕ) (bytes : List ℕ)
    (others : List (List ℕ)) (loaded : Loaded) : Type 0 where
  pub profile : Content
  pub is : IsProfileOf draft profile
  pub gives : IsLoadedOf profile alphabet violate bytes others loaded

pub record RefusesDraft (draft : Drafted) (violate : Option ℕ) (refused : Refusal) : Type 0 where
  pub profile : Content
  pub is : IsProfileOf draft profile
  pub breaks : BreaksNumber profile violate refused

-- why it gives nothing
abbrev pub StopsDrafted : Drafted → Option ℕ → LoadFault → Type 0
StopsDrafted draft violate fault.Read = ⊥
StopsDrafted draft violate (fault.Refused refused) = RefusesDraft draft violate refused
StopsDrafted draft violate fault.Memory = Unit {0}
