-- What a profile file and its set files say.
use Rattle.std.specs.Prelude.{◌≡◌, ℕ, ◌<◌, ◌++◌, List, [], ◌∷◌, length, map, take, Option, None, Some, codes, decimal, encode_utf8_all}
use Rattle.std.specs.FinMap.{get}
use Rattle.helix_base.specs.declared.alphabet.Alphabet.{Alphabet}
use Rattle.helix_base.specs.declared.alphabet.Alphabet.TheVariants as alphabet
use Rattle.helix_json.specs.Broken.{FirstBroken, SpellsJson}
use Rattle.helix_json.specs.declared.fault.JsonFault.{JsonFault}
use Rattle.helix_json.specs.declared.value.Json.{Json}
use Rattle.helix_outside.specs.Files.{FileMap}
use Rattle.helix_profile.specs.Content.{Content}
use Rattle.helix_profile.specs.Violation.{violating}
use Rattle.helix_schema.specs.Drafts.{Drafted, IsProfileOf}
use Rattle.helix_schema.specs.Refusals.{IsDraftOf}
use Rattle.helix_schema.specs.declared.mention.Mention.{Mention}
use Rattle.helix_schema.specs.declared.wish.Wish.{Wish}
use Rattle.helix_sets.specs.SetFiles.{ReadsSet}
use Rattle.helix_values.specs.declared.cell.Cell.{Cell}
use Rattle.helix_loading.specs.Files.{read_limit}

-- the file of this name, in characters, is there with these bytes, up to the limit
abbrev pub HoldsFile : FileMap → List ℕ → List ℕ → Type 0
HoldsFile files name bytes = (whole : List ℕ) × (get files (encode_utf8_all name) ≡ Some whole)
    × (bytes ≡ take read_limit whole)

-- there is no file of this name
abbrev pub LacksFile : FileMap → List ℕ → Type 0
LacksFile files name = get files (encode_utf8_all name) ≡ None

-- The bytes spell a value that breaks no rule of JSON, and this is the draft of its profile.
pub record IsDrafted (alphabet : Alphabet) (bytes : List ℕ) (draft : Drafted) : Type 0 where
  pub value : Json
  pub spells : SpellsJson bytes value
  pub unbroken : (fault : JsonFault) → ¬ FirstBroken bytes fault
  pub drafted : IsDraftOf alphabet value draft

-- the mentions of a draft
abbrev pub mentions : Drafted → List Mention
mentions draft = map (λ wish. wish.mention) draft.wishes

-- each mentioned file is there with its bytes, which list its members
abbrev pub AreSets : FileMap → List Mention → List (List ℕ) → List (List Cell) → Type 0
AreSets files [] [] [] = Unit {0}
AreSets files (mention ∷ mentions) (bytes ∷ others) (members ∷ sets) =
    HoldsFile files mention.name bytes × ReadsSet mention.kind bytes members × AreSets files mentions others sets
AreSets files mentions others sets = ⊥

-- mentions whose members are read
abbrev pub with_members : List Mention → List (List Cell) → List Wish
with_members (mention ∷ mentions) (members ∷ sets) =
    record { mention = mention; members = Some members } ∷ with_members mentions sets
with_members mentions sets = []

-- The profile file holds a profile, with the set files that it mentions: no more than a hundred.
pub record Reads (files : FileMap) (name : List ℕ) (alphabet : Alphabet) (bytes : List ℕ) (others : List (List ℕ))
    (profile : Content) : Type 0 where
  pub draft : Drafted
  pub sets : List (List Cell)
  pub there : HoldsFile files name bytes
  pub drafted : IsDrafted alphabet bytes draft
  pub read : AreSets files (mentions draft) others sets
  pub few : length (mentions draft) < 101
  pub profile_is : IsProfileOf (record draft { wishes = with_members (mentions draft) sets }) profile

-- the profile, or the one in which the constraint of a number is violated
abbrev pub profile_for : Content → Option ℕ → Content
profile_for profile None = profile
profile_for profile (Some number) = violating profile number

-- the words of the mode line on the violation
abbrev pub violation_words : Option ℕ → List ℕ
violation_words None = codes "mode full"
violation_words (Some number) = codes "mode violate " ++ decimal number

-- and on the alphabet
abbrev pub alphabet_words : Alphabet → List ℕ
alphabet_words alphabet.Basic = []
alphabet_words alphabet.Latin = codes " characters latin"
alphabet_words alphabet.Unicode = codes " characters unicode"

-- the mode line of a run
abbrev pub mode_line : Option ℕ → Alphabet → List ℕ
mode_line violate alphabet = violation_words violate ++ alphabet_words alphabet
