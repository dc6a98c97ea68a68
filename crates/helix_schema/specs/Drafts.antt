-- A profile whose set files aren't all read yet.
use Rattle.std.specs.Prelude.{◌≡◌, ◌≢◌, ℕ, ◌+◌, List, [], ◌∷◌, flat_map, map}
use Rattle.std.specs.Prelude.{Option, None, Some, IfSome, IsSome}
use Rattle.std.specs.List.{AllByRecursion}
use Rattle.helix_base.specs.declared.alphabet.Alphabet.{Alphabet}
use Rattle.helix_fields.specs.Fields.{fields_of}
use Rattle.helix_json.specs.Values.{HasNoRepeatedKey}
use Rattle.helix_json.specs.declared.value.Json.{Json}
use Rattle.helix_readings.specs.declared.sets.SetMembers.{SetMembers}
use Rattle.helix_places.specs.declared.place.Step.{Step}
use Rattle.helix_validity.specs.Unbroken.{IsUnbrokenProfile}
use Rattle.helix_values.specs.Universe.{InUniverse}
use Rattle.helix_values.specs.declared.cell.Cell.{Cell}
use Rattle.helix_values.specs.declared.kind.Kind.{Kind}
use Rattle.helix_profile.specs.Content.{Content}
use Rattle.helix_readings.specs.Whole.{GivesConstraints}
use Rattle.helix_schema.specs.Mentions.{mentions_of}
use Rattle.helix_schema.specs.declared.wanted.Wanted.{Wanted}
use Rattle.helix_schema.specs.declared.mention.Mention.{Mention}
use Rattle.helix_schema.specs.declared.wish.Wish.{Wish}

-- the alphabet of its texts, its value in today's form, and the set files that it mentions, each with its members once
-- they are read
pub record Drafted : Type 0 where
  pub alphabet : Alphabet
  pub value : Json
  pub wishes : List Wish

-- this mention, where its file isn't read, or a later one
abbrev pub wanted_or : Option (List Cell) → ℕ × Mention → Option (ℕ × Mention) → Option (ℕ × Mention)
wanted_or None own later = Some own
wanted_or (Some members) own later = later

-- the first mention whose file isn't read, with its number, counted on from one
abbrev pub wanted_from : ℕ → List Wish → Option (ℕ × Mention)
wanted_from number [] = None
wanted_from number (wish ∷ wishes) =
    wanted_or wish.members (number, wish.mention) (wanted_from (number + 1) wishes)

-- the same, counted from one
abbrev pub first_wanted : List Wish → Option (ℕ × Mention)
first_wanted wishes = wanted_from 1 wishes

-- the members of the file are read
abbrev pub IsFilled : Wish → Type 0
IsFilled wish = IsSome wish.members

-- the same mention with these members
abbrev pub with_members : Wish → List Cell → Wish
with_members wish members = record wish { members = Some members }

-- the wishes where this one isn't filled, or where it is
abbrev pub filled_or : Option (List Cell) → List Wish → List Wish → List Wish
filled_or None own later = own
filled_or (Some members) own later = later

-- the same wishes, with members for the first that has none
abbrev pub filled : List Wish → List Cell → List Wish
filled [] members = []
filled (wish ∷ wishes) members =
    filled_or wish.members (with_members wish members ∷ wishes) (wish ∷ filled wishes members)

-- nothing is read yet
abbrev pub unfilled : Mention → Wish
unfilled mention = record { mention = mention; members = None }

-- members of a set file: at least one, and each a value of the kind
pub record AreMembersOf (kind : Kind) (members : List Cell) : Type 0 where
  pub some : members ≢ []
  pub within : AllByRecursion (InUniverse kind) members

-- its members, once they are read, are some for its kind
abbrev pub IsGoodWish : Wish → Type 0
IsGoodWish wish = IfSome wish.members (AreMembersOf wish.mention.kind)

-- A draft: its value breaks no rule, and its wishes are those that the value mentions.
pub record IsDraft (draft : Drafted) : Type 0 where
  pub keys : HasNoRepeatedKey draft.value
  pub unbroken : IsUnbrokenProfile (fields_of draft.alphabet draft.value) draft.value
  pub mentions : map (λ wish. wish.mention) draft.wishes
      ≡ mentions_of (fields_of draft.alphabet draft.value) draft.value
  pub good : AllByRecursion IsGoodWish draft.wishes

-- the members by the places of the mentions
abbrev pub set_or : Option (List Cell) → List Step → List SetMembers
set_or None place = []
set_or (Some members) place = record { place = place; members = members } ∷ []

-- those of all mentions whose files are read
abbrev pub sets_of : List Wish → List SetMembers
sets_of wishes = flat_map (λ wish. set_or wish.members wish.mention.place) wishes

-- a set file that is wanted, as its number and mention
abbrev pub told : Wanted → ℕ × Mention
told wanted = (wanted.number, record { name = wanted.name.now; kind = wanted.kind; place = wanted.place.now })

-- the members are some for the wish with this mention
abbrev pub IsMembersFor : List Cell → ℕ × Mention → Type 0
IsMembersFor members wanted = AreMembersOf wanted.1.kind members

-- the profile of a draft: its fields, and the constraints that its value gives with the members of the set files
pub record IsProfileOf (draft : Drafted) (profile : Content) : Type 0 where
  pub fields : profile.fields ≡ fields_of draft.alphabet draft.value
  pub constraints : GivesConstraints (fields_of draft.alphabet draft.value) (sets_of draft.wishes) draft.value
      profile.constraints
  pub read : first_wanted draft.wishes ≡ None
