-- The rules of a profile as a whole: where each is broken.
use Rattle.std.specs.Prelude.{◌≡◌, ◌⊎◌, ℕ, Bool, false, ◌&&◌, ◌||◌, nat_le, List, length, bytes_eq, codes}
use Rattle.helix_json.specs.declared.value.Json.{Json}
use Rattle.helix_places.specs.declared.place.Step.{Step}
use Rattle.helix_places.specs.Members.{items_of, members_of, has_key, is_list, is_object, is_string}
use Rattle.helix_places.specs.Places.{Here, InMember}
use Rattle.helix_fields.specs.FaultyMember.{IsFaultyMember}

-- S1: the value is no object
abbrev pub IsNoObject : Json → List Step → Type 0
IsNoObject = Here (λ v. is_object v ≡ false)

-- the members that a profile may have
unfoldable pub is_profile_member : List ℕ → Json → Bool
is_profile_member key v = bytes_eq key (codes "fields") || bytes_eq key (codes "constraints")
    || ((bytes_eq key (codes "description") || bytes_eq key (codes "schemaVersion")) && is_string v)

-- S2: a member that a profile may not have
abbrev pub BreaksProfileKey : Json → List Step → Type 0
BreaksProfileKey = IsFaultyMember is_profile_member

-- a list with so many items
abbrev pub is_list_within : ℕ → ℕ → Json → Bool
is_list_within least most v = is_list v && (nat_le least (length (items_of v)) && nat_le (length (items_of v)) most)

-- S3: `fields` is missing, and the place is the value; or it is no list of 1 to 64 items
abbrev pub BreaksFieldList : Json → List Step → Type 0
BreaksFieldList v place = Here (λ w. has_key (codes "fields") (members_of w) ≡ false) v place
    ⊎ InMember (codes "fields") (Here (λ fields. is_list_within 1 64 fields ≡ false)) v place

-- S7: `constraints` is there and is no list of at most 1,000 items
abbrev pub BreaksConstraintList : Json → List Step → Type 0
BreaksConstraintList = InMember (codes "constraints") (Here (λ constraints. is_list_within 0 1000 constraints ≡ false))
