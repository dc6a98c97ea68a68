-- The set files that a profile mentions, each at the place of the operand that names it, and their members.
use Rattle.std.specs.Prelude.{◌≡◌, ◌≢◌, true, List, [], IsSomeAnd}
use Rattle.std.specs.List.{AllByRecursion}
use Rattle.helix_constraints.specs.Visited.{InConstraints}
use Rattle.helix_json.specs.declared.value.Json.{Json}
use Rattle.helix_keywords.specs.Keywords.{word_of}
use Rattle.helix_operands.specs.Tests.{names_set_file}
use Rattle.helix_places.specs.Places.{Here, InMember}
use Rattle.helix_places.specs.declared.place.Step.{Step}
use Rattle.helix_profile.specs.declared.field.Field.{Field}
use Rattle.helix_readings.specs.Sets.{HasMembers}
use Rattle.helix_readings.specs.declared.sets.SetMembers.{SetMembers}
use Rattle.helix_rules.specs.Atoms.{atom_in}
use Rattle.helix_values.specs.Universe.{InUniverse}
use Rattle.helix_values.specs.declared.cell.Cell.{Cell}
use Rattle.helix_values.specs.declared.kind.Kind.{Kind}

-- The value is an atomic constraint on a declared field of the kind, and the place is that of its operand, which names
-- a set file.
abbrev pub NamesSetFile : List Field → Kind → Json → List Step → Type 0
NamesSetFile fields kind v place = IsSomeAnd (atom_in fields v) (λ atom. (atom.kind ≡ kind)
    × InMember (word_of atom.keyword) (Here (λ w. names_set_file atom.keyword w ≡ true)) v place)

-- a constraint of the profile mentions a set file at the place, for a field of the kind
abbrev pub Mentions : List Field → Kind → Json → List Step → Type 0
Mentions fields kind = InConstraints (NamesSetFile fields kind)

-- there are members for the place, at least one, each a value of the kind
pub record AreSetMembers (sets : List SetMembers) (kind : Kind) (place : List Step) : Type 0 where
  pub members : List Cell
  pub has : HasMembers sets place members
  pub some : members ≢ []
  pub within : AllByRecursion (InUniverse kind) members

-- each set file that is mentioned has its members
abbrev pub AreFilled : List Field → List SetMembers → Json → Type 0
AreFilled fields sets v =
    (kind : Kind) (place : List Step) → Mentions fields kind v place → AreSetMembers sets kind place
