-- The members of set files, each with the place that names the file.
use Rattle.std.specs.Prelude.{◌≡◌, ◌≢◌, ◌⊎◌, List, [], ◌∷◌}
use Rattle.helix_places.specs.declared.place.Step.{Step}
use Rattle.helix_values.specs.declared.cell.Cell.{Cell}
use Rattle.helix_readings.specs.declared.sets.SetMembers.{SetMembers}

-- the members for a place: those that come first with it
abbrev pub HasMembers : List SetMembers → List Step → List Cell → Type 0
HasMembers [] place members = ⊥
HasMembers (set ∷ sets) place members =
    ((set.place ≡ place) × (members ≡ set.members)) ⊎ ((set.place ≢ place) × HasMembers sets place members)
