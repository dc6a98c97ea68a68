-- How far a name goes.
use Rattle.std.specs.Prelude.{ℕ, suc, if◌then◌else◌, List, [], ◌∷◌}
use Rattle.helix_run.specs.Profile.{Field, is_name_character}
use Rattle.helix_run.specs.declared.profile.Field.{Field as Found}

-- the number of characters of a name at the start
abbrev pub name_length : List ℕ → ℕ
name_length [] = 0
name_length (byte ∷ bytes) = if is_name_character byte then suc (name_length bytes) else 0

-- the field that was found
abbrev pub field_of : Found → Field
field_of found = record { name = found.name.now; nullable = found.nullable }
