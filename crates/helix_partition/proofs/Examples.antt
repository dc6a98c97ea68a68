-- Groups of small profiles, by hand.
use Rattle.std.proofs.Common.{◌≡◌, ℕ, true, pos, List, [], ◌∷◌, refl}
use Rattle.helix_ladders.specs.declared.offset.Offset.TheVariants.{Plain}
use Rattle.helix_profile.specs.Content.{Content}
use Rattle.helix_profile.specs.Width.{is_chained}
use Rattle.helix_profile.specs.declared.constraint.Constraint.{Constraint, Atom, Related}
use Rattle.helix_profile.specs.declared.field.Field.{Field}
use Rattle.helix_profile.specs.declared.relation.Compare.TheVariants.{Equal}
use Rattle.helix_profile.specs.declared.test.Test.TheVariants.{IsNull}
use Rattle.helix_partition.specs.Groups.{groups_of}

-- two fields are related, or one is tested
abbrev pub related : ℕ → ℕ → Constraint
related left right = Related (record { left = left; compare = Equal; right = right; offset = Plain (pos 0) })

abbrev pub tested : ℕ → Constraint
tested field = Atom (record { field = field; test = IsNull true })

-- three fields, whatever they are, with these constraints
abbrev pub profile : Field → List Constraint → Content
profile field constraints = record { fields = field ∷ field ∷ field ∷ []; constraints = constraints }

-- no constraints: each field by itself
pub apart : (field : Field) → groups_of (profile field [])
    ≡ record { fields = 0 ∷ []; constraints = [] } ∷ record { fields = 1 ∷ []; constraints = [] }
    ∷ record { fields = 2 ∷ []; constraints = [] } ∷ []
unfolding is_chained
apart field = refl

-- the first and the last field are related, the middle one is tested
pub around : (field : Field) → groups_of (profile field (tested 1 ∷ related 2 0 ∷ []))
    ≡ record { fields = 0 ∷ 2 ∷ []; constraints = 1 ∷ [] } ∷ record { fields = 1 ∷ []; constraints = 0 ∷ [] } ∷ []
unfolding is_chained
around field = refl

-- a chain of two relations
pub chained : (field : Field) → groups_of (profile field (related 2 1 ∷ tested 0 ∷ related 0 1 ∷ []))
    ≡ record { fields = 0 ∷ 1 ∷ 2 ∷ []; constraints = 0 ∷ 1 ∷ 2 ∷ [] } ∷ []
unfolding is_chained
chained field = refl
