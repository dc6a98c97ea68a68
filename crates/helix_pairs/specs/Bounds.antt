-- The bounds that a relation sets. An equality sets a lower bound and an upper one, and its negation excludes values.
use Rattle.std.specs.Prelude.{◌≡◌, ◌↔◌, ℤ, ◌<ℤ◌, ◌≤ℤ◌, Option, MatchOption}
use Rattle.helix_pairs.specs.declared.comparison.Comparison.{Comparison}
use Rattle.helix_pairs.specs.declared.comparison.Comparison.TheVariants.{Equal, Different, Above, AtLeast, Below, AtMost}
use Rattle.helix_pairs.specs.declared.comparison.End.{End}
use Rattle.helix_pairs.specs.declared.comparison.End.TheVariants.{Left, Right}

-- the child isn't below what the parent's value allows
abbrev pub MeetsLower : Comparison → End → (ℤ → ℤ) → ℤ → ℤ → Type 0
MeetsLower Equal Left shifted parent child = shifted parent ≤ℤ child
MeetsLower AtLeast Left shifted parent child = shifted parent ≤ℤ child
MeetsLower Above Left shifted parent child = shifted parent <ℤ child
MeetsLower Equal Right shifted parent child = parent ≤ℤ shifted child
MeetsLower AtMost Right shifted parent child = parent ≤ℤ shifted child
MeetsLower Below Right shifted parent child = parent <ℤ shifted child
MeetsLower other side shifted parent child = Unit {0}

-- the child isn't above what the parent's value allows
abbrev pub MeetsUpper : Comparison → End → (ℤ → ℤ) → ℤ → ℤ → Type 0
MeetsUpper Equal Left shifted parent child = child ≤ℤ shifted parent
MeetsUpper AtMost Left shifted parent child = child ≤ℤ shifted parent
MeetsUpper Below Left shifted parent child = child <ℤ shifted parent
MeetsUpper Equal Right shifted parent child = shifted child ≤ℤ parent
MeetsUpper AtLeast Right shifted parent child = shifted child ≤ℤ parent
MeetsUpper Above Right shifted parent child = shifted child <ℤ parent
MeetsUpper other side shifted parent child = Unit {0}

-- the child is one of the values that the parent's value excludes
abbrev pub IsExcluded : Comparison → End → (ℤ → ℤ) → ℤ → ℤ → Type 0
IsExcluded Different Left shifted parent child = child ≡ shifted parent
IsExcluded Different Right shifted parent child = parent ≡ shifted child
IsExcluded other side shifted parent child = ⊥

-- of the values from `low` to `high` those from the answer on are members, or none where there is no answer
abbrev pub AreThoseFrom : ℤ → ℤ → (ℤ → Type 0) → Option ℤ → Type 0
AreThoseFrom low high IsOne answer =
    MatchOption answer ((v : ℤ) → low ≤ℤ v → v ≤ℤ high → ¬ IsOne v)
    (λ least. (v : ℤ) → low ≤ℤ v → v ≤ℤ high → IsOne v ↔ (least ≤ℤ v))
