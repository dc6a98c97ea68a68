-- What is read of a text of characters.
use Rattle.std.specs.Prelude.{◌≡◌, ℕ, List}
use Rattle.helix_json.specs.declared.fault.JsonFault.{JsonFault}
use Rattle.helix_json.specs.declared.fault.JsonFault.TheVariants as fault
use Rattle.helix_json.specs.declared.value.Json.{Json}
use Rattle.helix_json.specs.Text.{SpellsText}
use Rattle.helix_json.specs.Broken.{BeginsTooDeep, RepeatsKey, FirstIn, Nowhere, byte_offset, IsJsonText}
use Rattle.helix_base.specs.Syntax.{IsSyntaxErrorAt}

-- the value that the text spells, and which breaks no rule
pub record IsSound (text : List ℕ) (value : Json) : Type 0 where
  pub spells : SpellsText text value
  pub shallow : Nowhere BeginsTooDeep value
  pub keyed : Nowhere RepeatsKey value

-- the first of the rules J3 to J5 that the text breaks, with its offset; nothing is known where memory ran out
abbrev pub BreaksRule : List ℕ → JsonFault → Type 0
BreaksRule text (fault.Grammar at) = (count : ℕ) × IsSyntaxErrorAt IsJsonText text count × (at ≡ byte_offset text count)
BreaksRule text (fault.TooDeep at) = (value : Json) × (count : ℕ) × SpellsText text value
    × FirstIn BeginsTooDeep text value count × (at ≡ byte_offset text count)
BreaksRule text (fault.DuplicateKey at) = (value : Json) × (count : ℕ) × SpellsText text value
    × Nowhere BeginsTooDeep value
    × FirstIn RepeatsKey text value count
    × (at ≡ byte_offset text count)
BreaksRule text fault.Memory = Unit {0}
BreaksRule text _ = ⊥
