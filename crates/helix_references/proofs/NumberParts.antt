-- The parts of a number that are found in its text.
use Rattle.std.proofs.Common.{◌≡◌, ◌↔◌, ℕ, List, ◌++◌, Bool, ℤ, sym, ◌∙◌, ap, subst}
use Rattle.helix_json.specs.Numbers.{NumberParts, SpellsNumber, signed, IsUnits, IsNumber}
use Rattle.helix_base.specs.Digits.{AreDigits}
use Rattle.helix_json.specs.Inner.Pieces.{NoDigit, TakesSign, TakesFraction, TakesExponent, Found}
use Rattle.helix_json.specs.Inner.PartsLaws.{parts_found, units_found}
use Rattle.helix_references.specs.Inner.Wholes.{AreUnitsOf}

module _ (text unsigned whole later fraction last digits : List ℕ) (negative lowers : Bool)
    (sign : TakesSign text negative unsigned) (is : unsigned ≡ whole ++ later) (all : AreDigits whole)
    (stops : NoDigit later)
    (point : TakesFraction later fraction last) (exponent : TakesExponent last lowers digits) where
  found_in : (parts : NumberParts) → SpellsNumber text parts → Found parts negative whole fraction lowers digits
  found_in parts spells =
      parts_found text unsigned whole later fraction last digits negative lowers sign is all stops point exponent parts
      spells

  pub fraction_digits : IsNumber text → AreDigits fraction
  fraction_digits (parts, spells) = subst AreDigits (sym (found_in parts spells).fraction_is) spells.are.fraction

  pub exponent_digits : IsNumber text → AreDigits digits
  exponent_digits (parts, spells) = (found_in parts spells).exponent_is.are_digits

  pub units_in : IsNumber text → (units : ℤ)
      → IsUnits text units ↔ AreUnitsOf negative whole fraction lowers digits units
  units_in (own, spelled) units = (
    (λ (parts, spells, n, has, e). let found = found_in parts spells in (
      n,
      (units_found parts negative whole fraction digits lowers n found).0 has,
      e ∙ ap (λ b. signed b n) (sym found.negative_is),
    )),
    (λ (n, are, e). let found = found_in own spelled in (
      own,
      spelled,
      n,
      (units_found own negative whole fraction digits lowers n found).1 are,
      e ∙ ap (λ b. signed b n) found.negative_is,
    )),
  )
