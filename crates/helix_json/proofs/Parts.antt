-- The units of a number whose parts are found.
use Rattle.std.proofs.Common.{◌≡◌, ℕ, ◌≤◌, zero, suc, List, ◌++◌, length, Bool, true, false, ℤ, nat_abs, refl, sym, ◌∙◌, ap, subst, arith}
use Rattle.helix_json.specs.Numbers.{NumberParts, SpellsNumber, digits_value, signed, IsUnits, IsNumber}
use Rattle.helix_base.specs.Digits.{AreDigits}
use Rattle.helix_json.specs.Inner.Pieces.{NoDigit, TakesSign, TakesFraction, TakesExponent, Found, AreUnits}
use Rattle.helix_json.specs.Inner.PartsLaws.{parts_found, units_found}

pub signed_size : (b : Bool) (n : ℕ) → nat_abs (signed b n) ≡ n
signed_size true zero = refl
signed_size true (suc n) = refl
signed_size false n = refl

pub size_within : (r s : ℤ) (n most : ℕ) → r ≡ s → nat_abs s ≡ n → n ≤ most → nat_abs r ≤ most
size_within r s n most e f small = omega (arith, ap nat_abs e, f)

module _ (text codes unsigned whole later fraction last digits : List ℕ) (negative lowers : Bool) (same : codes ≡ text)
    (sign : TakesSign codes negative unsigned) (is : unsigned ≡ whole ++ later) (all : AreDigits whole)
    (stops : NoDigit later)
    (point : TakesFraction later fraction last) (exponent : TakesExponent last lowers digits) where
  pub found_in : (parts : NumberParts) → SpellsNumber text parts → Found parts negative whole fraction lowers digits
  found_in parts spells = parts_found text unsigned whole later fraction last digits negative lowers
      (let P : List ℕ → Type 0 = λ t. TakesSign t negative unsigned in
      subst P same sign) is all stops point exponent parts spells

  pub fraction_digits : (parts : NumberParts) → SpellsNumber text parts → AreDigits fraction
  fraction_digits parts spells = subst AreDigits (sym (found_in parts spells).fraction_is) spells.are.fraction

  pub exponent_digits : (parts : NumberParts) → SpellsNumber text parts → AreDigits digits
  exponent_digits parts spells = (found_in parts spells).exponent_is.are_digits

  pub units_in : (units : ℤ) (n : ℕ)
      → AreUnits (digits_value (whole ++ fraction)) (length fraction) lowers (digits_value digits) n
      → units ≡ signed negative n → IsNumber text → IsUnits text units
  units_in units n are e (parts, spells) = let found = found_in parts spells in (
    parts,
    spells,
    n,
    (units_found parts negative whole fraction digits lowers n found).1 are,
    e ∙ ap (λ b. signed b n) found.negative_is,
  )

  pub no_units_in : (most : ℕ) → ((n : ℕ) → n ≤ most
      → ¬ (AreUnits (digits_value (whole ++ fraction)) (length fraction) lowers (digits_value digits) n))
      → (units : ℤ) → nat_abs units ≤ most → ¬ (IsUnits text units)
  no_units_in most none units small (parts, spells, n, has, e) = let found = found_in parts spells in
      none n (omega (arith, signed_size parts.negative n, ap nat_abs e))
      ((units_found parts negative whole fraction digits lowers n found).0 has)
