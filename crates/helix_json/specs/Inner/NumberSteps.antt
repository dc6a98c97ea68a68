-- The grammar of numbers, one character after the other.
use Rattle.std.specs.Prelude.{ℕ, Bool, true, false, ◌==◌, ◌||◌, ◌&&◌, nat_le, if◌then◌else◌, Option, Some, None, List, [], ◌∷◌}
use Rattle.helix_json.specs.declared.digits.NumberState.{NumberState}
use Rattle.helix_json.specs.declared.digits.NumberState.TheVariants as state
use Rattle.helix_json.specs.declared.digits.NumberCharacter.{NumberCharacter}
use Rattle.helix_json.specs.declared.digits.NumberCharacter.TheVariants as kind

-- what a character is in a number
abbrev pub kind_of : ℕ → NumberCharacter
kind_of c = if c == 48 then kind.Zero else if nat_le 49 c && nat_le c 57 then kind.Digit else if c == 43 then kind.Plus
    else if c == 45 then kind.Minus
    else if c == 46 then kind.Point else if c == 69 || c == 101 then kind.Mark else kind.Other

-- the state after one more character, or none where no number goes on so
abbrev pub number_step : NumberState → NumberCharacter → Option NumberState
number_step state.Nothing kind.Minus = Some state.Minus
number_step state.Nothing kind.Zero = Some state.Zero
number_step state.Nothing kind.Digit = Some state.Whole
number_step state.Minus kind.Zero = Some state.Zero
number_step state.Minus kind.Digit = Some state.Whole
number_step state.Zero kind.Point = Some state.Point
number_step state.Zero kind.Mark = Some state.Mark
number_step state.Whole kind.Zero = Some state.Whole
number_step state.Whole kind.Digit = Some state.Whole
number_step state.Whole kind.Point = Some state.Point
number_step state.Whole kind.Mark = Some state.Mark
number_step state.Point kind.Zero = Some state.Fraction
number_step state.Point kind.Digit = Some state.Fraction
number_step state.Fraction kind.Zero = Some state.Fraction
number_step state.Fraction kind.Digit = Some state.Fraction
number_step state.Fraction kind.Mark = Some state.Mark
number_step state.Mark kind.Plus = Some state.Sign
number_step state.Mark kind.Minus = Some state.Sign
number_step state.Mark kind.Zero = Some state.Exponent
number_step state.Mark kind.Digit = Some state.Exponent
number_step state.Sign kind.Zero = Some state.Exponent
number_step state.Sign kind.Digit = Some state.Exponent
number_step state.Exponent kind.Zero = Some state.Exponent
number_step state.Exponent kind.Digit = Some state.Exponent
number_step _ _ = None

-- a number may end in this state
abbrev pub number_ends : NumberState → Bool
number_ends state.Zero = true
number_ends state.Whole = true
number_ends state.Fraction = true
number_ends state.Exponent = true
number_ends _ = false

abbrev pub if_some : Option NumberState → (NumberState → Bool) → Bool
if_some None f = false
if_some (Some s) f = f s

-- whether the text is the rest of a number
unfoldable pub accepts : NumberState → List ℕ → Bool
accepts s [] = number_ends s
accepts s (c ∷ cs) = if_some (number_step s (kind_of c)) (λ next. accepts next cs)
