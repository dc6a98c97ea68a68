-- The first option to blame, check after check.
use Rattle.std.proofs.Common.{◌≡◌, [], ◌∷◌, Option, Some, None, refl}
use Rattle.std.specs.Option.{option_or}
use Rattle.helix_command.specs.declared.options.OptionName.{OptionName}
use Rattle.helix_command.specs.Checks.{first_blamed}

pub blamed : (a b c d e f g : Option OptionName)
    → option_or (option_or (option_or (option_or (option_or (option_or a b) c) d) e) f) g
    ≡ first_blamed (a ∷ b ∷ c ∷ d ∷ e ∷ f ∷ g ∷ [])
blamed (Some x) b c d e f g = refl
blamed None (Some x) c d e f g = refl
blamed None None (Some x) d e f g = refl
blamed None None None (Some x) e f g = refl
blamed None None None None (Some x) f g = refl
blamed None None None None None (Some x) g = refl
blamed None None None None None None (Some x) = refl
blamed None None None None None None None = refl
