-- Words have exactly one order or fault.
use Rattle.std.proofs.Common.{◌≡◌, ℕ, List, Option, Some, None, ◌⊎◌, inl, inr, refl, sym, ◌∙◌}
use Rattle.helix_command.specs.declared.fault.WordsFault.{WordsFault}
use Rattle.helix_command.specs.declared.options.OptionName.{OptionName}
use Rattle.helix_command.specs.declared.options.OptionName.TheVariants as option
use Rattle.helix_command.specs.declared.order.Order.{Order}
use Rattle.helix_command.specs.Options.{option_named, word_of}
use Rattle.helix_command.specs.Groups.{groups_of}
use Rattle.helix_command.specs.Orders.{fault_of, order_of, IsOrder, IsFault}

pub one_order : (words : List (List ℕ)) (a b : Order) → IsOrder words a → IsOrder words b → a ≡ b
one_order words a b first second = first.order_is ∙ sym second.order_is

pub one_fault : (words : List (List ℕ)) (a b : WordsFault) → IsFault words a → IsFault words b → a ≡ b
one_fault words a b first second =
    let one : Some a ≡ Some b = sym first.fault_is ∙ second.fault_is in cc

by_fault : (words : List (List ℕ)) (found : Option WordsFault) → fault_of (groups_of words) ≡ found
    → ((order : Order) × IsOrder words order) ⊎ ((fault : WordsFault) × IsFault words fault)
by_fault words None is = inl (order_of (groups_of words), record { faultless = is; order_is = refl })
by_fault words (Some fault) is = inr (fault, record { fault_is = is })

pub order_or_fault : (words : List (List ℕ))
    → ((order : Order) × IsOrder words order) ⊎ ((fault : WordsFault) × IsFault words fault)
order_or_fault words = by_fault words (fault_of (groups_of words)) refl

pub order_without_fault : (words : List (List ℕ)) (order : Order) (fault : WordsFault) → IsOrder words order
    → ¬ IsFault words fault
order_without_fault words order fault first second =
    let both : None ≡ Some fault = sym first.faultless ∙ second.fault_is in cc

pub options_by_words : (option : OptionName) → option_named (word_of option) ≡ Some option
unfolding option_named word_of
options_by_words option.ProfileFile = refl
options_by_words option.OutputPath = refl
options_by_words option.OutputFormat = refl
options_by_words option.MaxRows = refl
options_by_words option.ResumeFile = refl
options_by_words option.TokenFile = refl
options_by_words option.Violate = refl
options_by_words option.ViolateRule = refl
options_by_words option.Characters = refl
options_by_words option.Replace = refl
options_by_words option.ViolateAll = refl
options_by_words option.Boundary = refl
options_by_words option.Explain = refl
options_by_words option.Workload = refl
