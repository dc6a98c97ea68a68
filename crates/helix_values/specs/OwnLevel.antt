-- The level that a kind of numbers or moments has by itself.
use Rattle.std.specs.Prelude.{ℕ, Option, None, Some}
use Rattle.helix_values.specs.declared.kind.Kind.{Kind}
use Rattle.helix_values.specs.declared.kind.Kind.TheVariants as kind

-- whole numbers are on the level of 1, dates on that of days, and decimals and date-times on the finest
abbrev pub own_level : Kind → Option ℕ
own_level kind.Integer = Some 15
own_level kind.Decimal = Some 0
own_level kind.Date = Some 4
own_level kind.DateTime = Some 0
own_level other = None
