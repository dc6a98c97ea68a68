-- What a literal asks of a field, and when a list of literals can't hold.
use Rattle.std.specs.Prelude.{ℕ, Bool, true, false, not, ◌&&◌, ◌||◌, ◌==◌, if◌then◌else◌, unwrap_or, List, ◌∷◌, slice_get}
use Rattle.std.specs.List.{list_any}
use Rattle.helix_tree.specs.TreeOf.{opposite}
use Rattle.helix_tree.specs.declared.literal.Literal.{Literal}
use Rattle.helix_tree.specs.declared.literal.Literal.TheVariants.{Null, NotNull, Plain, Joined}
use Rattle.helix_options.specs.Inner.Clashes.{clashes_with}
use Rattle.helix_options.specs.declared.standing.Standing.{Standing}
use Rattle.helix_options.specs.declared.standing.Standing.TheVariants.{Implied, Refuted, Open}

-- the literal, or with a false sign its opposite
abbrev pub signed : Literal → Bool → Literal
signed literal true = literal
signed literal false = opposite literal

-- the literal holds only where the field has a value
abbrev pub asks_value : ℕ → Literal → Bool
asks_value field (Null other) = false
asks_value field (NotNull other) = other == field
asks_value field (Plain atom sign strict) = strict && (atom.field == field)
asks_value field (Joined relation sign strict) = strict && ((relation.left == field) || (relation.right == field))

-- the literal holds only where the field is null
abbrev pub asks_null : ℕ → Literal → Bool
asks_null field (Null other) = other == field
asks_null field other = false

-- by the fields that may be null
abbrev pub may_be_null : List Bool → ℕ → Bool
may_be_null nullable field = unwrap_or (slice_get nullable field) true

-- the field has a value, where all of these literals hold
abbrev pub has_value : List Bool → ℕ → List Literal → Bool
has_value nullable field literals = not (may_be_null nullable field) || list_any (asks_value field) literals

-- the field has none, where all of these literals hold
abbrev pub has_none : ℕ → List Literal → Bool
has_none field literals = list_any (asks_null field) literals

-- the literals can't all hold, by what they ask of the field
abbrev pub contradict : List Bool → ℕ → List Literal → Bool
contradict nullable field literals = has_value nullable field literals && has_none field literals

-- The literal can't hold where these do: by what they ask of its fields, or because its field has a value, and its test
-- clashes with another one of that value.
abbrev pub is_refuted : List Bool → Literal → List Literal → Bool
is_refuted nullable (Null field) literals = contradict nullable field (Null field ∷ literals)
is_refuted nullable (NotNull field) literals = contradict nullable field (NotNull field ∷ literals)
is_refuted nullable (Plain atom sign strict) literals =
    contradict nullable atom.field (Plain atom sign strict ∷ literals)
    || (has_value nullable atom.field (Plain atom sign strict ∷ literals) && list_any (clashes_with atom sign) literals)
is_refuted nullable (Joined relation sign strict) literals =
    contradict nullable relation.left (Joined relation sign strict ∷ literals)
    || contradict nullable relation.right (Joined relation sign strict ∷ literals)

-- a literal with a sign against the literals so far: it is implied where its opposite can't hold
abbrev pub standing_of : List Bool → Literal → Bool → List Literal → Standing
standing_of nullable literal sign literals =
    if is_refuted nullable (signed literal (not sign)) literals then Implied
    else if is_refuted nullable (signed literal sign) literals then Refuted else Open
