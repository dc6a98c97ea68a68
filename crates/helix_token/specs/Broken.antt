-- Why bytes are no token of a run. `=` is 61.
use Rattle.std.specs.Prelude.{◌≡◌, ◌≢◌, ◌⊎◌, ℕ, ◌<◌, ◌≤◌, Option, None, Some, List, ◌∷◌, codes, length, IsTrue}
use Rattle.std.specs.List.{AllByRecursion, slice_get}
use Rattle.std.specs.Str.{all_scalars}
use Rattle.helix_values.specs.declared.cell.Cell.{Cell}
use Rattle.helix_profile.specs.Good.{IsCellOf}
use Rattle.helix_profile.specs.declared.field.Field.{Field}
use Rattle.helix_token.specs.Identity.{IsIdentity}
use Rattle.helix_token.specs.Token.{HoldsText, cell_string, token_of_strings}
use Rattle.helix_token.specs.declared.fault.TokenFault.{TokenFault}
use Rattle.helix_token.specs.declared.fault.TokenFault.TheVariants as fault

-- `n`, or what begins with `=`
abbrev pub IsMarked : List ℕ → Type 0
IsMarked text = (text ≡ codes "n") ⊎ ((rest : List ℕ) × (text ≡ 61 ∷ rest))

-- a text of characters that is marked
abbrev pub IsRowString : List ℕ → Type 0
IsRowString text = IsTrue (all_scalars text) × IsMarked text

-- at most 1,048,576 bytes that hold the text of an identity and of such strings
pub record HasTokenForm (bytes identity : List ℕ) (strings : List (List ℕ)) : Type 0 where
  pub size : length bytes ≤ 1048576
  pub identified : IsIdentity identity
  pub marked : AllByRecursion IsRowString strings
  pub text : HoldsText bytes (token_of_strings identity strings)

-- at one index: a cell but no field, a field but no cell, or a string that is that of no cell of the field
abbrev pub IsFaulty : Option Field → Option (List ℕ) → Type 0
IsFaulty None None = ⊥
IsFaulty (Some field) (Some text) = (value : Cell) → IsCellOf field value → text ≢ cell_string field value
IsFaulty field text = Unit {0}

-- the least index with such a fault
pub record IsFirstFaulty (fields : List Field) (strings : List (List ℕ)) (index : ℕ) : Type 0 where
  pub here : IsFaulty (slice_get fields index) (slice_get strings index)
  pub before : (k : ℕ) → k < index → ¬ IsFaulty (slice_get fields k) (slice_get strings k)

-- the first fault of three: another form, another identity, a cell. Memory is no fault of the bytes.
abbrev pub IsFirstFault : List ℕ → List ℕ → List Field → TokenFault → Type 0
IsFirstFault bytes identity fields fault.Form =
    (found : List ℕ) (strings : List (List ℕ)) → ¬ HasTokenForm bytes found strings
IsFirstFault bytes identity fields (fault.OtherProfile found wanted) =
    (strings : List (List ℕ)) × HasTokenForm bytes found strings × (found ≢ identity) × (wanted ≡ identity)
IsFirstFault bytes identity fields (fault.Cell index) =
    (strings : List (List ℕ)) × HasTokenForm bytes identity strings × IsFirstFaulty fields strings index
IsFirstFault bytes identity fields fault.Memory = ⊥
