-- What each token adds to the expression that is built. Only the crate's private clauses cite it.
use Rattle.std.specs.Prelude.{◌≡◌, ℕ, ◌==◌, ◌&&◌, not, Bool, true, false, List, [], ◌∷◌, ◌++◌}
use Rattle.helix_base.specs.Ranges.{in_ranges}
use Rattle.helix_base.specs.Alphabet.{is_in_range}
use Rattle.helix_expr.specs.declared.expr.Expr.{Expr, Empty, Chars}
use Rattle.helix_expr.specs.declared.expr.Expr.TheViews.{Alt, Repeat}
use Rattle.helix_regex.specs.declared.token.Token.{Token}
use Rattle.helix_regex.specs.declared.token.Token.TheVariants as token
use Rattle.helix_regex.specs.declared.builder.Level.{Level}
use Rattle.helix_regex.specs.declared.builder.Builder.{Builder}
use Rattle.helix_regex.specs.Characters.{is_character, set_has}
use Rattle.helix_regex.specs.Meaning.{in_sequence, AreRangesOf}
use Rattle.helix_regex.specs.Inner.Sets.{Gains}

-- alternatives, which are themselves where there is one
abbrev pub choice : List Expr → Expr
choice [] = Empty
choice (e ∷ []) = e
choice (e ∷ f ∷ es) = Alt (e ∷ f ∷ es)

-- the sequences of the innermost level
abbrev pub sequences : Builder → List Expr
sequences b = b.done ++ in_sequence b.pieces ∷ []

-- around the class that is read, nothing changes
pub record Same (old new : Builder) : Type 0 where
  pub outer : new.outer ≡ old.outer
  pub done : new.done ≡ old.done
  pub pieces : new.pieces ≡ old.pieces

-- one more piece
pub record Pushes (piece : Expr) (old new : Builder) : Type 0 where
  pub outer : new.outer ≡ old.outer
  pub done : new.done ≡ old.done
  pub pieces : new.pieces ≡ old.pieces ++ piece ∷ []

-- one more piece, of one character of a set
abbrev pub PushesSet : (ℕ → Bool) → Builder → Builder → Type 0
PushesSet set old new = (ranges : List (ℕ × ℕ)) × AreRangesOf set ranges × Pushes (Chars ranges) old new

-- the class has a set besides
pub record Gained (set : ℕ → Bool) (old new : Builder) : Type 0 where
  pub same : Same old new
  pub gains : Gains set old.raw.items new.raw.items
  pub excluded : new.excluded ≡ old.excluded

abbrev pub class_has : Bool → List (ℕ × ℕ) → ℕ → Bool
class_has true raw c = is_character c && not (in_ranges raw c)
class_has false raw c = in_ranges raw c

pub record BeginsClass (old new : Builder) : Type 0 where
  pub same : Same old new
  pub raw : new.raw.items ≡ []
  pub excluded : new.excluded ≡ false

pub record Excludes (old new : Builder) : Type 0 where
  pub same : Same old new
  pub raw : new.raw.items ≡ old.raw.items
  pub excluded : new.excluded ≡ true

pub record Ends (old new : Builder) : Type 0 where
  pub outer : new.outer ≡ old.outer
  pub done : new.done ≡ sequences old
  pub pieces : new.pieces ≡ []

pub record OpensGroup (old new : Builder) : Type 0 where
  pub outer : new.outer ≡ old.outer ++ record { done = old.done; pieces = old.pieces } ∷ []
  pub done : new.done ≡ []
  pub pieces : new.pieces ≡ []

pub record ClosesGroup (around : List Level) (level : Level) (old new : Builder) : Type 0 where
  pub outer : new.outer ≡ around
  pub done : new.done ≡ level.done
  pub pieces : new.pieces ≡ level.pieces ++ choice (sequences old) ∷ []

-- the last piece is repeated
pub record RepeatsLast (prefix : List Expr) (piece : Expr) (old new : Builder) : Type 0 where
  pub outer : new.outer ≡ old.outer
  pub done : new.done ≡ old.done
  pub pieces : new.pieces ≡ prefix ++ piece ∷ []

abbrev pub Steps : Builder → Token → Builder → Type 0
Steps old (token.Bar at) new = Ends old new
Steps old (token.Caret at) new = Same old new
Steps old (token.Dollar at) new = Same old new
Steps old token.Open new = OpensGroup old new
Steps old token.Close new = (outer : List Level) (level : Level) → old.outer ≡ outer ++ level ∷ []
    → ClosesGroup outer level old new
Steps old (token.Literal code) new = PushesSet (λ c. c == code) old new
Steps old token.Dot new = PushesSet (λ c. is_character c) old new
Steps old (token.Set letter) new = PushesSet (set_has letter) old new
Steps old token.ClassStart new = BeginsClass old new
Steps old token.Exclude new = Excludes old new
Steps old (token.Item code) new = Gained (λ c. c == code) old new
Steps old (token.Range first last at) new = Gained (λ c. is_character c && is_in_range c (first, last)) old new
Steps old (token.SetItem letter) new = Gained (set_has letter) old new
Steps old token.ClassEnd new = PushesSet (class_has old.excluded old.raw.items) old new
Steps old (token.Repeat least most at) new = (prefix : List Expr) (piece : Expr) → old.pieces ≡ prefix ++ piece ∷ []
    → RepeatsLast prefix (Repeat piece least most) old new

-- tokens one after the other
abbrev pub Runs : Builder → List Token → Builder → Type 0
Runs old [] new = old ≡ new
Runs old (t ∷ ts) new = (next : Builder) × Steps old t next × Runs next ts new

-- nothing is built
pub record IsStart (b : Builder) : Type 0 where
  pub outer : b.outer ≡ []
  pub done : b.done ≡ []
  pub pieces : b.pieces ≡ []

abbrev pub IsBuilt : List Token → Builder → Type 0
IsBuilt ts b = (start : Builder) × IsStart start × Runs start ts b
