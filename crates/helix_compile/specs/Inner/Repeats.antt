-- Words that are joined from words of a language.
use Rattle.std.specs.Prelude.{ℕ, ◌+◌, ◌≤◌, Option, List}
use Rattle.helix_expr.specs.Matching.{Joined, UpTo}

-- from any number of them
abbrev pub AnyNumber : (List ℕ → Type 0) → List ℕ → Type 0
AnyNumber Language word = (count : ℕ) × Joined Language count word

-- from at most n
abbrev pub UpToNumber : (List ℕ → Type 0) → ℕ → List ℕ → Type 0
UpToNumber Language most word = (count : ℕ) × (count ≤ most) × Joined Language count word

-- from as many as are allowed after the least number
abbrev pub RepeatsMore : (List ℕ → Type 0) → ℕ → Option ℕ → List ℕ → Type 0
RepeatsMore Language least most word = (count : ℕ) × UpTo most (least + count) × Joined Language count word
