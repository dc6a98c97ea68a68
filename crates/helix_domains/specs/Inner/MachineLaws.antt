-- Equal states of the machines accept the same words.
use Rattle.std.specs.Prelude.{◌≡◌, ◌↔◌, ℕ, Bool, true, false, ◌&&◌, eqb, nat_eq, List}
use Rattle.std.specs.List.{All}
use Rattle.std.proofs.Common.{refl, sym, subst}
use Rattle.std.proofs.Math.Bool.{beq}
use Rattle.std.proofs.lemmas.Bool.{and_parts, eqb-true}
use Rattle.std.specs.Cmp.Lexicographic.{same_text}
use lib.Pointwise.{pointwise}
use Rattle.helix_base.specs.declared.alphabet.Alphabet.{Alphabet}
use Rattle.helix_base.specs.Alphabet.{IsCharacterOf}
use Rattle.helix_values.specs.declared.cell.Cell.{Cell}
use Rattle.helix_domains.specs.Inner.Spelling.{SpellsNone}

same_truth : (one other : Bool) → beq one other ≡ true → one ≡ other
same_truth false false equal = refl
same_truth false true equal = cc
same_truth true false equal = cc
same_truth true true equal = refl

pub same_flags : (alphabet : Alphabet) (one other : Bool) → beq one other ≡ true → (word : List ℕ)
    → ((one ≡ true) × All (IsCharacterOf alphabet) word) ↔ ((other ≡ true) × All (IsCharacterOf alphabet) word)
same_flags alphabet one other equal word =
    let same : one ≡ other = same_truth one other equal in (
      (λ h. (subst (λ b. b ≡ true) same h.0, h.1)),
      (λ h. (subst (λ b. b ≡ true) (sym same) h.0, h.1)),
    )

pub same_spellings : (cells : List Cell) (place other_place : ℕ) (numbers other_numbers : List ℕ)
    → (eqb place other_place && pointwise nat_eq numbers other_numbers) ≡ true → (word : List ℕ)
    → SpellsNone cells place numbers word ↔ SpellsNone cells other_place other_numbers word
same_spellings cells place other_place numbers other_numbers equal word =
    let parts = and_parts (eqb place other_place) (pointwise nat_eq numbers other_numbers) equal in
    let places : place ≡ other_place = eqb-true place other_place parts.0 in
    let lists : numbers ≡ other_numbers = same_text numbers other_numbers (sym parts.1) in (
      (λ h. subst (λ p. SpellsNone cells p other_numbers word) places (subst (λ l. SpellsNone cells place l word)
          lists h)),
      (λ h. subst (λ p. SpellsNone cells p numbers word) (sym places)
          (subst (λ l. SpellsNone cells other_place l word) (sym lists) h)),
    )
