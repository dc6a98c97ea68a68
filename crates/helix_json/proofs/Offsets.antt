-- The bytes that characters take.
use Rattle.std.proofs.Common.{◌≡◌, ℕ, ◌+◌, ◌*◌, ◌<◌, ◌≤◌, true, Option, Some, None, IsSome, List, length, take, get_or, refl, sym, ◌∙◌, ap, subst, arith, length-append, length-take-le}
use Rattle.std.specs.Option.{SomeIff}
use Rattle.std.specs.Char.{IsScalar, encode_utf8}
use Rattle.std.specs.Str.{all_scalars, encode_utf8_all}
use Rattle.std.proofs.lemmas.List.{get_or-take}
use Rattle.helix_base.specs.Inner.ScalarLaws.{scalar_at, encodes-take_more}
use Rattle.helix_json.specs.Broken.{byte_offset}

made : (o : Option ℕ) (code : ℕ) → IsScalar code → SomeIff o (IsScalar code) code → IsSome o
made None code is h = absurd (h is)
made (Some c) code is h = refl

made_is : (o : Option ℕ) (code c : ℕ) → SomeIff o (IsScalar code) code → o ≡ Some c → c ≡ code
made_is None code c h e = cc
made_is (Some d) code c h e = let f : d ≡ c = cc in sym f ∙ h.1

-- so far, and how much it can be
pub record Placed (codes : List ℕ) (i offset : ℕ) : Type 0 where
  pub is : offset ≡ byte_offset codes i
  pub few : offset ≤ 4 * i

module _ (codes : List ℕ) (count i : ℕ) (scalars : all_scalars codes ≡ true) (within : count ≤ length codes) (here : i
    < length (take count codes)) where
  prefix_code : get_or (take count codes) i 0 ≡ get_or codes i 0
  prefix_code = let n : length (take count codes) ≡ count = length-take-le count codes within in
      let h : i < count = omega arith in get_or-take count codes i 0 h

  inside : i < length codes
  inside = let n : length (take count codes) ≡ count = length-take-le count codes within in omega arith

  pub is_made : (o : Option ℕ) → SomeIff o (IsScalar (get_or (take count codes) i 0)) (get_or (take count codes) i 0)
      → IsSome o
  is_made o h = made o (get_or (take count codes) i 0)
      (subst IsScalar (sym prefix_code) (scalar_at codes i scalars inside)) h

  pub placed_more : (o : Option ℕ) (c offset size : ℕ)
      → SomeIff o (IsScalar (get_or (take count codes) i 0)) (get_or (take count codes) i 0) → o ≡ Some c
      → size ≡ length (encode_utf8 c) → size ≤ 4 → Placed codes i offset → Placed codes (i + 1) (offset + size)
  placed_more o c offset size h e is most so_far =
      let same : c ≡ get_or codes i 0 = made_is o (get_or (take count codes) i 0) c h e ∙ prefix_code in
      let n : size ≡ length (encode_utf8 (get_or codes i 0)) = is ∙ ap (λ x. length (encode_utf8 x)) same in
      let whole : byte_offset codes (i + 1) ≡ byte_offset codes i + length (encode_utf8 (get_or codes i 0)) =
      ap length (encodes-take_more codes i inside)
      ∙ length-append (encode_utf8_all (take i codes)) (encode_utf8 (get_or codes i 0)) in
      let at = so_far.is in let few = so_far.few in record {
        is = sym (whole ∙ (ap (λ p. p + length (encode_utf8 (get_or codes i 0))) (sym at)
            ∙ ap (λ s. offset + s) (sym n)));
        few = omega arith;
      }
