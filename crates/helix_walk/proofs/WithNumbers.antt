-- The regions with the numbers of those that were appended.
use Rattle.std.proofs.Common.{◌≡◌, ℕ, zero, suc, ◌+◌, ◌<◌, ◌≤◌, Some, List, [], ◌∷◌, ◌++◌, length, take, slice_get, refl, sym, ap, ap₂, ◌∙◌, subst, arith, length-append}
use Rattle.std.proofs.lemmas.List.{take_more, take_all}
use Rattle.std.proofs.lemmas.List.Elements.{filter_map-append, All-push, All-weaker}
use Rattle.std.proofs.lemmas.Option.{get_or_from_slice_get}
use Rattle.std.specs.List.{All, cons_option}
use Rattle.helix_options.specs.Regions.{AreRegionsFor, AreFewRegionsFor}
use Rattle.helix_partition.specs.declared.partition.Partition.{Partition}
use Rattle.helix_profile.specs.Content.{Content}
use Rattle.helix_relations.specs.Region.{RegionContent}
use Rattle.helix_rows.specs.declared.part.Part.{Part}
use Rattle.helix_walk.proofs.OnePart.{got}
use Rattle.helix_walk.specs.Inner.Numbers.{numbers_from}
use Rattle.helix_walk.specs.Parts.{with_numbers, IsPartFor, ArePartsFor}

module _ {A : Type 0} where
  before : (old more : List A) (k : ℕ) → k < length old → slice_get (old ++ more) k ≡ slice_get old k
  before [] more k within = absurd (omega (arith, within))
  before (x ∷ old) more zero within = refl
  before (x ∷ old) more (suc k) within = before old more k (omega (arith, within))

  after : (old more : List A) (k : ℕ) → slice_get (old ++ more) (length old + k) ≡ slice_get more k
  after [] more k = let e : 0 + k ≡ k = omega arith in ap (slice_get more) e
  after (x ∷ old) more k =
      let e : length (x ∷ old) + k ≡ suc (length old + k) = omega arith in
      ap (slice_get (x ∷ (old ++ more))) e ∙ after old more k

stay : (old more : List RegionContent) (numbers : List ℕ) → All (λ n. n < length old) numbers
    → with_numbers (old ++ more) numbers ≡ with_numbers old numbers
stay old more [] within = refl
stay old more (n ∷ numbers) within =
    ap₂ cons_option (before old more n (within 0 n (omega arith)))
    (stay old more numbers (λ k d below. within (suc k) d (omega (arith, below))))

appended : (old found : List RegionContent) (n : ℕ) → n ≤ length found
    → with_numbers (old ++ found) (numbers_from (length old) n) ≡ take n found
appended old found zero within = refl
appended old found (suc n) within =
    let region = got found n (omega (arith, within)) in
    let next : slice_get (old ++ found) (length old + n) ≡ Some region.0 = after old found n ∙ region.1 in
    let more : suc n ≡ n + 1 = omega arith in
    filter_map-append (slice_get (old ++ found)) (numbers_from (length old) n) ((length old + n) ∷ [])
    ∙ (ap₂ (λ xs o. xs ++ cons_option o []) (appended old found n (omega (arith, within))) next
    ∙ (ap (λ x. take n found ++ x ∷ []) (sym (get_or_from_slice_get found n region.0 region.0 region.1))
    ∙ (sym (take_more found n region.0 (omega (arith, within))) ∙ ap (λ k. take k found) (sym more))))

below_all : (first n bound : ℕ) → first + n ≤ bound → All (λ k. k < bound) (numbers_from first n)
below_all first zero bound within = λ k d below. absurd (omega (arith, below))
below_all first (suc n) bound within =
    All-push (λ k. k < bound) (numbers_from first n) (first + n) (below_all first n bound (omega (arith, within)))
    (omega (arith, within))

as_many : (first n : ℕ) → length (numbers_from first n) ≡ n
as_many first zero = refl
as_many first (suc n) = let rest = as_many first n in
    omega (arith, length-append (numbers_from first n) ((first + n) ∷ []), rest)

module _ (profile : Content) (old found : List RegionContent) where
  kept_part : (group : Partition) (part : Part) → IsPartFor profile old group part
      → IsPartFor profile (old ++ found) group part
  kept_part group part is = record {
    fields = is.fields;
    within = All-weaker (λ n. n < length old) (λ n. n < length (old ++ found))
        (λ n within. omega (arith, length-append old found, within)) part.regions is.within;
    are = subst (AreRegionsFor profile group) (sym (stay old found part.regions is.within)) is.are;
    few = is.few;
  }

  kept_parts : (groups : List Partition) (parts : List Part) → ArePartsFor profile old groups parts
      → ArePartsFor profile (old ++ found) groups parts
  kept_parts [] [] are = tt
  kept_parts (group ∷ groups) (part ∷ parts) are =
      (kept_part group part are.0, kept_parts groups parts are.1)
  kept_parts [] (part ∷ parts) are = absurd are
  kept_parts (group ∷ groups) [] are = absurd are

  module _ (group : Partition) (part : Part) (fields : part.fields ≡ group.fields)
      (numbers : part.regions ≡ numbers_from (length old) (length found))
      (are : AreRegionsFor profile group found) (few : AreFewRegionsFor profile group found) where
    new_part : IsPartFor profile (old ++ found) group part
    new_part = record {
      fields = fields;
      within = subst (All (λ n. n < length (old ++ found))) (sym numbers)
          (below_all (length old) (length found) (length (old ++ found)) (omega (arith, length-append old found)));
      are = subst (AreRegionsFor profile group)
          (sym (ap (with_numbers (old ++ found)) numbers
          ∙ (appended old found (length found) (omega arith) ∙ take_all (length found) found (omega arith)))) are;
      few = let count = ap length numbers ∙ as_many (length old) (length found) in omega (arith, count, few);
    }

    joined : (groups : List Partition) (parts : List Part) → ArePartsFor profile (old ++ found) groups parts
        → ArePartsFor profile (old ++ found) (groups ++ group ∷ []) (parts ++ part ∷ [])
    joined [] [] are_parts = (new_part, tt)
    joined (first ∷ groups) (one ∷ parts) are_parts = (are_parts.0, joined groups parts are_parts.1)
    joined [] (one ∷ parts) are_parts = absurd are_parts
    joined (first ∷ groups) [] are_parts = absurd are_parts

    pub one_more : (groups : List Partition) (parts : List Part) → ArePartsFor profile old groups parts
        → ArePartsFor profile (old ++ found) (groups ++ group ∷ []) (parts ++ part ∷ [])
    one_more groups parts are_parts = joined groups parts (kept_parts groups parts are_parts)
