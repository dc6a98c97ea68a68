-- The parts and regions of the tests.
use Rattle.std.proofs.Common.{◌≡◌, ◌⊎◌, inl, inr, ℕ, ℤ, zero, suc, ◌<◌, List, [], ◌∷◌, ◌++◌, length, slice_index_or, Option, refl, sym, ◌∙◌, ap, subst, arith}
use Rattle.std.proofs.lemmas.List.Elements.{All-cons, All-nil}
use Rattle.std.proofs.lemmas.List.Kept.{AllPairs-cons}
use Rattle.std.specs.List.{All, AllPairs, Any, Contains}
use Rattle.helix_rows.specs.Inner.Listing.{cells_of, AreFour, IsListed, IsSecond}
use Rattle.helix_rows.specs.Parts.{ArePartsOf, AreRegionsOf, HasAt, HasClasses, IsRegionOver}
use Rattle.helix_rows.specs.declared.part.Part.{Part}
use Rattle.helix_values.specs.Class.{Class, numbers}
use Rattle.helix_values.specs.declared.cell.Cell.{Cell}

all_two : {X : Type 0} (P : X → Type 0) (a b : X) → P a → P b → All P (a ∷ b ∷ [])
all_two P a b is also = All-cons P a (b ∷ []) is (All-cons P b [] also (All-nil P))

pairs_two : {X : Type 0} (R : X → X → Type 0) (a b : X) → R a b → AllPairs R (a ∷ b ∷ [])
pairs_two R a b is = AllPairs-cons R a (b ∷ []) (All-cons (R a) b [] is (All-nil (R a)))
    (AllPairs-cons R b [] (All-nil (R b)) (λ i j d less within. absurd (omega (arith, within))))

contains_two : (a b x : ℕ) → Contains (a ∷ b ∷ []) x → (a ≡ x) ⊎ (b ≡ x)
contains_two a b x (zero, within, is) = inl is
contains_two a b x (suc zero, within, is) = inr is
contains_two a b x (suc (suc k), within, is) = absurd (omega (arith, within))

part_with : ℕ → ℕ → List ℕ → Part
part_with a b regions = record { fields = a ∷ b ∷ []; regions = regions }

-- fields 0 and 2, and 1 and 3, are all four
pub parts_four : (first second : List ℕ) → ArePartsOf 4 (record { fields = 0 ∷ 2 ∷ []; regions = first }
    ∷ record { fields = 1 ∷ 3 ∷ []; regions = second } ∷ [])
unfolding part_with
parts_four first second = record {
  ascending = all_two (λ part. AllPairs (λ a b. a < b) part.fields) (part_with 0 2 first) (part_with 1 3 second)
      (pairs_two (λ a b. a < b) 0 2 (omega arith)) (pairs_two (λ a b. a < b) 1 3 (omega arith));
  within = all_two (λ part. All (λ field. field < 4) part.fields) (part_with 0 2 first) (part_with 1 3 second)
      (all_two (λ field. field < 4) 0 2 (omega arith) (omega arith))
      (all_two (λ field. field < 4) 1 3 (omega arith) (omega arith));
  disjoint = pairs_two (λ a b. (field : ℕ) → Contains a.fields field → ¬ (Contains b.fields field))
      (part_with 0 2 first)
      (part_with 1 3 second) (λ field in_first in_second. apart field (contains_two 0 2 field in_first)
      (contains_two 1 3 field in_second));
  covered = covers;
}
  where
    apart : (field : ℕ) → (0 ≡ field) ⊎ (2 ≡ field) → (1 ≡ field) ⊎ (3 ≡ field) → ⊥
    apart field (inl e) (inl f) = omega (arith, e, f)
    apart field (inl e) (inr f) = omega (arith, e, f)
    apart field (inr e) (inl f) = omega (arith, e, f)
    apart field (inr e) (inr f) = omega (arith, e, f)

    covers : (field : ℕ) → field < 4 → Any (λ part. Contains part.fields field)
        (part_with 0 2 first ∷ part_with 1 3 second ∷ [])
    covers zero less = (0, part_with 0 2 first, omega arith, refl, (0, omega arith, refl))
    covers (suc zero) less = (1, part_with 1 3 second, omega arith, refl, (0, omega arith, refl))
    covers (suc (suc zero)) less = (0, part_with 0 2 first, omega arith, refl, (1, omega arith, refl))
    covers (suc (suc (suc zero))) less = (1, part_with 1 3 second, omega arith, refl, (1, omega arith, refl))
    covers (suc (suc (suc (suc k)))) less = absurd (omega (arith, less))

module _ {R : Type 0} (F : R → List ℕ) (Has : R → List Cell → Type 0) where
  over_at : (regions : List R) (wanted : List ℕ) (n : ℕ) (r : R) → n < length regions
      → ((d : R) → slice_index_or regions n d ≡ r) → F r ≡ wanted → IsRegionOver F regions wanted n
  over_at regions wanted n r within is over = record { within = within; over = λ d. ap F (is d) ∙ over }

  row_at : (regions : List R) (n : ℕ) (r : R) → n < length regions → ((d : R) → slice_index_or regions n d ≡ r)
      → (cells : List Cell) × Has r cells → (cells : List Cell) × HasAt Has regions n cells
  row_at regions n r within is (cells, has) =
      (cells, record { within = within; has = λ d. subst (λ q. Has q cells) (sym (is d)) has })

  pub regions_four : (regions : List R) → AreFour F Has regions
      → (second : List ℕ) → IsSecond second
      → AreRegionsOf F (λ r. numbers ∷ numbers ∷ []) Has regions (record { fields = 0 ∷ 2 ∷ []; regions = 0 ∷ 1 ∷ [] }
      ∷ record { fields = 1 ∷ 3 ∷ []; regions = second } ∷ [])
  unfolding part_with
  regions_four regions four second is =
      let long : 4 ≡ length regions = sym (ap length four.are) in
      let at : (n : ℕ) (d : R) → slice_index_or regions n d
      ≡ slice_index_or (four.first ∷ four.second ∷ four.third ∷ four.fourth ∷ []) n d =
      λ n d. ap (λ l. slice_index_or l n d) four.are in
      let over_third = over_at regions (1 ∷ 3 ∷ []) 2 four.third (omega (arith, long)) (λ d. at 2 d)
      four.fields_third in
      let over_fourth = over_at regions (1 ∷ 3 ∷ []) 3 four.fourth (omega (arith, long)) (λ d. at 3 d)
      four.fields_fourth in
      let row_third = row_at regions 2 four.third (omega (arith, long)) (λ d. at 2 d) four.row_third in
      let row_fourth = row_at regions 3 four.fourth (omega (arith, long)) (λ d. at 3 d) four.row_fourth in
      record {
        over = all_two (λ part. All (IsRegionOver F regions part.fields) part.regions) (part_with 0 2 (0 ∷ 1 ∷ []))
            (part_with 1 3 second)
            (all_two (IsRegionOver F regions (0 ∷ 2 ∷ [])) 0 1
            (over_at regions (0 ∷ 2 ∷ []) 0 four.first (omega (arith, long)) (λ d. at 0 d) four.fields_first)
            (over_at regions (0 ∷ 2 ∷ []) 1 four.second (omega (arith, long)) (λ d. at 1 d) four.fields_second))
            (in_second second is (IsRegionOver F regions (1 ∷ 3 ∷ [])) over_third over_fourth);
        rows = all_two (λ part. All (λ number. (cells : List Cell) × HasAt Has regions number cells) part.regions)
            (part_with 0 2 (0 ∷ 1 ∷ [])) (part_with 1 3 second)
            (all_two (λ number. (cells : List Cell) × HasAt Has regions number cells) 0 1
            (row_at regions 0 four.first (omega (arith, long)) (λ d. at 0 d) four.row_first)
            (row_at regions 1 four.second (omega (arith, long)) (λ d. at 1 d) four.row_second))
            (in_second second is (λ number. (cells : List Cell) × HasAt Has regions number cells) row_third row_fourth);
        classes = all_two (λ part. (classes : List Class)
            × All (HasClasses (λ r. numbers ∷ numbers ∷ []) regions classes) part.regions)
            (part_with 0 2 (0 ∷ 1 ∷ [])) (part_with 1 3 second)
            (numbers ∷ numbers ∷ [], λ k d inside. record { are = λ d. refl })
            (numbers ∷ numbers ∷ [], λ k d inside. record { are = λ d. refl });
      }
    where
      in_second : (ns : List ℕ) → IsSecond ns → (P : ℕ → Type 0) → P 2 → P 3 → All P ns
      in_second ns (inl e) P two three = subst (All P) (sym e) (All-nil P)
      in_second ns (inr e) P two three = subst (All P) (sym e) (all_two P 2 3 two three)

pub some_row : (pairs : List (Option ℤ × Option ℤ)) → ¬ (pairs ≡ []) → (cells : List Cell) × IsListed pairs cells
some_row [] not = absurd (not refl)
some_row (pair ∷ pairs) not =
    (cells_of pair, record { pair = pair; listed = (0, omega arith, refl); are = refl })

-- the list of two parts that are pushed
pub parts_are : (none one two : List Part) (p q : Part) (first second : List ℕ) → none ≡ [] → one ≡ none ++ p ∷ []
    → two ≡ one ++ q ∷ [] → p ≡ record { fields = 0 ∷ 2 ∷ []; regions = first }
    → q ≡ record { fields = 1 ∷ 3 ∷ []; regions = second }
    → two ≡ record { fields = 0 ∷ 2 ∷ []; regions = first } ∷ record { fields = 1 ∷ 3 ∷ []; regions = second } ∷ []
parts_are none one two p q first second empty is_one is_two is_p is_q =
    is_two ∙ (ap (λ l. l ++ q ∷ []) (is_one ∙ ap (λ l. l ++ p ∷ []) empty)
    ∙ (ap (λ r. r ∷ q ∷ []) is_p ∙ ap (λ r. record { fields = 0 ∷ 2 ∷ []; regions = first } ∷ r ∷ []) is_q))
