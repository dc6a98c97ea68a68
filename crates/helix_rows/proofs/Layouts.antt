-- The levels of the fields of parts.
use Rattle.std.proofs.Common.{◌≡◌, ℕ, ◌+◌, ◌<◌, List, [], ◌∷◌, ◌++◌, take, length, slice_index_or, refl, sym, ◌∙◌, ap, subst, arith}
use Rattle.std.proofs.lemmas.List.Elements.{Contains-get_or}
use Rattle.std.proofs.lemmas.List.{get_or-take, get_or_default, length-take-le, get_or_append_left, get_or_push}
use Rattle.std.specs.List.{Any, Contains}
use Rattle.helix_rows.proofs.Rising.{place}
use Rattle.helix_rows.specs.Inner.Levels.{part_at, level_of, IsLayout, IsLevel}
use Rattle.helix_rows.specs.Parts.{ArePartsOf}
use Rattle.helix_rows.specs.Regions.{number_at}
use Rattle.helix_rows.specs.declared.layout.Layout.{Layout}
use Rattle.helix_rows.specs.declared.layout.Level.{Level}
use Rattle.helix_rows.specs.declared.part.Part.{Part}

-- none of the first ones and the next one
pub any_more : (P : Part → Type 0) (parts : List Part) (n : ℕ) (d : Part) → n < length parts → ¬ (Any P (take n parts))
    → ¬ (P (slice_index_or parts n d)) → ¬ (Any P (take (n + 1) parts))
any_more P parts n d inside none not (k, part, less, is, holds) =
    let short : k < n + 1 = omega (arith, less, length-take-le (n + 1) parts (omega (arith, inside))) in
    let at : slice_index_or parts k part ≡ part = sym (get_or-take (n + 1) parts k part short) ∙ is in
    place k n
    (λ before. none (
      k,
      part,
      omega (arith, before, length-take-le n parts (omega (arith, inside))),
      get_or-take n parts k part before ∙ at,
      holds,
    ))
    (λ e. not (subst P (get_or_default parts n part d inside)
    (subst P (sym (ap (λ i. slice_index_or parts i part) (sym e) ∙ at)) holds)))
    (λ after. omega (arith, after, short))

-- one more level
pub levels_more : (parts : List Part) (levels : List Level) (count : ℕ) (level : Level) → length levels ≡ count
    → ((field : ℕ) → field < count → IsLevel parts field (slice_index_or levels field
    (record { part = 0; position = 0 })))
    → IsLevel parts count level → (field : ℕ) → field < count + 1
    → IsLevel parts field (slice_index_or (levels ++ level ∷ []) field (record { part = 0; position = 0 }))
levels_more parts levels count level long are is field less =
    place field count
    (λ before. subst (IsLevel parts field)
    (sym (get_or_append_left levels (level ∷ []) (record { part = 0; position = 0 }) field
    (omega (arith, before, long))))
    (are field before))
    (λ e. subst (IsLevel parts field)
    (sym (get_or_push levels level (record { part = 0; position = 0 }) field (long ∙ sym e)))
    (subst (λ f. IsLevel parts f level) (sym e) is))
    (λ after. absurd (omega (arith, after, less)))

module _ (layout : Layout) (fields : ℕ) (parts : ArePartsOf fields layout.parts)
    (levels : (field : ℕ) → field < fields → IsLevel layout.parts field (level_of layout field)) where
  within : (p i : ℕ) → p < length layout.parts → i < length (part_at layout.parts p).fields
      → number_at (part_at layout.parts p).fields i < fields
  within p i inside inner = parts.within p _ inside i 0 inner

  rising : (p i k : ℕ) → p < length layout.parts → i < k → k < length (part_at layout.parts p).fields
      → number_at (part_at layout.parts p).fields i < number_at (part_at layout.parts p).fields k
  rising p i k inside less inner = parts.ascending p _ inside i k 0 less inner

  module _ (p i : ℕ) (inside : p < length layout.parts) (inner : i < length (part_at layout.parts p).fields) where
    here : IsLevel layout.parts (number_at (part_at layout.parts p).fields i)
        (level_of layout (number_at (part_at layout.parts p).fields i))
    here = levels (number_at (part_at layout.parts p).fields i) (parts.within p _ inside i 0 inner)

    contained : Contains (part_at layout.parts p).fields (number_at (part_at layout.parts p).fields i)
    contained = Contains-get_or (part_at layout.parts p).fields i 0 inner

    there : Contains (part_at layout.parts (level_of layout (number_at (part_at layout.parts p).fields i)).part).fields
        (number_at (part_at layout.parts p).fields i)
    unfolding here
    there = subst (λ f. Contains (part_at layout.parts (level_of layout
        (number_at (part_at layout.parts p).fields i)).part).fields f)
        here.is (Contains-get_or _ (level_of layout (number_at (part_at layout.parts p).fields i)).position 0
        here.position)

    same_part : (level_of layout (number_at (part_at layout.parts p).fields i)).part ≡ p
    unfolding here contained there
    same_part = place (level_of layout (number_at (part_at layout.parts p).fields i)).part p
        (λ less. absurd (parts.disjoint _ p _ less inside _ there contained))
        (λ e. e)
        (λ more. absurd (parts.disjoint p _ _ more here.part _ contained there))

    position_by : (at : Level) → at.part ≡ p → IsLevel layout.parts (number_at (part_at layout.parts p).fields i) at
        → at.position ≡ i
    unfolding rising
    position_by at same is =
        let inner_at : at.position < length (part_at layout.parts p).fields =
        subst (λ q. at.position < length (part_at layout.parts q).fields) same is.position in
        let field_at : number_at (part_at layout.parts p).fields at.position ≡ number_at
        (part_at layout.parts p).fields i =
        subst (λ q. number_at (part_at layout.parts q).fields at.position ≡ number_at (part_at layout.parts p).fields i)
        same is.is in
        place at.position i
        (λ less. absurd (omega (arith, field_at, rising p at.position i inside less inner)))
        (λ e. e)
        (λ more. absurd (omega (arith, field_at, rising p i at.position inside more inner_at)))

    level_by : (at : Level) → at.part ≡ p → at.position ≡ i → at ≡ record { part = p; position = i }
    level_by at part position =
        subst (λ q. at ≡ record { part = q; position = i }) part
        (subst (λ k. at ≡ record { part = at.part; position = k }) position refl)

    back : level_of layout (number_at (part_at layout.parts p).fields i) ≡ record { part = p; position = i }
    unfolding here same_part position_by level_by
    back = level_by _ same_part (position_by _ same_part here)

  pub layout_is : length layout.levels ≡ fields → IsLayout layout fields
  unfolding within rising back
  layout_is count = record {
    count = count;
    levels = levels;
    within = within;
    back = λ p i inside inner. back p i inside inner;
    rising = rising;
  }
