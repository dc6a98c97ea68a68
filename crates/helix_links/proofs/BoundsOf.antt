-- The bounds of relations say what the relations say.
use Rattle.std.proofs.Common.{◌≡◌, ◌↔◌, ℕ, ◌+◌, ◌<◌, ◌≤◌, ℤ, List, ◌∷◌, [], ◌++◌, length, get_or, take, refl, sym, subst, arith}
use Rattle.std.specs.List.{All}
use Rattle.std.proofs.lemmas.List.{get_or_default, take_all}
use Rattle.helix_ladders.specs.declared.offset.Offset.{Offset}
use Rattle.helix_ladders.specs.declared.offset.Offset.TheVariants.{Plain, Months, Years, WorkingDays}
use Rattle.helix_ladders.specs.declared.rising.Shift.{Ghosts}
use Rattle.helix_values.specs.declared.cell.Cell.{Cell}
use Rattle.helix_values.specs.declared.cell.Cell.TheVariants as cell
use Rattle.helix_values.specs.declared.kind.Kind.{Kind}
use Rattle.helix_values.specs.Class.{numbers}
use Rattle.helix_profile.specs.Satisfaction.{Signed}
use Rattle.helix_profile.specs.Validity.{IsOffsetFor}
use Rattle.helix_profile.specs.declared.relation.Relation.{Relation}
use Rattle.helix_pairs.specs.Ends.{EndsRelated, IsByUnits}
use Rattle.helix_pairs.specs.OffsetShift.{applied_by}
use Rattle.helix_pairs.specs.Related.{AreRelated}
use Rattle.helix_pairs.specs.declared.bound.Bound.{Bound}
use Rattle.helix_pairs.specs.declared.comparison.End.{End}
use Rattle.helix_pairs.specs.declared.comparison.End.TheVariants.{Left, Right}
use Rattle.helix_pairs.specs.declared.offset_shift.OffsetShift.{OffsetShift}
use Rattle.helix_links.specs.declared.quantity.Quantity.{Quantity}
use Rattle.helix_links.specs.declared.quantity.Quantity.TheVariants.{Numbers, Moments}
use Rattle.helix_links.specs.declared.sided.SidedRelation.{SidedRelation}
use Rattle.helix_links.specs.Quantities.{class_of_quantity, cell_in}
use Rattle.helix_links.specs.Relations.{RelatedFrom, IsMet, IsRelationOf}
use Rattle.helix_links.proofs.Walks.{all_push, all_more, all_none}

-- the offset of a number is by units
is_by_units : (right : Kind) (offset : Offset) → IsOffsetFor right numbers offset → IsByUnits offset
is_by_units right (Plain units) in_range = tt
is_by_units right (Months count) in_range = absurd in_range
is_by_units right (Years count) in_range = absurd in_range
is_by_units right (WorkingDays count) in_range = absurd in_range

ends_same : (side : End) (relation : Relation) (shown : ℤ → Cell) (p v : ℤ)
    → EndsRelated relation side shown p v ≡ RelatedFrom side relation (shown p) (shown v)
ends_same Left relation shown p v = refl
ends_same Right relation shown p v = refl

-- a bound holds where its relation, with its sign, does
pub bound_met : {G : Ghosts OffsetShift} (q : Quantity) (sided : SidedRelation) (b : Bound OffsetShift G) (right : Kind)
    → IsOffsetFor right (class_of_quantity q) sided.relation.offset
    → ((p v : ℤ) → AreRelated b.comparison b.child (applied_by b.shift) p v
    ↔ Signed sided.sign (EndsRelated sided.relation sided.child cell.Moment p v))
    → (IsByUnits sided.relation.offset → (p v : ℤ) → AreRelated b.comparison b.child (applied_by b.shift) p v
    ↔ Signed sided.sign (EndsRelated sided.relation sided.child cell.Number p v)) → (p v : ℤ)
    → AreRelated b.comparison b.child (applied_by b.shift) p v ↔ IsMet sided (cell_in q p) (cell_in q v)
bound_met Moments sided b right in_range of_moments of_numbers p v =
    subst (λ Fact. AreRelated b.comparison b.child (applied_by b.shift) p v ↔ Signed sided.sign Fact)
    (ends_same sided.child sided.relation cell.Moment p v) (of_moments p v)
bound_met Numbers sided b right in_range of_moments of_numbers p v =
    subst (λ Fact. AreRelated b.comparison b.child (applied_by b.shift) p v ↔ Signed sided.sign Fact)
    (ends_same sided.child sided.relation cell.Number p v)
    (of_numbers (is_by_units right sided.relation.offset in_range) p v)

-- the bounds of all relations
module _ {G : Ghosts OffsetShift} (q : Quantity) (relations : List SidedRelation) where
  -- those of the first relations
  abbrev pub AreMet : ℕ → List (Bound OffsetShift G) → Type 0
  AreMet count bounds = (p v : ℤ) → All (λ b. AreRelated b.comparison b.child (applied_by b.shift) p v) bounds
      ↔ All (λ sided. IsMet sided (cell_in q p) (cell_in q v)) (take count relations)

  pub met_more : (i : ℕ) (sided : SidedRelation) → i < length relations → sided ≡ get_or relations i sided
      → (old new : List (Bound OffsetShift G)) (b : Bound OffsetShift G) → new ≡ old ++ b ∷ [] → AreMet i old
      → ((p v : ℤ) → AreRelated b.comparison b.child (applied_by b.shift) p v
      ↔ IsMet sided (cell_in q p) (cell_in q v)) → AreMet (i + 1) new
  met_more i sided within is old new b pushed so_far exact p v =
      let olds = all_push (λ b. AreRelated b.comparison b.child (applied_by b.shift) p v) old b in
      let news = all_more (λ sided. IsMet sided (cell_in q p) (cell_in q v)) relations i sided within is in
      subst (λ all. All (λ b. AreRelated b.comparison b.child (applied_by b.shift) p v) all
      ↔ All (λ sided. IsMet sided (cell_in q p) (cell_in q v)) (take (i + 1) relations)) (sym pushed) (
        (λ all. let parts = olds.0 all in news.1 ((so_far p v).0 parts.0, (exact p v).0 parts.1)),
        (λ all. let parts = news.0 all in olds.1 ((so_far p v).1 parts.0, (exact p v).1 parts.1)),
      )

  pub none_met : (bounds : List (Bound OffsetShift G)) → bounds ≡ [] → AreMet 0 bounds
  none_met bounds is p v = (
    (λ all. all_none (λ sided. IsMet sided (cell_in q p) (cell_in q v)) relations),
    (λ all. subst (λ xs. All (λ b. AreRelated b.comparison b.child (applied_by b.shift) p v) xs) (sym is)
        (λ k d within. absurd (omega (arith, within)))),
  )

  pub met_next : (i : ℕ) (d : SidedRelation) → i < length relations
      → (IsRelationOf (class_of_quantity q) (get_or relations i d).relation)
      → (old new : List (Bound OffsetShift G)) (b : Bound OffsetShift G) → new ≡ old ++ b ∷ [] → AreMet i old
      → ((p v : ℤ) → AreRelated b.comparison b.child (applied_by b.shift) p v
      ↔ Signed (get_or relations i d).sign (EndsRelated (get_or relations i d).relation (get_or relations i d).child
      cell.Moment p v))
      → (IsByUnits (get_or relations i d).relation.offset
      → (p v : ℤ) → AreRelated b.comparison b.child (applied_by b.shift) p v
      ↔ Signed (get_or relations i d).sign (EndsRelated (get_or relations i d).relation (get_or relations i d).child
      cell.Number p v))
      → AreMet (i + 1) new
  met_next i d within valid old new b pushed so_far of_moments of_numbers =
      met_more i (get_or relations i d) within (get_or_default relations i d (get_or relations i d) within) old new b
      pushed so_far (bound_met q (get_or relations i d) b valid.offset.0 valid.offset.1 of_moments of_numbers)

  pub met_all : (count : ℕ) (bounds : List (Bound OffsetShift G)) → length relations ≤ count → AreMet count bounds
      → (p v : ℤ) → All (λ b. AreRelated b.comparison b.child (applied_by b.shift) p v) bounds
      ↔ All (λ sided. IsMet sided (cell_in q p) (cell_in q v)) relations
  met_all count bounds whole met p v =
      subst (λ all. All (λ b. AreRelated b.comparison b.child (applied_by b.shift) p v) bounds
      ↔ All (λ sided. IsMet sided (cell_in q p) (cell_in q v)) all) (take_all count relations whole) (met p v)
