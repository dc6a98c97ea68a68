-- What relations say of the values of a parent and a child.
use Rattle.helix_values.specs.declared.cell.Cell.{Cell}
use Rattle.helix_values.specs.declared.kind.Kind.{Kind}
use Rattle.helix_values.specs.Class.{Class}
use Rattle.helix_profile.specs.Holds.{Related}
use Rattle.helix_profile.specs.Satisfaction.{Signed}
use Rattle.helix_profile.specs.Validity.{IsCompareFor, IsOffsetFor}
use Rattle.helix_profile.specs.declared.relation.Relation.{Relation}
use Rattle.helix_pairs.specs.declared.comparison.End.{End}
use Rattle.helix_pairs.specs.declared.comparison.End.TheVariants.{Left, Right}
use Rattle.helix_links.specs.declared.sided.SidedRelation.{SidedRelation}

-- the relation holds of the two values, of which the child's is that of the left end or of the right one
abbrev pub RelatedFrom : End → Relation → Cell → Cell → Type 0
RelatedFrom Left relation parent child = Related relation child parent
RelatedFrom Right relation parent child = Related relation parent child

-- the relation holds, or with minus it doesn't
abbrev pub IsMet : SidedRelation → Cell → Cell → Type 0
IsMet sided parent child = Signed sided.sign (RelatedFrom sided.child sided.relation parent child)

-- the class has the comparison, and the offset for a right field of some kind
pub record IsRelationOf (class : Class) (relation : Relation) : Type 0 where
  pub comparison : IsCompareFor class relation.compare
  pub offset : (right : Kind) × IsOffsetFor right class relation.offset
