-- A region that a literal has narrowed has the rows in which the literal holds too.
use Rattle.std.proofs.Common.{◌≡◌, ◌↔◌, ℕ, zero, suc, ◌+◌, ◌<◌, Bool, true, false, MatchBool, List, [], ◌∷◌, ◌++◌, length, take, get_or, refl, sym, ap, ◌∙◌, subst, arith}
use Rattle.std.proofs.lemmas.Bool.{false≢true}
use Rattle.std.proofs.lemmas.List.{take_more}
use Rattle.std.specs.List.{AllByRecursion}
use Rattle.helix_domains.specs.Domain.{IsAtomFor}
use Rattle.helix_profile.specs.Content.{Content}
use Rattle.helix_profile.specs.Fields.{all_relations}
use Rattle.helix_profile.specs.Forest.{IsForest}
use Rattle.helix_profile.specs.Satisfaction.{cell_at, is_null}
use Rattle.helix_relations.specs.Change.{changed, without_null, with_atom}
use Rattle.helix_relations.specs.Region.{RegionContent, IsRegionRow}
use Rattle.helix_tree.specs.Tree.{LiteralHolds}
use Rattle.helix_tree.specs.declared.literal.Literal.{Literal}
use Rattle.helix_tree.specs.declared.literal.Literal.TheVariants.{Null, NotNull, Plain, Joined}
use Rattle.helix_values.specs.declared.cell.Cell.{Cell}
use Rattle.helix_options.proofs.Changing.{numbered_weaker}
use Rattle.helix_options.proofs.Narrowing.{left_there, right_after, atom_after, literal_for, narrowed_over}
use Rattle.helix_options.proofs.NarrowedRows.{null_row, value_row, atom_row, relation_row}
use Rattle.helix_options.proofs.Valid.{all-append, all-parts}
use Rattle.helix_options.specs.Literals.{IsLiteralOf}
use Rattle.helix_options.specs.Inner.Narrowing.{narrowed, IsLiteralFor, IsRegionOf}

-- a fact of the value, where there is one
at_value : (b : Bool) (Fact : Type 0) → MatchBool b (Unit {0}) Fact → b ≡ false → MatchBool b ⊥ Fact
at_value true Fact passes value = absurd (false≢true (sym value))
at_value false Fact passes value = passes

from_value : (b : Bool) (Fact : Type 0) → MatchBool b ⊥ Fact → MatchBool b (Unit {0}) Fact × (b ≡ false)
from_value true Fact none = absurd none
from_value false Fact holds = (holds, refl)

at_both : (a b : Bool) (Fact : Type 0) → a ≡ false → b ≡ false → Fact → MatchBool a ⊥ (MatchBool b ⊥ Fact)
at_both true b Fact left right holds = absurd (false≢true (sym left))
at_both false true Fact left right holds = absurd (false≢true (sym right))
at_both false false Fact left right holds = holds

from_both : (a b : Bool) (Fact : Type 0) → MatchBool a ⊥ (MatchBool b ⊥ Fact)
    → (a ≡ false) × (b ≡ false) × Fact
from_both true b Fact none = absurd none
from_both false true Fact none = absurd none
from_both false false Fact holds = (refl, refl, holds)

module _ (profile : Content) (fields : List ℕ) where
  abbrev IsValid : Literal → Type 0
  IsValid = IsLiteralOf profile.fields fields (all_relations profile.constraints)

  narrowed_row : (region : RegionContent) (l : Literal) → IsLiteralFor region l → IsValid l → (row : List Cell)
      → IsRegionRow (narrowed region l) row ↔ (IsRegionRow region row × LiteralHolds l row)
  narrowed_row region (Null n) has valid row = null_row row region n has
  narrowed_row region (NotNull n) has valid row = value_row row region n has
  narrowed_row region (Plain atom sign false) has valid row = atom_row row region (record { atom = atom; sign = sign })
      (numbered_weaker region.fields atom.field
      (λ f. IsAtomFor f.field.kind (record { atom = atom; sign = sign })) (λ f. Unit {0}) (λ f is. tt) has)
  narrowed_row region (Plain atom sign true) has valid row =
      let here = numbered_weaker region.fields atom.field
      (λ f. IsAtomFor f.field.kind (record { atom = atom; sign = sign })) (λ f. Unit {0}) (λ f is. tt) has in
      let passed = atom_row row region (record { atom = atom; sign = sign }) here in
      let value = value_row row
      (changed region atom.field (with_atom (record { atom = atom; sign = sign }))) atom.field
      (atom_after region (changed region atom.field (with_atom (record { atom = atom; sign = sign })))
      (record { atom = atom; sign = sign }) has refl) in (
        (λ is. let last = value.0 is in let first = passed.0 last.0 in
            (first.0, at_value (is_null (cell_at row atom.field)) _ first.1 last.1)),
        (λ both. let parts = from_value (is_null (cell_at row atom.field)) _ both.1 in
            value.1 (passed.1 (both.0, parts.0), parts.1)),
      )
  narrowed_row region (Joined r sign false) relates valid row = absurd (false≢true valid.0)
  narrowed_row region (Joined r sign true) relates valid row =
      let left = value_row row region r.left (left_there region r relates) in
      let right = value_row row (changed region r.left without_null) r.right
      (right_after region (changed region r.left without_null) r relates refl) in
      let stands = relation_row row (changed (changed region r.left without_null) r.right without_null)
      (record { relation = r; sign = sign }) in (
        (λ is. let all = stands.0 is in let two = right.0 all.0 in let one = left.0 two.0 in
            (one.0, at_both (is_null (cell_at row r.left)) (is_null (cell_at row r.right)) _ one.1 two.1 all.1.stands)),
        (λ both. let parts = from_both (is_null (cell_at row r.left)) (is_null (cell_at row r.right)) _ both.1 in
            stands.1 (
              right.1 (left.1 (both.0, parts.0), parts.1),
              record { left = parts.0; right = parts.1; stands = parts.2 },
            )),
      )

  narrowed_of : IsForest (all_relations profile.constraints) → (path : List Literal) (region : RegionContent)
      → IsRegionOf profile fields path region → (l : Literal) → IsValid l
      → IsRegionOf profile fields (path ++ l ∷ []) (narrowed region l)
  narrowed_of forest path region is l valid = record {
    over = narrowed_over profile fields region is.over forest l valid;
    rows = λ row own.
        let more = narrowed_row region l (literal_for profile fields region is.over forest l valid) valid row in
        let before = is.rows row own in (
          (λ in_region. let parts = more.0 in_region in all-append (λ literal. LiteralHolds literal row) path (l ∷ [])
              (before.0 parts.0) (parts.1, tt)),
          (λ holds. let parts = all-parts (λ literal. LiteralHolds literal row) path (l ∷ []) holds in
              more.1 (before.1 parts.0, parts.1.0)),
        );
  }

  valid_at : (path : List Literal) → AllByRecursion IsValid path → (k : ℕ) (l : Literal) → k < length path
      → l ≡ get_or path k l → IsValid l
  valid_at [] all k l below is = absurd (omega (arith, below))
  valid_at (first ∷ path) all zero l below is = subst IsValid (sym is) all.0
  valid_at (first ∷ path) all (suc k) l below is = valid_at path all.1 k l (omega (arith, below)) is

  module _ (forest : IsForest (all_relations profile.constraints)) (path : List Literal)
      (all : AllByRecursion IsValid path) (k : ℕ) (l : Literal) (below : k < length path) (is : l ≡ get_or path k l)
      (region : RegionContent) (so_far : IsRegionOf profile fields (take k path) region) where
    -- the next literal of a path is one for the region of those before it,
    pub next_for : IsLiteralFor region l
    next_for = literal_for profile fields region so_far.over forest l (valid_at path all k l below is)

    -- and narrows it to the region of one literal more
    pub next_of : (next : RegionContent) → next ≡ narrowed region l
        → IsRegionOf profile fields (take (k + 1) path) next
    next_of next next_is = subst (λ p. IsRegionOf profile fields p next)
        (sym (take_more path k l below ∙ ap (λ x. take k path ++ x ∷ []) (sym is)))
        (subst (IsRegionOf profile fields (take k path ++ l ∷ [])) (sym next_is)
        (narrowed_of forest (take k path) region so_far l (valid_at path all k l below is)))
