-- The rows of a region that a literal has narrowed: those in which the literal holds too.
use Rattle.std.proofs.Common.{◌≡◌, ◌↔◌, ℕ, ◌==◌, Bool, true, false, if◌then◌else◌, inl, inr, List, [], ◌∷◌, refl, sym, subst}
use Rattle.std.proofs.lemmas.Bool.{false≢true, eq-eqb, eqb-true}
use Rattle.std.specs.List.{AllByRecursion}
use Rattle.helix_domains.specs.Domain.{PassesAtom}
use Rattle.helix_domains.specs.declared.atom.SignedAtom.{SignedAtom}
use Rattle.helix_profile.specs.Satisfaction.{cell_at, is_null, UnlessNull}
use Rattle.helix_relations.specs.Change.{HasField, with_changed, changed, without_null, with_null_alone, with_atom, with_relation}
use Rattle.helix_relations.specs.Inner.PartLaws.{Keeps}
use Rattle.helix_relations.specs.Inner.PutLaws.{keeps_without_null, keeps_null_alone}
use Rattle.helix_relations.specs.Region.{RegionField, RegionContent, FieldNumbered, IsRegionCell, StandsRelation, IsRegionRow}
use Rattle.helix_relations.specs.declared.signed.SignedRelation.{SignedRelation}
use Rattle.helix_values.specs.declared.cell.Cell.{Cell}
use Rattle.helix_options.proofs.Valid.{all-append, all-parts}

pub keeps_atom : (signed : SignedAtom) → Keeps (with_atom signed)
keeps_atom signed = record { number = λ f. refl; field = λ f. refl; no_null = λ f null. null }

-- a change that asks one thing more of the cells of a field
record Adds (change : RegionField → RegionField) (Fact : Cell → Type 0) : Type 0 where
  keeps : Keeps change
  cells : (f : RegionField) (v : Cell) → IsRegionCell (change f) v ↔ (IsRegionCell f v × Fact v)

adds_null : Adds with_null_alone (λ v. is_null v ≡ true)
adds_null = record {
  keeps = keeps_null_alone;
  cells = λ f v. (
    (λ is. (
      record {
        of_field = is.of_field;
        no_null = is.no_null;
        only_null = λ alone. is.only_null refl;
        passes = is.passes;
      },
      is.only_null refl,
    )),
    (λ both. record {
      of_field = both.0.of_field;
      no_null = both.0.no_null;
      only_null = λ alone. both.1;
      passes = both.0.passes;
    }),
  );
}

adds_value : Adds without_null (λ v. is_null v ≡ false)
adds_value = record {
  keeps = keeps_without_null;
  cells = λ f v. (
    (λ is. (
      record {
        of_field = is.of_field;
        no_null = λ forbidden. is.no_null refl;
        only_null = is.only_null;
        passes = is.passes;
      },
      is.no_null refl,
    )),
    (λ both. record {
      of_field = both.0.of_field;
      no_null = λ forbidden. both.1;
      only_null = both.0.only_null;
      passes = both.0.passes;
    }),
  );
}

adds_atom : (signed : SignedAtom) → Adds (with_atom signed) (λ v. UnlessNull v (PassesAtom signed v))
adds_atom signed = record {
  keeps = keeps_atom signed;
  cells = λ f v. (
    (λ is. let parts = all-parts (λ s. UnlessNull v (PassesAtom s v)) f.atoms (signed ∷ []) is.passes in (
      record { of_field = is.of_field; no_null = is.no_null; only_null = is.only_null; passes = parts.0 },
      parts.1.0,
    )),
    (λ both. record {
      of_field = both.0.of_field;
      no_null = both.0.no_null;
      only_null = both.0.only_null;
      passes = all-append (λ s. UnlessNull v (PassesAtom s v)) f.atoms (signed ∷ []) both.0.passes (both.1, tt);
    }),
  );
}

module _ (row : List Cell) where
  abbrev HasCell : RegionField → Type 0
  HasCell f = IsRegionCell f (cell_at row f.number)

  module _ (change : RegionField → RegionField) (Fact : Cell → Type 0) (adds : Adds change Fact) (n : ℕ) where
    was : (f : RegionField) → HasCell (change f) → HasCell f × Fact (cell_at row f.number)
    was f has = (adds.cells f (cell_at row f.number)).0
        (subst (λ k. IsRegionCell (change f) (cell_at row k)) (adds.keeps.number f) has)

    becomes : (f : RegionField) → HasCell f → Fact (cell_at row f.number) → HasCell (change f)
    becomes f has fact = subst (λ k. IsRegionCell (change f) (cell_at row k)) (sym (adds.keeps.number f))
        ((adds.cells f (cell_at row f.number)).1 (has, fact))

    before : (fs : List RegionField) → AllByRecursion HasCell (with_changed change n fs) → AllByRecursion HasCell fs
    before [] all = tt
    before (f ∷ fs) all = (by (f.number == n) all.0, before fs all.1)
      where
        by : (b : Bool) → HasCell (if b then change f else f) → HasCell f
        by true has = (was f has).0
        by false has = has

    passes : (fs : List RegionField) → FieldNumbered fs n (λ f. Unit {0})
        → AllByRecursion HasCell (with_changed change n fs) → Fact (cell_at row n)
    passes [] none all = absurd none
    passes (f ∷ fs) (inl here) all = subst (λ k. Fact (cell_at row k)) here.0
        (by (f.number == n) (eq-eqb f.number n here.0) all.0)
      where
        by : (b : Bool) → b ≡ true → HasCell (if b then change f else f) → Fact (cell_at row f.number)
        by true e has = (was f has).1
        by false e has = absurd (false≢true e)
    passes (f ∷ fs) (inr later) all = passes fs later all.1

    after : (fs : List RegionField) → Fact (cell_at row n) → AllByRecursion HasCell fs
        → AllByRecursion HasCell (with_changed change n fs)
    after [] fact all = tt
    after (f ∷ fs) fact all = (by (f.number == n) refl all.0, after fs fact all.1)
      where
        by : (b : Bool) → (f.number == n) ≡ b → HasCell f → HasCell (if b then change f else f)
        by true e has = becomes f has (subst (λ k. Fact (cell_at row k)) (sym (eqb-true f.number n e)) fact)
        by false e has = has

    changed_row : (region : RegionContent) → HasField region n
        → IsRegionRow (changed region n change) row ↔ (IsRegionRow region row × Fact (cell_at row n))
    changed_row region has = (
      (λ is. (
        record { cells = before region.fields is.cells; relations = is.relations },
        passes region.fields has is.cells,
      )),
      (λ both. record {
        cells = after region.fields both.1 both.0.cells;
        relations = both.0.relations;
      }),
    )

  pub null_row : (region : RegionContent) (n : ℕ) → HasField region n
      → IsRegionRow (changed region n with_null_alone) row
      ↔ (IsRegionRow region row × (is_null (cell_at row n) ≡ true))
  null_row region n = changed_row with_null_alone (λ v. is_null v ≡ true) adds_null n region

  pub value_row : (region : RegionContent) (n : ℕ) → HasField region n
      → IsRegionRow (changed region n without_null) row
      ↔ (IsRegionRow region row × (is_null (cell_at row n) ≡ false))
  value_row region n = changed_row without_null (λ v. is_null v ≡ false) adds_value n region

  pub atom_row : (region : RegionContent) (signed : SignedAtom) → HasField region signed.atom.field
      → IsRegionRow (changed region signed.atom.field (with_atom signed)) row
      ↔ (IsRegionRow region row × UnlessNull (cell_at row signed.atom.field)
      (PassesAtom signed (cell_at row signed.atom.field)))
  atom_row region signed = changed_row (with_atom signed) (λ v. UnlessNull v (PassesAtom signed v))
      (adds_atom signed) signed.atom.field region

  abbrev Stands : SignedRelation → Type 0
  Stands s = StandsRelation s (cell_at row s.relation.left) (cell_at row s.relation.right)

  pub relation_row : (region : RegionContent) (s : SignedRelation)
      → IsRegionRow (with_relation region s) row ↔ (IsRegionRow region row × Stands s)
  relation_row region s = (
    (λ is. let parts = all-parts Stands region.relations (s ∷ []) is.relations in
        (record { cells = is.cells; relations = parts.0 }, parts.1.0)),
    (λ both. record {
      cells = both.0.cells;
      relations = all-append Stands region.relations (s ∷ []) both.0.relations (both.1, tt);
    }),
  )
