-- How each literal of a path narrows a region over the fields of a part.
use Rattle.std.proofs.Common.{◌≡◌, ℕ, zero, suc, ◌<◌, Bool, true, false, inl, inr, Some, List, [], ◌∷◌, ◌++◌, length, get_or, slice_get, Contains, IfSome, sym, ap, ◌∙◌, subst, arith}
use Rattle.std.proofs.lemmas.List.{map-append}
use Rattle.std.specs.List.{AllByRecursion}
use Rattle.helix_domains.specs.Domain.{IsTestOfValue, IsAtomFor}
use Rattle.helix_domains.specs.declared.atom.SignedAtom.{SignedAtom}
use Rattle.helix_profile.specs.Content.{Content}
use Rattle.helix_profile.specs.Fields.{all_relations}
use Rattle.helix_profile.specs.Forest.{IsForest}
use Rattle.helix_profile.specs.Validity.{IsTestFor, IsRelationFor, FieldWith}
use Rattle.helix_profile.specs.declared.field.Field.{Field}
use Rattle.helix_profile.specs.declared.relation.Relation.{Relation}
use Rattle.helix_profile.specs.declared.test.Test.{Test}
use Rattle.helix_profile.specs.declared.test.Test.TheVariants as test
use Rattle.helix_relations.specs.Change.{HasField, changed, without_null, with_null_alone, with_atom, with_relation}
use Rattle.helix_relations.specs.GraphLaws.{fact_of}
use Rattle.helix_relations.specs.Inner.PartLaws.{Keeps, still_region}
use Rattle.helix_relations.specs.Inner.PutLaws.{keeps_without_null, keeps_null_alone, all_after}
use Rattle.helix_relations.specs.Region.{RegionField, RegionContent, numbers_of, relations_of, FieldNumbered, JoinsFields}
use Rattle.helix_relations.specs.declared.signed.SignedRelation.{SignedRelation}
use Rattle.helix_tree.specs.declared.literal.Literal.{Literal}
use Rattle.helix_tree.specs.declared.literal.Literal.TheVariants.{Null, NotNull, Plain, Joined}
use Rattle.helix_options.proofs.Changing.{numbered_weaker, same_numbers, each_still, still_there, joins_after}
use Rattle.helix_options.proofs.NarrowedRows.{keeps_atom}
use Rattle.helix_options.proofs.Relating.{forest_among}
use Rattle.helix_options.specs.Literals.{IsPlain, IsLiteralOf}
use Rattle.helix_options.specs.Inner.Narrowing.{with_atom_at, narrowed, Relates, IsLiteralFor, IsOver}

-- the ends of a relation for two fields are there, also after a change

pub left_there : (region : RegionContent) (r : Relation) → Relates region r → HasField region r.left
left_there region r relates = numbered_weaker region.fields r.left
    (λ left. FieldNumbered region.fields r.right (λ right. IsRelationFor left.field right.field r)) (λ f. Unit {0})
    (λ f is. tt) relates.ends

pub right_after : (region first : RegionContent) (r : Relation) → Relates region r
    → first ≡ changed region r.left without_null → HasField first r.right
right_after region first r relates is =
    let left = fact_of region.fields r.left
    (λ left. FieldNumbered region.fields r.right (λ right. IsRelationFor left.field right.field r)) relates.ends in
    subst (λ x. HasField x r.right) (sym is) (still_there without_null keeps_without_null r.left region.fields r.right
    (numbered_weaker region.fields r.right (λ right. IsRelationFor left.0.field right.field r) (λ f. Unit {0})
    (λ f is. tt) left.1))

pub joins_both : (region first both : RegionContent) (r : Relation) → Relates region r
    → first ≡ changed region r.left without_null → both ≡ changed first r.right without_null
    → JoinsFields both.fields r
joins_both region first both r relates first_is both_is = subst (λ x. JoinsFields x.fields r)
    (sym (both_is ∙ ap (λ x. changed x r.right without_null) first_is)) (joins_after region.fields r relates.ends)

pub atom_after : (region next : RegionContent) (signed : SignedAtom)
    → FieldNumbered region.fields signed.atom.field (λ field. IsAtomFor field.field.kind signed)
    → next ≡ changed region signed.atom.field (with_atom signed) → HasField next signed.atom.field
atom_after region next signed numbered is = subst (λ x. HasField x signed.atom.field) (sym is)
    (still_there (with_atom signed) (keeps_atom signed) signed.atom.field region.fields signed.atom.field
    (numbered_weaker region.fields signed.atom.field (λ field. IsAtomFor field.field.kind signed) (λ f. Unit {0})
    (λ f is. tt) numbered))

-- what is known of a field of the profile is known of the region's field with its number

there : (fs : List RegionField) (n k : ℕ) → k < length (numbers_of fs) → get_or (numbers_of fs) k n ≡ n
    → FieldNumbered fs n (λ f. Unit {0})
there [] n k below is = absurd (omega (arith, below))
there (f ∷ fs) n zero below is = inl (is, tt)
there (f ∷ fs) n (suc k) below is = inr (there fs n k (omega (arith, below)) is)

module _ (profile : Content) where
  abbrev Known : RegionField → Type 0
  Known f = slice_get profile.fields f.number ≡ Some f.field

  known_at : (fs : List RegionField) (n : ℕ) (P : Field → Type 0) → AllByRecursion Known fs → (k : ℕ)
      → k < length (numbers_of fs) → get_or (numbers_of fs) k n ≡ n → IfSome (slice_get profile.fields n) P
      → FieldNumbered fs n (λ f. P f.field)
  known_at [] n P all k below is some = absurd (omega (arith, below))
  known_at (f ∷ fs) n P all zero below is some =
      inl (is, subst (λ o. IfSome o P) (subst (λ m. slice_get profile.fields m ≡ Some f.field) is all.0) some)
  known_at (f ∷ fs) n P all (suc k) below is some =
      inr (known_at fs n P all.1 k (omega (arith, below)) is some)

  module _ (fields : List ℕ) (region : RegionContent) (over : IsOver profile fields region) where
    among : (n : ℕ) → Contains fields n → HasField region n
    among n contains = let own = subst (λ ns. Contains ns n) (sym over.numbers) contains in
        there region.fields n own.0 own.1 own.2

    among_with : (n : ℕ) (P : Field → Type 0) → Contains fields n → FieldWith profile.fields n P
        → FieldNumbered region.fields n (λ f. P f.field)
    among_with n P contains with_fact = let own = subst (λ ns. Contains ns n) (sym over.numbers) contains in
        known_at region.fields n P over.known own.0 own.1 own.2 with_fact.1

    by_value : (t : Test) → IsPlain t → IsTestOfValue t
    by_value (test.IsNull wanted) none = none
    by_value t plain = tt

    still_listed : (rs : List SignedRelation)
        → AllByRecursion (λ s. Contains (all_relations profile.constraints) s.relation) rs
        → AllByRecursion (Contains (all_relations profile.constraints)) (relations_of rs)
    still_listed [] all = tt
    still_listed (s ∷ rs) all = (all.0, still_listed rs all.1)

    module _ (forest : IsForest (all_relations profile.constraints)) where
      one_more : (r : Relation) → Contains (all_relations profile.constraints) r
          → IsForest (relations_of region.relations ++ r ∷ [])
      one_more r listed = subst IsForest
          (map-append (λ s. s.relation) region.relations (record { relation = r; sign = true } ∷ []))
          (forest_among (all_relations profile.constraints)
          (relations_of (region.relations ++ record { relation = r; sign = true } ∷ [])) forest
          (still_listed (region.relations ++ record { relation = r; sign = true } ∷ [])
          (all_after (λ s. Contains (all_relations profile.constraints) s.relation) region.relations
          (record { relation = r; sign = true }) over.listed listed)))

      -- so a valid literal of the part is one for fields of the region
      pub literal_for : (l : Literal) → IsLiteralOf profile.fields fields (all_relations profile.constraints) l
          → IsLiteralFor region l
      literal_for (Null field) is = among field is
      literal_for (NotNull field) is = among field is
      literal_for (Plain atom sign strict) is = numbered_weaker region.fields atom.field
          (λ f. IsTestFor f.field.kind atom.test)
          (λ f. IsAtomFor f.field.kind (record { atom = atom; sign = sign }))
          (λ f for_kind. record { of_value = by_value atom.test is.plain; for_kind = for_kind })
          (among_with atom.field (λ field. IsTestFor field.kind atom.test) is.own is.valid)
      literal_for (Joined r sign strict) is = record {
        ends = numbered_weaker region.fields r.left
            (λ left. FieldWith profile.fields r.right (λ right. IsRelationFor left.field right r))
            (λ left. FieldNumbered region.fields r.right (λ right. IsRelationFor left.field right.field r))
            (λ left right. among_with r.right (λ other. IsRelationFor left.field other r) is.1.own_right right)
            (among_with r.left (λ left. FieldWith profile.fields r.right (λ right. IsRelationFor left right r))
            is.1.own_left is.1.valid);
        forest = one_more r is.1.listed;
      }

  changed_over : (fields : List ℕ) (region : RegionContent) (change : RegionField → RegionField) → Keeps change
      → (n : ℕ) → IsOver profile fields region → IsOver profile fields (changed region n change)
  changed_over fields region change keeps n over = record {
    is_region = still_region change keeps n region over.is_region;
    numbers = same_numbers change keeps n region.fields ∙ over.numbers;
    known = each_still change keeps n Known
        (λ f is. ap (λ k. slice_get profile.fields k) (keeps.number f) ∙ (is ∙ sym (ap Some (keeps.field f))))
        region.fields over.known;
    listed = over.listed;
  }

  related_over : (fields : List ℕ) (region : RegionContent) (s : SignedRelation) → IsOver profile fields region
      → JoinsFields region.fields s.relation → IsForest (relations_of region.relations ++ s.relation ∷ [])
      → Contains (all_relations profile.constraints) s.relation → IsOver profile fields (with_relation region s)
  related_over fields region s over joins forest listed = record {
    is_region = record {
      ascending = over.is_region.ascending;
      ends = all_after (λ t. JoinsFields region.fields t.relation) region.relations s over.is_region.ends joins;
      forest = subst IsForest (sym (map-append (λ t. t.relation) region.relations (s ∷ []))) forest;
    };
    numbers = over.numbers;
    known = over.known;
    listed = all_after (λ t. Contains (all_relations profile.constraints) t.relation) region.relations s over.listed
        listed;
  }

  atom_over : (fields : List ℕ) (region : RegionContent) (signed : SignedAtom) (strict : Bool)
      → IsOver profile fields region → IsOver profile fields (with_atom_at region signed strict)
  atom_over fields region signed false over =
      changed_over fields region (with_atom signed) (keeps_atom signed) signed.atom.field over
  atom_over fields region signed true over =
      changed_over fields (changed region signed.atom.field (with_atom signed)) without_null keeps_without_null
      signed.atom.field (changed_over fields region (with_atom signed) (keeps_atom signed) signed.atom.field over)

  -- and with the literal it is a region over the same fields
  pub narrowed_over : (fields : List ℕ) (region : RegionContent) (over : IsOver profile fields region)
      → IsForest (all_relations profile.constraints) → (l : Literal)
      → IsLiteralOf profile.fields fields (all_relations profile.constraints) l
      → IsOver profile fields (narrowed region l)
  narrowed_over fields region over forest (Null n) is =
      changed_over fields region with_null_alone keeps_null_alone n over
  narrowed_over fields region over forest (NotNull n) is =
      changed_over fields region without_null keeps_without_null n over
  narrowed_over fields region over forest (Plain atom sign strict) is =
      atom_over fields region (record { atom = atom; sign = sign }) strict over
  narrowed_over fields region over forest (Joined r sign strict) is =
      let relates : Relates region r = literal_for fields region over forest (Joined r sign strict) is in
      related_over fields (changed (changed region r.left without_null) r.right without_null)
      (record { relation = r; sign = sign })
      (changed_over fields (changed region r.left without_null) without_null keeps_without_null r.right
      (changed_over fields region without_null keeps_without_null r.left over))
      (joins_after region.fields r relates.ends) relates.forest is.1.listed
