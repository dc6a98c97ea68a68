-- A part in the place of another one, and what a region is with it. Lemmas.
use Rattle.std.proofs.Common.{◌≡◌, ℕ, zero, suc, ◌+◌, ◌<◌, inl, inr, List, [], ◌∷◌, ◌++◌, take, length, slice_index, get_or, set, All, Some, slice_get, false, Ok, Err, Result, OnOk, OnErr, refl, sym, ap, ◌∙◌, subst, arith, append_assoc, append-nil}
use Rattle.std.proofs.lemmas.List.{map-append, take_more}
use Rattle.std.specs.List.{AllByRecursion}
use Rattle.std.specs.List.Sorted.{IsStrictlyIncreasing}
use Rattle.helix_base.specs.declared.memory.Memory.{Memory}
use Rattle.helix_profile.specs.Forest.{IsForest}
use Rattle.helix_profile.specs.declared.field.Field.{Field}
use Rattle.helix_domains.specs.Domain.{Restricted}
use Rattle.helix_domains.specs.declared.atom.SignedAtom.{SignedAtom}
use Rattle.helix_relations.specs.declared.signed.SignedRelation.{SignedRelation}
use Rattle.helix_relations.specs.Region.{RegionField, RegionContent, numbers_of, relations_of, FieldNumbered, JoinsFields, IsRegion}
use Rattle.helix_relations.specs.Change.{opened_field, opened_fields, with_changed, changed, without_null, with_null_alone, with_domain, with_atom}
use Rattle.helix_relations.specs.Inner.Parts.{PartNode, field_of, fields_of, content_of, IsIndexOf}
use Rattle.helix_relations.specs.Inner.PartLaws.{Keeps, still_region, part_changed, numbers_once}

pub keeps_without_null : Keeps without_null
keeps_without_null = record { number = λ f. refl; field = λ f. refl; no_null = λ f null. refl }

pub keeps_null_alone : Keeps with_null_alone
keeps_null_alone = record { number = λ f. refl; field = λ f. refl; no_null = λ f null. null }

pub keeps_domain : (domain : Restricted) → Keeps (with_domain domain)
keeps_domain domain = record { number = λ f. refl; field = λ f. refl; no_null = λ f null. null }

-- the part q at index k, which is that of the number, is replaced by p
module _ (parts slice : List PartNode) (relations : List SignedRelation) (asked number k : ℕ) (p q : PartNode)
    (region : IsRegion (content_of parts relations asked)) (same : slice ≡ parts) (index : IsIndexOf slice number k)
    (is : q ≡ get_or parts k q) where
  own_index : IsIndexOf parts number k
  own_index = subst (λ s. IsIndexOf s number k) same index

  put_fields : (change : RegionField → RegionField) → field_of p ≡ change (field_of q)
      → fields_of (set parts k p) ≡ with_changed change number (fields_of parts)
  put_fields change e = part_changed change number parts k p q own_index region.ascending
      (e ∙ ap (λ x. change (field_of x)) is)

  pub put_region : (change : RegionField → RegionField) → Keeps change → field_of p ≡ change (field_of q)
      → IsRegion (content_of (set parts k p) relations asked)
  put_region change keeps e =
      subst (λ fs. IsRegion (record { fields = fs; relations = relations; asked = asked })) (sym (put_fields change e))
      (still_region change keeps number (content_of parts relations asked) region)

  pub put_content : (change : RegionField → RegionField) → field_of p ≡ change (field_of q) → (now : RegionContent)
      → content_of parts relations asked ≡ now
      → content_of (set parts k p) relations asked ≡ changed now number change
  put_content change e now view_is =
      ap (λ fs. let new : RegionContent = record { fields = fs; relations = relations; asked = asked } in new)
      (put_fields change e)
      ∙ ap (λ r. changed r number change) view_is

  -- what is known of the field of the number is known of q
  number_found : (fs : List RegionField) (n : ℕ) (Fact : RegionField → Type 0) → FieldNumbered fs n Fact
      → (j : ℕ) × (j < length (numbers_of fs)) × (slice_index (numbers_of fs) j ≡ n)
  number_found [] n Fact none = absurd none
  number_found (f ∷ fs) n Fact (inl here) = (0, omega arith, here.0)
  number_found (f ∷ fs) n Fact (inr later) = let found = number_found fs n Fact later in
      (suc found.0, omega (arith, found.1), found.2)

  found_at : (Fact : RegionField → Type 0) (ps : List PartNode) (i : ℕ) (d : PartNode) → i < length ps
      → slice_index (numbers_of (fields_of ps)) i ≡ number
      → ((j : ℕ) → j < length (numbers_of (fields_of ps)) → slice_index (numbers_of (fields_of ps)) j ≡ number → j ≡ i)
      → FieldNumbered (fields_of ps) number Fact → Fact (field_of (get_or ps i d))
  found_at Fact [] i d below at only numbered = absurd numbered
  found_at Fact (x ∷ ps) zero d below at only (inl here) = here.1
  found_at Fact (x ∷ ps) zero d below at only (inr later) =
      let found = number_found (fields_of ps) number Fact later in
      let e = only (suc found.0) (omega (arith, found.1)) found.2 in absurd (omega (arith, e))
  found_at Fact (x ∷ ps) (suc i) d below at only (inl here) =
      let e = only 0 (omega arith) here.0 in absurd (omega (arith, e))
  found_at Fact (x ∷ ps) (suc i) d below at only (inr later) =
      found_at Fact ps i d (omega (arith, below)) at
      (λ j j_in j_at. less (only (suc j) (omega (arith, j_in)) j_at)) later
    where
      less : {j i : ℕ} → suc j ≡ suc i → j ≡ i
      less {j = j} {i = i} e = omega (arith, e)

  pub known_at : (Fact : RegionField → Type 0) (now : RegionContent) → content_of parts relations asked ≡ now
      → FieldNumbered now.fields number Fact → Fact (field_of q)
  known_at Fact now view_is numbered = subst (λ x. Fact (field_of x)) (sym is)
      (found_at Fact parts k q own_index.below own_index.is
      (λ j j_in at. numbers_once parts region.ascending number j k j_in at own_index)
      (subst (λ r. FieldNumbered r.fields number Fact) (sym view_is) numbered))

pub any_numbered : (fs : List RegionField) (n : ℕ) (Fact : RegionField → Type 0) → FieldNumbered fs n Fact
    → FieldNumbered fs n (λ field. Unit {0})
any_numbered [] n Fact none = none
any_numbered (f ∷ fs) n Fact (inl here) = inl (here.0, tt)
any_numbered (f ∷ fs) n Fact (inr later) = inr (any_numbered fs n Fact later)

-- so the field of the number is one of the parts
pub is_there : (parts slice : List PartNode) (relations : List SignedRelation) (asked number : ℕ) (now : RegionContent)
    → content_of parts relations asked ≡ now → slice ≡ parts → (Fact : RegionField → Type 0)
    → FieldNumbered now.fields number Fact → FieldNumbered (fields_of slice) number (λ field. Unit {0})
is_there parts slice relations asked number now view_is same Fact numbered = any_numbered (fields_of slice) number Fact
    (subst (λ s. FieldNumbered (fields_of s) number Fact) (sym same)
    (subst (λ r. FieldNumbered r.fields number Fact) (sym view_is) numbered))

-- one more relation
pub all_after : (P : SignedRelation → Type 0) (rs : List SignedRelation) (signed : SignedRelation) → AllByRecursion P rs
    → P signed → AllByRecursion P (rs ++ signed ∷ [])
all_after P [] signed all last = (last, tt)
all_after P (r ∷ rs) signed all last = (all.0, all_after P rs signed all.1 last)

pub region_with : (parts : List PartNode) (old new : List SignedRelation) (asked : ℕ) (signed : SignedRelation)
    → (result : Result (Unit {0}) Memory) → OnOk result (new ≡ old ++ signed ∷ []) → OnErr result (new ≡ old)
    → IsRegion (content_of parts old asked) → (now : RegionContent) → content_of parts old asked ≡ now
    → JoinsFields now.fields signed.relation → IsForest (relations_of now.relations ++ signed.relation ∷ [])
    → IsRegion (content_of parts new asked)
region_with parts old new asked signed (Ok done) ok err region now view_is joins forest =
    let joins_own : JoinsFields (fields_of parts) signed.relation =
    subst (λ r. JoinsFields r.fields signed.relation) (sym view_is) joins in
    let forest_own : IsForest (relations_of old ++ signed.relation ∷ []) =
    subst (λ r. IsForest (relations_of r.relations ++ signed.relation ∷ [])) (sym view_is) forest in
    subst (λ rs. IsRegion (content_of parts rs asked)) (sym ok)
    (record {
      ascending = region.ascending;
      ends = all_after (λ s. JoinsFields (fields_of parts) s.relation) old signed region.ends joins_own;
      forest = subst IsForest (sym (map-append (λ s. s.relation) old (signed ∷ []))) forest_own;
    })
region_with parts old new asked signed (Err none) ok err region now view_is joins forest =
    subst (λ rs. IsRegion (content_of parts rs asked)) (sym err) region

-- the fields of a profile that are opened
some_at : (fields : List Field) (n : ℕ) → n < length fields → (field : Field) × (slice_get fields n ≡ Some field)
some_at [] n below = absurd (omega (arith, below))
some_at (f ∷ fields) zero below = (f, refl)
some_at (f ∷ fields) (suc n) below = some_at fields n (omega (arith, below))

numbers_opened : (fields : List Field) (ns : List ℕ) → All (λ n. n < length fields) ns
    → numbers_of (opened_fields fields ns) ≡ ns
numbers_opened fields [] all = refl
numbers_opened fields (n ∷ ns) all = let found = some_at fields n (all 0 0 (omega arith)) in
    ap (λ o. numbers_of (opened_field n o ++ opened_fields fields ns)) found.1
    ∙ ap (λ rest. n ∷ rest) (numbers_opened fields ns (λ k d below. all (suc k) d (omega (arith, below))))

pub region_opened : (fields own : List Field) (ns : List ℕ) (parts : List PartNode) (relations : List SignedRelation)
    → fields ≡ own → All (λ n. n < length own) ns → IsStrictlyIncreasing ns → fields_of parts ≡ opened_fields fields ns
    → relations ≡ [] → IsRegion (content_of parts relations 0)
region_opened fields own ns parts relations same all ascending are none =
    subst (λ rs. IsRegion (content_of parts rs 0)) (sym none)
    (subst (λ fs. IsRegion (record { fields = fs; relations = []; asked = 0 })) (sym are)
    (record {
      ascending = subst IsStrictlyIncreasing
          (sym (numbers_opened fields ns (subst (λ fs. All (λ n. n < length fs) ns) (sym same) all))) ascending;
      ends = tt;
      forest = no_cycle;
    }))
  where
    no_cycle : IsForest []
    no_cycle [] cycle = cycle
    no_cycle (x ∷ []) cycle = cycle
    no_cycle (x ∷ y ∷ []) cycle = cycle
    no_cycle (x ∷ y ∷ z ∷ fields) cycle = cycle.1.0

opened_append : (fields : List Field) (ns ms : List ℕ)
    → opened_fields fields (ns ++ ms) ≡ opened_fields fields ns ++ opened_fields fields ms
opened_append fields [] ms = refl
opened_append fields (n ∷ ns) ms =
    ap (λ rest. opened_field n (slice_get fields n) ++ rest) (opened_append fields ns ms)
    ∙ sym (append_assoc (opened_field n (slice_get fields n)) (opened_fields fields ns) (opened_fields fields ms))

pub opened_more : (fields : List Field) (ns : List ℕ) (i n : ℕ) (field : Field) → i < length ns → n ≡ get_or ns i 0
    → slice_get fields n ≡ Some field
    → opened_fields fields (take i ns)
    ++ record { number = n; field = field; no_null = false; only_null = false; atoms = [] } ∷ []
    ≡ opened_fields fields (take (i + 1) ns)
opened_more fields ns i n field within is found =
    let last : opened_fields fields (get_or ns i 0 ∷ [])
    ≡ record { number = n; field = field; no_null = false; only_null = false; atoms = [] } ∷ [] =
    ap (λ m. opened_fields fields (m ∷ [])) (sym is)
    ∙ (append-nil (opened_field n (slice_get fields n)) ∙ ap (opened_field n) found) in
    sym (ap (opened_fields fields) (take_more ns i 0 within)
    ∙ (opened_append fields (take i ns) (get_or ns i 0 ∷ []) ∙ ap (λ l. opened_fields fields (take i ns) ++ l) last))

pub parts_more : (fields : List Field) (ns : List ℕ) (i n : ℕ) (field : Field) → i < length ns → n ≡ get_or ns i 0
    → slice_get fields n ≡ Some field → (parts new : List PartNode) (node : PartNode)
    → field_of node ≡ record { number = n; field = field; no_null = false; only_null = false; atoms = [] }
    → fields_of parts ≡ opened_fields fields (take i ns) → new ≡ parts ++ node ∷ []
    → fields_of new ≡ opened_fields fields (take (i + 1) ns)
parts_more fields ns i n field within is found parts new node node_is are pushed =
    ap fields_of pushed
    ∙ (map-append field_of parts (node ∷ [])
    ∙ (ap (λ fs. fs ++ field_of node ∷ []) are
    ∙ (ap (λ f. opened_fields fields (take i ns) ++ f ∷ []) node_is
    ∙ opened_more fields ns i n field within is found)))

-- another domain of the same field
pub domain_put : (q : PartNode) (domain : Restricted) → domain.field ≡ q.values.domain.field
    → field_of (record q { values = record q.values { domain = domain } }) ≡ with_domain domain (field_of q)
domain_put q domain same = ap
    (λ field. let new : RegionField = record {
      number = q.place;
      field = field;
      no_null = q.values.no_null;
      only_null = q.values.only_null;
      atoms = domain.atoms;
    } in new)
    same

pub atom_put : (q : PartNode) (domain : Restricted) (signed : SignedAtom) → domain.field ≡ q.values.domain.field
    → domain.atoms ≡ q.values.domain.atoms ++ signed ∷ []
    → field_of (record q { values = record q.values { domain = domain } }) ≡ with_atom signed (field_of q)
atom_put q domain signed same more = domain_put q domain same
    ∙ ap (λ atoms. let new : RegionField = record {
      number = q.place;
      field = q.values.domain.field;
      no_null = q.values.no_null;
      only_null = q.values.only_null;
      atoms = atoms;
    } in new) more
