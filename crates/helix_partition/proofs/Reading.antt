-- Labels, constraint by constraint.
use Rattle.std.proofs.Common.{◌≡◌, ℕ, zero, suc, ◌+◌, ◌<◌, ◌≤◌, ◌⊎◌, inl, inr, ⊎_elim, true, ◌==◌, List, [], ◌∷◌, ◌++◌, length, get_or, take, drop, refl, add-one, append-nil, sym, ap, ◌∙◌, subst, arith}
use Rattle.std.proofs.lemmas.Bool.{false≢true, eqb-true, or_cases}
use Rattle.std.proofs.Math.ListN.{drop_of_length-le}
use Rattle.std.proofs.lemmas.List.{map-append, take_all, take_more}
use Rattle.std.proofs.lemmas.List.FromFn.{get_or-range_with_len, length-range_with_len}
use Rattle.std.specs.List.{All, AllByRecursion, list_any, range_with_len}
use Rattle.helix_profile.specs.Content.{Content}
use Rattle.helix_profile.specs.Fields.{fields_of}
use Rattle.helix_profile.specs.Width.{is_linked}
use Rattle.helix_profile.specs.Validity.{IsConstraintFor, IsValidProfile}
use Rattle.helix_profile.specs.declared.constraint.Constraint.{Constraint}
use Rattle.helix_partition.specs.ChainLaws.{Names, IsIn, Chain}
use Rattle.helix_partition.specs.LinkLaws.{linked_self}
use Rattle.helix_partition.specs.Inner.Labels.{first_fields, JoinsUpTo, LabelledBy}
use Rattle.helix_partition.proofs.NamedFields.{fields_there, some_named}

-- where a field is in a list
pub place_of : (fields : List ℕ) (field : ℕ) → list_any (λ named. named == field) fields ≡ true
    → (i : ℕ) × (i < length fields) × (get_or fields i 0 ≡ field)
place_of [] field none = absurd (false≢true none)
place_of (first ∷ fields) field among = ⊎_elim
    (λ here. (zero, omega arith, eqb-true first field here))
    (λ later. let other = place_of fields field later in (suc other.0, omega (arith, other.1), other.2))
    (or_cases (first == field) (list_any (λ n. n == field) fields) among)

all_at : (P : ℕ → Type 0) (xs : List ℕ) (i : ℕ) → i < length xs → AllByRecursion P xs → P (get_or xs i 0)
all_at P [] i within all = absurd (omega (arith, within))
all_at P (x ∷ xs) zero within all = all.0
all_at P (x ∷ xs) (suc i) within all = all_at P xs i (omega (arith, within)) all.1

pub all_indexed : (P : ℕ → Type 0) (xs : List ℕ) → AllByRecursion P xs → (k d : ℕ) → k < length xs → P (get_or xs k d)
all_indexed P [] all k d within = absurd (omega (arith, within))
all_indexed P (x ∷ xs) all zero d within = all.0
all_indexed P (x ∷ xs) all (suc k) d within = all_indexed P xs all.1 k d (omega (arith, within))

pub one_of : (P : Constraint → Type 0) (cs : List Constraint) (c : Constraint) → AllByRecursion P cs → IsIn cs c → P c
one_of P [] c all none = absurd none
one_of P (d ∷ cs) c all (inl here) = subst P here all.0
one_of P (d ∷ cs) c all (inr later) = one_of P cs c all.1 later

-- a field that a constraint of the profile names is one of the profile
pub named_is_there : (profile : Content) → IsValidProfile profile → (c : Constraint) (field : ℕ)
    → IsIn profile.constraints c → Names c field → field < length profile.fields
named_is_there profile valid c field listed names =
    let fits = one_of (IsConstraintFor profile.fields) profile.constraints c valid.constraints_fit listed in
    let place = place_of (fields_of c) field names in
    subst (λ f. f < length profile.fields) place.2
    (all_at (λ f. f < length profile.fields) (fields_of c) place.0 place.1 (fields_there profile.fields c fits))

in_either : (cs : List Constraint) (last c : Constraint) → IsIn (cs ++ last ∷ []) c → IsIn cs c ⊎ (last ≡ c)
in_either [] last c (inl here) = inr here
in_either [] last c (inr none) = absurd none
in_either (d ∷ cs) last c (inl here) = inl (inl here)
in_either (d ∷ cs) last c (inr later) = ⊎_elim (λ i. inl (inr i)) inr (in_either cs last c later)

pub in_taken : (cs : List Constraint) (i : ℕ) (c : Constraint) → IsIn (take i cs) c → IsIn cs c
in_taken cs zero c none = absurd none
in_taken [] (suc i) c none = absurd none
in_taken (d ∷ cs) (suc i) c (inl here) = inl here
in_taken (d ∷ cs) (suc i) c (inr later) = inr (in_taken cs i c later)

pub in_at : (cs : List Constraint) (i : ℕ) (d : Constraint) → i < length cs → IsIn cs (get_or cs i d)
in_at [] i d within = absurd (omega (arith, within))
in_at (c ∷ cs) zero d within = inl refl
in_at (c ∷ cs) (suc i) d within = inr (in_at cs i d (omega (arith, within)))

range_next : (a n : ℕ) → range_with_len a n ++ (a + n) ∷ [] ≡ range_with_len a (suc n)
range_next a zero = let same : a + 0 ≡ a = omega arith in ap (λ k. k ∷ []) same
range_next a (suc n) = let same : a + suc n ≡ a + 1 + n = omega arith in
    ap (λ k. a ∷ (range_with_len (a + 1) n ++ k ∷ [])) same ∙ ap (λ l. a ∷ l) (range_next (a + 1) n)

-- one number more
pub range_more : (n : ℕ) → range_with_len 0 n ++ n ∷ [] ≡ range_with_len 0 (n + 1)
range_more n = let same : 0 + n ≡ n = omega arith in
    ap (λ k. range_with_len 0 n ++ k ∷ []) (sym same) ∙ (range_next 0 n ∙ ap (range_with_len 0) (sym (add-one n)))

-- what a slice of a whole list writes back
pub written : (new items : List ℕ) (len : ℕ) → length new ≡ length items → len ≡ length items
    → new ≡ take len (new ++ drop (length new) items)
written new items len same whole = sym (ap (λ l. take len (new ++ l)) (drop_of_length-le items (omega (arith, same)))
    ∙ (ap (take len) (append-nil new) ∙ take_all len new (omega (arith, same, whole))))

-- at first each field has its own label
pub own_labelled : (profile : Content) (labels : List ℕ) (n : ℕ) → labels ≡ range_with_len 0 n
    → n ≡ length profile.fields → LabelledBy profile labels []
own_labelled profile labels n are count = record {
  every_field = ap length are ∙ (length-range_with_len 0 n ∙ count);
  labelling = record {
    sound = λ a b a_in b_in same.
        let equal : a ≡ b = omega (arith, label a a_in, label b b_in, same) in
        subst (λ k. is_linked profile.constraints a k ≡ true) equal (linked_self profile.constraints a);
    low = λ a a_in. omega (arith, label a a_in);
    own = λ a a_in. ap (λ k. get_or labels k 0) (label a a_in);
  };
  joined = λ c a b none. absurd none;
}
  where
    label : (a : ℕ) → a < length labels → get_or labels a 0 ≡ a
    label a within = ap (λ l. get_or l a 0) are
        ∙ (get_or-range_with_len 0 n a 0 (omega (arith, within, ap length are, length-range_with_len 0 n))
        ∙ omega arith)

-- one constraint more
pub next_labelled : (profile : Content) (old new : List ℕ) (i : ℕ) (c d : Constraint) → IsValidProfile profile
    → i < length profile.constraints → c ≡ get_or profile.constraints i d
    → JoinsUpTo old new (fields_of c) (length (fields_of c))
    → LabelledBy profile old (take i profile.constraints) → LabelledBy profile new (take (i + 1) profile.constraints)
next_labelled profile old new i c d valid within is joins labelled =
    let listed : IsIn profile.constraints c =
    subst (IsIn profile.constraints) (sym is) (in_at profile.constraints i d within) in record {
      every_field = joins.same_length ∙ labelled.every_field;
      labelling = joins.labelling profile.constraints c listed refl labelled.labelling;
      joined = λ e a b among names also. ⊎_elim
          (λ earlier.
          let known = in_taken profile.constraints i e earlier in
          joins.kept a b
          (omega (arith, labelled.every_field, named_is_there profile valid e a known names))
          (omega (arith, labelled.every_field, named_is_there profile valid e b known also))
          (labelled.joined e a b earlier names also))
          (λ last.
          let same : e ≡ c = sym last ∙ sym is in
          let first = place_of (fields_of c) a (subst (λ x. Names x a) same names) in
          let second = place_of (fields_of c) b (subst (λ x. Names x b) same also) in
          ap (λ k. get_or new k 0) (sym first.2) ∙ (joins.joined first.0 first.1
          ∙ (sym (joins.joined second.0 second.1) ∙ ap (λ k. get_or new k 0) second.2)))
          (in_either (take i profile.constraints) (get_or profile.constraints i d) e
          (subst (λ l. IsIn l e) (take_more profile.constraints i d within) among));
    }

-- in the end: fields that are linked have one label
pub one_label : (cs : List Constraint) (labels : List ℕ)
    → ((c : Constraint) (a b : ℕ) → IsIn cs c → Names c a → Names c b → get_or labels a 0 ≡ get_or labels b 0)
    → (count from to : ℕ) → Chain cs count from to → get_or labels from 0 ≡ get_or labels to 0
one_label cs labels joined zero from to same = ap (λ k. get_or labels k 0) same
one_label cs labels joined (suc count) from to (inl same) = ap (λ k. get_or labels k 0) same
one_label cs labels joined (suc count) from to (inr step) =
    joined step.constraint from step.next step.listed step.from step.to
    ∙ one_label cs labels joined count step.next to step.rest

-- all constraints have been read
pub whole_list : (profile : Content) (slice : List Constraint) (i : ℕ) → length slice ≤ i
    → slice ≡ profile.constraints → take i slice ≡ profile.constraints
whole_list profile slice i all is = take_all i slice all ∙ is

-- the constraints of the profile, one by one, as code sees them
module _ (profile : Content) (valid : IsValidProfile profile) (slice : List Constraint) (i : ℕ) (item : Constraint)
    (is : slice ≡ profile.constraints) (within : i < length slice) (read : item ≡ get_or slice i item) where
  here : i < length profile.constraints
  here = omega (arith, within, ap length is)

  in_profile : item ≡ get_or profile.constraints i item
  in_profile = read ∙ ap (λ l. get_or l i item) is

  listed_item : IsIn profile.constraints item
  listed_item = subst (IsIn profile.constraints) (sym in_profile) (in_at profile.constraints i item here)

  fits_item : IsConstraintFor profile.fields item
  fits_item = one_of (IsConstraintFor profile.fields) profile.constraints item valid.constraints_fit listed_item

  pub item_names : 1 ≤ length (fields_of item)
  item_names = some_named profile.fields item fits_item

  pub item_there : (borrowed labels : List ℕ) (seen : List Constraint) → borrowed ≡ labels
      → LabelledBy profile labels seen → All (λ field. field < length borrowed) (fields_of item)
  item_there borrowed labels seen same labelled k d inside = omega (
    arith,
    ap length same,
    labelled.every_field,
    all_indexed (λ f. f < length profile.fields) (fields_of item) (fields_there profile.fields item fits_item) k d
        inside,
  )

  pub item_read : (old borrowed new : List ℕ) (len : ℕ) (firsts more : List ℕ) (first : ℕ) → borrowed ≡ old
      → len ≡ length old → JoinsUpTo borrowed new (fields_of item) (length (fields_of item))
      → first ≡ get_or (fields_of item) 0 0 → more ≡ firsts ++ first ∷ []
      → (firsts ≡ first_fields (take i slice)) × LabelledBy profile old (take i slice)
      → (more ≡ first_fields (take (i + 1) slice))
      × LabelledBy profile (take len (new ++ drop (length new) old)) (take (i + 1) slice)
  item_read old borrowed new len firsts more first same whole joins first_is more_are kept =
      let joined : JoinsUpTo old new (fields_of item) (length (fields_of item)) =
      subst (λ l. JoinsUpTo l new (fields_of item) (length (fields_of item))) same joins in (
        more_are ∙ (ap (λ l. l ++ first ∷ []) kept.0 ∙ (ap (λ f. first_fields (take i slice) ++ f ∷ []) first_is ∙ sym
            (ap first_fields (take_more slice i item within)
            ∙ (map-append (λ c. get_or (fields_of c) 0 0) (take i slice) (get_or slice i item ∷ [])
            ∙ ap (λ c. first_fields (take i slice) ++ get_or (fields_of c) 0 0 ∷ []) (sym read))))),
        subst (λ l. LabelledBy profile l (take (i + 1) slice)) (written new old len joined.same_length whole)
            (subst (λ l. LabelledBy profile new (take (i + 1) l)) (sym is)
            (next_labelled profile old new i item item valid here in_profile joined
            (subst (λ l. LabelledBy profile old (take i l)) is kept.1))),
      )
