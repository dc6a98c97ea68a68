-- The constraints of some numbers of a profile: with them alone it is valid too.
use Rattle.std.proofs.Common.{◌≡◌, ℕ, zero, suc, ◌+◌, ◌-◌, ◌<◌, ◌≤◌, ◌⊎◌, inl, inr, ⊎_elim, Option, Some, None, IfSome, List, [], ◌∷◌, ◌++◌, length, get_or, take, refl, sym, ◌∙◌, ap, subst, arith, append_assoc, add-one, length-append}
use Rattle.std.proofs.lemmas.List.{append-nil, take_more}
use Rattle.std.specs.List.{All, AllByRecursion, slice_get}
use Rattle.std.specs.List.Sorted.{IsStrictlyIncreasing}
use Rattle.helix_profile.specs.Change.{kept, listed, numbered}
use Rattle.helix_profile.specs.Content.{Content}
use Rattle.helix_profile.specs.Fields.{relations_of, all_relations}
use Rattle.helix_profile.specs.Forest.{AreJoined, IsPathTo, IsCycle, IsForest}
use Rattle.helix_profile.specs.Validity.{IsValidProfile}
use Rattle.helix_profile.specs.declared.constraint.Constraint.{Constraint}
use Rattle.helix_profile.specs.declared.field.Field.{Field}
use Rattle.helix_profile.specs.declared.relation.Relation.{Relation}

-- one number more
numbered-append : (cs : List Constraint) (ns ms : List ℕ) → numbered cs (ns ++ ms) ≡ numbered cs ns ++ numbered cs ms
numbered-append cs [] ms = refl
numbered-append cs (n ∷ ns) ms = ap (λ l. listed (slice_get cs (n - 1)) ++ l) (numbered-append cs ns ms)
    ∙ sym (append_assoc (listed (slice_get cs (n - 1))) (numbered cs ns) (numbered cs ms))

pub numbered_more : (cs : List Constraint) (ns : List ℕ) (i n : ℕ) (c : Constraint) → i < length ns → n ≡ get_or ns i 0
    → slice_get cs (n - 1) ≡ Some c → numbered cs (take i ns) ++ c ∷ [] ≡ numbered cs (take (i + 1) ns)
numbered_more cs ns i n c within is found =
    let last : numbered cs (get_or ns i 0 ∷ []) ≡ c ∷ [] =
    append-nil (listed (slice_get cs (get_or ns i 0 - 1)))
    ∙ (ap (λ k. listed (slice_get cs (k - 1))) (sym is) ∙ ap listed found) in
    sym (ap (numbered cs) (take_more ns i 0 within)
    ∙ (numbered-append cs (take i ns) (get_or ns i 0 ∷ []) ∙ ap (λ l. numbered cs (take i ns) ++ l) last))

-- ascending numbers from 1 to m are at most m
rises : (ns : List ℕ) → IsStrictlyIncreasing ns → 1 ≤ get_or ns 0 0 → (k : ℕ) → k < length ns → k + 1 ≤ get_or ns k 0
rises ns up first zero within = first
rises ns up first (suc k) within =
    let below : k + 1 ≤ get_or ns k 0 = rises ns up first k (omega arith) in
    let step : get_or ns k 0 < get_or ns (k + 1) 0 = up k (omega arith) in
    let same : get_or ns (k + 1) 0 ≡ get_or ns (suc k) 0 = ap (λ j. get_or ns j 0) (add-one k) in omega arith

few : (ns : List ℕ) (m : ℕ) → IsStrictlyIncreasing ns → All (λ n. (1 ≤ n) × (n ≤ m)) ns → length ns ≤ m
few [] m up all = omega arith
few (n ∷ ns) m up all =
    let first = all 0 0 (omega arith) in
    let last : length ns + 1 ≤ get_or (n ∷ ns) (length ns) 0 = rises (n ∷ ns) up first.0 (length ns) (omega arith) in
    let most = all (length ns) 0 (omega arith) in omega (arith, last, most.1)

length_listed : (o : Option Constraint) → length (listed o) ≤ 1
length_listed None = omega arith
length_listed (Some c) = omega arith

length_numbered : (cs : List Constraint) (ns : List ℕ) → length (numbered cs ns) ≤ length ns
length_numbered cs [] = omega arith
length_numbered cs (n ∷ ns) = omega (
  arith,
  length-append (listed (slice_get cs (n - 1))) (numbered cs ns),
  length_listed (slice_get cs (n - 1)),
  length_numbered cs ns,
)

-- what holds of each constraint holds of each of these
module _ (P : Constraint → Type 0) where
  one_holds : (cs : List Constraint) (i : ℕ) → AllByRecursion P cs → IfSome (slice_get cs i) P
  one_holds [] i all = tt
  one_holds (c ∷ cs) zero all = all.0
  one_holds (c ∷ cs) (suc i) all = one_holds cs i all.1

  and_others : (o : Option Constraint) (others : List Constraint) → IfSome o P → AllByRecursion P others
      → AllByRecursion P (listed o ++ others)
  and_others None others one all = all
  and_others (Some c) others one all = (one, all)

  each_holds : (cs : List Constraint) (ns : List ℕ) → AllByRecursion P cs → AllByRecursion P (numbered cs ns)
  each_holds cs [] all = tt
  each_holds cs (n ∷ ns) all =
      and_others (slice_get cs (n - 1)) (numbered cs ns) (one_holds cs (n - 1) all) (each_holds cs ns all)

-- their relations join no other fields
joined_left : (a b : List Relation) (f g : ℕ) → AreJoined a f g → AreJoined (a ++ b) f g
joined_left [] b f g joined = absurd joined
joined_left (r ∷ a) b f g (inl here) = inl here
joined_left (r ∷ a) b f g (inr (inl here)) = inr (inl here)
joined_left (r ∷ a) b f g (inr (inr later)) = inr (inr (joined_left a b f g later))

joined_right : (a b : List Relation) (f g : ℕ) → AreJoined b f g → AreJoined (a ++ b) f g
joined_right [] b f g joined = joined
joined_right (r ∷ a) b f g joined = inr (inr (joined_right a b f g joined))

joined_either : (a b : List Relation) (f g : ℕ) → AreJoined (a ++ b) f g → AreJoined a f g ⊎ AreJoined b f g
joined_either [] b f g joined = inr joined
joined_either (r ∷ a) b f g (inl here) = inl (inl here)
joined_either (r ∷ a) b f g (inr (inl here)) = inl (inr (inl here))
joined_either (r ∷ a) b f g (inr (inr later)) =
    ⊎_elim (λ left. inl (inr (inr left))) (λ right. inr right) (joined_either a b f g later)

module _ (f g : ℕ) where
  abbrev JoinsIn : List Relation → Constraint → Type 0
  JoinsIn all c = AreJoined (relations_of c) f g → AreJoined all f g

  further : (o : Option Constraint) (all more : List Relation) → IfSome o (JoinsIn all)
      → IfSome o (JoinsIn (more ++ all))
  further None all more one = tt
  further (Some c) all more one = λ joined. joined_right more all f g (one joined)

  one_joins : (cs : List Constraint) (i : ℕ) → IfSome (slice_get cs i) (JoinsIn (all_relations cs))
  one_joins [] i = tt
  one_joins (c ∷ cs) zero = λ joined. joined_left (relations_of c) (all_relations cs) f g joined
  one_joins (c ∷ cs) (suc i) = further (slice_get cs i) (all_relations cs) (relations_of c) (one_joins cs i)

  or_others : (o : Option Constraint) (others : List Constraint) (all : List Relation) → IfSome o (JoinsIn all)
      → (AreJoined (all_relations others) f g → AreJoined all f g) → AreJoined (all_relations (listed o ++ others)) f g
      → AreJoined all f g
  or_others None others all one rest joined = rest joined
  or_others (Some c) others all one rest joined =
      ⊎_elim one rest (joined_either (relations_of c) (all_relations others) f g joined)

  joined_before : (cs : List Constraint) (ns : List ℕ) → AreJoined (all_relations (numbered cs ns)) f g
      → AreJoined (all_relations cs) f g
  joined_before cs [] joined = absurd joined
  joined_before cs (n ∷ ns) joined =
      or_others (slice_get cs (n - 1)) (numbered cs ns) (all_relations cs) (one_joins cs (n - 1)) (joined_before cs ns)
      joined

module _ (a b : List Relation) (within : (f g : ℕ) → AreJoined a f g → AreJoined b f g) where
  same_path : (last field : ℕ) (fields : List ℕ) → IsPathTo a last field fields → IsPathTo b last field fields
  same_path last field [] path = within field last path
  same_path last field (next ∷ fields) path = (within field next path.0, same_path last next fields path.1)

  same_cycle : (fields : List ℕ) → IsCycle a fields → IsCycle b fields
  same_cycle [] cycle = cycle
  same_cycle (x ∷ []) cycle = cycle
  same_cycle (x ∷ y ∷ []) cycle = cycle
  same_cycle (x ∷ y ∷ z ∷ fields) cycle = (cycle.0, same_path x x (y ∷ z ∷ fields) cycle.1)

  no_new_cycle : IsForest b → IsForest a
  no_new_cycle forest fields cycle = forest fields (same_cycle fields cycle)

pub kept_is_valid : (profile : Content) (ns : List ℕ) → IsStrictlyIncreasing ns
    → All (λ n. (1 ≤ n) × (n ≤ length profile.constraints)) ns → IsValidProfile profile
    → IsValidProfile (kept profile ns)
kept_is_valid profile ns up all valid = record {
  some_field = valid.some_field;
  few_fields = valid.few_fields;
  names = valid.names;
  different_names = valid.different_names;
  few_constraints = omega (
    arith,
    length_numbered profile.constraints ns,
    few ns (length profile.constraints) up all,
    valid.few_constraints,
  );
  constraints_fit = each_holds _ profile.constraints ns valid.constraints_fit;
  no_cycle = no_new_cycle (all_relations (numbered profile.constraints ns)) (all_relations profile.constraints)
      (λ f g joined. joined_before f g profile.constraints ns joined) valid.no_cycle;
}

-- the same of a profile as it is kept
pub kept_valid_as : (profile : Content) (fields own : List Field) (constraints slice all : List Constraint)
    (ns : List ℕ)
    → profile ≡ record { fields = own; constraints = all } → IsStrictlyIncreasing ns
    → All (λ n. (1 ≤ n) × (n ≤ length profile.constraints)) ns
    → IsValidProfile (record { fields = own; constraints = all }) → fields ≡ own → constraints ≡ numbered slice ns
    → slice ≡ all → IsValidProfile (record { fields = fields; constraints = constraints })
kept_valid_as profile fields own constraints slice all ns is up within valid fields_are constraints_are slice_is =
    let inside : Content = record { fields = own; constraints = all } in
    let within_all : All (λ n. (1 ≤ n) × (n ≤ length all)) ns =
    subst (λ (p : Content). All (λ n. (1 ≤ n) × (n ≤ length p.constraints)) ns) is within in
    let chosen : IsValidProfile (record { fields = own; constraints = numbered all ns }) =
    kept_is_valid inside ns up within_all valid in
    subst (λ (f : List Field). IsValidProfile (record { fields = f; constraints = constraints })) (sym fields_are)
    (subst (λ (l : List Constraint). IsValidProfile (record { fields = own; constraints = l }))
    (sym (constraints_are ∙ ap (λ s. numbered s ns) slice_is)) chosen)
