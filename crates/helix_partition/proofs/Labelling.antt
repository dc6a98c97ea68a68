-- What becomes of labels where fields are joined, and what they say in the end.
use Rattle.std.proofs.Common.{◌≡◌, ℕ, zero, suc, ◌+◌, ◌<◌, ◌≤◌, ⊎_elim, min, max, true, cond, ◌==◌, if◌then◌else◌, List, [], ◌∷◌, length, get_or, set, length-set, refl, sym, ap, ◌∙◌, subst, arith}
use Rattle.std.proofs.lemmas.Bool.{cases_eq, cases_lt, eq-eqb, ne_eqb, or_left, or_right}
use Rattle.std.proofs.lemmas.List.{get_or-map, length-map, get_or-set_same, get_or-set_other}
use Rattle.std.proofs.lemmas.Grind.{same_number_lists}
use Rattle.std.specs.List.{All, list_any}
use Rattle.helix_profile.specs.Width.{is_linked}
use Rattle.helix_profile.specs.declared.constraint.Constraint.{Constraint}
use Rattle.helix_partition.specs.LinkLaws.{linked_back, linked_on, linked_by}
use Rattle.helix_partition.specs.Inner.Labels.{with_label, relabelled, ReplacesUpTo, IsLabelling, JoinsUpTo}

-- the new label of a field whose label was `label`, where those of the joined fields were a and b
abbrev moved : ℕ → ℕ → ℕ → ℕ
moved a b label = if label == max a b then min a b else label

is_moved : (a b label : ℕ) → label ≡ max a b → moved a b label ≡ min a b
is_moved a b label same = ap (λ t. cond t (min a b) label) (eq-eqb label (max a b) same)

stays : (a b label : ℕ) → (label ≡ max a b → ⊥) → moved a b label ≡ label
stays a b label other = ap (λ t. cond t (min a b) label) (ne_eqb label (max a b) other)

-- both joined labels become the lesser one
first_moved : (a b : ℕ) → moved a b a ≡ min a b
first_moved a b = ⊎_elim (λ same. is_moved a b a same)
    (λ other. stays a b a other ∙ omega arith) (cases_eq a (max a b))

second_moved : (a b : ℕ) → moved a b b ≡ min a b
second_moved a b = ⊎_elim (λ same. is_moved a b b same)
    (λ other. stays a b b other ∙ omega arith) (cases_eq b (max a b))

min_moved : (a b : ℕ) → moved a b (min a b) ≡ min a b
min_moved a b = ⊎_elim (λ same. is_moved a b (min a b) same) (λ other. stays a b (min a b) other)
    (cases_eq (min a b) (max a b))

-- one label after another
pub replaces_next : (from to : ℕ) (old mid : List ℕ) (i v : ℕ) → i < length mid → ReplacesUpTo from to old mid i
    → v ≡ (if get_or mid i 0 == from then to else get_or mid i 0) → ReplacesUpTo from to old (set mid i v) (i + 1)
replaces_next from to old mid i v within replaces is = record {
  same_length = length-set mid i v ∙ replaces.same_length;
  done = λ k below. ⊎_elim
      (λ here. ap (λ j. get_or (set mid i v) j 0) here ∙ (get_or-set_same mid i v 0 within
      ∙ (is ∙ ap (λ l. if l == from then to else l) (replaces.left i (omega arith)
      ∙ ap (λ j. get_or old j 0) (sym here)))))
      (λ other. get_or-set_other mid i k v 0 other ∙ replaces.done k (omega (arith, other)))
      (cases_eq k i);
  left = λ k above. get_or-set_other mid i k v 0 (λ e. omega (arith, above, e)) ∙ replaces.left k (omega arith);
}

pub replaces_none : (from to : ℕ) (labels : List ℕ) → ReplacesUpTo from to labels labels 0
replaces_none from to labels = record {
  same_length = refl;
  done = λ k below. absurd (omega (arith, below));
  left = λ k above. refl;
}

pub replaces_all : (from to : ℕ) (old new : List ℕ) (count : ℕ) → length new ≤ count
    → ReplacesUpTo from to old new count
    → new ≡ with_label old from to
replaces_all from to old new count all replaces = same_number_lists new (with_label old from to)
    (replaces.same_length ∙ sym (length-map old (λ l. if l == from then to else l)))
    (λ k within. replaces.done k (omega arith) ∙ sym (get_or-map (λ l. if l == from then to else l) old k 0 0
    (omega (arith, replaces.same_length))))

module _ (mid : List ℕ) (x y : ℕ) (x_in : x < length mid) (y_in : y < length mid) where
  read : (k : ℕ) → k < length mid
      → get_or (relabelled mid x y) k 0 ≡ moved (get_or mid x 0) (get_or mid y 0) (get_or mid k 0)
  read k within = get_or-map (λ l. moved (get_or mid x 0) (get_or mid y 0) l) mid k 0 0 within

  size : length (relabelled mid x y) ≡ length mid
  size = length-map mid (λ l. moved (get_or mid x 0) (get_or mid y 0) l)

  kept_here : (a b : ℕ) → a < length mid → b < length mid → get_or mid a 0 ≡ get_or mid b 0
      → get_or (relabelled mid x y) a 0 ≡ get_or (relabelled mid x y) b 0
  kept_here a b a_in b_in same =
      read a a_in ∙ (ap (λ l. moved (get_or mid x 0) (get_or mid y 0) l) same ∙ sym (read b b_in))

  joined_here : get_or (relabelled mid x y) x 0 ≡ get_or (relabelled mid x y) y 0
  joined_here = read x x_in ∙ (first_moved (get_or mid x 0) (get_or mid y 0)
      ∙ (sym (second_moved (get_or mid x 0) (get_or mid y 0)) ∙ sym (read y y_in)))

  module _ (cs : List Constraint) (linked : is_linked cs x y ≡ true) (old : IsLabelling cs mid) where
    -- the fields of the greater label and those of the lesser one
    across : (a b : ℕ) → a < length mid → b < length mid
        → get_or mid a 0 ≡ max (get_or mid x 0) (get_or mid y 0)
        → get_or mid b 0 ≡ min (get_or mid x 0) (get_or mid y 0) → is_linked cs a b ≡ true
    across a b a_in b_in high low = ⊎_elim
        (λ less. linked_on cs a y b (old.sound a y a_in y_in (omega arith))
        (linked_on cs y x b (linked_back cs x y linked) (old.sound x b x_in b_in (omega arith))))
        (λ reached. linked_on cs a x b (old.sound a x a_in x_in (omega arith))
        (linked_on cs x y b linked (old.sound y b y_in b_in (omega arith))))
        (cases_lt (get_or mid x 0) (get_or mid y 0))

    still_sound : (a b : ℕ) → a < length mid → b < length mid
        → moved (get_or mid x 0) (get_or mid y 0) (get_or mid a 0)
        ≡ moved (get_or mid x 0) (get_or mid y 0) (get_or mid b 0) → is_linked cs a b ≡ true
    still_sound a b a_in b_in same = ⊎_elim
        (λ a_high. ⊎_elim
        (λ b_high. old.sound a b a_in b_in (a_high ∙ sym b_high))
        (λ b_other. across a b a_in b_in a_high
        (sym (stays (get_or mid x 0) (get_or mid y 0) (get_or mid b 0) b_other)
        ∙ (sym same ∙ is_moved (get_or mid x 0) (get_or mid y 0) (get_or mid a 0) a_high)))
        (cases_eq (get_or mid b 0) (max (get_or mid x 0) (get_or mid y 0))))
        (λ a_other. ⊎_elim
        (λ b_high. linked_back cs b a (across b a b_in a_in b_high
        (sym (stays (get_or mid x 0) (get_or mid y 0) (get_or mid a 0) a_other)
        ∙ (same ∙ is_moved (get_or mid x 0) (get_or mid y 0) (get_or mid b 0) b_high))))
        (λ b_other. old.sound a b a_in b_in
        (sym (stays (get_or mid x 0) (get_or mid y 0) (get_or mid a 0) a_other)
        ∙ (same ∙ stays (get_or mid x 0) (get_or mid y 0) (get_or mid b 0) b_other)))
        (cases_eq (get_or mid b 0) (max (get_or mid x 0) (get_or mid y 0))))
        (cases_eq (get_or mid a 0) (max (get_or mid x 0) (get_or mid y 0)))

    still_low : (a : ℕ) → a < length mid → moved (get_or mid x 0) (get_or mid y 0) (get_or mid a 0) ≤ a
    still_low a a_in = ⊎_elim
        (λ high. omega (arith, is_moved (get_or mid x 0) (get_or mid y 0) (get_or mid a 0) high, old.low a a_in))
        (λ other. omega (arith, stays (get_or mid x 0) (get_or mid y 0) (get_or mid a 0) other, old.low a a_in))
        (cases_eq (get_or mid a 0) (max (get_or mid x 0) (get_or mid y 0)))

    -- the lesser label is its own
    min_own : get_or mid (min (get_or mid x 0) (get_or mid y 0)) 0 ≡ min (get_or mid x 0) (get_or mid y 0)
    min_own = ⊎_elim
        (λ less. let is : min (get_or mid x 0) (get_or mid y 0) ≡ get_or mid x 0 = omega arith in
        ap (λ k. get_or mid k 0) is ∙ (old.own x x_in ∙ sym is))
        (λ reached. let is : min (get_or mid x 0) (get_or mid y 0) ≡ get_or mid y 0 = omega arith in
        ap (λ k. get_or mid k 0) is ∙ (old.own y y_in ∙ sym is))
        (cases_lt (get_or mid x 0) (get_or mid y 0))

    still_own : (a : ℕ) → a < length mid
        → get_or (relabelled mid x y) (moved (get_or mid x 0) (get_or mid y 0) (get_or mid a 0)) 0
        ≡ moved (get_or mid x 0) (get_or mid y 0) (get_or mid a 0)
    still_own a a_in = ⊎_elim
        (λ high.
        let is = is_moved (get_or mid x 0) (get_or mid y 0) (get_or mid a 0) high in
        let within : min (get_or mid x 0) (get_or mid y 0) < length mid = omega (arith, old.low x x_in) in
        ap (λ k. get_or (relabelled mid x y) k 0) is
        ∙ (read (min (get_or mid x 0) (get_or mid y 0)) within
        ∙ (ap (λ l. moved (get_or mid x 0) (get_or mid y 0) l) min_own
        ∙ (min_moved (get_or mid x 0) (get_or mid y 0) ∙ sym is))))
        (λ other.
        let is = stays (get_or mid x 0) (get_or mid y 0) (get_or mid a 0) other in
        let within : get_or mid a 0 < length mid = omega (arith, old.low a a_in) in
        ap (λ k. get_or (relabelled mid x y) k 0) is
        ∙ (read (get_or mid a 0) within
        ∙ ap (λ l. moved (get_or mid x 0) (get_or mid y 0) l) (old.own a a_in)))
        (cases_eq (get_or mid a 0) (max (get_or mid x 0) (get_or mid y 0)))

    still_labelling : IsLabelling cs (relabelled mid x y)
    still_labelling = record {
      sound = λ a b a_in b_in same.
          let a_within : a < length mid = omega (arith, size) in
          let b_within : b < length mid = omega (arith, size) in
          still_sound a b a_within b_within (sym (read a a_within) ∙ (same ∙ read b b_within));
      low = λ a a_in. let within : a < length mid = omega (arith, size) in
          omega (arith, read a within, still_low a within);
      own = λ a a_in. let within : a < length mid = omega (arith, size) in
          ap (λ k. get_or (relabelled mid x y) k 0) (read a within) ∙ (still_own a within ∙ sym (read a within));
    }

-- one field of a list after another
pub joins_none : (labels fields : List ℕ) → JoinsUpTo labels labels fields 0
joins_none labels fields = record {
  same_length = refl;
  joined = λ i below. absurd (omega (arith, below));
  kept = λ a b a_in b_in same. same;
  labelling = λ cs c listed is old. old;
}

-- a field of a list is one that the constraint names
pub names_at : (fields : List ℕ) (i : ℕ) → i < length fields
    → list_any (λ named. named == get_or fields i 0) fields ≡ true
names_at [] i within = absurd (omega (arith, within))
names_at (field ∷ fields) zero within = or_left (field == field) (list_any (λ n. n == field) fields)
    (eq-eqb field field refl)
names_at (field ∷ fields) (suc i) within = or_right (field == get_or fields i 0)
    (list_any (λ n. n == get_or fields i 0) fields) (names_at fields i (omega (arith, within)))

pub joins_next : (old mid fields : List ℕ) (i : ℕ) → i < length fields → All (λ f. f < length old) fields
    → JoinsUpTo old mid fields i
    → JoinsUpTo old (relabelled mid (get_or fields 0 0) (get_or fields i 0)) fields (i + 1)
joins_next old mid fields i within there joins =
    let first : get_or fields 0 0 < length mid = omega (arith, there 0 0 (omega arith), joins.same_length) in
    let here : get_or fields i 0 < length mid = omega (arith, there i 0 within, joins.same_length) in
    record {
      same_length = size mid (get_or fields 0 0) (get_or fields i 0) first here ∙ joins.same_length;
      joined = λ j below. ⊎_elim
          (λ earlier.
          let inside : get_or fields j 0 < length mid =
          omega (arith, there j 0 (omega arith), joins.same_length) in
          kept_here mid (get_or fields 0 0) (get_or fields i 0) first here (get_or fields j 0) (get_or fields 0 0)
          inside
          first (joins.joined j earlier))
          (λ reached.
          let last : j ≡ i = omega arith in
          ap (λ k. get_or (relabelled mid (get_or fields 0 0) (get_or fields i 0)) (get_or fields k 0) 0) last
          ∙ sym (joined_here mid (get_or fields 0 0) (get_or fields i 0) first here))
          (cases_lt j i);
      kept = λ a b a_in b_in same. kept_here mid (get_or fields 0 0) (get_or fields i 0) first here a b
          (omega (arith, joins.same_length)) (omega (arith, joins.same_length)) (joins.kept a b a_in b_in same);
      labelling = λ cs c listed is labelling.
          still_labelling mid (get_or fields 0 0) (get_or fields i 0) first here cs
          (linked_by cs c (get_or fields 0 0) (get_or fields i 0) listed
          (subst (λ l. list_any (λ named. named == get_or fields 0 0) l ≡ true) (sym is)
          (names_at fields 0 (omega arith)))
          (subst (λ l. list_any (λ named. named == get_or fields i 0) l ≡ true) (sym is) (names_at fields i within)))
          (joins.labelling cs c listed is labelling);
    }

pub joins_next_as : (old mid fields : List ℕ) (i : ℕ) → i < length fields → All (λ f. f < length old) fields
    → JoinsUpTo old mid fields i → (new : List ℕ)
    → new ≡ relabelled mid (get_or fields 0 0) (get_or fields i 0) → JoinsUpTo old new fields (i + 1)
joins_next_as old mid fields i within there joins new is =
    subst (λ l. JoinsUpTo old l fields (i + 1)) (sym is) (joins_next old mid fields i within there joins)
