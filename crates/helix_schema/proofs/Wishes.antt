-- The first wish that isn't filled.
use Rattle.std.proofs.Common.{◌≡◌, ℕ, zero, suc, ◌+◌, ◌<◌, Bool, true, not, List, [], ◌∷◌, Option, None, Some, get_or, length, map, slice_set, take, refl, sym, ◌∙◌, ap, subst, arith}
use Rattle.std.specs.Option.{IfNone, IfSome, IsSome, is_some}
use Rattle.std.specs.List.{AllByRecursion}
use Rattle.helix_values.specs.declared.cell.Cell.{Cell}
use Rattle.helix_schema.specs.Drafts.{IsDraft, Drafted, IsFilled, IsGoodWish, IsMembersFor, filled, filled_or, first_wanted, wanted_from, wanted_or, with_members}
use Rattle.helix_schema.specs.Inner.First.{IsFirstUnfilled}
use Rattle.helix_schema.specs.declared.mention.Mention.{Mention}
use Rattle.helix_schema.specs.declared.wish.Wish.{Wish}

-- all before an index are filled
abbrev pub AreFilledTo : List Wish → ℕ → Type 0
AreFilledTo wishes i = AllByRecursion IsFilled (take i wishes)

-- the next one is, too
pub filled_next : (wishes : List Wish) (i : ℕ) (wish : Wish) → AreFilledTo wishes i → i < length wishes
    → wish ≡ get_or wishes i wish → IsSome wish.members → AreFilledTo wishes (i + 1)
filled_next wishes i wish to within read some = subst (AreFilledTo wishes) (let same : suc i ≡ i + 1 = omega arith in same)
    (next wishes i wish to within read some)
  where
    next : (wishes : List Wish) (i : ℕ) (wish : Wish) → AreFilledTo wishes i → i < length wishes
        → wish ≡ get_or wishes i wish → IsSome wish.members → AreFilledTo wishes (suc i)
    next [] i wish to within read some = absurd (omega arith)
    next (first ∷ wishes) zero wish to within read some = (subst (λ w. IsSome w.members) read some, tt)
    next (first ∷ wishes) (suc i) wish to within read some = (to.0, next wishes i wish to.1 (omega arith) read some)

-- and where it isn't, it is the first
pub first_there : (wishes : List Wish) (i : ℕ) (wish : Wish) → AreFilledTo wishes i → i < length wishes
    → wish ≡ get_or wishes i wish → wish.members ≡ None → IsFirstUnfilled wishes i
first_there [] i wish to within read none = absurd (omega arith)
first_there (first ∷ wishes) zero wish to within read none = sym (ap (λ w. w.members) read) ∙ none
first_there (first ∷ wishes) (suc i) wish to within read none =
    (to.0, first_there wishes i wish to.1 (omega arith) read none)

-- what is wanted
some_members : (members : Option (List Cell)) (own : ℕ × Mention) (later : Option (ℕ × Mention))
    → IsSome members → wanted_or members own later ≡ later
some_members None own later some = absurd (cc)
some_members (Some members) own later some = refl

pub wanted_at : (wishes : List Wish) (i number : ℕ) (d : Wish) → IsFirstUnfilled wishes i
    → wanted_from number wishes ≡ Some (i + number, (get_or wishes i d).mention)
wanted_at [] i number d first = absurd first
wanted_at (own ∷ wishes) zero number d first =
    ap (λ m. wanted_or m (number, own.mention) (wanted_from (number + 1) wishes)) first
    ∙ ap (λ n. Some (n, own.mention)) (let same : number ≡ zero + number = omega arith in same)
wanted_at (own ∷ wishes) (suc i) number d first =
    some_members own.members (number, own.mention) (wanted_from (number + 1) wishes) first.0
    ∙ (wanted_at wishes i (number + 1) d first.1
    ∙ ap (λ n. Some (n, (get_or wishes i d).mention))
    (let same : i + (number + 1) ≡ suc i + number = omega arith in same))

pub none_wanted : (wishes : List Wish) (number : ℕ) → AllByRecursion IsFilled wishes → wanted_from number wishes ≡ None
none_wanted [] number all = refl
none_wanted (wish ∷ wishes) number all =
    some_members wish.members (number, wish.mention) (wanted_from (number + 1) wishes) all.0
    ∙ none_wanted wishes (number + 1) all.1

pub some_wanted : (wishes : List Wish) (i number : ℕ) → IsFirstUnfilled wishes i → IsSome (wanted_from number wishes)
some_wanted [] i number first = absurd first
some_wanted (own ∷ wishes) zero number first =
    subst (λ m. IsSome (wanted_or m (number, own.mention) (wanted_from (number + 1) wishes))) (sym first) refl
some_wanted (own ∷ wishes) (suc i) number first =
    subst IsSome (sym (some_members own.members (number, own.mention) (wanted_from (number + 1) wishes) first.0))
    (some_wanted wishes i (number + 1) first.1)

-- what is filled
some_later : (members : Option (List Cell)) (own later : List Wish) → IsSome members → filled_or members own later ≡ later
some_later None own later some = absurd (cc)
some_later (Some members) own later some = refl

pub filled_at : (wishes : List Wish) (i : ℕ) (d : Wish) (members : List Cell) → IsFirstUnfilled wishes i
    → slice_set wishes i (with_members (get_or wishes i d) members) ≡ filled wishes members
filled_at [] i d members first = absurd first
filled_at (own ∷ wishes) zero d members first =
    sym (ap (λ m. filled_or m (with_members own members ∷ wishes) (own ∷ filled wishes members)) first)
filled_at (own ∷ wishes) (suc i) d members first =
    ap (λ l. own ∷ l) (filled_at wishes i d members first.1)
    ∙ sym (some_later own.members (with_members own members ∷ wishes) (own ∷ filled wishes members) first.0)

-- a filled draft is one
by_members : (P : List Wish → Type 0) (own : Option (List Cell)) (here later : List Wish) → (own ≡ None → P here)
    → (IsSome own → P later) → P (filled_or own here later)
by_members P None here later first rest = first refl
by_members P (Some members) here later first rest = rest refl

same_mentions : (wishes : List Wish) (members : List Cell)
    → map (λ wish. wish.mention) (filled wishes members) ≡ map (λ wish. wish.mention) wishes
same_mentions [] members = refl
same_mentions (wish ∷ wishes) members =
    by_members (λ l. map (λ w. w.mention) l ≡ wish.mention ∷ map (λ w. w.mention) wishes) wish.members
    (with_members wish members ∷ wishes) (wish ∷ filled wishes members) (λ none. refl)
    (λ some. ap (λ l. wish.mention ∷ l) (same_mentions wishes members))

good_filled : (number : ℕ) (wishes : List Wish) (members : List Cell) → AllByRecursion IsGoodWish wishes
    → IfSome (wanted_from number wishes) (IsMembersFor members) → AllByRecursion IsGoodWish (filled wishes members)
good_filled number [] members good for_it = tt
good_filled number (wish ∷ wishes) members good for_it =
    by_members (AllByRecursion IsGoodWish) wish.members (with_members wish members ∷ wishes)
    (wish ∷ filled wishes members)
    (λ none. (
      subst (λ o. IfSome o (IsMembersFor members))
          (ap (λ m. wanted_or m (number, wish.mention) (wanted_from (number + 1) wishes)) none) for_it,
      good.1,
    ))
    (λ some. (
      good.0,
      good_filled (number + 1) wishes members good.1 (subst (λ o. IfSome o (IsMembersFor members))
          (some_members wish.members (number, wish.mention) (wanted_from (number + 1) wishes) some) for_it),
    ))

pub draft_filled : (draft : Drafted) (wishes : List Wish) (members : List Cell) → IsDraft draft
    → IfSome (first_wanted draft.wishes) (IsMembersFor members) → wishes ≡ filled draft.wishes members
    → IsDraft (record { alphabet = draft.alphabet; value = draft.value; wishes = wishes })
draft_filled draft wishes members is for_it filled_is =
    let P : List Wish → Type 0 =
    λ l. IsDraft (record { alphabet = draft.alphabet; value = draft.value; wishes = l }) in
    subst P (sym filled_is) (record {
      keys = is.keys;
      unbroken = is.unbroken;
      mentions = same_mentions draft.wishes members ∙ is.mentions;
      good = good_filled 1 draft.wishes members is.good for_it;
    })

pub no_wish : (o : Option (ℕ × Mention)) → is_some o ≡ true → o ≡ None → ⊥
no_wish None some none = absurd (cc)
no_wish (Some wanted) some none = absurd (cc)

-- whether one is wanted
pub wanting : (wishes : List Wish) (o : Option ℕ) (r : Bool) → IfSome o (IsFirstUnfilled wishes)
    → IfNone o (AllByRecursion IsFilled wishes) → r ≡ is_some o → r ≡ is_some (first_wanted wishes)
wanting wishes None r some none is = is ∙ sym (ap is_some (none_wanted wishes 1 none))
wanting wishes (Some i) r some none is = is ∙ sym (some_wanted wishes i 1 some)

pub none_of : (o : Option (List Cell)) (r : Bool) → is_some o ≡ not r → r ≡ true → o ≡ None
none_of None r is true_is = refl
none_of (Some members) r is true_is = absurd (cc)
