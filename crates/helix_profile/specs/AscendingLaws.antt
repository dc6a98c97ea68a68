-- Lists of rows in strictly ascending order: their members, their joins, and that the members fix the list. Lemmas.
use Rattle.std.proofs.Common.{◌≡◌, List, [], ◌∷◌, ◌++◌, ◌⊎◌, inl, inr, refl, sym, ◌∙◌, ap, subst, ⊎_elim}
use Rattle.std.specs.List.{AllByRecursion}
use Rattle.std.specs.Cmp.{IsTotalOrder}
use Rattle.std.specs.Ordering.{ordering_reverse}
use Rattle.std.specs.declared.cmp.Ordering.{Ordering}
use Rattle.std.specs.declared.cmp.Ordering.TheVariants.{Less, Equal, Greater}
use Rattle.helix_values.specs.Order.{row_cmp, RowLess}
use Rattle.helix_values.specs.declared.cell.Cell.{Cell}
use Rattle.helix_profile.specs.Answer.{IsAscending, IsAmong, ReachesTo}

less_or_not : (order : Ordering) → (order ≡ Less) ⊎ ¬ (order ≡ Less)
less_or_not Less = inl refl
less_or_not Equal = inr (λ e. cc e)
less_or_not Greater = inr (λ e. cc e)

-- a row is above another one or not
pub above_or_not : (a b : List Cell) → RowLess a b ⊎ ¬ RowLess a b
above_or_not a b = less_or_not (row_cmp a b)

different : Less ≡ Greater → ⊥
different e = cc e

-- no row is both below and above another one
pub not_back : IsTotalOrder row_cmp → (a b : List Cell) → RowLess a b → RowLess b a → ⊥
not_back order a b below above = different (sym below ∙ (order.antisymm a b ∙ ap ordering_reverse above))

-- what is below all rows of a list is below each one
pub below_each : (row : List Cell) (rows : List (List Cell)) (other : List Cell) → AllByRecursion (RowLess row) rows
    → IsAmong rows other → RowLess row other
below_each row [] other below among = absurd among
below_each row (first ∷ rows) other below (inl here) = subst (λ r. RowLess row r) here below.0
below_each row (first ∷ rows) other below (inr later) = below_each row rows other below.1 later

-- and the other way round
pub below_all : (row : List Cell) (rows : List (List Cell))
    → ((other : List Cell) → IsAmong rows other → RowLess row other) → AllByRecursion (RowLess row) rows
below_all row [] each = tt
below_all row (first ∷ rows) each = (each first (inl refl), below_all row rows (λ other among. each other (inr among)))

-- two ascending lists of the same rows are one
module _ (order : IsTotalOrder row_cmp) where
  same_heads : (a b : List Cell) (rows others : List (List Cell)) → IsAscending (a ∷ rows) → IsAscending (b ∷ others)
      → IsAmong (b ∷ others) a → IsAmong (a ∷ rows) b → a ≡ b
  same_heads a b rows others ascending other_ascending (inl e) back = sym e
  same_heads a b rows others ascending other_ascending (inr later) (inl e) = e
  same_heads a b rows others ascending other_ascending (inr later) (inr back) =
      absurd (not_back order a b (below_each a rows b ascending.0 back) (below_each b others a other_ascending.0 later))

  kept_after : (a b row : List Cell) (rows others : List (List Cell)) → a ≡ b → IsAscending (a ∷ rows)
      → IsAmong rows row → IsAmong (b ∷ others) row → IsAmong others row
  kept_after a b row rows others same ascending among (inl e) =
      let below : RowLess a row = below_each a rows row ascending.0 among in
      let itself : RowLess a a = subst (λ r. RowLess a r) (sym (same ∙ e)) below in
      absurd (not_back order a a itself itself)
  kept_after a b row rows others same ascending among (inr later) = later

  joined : (a b : List Cell) (rows others : List (List Cell)) → a ≡ b → rows ≡ others → a ∷ rows ≡ b ∷ others
  joined a b rows others e f = ap (λ r. r ∷ rows) e ∙ ap (λ rs. b ∷ rs) f

  pub one_list : (rows others : List (List Cell)) → IsAscending rows → IsAscending others
      → ((row : List Cell) → IsAmong rows row → IsAmong others row)
      → ((row : List Cell) → IsAmong others row → IsAmong rows row) → rows ≡ others
  one_list [] [] ascending other_ascending to from = refl
  one_list [] (b ∷ others) ascending other_ascending to from = absurd (from b (inl refl))
  one_list (a ∷ rows) [] ascending other_ascending to from = absurd (to a (inl refl))
  one_list (a ∷ rows) (b ∷ others) ascending other_ascending to from =
      let same : a ≡ b = same_heads a b rows others ascending other_ascending (to a (inl refl)) (from b (inl refl)) in
      joined a b rows others same (one_list rows others ascending.1 other_ascending.1
      (λ row among. kept_after a b row rows others same ascending among (to row (inr among)))
      (λ row among. kept_after b a row others rows (sym same) other_ascending among (from row (inr among))))

-- the members of two lists, one after the other
pub among_left : (rows more : List (List Cell)) (row : List Cell) → IsAmong rows row → IsAmong (rows ++ more) row
among_left [] more row among = absurd among
among_left (first ∷ rows) more row (inl here) = inl here
among_left (first ∷ rows) more row (inr later) = inr (among_left rows more row later)

pub among_right : (rows more : List (List Cell)) (row : List Cell) → IsAmong more row → IsAmong (rows ++ more) row
among_right [] more row among = among
among_right (first ∷ rows) more row among = inr (among_right rows more row among)

pub among_either : (rows more : List (List Cell)) (row : List Cell) → IsAmong (rows ++ more) row
    → IsAmong rows row ⊎ IsAmong more row
among_either [] more row among = inr among
among_either (first ∷ rows) more row (inl here) = inl (inl here)
among_either (first ∷ rows) more row (inr later) =
    ⊎_elim (λ left. inl (inr left)) (λ right. inr right) (among_either rows more row later)

-- one ascending list below another one
pub ascending_joined : (rows more : List (List Cell)) → IsAscending rows → IsAscending more
    → ((row other : List Cell) → IsAmong rows row → IsAmong more other → RowLess row other) → IsAscending (rows ++ more)
ascending_joined [] more ascending more_ascending below = more_ascending
ascending_joined (first ∷ rows) more ascending more_ascending below = (
  below_all first (rows ++ more) (λ other among. ⊎_elim (λ left. below_each first rows other ascending.0 left)
      (λ right. below first other (inl refl) right) (among_either rows more other among)),
  ascending_joined rows more ascending.1 more_ascending (λ row other left right. below row other (inr left) right),
)

-- a member of an ascending list is its last row or below it
pub up_to_last : (rows : List (List Cell)) (last row : List Cell) → IsAscending (rows ++ last ∷ [])
    → IsAmong (rows ++ last ∷ []) row → (row ≡ last) ⊎ RowLess row last
up_to_last [] last row ascending (inl here) = inl (sym here)
up_to_last [] last row ascending (inr later) = absurd later
up_to_last (first ∷ rows) last row ascending (inl here) =
    inr (subst (λ r. RowLess r last) here (below_each first (rows ++ last ∷ []) last ascending.0
    (among_right rows (last ∷ []) last (inl refl))))
up_to_last (first ∷ rows) last row ascending (inr later) = up_to_last rows last row ascending.1 later

-- how far a list reaches, its last rows say
reaches_after : (first : List Cell) (rows : List (List Cell)) (next : List Cell) (more : List (List Cell))
    (row : List Cell) → ReachesTo (first ∷ (rows ++ next ∷ more)) row ≡ ReachesTo (rows ++ next ∷ more) row
reaches_after first [] next more row = refl
reaches_after first (second ∷ rows) next more row = refl

pub reaches_by_end : (rows : List (List Cell)) (next : List Cell) (more : List (List Cell)) (row : List Cell)
    → ReachesTo (rows ++ next ∷ more) row ≡ ReachesTo (next ∷ more) row
reaches_by_end [] next more row = refl
reaches_by_end (first ∷ rows) next more row = reaches_after first rows next more row ∙ reaches_by_end rows next more row
