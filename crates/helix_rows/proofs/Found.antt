-- Regions asked one by one for the least of their cells.
use Rattle.std.proofs.Common.{◌≡◌, ◌⊎◌, inl, inr, ℕ, ◌+◌, ◌≤◌, Bool, true, false, List, [], ◌∷◌, ◌++◌, length, refl, sym, ap, subst, ⊎_elim, arith}
use Rattle.std.proofs.lemmas.List.{length-append}
use Rattle.std.proofs.lemmas.List.Elements.{Contains-append_left, Contains-push, Contains-push_cases}
use Rattle.std.specs.List.{Contains}
use Rattle.helix_rows.proofs.CellOrder.{less_less}
use Rattle.helix_rows.specs.Inner.Answers.{Best, HasNone, IsOffered, IsFound, IsFoundIf}
use Rattle.helix_rows.specs.Parts.{IsInPart}
use Rattle.helix_rows.specs.Regions.{Continues, IsLeastOf}
use Rattle.helix_values.specs.Order.{CellLess}
use Rattle.helix_values.specs.declared.cell.Cell.{Cell}

-- what is found among the regions asked so far
pub record IsBest (H : ℕ → List Cell → Type 0) (cells : List Cell) (Admitted : Cell → Type 0) (asked : List ℕ)
    (best : Best) : Type 0 where
  pub none : best.numbers ≡ [] → HasNone (Continues (IsInPart H asked) cells) Admitted
  pub found : ¬ (best.numbers ≡ []) → IsFound H asked cells Admitted best
  pub only : (n : ℕ) → Contains best.numbers n → Contains asked n
  pub few : length best.numbers ≤ length asked

empty_or_not : (ns : List ℕ) → (ns ≡ []) ⊎ ¬ (ns ≡ [])
empty_or_not [] = inl refl
empty_or_not (n ∷ ns) = inr (λ e. cc e)

not_pushed : (ns : List ℕ) (n : ℕ) → ¬ (ns ++ n ∷ [] ≡ [])
not_pushed [] n e = cc e
not_pushed (m ∷ ns) n e = cc e

pub none_in_nil : (n : ℕ) → Contains {X = ℕ} [] n → ⊥
none_in_nil n in_nil = omega (arith, in_nil.1)

pub only_one : (n m : ℕ) → Contains (n ∷ []) m → n ≡ m
only_one n m contains = ⊎_elim (λ in_nil. absurd (none_in_nil m in_nil)) (λ e. e) (Contains-push_cases [] n m contains)

module _ (H : ℕ → List Cell → Type 0) (cells : List Cell) (Admitted : Cell → Type 0) where
  -- a cell of one region
  pub of_region : (asked : List ℕ) (n : ℕ) (c : Cell) → Contains asked n → Continues (H n) cells c
      → Continues (IsInPart H asked) cells c
  of_region asked n c listed goes = record {
    rest = goes.rest;
    has = record { number = n; listed = listed; has = goes.has };
  }

  -- a cell of several regions is one of them
  abbrev pub region_of : (asked : List ℕ) (c : Cell) → Continues (IsInPart H asked) cells c
      → (n : ℕ) × Contains asked n × Continues (H n) cells c
  region_of asked c goes =
      (goes.has.number, goes.has.listed, record { rest = goes.rest; has = goes.has.has })

  pub best_none : (best : Best) → best.numbers ≡ [] → IsBest H cells Admitted [] best
  best_none best none = record {
    none = λ _ other goes. absurd (none_in_nil _ (region_of [] other goes).1);
    found = λ some. absurd (some none);
    only = λ n contains. subst (λ ns. Contains ns n) none contains;
    few = omega (arith, ap length none);
  }

  module _ (asked : List ℕ) (n : ℕ) where
    wider : (c : Cell) → Continues (IsInPart H asked) cells c → Continues (IsInPart H (asked ++ n ∷ [])) cells c
    wider c goes =
        let of = region_of asked c goes in
        of_region (asked ++ n ∷ []) of.0 c (Contains-append_left asked (n ∷ []) of.0 of.1) of.2

    -- a cell of these and one more is of these or of that one
    split : (c : Cell) → Continues (IsInPart H (asked ++ n ∷ [])) cells c
        → Continues (IsInPart H asked) cells c ⊎ Continues (H n) cells c
    split c goes =
        let of = region_of (asked ++ n ∷ []) c goes in
        ⊎_elim (λ old. inl (of_region asked of.0 c old of.2))
        (λ e. inr (subst (λ m. Continues (H m) cells c) (sym e) of.2)) (Contains-push_cases asked n of.0 of.1)

    last : Contains (asked ++ n ∷ []) n
    last = Contains-push asked n

    longer : length (asked ++ n ∷ []) ≡ length asked + 1
    longer = length-append asked (n ∷ [])

    module _ (old : Best) (best : IsBest H cells Admitted asked old) where
      -- the new region has no admitted cell
      none_more : HasNone (Continues (H n) cells) Admitted → IsBest H cells Admitted (asked ++ n ∷ []) old
      none_more none = record {
        none = λ empty other goes admitted. ⊎_elim (λ first. best.none empty other first admitted)
            (λ second. none other second admitted) (split other goes);
        found = λ some. record {
          least = record {
            has = wider old.cell (best.found some).least.has;
            admitted = (best.found some).least.admitted;
            least = λ other goes admitted. ⊎_elim (λ first. (best.found some).least.least other first admitted)
                (λ second. absurd (none other second admitted)) (split other goes);
          };
          all = λ m contains goes. ⊎_elim (λ first. (best.found some).all m first goes)
              (λ e. absurd (none old.cell (subst (λ k. Continues (H k) cells old.cell) (sym e) goes)
              (best.found some).least.admitted)) (Contains-push_cases asked n m contains);
          only = λ m contains. Contains-append_left asked (n ∷ []) m (best.only m contains);
        };
        only = λ m contains. Contains-append_left asked (n ∷ []) m (best.only m contains);
        few = omega (arith, best.few, longer);
      }

      module _ (c : Cell) (answer : IsLeastOf (Continues (H n) cells) Admitted c) where
        -- no cell of the earlier ones is before a new best
        before_none : (old.numbers ≡ []) ⊎ CellLess c old.cell → (other : Cell)
            → Continues (IsInPart H asked) cells other → Admitted other → ¬ (CellLess other c)
        before_none (inl empty) other goes admitted less = best.none empty other goes admitted
        before_none (inr better) other goes admitted less =
            by (empty_or_not old.numbers)
          where
            by : (old.numbers ≡ []) ⊎ ¬ (old.numbers ≡ []) → ⊥
            by (inl empty) = best.none empty other goes admitted
            by (inr some) = (best.found some).least.least other goes admitted (less_less other c old.cell less better)

        not_theirs : (old.numbers ≡ []) ⊎ CellLess c old.cell → ¬ (Continues (IsInPart H asked) cells c)
        not_theirs (inl empty) goes = best.none empty c goes answer.admitted
        not_theirs (inr better) goes = by (empty_or_not old.numbers)
          where
            by : (old.numbers ≡ []) ⊎ ¬ (old.numbers ≡ []) → ⊥
            by (inl empty) = best.none empty c goes answer.admitted
            by (inr some) = (best.found some).least.least c goes answer.admitted better

        better_more : (old.numbers ≡ []) ⊎ CellLess c old.cell
            → IsBest H cells Admitted (asked ++ n ∷ []) (record { numbers = n ∷ []; cell = c })
        better_more better = record {
          none = λ e. cc e;
          found = λ some. record {
            least = record {
              has = of_region (asked ++ n ∷ []) n c last answer.has;
              admitted = answer.admitted;
              least = λ other goes admitted. ⊎_elim (λ first. before_none better other first admitted)
                  (λ second. answer.least other second admitted) (split other goes);
            };
            all = λ m contains goes. ⊎_elim
                (λ first. absurd (not_theirs better (of_region asked m c first goes)))
                (λ e. subst (λ k. Contains (n ∷ []) k) e (Contains-push [] n)) (Contains-push_cases asked n m contains);
            only = only;
          };
          only = only;
          few = omega (arith, longer);
        }
          where
            only : (m : ℕ) → Contains (n ∷ []) m → Contains (asked ++ n ∷ []) m
            only m contains = subst (λ k. Contains (asked ++ n ∷ []) k) (only_one n m contains) last

        theirs_least : c ≡ old.cell → (other : Cell) → Continues (IsInPart H asked) cells other → Admitted other
            → ¬ (CellLess other old.cell)
        theirs_least same other goes admitted less = by (empty_or_not old.numbers)
          where
            by : (old.numbers ≡ []) ⊎ ¬ (old.numbers ≡ []) → ⊥
            by (inl empty) = best.none empty other goes admitted
            by (inr some) = (best.found some).least.least other goes admitted less

        theirs : c ≡ old.cell → (m : ℕ) → Contains asked m → Continues (H m) cells old.cell → Contains old.numbers m
        theirs same m contains goes = by (empty_or_not old.numbers)
          where
            by : (old.numbers ≡ []) ⊎ ¬ (old.numbers ≡ []) → Contains old.numbers m
            by (inl empty) = absurd (best.none empty old.cell (of_region asked m old.cell contains goes)
                (subst Admitted same answer.admitted))
            by (inr some) = (best.found some).all m contains goes

        equal_more : c ≡ old.cell
            → IsBest H cells Admitted (asked ++ n ∷ []) (record { numbers = old.numbers ++ n ∷ []; cell = old.cell })
        equal_more same = record {
          none = λ e. absurd (not_pushed old.numbers n e);
          found = λ some. record {
            least = record {
              has = of_region (asked ++ n ∷ []) n old.cell last (subst (λ d. Continues (H n) cells d) same answer.has);
              admitted = subst Admitted same answer.admitted;
              least = λ other goes admitted. ⊎_elim (λ first. theirs_least same other first admitted)
                  (λ second less. answer.least other second admitted (subst (λ d. CellLess other d) (sym same) less))
                  (split other goes);
            };
            all = λ m contains goes. ⊎_elim
                (λ first. Contains-append_left old.numbers (n ∷ []) m (theirs same m first goes))
                (λ e. subst (λ k. Contains (old.numbers ++ n ∷ []) k) e (Contains-push old.numbers n))
                (Contains-push_cases asked n m contains);
            only = only;
          };
          only = only;
          few = omega (arith, best.few, longer, length-append old.numbers (n ∷ []));
        }
          where
            only : (m : ℕ) → Contains (old.numbers ++ n ∷ []) m → Contains (asked ++ n ∷ []) m
            only m contains = ⊎_elim (λ first. Contains-append_left asked (n ∷ []) m (best.only m first))
                (λ e. subst (λ k. Contains (asked ++ n ∷ []) k) e last) (Contains-push_cases old.numbers n m contains)

        above_more : ¬ (old.numbers ≡ []) → CellLess old.cell c → IsBest H cells Admitted (asked ++ n ∷ []) old
        above_more some above = record {
          none = λ empty. absurd (some empty);
          found = λ _. record {
            least = record {
              has = wider old.cell (best.found some).least.has;
              admitted = (best.found some).least.admitted;
              least = λ other goes admitted. ⊎_elim (λ first. (best.found some).least.least other first admitted)
                  (λ second less. answer.least other second admitted (less_less other old.cell c less above))
                  (split other goes);
            };
            all = λ m contains goes. ⊎_elim (λ first. (best.found some).all m first goes)
                (λ e. absurd (answer.least old.cell (subst (λ k. Continues (H k) cells old.cell) (sym e) goes)
                (best.found some).least.admitted above)) (Contains-push_cases asked n m contains);
            only = λ m contains. Contains-append_left asked (n ∷ []) m (best.only m contains);
          };
          only = λ m contains. Contains-append_left asked (n ∷ []) m (best.only m contains);
          few = omega (arith, best.few, longer);
        }

      pub best_more : (new : Best) → IsOffered (Continues (H n) cells) Admitted n old new
          → IsBest H cells Admitted (asked ++ n ∷ []) new
      best_more new (inl (none, same)) =
          subst (λ b. IsBest H cells Admitted (asked ++ n ∷ []) b) (sym same) (none_more none)
      best_more new (inr (c, answer, inl (better, same))) =
          subst (λ b. IsBest H cells Admitted (asked ++ n ∷ []) b) (sym same) (better_more c answer better)
      best_more new (inr (c, answer, inr (inl (equal, same)))) =
          subst (λ b. IsBest H cells Admitted (asked ++ n ∷ []) b) (sym same) (equal_more c answer equal)
      best_more new (inr (c, answer, inr (inr (some, above, same)))) =
          subst (λ b. IsBest H cells Admitted (asked ++ n ∷ []) b) (sym same) (above_more c answer some above)

  -- what is found at the end
  pub best_all : (asked : List ℕ) (best : Best) (yes : Bool) → IsBest H cells Admitted asked best
      → (yes ≡ true → ¬ (best.numbers ≡ [])) → (yes ≡ false → best.numbers ≡ [])
      → IsFoundIf H asked cells Admitted yes best
  best_all asked best true is some empty = is.found (some refl)
  best_all asked best false is some empty = is.none (empty refl)
