-- The members that pass one more test.
use Rattle.std.proofs.Common.{◌↔◌, ℕ, ℤ, List, [], ◌++◌, arith, append-nil, ⊎_elim}
use Rattle.std.specs.List.{Contains}
use Rattle.std.proofs.lemmas.List.Elements.{Contains-append_left, Contains-append_right, Contains-append_cases}
use Rattle.helix_ladders.specs.Scale.{Ladder}
use Rattle.helix_grids.specs.declared.window.Window.{Window}
use Rattle.helix_grids.specs.Inner.Window.{IsInWindow}
use Rattle.helix_grids.specs.Inner.Sieve.{IsSifted}
use Rattle.helix_grids.specs.Inner.Kept.{AreKept}

pub none_listed : (v : ℤ) → ¬ Contains [] v
none_listed v (k, within, is) = absurd (omega arith)

-- a list in order, beside nothing, has the numbers of the list
pub sorted_alone : (numbers sorted : List ℤ) → ((v : ℤ) → Contains sorted v ↔ Contains (numbers ++ []) v) → (v : ℤ) →
    Contains sorted v ↔ Contains numbers v
sorted_alone numbers sorted exact v = rw append-nil at (exact v)

module _ (ladder : Ladder) (window : Window) where
  -- the members that lie in a narrower window
  pub members_within : (members kept : List ℤ) → AreKept (IsSifted ladder window []) members kept → (v : ℤ) →
      Contains kept v ↔ (Contains members v × IsInWindow ladder window v)
  members_within members kept are_kept v = (
    (λ has. let was = (are_kept.exact v).0 has in (was.0, was.1.0)),
    (λ has. (are_kept.exact v).1 (has.0, (has.1, none_listed v))),
  )

  -- what a sieve with a narrower window leaves, whose excluded values are those that lie there
  pub sifted_within : (wide : Window) (excluded kept : List ℤ) →
      ((v : ℤ) → IsInWindow ladder window v → IsInWindow ladder wide v) →
      AreKept (IsSifted ladder window []) excluded kept → (v : ℤ) →
      IsSifted ladder window kept v ↔ (IsSifted ladder wide excluded v × IsInWindow ladder window v)
  sifted_within wide excluded kept narrower are_kept v = (
    (λ has. ((narrower v has.0, λ out. has.1 ((are_kept.exact v).1 (out, (has.0, none_listed v)))), has.0)),
    (λ has. (has.1, λ out. has.0.1 ((are_kept.exact v).0 out).0)),
  )

  -- the members that aren't among the numbers
  pub members_apart : (members numbers sorted kept : List ℤ) →
      ((v : ℤ) → Contains members v → IsInWindow ladder window v) → ((v : ℤ) → Contains sorted v ↔ Contains numbers v) →
      AreKept (IsSifted ladder window sorted) members kept → (v : ℤ) →
      Contains kept v ↔ (Contains members v × (¬ Contains numbers v))
  members_apart members numbers sorted kept within same are_kept v = (
    (λ has. let was = (are_kept.exact v).0 has in (was.0, λ out. was.1.1 ((same v).1 out))),
    (λ has. (are_kept.exact v).1 (has.0, (within v has.0, λ out. has.1 ((same v).0 out)))),
  )

  -- the numbers that a sieve leaves
  pub sifted_among : (excluded numbers sorted kept : List ℤ) → ((v : ℤ) → Contains sorted v ↔ Contains numbers v) →
      AreKept (IsSifted ladder window excluded) sorted kept → (v : ℤ) →
      Contains kept v ↔ (IsSifted ladder window excluded v × Contains numbers v)
  sifted_among excluded numbers sorted kept same are_kept v = (
    (λ has. let was = (are_kept.exact v).0 has in (was.1, (same v).0 was.0)),
    (λ has. (are_kept.exact v).1 ((same v).1 has.1, has.0)),
  )

  -- what a sieve leaves that also excludes the numbers among what it left
  pub sifted_apart : (excluded numbers others both : List ℤ) →
      AreKept (IsSifted ladder window excluded) numbers others →
      ((v : ℤ) → Contains both v ↔ Contains (excluded ++ others) v) → (v : ℤ) →
      IsSifted ladder window both v ↔ (IsSifted ladder window excluded v × (¬ Contains numbers v))
  sifted_apart excluded numbers others both are_kept joined v = (
    (λ has.
        let stays : ¬ Contains excluded v =
        λ out. has.1 ((joined v).1 (Contains-append_left excluded others v out)) in (
          (has.0, stays),
          λ out. has.1 ((joined v).1 (Contains-append_right excluded others v ((are_kept.exact v).1 (
            out,
            (has.0, stays),
          )))),
        )),
    (λ has. (
      has.0.0,
      λ out. ⊎_elim (λ old. has.0.1 old) (λ new. has.1 ((are_kept.exact v).0 new).0)
          (Contains-append_cases excluded others v ((joined v).0 out)),
    )),
  )

-- the members that are among the numbers
pub members_among : (members numbers sorted kept : List ℤ) → ((v : ℤ) → Contains sorted v ↔ Contains numbers v) →
    AreKept (Contains members) sorted kept → (v : ℤ) → Contains kept v ↔ (Contains members v × Contains numbers v)
members_among members numbers sorted kept same are_kept v = (
  (λ has. let was = (are_kept.exact v).0 has in (was.1, (same v).0 was.0)),
  (λ has. (are_kept.exact v).1 ((same v).1 has.1, has.0)),
)
