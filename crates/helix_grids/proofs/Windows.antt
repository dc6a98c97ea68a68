-- The values of a window, from a bound on.
use Rattle.std.proofs.Common.{◌≡◌, ◌↔◌, ℕ, ◌<◌, ◌≤◌, min, ℤ, ◌≤ℤ◌, Option, Some, None, arith, subst, sym, ⊎_elim}
use Rattle.std.proofs.lemmas.Bool.{cases_lt}
use Rattle.std.specs.Option.{IfSome}
use Rattle.std.specs.Int.{int_max}
use Rattle.std.proofs.lemmas.Int.{ints, clamps}
use Rattle.helix_ladders.specs.Scale.{Ladder, IsLadder}
use Rattle.helix_grids.specs.declared.window.Window.{Window}
use Rattle.helix_grids.specs.Tests.{IsLeastOf}
use Rattle.helix_grids.specs.Inner.Window.{IsInWindow, IsBetween}
use Rattle.helix_grids.proofs.LeastValues.{least_of_same}

-- a bound and the least value of a window make one bound
pub record IsLater (bound least from : ℤ) : Type 0 where
  pub bound_reached : bound ≤ℤ from
  pub least_reached : least ≤ℤ from
  pub is_least : (v : ℤ) → bound ≤ℤ v → least ≤ℤ v → from ≤ℤ v

module _ (ladder : Ladder) (window : Window) (bound from : ℤ) (answer : Option ℤ) (range : ladder.low ≤ℤ window.least)
    (later : IsLater bound window.least from) where
  -- the least value on the grids of a window, from the later bound to its end, is the least one of the window
  least_in_window : (On : ℤ → Type 0) →
      ((v : ℤ) → On v → ladder.IsOn window.on v × IfSome window.off (λ level. ¬ ladder.IsOn level v)) →
      ((v : ℤ) → ladder.IsOn window.on v → IfSome window.off (λ level. ¬ ladder.IsOn level v) → On v) →
      IsLeastOf (IsBetween ladder.low window.most On from) answer →
      IsLeastOf (λ v. IsInWindow ladder window v × (bound ≤ℤ v)) answer
  least_in_window On opened closed least = least_of_same _ _ answer
      (λ v has. (
        record {
          from_least = omega (arith, ints, later.least_reached, has.reached);
          to_most = has.to_most;
          on_grid = (opened v has.on_grid).0;
          off_grid = (opened v has.on_grid).1;
        },
        omega (arith, ints, later.bound_reached, has.reached),
      ))
      (λ v has. record {
        from_low = omega (arith, ints, has.0.from_least);
        to_most = has.0.to_most;
        on_grid = closed v has.0.on_grid has.0.off_grid;
        reached = later.is_least v has.1 has.0.from_least;
      })
      least

  pub least_on : window.off ≡ None → IsLeastOf (IsBetween ladder.low window.most (ladder.IsOn window.on) from) answer →
      IsLeastOf (λ v. IsInWindow ladder window v × (bound ≤ℤ v)) answer
  least_on none = least_in_window (ladder.IsOn window.on)
      (λ v on. (on, subst (λ off. IfSome off (λ level. ¬ ladder.IsOn level v)) (sym none) tt))
      (λ v on off. on)

  pub least_on_and_off : (other : ℕ) → window.off ≡ Some other →
      IsLeastOf (IsBetween ladder.low window.most (λ v. ladder.IsOn window.on v × (¬ ladder.IsOn other v)) from) answer
      →
      IsLeastOf (λ v. IsInWindow ladder window v × (bound ≤ℤ v)) answer
  least_on_and_off other some = least_in_window (λ v. ladder.IsOn window.on v × (¬ ladder.IsOn other v))
      (λ v on. (on.0, subst (λ off. IfSome off (λ level. ¬ ladder.IsOn level v)) (sym some) on.1))
      (λ v on off. (on, subst (λ off. IfSome off (λ level. ¬ ladder.IsOn level v)) some off))

pub later_max : (bound least from : ℤ) → from ≡ int_max bound least → IsLater bound least from
later_max bound least from is = record {
  bound_reached = omega (arith, ints, clamps);
  least_reached = omega (arith, ints, clamps);
  is_least = λ v past_bound past_least. omega (arith, ints, clamps);
}

-- a window's values from a bound on
pub exact_least : (ladder : Ladder) (window : Window) (bound least : ℤ) → IsLater window.least bound least →
    (v : ℤ) → IsInWindow ladder (record window { least = least }) v ↔ (IsInWindow ladder window v × (bound ≤ℤ v))
exact_least ladder window bound least later v = (
  (λ has. (
    record {
      from_least = omega (arith, ints, later.bound_reached, has.from_least);
      to_most = has.to_most;
      on_grid = has.on_grid;
      off_grid = has.off_grid;
    },
    omega (arith, ints, later.least_reached, has.from_least),
  )),
  (λ has. record {
    from_least = later.is_least v has.0.from_least has.1;
    to_most = has.0.to_most;
    on_grid = has.0.on_grid;
    off_grid = has.0.off_grid;
  }),
)

-- a window's values off the grid of one more level, where one level is taken for that and the window's
with_both : (ladder : Ladder) (window : Window) (level both : ℕ) (v : ℤ) →
    ((¬ ladder.IsOn both v) ↔ (IfSome window.off (λ l. ¬ ladder.IsOn l v) × (¬ ladder.IsOn level v))) →
    IsInWindow ladder (record window { off = Some both }) v ↔ (IsInWindow ladder window v × (¬ ladder.IsOn level v))
with_both ladder window level both v outs = (
  (λ has. let apart = outs.0 has.off_grid in (
    record { from_least = has.from_least; to_most = has.to_most; on_grid = has.on_grid; off_grid = apart.0 },
    apart.1,
  )),
  (λ has. record {
    from_least = has.0.from_least;
    to_most = has.0.to_most;
    on_grid = has.0.on_grid;
    off_grid = outs.1 (has.0.off_grid, has.1);
  }),
)

pub exact_off_none : (ladder : Ladder) (window : Window) (level both : ℕ) (v : ℤ) → window.off ≡ None →
    both ≡ level →
    IsInWindow ladder (record window { off = Some both }) v ↔ (IsInWindow ladder window v × (¬ ladder.IsOn level v))
exact_off_none ladder window level both v none is = with_both ladder window level both v (
  (λ out. (
    subst (λ off. IfSome off (λ l. ¬ ladder.IsOn l v)) (sym none) tt,
    λ on. out (subst (λ l. ladder.IsOn l v) (sym is) on),
  )),
  (λ outs on. outs.1 (subst (λ l. ladder.IsOn l v) is on)),
)

-- a grid off which a value lies makes it lie off each coarser one: the finer of two levels is taken for both
pub exact_off_some : (ladder : Ladder) → IsLadder ladder → (window : Window) (off level both : ℕ) (v : ℤ) →
    window.off ≡ Some off → off < ladder.levels → level < ladder.levels → both ≡ min off level →
    IsInWindow ladder (record window { off = Some both }) v ↔ (IsInWindow ladder window v × (¬ ladder.IsOn level v))
exact_off_some ladder is_ladder window off level both v some within inside is = with_both ladder window level both v (
  (λ out. (
    subst (λ other. IfSome other (λ l. ¬ ladder.IsOn l v)) (sym some)
        (λ on. out (is_ladder.coarser off both v (omega arith) within on)),
    (λ on. out (is_ladder.coarser level both v (omega arith) inside on)),
  )),
  (λ outs on. ⊎_elim
      (λ less. let same : both ≡ off = omega arith in
      let apart : ¬ ladder.IsOn off v = subst (λ other. IfSome other (λ l. ¬ ladder.IsOn l v)) some outs.0 in
      apart (subst (λ l. ladder.IsOn l v) same on))
      (λ more. let same : both ≡ level = omega arith in
      outs.1 (subst (λ l. ladder.IsOn l v) same on)) (cases_lt off level)),
)

-- a window's level is one of the ladder's
pub off_within : (levels off : ℕ) (window : Window) → window.off ≡ Some off →
    IfSome window.off (λ level. level < levels) → off < levels
off_within levels off window some within = subst (λ other. IfSome other (λ level. level < levels)) some within
