-- Whether a cell extends depends only on the nodes that are seen from its node. Lemmas.
use Rattle.std.proofs.Common.{◌≡◌, ℕ, zero, suc, Option, None, Some, Contains, refl}
use Rattle.helix_values.specs.declared.cell.Cell.{Cell}
use Rattle.helix_search.specs.Extending.{Graph, HasPartner, Extends}

-- From one graph to another one: the nodes of a set, which has the neighbours of each of them, have no fewer cells, and
-- no fewer cells stand together.
pub record CarriesOver (Seen : ℕ → Type 0) (fixed : ℕ → Option Cell) (g h : Graph) : Type 0 where
  pub neighbours : (u c : ℕ) → Seen u → Contains (h.neighbours u) c → Contains (g.neighbours u) c × Seen c
  pub has : (u : ℕ) (v : Cell) → Seen u → g.Has u v → h.Has u v
  pub fixed_has : (u : ℕ) (v : Cell) → Seen u → fixed u ≡ Some v → g.Has u v
  pub joined : (u c : ℕ) (v w : Cell) → Seen u → Contains (h.neighbours u) c → g.Has u v → g.Has c w
      → g.Joined u c v w → h.Joined u c v w

module _ (Seen : ℕ → Type 0) (fixed : ℕ → Option Cell) (g h : Graph) (carries : CarriesOver Seen fixed g h) where
  has_own : (depth : ℕ) (from : Option ℕ) (u : ℕ) (v : Cell) → Extends g fixed depth from u v → g.Has u v
  has_own zero from u v none = absurd none
  has_own (suc depth) from u v extends = extends.0

  partner : (u c : ℕ) (v : Cell) (seen : Seen u) (contains : Contains (h.neighbours u) c) (has : g.Has u v)
      (One Other : Cell → Type 0) (o : Option Cell) → fixed c ≡ o → ((w : Cell) → One w → Other w × g.Has c w)
      → HasPartner (λ w. g.Joined u c v w) One o → HasPartner (λ w. h.Joined u c v w) Other o
  partner u c v seen contains has One Other (Some w) is on joined = carries.joined u c v w seen contains has
      (carries.fixed_has c w (carries.neighbours u c seen contains).1 is) joined
  partner u c v seen contains has One Other None is on some = let other = on some.0 some.1 in (
    some.0,
    other.0,
    carries.joined u c v some.0 seen contains has other.1 some.2,
  )

  -- a cell that extends in the one graph does so in the other
  pub carried_over : (depth : ℕ) (from : Option ℕ) (u : ℕ) (v : Cell) → Seen u → Extends g fixed depth from u v
      → Extends h fixed depth from u v
  carried_over zero from u v seen none = none
  carried_over (suc depth) from u v seen extends = (
    carries.has u v seen extends.0,
    λ c contains other. partner u c v seen contains extends.0 (λ w. Extends g fixed depth (Some u) c w)
        (λ w. Extends h fixed depth (Some u) c w) (fixed c) refl
        (λ w on. (
          carried_over depth (Some u) c w (carries.neighbours u c seen contains).1 on,
          has_own depth (Some u) c w on,
        ))
        (extends.1 c (carries.neighbours u c seen contains).0 other),
  )
