-- The allowed cells among the cells of a list.
use Rattle.std.proofs.Common.{◌≡◌, ◌↔◌, ℕ, ◌+◌, ◌<◌, ◌≤◌, true, false, List, [], ◌∷◌, ◌++◌, length, get_or, take, sym, subst, ⊎_elim, inl, inr}
use Rattle.std.specs.List.{All, Contains}
use Rattle.std.proofs.lemmas.List.{take_all}
use Rattle.std.proofs.lemmas.List.Elements.{Contains-append_left, Contains-push, Contains-push_cases, All-weaker, All-contains_itself}
use Rattle.helix_values.specs.Slot.{FitsSlot}
use Rattle.helix_values.specs.declared.cell.Cell.{Cell}
use Rattle.helix_values.specs.declared.cell.Cell.TheVariants as cell
use Rattle.helix_values.specs.declared.kind.Kind.{Kind}
use Rattle.helix_values.specs.declared.kind.Kind.TheVariants.{Boolean}
use Rattle.helix_values.specs.Universe.{InUniverse}
use Rattle.helix_domains.specs.Domain.{IsAllowed}
use Rattle.helix_domains.specs.declared.atom.SignedAtom.{SignedAtom}
use Rattle.helix_domains.specs.Form.{AreAscending}
use Rattle.helix_domains.specs.Inner.Listed.{AreKept, HaveSameCells}
use Rattle.helix_domains.specs.Inner.Values.{AreValuesOf}
use Rattle.helix_domains.specs.declared.values.Values.TheVariants.{Listed}
use Rattle.helix_domains.proofs.Walks.{contains_more}
use Rattle.helix_domains.proofs.OfKinds.{fits_slot}

module _ (Keeps : Cell → Type 0) (cells kept : List Cell) (i : ℕ) (cell : Cell) (within : i < length cells)
    (is : cell ≡ get_or cells i cell) (so_far : AreKept Keeps (take i cells) kept) where
  pub kept_more : Keeps cell → AreKept Keeps (take (i + 1) cells) (kept ++ cell ∷ [])
  kept_more keeps v = (
    (λ has. ⊎_elim
        (λ old. let was = (so_far v).0 old in ((contains_more cells i cell v within is).1 (inl was.0), was.1))
        (λ new. ((contains_more cells i cell v within is).1 (inr new), subst Keeps new keeps))
        (Contains-push_cases kept cell v has)),
    (λ has. ⊎_elim (λ old. Contains-append_left kept (cell ∷ []) v ((so_far v).1 (old, has.1)))
        (λ new. subst (Contains (kept ++ cell ∷ [])) new (Contains-push kept cell))
        ((contains_more cells i cell v within is).0 has.0)),
  )

  pub skipped_more : ¬ Keeps cell → AreKept Keeps (take (i + 1) cells) kept
  skipped_more goes v = (
    (λ has. let was = (so_far v).0 has in ((contains_more cells i cell v within is).1 (inl was.0), was.1)),
    (λ has. ⊎_elim (λ old. (so_far v).1 (old, has.1)) (λ new. absurd (goes (subst Keeps (sym new) has.1)))
        ((contains_more cells i cell v within is).0 has.0)),
  )

pub kept_all : (Keeps : Cell → Type 0) (cells kept : List Cell) (i : ℕ) → length cells ≤ i
    → AreKept Keeps (take i cells) kept → AreKept Keeps cells kept
kept_all Keeps cells kept i past so_far = subst (λ all. AreKept Keeps all kept) (take_all i cells past) so_far

-- the sorted allowed cells among some that have them all
module _ (k : Kind) (atoms : List SignedAtom) (cells kept sorted : List Cell)
    (have : (v : Cell) → IsAllowed k atoms v → Contains cells v) (are_kept : AreKept (IsAllowed k atoms) cells kept)
    (same : HaveSameCells kept sorted) where
  pub listed_exact : (v : Cell) → IsAllowed k atoms v ↔ Contains sorted v
  listed_exact v = (
    (λ allowed. (same v).1 ((are_kept v).1 (have v allowed, allowed))),
    (λ has. ((are_kept v).0 ((same v).0 has)).1),
  )

  pub listed_fit : All FitsSlot sorted
  listed_fit = All-weaker (Contains sorted) FitsSlot
      (λ v has. fits_slot k v ((listed_exact v).1 has).in_universe) sorted (All-contains_itself sorted)

-- the form that they have in a domain
pub listed_values : (k : Kind) (atoms : List SignedAtom) (cells kept sorted : List Cell)
    → ((v : Cell) → IsAllowed k atoms v → Contains cells v) → AreKept (IsAllowed k atoms) cells kept
    → HaveSameCells kept sorted → AreAscending sorted → AreValuesOf k atoms (Listed sorted)
listed_values k atoms cells kept sorted have are_kept same ascending = record {
  in_form = (ascending, listed_fit k atoms cells kept sorted have are_kept same);
  exact = listed_exact k atoms cells kept sorted have are_kept same;
}

-- a truth value is false or true
pub truths_have : (atoms : List SignedAtom) (truths : List Cell) → Contains truths (cell.Bool false)
    → Contains truths (cell.Bool true) → (v : Cell) → IsAllowed Boolean atoms v → Contains truths v
truths_have atoms truths off on v allowed = by v allowed.in_universe
  where
    by : (c : Cell) → InUniverse Boolean c → Contains truths c
    by (cell.Bool false) within = off
    by (cell.Bool true) within = on
    by cell.Null within = absurd within
    by (cell.Number units) within = absurd within
    by (cell.Moment at) within = absurd within
    by (cell.Text codes) within = absurd within
