use Rattle.std.proofs.Common.{◌≡◌, ℕ, ℤ, ◌<◌, ◌≤◌, List, length, Bor, Option, Some, None, ap, sym, ◌∙◌, FitsSigned, to_z-of_z}
use Rattle.std.specs.Int.{w128}
use Rattle.std.specs.List.{HoldsAt, slice_get}
use Rattle.std.specs.Option.{MatchOption, option_copied}
use Rattle.std.proofs.lemmas.Option.{slice_get-get_or, slice_get_past}
use Rattle.helix_grids.proofs.Ascending.{first_where_searched}
use Rattle.helix_grids.proofs.search.first_from.Goals as goal

-- a read of a index gives the number there, or None past the end
read_is : (xs : List ℤ) (i : ℕ) (r : Option (Bor ℤ))
    → MatchOption r (length xs ≤ i) (λ x. (i < length xs) × HoldsAt (λ y. x.now ≡ y) xs i)
    → option_copied r ≡ slice_get xs i
read_is xs i None past = sym (slice_get_past xs i past)
read_is xs i (Some x) read = ap Some (read.1 x.now) ∙ sym (slice_get-get_or xs i x.now read.0)

pub returns-in-Err : goal.returns-in-Err
returns-in-Err c =
    let fits : FitsSigned w128 c.args.bound = c.ranges.bound in
    let is : c.copied.result ≡ slice_get c.args.values.now c.in-Err.index = c.copied.ensures
    ∙ read_is _ _ _ c.get.ensures.lookup.3 in
    rw is (first_where_searched c.args.values.now c.args.bound c.in-Err.index c.requires
    (simp to_z-of_z at c.in-Err.ensures.position))
