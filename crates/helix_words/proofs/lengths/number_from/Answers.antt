use Rattle.std.proofs.Common.{◌≡◌, ◌∙◌, ℕ, ◌<◌, ◌≤◌, List, length, Bor, Option, Some, None, Err, ap, sym}
use Rattle.std.specs.List.{HoldsAt, slice_get}
use Rattle.std.specs.Option.{MatchOption, option_copied}
use Rattle.std.proofs.lemmas.Option.{slice_get-get_or, slice_get_past}
use Rattle.std.proofs.lemmas.List.Sorted.{searched}
use Rattle.helix_words.proofs.LengthsMore.{rising, least_inserted}
use Rattle.helix_words.proofs.lengths.number_from.Goals as goal

-- a read of an index gives the number there, or None past the end
read_is : (xs : List ℕ) (i : ℕ) (r : Option (Bor ℕ))
    → MatchOption r (length xs ≤ i) (λ x. (i < length xs) × HoldsAt (λ y. x.now ≡ y) xs i)
    → option_copied r ≡ slice_get xs i
read_is xs i None past = sym (slice_get_past xs i past)
read_is xs i (Some x) read = ap Some (read.1 x.now) ∙ sym (slice_get-get_or xs i x.now read.0)

pub returns-in-Err : goal.returns-in-Err
returns-in-Err c =
    let is : c.copied.result ≡ slice_get c.args.numbers.now c.in-Err.index =
    c.copied.ensures ∙ read_is c.args.numbers.now c.in-Err.index c.get.result c.get.ensures.lookup.3 in
    let found = searched c.args.numbers.now c.args.from (Err c.in-Err.index) c.in-Err.ensures.position
    (rising c.args.numbers.now c.requires) in
    rw is (least_inserted c.args.numbers.now c.requires c.args.from c.in-Err.index found.1 found.2)
