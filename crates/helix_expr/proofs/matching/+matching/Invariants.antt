use Rattle.std.proofs.Common.{◌↔◌, ℕ, ◌+◌, ◌-◌, ◌*◌, ◌<◌, ◌≤◌, length, take, drop}
use Rattle.helix_expr.specs.Matching.{Matches, MatchInOrder, MatchSome}
use Rattle.helix_expr.specs.Inner.Splitting.{SplitsAt}
use Rattle.helix_expr.proofs.matching.+matching.Given as goal

abbrev pub decreases-matches : goal.decreases-matches
decreases-matches l = goal.size-matches l * 73786976294838206464

abbrev pub decreases-matches_some : goal.decreases-matches_some
decreases-matches_some l = goal.size-matches_some l * 73786976294838206464 + 1

abbrev pub decreases-matches_in_order : goal.decreases-matches_in_order
decreases-matches_in_order l = goal.size-matches_in_order l * 73786976294838206464 + length l.parts.now + 1

abbrev pub decreases-matches_repeated : goal.decreases-matches_repeated
decreases-matches_repeated l = goal.size-matches_repeated
    l * 73786976294838206464 + 3 * (l.least + length l.word.now) + 1

abbrev pub decreases-splits_off : goal.decreases-splits_off
decreases-splits_off l = goal.size-splits_off
    l * 73786976294838206464 + 3 * (l.least + length l.word.now - l.shortest) + 3

abbrev pub decreases-splits_at : goal.decreases-splits_at
decreases-splits_at l = goal.size-splits_at l * 73786976294838206464 + 3 * (l.least + length l.word.now - l.cut) + 2

abbrev pub invariant-matches_some-loop-part : goal.invariant-matches_some-loop-part
invariant-matches_some-loop-part l = MatchSome (drop l.part-index l.parts) l.word ↔ MatchSome l.parts l.word

abbrev pub invariant-matches_in_order-loop-cut : goal.invariant-matches_in_order-loop-cut
invariant-matches_in_order-loop-cut l = (k : ℕ) → k < l.cut → Matches l.part (take k l.word)
    → ¬ MatchInOrder l.rest (drop k l.word)

abbrev pub invariant-splits_off-loop-cut : goal.invariant-splits_off-loop-cut
invariant-splits_off-loop-cut l = (k : ℕ) → l.shortest ≤ k → k < l.cut
    → ¬ SplitsAt (Matches l.part) l.least l.most k l.word
