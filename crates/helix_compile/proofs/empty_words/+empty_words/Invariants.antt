use Rattle.std.proofs.Common.{◌*◌, ◌+◌, drop}
use Rattle.helix_compile.proofs.EmptyWords.{Silent}
use Rattle.helix_compile.proofs.empty_words.+empty_words.Given as goal

abbrev pub decreases-matches_only_empty : goal.decreases-matches_only_empty
decreases-matches_only_empty l = goal.size-matches_only_empty l * 4

abbrev pub decreases-match_only_empty : goal.decreases-match_only_empty
decreases-match_only_empty l = goal.size-match_only_empty l * 4 + 1

-- where what is left reads nothing, all of them do
abbrev pub invariant-match_only_empty-loop-part : goal.invariant-match_only_empty-loop-part
invariant-match_only_empty-loop-part l = Silent (drop l.part-index l.parts) → Silent l.parts
