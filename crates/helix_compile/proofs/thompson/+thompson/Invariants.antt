use Rattle.std.proofs.Common.{◌≡◌, ℕ, ◌++◌, ◌+◌, ◌*◌, List, length}
use Rattle.helix_expr.specs.declared.expr.Expr.{Expr}
use Rattle.helix_expr.specs.Matching.{Matches, MatchInOrder, Joined}
use Rattle.helix_compile.specs.Inner.Alternatives.{AreAlternatives}
use Rattle.helix_compile.specs.Inner.Nfa.{Grows, Builds}
use Rattle.helix_compile.specs.ExprRanges.{expr_ranges}
use Rattle.helix_compile.specs.Inner.RangeEnds.{AreAmong, ReadsAmong, ReadsMore, ranges_of_each}
use Rattle.helix_compile.specs.Inner.Repeats.{UpToNumber}
use Rattle.helix_compile.proofs.thompson.+thompson.Given as goal

abbrev pub decreases-build : goal.decreases-build
decreases-build l = goal.size-build l * 8

abbrev pub decreases-build_in_order : goal.decreases-build_in_order
decreases-build_in_order l = goal.size-build_in_order l * 8 + 1

abbrev pub decreases-build_alternatives : goal.decreases-build_alternatives
decreases-build_alternatives l = goal.size-build_alternatives l * 8 + 2

abbrev pub decreases-build_alternative : goal.decreases-build_alternative
decreases-build_alternative l = goal.size-build_alternative l * 8 + 1

abbrev pub decreases-build_repeat : goal.decreases-build_repeat
decreases-build_repeat l = goal.size-build_repeat l * 8 + 3

abbrev pub decreases-build_empty_repeat : goal.decreases-build_empty_repeat
decreases-build_empty_repeat l = goal.size-build_empty_repeat l * 8 + 1

abbrev pub decreases-build_more : goal.decreases-build_more
decreases-build_more l = goal.size-build_more l * 8 + 2

abbrev pub decreases-build_star : goal.decreases-build_star
decreases-build_star l = goal.size-build_star l * 8 + 1

abbrev pub decreases-build_optional : goal.decreases-build_optional
decreases-build_optional l = goal.size-build_optional l * 8 + 1

abbrev pub decreases-build_times : goal.decreases-build_times
decreases-build_times l = goal.size-build_times l * 8 + 1

-- the parts after those that are left are built
abbrev pub invariant-build_in_order-loop-left : goal.invariant-build_in_order-loop-left
invariant-build_in_order-loop-left l = Grows l.initial.nfa l.nfa
    × ((done : List Expr) × (l.parts ≡ l.left ++ done) × Builds l.initial.nfa l.nfa l.first (MatchInOrder done) l.next)
    × ReadsMore l.initial.nfa l.nfa (ranges_of_each l.parts)

abbrev pub decreases-build_in_order-loop-left : goal.decreases-build_in_order-loop-left
decreases-build_in_order-loop-left l = length l.left

abbrev pub invariant-build_alternatives-loop-left : goal.invariant-build_alternatives-loop-left
invariant-build_alternatives-loop-left l = (done : List Expr) × (l.parts ≡ l.left ++ done)
    × AreAlternatives l.fn.nfa l.nfa l.first l.chars done l.next
    × ((all : List (ℕ × ℕ)) → AreAmong (ranges_of_each l.parts) all → ReadsAmong l.fn.nfa all
    → AreAmong l.chars all × ReadsAmong l.nfa all)

abbrev pub decreases-build_alternatives-loop-left : goal.decreases-build_alternatives-loop-left
decreases-build_alternatives-loop-left l = length l.left

abbrev pub invariant-build_optional-loop : goal.invariant-build_optional-loop
invariant-build_optional-loop l = Grows l.initial.nfa l.nfa
    × Builds l.initial.nfa l.nfa l.first (UpToNumber (Matches l.part) l.counter) l.next
    × ReadsMore l.initial.nfa l.nfa (expr_ranges l.part)

abbrev pub invariant-build_times-loop : goal.invariant-build_times-loop
invariant-build_times-loop l = Grows l.initial.nfa l.nfa
    × Builds l.initial.nfa l.nfa l.first (Joined (Matches l.part) l.counter) l.next
    × ReadsMore l.initial.nfa l.nfa (expr_ranges l.part)
