-- The grammar of patterns, its rules and its meaning at known patterns.
use Rattle.std.proofs.Common.{◌≡◌, ℕ, suc, zero, true, false, [], ◌∷◌, refl, codes}
use Rattle.helix_expr.specs.declared.expr.Expr.{Expr, Empty, Chars}
use Rattle.helix_expr.specs.declared.expr.Expr.TheViews.{Seq, Alt}
use Rattle.helix_regex.specs.Pattern.{plain, escaped, single, range, dash, literal, dot, set, class, exactly, at_least, between, once, times, Pattern, end, bar, caret, dollar, one, group, pattern_text}
use Rattle.helix_regex.specs.Meaning.{single_has, are_separate, together}
use Rattle.helix_regex.specs.Faults.{bad_anchors, bad_ranges, bad_counts, is_too_large, positions}

abbrev a : Pattern → Pattern
a p = one (literal 97) once p

abbrev b : Pattern → Pattern
b p = one (literal 98) once p

-- what is written, and where the rule on anchors is broken
pub anchor_inside : pattern_text (a (caret (b end))) ≡ codes "a^b"
anchor_inside = refl

pub anchor_inside_at : bad_anchors (a (caret (b end))) ≡ 1 ∷ []
anchor_inside_at = refl

pub anchor_beside_bar : pattern_text (caret (a (bar (b end)))) ≡ codes "^a|b"
anchor_beside_bar = refl

pub anchor_beside_bar_at : bad_anchors (caret (a (bar (b end)))) ≡ 2 ∷ []
anchor_beside_bar_at = refl

pub anchors_at_the_ends : bad_anchors (caret (a (dollar end))) ≡ []
anchors_at_the_ends = refl

pub anchor_in_a_group : bad_anchors (group false (caret (a end)) once end) ≡ 1 ∷ []
anchor_in_a_group = refl

-- an anchor in a group, and a bar outside of every group before it
pub bar_before_an_anchor : bad_anchors (a (bar (group false (b (dollar end)) once end))) ≡ 4 ∷ 1 ∷ []
bar_before_an_anchor = refl

-- a bar in a group breaks nothing
pub bar_in_a_group : bad_anchors (caret (group true (a (bar (b end))) once end)) ≡ []
bar_in_a_group = refl

-- ranges
abbrev reversed : Pattern
reversed = one (class false (range (plain 98) (plain 97) ∷ [])) once end

pub reversed_text : pattern_text reversed ≡ codes "[b-a]"
reversed_text = refl

pub reversed_at : bad_ranges 0 reversed ≡ 1 ∷ []
reversed_at = refl

pub reversed_after_others : bad_ranges 0
    (a (one (class true (range (plain 97) (plain 98) ∷ range (escaped 93) (escaped 91) ∷ dash ∷ [])) once end)) ≡ 6 ∷ []
reversed_after_others = refl

-- counts
abbrev count_down : Pattern
count_down = one (literal 97) (times (between (codes "3") (codes "2")) false) end

pub count_down_text : pattern_text count_down ≡ codes "a{3,2}"
count_down_text = refl

pub count_down_at : bad_counts 0 count_down ≡ 1 ∷ []
count_down_at = refl

pub thousand : bad_counts 0 (one (literal 97) (times (exactly (codes "01000")) true) end) ≡ []
thousand = refl

pub above_thousand : bad_counts 0 (one dot (times (at_least (codes "1001")) true) end) ≡ 1 ∷ []
above_thousand = refl

-- positions and depth
abbrev large : Pattern
large = group false (one (literal 97) (times (exactly (codes "1000")) false) end) (times (exactly (codes "6")) false)
    end

pub large_text : pattern_text large ≡ codes "(a{1000}){6}"
large_text = refl

pub large_positions : positions large ≡ 6000
large_positions = refl

pub nothing_counts : positions (group false (one (literal 97) (times (exactly (codes "1000")) false) end)
    (times (exactly (codes "0")) false) end) ≡ 0
nothing_counts = refl

pub greatest_counts : positions (one dot (times (between (codes "2") (codes "5")) false) end) ≡ 5
greatest_counts = refl

pub least_counts : positions (one dot (times (at_least (codes "0")) false) end) ≡ 1
least_counts = refl

abbrev nested : ℕ → Pattern
nested zero = a end
nested (suc n) = group false (nested n) once end

pub sixty_five : is_too_large (nested 65) ≡ true
sixty_five = refl

pub sixty_four : is_too_large (nested 64) ≡ false
sixty_four = refl

-- sets
pub word_has : single_has (set 119) 95 ≡ true
word_has = refl

pub no_word_has_no_control : single_has (set 87) 0x85 ≡ false
no_word_has_no_control = refl

pub excluded_has_no_surrogate : single_has (class true (single (plain 97) ∷ [])) 0xD800 ≡ false
excluded_has_no_surrogate = refl

pub excluded_has : single_has (class true (single (plain 97) ∷ [])) 0xE9 ≡ true
excluded_has = refl

pub range_has_no_control : single_has (class false (range (plain 0x7E) (plain 0xA0) ∷ [])) 0x7F ≡ false
range_has_no_control = refl

pub separate : are_separate ((97, 97) ∷ (99, 100) ∷ []) ≡ true
separate = refl

pub touching : are_separate ((97, 97) ∷ (98, 100) ∷ []) ≡ false
touching = refl

-- the empty pattern, a piece, a sequence, and alternatives
abbrev of_a : Expr
of_a = Chars ((97, 97) ∷ [])

pub empty_is : together (record { pieces = []; others = [] }) ≡ Empty
empty_is = refl

pub piece_is : together (record { pieces = of_a ∷ []; others = [] }) ≡ of_a
piece_is = refl

pub sequence_is : together (record { pieces = of_a ∷ of_a ∷ []; others = [] }) ≡ Seq (of_a ∷ of_a ∷ [])
sequence_is = refl

-- `a|` is `a` or nothing
pub alternatives_are : together (record { pieces = of_a ∷ []; others = Empty ∷ [] }) ≡ Alt (of_a ∷ Empty ∷ [])
alternatives_are = refl
