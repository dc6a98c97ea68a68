use Rattle.std.proofs.Common.{◌≡◌, ◌-◌, List, [], ◌∷◌, take, length, sym, subst, arith, append-nil}
use Rattle.helix_expr.specs.declared.expr.Expr.{Expr}
use Rattle.helix_expr.specs.Matching.{Matches, MatchSome, Joined}
use Rattle.helix_compile.specs.declared.nfa.State.{State}
use Rattle.helix_compile.specs.Inner.Alternatives.{AreAlternatives}
use Rattle.helix_compile.specs.Inner.Nfa.{Builds}
use Rattle.helix_compile.specs.Inner.Repeats.{UpToNumber}
use Rattle.helix_compile.proofs.Arms.{parts_split, ok_map, empty_arm, chars_arm, seq_arm, alt_arm, repeat_arm, star_arm, stop_arm, optional_arm, repeated_arm, ok_grows, in_order_more, times_more, optional_start, optional_more, unasked_arm, never_arm, once_arm}
use Rattle.helix_compile.proofs.Gathering.{alternatives_none, alternative_gathered, alternative_built, ok_grows_more, all_built}
use Rattle.helix_compile.specs.ExprRanges.{expr_ranges}
use Rattle.helix_compile.specs.Inner.RangeEnds.{ranges_of_each}
use Rattle.helix_compile.proofs.ReadRanges.{among_part_of, reads_none, reads_then, optional_reads, reads_part, alternatives_read_none, chars_reads, seq_reads, alt_reads, repeat_reads, gathered_reads, split_reads, all_read, then_reads, star_reads}
use Rattle.helix_compile.proofs.Stars.{builds_star}
use Rattle.helix_compile.proofs.thompson.+thompson.Goals as goal

pub build-returns-in-Empty-clause-leads : goal.build-returns-in-Empty-clause-leads
build-returns-in-Empty-clause-leads t c =
    empty_arm c.args.nfa.now c.args.nfa.now c.args.next c.args.expr.now c.in-Empty.is

pub build-returns-in_ok-copy-in-Chars-clause-grows : goal.build-returns-in_ok-copy-in-Chars-clause-grows
build-returns-in_ok-copy-in-Chars-clause-grows t c =
    ok_grows c.args.nfa.now c.add.new.self _ c.add.result c.add.ensures.added

pub build-returns-in_ok-copy-in-Chars-clause-leads : goal.build-returns-in_ok-copy-in-Chars-clause-leads
build-returns-in_ok-copy-in-Chars-clause-leads t c =
    chars_arm c.args.nfa.now c.add.new.self c.args.next c.args.expr.now c.in-Chars.ranges c.in_ok-copy-in-Chars.field-0
    c.add.result
    c.in-Chars.is c.in_ok-copy-in-Chars.ensures c.add.ensures.added c.add.ensures.number

pub build-returns-in-Seq-clause-leads : goal.build-returns-in-Seq-clause-leads
build-returns-in-Seq-clause-leads t c =
    seq_arm c.args.nfa.now c.build_in_order.new.nfa c.args.next c.args.expr.now c.in-Seq.parts c.as_slice.result.now
    c.build_in_order.result c.in-Seq.is c.as_slice.ensures c.build_in_order.ensures.leads

pub build-returns-in-Alt-clause-leads : goal.build-returns-in-Alt-clause-leads
build-returns-in-Alt-clause-leads t c =
    alt_arm c.args.nfa.now c.build_alternatives.new.nfa c.args.next c.args.expr.now c.in-Alt.parts
    c.as_slice-in-Alt.result.now c.build_alternatives.result c.in-Alt.is c.as_slice-in-Alt.ensures
    c.build_alternatives.ensures.leads

pub build-returns-in-Repeat-clause-leads : goal.build-returns-in-Repeat-clause-leads
build-returns-in-Repeat-clause-leads t c =
    repeat_arm c.args.nfa.now c.build_repeat.new.nfa c.args.next c.args.expr.now c.in-Repeat.part c.get.result.now
    c.in-Repeat.least c.in-Repeat.most c.build_repeat.result c.in-Repeat.is c.get.ensures c.build_repeat.ensures.leads

pub build_in_order-loop-left-preserved : goal.build_in_order-loop-left-preserved
build_in_order-loop-left-preserved t c =
    let more = in_order_more c.args.nfa.now c.loop-left.nfa c.build.new.nfa c.args.parts.now c.loop-left.left.now
    c.loop-left.invariant.1.0 c.part-item.result
    c.loop-left.invariant.1.1 c.in-len1-up.len_at_least c.part-item.is c.loop-left.first c.in_ok-first.first c.args.next
    c.loop-left.invariant.0 c.loop-left.invariant.1.2 c.in_ok-first.ensures.grows c.in_ok-first.ensures.leads in (
      more.0,
      more.1,
      reads_part c.args.nfa.now c.loop-left.nfa c.build.new.nfa c.args.parts.now
          (take (length c.loop-left.left.now - 1) c.loop-left.left.now) c.loop-left.invariant.1.0 c.part-item.result
          (parts_split [] [] [] c.args.parts.now c.loop-left.left.now c.loop-left.invariant.1.0 c.part-item.result
          c.loop-left.invariant.1.1 c.in-len1-up.len_at_least c.part-item.is) c.loop-left.invariant.2
          c.in_ok-first.ensures.reads,
    )

pub build_more-returns-in-None-clause-leads : goal.build_more-returns-in-None-clause-leads
build_more-returns-in-None-clause-leads t c =
    star_arm c.args.nfa.now c.build_star.new.nfa c.args.next (Matches c.args.part.now) c.args.limits.0 c.args.limits.1
    c.build_star.result c.in-None.is c.build_star.ensures.leads

pub build_repeat-returns-clause-leads : goal.build_repeat-returns-clause-leads
build_repeat-returns-clause-leads t c =
    repeated_arm c.args.nfa.now c.build_more.new.nfa c.build_times.new.nfa c.in_ok-rest.rest c.args.next c.args.limits.0
    c.args.limits.1 (Matches c.args.part.now) c.build_times.result c.in_ok-rest.ensures.grows
    c.in_ok-rest.ensures.leads c.build_times.ensures.grows c.build_times.ensures.leads

pub build_more-returns-then-most-limits-clause-leads : goal.build_more-returns-then-most-limits-clause-leads
build_more-returns-then-most-limits-clause-leads t c =
    stop_arm c.args.nfa.now c.add.new.self c.args.next (Matches c.args.part.now) c.args.limits.0 c.in-Some.most
    c.args.limits.1 c.add.result c.in-Some.is c.if-most-limits.true c.add.ensures.added c.add.ensures.number

pub build_more-returns-else-most-limits-clause-leads : goal.build_more-returns-else-most-limits-clause-leads
build_more-returns-else-most-limits-clause-leads t c =
    optional_arm c.args.nfa.now c.build_optional.new.nfa c.args.next (Matches c.args.part.now) c.args.limits.0
    c.in-Some.most c.args.limits.1 c.build_optional.result c.in-Some.is c.if-most-limits.false
    c.build_optional.ensures.leads

pub build_optional-loop-init : goal.build_optional-loop-init
build_optional-loop-init t c =
    let start = optional_start c.args.nfa.now (Matches c.args.part.now) c.args.next in
    (start.0, start.1, reads_none c.args.nfa.now (expr_ranges c.args.part.now))

pub build_optional-loop-preserved : goal.build_optional-loop-preserved
build_optional-loop-preserved t c =
    let more = optional_more c.args.nfa.now c.loop.nfa c.build.new.nfa (Matches c.args.part.now) c.loop.counter
    c.loop.first c.in_ok-one.one c.args.next
    c.loop.invariant.0 c.in_ok-one.ensures.grows c.in_ok-one.ensures.leads c.add.new.self c.in_ok-first.first
    c.in_ok-first.ensures.added c.in_ok-first.ensures.number c.loop.invariant.1 in (
      more.0,
      more.1,
      optional_reads c.args.nfa.now c.loop.nfa c.build.new.nfa c.add.new.self (expr_ranges c.args.part.now)
          c.in_ok-one.one c.args.next c.loop.invariant.2 c.in_ok-one.ensures.reads c.in_ok-first.ensures.added,
    )

pub build_optional-returns-clause-leads : goal.build_optional-returns-clause-leads
build_optional-returns-clause-leads t c =
    let is : c.loop.counter ≡ c.args.most = omega (arith, c.loop-test.false, c.loop.auto.counter-end) in
    subst (λ n. Builds c.args.nfa.now c.loop.nfa c.loop.first (UpToNumber (Matches c.args.part.now) n) c.args.next) is
    c.loop.invariant.1

pub build_star-returns-clause-leads : goal.build_star-returns-clause-leads
build_star-returns-clause-leads t c =
    builds_star c.args.nfa.now c.build.new.nfa c.replace.new.self c.in_ok-split.split c.in_ok-first.first c.args.next
    (Matches c.args.part.now) c.add.new.self
    c.in_ok-split.ensures.added c.in_ok-split.ensures.number c.in_ok-first.ensures.grows c.replace.ensures
    c.in_ok-first.ensures.leads

pub build_times-loop-preserved : goal.build_times-loop-preserved
build_times-loop-preserved t c =
    let more = times_more c.args.nfa.now c.loop.nfa c.build.new.nfa (Matches c.args.part.now) c.loop.counter
    c.loop.first c.in_ok-first.first c.args.next
    c.loop.invariant.0 c.in_ok-first.ensures.grows c.in_ok-first.ensures.leads c.loop.invariant.1 in (
      more.0,
      more.1,
      reads_then c.args.nfa.now c.loop.nfa c.build.new.nfa (expr_ranges c.args.part.now) c.loop.invariant.2
          c.in_ok-first.ensures.reads,
    )

pub build_times-returns-clause-leads : goal.build_times-returns-clause-leads
build_times-returns-clause-leads t c =
    let is : c.loop.counter ≡ c.args.count = omega (arith, c.loop-test.false, c.loop.auto.counter-end) in
    subst (λ n. Builds c.args.nfa.now c.loop.nfa c.loop.first (Joined (Matches c.args.part.now) n) c.args.next) is
    c.loop.invariant.1

pub build_empty_repeat-returns-then-limits-eq0-clause-leads :
    goal.build_empty_repeat-returns-then-limits-eq0-clause-leads
build_empty_repeat-returns-then-limits-eq0-clause-leads t c =
    unasked_arm c.args.nfa.now c.args.next c.args.limits.0 c.args.limits.1 (Matches c.args.part.now) c.requires
    c.if-limits-eq0.true

pub build_empty_repeat-returns-then-is_below-clause-grows : goal.build_empty_repeat-returns-then-is_below-clause-grows
build_empty_repeat-returns-then-is_below-clause-grows t c =
    ok_grows c.args.nfa.now c.add.new.self _ c.add.result c.add.ensures.added

pub build_empty_repeat-returns-then-is_below-clause-leads : goal.build_empty_repeat-returns-then-is_below-clause-leads
build_empty_repeat-returns-then-is_below-clause-leads t c =
    never_arm c.args.nfa.now c.add.new.self c.args.next c.args.limits.0 c.args.limits.1 (Matches c.args.part.now)
    c.add.result
    (c.is_below.ensures.below c.if-is_below.true) c.add.ensures.added c.add.ensures.number

pub build_empty_repeat-returns-clause-leads : goal.build_empty_repeat-returns-clause-leads
build_empty_repeat-returns-clause-leads t c =
    once_arm c.args.nfa.now c.build.new.nfa c.args.next c.args.limits.0 c.args.limits.1 (Matches c.args.part.now)
    c.build.result
    c.requires (omega (arith, c.if-limits-eq0.false)) (c.is_below.ensures.not_below c.if-is_below.false)
    c.build.ensures.leads

pub build_alternative-returns-in-Some-clause-alternatives : goal.build_alternative-returns-in-Some-clause-alternatives
build_alternative-returns-in-Some-clause-alternatives t c =
    λ start done old. alternative_gathered start c.args.nfa.now c.args.ends.0 c.args.chars.now c.in-Some.ranges.now
    c.append_ranges.new.ranges c.args.part.now done c.args.ends.1
    c.in-Some.ensures c.in_ok-append_ranges.ensures old

pub build_alternative-returns-clause-alternatives : goal.build_alternative-returns-clause-alternatives
build_alternative-returns-clause-alternatives t c =
    alternative_built c.args.nfa.now c.build.new.nfa c.add.new.self c.args.ends.0 c.in_ok-first.first c.args.ends.1
    c.args.chars.now c.args.part.now c.add.result
    c.in_ok-first.ensures.grows c.in_ok-first.ensures.leads c.add.ensures.added c.add.ensures.number

pub build_alternatives-loop-left-init : goal.build_alternatives-loop-left-init
build_alternatives-loop-left-init t c = (
  [],
  sym (append-nil c.args.parts.now),
  alternatives_none c.args.nfa.now c.add.new.self c.in_ok-first.first c.new-chars.result c.args.next
      c.in_ok-first.ensures.added c.in_ok-first.ensures.number c.new-chars.ensures,
  alternatives_read_none c.args.nfa.now c.add.new.self c.new-chars.result (ranges_of_each c.args.parts.now)
      c.in_ok-first.ensures.added c.new-chars.ensures,
)

pub build_alternatives-loop-left-preserved : goal.build_alternatives-loop-left-preserved
build_alternatives-loop-left-preserved t c =
    let split = parts_split [] [] [] c.args.parts.now c.loop-left.left.now c.loop-left.invariant.0 c.part-item.result
    c.loop-left.invariant.1 c.in-len1-up.len_at_least c.part-item.is in (
      c.part-item.result ∷ c.loop-left.invariant.0,
      split,
      c.in_ok-first-2.ensures.alternatives c.args.nfa.now c.loop-left.invariant.0 c.loop-left.invariant.2,
      (λ all among reads. c.in_ok-first-2.ensures.reads all
          (λ range has. among range (among_part_of c.args.parts.now
          (take (length c.loop-left.left.now - 1) c.loop-left.left.now) c.loop-left.invariant.0 c.part-item.result
          split range has)) (c.loop-left.invariant.3 all among reads)),
    )

pub build_alternatives-returns-clause-grows : goal.build_alternatives-returns-clause-grows
build_alternatives-returns-clause-grows t c =
    ok_grows_more c.args.nfa.now c.loop-left.nfa c.build_chars.new.nfa c.build_chars.result
    c.loop-left.invariant.2.grows c.build_chars.ensures.grows

pub build_alternatives-returns-clause-leads : goal.build_alternatives-returns-clause-leads
build_alternatives-returns-clause-leads t c =
    all_built c.args.nfa.now c.build_chars.new.nfa c.args.parts.now c.loop-left.left.now c.loop-left.invariant.0
    c.args.next c.build_chars.result c.loop-left.invariant.1
    c.in_default.len_below
    (ok_map (λ first. (start : List State) (done : List Expr)
    → AreAlternatives start c.loop-left.nfa c.loop-left.first c.loop-left.chars done c.args.next
    → Builds start c.build_chars.new.nfa first (MatchSome done) c.args.next)
    (λ first. Builds c.args.nfa.now c.build_chars.new.nfa first (MatchSome c.loop-left.invariant.0) c.args.next)
    c.build_chars.result (λ first h. h c.args.nfa.now c.loop-left.invariant.0 c.loop-left.invariant.2)
    c.build_chars.ensures.leads)

pub build-returns-in_ok-copy-in-Chars-clause-reads : goal.build-returns-in_ok-copy-in-Chars-clause-reads
build-returns-in_ok-copy-in-Chars-clause-reads t c =
    chars_reads c.args.nfa.now c.add.new.self c.args.expr.now c.in-Chars.ranges c.in_ok-copy-in-Chars.field-0
    c.args.next c.add.result c.in-Chars.is c.in_ok-copy-in-Chars.ensures c.add.ensures.added

pub build-returns-in-Seq-clause-reads : goal.build-returns-in-Seq-clause-reads
build-returns-in-Seq-clause-reads t c =
    seq_reads c.args.nfa.now c.build_in_order.new.nfa c.args.expr.now c.in-Seq.parts c.as_slice.result.now
    c.build_in_order.result c.in-Seq.is c.as_slice.ensures c.build_in_order.ensures.reads

pub build-returns-in-Alt-clause-reads : goal.build-returns-in-Alt-clause-reads
build-returns-in-Alt-clause-reads t c =
    alt_reads c.args.nfa.now c.build_alternatives.new.nfa c.args.expr.now c.in-Alt.parts c.as_slice-in-Alt.result.now
    c.build_alternatives.result c.in-Alt.is c.as_slice-in-Alt.ensures c.build_alternatives.ensures.reads

pub build-returns-in-Repeat-clause-reads : goal.build-returns-in-Repeat-clause-reads
build-returns-in-Repeat-clause-reads t c =
    repeat_reads c.args.nfa.now c.build_repeat.new.nfa c.args.expr.now c.in-Repeat.part c.get.result.now
    c.in-Repeat.least c.in-Repeat.most c.build_repeat.result c.in-Repeat.is c.get.ensures c.build_repeat.ensures.reads

pub build_alternative-returns-in-Some-clause-reads : goal.build_alternative-returns-in-Some-clause-reads
build_alternative-returns-in-Some-clause-reads t c =
    gathered_reads c.args.nfa.now c.args.chars.now c.in-Some.ranges.now c.append_ranges.new.ranges c.args.part.now
    c.in-Some.ensures c.in_ok-append_ranges.ensures

pub build_alternative-returns-clause-reads : goal.build_alternative-returns-clause-reads
build_alternative-returns-clause-reads t c =
    split_reads c.args.nfa.now c.build.new.nfa c.add.new.self c.args.chars.now (expr_ranges c.args.part.now)
    c.in_ok-first.first c.args.ends.0 c.add.result c.in_ok-first.ensures.reads c.add.ensures.added

pub build_alternatives-returns-clause-reads : goal.build_alternatives-returns-clause-reads
build_alternatives-returns-clause-reads t c =
    all_read c.args.nfa.now c.loop-left.nfa c.build_chars.new.nfa c.loop-left.chars (ranges_of_each c.args.parts.now)
    c.build_chars.result c.loop-left.invariant.3 c.build_chars.ensures.reads

pub build_repeat-returns-clause-reads : goal.build_repeat-returns-clause-reads
build_repeat-returns-clause-reads t c =
    then_reads c.args.nfa.now c.build_more.new.nfa c.build_times.new.nfa (expr_ranges c.args.part.now)
    c.build_times.result c.in_ok-rest.ensures.reads c.build_times.ensures.reads

pub build_star-returns-clause-reads : goal.build_star-returns-clause-reads
build_star-returns-clause-reads t c =
    star_reads c.args.nfa.now c.add.new.self c.build.new.nfa c.replace.new.self (expr_ranges c.args.part.now)
    c.in_ok-split.split c.in_ok-first.first c.args.next c.in_ok-split.ensures.added c.in_ok-first.ensures.reads
    c.replace.ensures
