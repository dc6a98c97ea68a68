use Rattle.std.proofs.Common.{◌∙◌, ◌+◌, sym, subst, arith}
use Rattle.std.proofs.lemmas.Bool.{false≢true}
use Rattle.helix_words.specs.Inner.Lengths.{IsAllowed}
use Rattle.helix_words.proofs.LengthsMore.{AreLengthsBelow, lengths_push, lengths_skip, lengths_all}
use Rattle.helix_words.proofs.lengths.lengths_of.Goals as goal
use Rattle.helix_words.proofs.lengths.lengths_of.Goals.{then-has_rest+then-not-is_refused+in_ok-push, else-has_rest, else-has_rest-via-then-has_rest+else-not-is_refused, else-has_rest-via-else-has_rest}

pub loop-count-preserved : goal.loop-count-preserved
loop-count-preserved c =
    elim c.if-has_rest.branch [
      | then-has_rest+then-not-is_refused+in_ok-push w ↦
          subst (AreLengthsBelow (IsAllowed c.args.table.now c.args.shortest c.args.longest c.args.refused.now)
          (c.loop-count.count + 1))
          (sym (w.lengths-is ∙ w.in_ok-push.ensures.ok))
          (lengths_push (IsAllowed c.args.table.now c.args.shortest c.args.longest c.args.refused.now)
          c.loop-count.count
          c.loop-count.lengths c.loop-count.invariant (record {
            not_short = c.loop-count.auto.count;
            not_long = omega (arith, c.loop-count-test.true);
            not_refused = λ has. false≢true (sym w.if-not-is_refused.true ∙ w.is_refused.ensures.1 has);
            has_rest = c.has_rest.ensures.0 w.if-has_rest.true;
          }))
      | else-has_rest w ↦
          subst (AreLengthsBelow (IsAllowed c.args.table.now c.args.shortest c.args.longest c.args.refused.now)
          (c.loop-count.count + 1))
          (sym w.lengths-is)
          (lengths_skip (IsAllowed c.args.table.now c.args.shortest c.args.longest c.args.refused.now)
          c.loop-count.count
          c.loop-count.lengths c.loop-count.invariant (λ allowed. elim w.else-has_rest.branch [
            | else-has_rest-via-then-has_rest+else-not-is_refused w' ↦
                allowed.not_refused (w'.is_refused.ensures.0 w'.if-not-is_refused.false)
            | else-has_rest-via-else-has_rest w' ↦
                false≢true (sym w'.if-has_rest.false ∙ c.has_rest.ensures.1 allowed.has_rest)
          ]))
    ]

pub returns : goal.returns
returns c =
    lengths_all (IsAllowed c.args.table.now c.args.shortest c.args.longest c.args.refused.now) c.loop-count.count
    c.loop-count.lengths c.loop-count.invariant (λ count is. omega (arith, is.not_long))
