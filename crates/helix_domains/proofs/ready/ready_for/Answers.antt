use Rattle.helix_domains.proofs.Readiness.{members_ready, matching_ready, containing_ready}
use Rattle.helix_domains.proofs.ready.ready_for.Goals as goal

pub returns-in_ok-members_in_order-in-InSet : goal.returns-in_ok-members_in_order-in-InSet
returns-in_ok-members_in_order-in-InSet c = members_ready c.args.signed.now c.in-InSet.members c.as_slice.result.now
    c.in_ok-members_in_order-in-InSet.field-0 c.in-InSet.is c.as_slice.ensures
    c.in_ok-members_in_order-in-InSet.ensures.ascending
    c.in_ok-members_in_order-in-InSet.ensures.same

pub returns-in_ok-dfa_of-in-Matching : goal.returns-in_ok-dfa_of-in-Matching
returns-in_ok-dfa_of-in-Matching c = matching_ready c.args.signed.now c.in-Matching.regex
    c.in_ok-dfa_of-in-Matching.field-0 c.in-Matching.is
    c.in_ok-dfa_of-in-Matching.ensures.words

pub returns-in_ok-dfa_of-in-Containing : goal.returns-in_ok-dfa_of-in-Containing
returns-in_ok-dfa_of-in-Containing c = containing_ready c.args.signed.now c.in-Containing.regex
    c.in_ok-dfa_of-in-Containing.field-0
    c.in-Containing.is c.in_ok-dfa_of-in-Containing.ensures.words
