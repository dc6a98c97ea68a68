use Rattle.std.proofs.Common.{◌∙◌}
use Rattle.helix_json.specs.Values.{HasNumbers, nesting}
use Rattle.helix_legacy.proofs.Breaches.{older_object}
use Rattle.helix_legacy.proofs.Converting.{older_today}
use Rattle.helix_legacy.proofs.Kept.{IsKept}
use Rattle.helix_legacy.proofs.KeptRules.{answer_kept}
use Rattle.helix_legacy.proofs.older.today.Goals as goal

pub returns-in_ok-whole_today-in-None-2-clause-ok : goal.returns-in_ok-whole_today-in-None-2-clause-ok
returns-in_ok-whole_today-in-None-2-clause-ok c = c.in_ok-whole_today-in-None-2.ensures
    ∙ older_today c.args.json.now c.in-Some.members.now c.in-Some.ensures.some c.requires.older

pub unreachable-requires : goal.unreachable-requires
unreachable-requires c = older_object c.args.json.now c.requires.older c.in-None.ensures.none

-- what is known of the value is known of the answer
kept : (c : goal.In_ok-whole_today-in-None-2)
    → IsKept (HasNumbers c.args.json.now) (nesting c.args.json.now) c.in_ok-whole_today-in-None-2.field-0
kept c = answer_kept c.args.json.now c.in-Some.members.now c.in_ok-breach-in-Some.field-0
    c.in_ok-whole_today-in-None-2.field-0 c.in-Some.ensures.some c.requires.older c.requires.keys
    c.in_ok-breach-in-Some.ensures c.in-None-2.is c.in_ok-whole_today-in-None-2.ensures

pub returns-in_ok-whole_today-in-None-2-clause-distinct_keys :
    goal.returns-in_ok-whole_today-in-None-2-clause-distinct_keys
returns-in_ok-whole_today-in-None-2-clause-distinct_keys c = (kept c).keys

pub returns-in_ok-whole_today-in-None-2-clause-depth : goal.returns-in_ok-whole_today-in-None-2-clause-depth
returns-in_ok-whole_today-in-None-2-clause-depth c = (kept c).depth

pub returns-in_ok-whole_today-in-None-2-clause-numbers : goal.returns-in_ok-whole_today-in-None-2-clause-numbers
returns-in_ok-whole_today-in-None-2-clause-numbers c = (kept c).numbers
