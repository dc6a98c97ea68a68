use Rattle.std.proofs.Common.{◌∙◌}
use Rattle.std.proofs.lemmas.Iterator.Adapters.{YieldsList-from_vec}
use Rattle.std.proofs.lemmas.Iterator.Consumers.{YieldsList-so_far, YieldsList-turn, YieldsList-end}
use Rattle.helix_json.specs.Inner.Building.{reading_of}
use Rattle.helix_json.proofs.Builder.{allowed, leads_on, arrives, arrived, built}
use Rattle.helix_json.proofs.build.build.Goals as goal

pub advance-requires : goal.advance-requires
advance-requires c =
    let road = YieldsList-from_vec {s = c.into_iter-token-iterator.result} c.args.tokens.items
    c.into_iter-token-iterator.ensures.into_iter_gives.0 (c.into_iter-token-iterator.ensures.into_iter_gives.1
    ∙ c.args.tokens.ok.0) in
    allowed c.requires.0 c.args.tokens.items c.loop-token.yielded c.in-Some.token
    (reading_of c.loop-token.next c.loop-token.frames.items) c.requires.1
    (YieldsList-so_far road c.loop-token.yielded c.loop-token.token-iterator c.loop-token.yielded_by)
    (YieldsList-turn road c.loop-token.yielded c.loop-token.token-iterator c.loop-token.yielded_by c.next.result
    c.next.new.self c.in-Some.token c.in-Some.is c.next.ensures.steps) c.loop-token.invariant.2

pub loop-token-preserved : goal.loop-token-preserved
loop-token-preserved c =
    (tt, tt, leads_on c.loop-token.yielded c.in-Some.token _ _ c.loop-token.invariant.2 c.in_ok-next.ensures)

pub unreachable-requires : goal.unreachable-requires
unreachable-requires c =
    let road = YieldsList-from_vec {s = c.into_iter-token-iterator.result} c.args.tokens.items
    c.into_iter-token-iterator.ensures.into_iter_gives.0 (c.into_iter-token-iterator.ensures.into_iter_gives.1
    ∙ c.args.tokens.ok.0) in
    let all = YieldsList-end road c.loop-token.yielded c.loop-token.token-iterator c.loop-token.yielded_by c.next.result
    c.next.new.self c.in-None.is c.next.ensures.steps in
    c.in_default.not-After c.requires.0 (arrived c.requires.0 c.loop-token.next c.loop-token.frames.items
    (arrives c.requires.0 c.args.tokens.items c.loop-token.yielded c.loop-token.next c.loop-token.frames.items
    c.requires.1 all.0 c.loop-token.invariant.2))

pub returns : goal.returns
returns c =
    let road = YieldsList-from_vec {s = c.into_iter-token-iterator.result} c.args.tokens.items
    c.into_iter-token-iterator.ensures.into_iter_gives.0 (c.into_iter-token-iterator.ensures.into_iter_gives.1
    ∙ c.args.tokens.ok.0) in
    let all = YieldsList-end road c.loop-token.yielded c.loop-token.token-iterator c.loop-token.yielded_by c.next.result
    c.next.new.self c.in-None.is c.next.ensures.steps in
    built c.requires.0 c.in-After.value c.args.tokens.items c.loop-token.next c.requires.1
    (arrived c.requires.0 c.loop-token.next c.loop-token.frames.items
    (arrives c.requires.0 c.args.tokens.items c.loop-token.yielded c.loop-token.next c.loop-token.frames.items
    c.requires.1 all.0 c.loop-token.invariant.2)) c.in-After.is
