use Rattle.std.specs.Prelude.{map, string_bytes}
use Rattle.helix_run.proofs.CauseLaws.{Cause-run}
use Rattle.helix_run.proofs.LeftLaws.{Left-run, HoldsWhole-run, kept_if_left}
use Rattle.helix_run.proofs.ScriptLaws.{FollowsScript-run, refusal_comes-run, completes-run}
use Rattle.helix_run.proofs.top.run.Goals as goal

pub returns-clause-script : goal.returns-clause-script
returns-clause-script g c =
    λ told. FollowsScript-run (map string_bytes c.args.words.now) (g.D.Disk.state c.args.disk.now)
    (g.D.Disk.state c.generate-outcome.new.disk) told
    (g.C.Console.screen c.args.console.now) (g.C.Console.screen c.tell.new.console) c.generate-outcome.result
    c.tell.result c.generate-outcome.ensures c.tell.ensures

pub returns-clause-cause : goal.returns-clause-cause
returns-clause-cause g c =
    Cause-run (map string_bytes c.args.words.now) (g.D.Disk.state c.args.disk.now)
    (g.D.Disk.state c.generate-outcome.new.disk)
    (g.C.Console.screen c.args.console.now) (g.C.Console.screen c.tell.new.console) c.generate-outcome.result
    c.tell.result c.generate-outcome.ensures c.tell.ensures

pub returns-clause-refusal_comes : goal.returns-clause-refusal_comes
returns-clause-refusal_comes g c =
    λ told. refusal_comes-run (map string_bytes c.args.words.now) (g.D.Disk.state c.args.disk.now)
    (g.D.Disk.state c.generate-outcome.new.disk) told
    (g.C.Console.screen c.args.console.now) (g.C.Console.screen c.tell.new.console) c.generate-outcome.result
    c.tell.result c.generate-outcome.ensures c.tell.ensures

pub returns-clause-completes : goal.returns-clause-completes
returns-clause-completes g c =
    λ told. completes-run (map string_bytes c.args.words.now) (g.D.Disk.state c.args.disk.now)
    (g.D.Disk.state c.generate-outcome.new.disk) told
    (g.C.Console.screen c.args.console.now) (g.C.Console.screen c.tell.new.console) c.generate-outcome.result
    c.tell.result c.generate-outcome.ensures c.tell.ensures

pub returns-clause-left : goal.returns-clause-left
returns-clause-left g c =
    λ told. Left-run (map string_bytes c.args.words.now) (g.D.Disk.state c.args.disk.now)
    (g.D.Disk.state c.generate-outcome.new.disk) told
    (g.C.Console.screen c.args.console.now) (g.C.Console.screen c.tell.new.console) c.generate-outcome.result
    c.tell.result c.generate-outcome.ensures c.tell.ensures

pub returns-clause-kept : goal.returns-clause-kept
returns-clause-kept g c =
    λ told. kept_if_left (map string_bytes c.args.words.now) (g.D.Disk.state c.args.disk.now).files
    (g.D.Disk.state c.generate-outcome.new.disk).files c.tell.result
    (Left-run (map string_bytes c.args.words.now) (g.D.Disk.state c.args.disk.now)
    (g.D.Disk.state c.generate-outcome.new.disk) told
    (g.C.Console.screen c.args.console.now) (g.C.Console.screen c.tell.new.console) c.generate-outcome.result
    c.tell.result c.generate-outcome.ensures c.tell.ensures)

pub returns-clause-only_console : goal.returns-clause-only_console
returns-clause-only_console g c =
    λ told. HoldsWhole-run (map string_bytes c.args.words.now) (g.D.Disk.state c.args.disk.now)
    (g.D.Disk.state c.generate-outcome.new.disk) told
    (g.C.Console.screen c.args.console.now) (g.C.Console.screen c.tell.new.console) c.generate-outcome.result
    c.tell.result c.generate-outcome.ensures c.tell.ensures
