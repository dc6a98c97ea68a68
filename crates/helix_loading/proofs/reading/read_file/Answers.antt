use Rattle.std.proofs.Common.{ℕ, arith, length-take}
use Rattle.helix_loading.proofs.WholeInput.{AreRead-ended, AreRead-full}
use Rattle.helix_loading.proofs.reading.read_file.Goals as goal

pub returns-then-count-eq0-clause-ok : goal.returns-then-count-eq0-clause-ok
returns-then-count-eq0-clause-ok g c =
    AreRead-ended _ _ c.args.name.now c.loop-buffer.bytes.items c.loop-buffer.invariant.read (omega arith)
    (λ told. c.in_ok-count.ensures.ended told
    (omega (arith, c.read.auto.buffer, length-take {A = ℕ}, c.min-room.ensures)) c.if-count-eq0.true)

pub returns-clause-ok : goal.returns-clause-ok
returns-clause-ok g c =
    AreRead-full _ _ c.args.name.now c.loop-buffer.bytes.items c.loop-buffer.invariant.read (omega arith)
