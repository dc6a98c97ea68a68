use Rattle.std.proofs.Common.{◌≡◌, ◌-◌, ◌≤◌, length, vec_len}
use Rattle.helix_loading.proofs.WholeInput.{HasRead}
use Rattle.helix_loading.proofs.reading.read_file.Given as goal

abbrev pub invariant-loop-buffer : goal.invariant-loop-buffer
invariant-loop-buffer g l = record {
  read : HasRead (g.D.Disk.state l.fn.disk) l.fn.name (g.D.Disk.state l.disk) l.bytes.items;
  room : length l.buffer ≡ 16384;
  within : vec_len l.bytes ≤ 1048577;
}

abbrev pub decreases-loop-buffer : goal.decreases-loop-buffer
decreases-loop-buffer g l = 1048577 - vec_len l.bytes
