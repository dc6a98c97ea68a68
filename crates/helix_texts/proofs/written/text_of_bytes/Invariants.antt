use Rattle.std.proofs.Common.{◌≡◌, take}
use Rattle.helix_texts.proofs.written.text_of_bytes.Given as goal

abbrev pub invariant-loop-byte : goal.invariant-loop-byte
invariant-loop-byte l = l.text ≡ take l.byte-index l.bytes
