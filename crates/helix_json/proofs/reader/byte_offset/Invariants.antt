use Rattle.helix_json.proofs.Offsets.{Placed}
use Rattle.helix_json.proofs.reader.byte_offset.Given as goal

abbrev pub invariant-loop-code : goal.invariant-loop-code
invariant-loop-code l = Placed l.codes l.code-index l.offset
