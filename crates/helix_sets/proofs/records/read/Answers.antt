use Rattle.csv.specs.Records.{fields_of}
use Rattle.helix_sets.proofs.Steps.{told}
use Rattle.helix_sets.proofs.records.read.Goals as goal
use Rattle.helix_sets.proofs.records.read.Goals.{in-Ok, in-Err}

pub returns : goal.returns
returns c = elim c.match-read_byte_record.branch [
  | in-Ok w ↦ rw w.result-is (told c.args.reader.now c.read_byte_record.new.self (fields_of c.read_byte_record.new.row)
      w.in-Ok.found w.in-Ok.ensures.ready w.in-Ok.ensures.reads)
  | in-Err w ↦ rw w.result-is tt
]
