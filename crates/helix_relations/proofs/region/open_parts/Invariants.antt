use Rattle.std.proofs.Common.{◌≡◌, take}
use Rattle.std.specs.List.{All}
use Rattle.helix_relations.specs.Change.{opened_fields}
use Rattle.helix_relations.specs.Inner.Parts.{fields_of, IsAlone}
use Rattle.helix_relations.proofs.region.open_parts.Given as goal

abbrev pub invariant-loop-number : goal.invariant-loop-number
invariant-loop-number l = record {
  fields : fields_of l.nodes.items ≡ opened_fields l.fields (take l.number-index l.numbers);
  alone : All IsAlone l.nodes.items;
}
