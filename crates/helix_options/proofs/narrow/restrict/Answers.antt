use Rattle.helix_options.proofs.Narrowing.{atom_after}
use Rattle.helix_options.proofs.narrow.restrict.Goals as goal

pub forbid_null-requires : goal.forbid_null-requires
forbid_null-requires c = atom_after c.args.region.now c.restrict.new.self
    (record { atom = c.args.atom.now; sign = c.args.sign }) c.requires c.in_ok-restrict.ensures.ok
