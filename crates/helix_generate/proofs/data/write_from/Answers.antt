use Rattle.helix_generate.proofs.data.write_from.Goals as goal

pub returns-in-Ok : goal.returns-in-Ok
returns-in-Ok g c = c.write_ready.ensures c.args.loaded c.args.start c.in-Ok.ensures
