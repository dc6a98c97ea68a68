use Rattle.std.proofs.Common.{rules}
use Rattle.helix_rows.proofs.Answered.{found_set}
use Rattle.helix_rows.specs.Inner.Levels.{among_at, before_of, alive_at}
use Rattle.helix_rows.specs.Parts.{HasAt}
use Rattle.helix_rows.specs.Regions.{cell_at, IsAskedFor}
use Rattle.helix_rows.proofs.ask.ask_each.Goals as goal

pub returns-clause-found : goal.returns-clause-found
returns-clause-found g c =
    found_set (HasAt g.R.Region.HasRow c.args.state.now.regions.items)
    (among_at c.args.layout.now c.args.state.now.alive.items c.args.field)
    (before_of c.args.layout.now c.args.field c.args.state.now.row)
    (IsAskedFor c.args.question (cell_at c.args.state.now.row c.args.field))
    (alive_at c.find.new.state.alive.items c.args.field) c.find.new.state.found.best c.args.field
    c.args.state.now.row c.set.new.self _ c.requires.field (search rules) c.view.ensures (search rules)
