use Rattle.std.proofs.Common.{length, sym, ◌∙◌, ap, subst}
use Rattle.std.specs.List.{All}
use Rattle.helix_rows.proofs.Cells.{cells_sought}
use Rattle.helix_rows.proofs.Finishing.{walk_after}
use Rattle.helix_rows.specs.Inner.Levels.{IsReady}
use Rattle.helix_rows.specs.Parts.{IsRowFor}
use Rattle.helix_rows.specs.declared.walk.Place.TheVariants.{Sought}
use Rattle.helix_values.specs.Slot.{FitsSlot}
use Rattle.helix_rows.proofs.walk.RowWalk.seek_after.Goals as goal

pub invariant_of-self : goal.invariant_of-self
invariant_of-self g c =
    let long = ap length c.copy_row.ensures ∙ (c.requires.count ∙ sym (ap (λ w. w.fields) c.self.view_is)) in
    walk_after g.R.Region.fields g.R.Region.HasRow c.self.inside.layout (length c.self.inside.state.row)
    c.self.invariant.layout_is c.self.inside.state.regions.items c.self.inside.state.alive.items c.copy_row.new.to
    c.self.inside.state.found.numbers.room Sought c.self.inside.empty long
    (subst (λ n. IsReady g.R.Region.fields g.R.Region.classes g.R.Region.HasRow c.self.inside.layout
    c.self.inside.state.regions.items c.self.inside.state.alive.items c.self.inside.state.found.numbers.room n)
    (sym long) c.self.invariant.ready) c.self.invariant.emptiness
    (subst (All FitsSlot) (sym c.copy_row.ensures) c.requires.fit)
    (cells_sought c.self.inside.layout (length c.self.inside.state.row) c.self.invariant.layout_is
    c.self.inside.state.regions.items c.copy_row.new.to long
    (subst (IsRowFor g.R.Region.classes c.self.inside.state.regions.items c.self.inside.layout.parts)
    (sym c.copy_row.ensures)
    (subst (λ w. IsRowFor g.R.Region.classes w.regions w.parts c.args.row.now) (sym c.self.view_is)
    c.requires.cells))) tt
