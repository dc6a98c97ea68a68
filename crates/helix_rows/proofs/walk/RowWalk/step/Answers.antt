use Rattle.std.proofs.Common.{◌+◌, ◌<◌, Some, length, refl, sym, ◌∙◌, subst, arith}
use Rattle.helix_rows.proofs.Kept.{alive_now, begun_now}
use Rattle.helix_rows.proofs.Counting.{at_most, then_more, within}
use Rattle.helix_rows.proofs.Finishing.{member_begun, begun_member, given_after, given_stays, least_fewer, next_from_nothing, next_from_row, walk_after}
use Rattle.helix_rows.proofs.Regions.{has_new, has_old, in_parts_to}
use Rattle.helix_rows.proofs.Rising.{last_at_end}
use Rattle.helix_rows.specs.Inner.Answers.{IsLastFrom}
use Rattle.helix_rows.specs.Inner.Levels.{IsLayout, part_of}
use Rattle.helix_rows.specs.Inner.Places.{IsEmptyIf, IsGiven, place_of}
use Rattle.helix_rows.specs.Parts.{AsksAtMost, HasAt, IsInParts, InWalk, IsNextPlace}
use Rattle.helix_rows.specs.declared.walk.Place.TheVariants.{Given}
use Rattle.helix_rows.proofs.walk.RowWalk.step.Goals as goal

pub invariant_of-self : goal.invariant_of-self
invariant_of-self g c =
    walk_after g.R.Region.fields g.R.Region.HasRow c.self.inside.layout (length c.self.inside.state.row)
    c.self.invariant.layout_is c.descend.new.state.regions.items c.descend.new.state.alive.items
    c.descend.new.state.row c.descend.new.state.found.numbers.room Given c.self.inside.empty c.descend.ensures.length
    c.descend.ensures.ready c.self.invariant.emptiness c.descend.ensures.fit c.descend.ensures.cells
    (given_after g.R.Region.fields g.R.Region.HasRow g.met.R.Region.shaped c.self.inside.state.regions.items
    c.self.inside.layout
    (length c.self.inside.state.row) c.self.invariant.layout_is c.self.invariant.ready.are
    (subst (λ empty. IsEmptyIf empty c.self.inside.layout) c.if-self.false c.self.invariant.emptiness)
    c.descend.new.state.row c.descend.ensures.begun
    c.descend.new.state.regions.items c.descend.ensures.kept c.descend.new.state.alive.items c.descend.ensures.alive
    c.descend.ensures.length)

pub raise-requires-clause-begun : goal.raise-requires-clause-begun
raise-requires-clause-begun g c = λ field less.
    member_begun (HasAt g.R.Region.HasRow c.self.inside.state.regions.items) c.self.inside.layout
    (length c.self.inside.state.row)
    c.self.invariant.layout_is c.self.inside.state.row
    (subst (λ place. IsGiven (HasAt g.R.Region.HasRow c.self.inside.state.regions.items) c.self.inside.layout
    c.self.inside.state.row
    c.self.inside.state.alive.items place) c.in-Given.is c.self.invariant.given).0 field
    (subst (λ n. field < n) c.len-end.ensures less)

pub raise-requires-clause-last : goal.raise-requires-clause-last
raise-requires-clause-last g c =
    subst (λ n. IsLastFrom (IsInParts (HasAt g.R.Region.HasRow c.self.inside.state.regions.items)
    (length c.self.inside.state.row) c.self.inside.layout.parts) c.self.inside.state.row n) (sym c.len-end.ensures)
    (last_at_end (IsInParts (HasAt g.R.Region.HasRow c.self.inside.state.regions.items)
    (length c.self.inside.state.row) c.self.inside.layout.parts) (length c.self.inside.state.row)
    (λ row member. member.count) c.self.inside.state.row refl)

pub returns-in-Nothing-clause-next : goal.returns-in-Nothing-clause-next
returns-in-Nothing-clause-next g c =
    subst (λ walk. IsNextPlace (InWalk g.R.Region.HasRow walk) walk.place (Some c.descend.new.state.row) 0)
    c.self.view_is
    (subst (λ place. IsNextPlace (IsInParts (HasAt g.R.Region.HasRow c.self.inside.state.regions.items)
    (length c.self.inside.state.row) c.self.inside.layout.parts) (place_of place c.self.inside.state.row)
    (Some c.descend.new.state.row) 0) (sym c.in-Nothing.is)
    (next_from_nothing (IsInParts (HasAt g.R.Region.HasRow c.self.inside.state.regions.items)
    (length c.self.inside.state.row) c.self.inside.layout.parts) (length c.self.inside.state.row)
    (λ row member. member.count)
    c.descend.new.state.row c.descend.ensures.length
    (begun_member g.R.Region.fields g.R.Region.HasRow g.met.R.Region.shaped c.self.inside.state.regions.items
    c.self.inside.layout
    (length c.self.inside.state.row) c.self.invariant.layout_is c.self.invariant.ready.are
    (subst (λ empty. IsEmptyIf empty c.self.inside.layout) c.if-self.false c.self.invariant.emptiness)
    c.descend.new.state.row c.descend.ensures.begun
    c.descend.ensures.length)
    (λ field less. c.descend.ensures.least field (omega arith) less)))

pub descend-requires-in-Some-clause-alive : goal.descend-requires-in-Some-clause-alive
descend-requires-in-Some-clause-alive g c =
    alive_now g.R.Region.fields g.R.Region.HasRow c.self.inside.state.regions.items c.raise_any.new.state.regions.items
    c.raise_any.ensures.kept c.self.inside.layout c.raise_any.new.state.row
    c.raise_any.new.state.alive.items (c.in-Some.field + 1) c.in-Some.ensures.raised.2

pub descend-requires-in-Some-clause-begun : goal.descend-requires-in-Some-clause-begun
descend-requires-in-Some-clause-begun g c = λ field less.
    begun_now g.R.Region.fields g.R.Region.HasRow c.self.inside.state.regions.items c.raise_any.new.state.regions.items
    c.raise_any.ensures.kept c.self.inside.layout (part_of c.self.inside.layout field).regions _
    (c.in-Some.ensures.raised.3 field less)

pub invariant_of-self-in-Some : goal.invariant_of-self-in-Some
invariant_of-self-in-Some g c =
    walk_after g.R.Region.fields g.R.Region.HasRow c.self.inside.layout (length c.raise_any.new.state.row)
    (subst (λ n. IsLayout c.self.inside.layout n) (sym c.raise_any.ensures.length) c.self.invariant.layout_is)
    c.descend-in-Some.new.state.regions.items c.descend-in-Some.new.state.alive.items
    c.descend-in-Some.new.state.row c.descend-in-Some.new.state.found.numbers.room Given c.self.inside.empty
    c.descend-in-Some.ensures.length c.descend-in-Some.ensures.ready c.self.invariant.emptiness
    c.descend-in-Some.ensures.fit c.descend-in-Some.ensures.cells
    (given_after g.R.Region.fields g.R.Region.HasRow g.met.R.Region.shaped c.raise_any.new.state.regions.items
    c.self.inside.layout
    (length c.raise_any.new.state.row) (subst (λ n. IsLayout c.self.inside.layout n) (sym c.raise_any.ensures.length)
    c.self.invariant.layout_is) c.raise_any.ensures.ready.are
    (subst (λ empty. IsEmptyIf empty c.self.inside.layout) c.if-self.false c.self.invariant.emptiness)
    c.descend-in-Some.new.state.row c.descend-in-Some.ensures.begun
    c.descend-in-Some.new.state.regions.items c.descend-in-Some.ensures.kept c.descend-in-Some.new.state.alive.items
    c.descend-in-Some.ensures.alive c.descend-in-Some.ensures.length)

pub invariant_of-self-in-None : goal.invariant_of-self-in-None
invariant_of-self-in-None g c =
    walk_after g.R.Region.fields g.R.Region.HasRow c.self.inside.layout (length c.self.inside.state.row)
    c.self.invariant.layout_is c.raise_any.new.state.regions.items c.raise_any.new.state.alive.items
    c.raise_any.new.state.row
    c.raise_any.new.state.found.numbers.room c.self.inside.place c.self.inside.empty c.raise_any.ensures.length
    c.raise_any.ensures.ready c.self.invariant.emptiness c.raise_any.ensures.fit c.raise_any.ensures.cells
    (subst (λ place. IsGiven (HasAt g.R.Region.HasRow c.raise_any.new.state.regions.items) c.self.inside.layout
    c.raise_any.new.state.row c.raise_any.new.state.alive.items place) (sym c.in-Sought.is) tt)

pub returns-in-Some-clause-next : goal.returns-in-Some-clause-next
returns-in-Some-clause-next g c =
    let member = begun_member g.R.Region.fields g.R.Region.HasRow g.met.R.Region.shaped
    c.raise_any.new.state.regions.items c.self.inside.layout
    (length c.raise_any.new.state.row) (subst (λ n. IsLayout c.self.inside.layout n) (sym c.raise_any.ensures.length)
    c.self.invariant.layout_is) c.raise_any.ensures.ready.are
    (subst (λ empty. IsEmptyIf empty c.self.inside.layout) c.if-self.false c.self.invariant.emptiness)
    c.descend-in-Some.new.state.row c.descend-in-Some.ensures.begun
    c.descend-in-Some.ensures.length in
    let member_old = in_parts_to (HasAt g.R.Region.HasRow c.raise_any.new.state.regions.items)
    (HasAt g.R.Region.HasRow c.self.inside.state.regions.items)
    (λ n cells. has_old g.R.Region.fields g.R.Region.HasRow c.self.inside.state.regions.items
    c.raise_any.new.state.regions.items
    c.raise_any.ensures.kept n cells) (length c.raise_any.new.state.row) c.self.inside.layout.parts
    c.descend-in-Some.new.state.row member in
    subst (λ walk. IsNextPlace (InWalk g.R.Region.HasRow walk) walk.place
    (Some c.descend-in-Some.new.state.row) c.in-Some.field) c.self.view_is
    (subst (λ place. IsNextPlace (IsInParts (HasAt g.R.Region.HasRow c.self.inside.state.regions.items)
    (length c.self.inside.state.row) c.self.inside.layout.parts) (place_of place c.self.inside.state.row)
    (Some c.descend-in-Some.new.state.row) c.in-Some.field) (sym c.in-Sought.is)
    (next_from_row (IsInParts (HasAt g.R.Region.HasRow c.self.inside.state.regions.items)
    (length c.self.inside.state.row) c.self.inside.layout.parts) (length c.self.inside.state.row)
    (λ row inside. inside.count) c.self.inside.state.row
    c.raise_any.new.state.row c.descend-in-Some.new.state.row c.in-Some.field refl c.raise_any.ensures.length
    (c.descend-in-Some.ensures.length ∙ c.raise_any.ensures.length) c.in-Some.ensures.raised.0
    c.descend-in-Some.ensures.same
    (subst (λ n. IsInParts (HasAt g.R.Region.HasRow c.self.inside.state.regions.items) n c.self.inside.layout.parts
    c.descend-in-Some.new.state.row)
    c.raise_any.ensures.length member_old)
    (λ f from less. least_fewer (IsInParts (HasAt g.R.Region.HasRow c.self.inside.state.regions.items)
    (length c.self.inside.state.row) c.self.inside.layout.parts)
    (IsInParts (HasAt g.R.Region.HasRow c.raise_any.new.state.regions.items) (length c.raise_any.new.state.row)
    c.self.inside.layout.parts)
    (λ row inside. subst (λ n. IsInParts (HasAt g.R.Region.HasRow c.raise_any.new.state.regions.items) n
    c.self.inside.layout.parts row) (sym c.raise_any.ensures.length)
    (in_parts_to (HasAt g.R.Region.HasRow c.self.inside.state.regions.items)
    (HasAt g.R.Region.HasRow c.raise_any.new.state.regions.items)
    (λ n cells. has_new g.R.Region.fields g.R.Region.HasRow c.self.inside.state.regions.items
    c.raise_any.new.state.regions.items
    c.raise_any.ensures.kept n cells) (length c.self.inside.state.row) c.self.inside.layout.parts row inside))
    c.descend-in-Some.new.state.row f
    (c.descend-in-Some.ensures.least f from (subst (λ n. f < n) (sym c.raise_any.ensures.length) less)))))

pub descend-requires-in-Some-raise-clause-alive : goal.descend-requires-in-Some-raise-clause-alive
descend-requires-in-Some-raise-clause-alive g c =
    alive_now g.R.Region.fields g.R.Region.HasRow c.self.inside.state.regions.items c.raise.new.state.regions.items
    c.raise.ensures.kept c.self.inside.layout c.raise.new.state.row
    c.raise.new.state.alive.items (c.in-Some-raise.field + 1) c.in-Some-raise.ensures.raised.2

pub descend-requires-in-Some-raise-clause-begun : goal.descend-requires-in-Some-raise-clause-begun
descend-requires-in-Some-raise-clause-begun g c = λ field less.
    begun_now g.R.Region.fields g.R.Region.HasRow c.self.inside.state.regions.items c.raise.new.state.regions.items
    c.raise.ensures.kept c.self.inside.layout (part_of c.self.inside.layout field).regions _
    (c.in-Some-raise.ensures.raised.3 field less)

pub invariant_of-self-in-Some-raise : goal.invariant_of-self-in-Some-raise
invariant_of-self-in-Some-raise g c =
    walk_after g.R.Region.fields g.R.Region.HasRow c.self.inside.layout (length c.raise.new.state.row)
    (subst (λ n. IsLayout c.self.inside.layout n) (sym c.raise.ensures.length) c.self.invariant.layout_is)
    c.descend-in-Some-raise.new.state.regions.items c.descend-in-Some-raise.new.state.alive.items
    c.descend-in-Some-raise.new.state.row c.descend-in-Some-raise.new.state.found.numbers.room c.self.inside.place
    c.self.inside.empty
    c.descend-in-Some-raise.ensures.length c.descend-in-Some-raise.ensures.ready c.self.invariant.emptiness
    c.descend-in-Some-raise.ensures.fit c.descend-in-Some-raise.ensures.cells
    (subst (λ place. IsGiven (HasAt g.R.Region.HasRow c.descend-in-Some-raise.new.state.regions.items)
    c.self.inside.layout
    c.descend-in-Some-raise.new.state.row c.descend-in-Some-raise.new.state.alive.items place) (sym c.in-Given.is)
    (given_after g.R.Region.fields g.R.Region.HasRow g.met.R.Region.shaped c.raise.new.state.regions.items
    c.self.inside.layout
    (length c.raise.new.state.row) (subst (λ n. IsLayout c.self.inside.layout n) (sym c.raise.ensures.length)
    c.self.invariant.layout_is) c.raise.ensures.ready.are
    (subst (λ empty. IsEmptyIf empty c.self.inside.layout) c.if-self.false c.self.invariant.emptiness)
    c.descend-in-Some-raise.new.state.row c.descend-in-Some-raise.ensures.begun
    c.descend-in-Some-raise.new.state.regions.items c.descend-in-Some-raise.ensures.kept
    c.descend-in-Some-raise.new.state.alive.items
    c.descend-in-Some-raise.ensures.alive c.descend-in-Some-raise.ensures.length))

pub invariant_of-self-in-None-raise : goal.invariant_of-self-in-None-raise
invariant_of-self-in-None-raise g c =
    walk_after g.R.Region.fields g.R.Region.HasRow c.self.inside.layout (length c.self.inside.state.row)
    c.self.invariant.layout_is c.raise.new.state.regions.items c.raise.new.state.alive.items c.raise.new.state.row
    c.raise.new.state.found.numbers.room c.self.inside.place c.self.inside.empty c.raise.ensures.length
    c.raise.ensures.ready c.self.invariant.emptiness c.raise.ensures.fit c.raise.ensures.cells
    (subst (λ place. IsGiven (HasAt g.R.Region.HasRow c.raise.new.state.regions.items) c.self.inside.layout
    c.raise.new.state.row c.raise.new.state.alive.items place) (sym c.in-Given.is)
    (given_stays g.R.Region.fields g.R.Region.HasRow c.self.inside.state.regions.items c.raise.new.state.regions.items
    c.raise.ensures.kept c.self.inside.layout c.self.inside.state.row c.raise.new.state.row
    c.self.inside.state.alive.items c.raise.new.state.alive.items c.in-None-raise.ensures.raised.0
    c.in-None-raise.ensures.raised.1
    (subst (λ place. IsGiven (HasAt g.R.Region.HasRow c.self.inside.state.regions.items) c.self.inside.layout
    c.self.inside.state.row
    c.self.inside.state.alive.items place) c.in-Given.is c.self.invariant.given)))

pub returns-in-Some-raise-clause-next : goal.returns-in-Some-raise-clause-next
returns-in-Some-raise-clause-next g c =
    let member = begun_member g.R.Region.fields g.R.Region.HasRow g.met.R.Region.shaped
    c.raise.new.state.regions.items c.self.inside.layout
    (length c.raise.new.state.row) (subst (λ n. IsLayout c.self.inside.layout n) (sym c.raise.ensures.length)
    c.self.invariant.layout_is) c.raise.ensures.ready.are
    (subst (λ empty. IsEmptyIf empty c.self.inside.layout) c.if-self.false c.self.invariant.emptiness)
    c.descend-in-Some-raise.new.state.row c.descend-in-Some-raise.ensures.begun
    c.descend-in-Some-raise.ensures.length in
    let member_old = in_parts_to (HasAt g.R.Region.HasRow c.raise.new.state.regions.items)
    (HasAt g.R.Region.HasRow c.self.inside.state.regions.items)
    (λ n cells. has_old g.R.Region.fields g.R.Region.HasRow c.self.inside.state.regions.items
    c.raise.new.state.regions.items
    c.raise.ensures.kept n cells) (length c.raise.new.state.row) c.self.inside.layout.parts
    c.descend-in-Some-raise.new.state.row member in
    subst (λ walk. IsNextPlace (InWalk g.R.Region.HasRow walk) walk.place
    (place_of c.self.inside.place c.descend-in-Some-raise.new.state.row) c.in-Some-raise.field) c.self.view_is
    (subst (λ place. IsNextPlace (IsInParts (HasAt g.R.Region.HasRow c.self.inside.state.regions.items)
    (length c.self.inside.state.row) c.self.inside.layout.parts) (place_of place c.self.inside.state.row)
    (place_of place c.descend-in-Some-raise.new.state.row) c.in-Some-raise.field) (sym c.in-Given.is)
    (next_from_row (IsInParts (HasAt g.R.Region.HasRow c.self.inside.state.regions.items)
    (length c.self.inside.state.row) c.self.inside.layout.parts) (length c.self.inside.state.row)
    (λ row inside. inside.count) c.self.inside.state.row
    c.raise.new.state.row c.descend-in-Some-raise.new.state.row c.in-Some-raise.field refl c.raise.ensures.length
    (c.descend-in-Some-raise.ensures.length ∙ c.raise.ensures.length) c.in-Some-raise.ensures.raised.0
    c.descend-in-Some-raise.ensures.same
    (subst (λ n. IsInParts (HasAt g.R.Region.HasRow c.self.inside.state.regions.items) n c.self.inside.layout.parts
    c.descend-in-Some-raise.new.state.row)
    c.raise.ensures.length member_old)
    (λ f from less. least_fewer (IsInParts (HasAt g.R.Region.HasRow c.self.inside.state.regions.items)
    (length c.self.inside.state.row) c.self.inside.layout.parts)
    (IsInParts (HasAt g.R.Region.HasRow c.raise.new.state.regions.items) (length c.raise.new.state.row)
    c.self.inside.layout.parts)
    (λ row inside. subst (λ n. IsInParts (HasAt g.R.Region.HasRow c.raise.new.state.regions.items) n
    c.self.inside.layout.parts row) (sym c.raise.ensures.length)
    (in_parts_to (HasAt g.R.Region.HasRow c.self.inside.state.regions.items)
    (HasAt g.R.Region.HasRow c.raise.new.state.regions.items)
    (λ n cells. has_new g.R.Region.fields g.R.Region.HasRow c.self.inside.state.regions.items
    c.raise.new.state.regions.items
    c.raise.ensures.kept n cells) (length c.self.inside.state.row) c.self.inside.layout.parts row inside))
    c.descend-in-Some-raise.new.state.row f
    (c.descend-in-Some-raise.ensures.least f from (subst (λ n. f < n) (sym c.raise.ensures.length) less)))))

pub returns-in-Nothing-clause-asked : goal.returns-in-Nothing-clause-asked
returns-in-Nothing-clause-asked g c =
    subst (λ walk. AsksAtMost g.R.Region.asked 2 walk c.descend.new.state.regions.items)
    c.self.view_is
    (at_most g.R.Region.asked c.self.inside.layout.parts (length c.self.inside.state.row)
    c.self.inside.state.found.numbers.room 1 2 c.self.inside.state.regions.items c.descend.new.state.regions.items
    (omega arith) c.self.invariant.ready.least
    (omega (arith, c.descend.ensures.asked)))

pub returns-in-Some-clause-asked : goal.returns-in-Some-clause-asked
returns-in-Some-clause-asked g c =
    subst (λ walk. AsksAtMost g.R.Region.asked 2 walk c.descend-in-Some.new.state.regions.items)
    c.self.view_is
    (at_most g.R.Region.asked c.self.inside.layout.parts (length c.self.inside.state.row)
    c.self.inside.state.found.numbers.room 2 2 c.self.inside.state.regions.items
    c.descend-in-Some.new.state.regions.items
    (omega arith) c.self.invariant.ready.least
    (then_more 1 _ _ _ (length c.self.inside.state.row) c.self.inside.state.found.numbers.room
    (length c.raise_any.new.state.row) c.raise_any.new.state.found.numbers.room
    (omega (arith, c.raise_any.ensures.length)) c.raise_any.ensures.room (omega (arith, c.raise_any.ensures.asked))
    c.descend-in-Some.ensures.asked))

pub returns-in-None-clause-asked : goal.returns-in-None-clause-asked
returns-in-None-clause-asked g c =
    subst (λ walk. AsksAtMost g.R.Region.asked 2 walk c.raise_any.new.state.regions.items)
    c.self.view_is
    (at_most g.R.Region.asked c.self.inside.layout.parts (length c.self.inside.state.row)
    c.self.inside.state.found.numbers.room 1 2 c.self.inside.state.regions.items c.raise_any.new.state.regions.items
    (omega arith) c.self.invariant.ready.least
    (omega (arith, c.raise_any.ensures.asked)))

pub returns-in-Some-raise-clause-asked : goal.returns-in-Some-raise-clause-asked
returns-in-Some-raise-clause-asked g c =
    subst (λ walk. AsksAtMost g.R.Region.asked 2 walk c.descend-in-Some-raise.new.state.regions.items)
    c.self.view_is
    (at_most g.R.Region.asked c.self.inside.layout.parts (length c.self.inside.state.row)
    c.self.inside.state.found.numbers.room 2 2 c.self.inside.state.regions.items
    c.descend-in-Some-raise.new.state.regions.items
    (omega arith) c.self.invariant.ready.least
    (then_more 1 _ _ _ (length c.self.inside.state.row) c.self.inside.state.found.numbers.room
    (length c.raise.new.state.row) c.raise.new.state.found.numbers.room
    (omega (arith, c.raise.ensures.length)) c.raise.ensures.room
    (let most = within _ _ c.len-end.result (length c.self.inside.state.row) c.self.inside.state.found.numbers.room
    (omega (arith, c.len-end.ensures)) c.raise.ensures.asked in omega (arith, most))
    c.descend-in-Some-raise.ensures.asked))

pub returns-in-None-raise-clause-asked : goal.returns-in-None-raise-clause-asked
returns-in-None-raise-clause-asked g c =
    subst (λ walk. AsksAtMost g.R.Region.asked 2 walk c.raise.new.state.regions.items)
    c.self.view_is
    (at_most g.R.Region.asked c.self.inside.layout.parts (length c.self.inside.state.row)
    c.self.inside.state.found.numbers.room 1 2 c.self.inside.state.regions.items c.raise.new.state.regions.items
    (omega arith) c.self.invariant.ready.least
    (let most = within _ _ c.len-end.result (length c.self.inside.state.row) c.self.inside.state.found.numbers.room
    (omega (arith, c.len-end.ensures)) c.raise.ensures.asked in omega (arith, most)))
