use Rattle.std.proofs.Common.{◌≡◌, ◌≤◌, ◌-◌, ◌∙◌, None, length, vec_len, refl, sym, arith}
use Rattle.helix_options.proofs.Descending.{nonempty, last_is, first_at, first_taken, none_taken, less_left}
use Rattle.helix_options.proofs.paths.Paths.next.Goals as goal

pub returns-in-Some : goal.returns-in-Some
returns-in-Some c =
    let whole : vec_len c.loop-alloc.self-inside.branches ≡ length c.loop-alloc.self-inside.branches.items =
    omega arith in
    let some : 1 ≤ length c.loop-alloc.self-inside.branches.items = nonempty _ _ c.is_empty.result c.is_empty.ensures
    c.loop-alloc-test.true whole in
    let index : c.len-last.result - 1 ≡ length c.loop-alloc.self-inside.branches.items - 1 = omega arith in
    sym c.self.view_is ∙ (sym c.loop-alloc.invariant
    ∙ first_taken c.loop-alloc.self-inside.nullable c.loop-alloc.self-inside.branches.items
    c.replace_last.new.branches.items c.in_ok-branch.branch c.in_ok-path.field-0.others.items some
    (last_is c.loop-alloc.self-inside.branches.items c.in_ok-branch.branch c.index.result.now _ c.in_ok-branch.ensures
    c.index.ensures index) c.in_ok-replace_last.ensures.ok c.in-Some.path
    (first_at c.as_slice.result.now c.loop-alloc.self-inside.nullable c.in_ok-branch.branch c.in_ok-path.field-0.path _
    c.in_ok-path.field-0.others.items _ c.as_slice.ensures (sym c.in-Some.is) refl c.in_ok-path.ensures))

pub loop-alloc-smaller : goal.loop-alloc-smaller
loop-alloc-smaller c =
    let whole : vec_len c.loop-alloc.self-inside.branches ≡ length c.loop-alloc.self-inside.branches.items =
    omega arith in
    let some : 1 ≤ length c.loop-alloc.self-inside.branches.items = nonempty _ _ c.is_empty.result c.is_empty.ensures
    c.loop-alloc-test.true whole in
    let index : c.len-last.result - 1 ≡ length c.loop-alloc.self-inside.branches.items - 1 = omega arith in
    less_left c.loop-alloc.self-inside.nullable c.loop-alloc.self-inside.branches.items
    c.replace_last.new.branches.items c.in_ok-branch.branch c.in_ok-path.field-0.others.items some
    (last_is c.loop-alloc.self-inside.branches.items c.in_ok-branch.branch c.index.result.now _ c.in_ok-branch.ensures
    c.index.ensures index) c.in_ok-replace_last.ensures.ok
    (first_at c.as_slice.result.now c.loop-alloc.self-inside.nullable c.in_ok-branch.branch c.in_ok-path.field-0.path
    None c.in_ok-path.field-0.others.items _ c.as_slice.ensures (sym c.in-None.is) refl c.in_ok-path.ensures)

pub loop-alloc-preserved : goal.loop-alloc-preserved
loop-alloc-preserved c =
    let whole : vec_len c.loop-alloc.self-inside.branches ≡ length c.loop-alloc.self-inside.branches.items =
    omega arith in
    let some : 1 ≤ length c.loop-alloc.self-inside.branches.items = nonempty _ _ c.is_empty.result c.is_empty.ensures
    c.loop-alloc-test.true whole in
    let index : c.len-last.result - 1 ≡ length c.loop-alloc.self-inside.branches.items - 1 = omega arith in
    none_taken c.loop-alloc.self-inside.nullable c.loop-alloc.self-inside.branches.items
    c.replace_last.new.branches.items c.in_ok-branch.branch c.in_ok-path.field-0.others.items some
    (last_is c.loop-alloc.self-inside.branches.items c.in_ok-branch.branch c.index.result.now _ c.in_ok-branch.ensures
    c.index.ensures index) c.in_ok-replace_last.ensures.ok
    (first_at c.as_slice.result.now c.loop-alloc.self-inside.nullable c.in_ok-branch.branch c.in_ok-path.field-0.path
    None c.in_ok-path.field-0.others.items _ c.as_slice.ensures (sym c.in-None.is) refl c.in_ok-path.ensures)
    ∙ c.loop-alloc.invariant
