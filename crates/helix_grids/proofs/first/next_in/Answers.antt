use Rattle.std.proofs.Common.{rules, ◌≡◌, true, pos, ◌+ℤ◌, ◌≤ℤ◌, ◌<ℤ◌, refl, FitsSigned, to_z-of_z, arith}
use Rattle.std.specs.Int.{w128}
use Rattle.std.proofs.lemmas.Bool.{false≢true}
use Rattle.std.proofs.lemmas.Int.{ints}
use Rattle.helix_grids.proofs.NextInWindow.{value_fits, none_next, next_least, next_later, next_fits_on}
use Rattle.helix_grids.proofs.first.next_in.Goals as goal

pub returns-then-not-is_regular : goal.returns-then-not-is_regular
returns-then-not-is_regular g c =
    let value : FitsSigned w128 c.args.value = c.ranges.value in
    let one : FitsSigned w128 (c.args.value +ℤ pos 1) = value_fits _ (g.met.S.Scale.laws c.args.scale.now) c.args.window
    c.requires.window c.args.value c.requires.value 1 (omega arith) in
    simp to_z-of_z at c.first_in.ensures

pub returns-then-next-window : goal.returns-then-next-window
returns-then-next-window g c =
    let value : FitsSigned w128 c.args.value = c.ranges.value in
    let most : FitsSigned w128 c.args.window.most = search rules in
    let by : FitsSigned w128 c.from.result = record { sfits = c.from.type_inv } in
    let regular : (g.S.Scale.ladder c.args.scale.now).is_regular c.args.window.on ≡ true = first_of (cc, grind arith) in
    let is : c.args.value +ℤ c.from.result ≡ c.args.value +ℤ pos
    ((g.S.Scale.ladder c.args.scale.now).step c.args.window.on) = omega (arith, ints, c.step.ensures, c.from.ensures) in
    let sum : FitsSigned w128 (c.args.value +ℤ c.from.result) = rw is
    (value_fits _ (g.met.S.Scale.laws c.args.scale.now) c.args.window c.requires.window c.args.value c.requires.value _
    (omega (arith, c.step.ensures, c.step.type_inv))) in
    let past : c.args.window.most <ℤ (c.args.value +ℤ c.from.result) = grind (arith, ints) in
    none_next _ (g.met.S.Scale.laws c.args.scale.now) c.args.window c.requires.window regular c.args.value _
    c.requires.value is past

pub overflow_add-next-else-is_off : goal.overflow_add-next-else-is_off
overflow_add-next-else-is_off g c =
    let value : FitsSigned w128 c.args.value = c.ranges.value in
    let most : FitsSigned w128 c.args.window.most = search rules in
    let by : FitsSigned w128 c.from.result = record { sfits = c.from.type_inv } in
    let is : c.args.value +ℤ c.from.result ≡ c.args.value +ℤ pos
    ((g.S.Scale.ladder c.args.scale.now).step c.args.window.on) = omega (arith, ints, c.step.ensures, c.from.ensures) in
    let sum : FitsSigned w128 (c.args.value +ℤ c.from.result) = rw is
    (value_fits _ (g.met.S.Scale.laws c.args.scale.now) c.args.window c.requires.window c.args.value c.requires.value _
    (omega (arith, c.step.ensures, c.step.type_inv))) in
    simp to_z-of_z (next_fits_on _ (g.met.S.Scale.laws c.args.scale.now) c.args.window c.requires.window c.args.value _
    c.requires.value _ is (omega (arith, c.step.ensures, c.step.type_inv)))

pub returns-then-is_off : goal.returns-then-is_off
returns-then-is_off g c =
    let value : FitsSigned w128 c.args.value = c.ranges.value in
    let most : FitsSigned w128 c.args.window.most = search rules in
    let by : FitsSigned w128 c.from.result = record { sfits = c.from.type_inv } in
    let regular : (g.S.Scale.ladder c.args.scale.now).is_regular c.args.window.on ≡ true = first_of (cc, grind arith) in
    let is : c.args.value +ℤ c.from.result ≡ c.args.value +ℤ pos
    ((g.S.Scale.ladder c.args.scale.now).step c.args.window.on) = omega (arith, ints, c.step.ensures, c.from.ensures) in
    let sum : FitsSigned w128 (c.args.value +ℤ c.from.result) = rw is
    (value_fits _ (g.met.S.Scale.laws c.args.scale.now) c.args.window c.requires.window c.args.value c.requires.value _
    (omega (arith, c.step.ensures, c.step.type_inv))) in
    let within : (c.args.value +ℤ c.from.result) ≤ℤ c.args.window.most = grind (arith, ints) in
    simp to_z-of_z (next_least _ (g.met.S.Scale.laws c.args.scale.now) c.args.window c.requires.window regular
    c.args.value _ c.requires.value is within (simp to_z-of_z at (c.if-is_off.ensures.0 refl)))

pub returns-else-is_off : goal.returns-else-is_off
returns-else-is_off g c =
    let value : FitsSigned w128 c.args.value = c.ranges.value in
    let most : FitsSigned w128 c.args.window.most = search rules in
    let by : FitsSigned w128 c.from.result = record { sfits = c.from.type_inv } in
    let regular : (g.S.Scale.ladder c.args.scale.now).is_regular c.args.window.on ≡ true = first_of (cc, grind arith) in
    let is : c.args.value +ℤ c.from.result ≡ c.args.value +ℤ pos
    ((g.S.Scale.ladder c.args.scale.now).step c.args.window.on) = omega (arith, ints, c.step.ensures, c.from.ensures) in
    let sum : FitsSigned w128 (c.args.value +ℤ c.from.result) = rw is
    (value_fits _ (g.met.S.Scale.laws c.args.scale.now) c.args.window c.requires.window c.args.value c.requires.value _
    (omega (arith, c.step.ensures, c.step.type_inv))) in
    let one : FitsSigned w128 (c.args.value +ℤ c.from.result +ℤ pos 1) = next_fits_on _
    (g.met.S.Scale.laws c.args.scale.now) c.args.window c.requires.window c.args.value _ c.requires.value _ is
    (omega (arith, c.step.ensures, c.step.type_inv)) in
    next_later _ (g.met.S.Scale.laws c.args.scale.now) c.args.window c.requires.window regular c.args.value _
    c.requires.value is _
    (λ has. false≢true ((simp to_z-of_z at c.if-is_off.ensures.1) has))
    (simp to_z-of_z at c.first_in-else-is_off.ensures)
