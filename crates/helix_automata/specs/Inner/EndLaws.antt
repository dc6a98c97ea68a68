-- One end that codes pass.
use Rattle.std.specs.Prelude.{◌≡◌, ℕ, ◌<◌, ◌≤◌, nat_le, Bool, true, false, refl}
use Rattle.std.proofs.Common.{cond, arith, sym, ap, ◌∙◌}
use Rattle.std.proofs.lemmas.Bool.{leb-true, le-leb}

-- 1 up to the end, and 0 above it
abbrev pub one_from : ℕ → ℕ → ℕ
one_from code last = cond (nat_le code last) 1 0

pub one_here : (code last : ℕ) → code ≤ last → one_from code last ≡ 1
one_here code last low = ap (λ b. cond b 1 0) (le-leb code last low)

pub one_gone : (code last : ℕ) → last < code → one_from code last ≤ 0
one_gone code last above = by (nat_le code last) refl
  where
    by : (b : Bool) → nat_le code last ≡ b → cond b 1 0 ≤ 0
    by false e = omega arith
    by true e = let low = leb-true code last e in absurd (omega (arith, low, above))

pub one_most : (code last : ℕ) → one_from code last ≤ 1
one_most code last = by (nat_le code last)
  where
    by : (b : Bool) → cond b 1 0 ≤ 1
    by false = omega arith
    by true = omega arith

pub one_falls : (code other last : ℕ) → code ≤ other → one_from other last ≤ one_from code last
one_falls code other last low = by (nat_le other last) refl (nat_le code last) refl
  where
    by : (b : Bool) → nat_le other last ≡ b → (d : Bool) → nat_le code last ≡ d → cond b 1 0 ≤ cond d 1 0
    by false e d f = omega arith
    by true e true f = omega arith
    by true e false f = let high = leb-true other last e in
        let t : true ≡ false = sym (le-leb code last (omega (arith, high, low))) ∙ f in cc
