-- A second line after a first one.
use Rattle.std.proofs.Common.{◌≡◌, ℕ, ◌+◌, ◌≤◌, List, ◌++◌, length, take, sym, ◌∙◌, ap, subst, arith, append_assoc, length-append}
use Rattle.std.proofs.Math.Seq.{take-append-add}
use Rattle.std.specs.Prelude.{Result, Ok, Err}
use Rattle.helix_outside.specs.Console.{AddsLine, Screen, line_text}
use Rattle.helix_outside.specs.Count.{Rose}
use Rattle.helix_lines.specs.Inner.Saying.{Says}

module _ (old mid new : Screen) (first second : List ℕ) where
  pub two_lines : {S T E F : Type 0} (x : S) (result : Result T E) → AddsLine {E = F} old first (Ok x) mid
      → AddsLine mid second result new → Says old (line_text first ++ line_text second) result new
  two_lines x (Ok y) one other = record {
    told = other.told ∙ one.told;
    faults = record {
      grows = omega (arith, one.faults.grows, other.faults.grows);
      ok = other.faults.ok ∙ one.faults.ok;
      failed = tt;
    };
    all = λ told.
        other.added (one.told ∙ told) ∙ ap (λ text. text ++ line_text second) (one.added told)
        ∙ append_assoc old.text (line_text first) (line_text second);
    part = tt;
  }
  two_lines x (Err e) one other = record {
    told = other.told ∙ one.told;
    faults = record {
      grows = omega (arith, one.faults.grows, other.faults.grows);
      ok = tt;
      failed = subst (λ n. Rose n new.faults) one.faults.ok other.faults.failed;
    };
    all = tt;
    part = λ told.
        let part : (n : ℕ) × (n ≤ length (line_text second))
        × (new.text ≡ mid.text ++ take n (line_text second)) = other.failed (one.told ∙ told) in (
          length (line_text first) + part.0,
          omega (arith, part.1, length-append (line_text first) (line_text second)),
          part.2 ∙ ap (λ text. text ++ take part.0 (line_text second)) (one.added told)
              ∙ append_assoc old.text (line_text first) (take part.0 (line_text second))
              ∙ ap (λ text. old.text ++ text) (sym (take-append-add (line_text first) (line_text second) part.0)),
        );
  }
