-- Bytes that are appended piece by piece.
use Rattle.std.proofs.Common.{◌≡◌, ℕ, ◌+◌, ◌-◌, ◌≤◌, List, [], length, take, drop, refl, sym, ◌∙◌, ap, subst, arith, take_all, length-drop}
use Rattle.std.proofs.Math.Seq.{take-add}
use Rattle.std.specs.Prelude.{Result, Ok, Err, IsErr, IsTrue, unwrap_or}
use Rattle.helix_outside.specs.Count.{Rose}
use Rattle.helix_outside.specs.Files.{FileMap, appended}
use Rattle.helix_outside.specs.FileLaws.{appended-appended}
use Rattle.helix_outside.specs.Disk.{DiskState, WritesSome, written}
use Rattle.helix_output.specs.Writing.{PutsAll}

-- so far: the first bytes are appended
pub record HasPut (old : DiskState) (bytes : List ℕ) (done : ℕ) (new : DiskState) : Type 0 where
  pub told : new.told ≡ old.told
  pub input : new.input ≡ old.input
  pub output : new.output ≡ old.output
  pub read_faults : new.read_faults ≡ old.read_faults
  pub write_faults : new.write_faults ≡ old.write_faults
  pub within : done ≤ length bytes
  pub files : IsTrue old.told → new.files ≡ written old (take done bytes)

pub HasPut-start : (old : DiskState) (bytes : List ℕ) → HasPut old bytes 0 old
HasPut-start old bytes =
    record {
      told = refl;
      input = refl;
      output = refl;
      read_faults = refl;
      write_faults = refl;
      within = omega arith;
      files = λ t. refl;
    }

-- what a piece more leaves
pub files_further : (old now : DiskState) (bytes : List ℕ) (done n : ℕ) (files : FileMap)
    → now.output ≡ old.output → now.files ≡ written old (take done bytes)
    → files ≡ written now (take n (drop done bytes))
    → files ≡ written old (take (done + n) bytes)
files_further old now bytes done n files output so_far more =
    more
    ∙ ap (λ o. appended now.files (unwrap_or o []) (take n (drop done bytes))) output
    ∙ ap (λ f. appended f (unwrap_or old.output []) (take n (drop done bytes))) so_far
    ∙ appended-appended old.files (unwrap_or old.output []) (take done bytes) (take n (drop done bytes))
    ∙ ap (appended old.files (unwrap_or old.output [])) (sym (take-add done n bytes))

-- the rest of a slice, as code names it
pub rest_of : (bytes : List ℕ) (done : ℕ) → take (length bytes - done) (drop done bytes) ≡ drop done bytes
rest_of bytes done = take_all (length bytes - done) (drop done bytes) (omega (arith, length-drop done bytes))

module _ (old now : DiskState) (bytes : List ℕ) (done : ℕ) (so_far : HasPut old bytes done now) where
  -- at the end all bytes are there
  pub PutsAll-done : {T E : Type 0} (x : T) → length bytes ≤ done → PutsAll {T = T} {E = E} old bytes (Ok x) now
  PutsAll-done x end = record {
    only = record {
      told = so_far.told;
      input = so_far.input;
      output = so_far.output;
      read_faults = so_far.read_faults;
      write_faults = record {
        grows = omega (arith, so_far.write_faults);
        ok = so_far.write_faults;
        failed = tt;
      };
    };
    all = λ told. so_far.files told ∙ ap (written old) (take_all done bytes end);
    part = tt;
  }

  module _ (next : DiskState) (rest : List ℕ) (left : rest ≡ drop done bytes) where
    pub HasPut-step : {E : Type 0} (n : ℕ) → WritesSome {E = E} now rest (Ok n) next → HasPut old bytes (done + n) next
    HasPut-step n call = record {
      told = call.told ∙ so_far.told;
      input = call.input ∙ so_far.input;
      output = call.output ∙ so_far.output;
      read_faults = call.read_faults ∙ so_far.read_faults;
      write_faults = call.write_faults.ok ∙ so_far.write_faults;
      within = omega (arith, call.fits, length-drop done bytes, ap length left, so_far.within);
      files = λ told.
          files_further old now bytes done n next.files so_far.output (so_far.files told)
          (call.appended (so_far.told ∙ told) ∙ ap (λ r. written now (take n r)) left);
    }

    pub PutsAll-failed : {T E F : Type 0} (e : E) (result : Result T F) → IsErr result
        → WritesSome {E = E} now rest (Err e) next → PutsAll old bytes result next
    PutsAll-failed e (Ok x) is call = absurd (cc)
    PutsAll-failed e (Err f) is call = record {
      only = record {
        told = call.told ∙ so_far.told;
        input = call.input ∙ so_far.input;
        output = call.output ∙ so_far.output;
        read_faults = call.read_faults ∙ so_far.read_faults;
        write_faults = record {
          grows = omega (arith, call.write_faults.grows, so_far.write_faults);
          ok = tt;
          failed = subst (λ n. Rose n next.write_faults) so_far.write_faults call.write_faults.failed;
        };
      };
      all = tt;
      part = λ told.
          let failed : (n : ℕ) × (n ≤ length rest)
          × (next.files ≡ written now (take n rest)) = call.failed (so_far.told ∙ told) in (
            done + failed.0,
            omega (arith, length-drop done bytes, ap length left, failed.1, so_far.within),
            files_further old now bytes done failed.0 next.files so_far.output (so_far.files told)
                (failed.2 ∙ ap (λ r. written now (take failed.0 r)) left),
          );
    }
