-- A file: it is begun, its text is put, and it is finished.
use Rattle.std.proofs.Common.{◌≡◌, ℕ, ◌≤◌, List, [], length, take, take_all, refl, sym, ◌∙◌, ap, subst, arith, inr, Bool, true, false}
use Rattle.std.specs.Prelude.{IsTrue, Result, Ok, Err, IsErr, unwrap_or, MatchBool}
use Rattle.std.specs.FinMap.{insert}
use Rattle.helix_outside.specs.Count.{Rose}
use Rattle.helix_outside.specs.Files.{FileMap, appended}
use Rattle.helix_outside.specs.FileLaws.{appended-insert}
use Rattle.helix_outside.specs.Disk.{DiskState, BeginsWrite, Finishes, is_taken, written}
use Rattle.helix_output.specs.Writing.{PutsAll}
use Rattle.helix_writing.specs.Files.{WritesFile}

false_from : (b : Bool) → (b ≡ true → ⊥) → b ≡ false
false_from true h = absurd (h refl)
false_from false h = refl

module _ {T E : Type 0} (old begun : DiskState) (name : List ℕ) (replace : Bool) (x : T)
    (call : BeginsWrite {E = E} old name replace (Ok x) begun) where
  pub not_taken : ¬ IsTrue (is_taken old name replace)
  not_taken t = let h : IsErr {T = T} {E = E} (Ok x) = call.taken t in cc

  pub free : is_taken old name replace ≡ false
  free = false_from _ not_taken

  -- what the file holds once a prefix is put
  pub files_after : (now : FileMap) (part : List ℕ) → IsTrue old.told → now ≡ written begun part
      → now ≡ insert old.files name part
  files_after now part told e =
      e
      ∙ ap (λ o. appended begun.files (unwrap_or o []) part) (call.named told)
      ∙ ap (λ f. appended f name part) (call.emptied told)
      ∙ appended-insert old.files name [] part

  module _ (text : List ℕ) where
    pub put_failed : {U F V W : Type 0} (put : DiskState) (e : W) (result : Result U F) → IsErr result
        → PutsAll {T = V} begun text (Err e) put → WritesFile old name text replace result put
    put_failed put e (Ok y) is puts = absurd (cc)
    put_failed put e (Err f) is puts = record {
      told = puts.only.told ∙ call.told;
      read_faults = puts.only.read_faults ∙ call.read_faults;
      write_faults = record {
        grows = omega (arith, puts.only.write_faults.grows, call.write_faults.ok);
        ok = tt;
        failed =
            subst (λ b. MatchBool b (put.write_faults ≡ old.write_faults) (Rose old.write_faults put.write_faults))
            (sym free)
            (subst (λ n. Rose n put.write_faults) call.write_faults.ok puts.only.write_faults.failed);
      };
      free = tt;
      whole = tt;
      taken = λ t. absurd (not_taken t);
      part = λ told.
          let part : (n : ℕ) × (n ≤ length text)
          × (put.files ≡ written begun (take n text)) = puts.part (call.told ∙ told) in
          inr (part.0, part.1, files_after put.files (take part.0 text) told part.2);
    }

    pub finished : {U F V W : Type 0} (put done : DiskState) (y : V) (result : Result U F)
        → PutsAll {E = W} begun text (Ok y) put → Finishes put result done
        → WritesFile old name text replace result done
    finished put done y (Ok z) puts end = record {
      told = end.told ∙ puts.only.told ∙ call.told;
      read_faults = end.read_faults ∙ puts.only.read_faults ∙ call.read_faults;
      write_faults = record {
        grows = omega (arith, end.write_faults.grows, puts.only.write_faults.grows, call.write_faults.grows);
        ok = end.write_faults.ok ∙ puts.only.write_faults.ok ∙ call.write_faults.ok;
        failed = tt;
      };
      free = not_taken;
      whole = λ told. end.files ∙ files_after put.files text told (puts.all (call.told ∙ told));
      taken = λ t. absurd (not_taken t);
      part = tt;
    }
    finished put done y (Err f) puts end = record {
      told = end.told ∙ puts.only.told ∙ call.told;
      read_faults = end.read_faults ∙ puts.only.read_faults ∙ call.read_faults;
      write_faults = record {
        grows = omega (arith, end.write_faults.grows, puts.only.write_faults.grows, call.write_faults.grows);
        ok = tt;
        failed =
            subst (λ b. MatchBool b (done.write_faults ≡ old.write_faults) (Rose old.write_faults done.write_faults))
            (sym free)
            (subst (λ n. Rose n done.write_faults) (puts.only.write_faults.ok ∙ call.write_faults.ok)
            end.write_faults.failed);
      };
      free = tt;
      whole = tt;
      taken = λ t. absurd (not_taken t);
      part = λ told. inr (
        length text,
        omega arith,
        end.files ∙ files_after put.files text told (puts.all (call.told ∙ told))
            ∙ ap (insert old.files name) (sym (take_all (length text) text (omega arith))),
      );
    }
