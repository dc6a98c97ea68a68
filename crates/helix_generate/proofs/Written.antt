-- How a job ends once writing its data file ended.
use Rattle.std.proofs.Common.{◌≡◌, Bool, true, false, ◌&&◌, List, [], ◌∷◌, inl, inr, refl, sym, ◌∙◌, ap, subst}
use Rattle.std.specs.Prelude.{Option, Result, Ok, Err, IsTrue, MatchBool, encode_utf8_all, not, is_some}
use Rattle.std.specs.FinMap.{get, insert}
use Rattle.helix_command.specs.declared.order.Job.{Job}
use Rattle.helix_lines.specs.declared.ending.Ending.TheVariants as ending
use Rattle.helix_loading.specs.declared.loaded.Loaded.{Loaded}
use Rattle.helix_outside.specs.Count.{Rose}
use Rattle.helix_outside.specs.Disk.{DiskState, is_taken}
use Rattle.helix_output.specs.declared.format.Format.TheVariants.{Csv, Json}
use Rattle.helix_profile.specs.Good.{IsGood}
use Rattle.helix_values.specs.declared.cell.Cell.{Cell}
use Rattle.helix_output.specs.DataText.{data_text}
use Rattle.helix_writing.specs.Files.{HoldsPart}
use Rattle.helix_writing.specs.Rows.{AreRows}
use Rattle.helix_writing.specs.Writing.{WritesRows}
use Rattle.helix_writing.specs.declared.data_file.DataFile.{DataFile}
use Rattle.helix_writing.specs.declared.data_file.WriteFault.{WriteFault}
use Rattle.helix_writing.specs.declared.data_file.WriteFault.TheVariants as fault
use Rattle.helix_writing.specs.declared.data_file.Written.{Written}
use Rattle.helix_generate.specs.Generating.{Generates, LeavesData}
use Rattle.helix_generate.specs.Script.{JobScript, with_data}
use Rattle.helix_generate.specs.Starts.{Gives, IsAccepted, StartsAfter, is_kept}

-- the data file of a job, by its name for the disk
abbrev pub file_for : Job → DataFile → DataFile
file_for job file = record file { replace = job.replace; format = job.format; limit = job.limit }

false_from : (b : Bool) → ¬ (b ≡ true) → b ≡ false
false_from true h = absurd (h refl)
false_from false h = refl

pub different : false ≡ true → ⊥
different e = absurd (cc)

pub by_bool : {G : Type 0} (b : Bool) → (b ≡ true → G) → (b ≡ false → G) → G
by_bool true on_true on_false = on_true refl
by_bool false on_true on_false = on_false refl

module _ (job : Job) (loaded : Loaded) (start : Option (List Cell)) (old new : DiskState) (file : DataFile)
    (name_is : file.name.now ≡ encode_utf8_all job.output)
    (gives : IsTrue old.told → Gives job old.files loaded)
    (starts : IsTrue old.told → StartsAfter job old.files loaded start) where
  abbrev pub accepted : IsTrue old.told → IsAccepted job old.files
  accepted told = record { loaded = loaded; start = start; gives = gives told; starts = starts told }

  -- where the disk tells its files, the file is taken exactly if it is kept
  same_taken : IsTrue old.told → is_taken old file.name.now job.replace ≡ is_kept job old.files job.output
  same_taken told =
      ap (λ b. b && (not job.replace && is_some (get old.files file.name.now))) told
      ∙ ap (λ n. not job.replace && is_some (get old.files n)) name_is

  kept_told : IsTrue (is_taken old file.name.now job.replace) → IsTrue old.told
  kept_told is = told_of old.told is
    where
      told_of : (told : Bool) → (told && (not job.replace && is_some (get old.files file.name.now))) ≡ true
          → told ≡ true
      told_of true is = refl
      told_of false is = is

  module _ (last : List Cell) where
    pub ends_failed : WritesRows (file_for job file) loaded.profile start old (Err fault.Failed) last new
        → Generates job old ending.WriteFault new
    ends_failed writes = by_bool (is_taken old file.name.now job.replace)
        (λ is. record {
          told = writes.told;
          cause = (
            writes.read_faults,
            inr (
              kept_told is,
              subst (JobScript job old.files ending.WriteFault)
                  (sym (writes.taken is).1)
                  (JobScript.taken (accepted (kept_told is)) (sym (same_taken (kept_told is)) ∙ is)),
            ),
          );
          left = λ told. (accepted told, inl (inl (writes.taken is).1));
        })
        (λ free_is. record {
          told = writes.told;
          cause = (
            writes.read_faults,
            inl (subst (λ b. MatchBool b (new.write_faults ≡ old.write_faults)
                (Rose old.write_faults new.write_faults)) free_is writes.write_faults),
          );
          left = λ told. (accepted told, inl (inr (leaves told free_is)));
        })
      where
        leaves : (told : IsTrue old.told) → is_taken old file.name.now job.replace ≡ false
            → LeavesData job old.files new.files
        leaves told free_is = record {
          accepted = accepted told;
          free = λ is. different (sym free_is ∙ same_taken told ∙ is);
          part = λ rows cut are. subst (λ n. HoldsPart old.files n (data_text job.format loaded.profile.fields rows)
              new.files) name_is (writes.end.part told rows cut are);
        }

    pub ends_wanting : WritesRows (file_for job file) loaded.profile start old (Err fault.Memory) last new
        → Generates job old ending.WantOfMemory new
    ends_wanting writes = record {
      told = writes.told;
      cause = (writes.read_faults, writes.write_faults);
      left = λ told. (inl (inr (leaves told)), (λ csv. absurd (csv_is (writes.end.memory refl) csv)));
    }
      where
        csv_is : job.format ≡ Json → job.format ≡ Csv → ⊥
        csv_is json csv = formats (sym json ∙ csv)
          where
            formats : Json ≡ Csv → ⊥
            formats e = absurd (cc)

        free : IsTrue old.told → ¬ IsTrue (is_kept job old.files job.output)
        free told is = failed (writes.taken (same_taken told ∙ is)).0
          where
            failed : ◌≡◌ {A = Result Written WriteFault} (Err fault.Memory) (Err fault.Failed) → ⊥
            failed e = absurd (cc)

        leaves : (told : IsTrue old.told) → LeavesData job old.files new.files
        leaves told = record {
          accepted = accepted told;
          free = free told;
          part = λ rows cut are. subst (λ n. HoldsPart old.files n (data_text job.format loaded.profile.fields rows)
              new.files) name_is (writes.end.part told rows cut are);
        }

    module _ (written : Written)
        (writes : WritesRows (file_for job file) loaded.profile start old (Ok written) last new) where
      pub free_data : IsTrue old.told → ¬ IsTrue (is_kept job old.files job.output)
      free_data told is = failed (writes.taken (same_taken told ∙ is)).0
        where
          failed : ◌≡◌ {A = Result Written WriteFault} (Ok written) (Err fault.Failed) → ⊥
          failed e = absurd (cc)

      pub files_are : (told : IsTrue old.told)
          → new.files ≡ with_data job old.files (accepted told) writes.end.rows
      files_are told = writes.end.files told
          ∙ ap (λ n. insert old.files n (data_text job.format loaded.profile.fields writes.end.rows)) name_is

      pub ends_done : written.cut ≡ false → (row : List Cell) → IsGood loaded.profile row
          → Generates job old (ending.Done written.rows) new
      ends_done whole row good = record {
        told = writes.told;
        cause = (writes.read_faults, writes.write_faults);
        left = λ told. subst (JobScript job old.files (ending.Done written.rows)) (sym (files_are told))
            (JobScript.done (accepted told) writes.end.rows written.rows (row, good) (free_data told)
            (subst (AreRows loaded.profile start job.limit writes.end.rows) whole writes.end.are) writes.end.counted);
      }

      no_rows : ((row : List Cell) → ¬ IsGood loaded.profile row) → (rows : List (List Cell)) (cut : Bool)
          → AreRows loaded.profile start job.limit rows cut → rows ≡ []
      no_rows none [] cut are = refl
      no_rows none (row ∷ rows) true are = absurd (none row (are.prefix.good row (inl refl)).0)
      no_rows none (row ∷ rows) false are = absurd (none row ((are.rest.members row).0 (inl refl)).0)

      pub ends_empty : ((row : List Cell) → ¬ IsGood loaded.profile row) → Generates job old ending.Empty new
      ends_empty none = record {
        told = writes.told;
        cause = (writes.read_faults, writes.write_faults);
        left = λ told. subst (JobScript job old.files ending.Empty)
            (sym (files_are told ∙ ap (with_data job old.files (accepted told)) (no_rows none writes.end.rows written.cut
            writes.end.are)))
            (JobScript.empty (accepted told) none (free_data told));
      }
