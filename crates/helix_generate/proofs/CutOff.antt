-- How a job ends whose rows are cut.
use Rattle.std.proofs.Common.{◌≡◌, ℕ, Bool, true, false, ◌&&◌, List, [], ◌∷◌, ◌++◌, inl, inr, refl, sym, ◌∙◌, ap, subst}
use Rattle.std.specs.Prelude.{Option, None, Some, Ok, Err, IsTrue, MatchBool, encode_utf8_all, not, is_some, option_map}
use Rattle.std.specs.FinMap.{get, insert}
use Rattle.helix_command.specs.declared.order.Job.{Job}
use Rattle.helix_lines.specs.declared.ending.Ending.{Ending}
use Rattle.helix_lines.specs.declared.ending.Ending.TheVariants as ending
use Rattle.helix_loading.specs.declared.loaded.Loaded.{Loaded}
use Rattle.helix_outside.specs.Count.{Rose}
use Rattle.helix_outside.specs.Disk.{DiskState, is_taken}
use Rattle.helix_token.specs.Token.{token_text}
use Rattle.helix_values.specs.declared.cell.Cell.{Cell}
use Rattle.helix_writing.specs.Files.{HoldsPart, WritesFile}
use Rattle.helix_writing.specs.Rows.{AreRows}
use Rattle.helix_writing.specs.Writing.{WritesRows}
use Rattle.helix_writing.specs.declared.data_file.DataFile.{DataFile}
use Rattle.helix_writing.specs.declared.data_file.Written.{Written}
use Rattle.helix_generate.specs.Generating.{Generates, LeavesToken}
use Rattle.helix_generate.specs.Inner.Ends.{EndsWith}
use Rattle.helix_generate.specs.Script.{IsCutAt, JobScript, with_data}
use Rattle.helix_generate.specs.Starts.{Gives, IsAccepted, StartsAfter, is_kept}
use Rattle.helix_generate.proofs.Written.{by_bool, different, file_for, files_are, free_data}

module _ (job : Job) (loaded : Loaded) (start : Option (List Cell)) (old mid new : DiskState) (file : DataFile)
    (name_is : file.name.now ≡ encode_utf8_all job.output)
    (gives : IsTrue old.told → Gives job old.files loaded)
    (starts : IsTrue old.told → StartsAfter job old.files loaded start) (last : List Cell) (written : Written)
    (writes : WritesRows (file_for job file) loaded.profile start old (Ok written) last mid)
    (cut : written.cut ≡ true) where
  abbrev accepted : IsTrue old.told → IsAccepted job old.files
  accepted told = record { loaded = loaded; start = start; gives = gives told; starts = starts told }

  free : IsTrue old.told → ¬ IsTrue (is_kept job old.files job.output)
  free = free_data job loaded start old mid file name_is gives starts last written writes

  mid_files : (told : IsTrue old.told) → mid.files ≡ with_data job old.files (accepted told) writes.end.rows
  mid_files told = files_are job loaded start old mid file name_is gives starts last written writes told

  cut_at : (told : IsTrue old.told) → IsCutAt job old.files (accepted told) writes.end.rows last
  cut_at told = record {
    writes = subst (AreRows loaded.profile start job.limit writes.end.rows) cut writes.end.are;
    last_is = writes.end.last_is cut;
  }

  abbrev token : List ℕ
  token = token_text loaded.identity loaded.profile.fields last

  -- the disk after the data file, where nothing more was written
  leaves_data : (told : IsTrue old.told) → new ≡ mid → LeavesToken job old.files new.files
  leaves_data told same = record {
    accepted = accepted told;
    free = free told;
    rows = writes.end.rows;
    last = last;
    cut = cut_at told;
    part = inl (ap (λ s. s.files) same ∙ mid_files told);
  }

  ends_wanting : new ≡ mid → Generates job old ending.WantOfMemory new
  ends_wanting same = record {
    told = ap (λ s. s.told) same ∙ writes.told;
    cause = (ap (λ s. s.read_faults) same ∙ writes.read_faults, ap (λ s. s.write_faults) same ∙ writes.write_faults);
    left = λ told. (inr (leaves_data told same), (λ csv. inr (leaves_data told same)));
  }

  ends_shown : job.token ≡ None → (shown : List ℕ) → shown ≡ token → new ≡ mid
      → Generates job old (ending.Cut written.rows (Some shown)) new
  ends_shown none shown is same = record {
    told = ap (λ s. s.told) same ∙ writes.told;
    cause = (ap (λ s. s.read_faults) same ∙ writes.read_faults, ap (λ s. s.write_faults) same ∙ writes.write_faults);
    left = λ told. subst (JobScript job old.files (ending.Cut written.rows (Some shown)))
        (sym (ap (λ s. s.files) same ∙ mid_files told))
        (JobScript.cut (accepted told) writes.end.rows last written.rows shown (free told) (cut_at told)
        writes.end.counted none is);
  }

  module _ (name : List ℕ) (named : job.token ≡ Some name) where
    -- where the disk tells its files, the token file is taken exactly if it is kept
    same_taken : (told : IsTrue old.told) → is_taken mid (encode_utf8_all name) job.replace
        ≡ is_kept job (with_data job old.files (accepted told) writes.end.rows) name
    same_taken told =
        ap (λ b. b && (not job.replace && is_some (get mid.files (encode_utf8_all name)))) (writes.told ∙ told)
        ∙ ap (λ f. not job.replace && is_some (get f (encode_utf8_all name))) (mid_files told)

    told_of : IsTrue (is_taken mid (encode_utf8_all name) job.replace) → IsTrue old.told
    told_of is = sym writes.told ∙ first mid.told is
      where
        first : (told : Bool) → (told && (not job.replace && is_some (get mid.files (encode_utf8_all name)))) ≡ true
            → told ≡ true
        first true is = refl
        first false is = is

    ends_filed : WritesFile {T = Unit {0}} {E = Unit {0}} mid (encode_utf8_all name) (token ++ 10 ∷ []) job.replace
        (Ok tt) new → Generates job old (ending.Cut written.rows None) new
    ends_filed filed = record {
      told = filed.told ∙ writes.told;
      cause = (filed.read_faults ∙ writes.read_faults, filed.write_faults.ok ∙ writes.write_faults);
      left = λ told. subst (JobScript job old.files (ending.Cut written.rows None))
          (sym (filed.whole (writes.told ∙ told) ∙ ap (λ f. insert f (encode_utf8_all name) (token ++ 10 ∷ [])) (mid_files
          told)))
          (JobScript.cut_to_file (accepted told) writes.end.rows last written.rows name (free told) (cut_at told)
          writes.end.counted named (λ kept. filed.free (same_taken told ∙ kept)));
    }

    ends_unfiled : WritesFile {T = Unit {0}} {E = Unit {0}} mid (encode_utf8_all name) (token ++ 10 ∷ []) job.replace
        (Err tt) new → Generates job old ending.WriteFault new
    ends_unfiled filed = by_bool (is_taken mid (encode_utf8_all name) job.replace)
        (λ is. record {
          told = filed.told ∙ writes.told;
          cause = (
            filed.read_faults ∙ writes.read_faults,
            inr (
              told_of is,
              subst (JobScript job old.files
                  ending.WriteFault) (sym (filed.taken is ∙ mid_files (told_of is)))
                  (JobScript.token_taken (accepted (told_of is)) writes.end.rows last name (free (told_of is))
                  (cut_at (told_of is)) named (sym (same_taken (told_of is)) ∙ is)),
            ),
          );
          left = λ told. (
            accepted told,
            inr (record {
              accepted = accepted told;
              free = free told;
              rows = writes.end.rows;
              last = last;
              cut = cut_at told;
              part = inl (filed.taken is ∙ mid_files told);
            }),
          );
        })
        (λ free_is. record {
          told = filed.told ∙ writes.told;
          cause = (
            filed.read_faults ∙ writes.read_faults,
            inl (subst (λ n. Rose n new.write_faults) writes.write_faults
                (subst (λ b. MatchBool b (new.write_faults ≡ mid.write_faults) (Rose mid.write_faults new.write_faults))
                free_is filed.write_faults.failed)),
          );
          left = λ told. (
            accepted told,
            inr (record {
              accepted = accepted told;
              free = free told;
              rows = writes.end.rows;
              last = last;
              cut = cut_at told;
              part = inr (
                name,
                named,
                (λ kept. different (sym free_is ∙ same_taken told ∙ kept)),
                subst (λ f. HoldsPart f (encode_utf8_all name) (token ++ 10 ∷ []) new.files) (mid_files told)
                    (filed.part (writes.told ∙ told)),
              );
            }),
          );
        })

  pub ends_cut : (names : Option (List ℕ)) → names ≡ option_map encode_utf8_all job.token → (end : Ending)
      → EndsWith names token job.replace written.rows mid end new → Generates job old end new
  ends_cut names is end ends = by_token job.token refl end (subst (λ n. EndsWith n token job.replace written.rows mid end
      new) is ends)
    where
      by_token : (name : Option (List ℕ)) → job.token ≡ name → (end : Ending)
          → EndsWith (option_map encode_utf8_all name) token job.replace written.rows mid end new
          → Generates job old end new
      by_token None none ending.WantOfMemory same = ends_wanting same
      by_token None none (ending.Cut count (Some shown)) (counted, is, same) =
          subst (λ n. Generates job old (ending.Cut n (Some shown)) new) (sym counted) (ends_shown none shown is same)
      by_token None none (ending.Cut count None) ends = absurd ends
      by_token None none ending.WriteFault ends = absurd ends
      by_token None none ending.ReadFault ends = absurd ends
      by_token None none (ending.Word number) ends = absurd ends
      by_token None none (ending.«Option» option) ends = absurd ends
      by_token None none (ending.ProfileRefused line) ends = absurd ends
      by_token None none (ending.TokenRefused line) ends = absurd ends
      by_token None none (ending.Done rows) ends = absurd ends
      by_token None none ending.Empty ends = absurd ends
      by_token (Some name) named ending.WantOfMemory same = ends_wanting same
      by_token (Some name) named (ending.Cut count None) (counted, filed) =
          subst (λ n. Generates job old (ending.Cut n None) new) (sym counted) (ends_filed name named filed)
      by_token (Some name) named (ending.Cut count (Some shown)) ends = absurd ends
      by_token (Some name) named ending.WriteFault filed = ends_unfiled name named filed
      by_token (Some name) named ending.ReadFault ends = absurd ends
      by_token (Some name) named (ending.Word number) ends = absurd ends
      by_token (Some name) named (ending.«Option» option) ends = absurd ends
      by_token (Some name) named (ending.ProfileRefused line) ends = absurd ends
      by_token (Some name) named (ending.TokenRefused line) ends = absurd ends
      by_token (Some name) named (ending.Done rows) ends = absurd ends
      by_token (Some name) named ending.Empty ends = absurd ends
