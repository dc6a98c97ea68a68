-- How a job ends that is ready to write.
use Rattle.std.proofs.Common.{◌≡◌, ℕ, ◌≤◌, Bool, true, false, List, [], ◌∷◌, inl, inr, refl, sym, ◌∙◌, ap, subst, arith}
use Rattle.std.proofs.lemmas.Option.{same_Some}
use Rattle.std.specs.Prelude.{Option, Some, Ok, Err, IsTrue, MatchBool, encode_utf8_all, option_map, string_bytes}
use Rattle.helix_command.specs.declared.order.Job.{Job}
use Rattle.helix_lines.specs.declared.ending.Ending.{Ending}
use Rattle.helix_lines.specs.declared.ending.Ending.TheVariants as ending
use Rattle.helix_loading.specs.declared.loaded.Loaded.{Loaded}
use Rattle.helix_outside.specs.Disk.{DiskState}
use Rattle.helix_output.specs.Fitting.{FitsFields}
use Rattle.helix_profile.specs.Answer.{IsAmong}
use Rattle.helix_profile.specs.Content.{Content}
use Rattle.helix_profile.specs.Good.{IsGood}
use Rattle.helix_token.specs.Token.{token_text}
use Rattle.helix_values.specs.declared.cell.Cell.{Cell}
use Rattle.helix_walk.specs.NextRows.{end_of}
use Rattle.helix_writing.proofs.MostRows.{cells_fit}
use Rattle.helix_writing.specs.GoodRows.{Place}
use Rattle.helix_writing.specs.Rows.{AreRows}
use Rattle.helix_writing.specs.Writing.{WritesRows}
use Rattle.helix_writing.specs.declared.data_file.DataFile.{DataFile}
use Rattle.helix_writing.specs.declared.data_file.WriteFault.TheVariants as fault
use Rattle.helix_writing.specs.declared.data_file.Written.{Written}
use Rattle.helix_generate.specs.Generating.{Generates}
use Rattle.helix_generate.specs.Inner.Ends.{EndsWhole, EndsWith}
use Rattle.helix_generate.specs.Inner.Steps.{IsReady}
use Rattle.helix_generate.specs.Starts.{Gives, StartsAfter}
use Rattle.helix_generate.specs.declared.preparing.Ready.{Ready}
use Rattle.helix_generate.proofs.CutOff.{ends_cut}
use Rattle.helix_generate.proofs.Written.{ends_done, ends_empty, ends_failed, ends_wanting, file_for}

-- the row at the end of a list is one of it
last_among : (start : Option (List Cell)) (first : List Cell) (rows : List (List Cell)) (last : List Cell)
    → end_of start (first ∷ rows) ≡ Some last → IsAmong (first ∷ rows) last
last_among start first [] last is = inl (some_is is)
  where
    some_is : Some first ≡ Some last → first ≡ last
    some_is e = same_Some first last e
last_among start first (next ∷ rows) last is = inr (last_among (Some first) next rows last is)

-- so the last row of a cut list is good
last_good : (profile : Content) (start : Option (List Cell)) (limit : ℕ) (rows : List (List Cell)) (last : List Cell)
    → AreRows profile start limit rows true → 1 ≤ limit → end_of start rows ≡ Some last → IsGood profile last
last_good profile start limit [] last are some is = absurd (omega (arith, are.full, some))
last_good profile start limit (first ∷ rows) last are some is =
    (are.prefix.good last (last_among start first rows last is)).0

module _ (job : Job) (loaded : Loaded) (start : Option (List Cell)) (ready : Ready)
    (is : IsReady job loaded start ready) where
  -- the last row fits the fields of the profile
  pub last_fits : (old new : DiskState) (file : DataFile) (written : Written) (last : List Cell) (place : Place)
      → place.profile ≡ ready.rows.profile → 1 ≤ job.limit
      → WritesRows (file_for job file) ready.rows.profile start old (Ok written) last new
      → written.cut ≡ true → FitsFields place.profile.fields last
  last_fits old new file written last place same some writes cut =
      subst (λ p. FitsFields p.fields last) (sym same)
      (cells_fit ready.rows.profile.fields last
      (last_good ready.rows.profile start job.limit writes.end.rows last
      (subst (AreRows ready.rows.profile start job.limit writes.end.rows) cut writes.end.are) some
      (writes.end.last_is cut)).cells)

  module _ (old new : DiskState) (file : DataFile) (name_is : file.name.now ≡ encode_utf8_all job.output)
      (gives : IsTrue old.told → Gives job old.files loaded)
      (starts : IsTrue old.told → StartsAfter job old.files loaded start) (last : List Cell) where
    pub failed : WritesRows (file_for job file) ready.rows.profile start old (Err fault.Failed) last new
        → Generates job old ending.WriteFault new
    failed writes = ends_failed job loaded start old new file name_is gives starts last
        (subst (λ p. WritesRows (file_for job file) p start old (Err fault.Failed) last new) is.profile_is writes)

    pub wanting : WritesRows (file_for job file) ready.rows.profile start old (Err fault.Memory) last new
        → Generates job old ending.WantOfMemory new
    wanting writes = ends_wanting job loaded start old new file name_is gives starts last
        (subst (λ p. WritesRows (file_for job file) p start old (Err fault.Memory) last new) is.profile_is writes)

    module _ (written : Written)
        (writes : WritesRows (file_for job file) ready.rows.profile start old (Ok written) last new) where
      writes_loaded : WritesRows (file_for job file) loaded.profile start old (Ok written) last new
      writes_loaded = subst (λ p. WritesRows (file_for job file) p start old (Ok written) last new) is.profile_is writes

      by_some : (some : Bool) → ready.some ≡ some → written.cut ≡ false → (after : DiskState) (end : Ending)
          → EndsWhole some written.rows new end after → Generates job old end after
      by_some true some whole after end (ends, same) =
          subst (λ e. Generates job old e after) (sym ends) (subst (Generates job old (ending.Done written.rows))
          (sym same) (ends_done job loaded start old new file name_is gives starts last written writes_loaded whole
          (is.some some).0 (is.some some).1))
      by_some false none whole after end (ends, same) =
          subst (λ e. Generates job old e after) (sym ends) (subst (Generates job old ending.Empty)
          (sym same) (ends_empty job loaded start old new file name_is gives starts last written writes_loaded
          (is.none none)))

      -- whatever is read of what was ready stays as it was, but for the place and the last row
      pub written_ends : (place : Place) → place.profile ≡ ready.rows.profile → (after : DiskState) (end : Ending)
          → MatchBool written.cut
          (EndsWith (option_map string_bytes ready.token) (token_text ready.identity place.profile.fields last)
          job.replace written.rows new end after)
          (EndsWhole ready.some written.rows new end after)
          → Generates job old end after
      written_ends place same after end ends = by_cut written.cut refl ends
        where
          token_is : token_text ready.identity place.profile.fields last
              ≡ token_text loaded.identity loaded.profile.fields last
          token_is = ap (λ i. token_text i place.profile.fields last) is.identity_is
              ∙ ap (λ p. token_text loaded.identity p.fields last) (same ∙ is.profile_is)

          by_cut : (cut : Bool) → written.cut ≡ cut → MatchBool cut
              (EndsWith (option_map string_bytes ready.token) (token_text ready.identity place.profile.fields last)
              job.replace written.rows new end after)
              (EndsWhole ready.some written.rows new end after)
              → Generates job old end after
          by_cut true cut ends = ends_cut job loaded start old new after file name_is gives starts last written
              writes_loaded cut (option_map string_bytes ready.token) is.token_is end
              (subst (λ t. EndsWith (option_map string_bytes ready.token) t job.replace written.rows new end after)
              token_is ends)
          by_cut false whole ends = by_some ready.some refl whole after end ends
