-- The data file: it is begun, the text of the rows is sent, and it is finished.
use Rattle.std.proofs.Common.{◌≡◌, ℕ, List, length, take, take_all, Option, inr, sym, ◌∙◌, ap, subst, arith, append-nil}
use Rattle.std.specs.Prelude.{Result, Ok, Err, IsErrAnd, IsTrue, MatchBool}
use Rattle.std.specs.FinMap.{insert}
use Rattle.helix_outside.specs.Count.{Rose}
use Rattle.helix_outside.specs.Disk.{BeginsWrite, DiskState, Finishes, is_taken, written}
use Rattle.helix_profile.specs.Content.{Content}
use Rattle.helix_values.specs.declared.cell.Cell.{Cell}
use Rattle.helix_writing.specs.Files.{HoldsPart}
use Rattle.helix_writing.specs.Inner.Sending.{CountsStop}
use Rattle.helix_writing.specs.Inner.Sent.{HasSentRows, StopsSentRows}
use Rattle.helix_writing.specs.Writing.{CountsWriting, WritesRows, text_of}
use Rattle.helix_writing.specs.declared.data_file.DataFile.{DataFile}
use Rattle.helix_writing.specs.declared.data_file.WriteFault.{WriteFault}
use Rattle.helix_writing.specs.declared.data_file.WriteFault.TheVariants as fault
use Rattle.helix_writing.specs.declared.data_file.Written.{Written}
use Rattle.helix_writing.proofs.RowLists.{one_list}
use Rattle.helix_writing.proofs.WholeFile.{files_after, free, not_taken}

module _ {T E : Type 0} (file : DataFile) (profile : Content) (start : Option (List Cell)) (old begun : DiskState) (x : T)
    (call : BeginsWrite {E = E} old file.name.now file.replace (Ok x) begun) where
  failed_if : (new : ℕ) → Rose begun.write_faults new
      → CountsWriting (is_taken old file.name.now file.replace) (Err fault.Failed) old.write_faults new
  failed_if new rose =
      subst (λ b. MatchBool b (new ≡ old.write_faults) (Rose old.write_faults new))
      (sym (free old begun file.name.now file.replace x call))
      (subst (λ n. Rose n new) call.write_faults.ok rose)

  counts : (stop : WriteFault) (new : ℕ) → CountsStop stop begun.write_faults new
      → CountsWriting (is_taken old file.name.now file.replace) (Err stop) old.write_faults new
  counts fault.Failed new rose = failed_if new rose
  counts fault.Memory new same = same ∙ call.write_faults.ok

  pub stopped : (stop : WriteFault) (last : List Cell) (new : DiskState)
      → StopsSentRows file profile start begun stop new → WritesRows file profile start old (Err stop) last new
  stopped stop last new stops = record {
    told = stops.keeps.told ∙ call.told;
    read_faults = stops.keeps.read_faults ∙ call.read_faults;
    write_faults = counts stop new.write_faults stops.counted;
    taken = λ t. absurd (not_taken old begun file.name.now file.replace x call t);
    end = record {
      part = λ told rows cut are.
          let (n, within, files) = stops.part rows cut are (call.told ∙ told) in
          inr (
            n,
            within,
            files_after old begun file.name.now file.replace x call new.files
                (take n (text_of file profile rows)) told files,
          );
      memory = stops.memory;
    };
  }

  pub handed_stop : (result : Result Written WriteFault) (stop : WriteFault) (last : List Cell) (new : DiskState)
      → IsErrAnd result (λ f. f ≡ stop) → StopsSentRows file profile start begun stop new
      → WritesRows file profile start old result last new
  handed_stop (Ok written) stop last new none stops = absurd none
  handed_stop (Err f) stop last new is stops =
      subst (λ s. WritesRows file profile start old (Err s) last new) (sym is) (stopped stop last new stops)

  module _ (written_rows : Written) (last : List Cell) (put done : DiskState)
      (sent : HasSentRows file profile start begun written_rows last put) where
    whole_text : sent.sent.rest.out ≡ text_of file profile sent.rows
    whole_text = sym (append-nil sent.sent.rest.out) ∙ sent.sent.rest.rest

    files_are : IsTrue old.told → put.files ≡ insert old.files file.name.now (text_of file profile sent.rows)
    files_are told =
        files_after old begun file.name.now file.replace x call put.files (text_of file profile sent.rows) told
        (sent.sent.rest.files (call.told ∙ told) ∙ ap (written begun) whole_text)

    pub finish_failed : {U : Type 0} (e : E) (result : Result Written WriteFault)
        → IsErrAnd result (λ f. f ≡ fault.Failed) → Finishes {T = U} put (Err e) done
        → WritesRows file profile start old result last done
    finish_failed e (Ok w) none end = absurd none
    finish_failed e (Err f) is end =
        subst (λ s. WritesRows file profile start old (Err s) last done) (sym is) (record {
          told = end.told ∙ sent.sent.keeps.told ∙ call.told;
          read_faults = end.read_faults ∙ sent.sent.keeps.read_faults ∙ call.read_faults;
          write_faults = failed_if done.write_faults
              (subst (λ n. Rose n done.write_faults) sent.sent.counted end.write_faults.failed);
          taken = λ t. absurd (not_taken old begun file.name.now file.replace x call t);
          end = record {
            part = λ told rows cut are.
                let same : rows ≡ sent.rows =
                one_list profile start file.limit sent.rows rows written_rows.cut cut sent.are are in
                subst (λ rs. HoldsPart old.files file.name.now (text_of file profile rs) done.files) (sym same) (inr (
                  length (text_of file profile sent.rows),
                  omega arith,
                  end.files ∙ files_are told ∙ ap (insert old.files file.name.now) (sym (take_all (length (text_of file
                      profile sent.rows)) (text_of file profile sent.rows) (omega arith))),
                ));
            memory = λ e. absurd (cc);
          };
        })

    pub finished_rows : {U : Type 0} (y : U) → Finishes {E = E} put (Ok y) done
        → WritesRows file profile start old (Ok written_rows) last done
    finished_rows y end = record {
      told = end.told ∙ sent.sent.keeps.told ∙ call.told;
      read_faults = end.read_faults ∙ sent.sent.keeps.read_faults ∙ call.read_faults;
      write_faults = end.write_faults.ok ∙ sent.sent.counted ∙ call.write_faults.ok;
      taken = λ t. absurd (not_taken old begun file.name.now file.replace x call t);
      end = record {
        rows = sent.rows;
        are = sent.are;
        counted = sent.counted;
        last_is = sent.last_is;
        files = λ told. end.files ∙ files_are told;
      };
    }
