-- The text of the rows of a run is sent: what opens it, the lines and what closes it.
use Rattle.std.proofs.Common.{◌≡◌, ℕ, Bool, true, List, [], ◌++◌, length, take, Option, refl, sym, ◌∙◌, ap, subst, arith, append_assoc, append-nil, length-append}
use Rattle.std.proofs.Math.Seq.{take-append-le}
use Rattle.helix_outside.specs.Disk.{DiskState, written}
use Rattle.helix_profile.specs.Content.{Content}
use Rattle.helix_values.specs.declared.cell.Cell.{Cell}
use Rattle.helix_writing.specs.Inner.Putting.{IsOfFormat, PutsRows, StopsRows}
use Rattle.helix_writing.specs.Inner.Sending.{HasSent, StopsSending}
use Rattle.helix_writing.specs.Inner.Sent.{HasSentRows, StopsSentRows}
use Rattle.helix_writing.specs.Inner.Texts.{closing, lines_from, opening}
use Rattle.helix_writing.specs.Rows.{AreRows}
use Rattle.helix_writing.specs.Writing.{text_of}
use Rattle.helix_writing.specs.declared.data_file.DataFile.{DataFile}
use Rattle.helix_writing.specs.declared.data_file.WriteFault.{WriteFault}
use Rattle.helix_writing.specs.declared.data_file.Written.{Written}
use Rattle.helix_writing.proofs.RowLists.{one_list, rows_begin}
use Rattle.helix_writing.proofs.Sending.{sent_on, stopped_after}
use Rattle.helix_writing.proofs.TextParts.{text_begins, text_parts}

module _ (file : DataFile) (profile : Content) (start : Option (List Cell)) (old : DiskState) where
  -- some bytes begin the text of the rows of the run
  abbrev BeginText : List ℕ → Type 0
  BeginText bytes = (rows : List (List Cell)) (cut : Bool) → AreRows profile start file.limit rows cut
      → (more : List ℕ) × (text_of file profile rows ≡ bytes ++ more)

  stops_in : (bytes : List ℕ) (stop : WriteFault) (new : DiskState) → StopsSending old [] bytes stop new
      → BeginText bytes → IsOfFormat file.format stop → StopsSentRows file profile start old stop new
  stops_in bytes stop new stops begin memory = record {
    keeps = stops.keeps;
    counted = stops.counted;
    part = λ rows cut are told.
        let (n, within, files) = stops.part told in
        let (more, text) = begin rows cut are in (
          n,
          omega (arith, within, ap length text, length-append bytes more),
          files ∙ ap (written old) (sym (take-append-le n bytes more within) ∙ ap (take n) (sym text)),
        );
    memory = memory;
  }

  lines_begin_text : (rows : List (List Cell)) → ((all : List (List Cell)) (cut : Bool)
      → AreRows profile start file.limit all cut → (rest : List (List Cell)) × (all ≡ rows ++ rest))
      → BeginText (opening file.format profile.fields ++ lines_from file.format true profile.fields rows)
  lines_begin_text rows begin all cut are =
      let (rest, is) = begin all cut are in
      let (more, text) = text_begins file.format profile.fields rows rest in
      (more, ap (text_of file profile) is ∙ text)

  -- what opens the text begins it
  pub stops_opening : (stop : WriteFault) (new : DiskState)
      → StopsSending old [] (opening file.format profile.fields) stop new → IsOfFormat file.format stop
      → StopsSentRows file profile start old stop new
  stops_opening stop new stops memory =
      stops_in (opening file.format profile.fields ++ []) stop new
      (subst (λ bytes. StopsSending old [] bytes stop new) (sym (append-nil (opening file.format profile.fields))) stops)
      (lines_begin_text [] (λ all cut are. (all, refl))) memory

  module _ (still : List ℕ) (mid : DiskState) (begun : HasSent old [] (opening file.format profile.fields) still mid)
    where
      pub stops_lines : (stop : WriteFault) (new : DiskState)
          → StopsRows file.format profile start file.limit mid still stop new
          → StopsSentRows file profile start old stop new
      stops_lines stop new stops =
          stops_in (opening file.format profile.fields ++ lines_from file.format true profile.fields stops.rows) stop new
          (stopped_after old [] (opening file.format profile.fields) still mid begun
          (lines_from file.format true profile.fields stops.rows) stop new stops.sent)
          (lines_begin_text stops.rows (λ all cut are. rows_begin profile start file.limit stops.rows all cut are
          stops.next stops.few)) stops.memory

      module _ (written : Written) (last : List Cell) (lines_still : List ℕ) (put : DiskState)
          (puts : PutsRows file.format profile start file.limit mid still written last lines_still put) where
        lines_sent : HasSent old []
            (opening file.format profile.fields ++ lines_from file.format true profile.fields puts.rows) lines_still put
        lines_sent = sent_on old [] (opening file.format profile.fields) still mid begun
            (lines_from file.format true profile.fields puts.rows) lines_still put puts.sent

        whole_text : text_of file profile puts.rows
            ≡ (opening file.format profile.fields ++ lines_from file.format true profile.fields puts.rows)
            ++ closing file.format
        whole_text =
            text_parts file.format profile.fields puts.rows
            ∙ sym (append_assoc (opening file.format profile.fields)
            (lines_from file.format true profile.fields puts.rows) (closing file.format))

        pub stops_closing : (stop : WriteFault) (new : DiskState)
            → StopsSending put lines_still (closing file.format) stop new → IsOfFormat file.format stop
            → StopsSentRows file profile start old stop new
        stops_closing stop new stops memory =
            stops_in ((opening file.format profile.fields ++ lines_from file.format true profile.fields puts.rows)
            ++ closing file.format) stop new
            (stopped_after old []
            (opening file.format profile.fields ++ lines_from file.format true profile.fields puts.rows) lines_still put
            lines_sent (closing file.format) stop new stops)
            (λ all cut are. (
              [],
              ap (text_of file profile) (one_list profile start file.limit puts.rows all written.cut cut puts.are are) ∙ whole_text ∙ sym (append-nil _),
            )) memory

        pub all_sent : (new : DiskState) → HasSent put lines_still (closing file.format) [] new
            → HasSentRows file profile start old written last new
        all_sent new sent = record {
          rows = puts.rows;
          are = puts.are;
          counted = puts.counted;
          last_is = puts.last_is;
          sent = subst (λ bytes. HasSent old [] bytes [] new) (sym whole_text)
              (sent_on old [] (opening file.format profile.fields ++ lines_from file.format true profile.fields puts.rows)
              lines_still put lines_sent (closing file.format) [] new sent);
        }
