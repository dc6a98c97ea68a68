-- The first row is put, and then the others.
use Rattle.std.proofs.Common.{ℕ, false, List, []}
use Rattle.helix_outside.specs.Disk.{DiskState}
use Rattle.helix_output.specs.declared.format.Format.{Format}
use Rattle.helix_profile.specs.Content.{Content}
use Rattle.helix_values.specs.declared.cell.Cell.{Cell}
use Rattle.helix_writing.specs.Inner.Putting.{PutsRest, StopsPutting}
use Rattle.helix_writing.specs.Inner.Sending.{HasSent}
use Rattle.helix_writing.specs.Inner.Texts.{lines_from}
use Rattle.helix_writing.specs.declared.data_file.WriteFault.{WriteFault}
use Rattle.helix_writing.specs.declared.data_file.Written.{Written}
use Rattle.helix_writing.proofs.Sending.{sent_on, stopped_after}

module _ (format : Format) (profile : Content) (row : List Cell) (front : List ℕ) (limit : ℕ) (old : DiskState)
    (owed : List ℕ) where
  module _ (still : List ℕ) (mid : DiskState) (sent : HasSent old owed front still mid) where
    pub rest_after : (written : Written) (last : List Cell) (last_still : List ℕ) (new : DiskState)
        → PutsRest format profile row [] limit mid still written last last_still new
        → PutsRest format profile row front limit old owed written last last_still new
    rest_after written last last_still new rest = record {
      rows = rest.rows;
      put = record {
        next = rest.put.next;
        sent = sent_on old owed front still mid sent (lines_from format false profile.fields rest.rows) last_still new
            rest.put.sent;
      };
      end = rest.end;
    }

    pub stops_after : (stop : WriteFault) (new : DiskState) → StopsPutting format profile row [] limit mid still stop new
        → StopsPutting format profile row front limit old owed stop new
    stops_after stop new stops = record {
      rows = stops.rows;
      next = stops.next;
      few = stops.few;
      sent = stopped_after old owed front still mid sent (lines_from format false profile.fields stops.rows) stop new
          stops.sent;
      memory = stops.memory;
    }
