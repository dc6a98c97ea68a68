-- The first row and those that were put after it are the rows of the run.
use Rattle.std.proofs.Common.{◌≡◌, ℕ, suc, ◌≤◌, Bool, true, false, List, ◌∷◌, length, Option, Some, refl}
use Rattle.helix_outside.specs.Disk.{DiskState}
use Rattle.helix_output.specs.declared.format.Format.{Format}
use Rattle.helix_profile.specs.Content.{Content}
use Rattle.helix_profile.specs.Good.{IsGood}
use Rattle.helix_rows.specs.Parts.{IsNextRow}
use Rattle.helix_values.specs.declared.cell.Cell.{Cell}
use Rattle.helix_walk.proofs.NextRows.{next_prefix, next_rest}
use Rattle.helix_walk.specs.NextRows.{AreNextRows, end_of}
use Rattle.helix_writing.specs.GoodRows.{NoneAbove}
use Rattle.helix_writing.specs.Inner.Putting.{PutsRest, PutsRows, StopsPutting, StopsRows}
use Rattle.helix_writing.specs.Inner.Texts.{line_for}
use Rattle.helix_writing.specs.Rows.{AreRows}
use Rattle.helix_writing.specs.declared.data_file.WriteFault.{WriteFault}
use Rattle.helix_writing.specs.declared.data_file.Written.{Written}

module _ (format : Format) (profile : Content) (row : List Cell) (limit : ℕ) (old : DiskState) (owed : List ℕ)
    (start : Option (List Cell)) (first : IsNextRow (IsGood profile) start row) where
  -- they are cut or whole as it was told
  are_rows : (rows : List (List Cell)) → AreNextRows (IsGood profile) (Some row) rows → suc (length rows) ≤ limit
      → (cut : Bool) → (cut ≡ false → NoneAbove profile (end_of (Some row) rows))
      → (cut ≡ true → suc (length rows) ≡ limit)
      → (cut ≡ true → (more : List Cell) × IsNextRow (IsGood profile) (end_of (Some row) rows) more)
      → AreRows profile start limit (row ∷ rows) cut
  are_rows rows next few false none full further =
      record { rest = next_rest (IsGood profile) start (row ∷ rows) (first, next) (none refl); few = few }
  are_rows rows next few true none full further =
      let (more, is) = further refl in
      record {
        prefix = next_prefix (IsGood profile) start (row ∷ rows) (first, next);
        full = full refl;
        further = more;
        good = is.is_in;
        above = is.above;
      }

  pub puts_rows : (written : Written) (last : List Cell) (still : List ℕ) (new : DiskState)
      → PutsRest format profile row (line_for format true profile.fields row) limit old owed written last still new
      → PutsRows format profile start limit old owed written last still new
  puts_rows written last still new puts = record {
    rows = row ∷ puts.rows;
    are = are_rows puts.rows puts.put.next puts.end.few written.cut puts.end.whole puts.end.full puts.end.further;
    counted = puts.end.counted;
    last_is = puts.end.last_is;
    sent = puts.put.sent;
  }

  pub stops_rows : (stop : WriteFault) (new : DiskState)
      → StopsPutting format profile row (line_for format true profile.fields row) limit old owed stop new
      → StopsRows format profile start limit old owed stop new
  stops_rows stop new stops = record {
    rows = row ∷ stops.rows;
    next = (first, stops.next);
    few = stops.few;
    sent = stops.sent;
    memory = stops.memory;
  }
