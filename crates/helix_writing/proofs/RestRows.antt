-- The last row that the limit allows is put after the others.
use Rattle.std.proofs.Common.{◌≡◌, ℕ, suc, ◌≤◌, Bool, false, List, [], ◌∷◌, ◌++◌, length, Option, None, Some, sym, ◌∙◌, ap, subst, arith}
use Rattle.std.specs.Prelude.{IfSome, IfNone, is_some}
use Rattle.helix_outside.specs.Disk.{DiskState}
use Rattle.helix_output.proofs.RowCells.{length-fits}
use Rattle.helix_output.specs.Fitting.{FitsFields}
use Rattle.helix_output.specs.declared.format.Format.{Format}
use Rattle.helix_profile.specs.Content.{Content}
use Rattle.helix_profile.specs.Good.{IsGood}
use Rattle.helix_profile.specs.declared.field.Field.{Field}
use Rattle.helix_rows.specs.Parts.{IsNextPlace, IsNextRow}
use Rattle.helix_values.specs.declared.cell.Cell.{Cell}
use Rattle.helix_walk.specs.NextRows.{end_of}
use Rattle.helix_writing.specs.GoodRows.{NoneAbove, Place}
use Rattle.helix_writing.specs.Inner.Putting.{EndsPutting, IsOfFormat, PutsMost, PutsRest, StopsPutting}
use Rattle.helix_writing.specs.Inner.Sending.{HasSent, StopsSending}
use Rattle.helix_writing.specs.Inner.Texts.{line_for}
use Rattle.helix_writing.specs.declared.data_file.WriteFault.{WriteFault}
use Rattle.helix_writing.proofs.MostRows.{cells_fit, end_more, length_more, put_on, stops_on}

-- whether a further row is there says whether they are cut
ends_with : (profile : Content) (row : List Cell) (limit : ℕ) (rows : List (List Cell)) (last : List Cell)
    (place next : Option (List Cell)) (more : Option ℕ) (cut : Bool) → cut ≡ is_some more
    → place ≡ end_of (Some row) rows → end_of (Some row) rows ≡ Some last → suc (length rows) ≡ limit
    → IfSome more (IsNextPlace (IsGood profile) place next) → IfNone more (NoneAbove profile place)
    → EndsPutting profile row limit rows (record { rows = limit; cut = cut }) last
ends_with profile row limit rows last place next None cut is there end full some none = record {
  counted = sym full;
  few = omega (arith, full);
  whole = λ w. subst (NoneAbove profile) there none;
  full = λ c. full;
  last_is = λ c. end;
  further = λ c. absurd (cc);
}
ends_with profile row limit rows last place next (Some kept) cut is there end full some none = record {
  counted = sym full;
  few = omega (arith, full);
  whole = λ w. absurd (cc);
  full = λ c. full;
  last_is = λ c. end;
  further = λ c. (some.row, subst (λ p. IsNextRow (IsGood profile) p some.row) there some.next);
}

module _ (format : Format) (profile : Content) (row : List Cell) (limit count : ℕ) (old mid : DiskState)
    (owed still : List ℕ) (place : Place) (most : PutsMost format profile row limit old owed count place still mid) where
  profile_is : place.profile ≡ profile
  profile_is = ap (λ p. p.profile) most.place_is

  place_is : place.row ≡ end_of (Some row) most.rows
  place_is = ap (λ p. p.row) most.place_is

  pub as_many : IsGood profile row → length row ≡ length place.profile.fields
  as_many good = length-fits profile.fields row (cells_fit profile.fields row good.cells)
      ∙ ap (λ p. length p.fields) (sym profile_is)

  module _ (fields : List Field) (same : fields ≡ profile.fields) (out : List Cell)
      (next : IsNextRow (IsGood place.profile) place.row out) where
    next_is : IsNextRow (IsGood profile) (end_of (Some row) most.rows) out
    next_is = subst (λ p. IsNextRow (IsGood p) (end_of (Some row) most.rows) out) profile_is
        (subst (λ r. IsNextRow (IsGood place.profile) r out) place_is next)

    pub last_fits : FitsFields fields out
    last_fits = subst (λ f. FitsFields f out) (sym same) (cells_fit profile.fields out next_is.is_in.cells)

    pub stops_at_last : (stop : WriteFault) (new : DiskState) → suc count ≤ limit
        → StopsSending mid still (line_for format false fields out) stop new → IsOfFormat format stop
        → StopsPutting format profile row [] limit old owed stop new
    stops_at_last stop new within stops memory =
        stops_on format profile row [] most.rows out fields old mid owed still most.put next_is same limit stop new
        (omega (arith, within, most.counted)) stops memory

    pub ends_at_last : (last_still : List ℕ) (new : DiskState) (then : Place) (after : Option (List Cell))
        (more : Option ℕ) (cut : Bool) → cut ≡ is_some more → suc count ≡ limit
        → HasSent mid still (line_for format false fields out) last_still new
        → then.row ≡ Some out → then.profile ≡ place.profile
        → IfSome more (IsNextPlace (IsGood then.profile) then.row after) → IfNone more (NoneAbove then.profile then.row)
        → PutsRest format profile row [] limit old owed (record { rows = limit; cut = cut }) out last_still new
    ends_at_last last_still new then after more cut is full sent there same_profile some none = record {
      rows = most.rows ++ out ∷ [];
      put = put_on format profile row [] most.rows out fields old mid owed still most.put next_is same last_still new
          sent;
      end = ends_with profile row limit (most.rows ++ out ∷ []) out then.row after more cut is
          (there ∙ sym (end_more (Some row) most.rows out)) (end_more (Some row) most.rows out)
          (omega (arith, full, most.counted, length_more most.rows out))
          (subst (λ p. IfSome more (IsNextPlace (IsGood p) then.row after)) (same_profile ∙ profile_is) some)
          (subst (λ p. IfNone more (NoneAbove p then.row)) (same_profile ∙ profile_is) none);
    }
