-- Rows that are put one after the other, after the first one.
use Rattle.std.proofs.Common.{◌≡◌, ℕ, zero, suc, ◌+◌, ◌≤◌, ◌<◌, Bool, false, List, [], ◌∷◌, ◌++◌, length, take, Option, Some, IsSome, refl, sym, ◌∙◌, ap, subst, arith, append_assoc, append-nil}
use Rattle.std.proofs.lemmas.Option.{same_Some}
use Rattle.helix_outside.specs.Disk.{DiskState}
use Rattle.helix_output.specs.Fitting.{FitsFields}
use Rattle.helix_output.specs.Line.{Line, AgreesOn}
use Rattle.helix_output.specs.LineLaws.{agrees_from}
use Rattle.helix_output.proofs.RowCells.{length-fits}
use Rattle.helix_output.specs.declared.format.Format.{Format}
use Rattle.helix_output.specs.declared.format.Format.TheVariants.{Csv, Json}
use Rattle.helix_profile.specs.Content.{Content}
use Rattle.helix_profile.specs.Good.{AreCellsOf, IsCellOf, IsGood}
use Rattle.helix_profile.specs.Satisfaction.{cell_at}
use Rattle.helix_profile.specs.declared.field.Field.{Field}
use Rattle.helix_output.specs.Fitting.{FitsKind}
use Rattle.helix_rows.specs.Parts.{IsKept, IsNextPlace, IsNextRow}
use Rattle.helix_values.specs.declared.cell.Cell.{Cell}
use Rattle.helix_values.specs.declared.cell.Cell.TheVariants as cell
use Rattle.helix_walk.specs.NextRows.{AreNextRows, end_of}
use Rattle.helix_writing.specs.GoodRows.{NoneAbove, Place}
use Rattle.helix_writing.specs.Inner.Lines.{line_in}
use Rattle.helix_writing.specs.Inner.Putting.{HasPut, IsOfFormat, PutsMost, StandsAt, StopsPutting}
use Rattle.helix_writing.specs.Inner.Sending.{HasSent, StopsSending}
use Rattle.helix_writing.specs.Inner.Texts.{line_for, lines_from}
use Rattle.helix_writing.specs.declared.data_file.WriteFault.{WriteFault}
use Rattle.helix_writing.proofs.Sending.{sent_nothing, sent_on, stopped_after}

cell_fits : (field : Field) (v : Cell) → IsCellOf field v → FitsKind field.kind v
cell_fits field cell.Null is = tt
cell_fits field (cell.Bool b) is = is
cell_fits field (cell.Number n) is = is
cell_fits field (cell.Moment at) is = is
cell_fits field (cell.Text text) is = is

-- the cells of a good row fit its fields
pub cells_fit : (fields : List Field) (row : List Cell) → AreCellsOf fields row → FitsFields fields row
cells_fit [] [] cells = tt
cells_fit (field ∷ fields) (v ∷ row) cells = (cell_fits field v cells.0, cells_fit fields row cells.1)
cells_fit [] (v ∷ row) cells = absurd cells
cells_fit (field ∷ fields) [] cells = absurd cells

-- rows with the same first cells
same_first : (n : ℕ) (a b : List Cell) → n ≤ length a → n ≤ length b
    → ((i : ℕ) → i < n → cell_at a i ≡ cell_at b i) → take n a ≡ take n b
same_first zero a b in_a in_b same = refl
same_first (suc n) [] b in_a in_b same = absurd (omega (arith, in_a))
same_first (suc n) (x ∷ a) [] in_a in_b same = absurd (omega (arith, in_b))
same_first (suc n) (x ∷ a) (y ∷ b) in_a in_b same =
    ap (λ c. c ∷ take n a) (same 0 (omega arith))
    ∙ ap (λ r. y ∷ r) (same_first n a b (omega (arith, in_a)) (omega (arith, in_b)) (λ i within. same (suc i) (omega
    (arith, within))))

module _ (profile : Content) (before row : List Cell) (good : IsGood profile before) (is : IsGood profile row) where
  row_length : length row ≡ length profile.fields
  row_length = length-fits profile.fields row (cells_fit profile.fields row is.cells)

  before_length : length before ≡ length profile.fields
  before_length = length-fits profile.fields before (cells_fit profile.fields before good.cells)

  -- the line of the row before agrees with the next row on the cells that are kept
  pub kept_agrees : (kept : ℕ) (line : Line) → line.fields ≡ profile.fields
      → line ≡ line_in Csv false profile.fields before → IsKept kept (Some before) row → AgreesOn kept line row
  kept_agrees kept line fields line_is first =
      agrees_from kept line before row (line_is ∙ ap (λ f. line_in Csv false f before) (sym fields))
      (same_first kept before row
      (omega (arith, first.within, row_length, before_length)) (omega (arith, first.within)) first.same)

  pub kept_within : (kept : ℕ) → IsKept kept (Some before) row → kept ≤ length row
  kept_within kept first = omega (arith, first.within)

-- one row more at the end
pub end_more : (start : Option (List Cell)) (rows : List (List Cell)) (row : List Cell)
    → end_of start (rows ++ row ∷ []) ≡ Some row
end_more start [] row = refl
end_more start (first ∷ rows) row = end_more (Some first) rows row

pub next_more : (Good : List Cell → Type 0) (start : Option (List Cell)) (rows : List (List Cell)) (row : List Cell)
    → AreNextRows Good start rows → IsNextRow Good (end_of start rows) row → AreNextRows Good start (rows ++ row ∷ [])
next_more Good start [] row are next = (next, tt)
next_more Good start (first ∷ rows) row are next = (are.0, next_more Good (Some first) rows row are.1 next)

pub lines_more : (format : Format) (first : Bool) (fields : List Field) (rows : List (List Cell)) (row : List Cell)
    → lines_from format false fields (rows ++ row ∷ [])
    ≡ lines_from format false fields rows ++ line_for format false fields row
lines_more format first fields [] row = append-nil (line_for format false fields row)
lines_more format first fields (one ∷ rows) row =
    ap (λ bytes. line_for format false fields one ++ bytes) (lines_more format first fields rows row)
    ∙ sym (append_assoc (line_for format false fields one) (lines_from format false fields rows)
    (line_for format false fields row))

pub length_more : (rows : List (List Cell)) (row : List Cell) → length (rows ++ row ∷ []) ≡ suc (length rows)
length_more [] row = refl
length_more (one ∷ rows) row = ap suc (length_more rows row)

line_fields : (format : Format) (first : Bool) (fields : List Field) (row : List Cell)
    → (line_in format first fields row).fields ≡ fields
line_fields Csv first fields row = refl
line_fields Json first fields row = refl

-- a line that was made for a row at the place
pub stands_at : (format : Format) (first : Bool) (place : Place) (line : Line) (row : List Cell) (fields : List Field)
    → place.row ≡ Some row → IsGood place.profile row → fields ≡ place.profile.fields
    → line ≡ line_in format first fields row → StandsAt format place line row
stands_at format first place line row fields there good same made = record {
  place_is = there;
  good = good;
  fields_are = ap (λ l. l.fields) made ∙ line_fields format first fields row ∙ same;
  line_is = λ csv. made ∙ csv_line format csv ∙ ap (λ f. line_in Csv false f row) same;
}
  where
    csv_line : (format : Format) → format ≡ Csv → line_in format first fields row ≡ line_in Csv false fields row
    csv_line Csv is = refl
    csv_line Json is = absurd (cc)

-- one row more is put after others
module _ (format : Format) (profile : Content) (from : List Cell) (front : List ℕ) (rows : List (List Cell))
    (row : List Cell) (fields : List Field) (old now : DiskState) (owed still : List ℕ)
    (put : HasPut format profile from front rows old owed still now)
    (next : IsNextRow (IsGood profile) (end_of (Some from) rows) row) (same : fields ≡ profile.fields) where
  more_next : AreNextRows (IsGood profile) (Some from) (rows ++ row ∷ [])
  more_next = next_more (IsGood profile) (Some from) rows row put.next next

  more_lines : (front ++ lines_from format false profile.fields rows) ++ line_for format false fields row
      ≡ front ++ lines_from format false profile.fields (rows ++ row ∷ [])
  more_lines =
      append_assoc front (lines_from format false profile.fields rows) (line_for format false fields row)
      ∙ ap (λ bytes. front ++ bytes) (ap (λ f. lines_from format false profile.fields rows ++ line_for format false f
      row) same ∙ sym (lines_more format false profile.fields rows row))

  pub put_on : (still2 : List ℕ) (now2 : DiskState) → HasSent now still (line_for format false fields row) still2 now2
      → HasPut format profile from front (rows ++ row ∷ []) old owed still2 now2
  put_on still2 now2 sent = record {
    next = more_next;
    sent = subst (λ bytes. HasSent old owed bytes still2 now2) more_lines
        (sent_on old owed (front ++ lines_from format false profile.fields rows) still now put.sent
        (line_for format false fields row) still2 now2 sent);
  }

  pub stops_on : (limit : ℕ) (stop : WriteFault) (now2 : DiskState) → suc (suc (length rows)) ≤ limit
      → StopsSending now still (line_for format false fields row) stop now2 → IsOfFormat format stop
      → StopsPutting format profile from front limit old owed stop now2
  stops_on limit stop now2 within stops memory = record {
    rows = rows ++ row ∷ [];
    next = more_next;
    few = omega (arith, within, length_more rows row);
    sent = subst (λ bytes. StopsSending old owed bytes stop now2) more_lines
        (stopped_after old owed (front ++ lines_from format false profile.fields rows) still now put.sent
        (line_for format false fields row) stop now2 stops);
    memory = memory;
  }

-- so far: these rows after the first one, up to the place
pub record HasPutMost (format : Format) (limit : ℕ) (old : DiskState) (owed : List ℕ) (begun : Place) (count : ℕ)
    (place : Place) (line : Line) (still_owed : List ℕ) (now : DiskState) : Type 0 where
  pub from : List Cell
  pub last : List Cell
  pub rows : List (List Cell)
  pub from_is : begun.row ≡ Some from
  pub put : HasPut format begun.profile from [] rows old owed still_owed now
  pub stands : StandsAt format place line last
  pub end_is : end_of (Some from) rows ≡ Some last
  pub profile_is : place.profile ≡ begun.profile
  pub counted : count ≡ suc (length rows)
  pub few : count ≤ limit
  pub alone : count ≡ limit → count ≡ 1
  pub is_open : IsSome now.output

pub none_put : (format : Format) (limit : ℕ) (old : DiskState) (owed : List ℕ) (begun : Place) (line : Line)
    (row : List Cell) → StandsAt format begun line row → 1 ≤ limit → IsSome old.output
    → HasPutMost format limit old owed begun 1 begun line owed old
none_put format limit old owed begun line row stands some is_open = record {
  from = row;
  last = row;
  rows = [];
  from_is = stands.place_is;
  put = record { next = tt; sent = sent_nothing old owed };
  stands = stands;
  end_is = refl;
  profile_is = refl;
  counted = refl;
  few = some;
  alone = λ full. refl;
  is_open = is_open;
}

module _ (format : Format) (limit : ℕ) (old now : DiskState) (owed still : List ℕ) (begun place : Place) (count : ℕ)
    (line : Line) (so_far : HasPutMost format limit old owed begun count place line still now) where
  -- the first row is the one that is known
  same_from : (row : List Cell) → begun.row ≡ Some row → so_far.from ≡ row
  same_from row is = same_Some _ _ (sym so_far.from_is ∙ is)

  end_place : place.row ≡ end_of (Some so_far.from) so_far.rows
  end_place = so_far.stands.place_is ∙ sym so_far.end_is

  pub put_all : (row : List Cell) (last : Place) → begun.row ≡ Some row → last.row ≡ place.row
      → last.profile ≡ place.profile → (suc count < limit → NoneAbove place.profile place.row)
      → PutsMost format begun.profile row limit old owed count last still now
  put_all row last is same same_profile none =
      subst (λ r. PutsMost format begun.profile r limit old owed count last still now) (same_from row is) (record {
        rows = so_far.rows;
        put = so_far.put;
        place_is = ap (λ r. record last { row = r }) (same ∙ end_place)
            ∙ ap (λ p. record last { profile = p; row = end_of (Some so_far.from) so_far.rows }) (same_profile
            ∙ so_far.profile_is);
        counted = so_far.counted;
        few = so_far.few;
        alone = so_far.alone;
        none = λ fewer.
            subst (λ p. NoneAbove p (end_of (Some so_far.from) so_far.rows)) so_far.profile_is
            (subst (λ r. NoneAbove place.profile r) end_place (none fewer));
      })

  module _ (kept : ℕ) (row : List Cell) (next : Place) (step : IsNextPlace (IsGood place.profile) place.row next.row kept)
      (there : next.row ≡ Some row) where
    row_is : step.row ≡ row
    row_is = same_Some _ _ (sym step.place ∙ there)

    pub next_is : IsNextRow (IsGood place.profile) place.row row
    next_is = subst (IsNextRow (IsGood place.profile) place.row) row_is step.next

    pub next_fits : FitsFields line.fields row
    next_fits = subst (λ f. FitsFields f row) (sym so_far.stands.fields_are)
        (cells_fit place.profile.fields row next_is.is_in.cells)

    first_is : IsKept kept (Some so_far.last) row
    first_is = subst (λ o. IsKept kept o row) so_far.stands.place_is (subst (IsKept kept place.row) row_is step.first)

    pub next_within : kept ≤ length row
    next_within = kept_within place.profile so_far.last row so_far.stands.good next_is.is_in kept first_is

    pub next_agrees : format ≡ Csv → AgreesOn kept line row
    next_agrees csv = kept_agrees place.profile so_far.last row so_far.stands.good next_is.is_in kept line
        so_far.stands.fields_are (so_far.stands.line_is csv) first_is

    next_begun : IsNextRow (IsGood begun.profile) (end_of (Some so_far.from) so_far.rows) row
    next_begun = subst (λ p. IsNextRow (IsGood p) (end_of (Some so_far.from) so_far.rows) row) so_far.profile_is
        (subst (λ r. IsNextRow (IsGood place.profile) r row) end_place next_is)

    fields_begun : line.fields ≡ begun.profile.fields
    fields_begun = so_far.stands.fields_are ∙ ap (λ p. p.fields) so_far.profile_is

    pub put_more : (line2 : Line) (still2 : List ℕ) (now2 : DiskState) → suc (suc count) ≤ limit
        → next.profile ≡ place.profile → HasSent now still (line_for format false line.fields row) still2 now2
        → line2 ≡ line_in format false line.fields row
        → HasPutMost format limit old owed begun (count + 1) next line2 still2 now2
    put_more line2 still2 now2 within same sent made = record {
      from = so_far.from;
      last = row;
      rows = so_far.rows ++ row ∷ [];
      from_is = so_far.from_is;
      put = put_on format begun.profile so_far.from [] so_far.rows row line.fields old now owed still so_far.put
          next_begun fields_begun still2 now2 sent;
      stands = stands_at format false next line2 row line.fields there
          (subst (λ p. IsGood p row) (sym same) next_is.is_in)
          (so_far.stands.fields_are ∙ ap (λ p. p.fields) (sym same)) made;
      end_is = end_more (Some so_far.from) so_far.rows row;
      profile_is = same ∙ so_far.profile_is;
      counted = omega (arith, so_far.counted, length_more so_far.rows row);
      few = omega (arith, within);
      alone = λ full. absurd (omega (arith, within, full));
      is_open = subst IsSome (sym sent.keeps.output) so_far.is_open;
    }

    pub stops_more : (from : List Cell) (stop : WriteFault) (now2 : DiskState) → begun.row ≡ Some from
        → suc count ≤ limit → StopsSending now still (line_for format false line.fields row) stop now2
        → IsOfFormat format stop → StopsPutting format begun.profile from [] limit old owed stop now2
    stops_more from stop now2 is within stops memory =
        subst (λ r. StopsPutting format begun.profile r [] limit old owed stop now2) (same_from from is)
        (stops_on format begun.profile so_far.from [] so_far.rows row line.fields old now owed still so_far.put
        next_begun fields_begun limit stop now2 (omega (arith, within, so_far.counted)) stops memory)
