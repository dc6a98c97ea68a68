-- What each read of a record does for the members of a set file.
use Rattle.std.proofs.Common.{◌≡◌, ℕ, ◌+◌, ◌<◌, ◌≤◌, inl, Bool, true, false, if◌then◌else◌, Option, Some, None, List, [], ◌∷◌, ◌++◌, length, take, refl, sym, ap, ◌∙◌, subst, arith, append_assoc, length-append, IsUtf8, Result, Ok, Err, IfErr}
use Rattle.std.specs.Result.{IsErrAnd}
use Rattle.std.proofs.Math.Seq.{take-append_seam, get_or-append_seam}
use Rattle.std.proofs.lemmas.Option.{slice_get-get_or}
use Rattle.std.specs.List.{slice_get}
use Rattle.csv.specs.Records.{field_at}
use Rattle.csv.specs.Reading.{Ready, ReadRecord, default_config, is_bom, reader_state, reader_trim, records, strip_bom, took_first}
use Rattle.csv.specs.declared.parser.State.TheVariants as st
use Rattle.csv.specs.declared.reader.Reader.{Reader}
use Rattle.csv.specs.declared.reader.Trim.TheVariants as trim
use Rattle.csv.proofs.ReadFacts.{rows-end, rows-more}
use Rattle.helix_values.specs.declared.cell.Cell.{Cell}
use Rattle.helix_values.specs.declared.kind.Kind.{Kind}
use Rattle.helix_sets.specs.SetFiles.{without_marks, records_of, first_field, IsMember, AreMembers, ReadsSet, IsFirstFault, HasTooMany, RefusesSet, SpellsNone}
use Rattle.helix_sets.specs.Inner.Reading.{HasRead, TellsOfRead, TellsOfField}
use Rattle.helix_sets.specs.declared.fault.SetFault.{SetFault}
use Rattle.helix_sets.specs.declared.fault.SetFault.TheVariants as faults
use Rattle.helix_sets.proofs.Fuel.{begins, whole}
use denote.Bor.{Bor}

-- a reader drops no mark where none is left
unmarked_by : (b : Bool) (x y z : ℕ) (rest : List ℕ) → is_bom x y z ≡ b
    → strip_bom (without_marks rest) ≡ without_marks rest
    → strip_bom (if b then without_marks rest else x ∷ y ∷ z ∷ rest)
    ≡ (if b then without_marks rest else x ∷ y ∷ z ∷ rest)
unfolding strip_bom
unmarked_by true x y z rest is later = later
unmarked_by false x y z rest is later = ap (λ b. if b then rest else x ∷ y ∷ z ∷ rest) is

pub unmarked : (bytes : List ℕ) → strip_bom (without_marks bytes) ≡ without_marks bytes
unfolding strip_bom
unmarked [] = refl
unmarked (x ∷ []) = refl
unmarked (x ∷ y ∷ []) = refl
unmarked (x ∷ y ∷ z ∷ rest) = unmarked_by (is_bom x y z) x y z rest refl (unmarked rest)

-- a record was read, or there is none
pub told : (old new : Reader (Bor (List ℕ))) (fields : List (List ℕ)) (found : Bool)
    → (reader_trim old ≡ trim.None → took_first new ≡ true)
    → (reader_trim old ≡ trim.None → Ready old → ReadRecord (λ s. Some s.now) old new found fields)
    → TellsOfRead old new fields found
told old new fields true ready reads = λ bytes rows has.
    let r : ReadRecord (λ (s : Bor (List ℕ)). Some s.now) old new true fields = reads has.plain has.ready in
    let m = rows-more (λ (s : Bor (List ℕ)). Some s.now) old new fields default_config st.StartRecord bytes has.rest
    rows
    has.config has.source has.reached r in
    record {
      plain = r.3 ∙ has.plain;
      ready = inl (ready has.plain);
      config = r.2 ∙ has.config;
      rest = m.0;
      source = m.1;
      reached = m.2;
    }
told old new fields false ready reads = λ bytes rows has.
    let r : ReadRecord (λ (s : Bor (List ℕ)). Some s.now) old new false fields = reads has.plain has.ready in
    whole rows (reader_state old) bytes has.rest has.reached
    (rows-end (λ (s : Bor (List ℕ)). Some s.now) old new fields default_config has.rest has.config has.source r)

-- one member more
pub members_more : (kind : Kind) (rows : List (List (List ℕ))) (cells : List Cell) (fields : List (List ℕ))
    (cell : Cell)
    → AreMembers kind rows cells → IsMember kind fields cell
    → AreMembers kind (rows ++ fields ∷ []) (cells ++ cell ∷ [])
members_more kind [] [] fields cell members one = (one, tt)
members_more kind [] (other ∷ cells) fields cell members one = absurd members
members_more kind (row ∷ rows) [] fields cell members one = absurd members
members_more kind (row ∷ rows) (other ∷ cells) fields cell members one =
    (members.0, members_more kind rows cells fields cell members.1 one)

slice_get_seam : (rows others : List (List (List ℕ))) (fields : List (List ℕ))
    → slice_get (rows ++ fields ∷ others) (length rows) ≡ Some fields
slice_get_seam rows others fields =
    slice_get-get_or (rows ++ fields ∷ others) (length rows) [] (omega (arith, length-append rows (fields ∷ others)))
    ∙ ap (λ f. Some f) (get_or-append_seam rows fields others [])

module _ (kind : Kind) (bytes : List ℕ) (short : length bytes ≤ 1048576) (rows : List (List (List ℕ)))
    (cells : List Cell)
    (members : AreMembers kind rows cells) where
  -- no further record
  all_rows : records default_config (strip_bom (without_marks bytes)) ≡ rows → records_of bytes ≡ rows
  all_rows all = ap (records default_config) (sym (unmarked bytes)) ∙ all

  pub set_read : records default_config (strip_bom (without_marks bytes)) ≡ rows → 1 ≤ length rows
      → length rows ≤ 10000 → ReadsSet kind bytes cells
  set_read all some few = let is : records_of bytes ≡ rows = all_rows all in record {
    short = short;
    some = subst (λ (r : List (List (List ℕ))). 1 ≤ length r) (sym is) some;
    few = subst (λ (r : List (List (List ℕ))). length r ≤ 10000) (sym is) few;
    members = subst (λ (r : List (List (List ℕ))). AreMembers kind r cells) (sym is) members;
  }

  module _ (fields : List (List ℕ)) (reader : Reader (Bor (List ℕ)))
      (read : HasRead (strip_bom (without_marks bytes)) (rows ++ fields ∷ []) reader) where
    rows_then : (others : List (List (List ℕ))) × (records_of bytes ≡ rows ++ fields ∷ others)
    rows_then = let all = begins (rows ++ fields ∷ []) (reader_state reader) (strip_bom (without_marks bytes)) read.rest
        read.reached in
        (all.0, ap (records default_config) (sym (unmarked bytes)) ∙ (all.1 ∙ append_assoc rows (fields ∷ []) all.0))

    before : take (length rows) (records_of bytes) ≡ rows
    before = ap (take (length rows)) rows_then.1 ∙ take-append_seam rows (fields ∷ rows_then.0)

    pub fault_found : (at : ℕ) (Fault : List ℕ → Type 0) → at ≡ length rows + 1 → at ≤ 10000
        → Fault (first_field fields)
        → IsFirstFault kind bytes at Fault
    fault_found at Fault number few fault = record {
      short = short;
      before = length rows;
      number = number;
      few = few;
      values = cells;
      members = subst (λ (r : List (List (List ℕ))). AreMembers kind r cells) (sym before) members;
      fields = fields;
      is = ap (λ (r : List (List (List ℕ))). slice_get r (length rows)) rows_then.1
          ∙ slice_get_seam rows rows_then.0 fields;
      fault = fault;
    }

    pub too_many : (most : ℕ) → most ≡ 10000 → length rows ≡ most → HasTooMany kind bytes
    too_many most most_is count = record {
      short = short;
      values = cells;
      members = subst (λ (r : List (List (List ℕ))). AreMembers kind r cells)
          (sym (ap (λ (n : ℕ). take n (records_of bytes)) (sym (count ∙ most_is)) ∙ before)) members;
      more = subst (λ (r : List (List (List ℕ))). 10000 < length r) (sym rows_then.1)
          (omega (arith, length-append rows (fields ∷ rows_then.0), count, most_is));
    }

pub none_read : (bytes : List ℕ) (rows : List (List (List ℕ)))
    → records default_config (strip_bom (without_marks bytes)) ≡ rows → length rows ≡ 0 → records_of bytes ≡ []
none_read bytes [] all none = ap (records default_config) (sym (unmarked bytes)) ∙ all
none_read bytes (row ∷ rows) all none = absurd (omega (arith, none))

-- the first field of a record
abbrev no_bytes : Option (List ℕ)
no_bytes = None

abbrev no_list : List ℕ
no_list = []

pub some_field : (fields : List (List ℕ)) (field : List ℕ) → Some field ≡ field_at fields 0 → field ≡ first_field fields
unfolding field_at
some_field [] field is = cc is
some_field (first ∷ fields) field is = cc is

pub no_field : (fields : List (List ℕ)) → no_bytes ≡ field_at fields 0 → no_list ≡ first_field fields
unfolding field_at
no_field [] is = refl
no_field (first ∷ fields) is = cc is

-- what a read told, by what it found
module _ (old new : Reader (Bor (List ℕ))) (fields : List (List ℕ)) (found : Bool)
    (tells : TellsOfRead old new fields found) (bytes : List ℕ) (rows : List (List (List ℕ)))
    (has : HasRead bytes rows old) where
  pub none_left : found ≡ false → records default_config bytes ≡ rows
  none_left is = let told_none : TellsOfRead old new fields false = subst (TellsOfRead old new fields) is tells in
      told_none bytes rows has

  pub one_more : found ≡ true → HasRead bytes (rows ++ fields ∷ []) new
  one_more is = let told_more : TellsOfRead old new fields true = subst (TellsOfRead old new fields) is tells in
      told_more bytes rows has

-- the fault of a record's first field
pub member_fault : (kind : Kind) (bytes : List ℕ) → length bytes ≤ 1048576 → (rows : List (List (List ℕ)))
    → (cells : List Cell) → AreMembers kind rows cells → (fields : List (List ℕ)) → (reader : Reader (Bor (List ℕ)))
    → HasRead (strip_bom (without_marks bytes)) (rows ++ fields ∷ []) reader → (at : ℕ) → at ≡ length rows + 1
    → at ≤ 10000 → (fault : SetFault) → TellsOfField kind (first_field fields) at fault → RefusesSet kind bytes fault
member_fault kind bytes short rows cells members fields reader read at number few faults.TooLong tells = absurd tells
member_fault kind bytes short rows cells members fields reader read at number few (faults.NotUtf8 place) tells =
    fault_found kind bytes short rows cells members fields reader read place (λ field. ¬ IsUtf8 field)
    (tells.0 ∙ number) (omega (arith, tells.0, few)) tells.1
member_fault kind bytes short rows cells members fields reader read at number few (faults.NotOfKind place) tells =
    fault_found kind bytes short rows cells members fields reader read place (SpellsNone kind)
    (tells.0 ∙ number) (omega (arith, tells.0, few)) tells.1
member_fault kind bytes short rows cells members fields reader read at number few faults.TooMany tells = absurd tells
member_fault kind bytes short rows cells members fields reader read at number few faults.Empty tells = absurd tells
member_fault kind bytes short rows cells members fields reader read at number few faults.Memory tells = tt

-- the same of a result that hands the fault on
pub refused_as : (kind : Kind) (bytes : List ℕ) (result : Result (List Cell) SetFault) (fault : SetFault)
    → IsErrAnd result (λ handed. handed ≡ fault) → RefusesSet kind bytes fault → IfErr result (RefusesSet kind bytes)
refused_as kind bytes (Ok cells) fault none refused = absurd none
refused_as kind bytes (Err handed) fault is refused = subst (RefusesSet kind bytes) (sym is) refused
