-- What is known once the words are carried out, in terms of the disk at entry.
use Rattle.std.proofs.Common.{◌≡◌, ℕ, true, false, ◌&&◌, List, length, take, take_all, length-take, refl, sym, subst, ap, ◌∙◌, arith}
use Rattle.std.specs.Prelude.{Option, Some, None, MatchOption, Result, Ok, Err, OnOk, OnErr, IsTrue, is_some}
use Rattle.std.specs.FinMap.{get, insert}
use Rattle.helix_outside.specs.Count.{Counts}
use Rattle.helix_outside.specs.Disk.{DiskState, is_taken}
use Rattle.helix_outside.specs.declared.disk.Failed.{Failed}
use Rattle.helix_run.specs.declared.outcome.Outcome.{Outcome}
use Rattle.helix_run.specs.declared.outcome.Outcome.TheVariants.{Usage, ReadFault, ProfileRefused, WriteFault, WantOfMemory, Done}
use Rattle.helix_run.specs.Words.{Names, order_of}
use Rattle.helix_run.specs.Inner.Reading.{OnlyReads, FailsToRead, read_limit}
use Rattle.helix_run.specs.Inner.Writing.{WritesFile, HoldsPart}
use Rattle.helix_run.specs.Profile.{Field, ReadsProfile, IsRefused}
use Rattle.helix_run.specs.Rows.{Flag, IsFlagAnswer}
use Rattle.helix_run.specs.Output.{csv_text}
use Rattle.helix_run.specs.Script.{HasField}
use Rattle.helix_run.specs.Causes.{ProfileIsRefused}
use Rattle.helix_run.specs.Inner.Outcome.{HasInput, EndsOrder, Generates}

-- the disk is as it was, but for its input
pub record SameDisk (old new : DiskState) : Type 0 where
  pub only_reads : OnlyReads old new
  pub read_faults : new.read_faults ≡ old.read_faults

-- the text of an accepted profile was to be written
pub record KnownWrite (words : List (List ℕ)) (old : DiskState) (result : Result (Unit {0}) Failed)
    (new : DiskState) : Type 0 where
  pub names : Names
  pub field : Field
  pub rows : List (List Flag)
  pub ordered : order_of words ≡ Some names
  pub accepted : IsTrue old.told → HasField words old.files names field
  pub answer : IsFlagAnswer field rows
  pub written : WritesFile old names.output (csv_text field.name rows) result new

abbrev pub Known : List (List ℕ) → DiskState → Outcome → DiskState → Type 0
Known words old Usage new = (order_of words ≡ None) × (new ≡ old)
Known words old ReadFault new = (names : Names) × (order_of words ≡ Some names) × OnlyReads old new
    × FailsToRead old names.profile new
Known words old ProfileRefused new = (names : Names) × (order_of words ≡ Some names) × SameDisk old new
    × (IsTrue old.told → ProfileIsRefused words old.files)
Known words old WantOfMemory new = SameDisk old new
Known words old WriteFault new = (failed : Failed) × KnownWrite words old (Err failed) new
Known words old (Done count) new = (write : KnownWrite words old (Ok (tt {0})) new) × (count ≡ length write.rows)

-- a profile that was read is the whole file
whole_if_read : (bytes whole : List ℕ) (field : Field) → bytes ≡ take read_limit whole → ReadsProfile bytes field
    → bytes ≡ whole
whole_if_read bytes whole field is reads =
    is ∙ take_all read_limit whole (omega (arith, reads.size, ap length is, length-take read_limit whole))

-- a file whose prefix is refused is refused
refused_if_front : (bytes whole : List ℕ) → bytes ≡ take read_limit whole → IsRefused bytes → IsRefused whole
refused_if_front bytes whole is refused field reads =
    refused field (subst (λ b. ReadsProfile b field) (sym (is ∙ take_all read_limit whole (omega (arith, reads.size))))
    reads)

on_ok : {T E P Q : Type 0} (r : Result T E) → (P → Q) → OnOk r P → OnOk r Q
on_ok (Ok x) f p = f p
on_ok (Err e) f p = tt

on_err : {T E P Q : Type 0} (r : Result T E) → (P → Q) → OnErr r P → OnErr r Q
on_err (Ok x) f p = tt
on_err (Err e) f p = f p

-- reading before changes nothing of what is written
writes_from : {T E : Type 0} (old now new : DiskState) (name text : List ℕ) (result : Result T E) → SameDisk old now
    → WritesFile now name text result new → WritesFile old name text result new
writes_from old now new name text result same writes =
    let told : now.told ≡ old.told = same.only_reads.told in
    let files : now.files ≡ old.files = same.only_reads.files in
    let taken : is_taken now name false ≡ is_taken old name false =
    ap (λ b. b && (true && is_some (get now.files name))) told
    ∙ ap (λ f. old.told && (true && is_some (get f name))) files in
    record {
      told = writes.told ∙ told;
      read_faults = writes.read_faults ∙ same.read_faults;
      write_faults = subst (λ b. Counts result b old.write_faults new.write_faults) taken
          (subst (λ n. Counts result (is_taken now name false) n new.write_faults) same.only_reads.write_faults
          writes.write_faults);
      was_absent = on_ok result (λ absent t. ap (λ f. get f name) (sym files) ∙ absent (told ∙ t)) writes.was_absent;
      whole = on_ok result (λ whole t. whole (told ∙ t) ∙ ap (λ f. insert f name text) files) writes.whole;
      taken = λ t. writes.taken (taken ∙ t) ∙ files;
      part = on_err result (λ part t. subst (λ f. HoldsPart f name text new.files) files (part (told ∙ t))) writes.part;
    }

module _ (words : List (List ℕ)) (old : DiskState) (names : Names) (ordered : order_of words ≡ Some names) where
  has_field : (now : DiskState) (bytes : List ℕ) (field : Field) → HasInput names old now bytes
      → ReadsProfile bytes field → IsTrue old.told → HasField words old.files names field
  has_field now bytes field input reads told =
      let (whole, there, is) = input.are_read told in
      record {
        bytes = whole;
        profile = record { ordered = ordered; there = there };
        reads = subst (λ b. ReadsProfile b field) (whole_if_read bytes whole field is reads) reads;
      }

  is_refused : (now : DiskState) (bytes : List ℕ) → HasInput names old now bytes → IsRefused bytes → IsTrue old.told
      → ProfileIsRefused words old.files
  is_refused now bytes input refused told =
      let (whole, there, is) = input.are_read told in
      record {
        names = names;
        bytes = whole;
        profile = record { ordered = ordered; there = there };
        refused = refused_if_front bytes whole is refused;
      }

  same_disk : (now : DiskState) (bytes : List ℕ) → HasInput names old now bytes → SameDisk old now
  same_disk now bytes input = record { only_reads = input.only_reads; read_faults = input.read_faults }

  known_order : (outcome : Outcome) (new : DiskState) → EndsOrder names old outcome new → Known words old outcome new
  known_order Usage new end = absurd end.3.2
  known_order ReadFault new end = (names, ordered, end.0, end.1)
  known_order ProfileRefused new end =
      let (now, bytes, input, (refused, same)) = end in
      (names, ordered, subst (SameDisk old) (sym same) (same_disk now bytes input), is_refused now bytes input refused)
  known_order WantOfMemory new end = record { only_reads = end.0; read_faults = end.1 }
  known_order WriteFault new end =
      let (now, bytes, input, (field, reads, (failed, wrote))) = end in (
        failed,
        record {
          names = names;
          field = field;
          rows = wrote.rows;
          ordered = ordered;
          accepted = has_field now bytes field input reads;
          answer = wrote.answer;
          written = writes_from old now new names.output (csv_text field.name wrote.rows) (Err failed)
              (same_disk now bytes input) wrote.written;
        },
      )
  known_order (Done count) new end =
      let (now, bytes, input, (field, reads, (wrote, counted))) = end in (
        record {
          names = names;
          field = field;
          rows = wrote.rows;
          ordered = ordered;
          accepted = has_field now bytes field input reads;
          answer = wrote.answer;
          written = writes_from old now new names.output (csv_text field.name wrote.rows) (Ok (tt {0}))
              (same_disk now bytes input) wrote.written;
        },
        counted,
      )

known_words : (words : List (List ℕ)) (old new : DiskState) (outcome : Outcome) (order : Option Names)
    → order_of words ≡ order
    → MatchOption order ((outcome ≡ Usage) × (new ≡ old)) (λ names. EndsOrder names old outcome new)
    → Known words old outcome new
known_words words old new outcome None is end = subst (λ o. Known words old o new) (sym end.0) (is, end.1)
known_words words old new outcome (Some names) is end = known_order words old names is outcome new end

pub known : (words : List (List ℕ)) (old new : DiskState) (outcome : Outcome) → Generates words old outcome new
    → Known words old outcome new
known words old new outcome end = known_words words old new outcome (order_of words) refl end
