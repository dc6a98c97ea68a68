-- What a run leaves in the files.
use Rattle.std.proofs.Common.{◌≡◌, ℕ, ◌⊎◌, inl, inr, Bool, true, false, cond, ◌&&◌, List, length, take, take_all, le_refl, refl, sym, subst, ap, ◌∙◌}
use Rattle.std.specs.Prelude.{Option, Some, None, Result, Ok, Err, is_ok, is_some, IsTrue}
use Rattle.std.specs.Ordering.{nat_cmp, is_eq, eq_by_cmp}
use Rattle.std.specs.declared.cmp.Ordering.{Ordering}
use Rattle.std.specs.declared.cmp.Ordering.TheVariants.{Less, Equal, Greater}
use Rattle.std.specs.Cmp.Lexicographic.{slice_cmp, nat_list_cmp_total}
use Rattle.std.specs.FinMap.{get, insert, get-insert, slice_cmp-IsAntisymmetric, nat_cmp-IsAntisymmetric}
use Rattle.helix_outside.specs.Count.{Rose}
use Rattle.helix_outside.specs.Files.{FileMap}
use Rattle.helix_outside.specs.Disk.{DiskState}
use Rattle.helix_outside.specs.Console.{Screen, AddsLine}
use Rattle.helix_outside.specs.declared.disk.Failed.{Failed}
use Rattle.helix_run.specs.declared.outcome.Outcome.{Outcome}
use Rattle.helix_run.specs.declared.outcome.Outcome.TheVariants.{Usage, ReadFault, ProfileRefused, WriteFault, WantOfMemory, Done}
use Rattle.helix_run.specs.declared.status.Status.{Status}
use Rattle.helix_run.specs.declared.status.Status.TheVariants as status
use Rattle.helix_run.specs.Inner.Writing.{HoldsPart}
use Rattle.helix_run.specs.Output.{csv_text}
use Rattle.helix_run.specs.Causes.{OutputIsThere}
use Rattle.helix_run.specs.Left.{HasText, HoldsWhole, HoldsPrefix, Left}
use Rattle.helix_run.specs.Inner.Outcome.{line_for, status_for, Tells, Generates}
use Rattle.helix_run.proofs.Known.{Known, KnownWrite, known}
use Rattle.helix_run.proofs.CauseLaws.{write_cause}

-- an output that is there is taken
taken_is : (told : Bool) → told ≡ true → (output : Option (List ℕ)) (bytes : List ℕ) → output ≡ Some bytes
    → (told && (true && is_some output)) ≡ true
taken_is told is output bytes there = ap (λ t. t && (true && is_some output)) is ∙ ap is_some there

-- an order says that it is equal only of what is equal
equal_if : (o : Ordering) → is_eq o ≡ true → o ≡ Equal
equal_if Less e = absurd (cc)
equal_if Equal e = refl
equal_if Greater e = absurd (cc)

-- a new file leaves the others
kept_by_insert : (files : FileMap) (output text name bytes : List ℕ) → get files output ≡ None
    → get files name ≡ Some bytes → get (insert files output text) name ≡ Some bytes
kept_by_insert files output text name bytes absent there =
    get-insert nat_list_cmp_total files output text name
    ∙ elim (eq_by_cmp (slice_cmp nat_cmp) name output) as (λ b. eq_by_cmp (slice_cmp nat_cmp) name output ≡ b
    → cond b (Some text) (get files name) ≡ Some bytes) [
      | true ↦ λ e.
          let same : name ≡ output =
          slice_cmp-IsAntisymmetric nat_cmp-IsAntisymmetric name output
          (equal_if (slice_cmp nat_cmp name output) e) in
          let no_file : Some bytes ≡ None = sym there ∙ ap (get files) same ∙ absent in
          absurd (cc)
      | false ↦ λ e. there
    ] refl

module _ (words : List (List ℕ)) (old new : DiskState) (told : IsTrue old.told) where
  text_of : {result : Result (Unit {0}) Failed} (write : KnownWrite words old result new)
      → get old.files write.names.output ≡ None
      → HasText words old.files write.names.output (csv_text write.field.name write.rows)
  text_of write absent = record {
    names = write.names;
    field = write.field;
    rows = write.rows;
    has = write.accepted told;
    answer = write.answer;
    absent = absent;
    output_is = refl;
    text_is = refl;
  }

  holds_whole : (write : KnownWrite words old (Ok (tt {0})) new) → HoldsWhole words old.files new.files
  holds_whole write = record {
    output = write.names.output;
    text = csv_text write.field.name write.rows;
    has = text_of write (write.written.was_absent told);
    holds = write.written.whole told;
  }

  -- an output that was there is as it was; else it holds a prefix
  left_by_fault : (failed : Failed) (write : KnownWrite words old (Err failed) new) (output : Option (List ℕ))
      → get old.files write.names.output ≡ output
      → HoldsPart old.files write.names.output (csv_text write.field.name write.rows) new.files
      → (new.files ≡ old.files) ⊎ HoldsPrefix words old.files new.files
  left_by_fault failed write None absent (inl same) = inl same
  left_by_fault failed write None absent (inr (size, within, holds)) = inr (record {
    output = write.names.output;
    text = csv_text write.field.name write.rows;
    size = size;
    has = text_of write absent;
    within = within;
    holds = holds;
  })
  left_by_fault failed write (Some bytes) there part =
      inl (write.written.taken (taken_is old.told told (get old.files write.names.output) bytes there))

  left_for : (before after : Screen) (outcome : Outcome) (result : Result (Unit {0}) Failed)
      → Known words old outcome new → AddsLine before (line_for outcome) result after
      → Left words old.files (status_for outcome (is_ok result)) new.files
  left_for before after Usage result known added = ap (λ s. s.files) known.1
  left_for before after ReadFault result (names, ordered, only, fails) added = only.files
  left_for before after ProfileRefused result (names, ordered, same, refused) added = same.only_reads.files
  left_for before after WantOfMemory result known added = known.only_reads.files
  left_for before after WriteFault result (failed, write) added =
      left_by_fault failed write (get old.files write.names.output) refl (write.written.part told)
  left_for before after (Done count) (Ok x) (write, counted) added = holds_whole write
  left_for before after (Done count) (Err e) (write, counted) added =
      inr (record {
        output = write.names.output;
        text = csv_text write.field.name write.rows;
        size = length (csv_text write.field.name write.rows);
        has = text_of write (write.written.was_absent told);
        within = le_refl _;
        holds = write.written.whole told
            ∙ ap (insert old.files write.names.output)
            (sym (take_all _ (csv_text write.field.name write.rows) (le_refl _)));
      })

  pub Left-run : (before after : Screen) (outcome : Outcome) (answer : Status) → Generates words old outcome new
      → Tells outcome before answer after → Left words old.files answer new.files
  Left-run before after outcome answer end tells =
      subst (λ s. Left words old.files s new.files) (sym tells.status)
      (left_for before after outcome tells.result (known words old new outcome end) tells.added)

  only_console_for : (outcome : Outcome) (shown : Bool) → Known words old outcome new
      → status_for outcome shown ≡ status.WriteFault
      → ¬ Rose old.write_faults new.write_faults → ¬ OutputIsThere words old → HoldsWhole words old.files new.files
  only_console_for Usage shown known is quiet absent = absurd (cc)
  only_console_for ReadFault shown known is quiet absent = absurd (cc)
  only_console_for ProfileRefused shown known is quiet absent = absurd (cc)
  only_console_for WantOfMemory shown known is quiet absent = absurd (cc)
  only_console_for WriteFault shown (failed, write) is quiet absent =
      elim (write_cause words old new failed write)
      [ inl rose ↦ absurd (quiet rose) | inr there ↦ absurd (absent there) ]
  only_console_for (Done count) shown (write, counted) is quiet absent = holds_whole write

  pub HoldsWhole-run : (before after : Screen) (outcome : Outcome) (answer : Status) → Generates words old outcome new
      → Tells outcome before answer after
      → answer ≡ status.WriteFault → ¬ Rose old.write_faults new.write_faults → ¬ OutputIsThere words old
      → HoldsWhole words old.files new.files
  HoldsWhole-run before after outcome answer end tells is quiet absent =
      only_console_for outcome (is_ok tells.result) (known words old new outcome end) (sym tells.status ∙ is) quiet
      absent

-- whatever was there is kept
pub kept_if_left : (words : List (List ℕ)) (old new : FileMap) (answer : Status) → Left words old answer new
    → (name bytes : List ℕ) → get old name ≡ Some bytes → get new name ≡ Some bytes
kept_if_left words old new status.Usage left name bytes there = ap (λ f. get f name) left ∙ there
kept_if_left words old new status.ReadFault left name bytes there = ap (λ f. get f name) left ∙ there
kept_if_left words old new status.ProfileRefused left name bytes there = ap (λ f. get f name) left ∙ there
kept_if_left words old new status.WantOfMemory left name bytes there = ap (λ f. get f name) left ∙ there
kept_if_left words old new status.WriteFault (inl same) name bytes there = ap (λ f. get f name) same ∙ there
kept_if_left words old new status.WriteFault (inr prefix) name bytes there =
    ap (λ f. get f name) prefix.holds
    ∙ kept_by_insert old prefix.output (take prefix.size prefix.text) name bytes (ap (get old) prefix.has.output_is
    ∙ prefix.has.absent) there
kept_if_left words old new status.Done whole name bytes there =
    ap (λ f. get f name) whole.holds
    ∙ kept_by_insert old whole.output whole.text name bytes (ap (get old) whole.has.output_is ∙ whole.has.absent)
    there
kept_if_left words old new status.Cut left name bytes there = absurd left
kept_if_left words old new status.Empty left name bytes there = absurd left
kept_if_left words old new status.TokenRefused left name bytes there = absurd left
