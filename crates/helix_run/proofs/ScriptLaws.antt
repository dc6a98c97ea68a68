-- Where neither disk nor console fails, a run goes by its script.
use Rattle.std.proofs.Common.{◌≡◌, ◌≢◌, ℕ, inl, inr, Bool, true, ◌&&◌, List, length, ◌++◌, refl, sym, subst, ap, ◌∙◌}
use Rattle.std.specs.Prelude.{Some, None, is_some, Result, Ok, Err, is_ok, IsTrue}
use Rattle.std.specs.FinMap.{get}
use Rattle.helix_outside.specs.Count.{Rose}
use Rattle.helix_outside.specs.Files.{FileMap}
use Rattle.helix_outside.specs.Disk.{DiskState}
use Rattle.helix_outside.specs.Console.{Screen, AddsLine, line_text}
use Rattle.helix_outside.specs.declared.disk.Failed.{Failed}
use Rattle.helix_run.specs.declared.outcome.Outcome.{Outcome}
use Rattle.helix_run.specs.declared.outcome.Outcome.TheVariants.{Usage, ReadFault, ProfileRefused, WriteFault, WantOfMemory, Done}
use Rattle.helix_run.specs.declared.status.Status.{Status}
use Rattle.helix_run.specs.declared.status.Status.TheVariants as status
use Rattle.helix_run.specs.Words.{Names, order_of}
use Rattle.helix_run.specs.Script.{Script, EndsAs, HasField, no_order, no_profile, refused, taken, written}
use Rattle.helix_run.specs.Profile.{Field, ReadsProfile}
use Rattle.helix_run.specs.Lines.{done_line}
use Rattle.helix_run.specs.Environment.{environment, IsQuiet, FollowsScript}
use Rattle.helix_run.specs.Causes.{ProfileIsRefused, ProfileIsRead, OutputIsThere}
use Rattle.helix_run.specs.Inner.Outcome.{line_for, status_for, Tells, Generates}
use Rattle.helix_run.proofs.Known.{Known, known}
use Rattle.helix_run.proofs.CauseLaws.{write_cause, read_cause}

-- a line whose count didn't rise was shown
shown_if_quiet : (before after : Screen) (line : List ℕ) (result : Result (Unit {0}) Failed)
    → AddsLine before line result after → ¬ Rose before.faults after.faults
    → IsTrue before.told → after.text ≡ before.text ++ line_text line
shown_if_quiet before after line (Ok x) added quiet told = added.added told
shown_if_quiet before after line (Err e) added quiet told = absurd (quiet added.faults.failed)

ends : (answer : Status) (after left : FileMap) (line : List ℕ) → after ≡ left
    → EndsAs answer after (line_text line) answer left line
ends answer after left line files = record { status_is = refl; files_are = files; text_is = refl }

-- two orders of the same words are the same
same_names : (words : List (List ℕ)) (names other : Names) → order_of words ≡ Some names → order_of words ≡ Some other
    → names ≡ other
same_names words names other e f = let h : Some names ≡ Some other = sym e ∙ f in cc

-- no profile is both accepted and refused
both_ways : (words : List (List ℕ)) (files : FileMap) (names : Names) (field : Field) → HasField words files names field
    → ProfileIsRefused words files → ⊥
both_ways words files names field has is =
    let same : names ≡ is.names = same_names words names is.names has.profile.ordered is.profile.ordered in
    let bytes : Some has.bytes ≡ Some is.bytes = sym has.profile.there ∙ ap (λ n. get files n.profile) same
    ∙ is.profile.there in
    let equal : has.bytes ≡ is.bytes = cc in
    is.refused field (subst (λ b. ReadsProfile b field) equal has.reads)

module _ (words : List (List ℕ)) (old new : DiskState) (told : IsTrue old.told) (before after : Screen) where
  script_for : (outcome : Outcome) (result : Result (Unit {0}) Failed) → Known words old outcome new
      → AddsLine before (line_for outcome) result after
      → IsQuiet (environment old before) (environment new after)
      → status_for outcome (is_ok result) ≢ status.WantOfMemory
      → Script words old.files (status_for outcome (is_ok result)) new.files (line_text (line_for outcome))
  script_for Usage result known added quiet other =
      no_order known.0 (ends status.Usage new.files old.files _ (ap (λ s. s.files) known.1))
  script_for ReadFault result (names, ordered, only, fails) added quiet other =
      elim (read_cause words old new names ordered fails) [
        | inl rose ↦ absurd (quiet.read rose)
        | inr lacks ↦ no_profile lacks.names lacks.ordered lacks.missing
            (ends status.ReadFault new.files old.files _ only.files)
      ]
  script_for ProfileRefused result (names, ordered, same, why) added quiet other =
      let is : ProfileIsRefused words old.files = why told in
      refused is.names is.bytes is.profile is.refused
      (ends status.ProfileRefused new.files old.files _ same.only_reads.files)
  script_for WantOfMemory result known added quiet other = absurd (other refl)
  script_for WriteFault result (failed, write) added quiet other =
      elim (write_cause words old new failed write) [
        | inl rose ↦ absurd (quiet.write rose)
        | inr there ↦
            let same : there.names ≡ write.names =
            same_names words there.names write.names there.ordered write.ordered in
            let some : is_some (get old.files write.names.output) ≡ true =
            ap (λ n. is_some (get old.files n.output)) (sym same) ∙ there.there in
            taken write.names write.field (write.accepted told) some
            (ends status.WriteFault new.files old.files
            _ (write.written.taken (ap (λ t. t && (true && is_some (get old.files write.names.output))) told
            ∙ some)))
      ]
  script_for (Done count) (Ok x) (write, counted) added quiet other =
      rw counted (written write.names write.field write.rows (write.accepted told) (write.written.was_absent told)
      write.answer
      (ends status.Done new.files _ (done_line (length write.rows)) (write.written.whole told)))
  script_for (Done count) (Err e) known added quiet other = absurd (quiet.console added.faults.failed)

  pub FollowsScript-run : (outcome : Outcome) (answer : Status) → Generates words old outcome new
      → Tells outcome before answer after
      → IsQuiet (environment old before) (environment new after) → answer ≢ status.WantOfMemory
      → FollowsScript words (environment old before) answer (environment new after)
  FollowsScript-run outcome answer end tells quiet other = record {
    text = line_text (line_for outcome);
    script = subst (λ s. Script words old.files s new.files (line_text (line_for outcome))) (sym tells.status)
        (script_for outcome tells.result (known words old new outcome end) tells.added quiet
        (λ e. other (tells.status ∙ e)));
    shown = shown_if_quiet before after (line_for outcome) tells.result tells.added quiet.console;
  }

  -- a refused profile with no read fault is answered so
  refusal_for : (outcome : Outcome) (shown : Bool) → Known words old outcome new → ProfileIsRefused words old.files
      → status_for outcome shown ≢ status.ReadFault → status_for outcome shown ≢ status.WantOfMemory
      → status_for outcome shown ≡ status.ProfileRefused
  refusal_for Usage shown known is read memory =
      absurd (let e : None ≡ Some is.names = sym known.0 ∙ is.profile.ordered in cc)
  refusal_for ReadFault shown known is read memory = absurd (read refl)
  refusal_for ProfileRefused shown known is read memory = refl
  refusal_for WantOfMemory shown known is read memory = absurd (memory refl)
  refusal_for WriteFault shown (failed, write) is read memory =
      absurd (both_ways words old.files write.names write.field (write.accepted told) is)
  refusal_for (Done count) shown (write, counted) is read memory =
      absurd (both_ways words old.files write.names write.field (write.accepted told) is)

  pub refusal_comes-run : (outcome : Outcome) (answer : Status) → Generates words old outcome new
      → Tells outcome before answer after → ProfileIsRefused words old.files
      → answer ≢ status.ReadFault → answer ≢ status.WantOfMemory → answer ≡ status.ProfileRefused
  refusal_comes-run outcome answer end tells is read memory =
      tells.status ∙ refusal_for outcome (is_ok tells.result) (known words old new outcome end) is
      (λ e. read (tells.status ∙ e)) (λ e. memory (tells.status ∙ e))

  -- an accepted profile whose output isn't there is written, unless something fails
  completes_for : (outcome : Outcome) (result : Result (Unit {0}) Failed) → Known words old outcome new
      → AddsLine before (line_for outcome) result after
      → ProfileIsRead words old.files → ¬ OutputIsThere words old
      → IsQuiet (environment old before) (environment new after)
      → status_for outcome (is_ok result) ≢ status.WantOfMemory → status_for outcome (is_ok result) ≡ status.Done
  completes_for Usage result known added is absent quiet memory =
      absurd (let e : None ≡ Some is.names = sym known.0 ∙ is.has.profile.ordered in cc)
  completes_for ReadFault result (names, ordered, only, fails) added is absent quiet memory =
      elim (read_cause words old new names ordered fails) [
        | inl rose ↦ absurd (quiet.read rose)
        | inr lacks ↦
            let same : lacks.names ≡ is.names =
            same_names words lacks.names is.names lacks.ordered is.has.profile.ordered in
            absurd (let e : None ≡ Some is.has.bytes = sym lacks.missing ∙ ap (λ n. get old.files n.profile) same
            ∙ is.has.profile.there in cc)
      ]
  completes_for ProfileRefused result (names, ordered, same, why) added is absent quiet memory =
      absurd (both_ways words old.files is.names is.field is.has (why told))
  completes_for WantOfMemory result known added is absent quiet memory = absurd (memory refl)
  completes_for WriteFault result (failed, write) added is absent quiet memory =
      elim (write_cause words old new failed write)
      [ inl rose ↦ absurd (quiet.write rose) | inr there ↦ absurd (absent there) ]
  completes_for (Done count) (Ok x) known added is absent quiet memory = refl
  completes_for (Done count) (Err e) known added is absent quiet memory = absurd (quiet.console added.faults.failed)

  pub completes-run : (outcome : Outcome) (answer : Status) → Generates words old outcome new
      → Tells outcome before answer after
      → ProfileIsRead words old.files → ¬ OutputIsThere words old
      → IsQuiet (environment old before) (environment new after) → answer ≢ status.WantOfMemory → answer ≡ status.Done
  completes-run outcome answer end tells is absent quiet memory =
      tells.status ∙ completes_for outcome tells.result (known words old new outcome end) tells.added is absent quiet
      (λ e. memory (tells.status ∙ e))
