-- Each status has its cause.
use Rattle.std.proofs.Common.{◌≡◌, ℕ, ◌⊎◌, inl, inr, Bool, true, false, ◌&&◌, List, refl, sym, subst, ap, ◌∙◌, arith}
use Rattle.std.specs.Prelude.{Option, Some, None, IsSome, is_some, is_none, MatchBool, Result, Ok, Err, is_ok, IsTrue}
use Rattle.std.specs.FinMap.{get}
use Rattle.helix_outside.specs.Count.{Rose}
use Rattle.helix_outside.specs.Disk.{DiskState, is_missing, is_taken}
use Rattle.helix_outside.specs.Console.{Screen, AddsLine}
use Rattle.helix_outside.specs.declared.disk.Failed.{Failed}
use Rattle.helix_run.specs.declared.outcome.Outcome.{Outcome}
use Rattle.helix_run.specs.declared.outcome.Outcome.TheVariants.{Usage, ReadFault, ProfileRefused, WriteFault, WantOfMemory, Done}
use Rattle.helix_run.specs.declared.status.Status.{Status}
use Rattle.helix_run.specs.Words.{Names, order_of}
use Rattle.helix_run.specs.Inner.Reading.{FailsToRead}
use Rattle.helix_run.specs.Environment.{environment}
use Rattle.helix_run.specs.Causes.{Cause, LacksProfile, OutputIsThere, ProfileIsRead}
use Rattle.helix_run.specs.Inner.Outcome.{line_for, status_for, Tells, Generates}
use Rattle.std.proofs.lemmas.Bool.{and_parts}
use Rattle.helix_run.proofs.Known.{Known, KnownWrite, known}

none_if : {X : Type 0} (o : Option X) → is_none o ≡ true → o ≡ None
none_if None e = refl
none_if (Some x) e = absurd (cc)

ordered_some : (words : List (List ℕ)) (names : Names) → order_of words ≡ Some names → IsSome (order_of words)
ordered_some words names e = subst IsSome (sym e) refl

-- a disk that misses the profile file tells so
pub lacks_profile : (words : List (List ℕ)) (disk : DiskState) (names : Names) → order_of words ≡ Some names
    → is_missing disk names.profile ≡ true → LacksProfile words disk
lacks_profile words disk names ordered missing =
    let parts : (disk.told ≡ true) × (is_none (get disk.files names.profile) ≡ true) = and_parts _ _ missing in
    record { told = parts.0; names = names; ordered = ordered; missing = none_if _ parts.1 }

pub output_is_there : (words : List (List ℕ)) (disk : DiskState) (names : Names) → order_of words ≡ Some names
    → is_taken disk names.output false ≡ true → OutputIsThere words disk
output_is_there words disk names ordered taken =
    let parts : (disk.told ≡ true) × ((true && is_some (get disk.files names.output)) ≡ true) = and_parts _ _ taken in
    record { told = parts.0; names = names; ordered = ordered; there = parts.1 }

-- a failure that isn't excused raised its count
pub raised_or : {P : Type 0} (excused : Bool) (old new : ℕ) → (excused ≡ true → P)
    → MatchBool excused (new ≡ old) (Rose old new) → Rose old new ⊎ P
raised_or true old new why same = inr (why refl)
raised_or false old new why rose = inl rose

pub read_cause : (words : List (List ℕ)) (old new : DiskState) (names : Names) → order_of words ≡ Some names
    → FailsToRead old names.profile new → Rose old.read_faults new.read_faults ⊎ LacksProfile words old
read_cause words old new names ordered fails =
    raised_or (is_missing old names.profile) old.read_faults new.read_faults (lacks_profile words old names ordered)
    fails

module _ (words : List (List ℕ)) (old new : DiskState) where
  pub write_cause : (failed : Failed) → KnownWrite words old (Err failed) new → Rose old.write_faults new.write_faults
      ⊎ OutputIsThere words old
  write_cause failed write =
      raised_or (is_taken old write.names.output false) old.write_faults new.write_faults
      (output_is_there words old write.names write.ordered) write.written.write_faults.failed

  profile_is_read : {result : Result (Unit {0}) Failed} → KnownWrite words old result new → IsTrue old.told
      → ProfileIsRead words old.files
  profile_is_read write told = record { names = write.names; field = write.field; has = write.accepted told }

  pub output_absent : KnownWrite words old (Ok (tt {0})) new → ¬ OutputIsThere words old
  output_absent write there =
      let same : Some write.names ≡ Some there.names = sym write.ordered ∙ there.ordered in
      let names : write.names ≡ there.names = cc in
      let none : get old.files there.names.output ≡ None = ap (λ n. get old.files n.output) (sym names)
      ∙ write.written.was_absent there.told in
      let some : is_some (get old.files there.names.output) ≡ true = there.there in
      absurd (let e : is_some {T = List ℕ} None ≡ true = ap is_some (sym none) ∙ some in cc)

module _ (words : List (List ℕ)) (old new : DiskState) (before after : Screen) where
  cause_for : (outcome : Outcome) (result : Result (Unit {0}) Failed) → Known words old outcome new
      → AddsLine before (line_for outcome) result after
      → Cause words (environment old before) (status_for outcome (is_ok result)) (environment new after)
  cause_for Usage result known added =
      record { no_order = known.0; disk = rw known.1 (record { read = omega arith; write = omega arith }) }
  cause_for ReadFault result (names, ordered, only, fails) added = record {
    ordered = ordered_some words names ordered;
    unwritten = omega (arith, only.write_faults);
    cause = read_cause words old new names ordered fails;
  }
  cause_for ProfileRefused result (names, ordered, same, refused) added = record {
    ordered = ordered_some words names ordered;
    disk = record { read = omega (arith, same.read_faults); write = omega (arith, same.only_reads.write_faults) };
    refused = refused;
  }
  cause_for WantOfMemory result known added = tt
  cause_for WriteFault result (failed, write) added = record {
    ordered = ordered_some words write.names write.ordered;
    unfailed = omega (arith, write.written.read_faults);
    accepted = profile_is_read words old new write;
    cause = elim (write_cause words old new failed write) [ inl rose ↦ inl (inl rose) | inr there ↦ inr there ];
  }
  cause_for (Done count) (Ok x) (write, counted) added = record {
    ordered = ordered_some words write.names write.ordered;
    disk = record {
      read = omega (arith, write.written.read_faults);
      write = omega (arith, write.written.write_faults.ok);
    };
    console = omega (arith, added.faults.ok);
    accepted = profile_is_read words old new write;
    absent = output_absent words old new write;
  }
  cause_for (Done count) (Err e) (write, counted) added = record {
    ordered = ordered_some words write.names write.ordered;
    unfailed = omega (arith, write.written.read_faults);
    accepted = profile_is_read words old new write;
    cause = inl (inr added.faults.failed);
  }

  pub Cause-run : (outcome : Outcome) (answer : Status) → Generates words old outcome new
      → Tells outcome before answer after → Cause words (environment old before) answer (environment new after)
  Cause-run outcome answer end tells =
      subst (λ s. Cause words (environment old before) s (environment new after)) (sym tells.status)
      (cause_for outcome tells.result (known words old new outcome end) tells.added)
