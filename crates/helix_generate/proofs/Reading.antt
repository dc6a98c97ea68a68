-- What a job leads to after files were only read.
use Rattle.std.proofs.Common.{◌≡◌, List, ℕ, ◌⊎◌, inl, inr, refl, sym, ◌∙◌, subst}
use Rattle.std.specs.Prelude.{IsTrue}
use Rattle.helix_command.specs.declared.order.Job.{Job}
use Rattle.helix_lines.specs.Lines.{refused_line}
use Rattle.helix_lines.specs.declared.ending.Ending.{Ending}
use Rattle.helix_lines.specs.declared.ending.Ending.TheVariants as ending
use Rattle.helix_loading.specs.Loading.{StopsLoading}
use Rattle.helix_loading.specs.Files.{OnlyReads}
use Rattle.helix_loading.specs.declared.loaded.LoadFault.{LoadFault}
use Rattle.helix_loading.specs.declared.loaded.LoadFault.TheVariants as fault
use Rattle.helix_loading.specs.declared.loaded.Loaded.{Loaded}
use Rattle.helix_outside.specs.Count.{Rose}
use Rattle.helix_outside.specs.Disk.{DiskState}
use Rattle.helix_generate.specs.Generating.{CausesEnding, Generates, LeavesEnding}
use Rattle.helix_generate.specs.Inner.Steps.{EndsUnloaded, LacksStart, SameDisk}
use Rattle.helix_generate.specs.Script.{JobScript}
use Rattle.helix_generate.specs.Starts.{Gives}

module _ (job : Job) (old now new : DiskState) (same : SameDisk old now) where
  told_now : IsTrue old.told → IsTrue now.told
  told_now told = same.only_reads.told ∙ told

  told_old : IsTrue now.told → IsTrue old.told
  told_old told = sym same.only_reads.told ∙ told

  both : (new.read_faults ≡ now.read_faults) × (new.write_faults ≡ now.write_faults)
      → (new.read_faults ≡ old.read_faults) × (new.write_faults ≡ old.write_faults)
  both counts = (counts.0 ∙ same.read_faults, counts.1 ∙ same.only_reads.write_faults)

  caused : (end : Ending) → CausesEnding job now end new → CausesEnding job old end new
  caused ending.ReadFault (written, inl rose) =
      (written ∙ same.only_reads.write_faults, inl (subst (λ n. Rose n new.read_faults) same.read_faults rose))
  caused ending.ReadFault (written, inr script) = (
    written ∙ same.only_reads.write_faults,
    inr (told_old script.0, subst (λ f. JobScript job f ending.ReadFault new.files) same.only_reads.files script.1),
  )
  caused ending.WriteFault (read, inl rose) =
      (read ∙ same.read_faults, inl (subst (λ n. Rose n new.write_faults) same.only_reads.write_faults rose))
  caused ending.WriteFault (read, inr script) = (
    read ∙ same.read_faults,
    inr (told_old script.0, subst (λ f. JobScript job f ending.WriteFault new.files) same.only_reads.files script.1),
  )
  caused (ending.Word number) causes = absurd causes
  caused (ending.«Option» option) causes = absurd causes
  caused ending.WantOfMemory counts = both counts
  caused (ending.ProfileRefused line) counts = both counts
  caused (ending.TokenRefused line) counts = both counts
  caused (ending.Done rows) counts = both counts
  caused ending.Empty counts = both counts
  caused (ending.Cut rows token) counts = both counts

  pub after_reading : (end : Ending) → Generates job now end new → Generates job old end new
  after_reading end gen = record {
    told = gen.told ∙ same.only_reads.told;
    cause = caused end gen.cause;
    left = λ told. subst (λ f. LeavesEnding job f end new.files) same.only_reads.files (gen.left (told_now told));
  }

module _ (job : Job) (old new : DiskState) where
  -- memory ran out before anything was written
  pub wants_memory : SameDisk old new → Generates job old ending.WantOfMemory new
  wants_memory same = record {
    told = same.only_reads.told;
    cause = (same.read_faults, same.only_reads.write_faults);
    left = λ told. (inl (inl same.only_reads.files), (λ csv. inl same.only_reads.files));
  }

  -- a file isn't there, or reading failed
  pub fails_to_read : OnlyReads old new → Rose old.read_faults new.read_faults
      ⊎ (IsTrue old.told × JobScript job old.files ending.ReadFault old.files)
      → Generates job old ending.ReadFault new
  fails_to_read reads (inl rose) = record {
    told = reads.told;
    cause = (reads.write_faults, inl rose);
    left = λ told. reads.files;
  }
  fails_to_read reads (inr script) = record {
    told = reads.told;
    cause = (
      reads.write_faults,
      inr (
        script.0,
        subst (JobScript job old.files ending.ReadFault) (sym reads.files)
            script.1,
      ),
    );
    left = λ told. reads.files;
  }

  pub refuses_profile : SameDisk old new → (line : List ℕ)
      → (IsTrue old.told → JobScript job old.files (ending.ProfileRefused line) old.files)
      → Generates job old (ending.ProfileRefused line) new
  refuses_profile same line script = record {
    told = same.only_reads.told;
    cause = (same.read_faults, same.only_reads.write_faults);
    left = λ told. subst (JobScript job old.files (ending.ProfileRefused line)) (sym same.only_reads.files)
        (script told);
  }

  pub refuses_token : SameDisk old new → (line : List ℕ)
      → (IsTrue old.told → JobScript job old.files (ending.TokenRefused line) old.files)
      → Generates job old (ending.TokenRefused line) new
  refuses_token same line script = record {
    told = same.only_reads.told;
    cause = (same.read_faults, same.only_reads.write_faults);
    left = λ told. subst (JobScript job old.files (ending.TokenRefused line)) (sym same.only_reads.files) (script told);
  }

  -- the token isn't read
  pub lacks_start : (loaded : Loaded) → (IsTrue old.told → Gives job old.files loaded) → (end : Ending)
      → LacksStart job loaded old end new → Generates job old end new
  lacks_start loaded gives ending.ReadFault (reads, inl rose) = fails_to_read reads (inl rose)
  lacks_start loaded gives ending.ReadFault (reads, inr (told, lacks)) =
      fails_to_read reads (inr (told, JobScript.no_token loaded (gives told) lacks))
  lacks_start loaded gives ending.WantOfMemory same = wants_memory same
  lacks_start loaded gives (ending.TokenRefused line) (same, broken) =
      refuses_token same line (λ told. let (f, fault, is) = broken told in
      JobScript.bad_token loaded f line (gives told) fault is)
  lacks_start loaded gives ending.WriteFault none = absurd none
  lacks_start loaded gives (ending.Word number) none = absurd none
  lacks_start loaded gives (ending.«Option» option) none = absurd none
  lacks_start loaded gives (ending.ProfileRefused line) none = absurd none
  lacks_start loaded gives (ending.Done rows) none = absurd none
  lacks_start loaded gives ending.Empty none = absurd none
  lacks_start loaded gives (ending.Cut rows token) none = absurd none

  -- nothing is loaded
  pub unloaded : (stop : LoadFault) (end : Ending) → OnlyReads old new
      → StopsLoading old job.profile job.alphabet job.violate stop new → EndsUnloaded stop end
      → Generates job old end new
  unloaded fault.Read end reads (inl rose) is =
      subst (λ e. Generates job old e new) (sym is) (fails_to_read reads (inl rose))
  unloaded fault.Read end reads (inr (told, missing)) is =
      subst (λ e. Generates job old e new) (sym is) (fails_to_read reads (inr (told, JobScript.no_file missing)))
  unloaded fault.Memory end reads same is = subst (λ e. Generates job old e new) (sym is)
      (wants_memory (record { only_reads = reads; read_faults = same }))
  unloaded (fault.Refused broken) end reads (same, refused) (inl is) = subst (λ e. Generates job old e new) (sym is)
      (wants_memory (record { only_reads = reads; read_faults = same }))
  unloaded (fault.Refused broken) end reads (same, refused) (inr is) = subst (λ e. Generates job old e new) (sym is)
      (refuses_profile (record { only_reads = reads; read_faults = same }) (refused_line broken)
      (λ told. JobScript.refused broken (refused_line broken) (refused told) refl))
