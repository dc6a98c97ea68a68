-- The row after which a job goes on.
use Rattle.std.proofs.Common.{◌≡◌, List, ℕ, inl, inr, refl, sym, ◌∙◌, ap, subst}
use Rattle.std.specs.Prelude.{Option, None, Some, Result, Ok, Err, IsTrue, encode_utf8_all}
use Rattle.std.specs.FinMap.{get}
use Rattle.helix_command.specs.declared.order.Job.{Job}
use Rattle.helix_lines.specs.Lines.{token_line}
use Rattle.helix_lines.specs.declared.ending.Ending.{Ending}
use Rattle.helix_lines.specs.declared.ending.Ending.TheVariants as ending
use Rattle.helix_loading.specs.Files.{AreRead}
use Rattle.helix_loading.specs.Sources.{HoldsFile}
use Rattle.helix_loading.specs.declared.loaded.Loaded.{Loaded}
use Rattle.helix_outside.specs.Disk.{DiskState}
use Rattle.helix_token.specs.Broken.{IsFirstFault}
use Rattle.helix_token.specs.declared.fault.TokenFault.{TokenFault}
use Rattle.helix_values.specs.declared.cell.Cell.{Cell}
use Rattle.helix_generate.specs.Inner.Steps.{FindsStart, LacksStart, SameDisk, TellsStart}

module _ (job : Job) (loaded : Loaded) (old new : DiskState) (name bytes file : List ℕ) (resume : job.resume ≡ Some name)
    (same : SameDisk old new) (written : file ≡ encode_utf8_all name) (read : AreRead old file bytes) where
  holds : IsTrue old.told → HoldsFile old.files name bytes
  holds told =
      let (whole, there, is) = read told in (whole, ap (get old.files) (sym written) ∙ there, is)

  lacks : (end : Ending) → (end ≡ ending.WantOfMemory) → LacksStart job loaded old end new
  lacks end is = subst (λ e. LacksStart job loaded old e new) (sym is) same

  refused : (end : Ending) (f : TokenFault) → IsFirstFault bytes loaded.identity loaded.profile.fields f
      → end ≡ ending.TokenRefused (token_line f) → LacksStart job loaded old end new
  refused end f fault is =
      subst (λ e. LacksStart job loaded old e new) (sym is)
      (same, (λ told. (f, (name, bytes, resume, holds told, fault), refl)))

  pub finds : (result : Result (Option (List Cell)) Ending) → TellsStart loaded bytes result
      → FindsStart job loaded old result new
  finds (Ok None) tells = absurd tells
  finds (Ok (Some row)) tells = record {
    same = same;
    starts = λ told. (name, bytes, resume, holds told, tells);
    cells = tells.cells;
  }
  finds (Err end) (inl memory) = lacks end memory
  finds (Err end) (inr fault) = refused end fault.0 fault.1 fault.2
