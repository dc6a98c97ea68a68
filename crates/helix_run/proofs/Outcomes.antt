-- How the steps of an order join to its end.
use Rattle.std.proofs.Common.{◌≡◌, ℕ, List, length, refl, sym, subst, ap, ◌∙◌}
use Rattle.std.proofs.lemmas.List.{length-map}
use Rattle.std.specs.Prelude.{Result}
use Rattle.helix_outside.specs.Disk.{DiskState}
use Rattle.helix_outside.specs.declared.disk.Failed.{Failed}
use Rattle.helix_run.specs.declared.outcome.Outcome.{Outcome}
use Rattle.helix_run.specs.declared.outcome.Outcome.TheVariants.{Usage, ReadFault, ProfileRefused, WriteFault, WantOfMemory, Done}
use Rattle.helix_run.specs.Words.{Names}
use Rattle.helix_run.specs.Inner.Reading.{OnlyReads}
use Rattle.helix_run.specs.Inner.Writing.{WritesFile}
use Rattle.helix_run.specs.Profile.{Field}
use Rattle.helix_run.specs.Rows.{Flag, IsFlagAnswer}
use Rattle.helix_run.specs.Inner.Rows.{rows_of}
use Rattle.helix_run.specs.Output.{csv_text}
use Rattle.helix_run.specs.Inner.Outcome.{HasInput, Wrote, EndsProfile, EndsOrder}

-- the text of the answer list was to be written
pub Wrote-text : (names : Names) (field : Field) (old new : DiskState) (cells : List Flag) (text shown : List ℕ)
    (result : Result (Unit {0}) Failed)
    → ((f : Field) → f.nullable ≡ field.nullable → IsFlagAnswer f (rows_of cells))
    → text ≡ csv_text field.name (rows_of cells) → shown ≡ text
    → WritesFile old names.output shown result new → Wrote names field old result new
Wrote-text names field old new cells text shown result answer is same written = record {
  rows = rows_of cells;
  answer = answer field refl;
  written = subst (λ t. WritesFile old names.output t result new) (same ∙ is) written;
}

-- and as many rows as there are cells
pub Wrote-counted : (names : Names) (field : Field) (old new : DiskState) (cells : List Flag) (text shown : List ℕ)
    (result : Result (Unit {0}) Failed)
    → ((f : Field) → f.nullable ≡ field.nullable → IsFlagAnswer f (rows_of cells))
    → text ≡ csv_text field.name (rows_of cells) → shown ≡ text
    → WritesFile old names.output shown result new → (wrote : Wrote names field old result new)
    × (length cells ≡ length wrote.rows)
unfolding Wrote-text
Wrote-counted names field old new cells text shown result answer is same written =
    (Wrote-text names field old new cells text shown result answer is same written, sym (length-map cells _))

-- an order ends as its profile does, once that is read
pub EndsOrder-read : (names : Names) (old now new : DiskState) (bytes : List ℕ) (outcome : Outcome)
    → HasInput names old now bytes → EndsProfile names bytes now outcome new → EndsOrder names old outcome new
EndsOrder-read names old now new bytes Usage input end = (now, bytes, input, end)
EndsOrder-read names old now new bytes ReadFault input end = absurd end.2
EndsOrder-read names old now new bytes ProfileRefused input end = (now, bytes, input, end)
EndsOrder-read names old now new bytes WriteFault input end = (now, bytes, input, end)
EndsOrder-read names old now new bytes WantOfMemory input end =
    (subst (OnlyReads old) (sym end.2) input.only_reads, ap (λ s. s.read_faults) end.2 ∙ input.read_faults)
EndsOrder-read names old now new bytes (Done count) input end = (now, bytes, input, end)
