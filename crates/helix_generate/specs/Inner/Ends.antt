-- How a job ends once its data file is written.
use Rattle.std.specs.Prelude.{◌≡◌, ℕ, Bool, true, false, List, [], ◌∷◌, ◌++◌, Option, None, Some, Ok, Err, MatchBool, string_bytes, option_map}
use Rattle.helix_command.specs.declared.order.Job.{Job}
use Rattle.helix_lines.specs.declared.ending.Ending.{Ending}
use Rattle.helix_lines.specs.declared.ending.Ending.TheVariants as ending
use Rattle.helix_outside.specs.Disk.{DiskState}
use Rattle.helix_token.specs.Token.{token_text}
use Rattle.helix_writing.specs.Files.{WritesFile}
use Rattle.helix_writing.specs.declared.data_file.Written.{Written}
use Rattle.helix_generate.specs.declared.preparing.Ready.{Ready}

-- the token goes to a file
abbrev pub EndsFile : List ℕ → List ℕ → Bool → ℕ → DiskState → Ending → DiskState → Type 0
EndsFile name token replace rows old ending.WantOfMemory new = new ≡ old
EndsFile name token replace rows old (ending.Cut count None) new =
    (count ≡ rows) × WritesFile {T = Unit {0}} {E = Unit {0}} old name (token ++ 10 ∷ []) replace (Ok tt) new
EndsFile name token replace rows old ending.WriteFault new =
    WritesFile {T = Unit {0}} {E = Unit {0}} old name (token ++ 10 ∷ []) replace (Err tt) new
EndsFile name token replace rows old other new = ⊥

-- the token is to be shown
abbrev pub EndsShown : List ℕ → ℕ → DiskState → Ending → DiskState → Type 0
EndsShown token rows old (ending.Cut count (Some shown)) new = (count ≡ rows) × (shown ≡ token) × (new ≡ old)
EndsShown token rows old ending.WantOfMemory new = new ≡ old
EndsShown token rows old other new = ⊥

-- the ending of a cut run, whose token is that of the last row
abbrev pub EndsWith : Option (List ℕ) → List ℕ → Bool → ℕ → DiskState → Ending → DiskState → Type 0
EndsWith None token replace rows old end new = EndsShown token rows old end new
EndsWith (Some name) token replace rows old end new = EndsFile name token replace rows old end new

abbrev pub EndsCut : Bool → Ready → ℕ → DiskState → Ending → DiskState → Type 0
EndsCut replace ready rows old end new = EndsWith (option_map string_bytes ready.token)
    (token_text ready.identity ready.rows.profile.fields ready.last) replace rows old end new

-- the ending of a whole one
abbrev pub EndsWhole : Bool → ℕ → DiskState → Ending → DiskState → Type 0
EndsWhole true rows old end new = (end ≡ ending.Done rows) × (new ≡ old)
EndsWhole false rows old end new = (end ≡ ending.Empty) × (new ≡ old)

abbrev pub EndsWritten : Job → Ready → Written → DiskState → Ending → DiskState → Type 0
EndsWritten job ready written old end new = MatchBool written.cut
    (EndsCut job.replace ready written.rows old end new)
    (EndsWhole ready.some written.rows old end new)
