-- How far a reader of records has come.
use Rattle.std.specs.Prelude.{◌≡◌, ℕ, Bool, true, false, Some, List, [], ◌∷◌, ◌++◌, IsUtf8}
use Rattle.csv.specs.Reading.{Reached, Ready, default_config, source_of, reader_config, reader_state, reader_trim, records}
use Rattle.csv.specs.declared.parser.State.TheVariants as st
use Rattle.csv.specs.declared.reader.Reader.{Reader}
use Rattle.csv.specs.declared.reader.Trim.TheVariants as trim
use Rattle.helix_values.specs.declared.kind.Kind.{Kind}
use Rattle.helix_sets.specs.SetFiles.{SpellsNone}
use Rattle.helix_sets.specs.declared.fault.SetFault.{SetFault}
use Rattle.helix_sets.specs.declared.fault.SetFault.TheVariants as faults
use denote.Bor.{Bor}

-- the reader has read these first records of the bytes
pub record HasRead (bytes : List ℕ) (rows : List (List (List ℕ))) (reader : Reader (Bor (List ℕ))) : Type 0 where
  pub plain : reader_trim reader ≡ trim.None
  pub ready : Ready reader
  pub config : reader_config reader ≡ default_config
  pub rest : List ℕ
  pub source : source_of (λ s. Some s.now) reader ≡ Some rest
  pub reached : Reached default_config st.StartRecord bytes rows (reader_state reader) rest

-- the next record was read, or there is none
abbrev pub TellsOfRead : Reader (Bor (List ℕ)) → Reader (Bor (List ℕ)) → List (List ℕ) → Bool → Type 0
TellsOfRead old new fields true = (bytes : List ℕ) (rows : List (List (List ℕ))) → HasRead bytes rows old
    → HasRead bytes (rows ++ fields ∷ []) new
TellsOfRead old new fields false = (bytes : List ℕ) (rows : List (List (List ℕ))) → HasRead bytes rows old
    → records default_config bytes ≡ rows

-- what a fault tells of the first field of a record
abbrev pub TellsOfField : Kind → List ℕ → ℕ → SetFault → Type 0
TellsOfField kind field at (faults.NotUtf8 place) = (place ≡ at) × (¬ IsUtf8 field)
TellsOfField kind field at (faults.NotOfKind place) = (place ≡ at) × SpellsNone kind field
TellsOfField kind field at faults.Memory = Unit {0}
TellsOfField kind field at other = ⊥
