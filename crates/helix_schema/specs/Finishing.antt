-- Why a draft isn't finished.
use Rattle.std.specs.Prelude.{◌≡◌, IsSome}
use Rattle.helix_schema.specs.Drafts.{Drafted, first_wanted}
use Rattle.helix_schema.specs.declared.draft.Unfinished.{Unfinished}
use Rattle.helix_schema.specs.declared.draft.Unfinished.TheVariants as unfinished

-- a set file is wanted, and the draft is handed back, or memory ran out
abbrev pub IsUnfinished : Drafted → Unfinished → Type 0
IsUnfinished draft (unfinished.Wanted same) = (same ≡ draft) × IsSome (first_wanted draft.wishes)
IsUnfinished draft unfinished.Memory = Unit {0}
