-- The faults of a visited object with `is`, in the order in which they are tried.
use Rattle.std.specs.Prelude.{if◌then◌else◌, List, [], ◌∷◌, Option, Some, None, codes}
use Rattle.helix_json.specs.declared.value.Member.{Member}
use Rattle.helix_legacy.specs.declared.form.Line.{Line}
use Rattle.helix_legacy.specs.declared.form.Line.TheVariants as line
use Rattle.helix_places.specs.declared.place.Step.{Step}
use Rattle.helix_places.specs.declared.place.Step.TheVariants as step
use Rattle.helix_places.specs.Members.{value_of, is_list, is_string, some_is}
use Rattle.helix_legacy.specs.Forms.{line_of, has_table_word}

-- third: its `values` is no list, or its `file` is no string, and the place is that member
unfoldable pub operand_fault : Line → List Member → Option (List Step)
operand_fault line.Null members = None
operand_fault line.Values members =
    if some_is is_list (value_of (codes "values") members) then None else Some (step.Member (codes "values") ∷ [])
operand_fault line.File members =
    if some_is is_string (value_of (codes "file") members) then None else Some (step.Member (codes "file") ∷ [])
operand_fault line.Value members = None

-- second: its keys are no line of the table for its `is`, and the place is the object
abbrev pub line_fault : Option Line → List Member → Option (List Step)
line_fault None members = Some []
line_fault (Some line) members = operand_fault line members

-- first: its `is` is no word of the table, and the place is its `is`
unfoldable pub test_fault : List Member → Option (List Step)
test_fault members =
    if has_table_word members then line_fault (line_of members) members else Some (step.Member (codes "is") ∷ [])
