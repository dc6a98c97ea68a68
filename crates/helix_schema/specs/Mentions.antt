-- The mentions of set files in a profile, in the order of the text.
use Rattle.std.specs.Prelude.{List, [], ◌∷◌, Option, Some, None, codes}
use Rattle.helix_json.specs.declared.value.Json.{Json}
use Rattle.helix_json.specs.declared.value.Json as json
use Rattle.helix_json.specs.declared.value.Member.{Member}
use Rattle.helix_keywords.specs.Forms.{form_of}
use Rattle.helix_keywords.specs.declared.form.Form.{Form}
use Rattle.helix_keywords.specs.declared.form.Form.TheVariants as form
use Rattle.helix_keywords.specs.declared.keyword.Keyword.TheVariants as keyword
use Rattle.helix_places.specs.Members.{members_of, value_of}
use Rattle.helix_places.specs.declared.place.Step.{Step}
use Rattle.helix_profile.specs.declared.field.Field.{Field}
use Rattle.helix_references.specs.Naming.{kind_by}
use Rattle.helix_traversal.specs.Traversal.{all_constraints, at_key, collected}
use Rattle.helix_values.specs.declared.kind.Kind.{Kind}
use Rattle.helix_schema.specs.declared.mention.Mention.{Mention}

-- an operand at a place that is a string, where the field is one of a kind
abbrev pub mention_by : List Step → Option Kind → Option Json → Option Mention
mention_by place (Some kind) (Some (json.Str name)) = Some (record { name = name; kind = kind; place = place })
mention_by place kind operand = None

-- only the form of `inSet` has such an operand
abbrev pub only_in_set : Option Form → Option Mention → Option Mention
only_in_set (Some (form.Atom keyword.InSet)) mention = mention
only_in_set other mention = None

-- the mention of a constraint at a place itself
abbrev pub mention_in : List Field → List Step → List Member → Option Mention
mention_in fields place members = only_in_set (form_of members)
    (mention_by (at_key place (codes "inSet")) (kind_by fields (value_of (codes "field") members))
    (value_of (codes "inSet") members))

-- the list of it, or of nothing
abbrev pub if_any : Option Mention → List Mention
if_any None = []
if_any (Some mention) = mention ∷ []

-- the mentions of a constraint itself: at most one
abbrev pub own_mentions : List Field → List Step → Json → List Mention
own_mentions fields place v = if_any (mention_in fields place (members_of v))

-- those of all constraints
abbrev pub mentions_of : List Field → Json → List Mention
mentions_of fields v = collected (own_mentions fields) (all_constraints v)
