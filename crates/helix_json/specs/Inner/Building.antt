-- What the builder has so far, as a reading of tokens.
use Rattle.std.specs.Prelude.{List, [], ◌∷◌, ◌++◌}
use Rattle.helix_json.specs.declared.build.Frame.{Frame as Kept}
use Rattle.helix_json.specs.declared.build.Frame.TheVariants as kept
use Rattle.helix_json.specs.declared.build.Next.{Next}
use Rattle.helix_json.specs.declared.build.Next.TheVariants as next
use Rattle.helix_json.specs.Inner.Machine.{Frame, in_list, in_object, Reading, value, first_item, first_key, key, colon, after}

abbrev pub frame_of : Kept → Frame
frame_of (kept.List items) = in_list items
frame_of (kept.Object members name) = in_object members name

-- the builder keeps the innermost frame last
abbrev pub frames_of : List Kept → List Frame
frames_of [] = []
frames_of (f ∷ fs) = frames_of fs ++ frame_of f ∷ []

abbrev pub reading_of : Next → List Kept → Reading
reading_of next.Value fs = value (frames_of fs)
reading_of next.FirstItem fs = first_item (frames_of fs)
reading_of next.FirstKey fs = first_key (frames_of fs)
reading_of (next.Key members) fs = key members (frames_of fs)
reading_of (next.Colon members name) fs = colon members name (frames_of fs)
reading_of (next.After v) fs = after v (frames_of fs)
