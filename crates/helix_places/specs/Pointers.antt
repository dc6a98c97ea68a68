-- The pointer of a place: RFC 6901, section 3, behind a `#`. A character below U+0020 in a key is shown as `?`.
use Rattle.std.specs.Prelude.{ℕ, ◌==◌, nat_lt, if◌then◌else◌, List, [], ◌∷◌, codes, decimal, flat_map}
use Rattle.helix_places.specs.declared.place.Step.{Step}
use Rattle.helix_places.specs.declared.place.Step.TheVariants as step

-- a character of a key: '~' is 126, '/' is 47 and '?' is 63
abbrev pub escaped : ℕ → List ℕ
escaped code = if code == 126 then codes "~0" else if code == 47 then codes "~1"
    else if nat_lt code 32 then codes "?" else code ∷ []

abbrev pub step_text : Step → List ℕ
step_text (step.Member key) = 47 ∷ flat_map escaped key
step_text (step.Item index) = 47 ∷ decimal index

-- '#' is 35
abbrev pub pointer_of : List Step → List ℕ
pointer_of place = 35 ∷ flat_map step_text place
