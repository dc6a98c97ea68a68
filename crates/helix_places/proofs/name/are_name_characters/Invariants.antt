use Rattle.std.proofs.Common.{◌≡◌, drop}
use Rattle.std.specs.List.{list_all}
use Rattle.helix_places.specs.Names.{is_name_character}
use Rattle.helix_places.proofs.name.are_name_characters.Given as goal

abbrev pub invariant-loop-code : goal.invariant-loop-code
invariant-loop-code l = list_all is_name_character (drop l.code-index l.text) ≡ list_all is_name_character l.text
