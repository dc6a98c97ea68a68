-- What the name of a field or of a rule is.
use Rattle.std.specs.Prelude.{ℕ, ◌==◌, Bool, ◌&&◌, not, nat_le, List, length}
use Rattle.std.specs.List.{list_all}

-- no control character
abbrev pub is_name_character : ℕ → Bool
is_name_character code = nat_le 32 code && not (code == 127)

-- 1 to 200 characters, none of them a control character
abbrev pub is_name_text : List ℕ → Bool
is_name_text text = nat_le 1 (length text) && nat_le (length text) 200 && list_all is_name_character text
