-- The lines that a run shows on the console, and the status of its ending.
use Rattle.std.specs.Prelude.{ℕ, List, [], ◌++◌, Some, codes, decimal, encode_utf8_all}
use Rattle.hex.specs.Hex.{encode_lower}
use Rattle.helix_command.specs.Options.{word_of}
use Rattle.helix_lines.specs.declared.ending.Ending.{Ending}
use Rattle.helix_lines.specs.declared.ending.Ending.TheVariants as ending
use Rattle.helix_lines.specs.declared.status.Status.{Status}
use Rattle.helix_lines.specs.declared.status.Status.TheVariants as status
use Rattle.helix_outside.specs.Console.{line_text}
use Rattle.helix_rules.specs.Names.{name_of}
use Rattle.helix_schema.specs.declared.refusal.Location.{Location}
use Rattle.helix_schema.specs.declared.refusal.Location.TheVariants as location
use Rattle.helix_schema.specs.declared.refusal.Refusal.{Refusal}
use Rattle.helix_token.specs.declared.fault.TokenFault.{TokenFault}
use Rattle.helix_token.specs.declared.fault.TokenFault.TheVariants as fault

-- the place of a refusal: an offset in bytes, or a pointer
abbrev pub place_line : Location → List ℕ
place_line (location.Byte at) = decimal at
place_line (location.Pointer pointer) = encode_utf8_all pointer

-- why a profile is refused
abbrev pub refused_line : Refusal → List ℕ
refused_line refused = codes "refused: rule " ++ (name_of refused.rule ++ (codes " at " ++ place_line refused.location))

-- why a token is refused; want of memory is no refusal
abbrev pub token_line : TokenFault → List ℕ
token_line fault.Form = codes "token: form"
token_line (fault.OtherProfile found wanted) =
    codes "token: other profile " ++ (encode_lower found ++ (codes " wanted " ++ encode_lower wanted))
token_line (fault.Cell index) = codes "token: cell " ++ decimal index
token_line fault.Memory = codes "fault: memory"

-- the first line of an ending
abbrev pub first_line : Ending → List ℕ
first_line (ending.Word number) = codes "usage: word " ++ decimal number
first_line (ending.«Option» option) = codes "usage: option " ++ word_of option
first_line ending.ReadFault = codes "fault: read"
first_line ending.WriteFault = codes "fault: write"
first_line ending.WantOfMemory = codes "fault: memory"
first_line (ending.ProfileRefused line) = line
first_line (ending.TokenRefused line) = line
first_line (ending.Done rows) = codes "done: " ++ (decimal rows ++ codes " rows")
first_line ending.Empty = codes "empty: 0 rows"
first_line (ending.Cut rows token) = codes "cut: " ++ (decimal rows ++ codes " rows")

-- a cut run without a token file shows its token on a second line
abbrev pub token_text : Ending → List ℕ
token_text (ending.Cut rows (Some token)) = line_text token
token_text other = []

-- all that an ending shows
abbrev pub text_of : Ending → List ℕ
text_of e = line_text (first_line e) ++ token_text e

abbrev pub status_of : Ending → Status
status_of (ending.Word number) = status.Usage
status_of (ending.«Option» option) = status.Usage
status_of ending.ReadFault = status.ReadFault
status_of ending.WriteFault = status.WriteFault
status_of ending.WantOfMemory = status.WantOfMemory
status_of (ending.ProfileRefused line) = status.ProfileRefused
status_of (ending.TokenRefused line) = status.TokenRefused
status_of (ending.Done rows) = status.Done
status_of ending.Empty = status.Empty
status_of (ending.Cut rows token) = status.Cut

-- the status where the console failed: a fault of a run that wrote its rows
abbrev pub unshown : Status → Status
unshown status.Done = status.WriteFault
unshown status.Empty = status.WriteFault
unshown status.Cut = status.WriteFault
unshown other = other
