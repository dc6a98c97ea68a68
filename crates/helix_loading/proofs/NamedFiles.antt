-- Files of names in characters, and set files among them.
use Rattle.std.proofs.Common.{◌≡◌, ℕ, ◌<◌, List, inr, subst}
use Rattle.std.specs.FinMap.{get}
use Rattle.std.specs.Prelude.{Some, encode_utf8_all}
use Rattle.helix_outside.specs.Disk.{DiskState}
use Rattle.helix_schema.specs.declared.mention.Mention.{Mention}
use Rattle.helix_loading.specs.Files.{AreRead}
use Rattle.helix_loading.specs.Inner.Stages.{AreOfFile, SameFiles, StopsMembers, StopsMention}
use Rattle.helix_loading.specs.declared.loaded.LoadFault.{LoadFault}
use Rattle.helix_loading.specs.declared.loaded.LoadFault.TheVariants as fault

-- what was read under the written name
pub named_read : (disk : DiskState) (name written bytes : List ℕ) → AreRead disk written bytes
    → written ≡ encode_utf8_all name → AreOfFile disk name bytes
named_read disk name written bytes read is told =
    let (whole, there, all) = read told in
    (whole, subst (λ n. get disk.files n ≡ Some whole) is there, all)

-- a file that was read is no set
pub no_members : (old new : DiskState) (mention : Mention) (count : ℕ) (bytes : List ℕ) → count < 100
    → SameFiles old new → AreOfFile old mention.name bytes → (stop : LoadFault) → StopsMembers mention bytes stop
    → StopsMention old mention count stop new
no_members old new mention count bytes few same there fault.Read stops = absurd stops
no_members old new mention count bytes few same there (fault.Refused refused) stops =
    (same.read_faults, λ told. inr (few, (bytes, there told, stops)))
no_members old new mention count bytes few same there fault.Memory stops = same.read_faults
