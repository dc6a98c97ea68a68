use Rattle.std.proofs.Common.{◌++◌, flat_map, take}
use Rattle.sha2.specs.Hashers.{Holds256}
use Rattle.helix_token.specs.Identity.{measured}
use Rattle.helix_token.proofs.digest.identity.Given as goal

abbrev pub invariant-loop-file : goal.invariant-loop-file
invariant-loop-file l =
    Holds256 l.hasher ((measured l.profile ++ measured l.mode) ++ flat_map measured (take l.file-index l.files))
