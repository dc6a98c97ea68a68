-- A file that was read to its end, or to the limit.
use Rattle.std.proofs.Common.{◌≡◌, ℕ, ◌≤◌, List, [], ◌++◌, length, take_all, sym, ◌∙◌, ap, append-nil}
use Rattle.std.proofs.lemmas.List.{take_at}
use Rattle.std.specs.FinMap.{get}
use Rattle.std.specs.Prelude.{Some, IsSome, IsTrue, unwrap_or}
use Rattle.helix_outside.specs.Disk.{DiskState}
use Rattle.helix_loading.specs.Files.{OnlyReads, AreRead}

-- so far: the file is open, and the bytes come before what is left of it
pub record HasRead (old : DiskState) (name : List ℕ) (new : DiskState) (bytes : List ℕ) : Type 0 where
  pub only_reads : OnlyReads old new
  pub read_faults : new.read_faults ≡ old.read_faults
  pub still_open : IsSome new.input
  pub whole : IsTrue old.told → get old.files name ≡ Some (bytes ++ unwrap_or new.input [])

module _ (old now : DiskState) (name bytes : List ℕ) (read : HasRead old name now bytes) where
  -- nothing is left
  pub AreRead-ended : length bytes ≤ 1048577 → (IsTrue now.told → now.input ≡ Some []) → AreRead old name bytes
  AreRead-ended within ended told = (
    bytes,
    read.whole told ∙ ap (λ o. Some (bytes ++ unwrap_or o [])) (ended (read.only_reads.told ∙ told))
        ∙ ap Some (append-nil bytes),
    sym (take_all 1048577 bytes within),
  )

  -- the limit is reached
  pub AreRead-full : length bytes ≡ 1048577 → AreRead old name bytes
  AreRead-full full told =
      (bytes ++ unwrap_or now.input [], read.whole told, sym (take_at bytes (unwrap_or now.input []) 1048577 full))
