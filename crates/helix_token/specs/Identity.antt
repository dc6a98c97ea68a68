-- The identity of a run: one digest of all that decides its rows.
use Rattle.std.specs.Prelude.{◌≡◌, ℕ, List, ◌∷◌, ◌++◌, length, flat_map}
use Rattle.std.specs.Int.{w64, to_be_bytes}
use Rattle.hex.specs.Hex.{IsBytes}
use Rattle.sha2.specs.Sha256.{sha256}

-- a piece after its length, in eight bytes with the highest first
abbrev pub measured : List ℕ → List ℕ
measured piece = to_be_bytes w64 (length piece) ++ piece

-- the SHA-256 digest (FIPS 180-4) of the profile's bytes, the mode line and the bytes of the set files, each measured
abbrev pub identity_of : List ℕ → List ℕ → List (List ℕ) → List ℕ
identity_of profile mode files = sha256 (flat_map measured (profile ∷ mode ∷ files))

-- an identity has 32 bytes
pub record IsIdentity (identity : List ℕ) : Type 0 where
  pub count : length identity ≡ 32
  pub bytes : IsBytes identity
