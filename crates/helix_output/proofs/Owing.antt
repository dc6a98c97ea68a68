-- Bytes that are owed, and those that are out.
use Rattle.std.proofs.Common.{◌≡◌, ℕ, ◌+◌, ◌≤◌, List, [], ◌++◌, length, take, refl, sym, ◌∙◌, ap, ap₂, subst, arith}
use Rattle.std.proofs.lemmas.List.{append-nil, length-append, take-append-le, take_all, drop_at, take_at}
use Rattle.std.proofs.Math.Seq.{take-add}
use Rattle.std.specs.Prelude.{Result, Ok, Err, IsErr, IsTrue, unwrap_or}
use Rattle.helix_outside.specs.Count.{Rose}
use Rattle.helix_outside.specs.Files.{appended}
use Rattle.helix_outside.specs.FileLaws.{appended-appended}
use Rattle.helix_outside.specs.Disk.{DiskState, written}
use Rattle.helix_output.specs.Writing.{PutsAll, AppendsPart, AddsBytes}

-- what was sent is what was owed
pub sent_owed : {T E : Type 0} (old mid : DiskState) (sent owed : List ℕ) (result : Result T E) → sent ≡ owed
    → PutsAll old sent result mid → PutsAll old owed result mid
sent_owed old mid sent owed result same puts = subst (λ (b : List ℕ). PutsAll old b result mid) same puts

-- bytes that fit are owed too, and nothing happens on the disk
pub kept_back : {T E : Type 0} (x : T) (disk : DiskState) (owed bytes still_owed : List ℕ) → still_owed ≡ owed ++ bytes
    → AddsBytes {T = T} {E = E} disk owed bytes (Ok x) still_owed disk
kept_back x disk owed bytes still_owed is = record {
  only = record {
    told = refl;
    input = refl;
    output = refl;
    read_faults = refl;
    write_faults = record { grows = omega arith; ok = refl; failed = tt };
  };
  ok = record { out = []; rest = is; files = λ told. refl };
  part = tt;
  stays = tt;
}

module _ (old mid : DiskState) (owed bytes : List ℕ) where
  -- a prefix of what was owed is one of all
  part_of_owed : {T E : Type 0} (e : E) → PutsAll {T = T} old owed (Err e) mid → AppendsPart old (owed ++ bytes) mid
  part_of_owed e puts told =
      let part : (n : ℕ) × (n ≤ length owed) × (mid.files ≡ written old (take n owed)) = puts.part told in (
        part.0,
        omega (arith, part.1, length-append owed bytes),
        part.2 ∙ ap (written old) (sym (take-append-le part.0 owed bytes part.1)),
      )

  -- the block could not go out
  pub not_out : {T U E F : Type 0} (e : E) (result : Result T F) → IsErr result → (still_owed : List ℕ)
      → still_owed ≡ owed → PutsAll {T = U} old owed (Err e) mid
      → AddsBytes old owed bytes result still_owed mid
  not_out e (Ok x) is still_owed same puts = absurd (cc)
  not_out e (Err f) is still_owed same puts = record {
    only = record {
      told = puts.only.told;
      input = puts.only.input;
      output = puts.only.output;
      read_faults = puts.only.read_faults;
      write_faults = record {
        grows = puts.only.write_faults.grows;
        ok = tt;
        failed = puts.only.write_faults.failed;
      };
    };
    ok = tt;
    part = part_of_owed e puts;
    stays = same;
  }

  -- the block is out, and the bytes are owed
  pub block_out : {T U E F : Type 0} (x : T) (u : U) (still_owed : List ℕ) → still_owed ≡ bytes
      → PutsAll {E = E} old owed (Ok u) mid → AddsBytes {E = F} old owed bytes (Ok x) still_owed mid
  block_out x u still_owed is puts = record {
    only = record {
      told = puts.only.told;
      input = puts.only.input;
      output = puts.only.output;
      read_faults = puts.only.read_faults;
      write_faults = record {
        grows = puts.only.write_faults.grows;
        ok = puts.only.write_faults.ok;
        failed = tt;
      };
    };
    ok = record { out = owed; rest = ap (λ b. owed ++ b) is; files = puts.all };
    part = tt;
    stays = tt;
  }

  module _ {U E : Type 0} (u : U) (new : DiskState) (first : PutsAll {E = E} old owed (Ok u) mid) where
    -- bytes after the block's
    all_files : (n : ℕ) → IsTrue old.told → new.files ≡ written mid (take n bytes)
        → new.files ≡ written old (owed ++ take n bytes)
    all_files n told more =
        more
        ∙ ap (λ o. appended mid.files (unwrap_or o []) (take n bytes)) first.only.output
        ∙ ap (λ f. appended f (unwrap_or old.output []) (take n bytes)) (first.all told)
        ∙ appended-appended old.files (unwrap_or old.output []) owed (take n bytes)

    -- the block is out, and so are the bytes
    pub both_out : {T V F G : Type 0} (x : T) (v : V) (still_owed : List ℕ) → still_owed ≡ []
        → PutsAll {E = F} mid bytes (Ok v) new → AddsBytes {E = G} old owed bytes (Ok x) still_owed new
    both_out x v still_owed is second = record {
      only = record {
        told = second.only.told ∙ first.only.told;
        input = second.only.input ∙ first.only.input;
        output = second.only.output ∙ first.only.output;
        read_faults = second.only.read_faults ∙ first.only.read_faults;
        write_faults = record {
          grows = omega (arith, first.only.write_faults.grows, second.only.write_faults.grows);
          ok = second.only.write_faults.ok ∙ first.only.write_faults.ok;
          failed = tt;
        };
      };
      ok = record {
        out = owed ++ bytes;
        rest = ap (λ b. (owed ++ bytes) ++ b) is ∙ append-nil (owed ++ bytes);
        files = λ told.
            let whole : take (length bytes) bytes ≡ bytes = take_all (length bytes) bytes (omega arith) in
            all_files (length bytes) told
            (second.all (first.only.told ∙ told) ∙ ap (written mid) (sym whole))
            ∙ ap (λ b. written old (owed ++ b)) whole;
      };
      part = tt;
      stays = tt;
    }

    -- the block is out, and a prefix of the bytes
    pub rest_failed : {T V F G : Type 0} (e : F) (result : Result T G) → IsErr result → (still_owed : List ℕ)
        → still_owed ≡ owed → PutsAll {T = V} mid bytes (Err e) new
        → AddsBytes old owed bytes result still_owed new
    rest_failed e (Ok x) is still_owed same second = absurd (cc)
    rest_failed e (Err f) is still_owed same second = record {
      only = record {
        told = second.only.told ∙ first.only.told;
        input = second.only.input ∙ first.only.input;
        output = second.only.output ∙ first.only.output;
        read_faults = second.only.read_faults ∙ first.only.read_faults;
        write_faults = record {
          grows = omega (arith, first.only.write_faults.grows, second.only.write_faults.grows);
          ok = tt;
          failed = subst (λ n. Rose n new.write_faults) first.only.write_faults.ok second.only.write_faults.failed;
        };
      };
      ok = tt;
      part = λ told.
          let part : (n : ℕ) × (n ≤ length bytes) × (new.files ≡ written mid (take n bytes)) =
          second.part (first.only.told ∙ told) in (
            length owed + part.0,
            omega (arith, part.1, length-append owed bytes),
            all_files part.0 told part.2 ∙ ap (written old) (sym (prefix part.0)),
          );
      stays = same;
    }
      where
        prefix : (n : ℕ) → take (length owed + n) (owed ++ bytes) ≡ owed ++ take n bytes
        prefix n =
            take-add (length owed) n (owed ++ bytes)
            ∙ ap₂ (λ (a b : List ℕ). a ++ take n b) (take_at owed bytes (length owed) refl)
            (drop_at owed bytes (length owed) refl)
