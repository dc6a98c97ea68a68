-- Bytes are sent one after the other, until it stops.
use Rattle.std.proofs.Common.{◌≡◌, ℕ, ◌+◌, List, [], ◌++◌, length, take, refl, sym, ◌∙◌, ap, subst, arith, append_assoc, append-nil, length-append}
use Rattle.std.proofs.Math.Seq.{take-append-add, take-append-le}
use Rattle.std.specs.Prelude.{Result, Ok, Err, OnOk, OnErr, unwrap_or}
use Rattle.helix_outside.specs.Files.{appended}
use Rattle.helix_outside.specs.FileLaws.{appended-appended}
use Rattle.helix_outside.specs.Disk.{DiskState, written}
use Rattle.helix_output.specs.Writing.{AddsBytes, AppendsPart, PutsAll}
use Rattle.helix_writing.specs.Inner.Sending.{CountsStop, HasSent, KeepsOpen, StopsSending}
use Rattle.helix_writing.specs.declared.data_file.WriteFault.{WriteFault}
use Rattle.helix_writing.specs.declared.data_file.WriteFault.TheVariants as fault

-- what was written after what was written
written-written : (old mid : DiskState) (a b : List ℕ) → mid.output ≡ old.output → mid.files ≡ written old a
    → written mid b ≡ written old (a ++ b)
written-written old mid a b output files =
    ap (λ o. appended mid.files (unwrap_or o []) b) output
    ∙ ap (λ f. appended f (unwrap_or old.output []) b) files
    ∙ appended-appended old.files (unwrap_or old.output []) a b

module _ (old : DiskState) (owed : List ℕ) where
  pub flushed : {T E : Type 0} (x : T) (new : DiskState) → PutsAll {E = E} old owed (Ok x) new
      → HasSent old owed [] [] new
  flushed x new puts = record {
    keeps = record { told = puts.only.told; output = puts.only.output; read_faults = puts.only.read_faults };
    counted = puts.only.write_faults.ok;
    rest = record { out = owed; rest = refl; files = puts.all };
  }

  pub flush_failed : {T E : Type 0} (e : E) (new : DiskState) → PutsAll {T = T} old owed (Err e) new
      → StopsSending old owed [] fault.Failed new
  flush_failed e new puts = record {
    keeps = record { told = puts.only.told; output = puts.only.output; read_faults = puts.only.read_faults };
    counted = puts.only.write_faults.failed;
    part = subst (λ bytes. AppendsPart old bytes new) (sym (append-nil owed)) puts.part;
  }

  pub added : {T E : Type 0} (x : T) (bytes still : List ℕ) (new : DiskState)
      → AddsBytes {E = E} old owed bytes (Ok x) still new → HasSent old owed bytes still new
  added x bytes still new adds = record {
    keeps = record { told = adds.only.told; output = adds.only.output; read_faults = adds.only.read_faults };
    counted = adds.only.write_faults.ok;
    rest = adds.ok;
  }

  pub add_failed : {T E : Type 0} (e : E) (bytes still : List ℕ) (new : DiskState)
      → AddsBytes {T = T} old owed bytes (Err e) still new → StopsSending old owed bytes fault.Failed new
  add_failed e bytes still new adds = record {
    keeps = record { told = adds.only.told; output = adds.only.output; read_faults = adds.only.read_faults };
    counted = adds.only.write_faults.failed;
    part = adds.part;
  }

  -- a prefix of some bytes is one of these with more
  longer : (a b : List ℕ) (new : DiskState) → AppendsPart old (owed ++ a) new → AppendsPart old (owed ++ (a ++ b)) new
  longer a b new part told =
      let (n, within, files) = part told in (
        n,
        omega (arith, within, ap length (append_assoc owed a b), length-append (owed ++ a) b),
        files ∙ ap (written old) (sym (take-append-le n (owed ++ a) b within) ∙ ap (take n) (append_assoc owed a b)),
      )

  pub stopped_before : (a b : List ℕ) (stop : WriteFault) (new : DiskState) → StopsSending old owed a stop new
      → StopsSending old owed (a ++ b) stop new
  stopped_before a b stop new stops =
      record { keeps = stops.keeps; counted = stops.counted; part = longer a b new stops.part }

  module _ (a still : List ℕ) (mid : DiskState) (first : HasSent old owed a still mid) where
    keeps_on : (new : DiskState) → KeepsOpen mid new → KeepsOpen old new
    keeps_on new keeps = record {
      told = keeps.told ∙ first.keeps.told;
      output = keeps.output ∙ first.keeps.output;
      read_faults = keeps.read_faults ∙ first.keeps.read_faults;
    }

    all_bytes : (b : List ℕ) → first.rest.out ++ (still ++ b) ≡ owed ++ (a ++ b)
    all_bytes b =
        sym (append_assoc first.rest.out still b) ∙ ap (λ bytes. bytes ++ b) first.rest.rest ∙ append_assoc owed a b

    pub sent_on : (b last : List ℕ) (new : DiskState) → HasSent mid still b last new
        → HasSent old owed (a ++ b) last new
    sent_on b last new next = record {
      keeps = keeps_on new next.keeps;
      counted = next.counted ∙ first.counted;
      rest = record {
        out = first.rest.out ++ next.rest.out;
        rest =
            append_assoc first.rest.out next.rest.out last ∙ ap (λ bytes. first.rest.out ++ bytes) next.rest.rest
            ∙ all_bytes b;
        files = λ told.
            next.rest.files (first.keeps.told ∙ told)
            ∙ written-written old mid first.rest.out next.rest.out first.keeps.output (first.rest.files told);
      };
    }

    counts_on : (stop : WriteFault) (new : ℕ) → CountsStop stop mid.write_faults new
        → CountsStop stop old.write_faults new
    counts_on stop new counts = subst (λ n. CountsStop stop n new) first.counted counts

    pub stopped_after : (b : List ℕ) (stop : WriteFault) (new : DiskState) → StopsSending mid still b stop new
        → StopsSending old owed (a ++ b) stop new
    stopped_after b stop new stops = record {
      keeps = keeps_on new stops.keeps;
      counted = counts_on stop new.write_faults stops.counted;
      part = λ told.
          let (n, within, files) = stops.part (first.keeps.told ∙ told) in (
            length first.rest.out + n,
            omega (arith, within, ap length (all_bytes b), length-append first.rest.out (still ++ b)),
            files
                ∙ written-written old mid first.rest.out (take n (still ++ b)) first.keeps.output
                (first.rest.files told)
                ∙ ap (written old) (sym (take-append-add first.rest.out (still ++ b) n) ∙ ap (take (length
                first.rest.out + n)) (all_bytes b)),
          );
    }

-- what was sent goes out
module _ (old mid new : DiskState) (owed a still : List ℕ) (first : HasSent old owed a still mid) where
  pub sent_flushed : {T E : Type 0} (r : Result T E) → PutsAll mid still r new → OnOk r (HasSent old owed a [] new)
  sent_flushed (Err e) puts = tt
  sent_flushed (Ok x) puts =
      subst (λ bytes. HasSent old owed bytes [] new) (append-nil a)
      (sent_on old owed a still mid first [] [] new (flushed mid still x new puts))

  pub stop_flushed : {T E : Type 0} (r : Result T E) → PutsAll mid still r new
      → OnErr r (StopsSending old owed a fault.Failed new)
  stop_flushed (Ok x) puts = tt
  stop_flushed (Err e) puts =
      subst (λ bytes. StopsSending old owed bytes fault.Failed new) (append-nil a)
      (stopped_after old owed a still mid first [] fault.Failed new (flush_failed mid still e new puts))

-- nothing was sent yet
pub sent_nothing : (old : DiskState) (owed : List ℕ) → HasSent old owed [] owed old
sent_nothing old owed = record {
  keeps = record { told = refl; output = refl; read_faults = refl };
  counted = refl;
  rest = record { out = []; rest = sym (append-nil owed); files = λ told. refl };
}
