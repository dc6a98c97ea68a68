-- How loading ends, from how its stages end.
use Rattle.std.proofs.Common.{◌≡◌, ℕ, List, [], ◌∷◌, inl, inr, map, refl, sym, ◌∙◌, ap, subst}
use Rattle.std.specs.Prelude.{Option, Result, Ok, Err, IfOk, IfErr, IsErrAnd, IsTrue}
use Rattle.helix_base.specs.declared.alphabet.Alphabet.{Alphabet}
use Rattle.helix_outside.specs.Count.{Rose}
use Rattle.helix_outside.specs.Disk.{DiskState}
use Rattle.helix_profile.specs.Content.{Content}
use Rattle.helix_schema.specs.Drafts.{Drafted, IsProfileOf, unfilled}
use Rattle.helix_schema.specs.declared.mention.Mention.{Mention}
use Rattle.helix_loading.specs.Files.{OnlyReads}
use Rattle.helix_loading.specs.Inner.Stages.{AreOfFile, Completes, IsUnread, ReadsAll, SameFiles, StopsDraft, StopsDrafted, StopsFile, StopsSets}
use Rattle.helix_loading.specs.Loading.{EndsLoading, IsLoaded, IsMissing, IsRefusedFor, Loads, StopsLoading, no_json, no_profile, no_set, no_number}
use Rattle.helix_loading.specs.Sources.{HoldsFile, IsDrafted, Reads}
use Rattle.helix_loading.specs.declared.loaded.LoadFault.{LoadFault}
use Rattle.helix_loading.specs.declared.loaded.LoadFault.TheVariants as fault
use Rattle.helix_loading.specs.declared.loaded.Loaded.{Loaded}
use Rattle.helix_loading.proofs.Filling.{reads_on}

-- nothing of a fresh draft is read
mentions_unfilled : (list : List Mention) → map (λ wish. wish.mention) (map unfilled list) ≡ list
mentions_unfilled [] = refl
mentions_unfilled (mention ∷ list) = ap (λ l. mention ∷ l) (mentions_unfilled list)

unread_by : (draft : Drafted) (list : List Mention) → draft.wishes ≡ map unfilled list → IsUnread draft
unread_by draft list is =
    is ∙ ap (map unfilled) (sym (ap (map (λ wish. wish.mention)) is ∙ mentions_unfilled list))

pub unread : (alphabet : Alphabet) (bytes : List ℕ) (draft : Drafted) → IsDrafted alphabet bytes draft → IsUnread draft
unread alphabet bytes draft drafted = unread_by draft _ drafted.drafted.today.wishes

module _ (old : DiskState) (name : List ℕ) (alphabet : Alphabet) (violate : Option ℕ) where
  -- the profile file isn't read
  pub no_file : (stop : LoadFault) (new : DiskState) → StopsFile old name stop new
      → StopsLoading old name alphabet violate stop new
  no_file fault.Read new (inl rose) = inl rose
  no_file fault.Read new (inr (told, lacks)) = inr (told, inl lacks)
  no_file (fault.Refused refused) new stops = absurd stops
  no_file fault.Memory new stops = stops

  module _ (bytes : List ℕ) (there : AreOfFile old name bytes) where
    -- its bytes give no draft
    pub no_draft : (stop : LoadFault) → StopsDraft alphabet bytes stop → StopsLoading old name alphabet violate stop old
    no_draft fault.Read stops = absurd stops
    no_draft (fault.Refused refused) (inl json) =
        (refl, λ told. no_json bytes json.f (there told) json.broken json.refused_is)
    no_draft (fault.Refused refused) (inr profile) = (
      refl,
      λ told. no_profile bytes profile.value (there told) profile.spells profile.unbroken profile.refused_is,
    )
    no_draft fault.Memory stops = refl

    module _ (draft : Drafted) (drafted : IsDrafted alphabet bytes draft) where
      -- a set file isn't read
      pub no_sets : (stop : LoadFault) (new : DiskState) → StopsSets old draft stop new
          → StopsLoading old name alphabet violate stop new
      no_sets fault.Read new (inl rose) = inl rose
      no_sets fault.Read new (inr (told, lacks)) = inr (
        told,
        inr (record {
          bytes = bytes;
          draft = draft;
          mention = lacks.mention;
          before = lacks.before;
          there = there told;
          drafted = drafted;
          reached = lacks.reached;
          few = lacks.few;
          missing = lacks.missing;
        }),
      )
      no_sets (fault.Refused refused) new stops =
          (stops.0, λ told. no_set bytes draft (there told) drafted (stops.1 told))
      no_sets fault.Memory new stops = stops

      module _ (new : DiskState) (filled : Drafted) (others : List (List ℕ)) (same : SameFiles old new)
          (all : ReadsAll old draft filled others)
        where
          reads : (profile : Content) → IsProfileOf filled profile → IsTrue old.told
              → Reads old.files name alphabet bytes others profile
          reads profile is told = record {
            draft = draft;
            sets = all.sets;
            there = there told;
            drafted = drafted;
            read = all.read told;
            few = all.few;
            profile_is = subst (λ d. IsProfileOf d profile) all.filled_is is;
          }

          -- the draft is complete, or its number is refused
          pub ends : (result : Result Loaded LoadFault)
              → IfOk result (Completes filled alphabet violate bytes others) → IfErr result (StopsDrafted filled violate)
              → Loads old name alphabet violate result new
          ends (Ok loaded) completes stops = record {
            only_reads = same.only_reads;
            end = (
              same.read_faults,
              λ told. record {
                bytes = bytes;
                others = others;
                profile = completes.profile;
                reads = reads completes.profile completes.is told;
                listed = completes.gives.chosen.listed;
                profile_is = completes.gives.chosen.profile_is;
                identity_is = completes.gives.identity_is;
              },
            );
          }
          ends (Err fault.Read) completes stops = absurd stops
          ends (Err (fault.Refused refused)) completes stops = record {
            only_reads = same.only_reads;
            end = (
              same.read_faults,
              λ told. no_number bytes others stops.profile
                  (reads stops.profile stops.is told) stops.breaks,
            );
          }
          ends (Err fault.Memory) completes stops =
              record { only_reads = same.only_reads; end = same.read_faults }

-- a stop that only read
pub stopped : (old new : DiskState) (name : List ℕ) (alphabet : Alphabet) (violate : Option ℕ) (stop : LoadFault)
    → OnlyReads old new → StopsLoading old name alphabet violate stop new → (result : Result Loaded LoadFault)
    → IsErrAnd result (λ f. f ≡ stop) → Loads old name alphabet violate result new
stopped old new name alphabet violate stop only stops (Ok loaded) is = absurd is
stopped old new name alphabet violate stop only stops (Err f) is =
    subst (λ f. Loads old name alphabet violate (Err f) new) (sym is) (record { only_reads = only; end = stops })

-- what holds of bytes and of an end holds from before the reading
pub still_there : (old mid : DiskState) (name bytes : List ℕ) → SameFiles old mid → AreOfFile old name bytes
    → AreOfFile mid name bytes
still_there old mid name bytes same there told =
    subst (λ f. HoldsFile f name bytes) (sym same.only_reads.files) (there (sym same.only_reads.told ∙ told))

module _ (old mid : DiskState) (same : SameFiles old mid) (name : List ℕ) (alphabet : Alphabet) (violate : Option ℕ)
    (new : DiskState)
  where
    ends_before : (result : Result Loaded LoadFault) → EndsLoading mid name alphabet violate result new
        → EndsLoading old name alphabet violate result new
    ends_before (Ok loaded) end = (
      end.0 ∙ same.read_faults,
      λ told. subst (λ f. IsLoaded f name alphabet violate loaded) same.only_reads.files
          (end.1 (same.only_reads.told ∙ told)),
    )
    ends_before (Err fault.Read) (inl rose) = inl (subst (λ n. Rose n new.read_faults) same.read_faults rose)
    ends_before (Err fault.Read) (inr (told, missing)) = inr (
      sym same.only_reads.told ∙ told,
      subst (λ f. IsMissing f name alphabet) same.only_reads.files missing,
    )
    ends_before (Err (fault.Refused refused)) end = (
      end.0 ∙ same.read_faults,
      λ told. subst (λ f. IsRefusedFor f name alphabet violate refused) same.only_reads.files
          (end.1 (same.only_reads.told ∙ told)),
    )
    ends_before (Err fault.Memory) end = end ∙ same.read_faults

    pub loads_before : (result : Result Loaded LoadFault) → Loads mid name alphabet violate result new
        → Loads old name alphabet violate result new
    loads_before result loads = record {
      only_reads = reads_on old mid new same.only_reads loads.only_reads;
      end = ends_before result loads.end;
    }
