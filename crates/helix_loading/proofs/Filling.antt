-- A draft whose set files are read one after the other.
use Rattle.std.proofs.Common.{◌≡◌, ◌≢◌, inl, inr, ℕ, suc, ◌+◌, ◌<◌, ◌≤◌, List, [], ◌∷◌, ◌++◌, Option, None, Some, length, map, refl, sym, ◌∙◌, ap, subst, arith, append_assoc, append-nil, length-append}
use Rattle.std.proofs.lemmas.Option.{same_Some}
use Rattle.std.specs.List.{AllByRecursion}
use Rattle.std.specs.Option.{IfSome, IsSome}
use Rattle.std.specs.Prelude.{IsTrue}
use Rattle.helix_outside.specs.Count.{Rose}
use Rattle.helix_outside.specs.Disk.{DiskState}
use Rattle.helix_outside.specs.Files.{FileMap}
use Rattle.helix_schema.specs.Drafts.{AreMembersOf, Drafted, IsMembersFor, filled, first_wanted, unfilled, wanted_from}
use Rattle.helix_schema.specs.declared.mention.Mention.{Mention}
use Rattle.helix_schema.specs.declared.refusal.Refusal.{Refusal}
use Rattle.helix_schema.specs.declared.wish.Wish.{Wish}
use Rattle.helix_sets.specs.SetFiles.{AreMembers, ReadsSet, records_of}
use Rattle.helix_values.specs.Universe.{InUniverse}
use Rattle.helix_values.specs.declared.cell.Cell.{Cell}
use Rattle.helix_values.specs.declared.kind.Kind.{Kind}
use Rattle.helix_loading.specs.Files.{OnlyReads}
use Rattle.helix_loading.specs.Inner.Stages.{IsUnread, ReadsAll, ReadsMention, RefusesMention, SameFiles, StopsMention, StopsSets}
use Rattle.helix_loading.specs.Loading.{BreaksSet, HasReached}
use Rattle.helix_loading.specs.Sources.{AreSets, HoldsFile, LacksFile, mentions, with_members}
use Rattle.helix_loading.specs.declared.loaded.LoadFault.{LoadFault}
use Rattle.helix_loading.specs.declared.loaded.LoadFault.TheVariants as fault

-- the wishes of which the first are filled
abbrev pub wishes_at : List Mention → List (List Cell) → List Mention → List Wish
wishes_at before sets rest = with_members before sets ++ map unfilled rest

-- so far: the files of the first mentions are read
pub record HasFilled (old : DiskState) (draft : Drafted) (now : DiskState) (so_far : Drafted)
    (others : List (List ℕ)) : Type 0 where
  pub same : SameFiles old now
  pub before : List Mention
  pub rest : List Mention
  pub sets : List (List Cell)
  pub mentions_are : mentions draft ≡ before ++ rest
  pub counted : length others ≡ length before
  pub as_many : length sets ≡ length before
  pub few : length before < 101
  pub filled_is : so_far ≡ record draft { wishes = wishes_at before sets rest }
  pub read : IsTrue old.told → AreSets old.files before others sets

-- reading twice is reading
pub reads_on : (old now new : DiskState) → OnlyReads old now → OnlyReads now new → OnlyReads old new
reads_on old now new first next = record {
  told = next.told ∙ first.told;
  files = next.files ∙ first.files;
  write_faults = next.write_faults ∙ first.write_faults;
}

pub same_on : (old now new : DiskState) → SameFiles old now → SameFiles now new → SameFiles old new
same_on old now new first next = record {
  only_reads = reads_on old now new first.only_reads next.only_reads;
  read_faults = next.read_faults ∙ first.read_faults;
}

pub same_at : (old : DiskState) → SameFiles old old
same_at old =
    record { only_reads = record { told = refl; files = refl; write_faults = refl }; read_faults = refl }

pub none_filled : (old : DiskState) (draft : Drafted) → IsUnread draft → HasFilled old draft old draft []
none_filled old draft unread = record {
  same = same_at old;
  before = [];
  rest = mentions draft;
  sets = [];
  mentions_are = refl;
  counted = refl;
  as_many = refl;
  few = omega arith;
  filled_is = ap (λ w. record draft { wishes = w }) unread;
  read = λ told. tt;
}

-- the first mention that is left, with its number
abbrev first_of : ℕ → List Mention → Option (ℕ × Mention)
first_of number [] = None
first_of number (mention ∷ rest) = Some (number, mention)

wanted_at : (number : ℕ) (before : List Mention) (sets : List (List Cell)) (rest : List Mention)
    → length sets ≡ length before
    → wanted_from number (wishes_at before sets rest) ≡ first_of (length before + number) rest
wanted_at number [] [] [] same = refl
wanted_at number [] [] (mention ∷ rest) same =
    ap (λ n. Some (n, mention)) (let e : number ≡ 0 + number = omega arith in e)
wanted_at number [] (members ∷ sets) rest same = absurd (omega (arith, same))
wanted_at number (own ∷ before) [] rest same = absurd (omega (arith, same))
wanted_at number (own ∷ before) (members ∷ sets) rest same =
    wanted_at (number + 1) before sets rest (omega (arith, same))
    ∙ ap (λ n. first_of n rest)
    (let e : length before + (number + 1) ≡ suc (length before) + number = omega arith in e)

filled_at : (before : List Mention) (sets : List (List Cell)) (mention : Mention) (rest : List Mention)
    (members : List Cell) → length sets ≡ length before
    → filled (wishes_at before sets (mention ∷ rest)) members
    ≡ wishes_at (before ++ mention ∷ []) (sets ++ members ∷ []) rest
filled_at [] [] mention rest members same = refl
filled_at [] (own ∷ sets) mention rest members same = absurd (omega (arith, same))
filled_at (first ∷ before) [] mention rest members same = absurd (omega (arith, same))
filled_at (first ∷ before) (own ∷ sets) mention rest members same =
    ap (λ l. record { mention = first; members = Some own } ∷ l)
    (filled_at before sets mention rest members (omega (arith, same)))

sets_at : (files : FileMap) (before : List Mention) (others : List (List ℕ)) (sets : List (List Cell))
    (mention : Mention) (bytes : List ℕ) (members : List Cell) → AreSets files before others sets
    → HoldsFile files mention.name bytes → ReadsSet mention.kind bytes members
    → AreSets files (before ++ mention ∷ []) (others ++ bytes ∷ []) (sets ++ members ∷ [])
sets_at files [] [] [] mention bytes members are there lists = (there, lists, tt)
sets_at files [] [] (own ∷ sets) mention bytes members are there lists = absurd are
sets_at files [] (other ∷ others) sets mention bytes members are there lists = absurd are
sets_at files (first ∷ before) [] sets mention bytes members are there lists = absurd are
sets_at files (first ∷ before) (other ∷ others) [] mention bytes members are there lists = absurd are
sets_at files (first ∷ before) (other ∷ others) (own ∷ sets) mention bytes members are there lists =
    (are.0, are.1, sets_at files before others sets mention bytes members are.2 there lists)

-- the mention that is wanted is the first that is left
next_is : (before : List Mention) (sets : List (List Cell)) (rest : List Mention) (number : ℕ) (mention : Mention)
    → length sets ≡ length before → Some (number, mention) ≡ first_wanted (wishes_at before sets rest)
    → (more : List Mention) × (rest ≡ mention ∷ more)
next_is before sets [] number mention same wanted =
    absurd (none_some number mention (wanted ∙ wanted_at 1 before sets [] same))
  where
    none_some : (number : ℕ) (mention : Mention) → ◌≡◌ {A = Option (ℕ × Mention)} (Some (number, mention)) None → ⊥
    none_some number mention e = absurd (cc)
next_is before sets (first ∷ more) number mention same wanted =
    (more, ap (λ m. m ∷ more) (sym (ap (λ p. p.1) (same_Some _ _ (wanted ∙ wanted_at 1 before sets (first ∷ more) same)))))

none_left : (before : List Mention) (sets : List (List Cell)) (rest : List Mention) → length sets ≡ length before
    → None ≡ first_wanted (wishes_at before sets rest) → rest ≡ []
none_left before sets [] same none = refl
none_left before sets (first ∷ more) same none =
    absurd (none_some (length before + 1) first (none ∙ wanted_at 1 before sets (first ∷ more) same))
  where
    none_some : (number : ℕ) (mention : Mention) → ◌≡◌ {A = Option (ℕ × Mention)} None (Some (number, mention)) → ⊥
    none_some number mention e = absurd (cc)

-- members that bytes list are some, of their kind
within_all : (kind : Kind) (records : List (List (List ℕ))) (members : List Cell) → AreMembers kind records members
    → AllByRecursion (InUniverse kind) members
within_all kind [] [] are = tt
within_all kind [] (value ∷ members) are = absurd are
within_all kind (fields ∷ records) [] are = absurd are
within_all kind (fields ∷ records) (value ∷ members) are =
    (are.0.spells.within, within_all kind records members are.1)

some_of : (kind : Kind) (records : List (List (List ℕ))) (members : List Cell) → AreMembers kind records members
    → 1 ≤ length records → members ≢ []
some_of kind [] members are some = absurd (omega (arith, some))
some_of kind (fields ∷ records) [] are some = absurd are
some_of kind (fields ∷ records) (value ∷ members) are some = λ none. absurd (cc)

pub are_members : (kind : Kind) (bytes : List ℕ) (members : List Cell) → ReadsSet kind bytes members
    → AreMembersOf kind members
are_members kind bytes members lists = record {
  some = some_of kind (records_of bytes) members lists.members lists.some;
  within = within_all kind (records_of bytes) members lists.members;
}

-- the members that were read are some for the wish that is filled
pub fits_wish : (number : ℕ) (mention : Mention) (bytes : List ℕ) (members : List Cell) (wishes : List Wish)
    → Some (number, mention) ≡ first_wanted wishes → ReadsSet mention.kind bytes members
    → IfSome (first_wanted wishes) (IsMembersFor members)
fits_wish number mention bytes members wishes wanted lists =
    subst (λ o. IfSome o (IsMembersFor members)) wanted (are_members mention.kind bytes members lists)

pub is_wanted : (number : ℕ) (mention : Mention) (wishes : List Wish) → Some (number, mention) ≡ first_wanted wishes
    → IsSome (first_wanted wishes)
is_wanted number mention wishes wanted = subst IsSome wanted refl

module _ (old : DiskState) (draft : Drafted) (now : DiskState) (so_far : Drafted) (others : List (List ℕ))
    (has : HasFilled old draft now so_far others)
  where
    pub within : length others ≤ 100
    within = omega (arith, has.counted, has.few)

    wanted_in : (wanted : Option (ℕ × Mention)) → wanted ≡ first_wanted so_far.wishes
        → wanted ≡ first_wanted (wishes_at has.before has.sets has.rest)
    wanted_in wanted is = is ∙ ap (λ d. first_wanted d.wishes) has.filled_is

    next_of : (number : ℕ) (mention : Mention) → Some (number, mention) ≡ first_wanted so_far.wishes
        → (more : List Mention) × (has.rest ≡ mention ∷ more)
    next_of number mention wanted =
        next_is has.before has.sets has.rest number mention has.as_many (wanted_in (Some (number, mention)) wanted)

    reaches : (number : ℕ) (mention : Mention) → Some (number, mention) ≡ first_wanted so_far.wishes → IsTrue old.told
        → HasReached old.files draft mention has.before
    reaches number mention wanted told =
        let (more, is) = next_of number mention wanted in record {
          rest = more;
          others = others;
          sets = has.sets;
          mentions_are = has.mentions_are ∙ ap (λ l. has.before ++ l) is;
          read = has.read told;
        }

    breaks : (number : ℕ) (mention : Mention) (refused : Refusal) → Some (number, mention) ≡ first_wanted so_far.wishes
        → IsTrue old.told → RefusesMention now.files mention (length others) refused → BreaksSet old.files draft refused
    breaks number mention refused wanted told (inl full) = record {
      mention = mention;
      before = has.before;
      reached = reaches number mention wanted told;
      broken = inl (sym has.counted ∙ full.0);
      refused_is = full.1;
    }
    breaks number mention refused wanted told (inr bad) =
        let (few, (bytes, there, none)) = bad in record {
          mention = mention;
          before = has.before;
          reached = reaches number mention wanted told;
          broken = inr (
            omega (arith, few, has.counted),
            (
              bytes,
              none.f,
              subst (λ f. HoldsFile f mention.name bytes) has.same.only_reads.files there,
              none.cause,
              none.broken,
            ),
          );
          refused_is = none.refused_is;
        }

    -- a set file isn't read
    pub stops_at : (number : ℕ) (mention : Mention) (stop : LoadFault) (new : DiskState)
        → Some (number, mention) ≡ first_wanted so_far.wishes → StopsMention now mention (length others) stop new
        → StopsSets old draft stop new
    stops_at number mention fault.Read new wanted (inl rose) =
        inl (subst (λ n. Rose n new.read_faults) has.same.read_faults rose)
    stops_at number mention fault.Read new wanted (inr (told, (few, lacks))) =
        let t : IsTrue old.told = sym has.same.only_reads.told ∙ told in
        inr (
          t,
          record {
            mention = mention;
            before = has.before;
            reached = reaches number mention wanted t;
            few = omega (arith, few, has.counted);
            missing = subst (λ f. LacksFile f mention.name) has.same.only_reads.files lacks;
          },
        )
    stops_at number mention (fault.Refused refused) new wanted stops = (
      stops.0 ∙ has.same.read_faults,
      λ told. breaks number mention refused wanted told (stops.1 (has.same.only_reads.told ∙ told)),
    )
    stops_at number mention fault.Memory new wanted stops = stops ∙ has.same.read_faults

    -- and where one is read, the next one follows
    pub fills_next : (number : ℕ) (mention : Mention) (new : DiskState) (next : Drafted) (bytes : List ℕ)
        (members : List Cell) (more_others : List (List ℕ)) → Some (number, mention) ≡ first_wanted so_far.wishes
        → SameFiles now new → ReadsMention now mention (length others) bytes members
        → next.wishes ≡ filled so_far.wishes members → next.alphabet ≡ so_far.alphabet → next.value ≡ so_far.value
        → more_others ≡ others ++ bytes ∷ [] → HasFilled old draft new next more_others
    fills_next number mention new next bytes members more_others wanted same reads wishes alphabet value pushed =
        let (more, is) = next_of number mention wanted in
        let e : wishes_at has.before has.sets has.rest ≡ wishes_at has.before has.sets (mention ∷ more) =
        ap (wishes_at has.before has.sets) is in
        subst (λ l. HasFilled old draft new next l) (sym pushed) (record {
          same = same_on old now new has.same same;
          before = has.before ++ mention ∷ [];
          rest = more;
          sets = has.sets ++ members ∷ [];
          mentions_are = has.mentions_are ∙ (ap (λ l. has.before ++ l) is
              ∙ sym (append_assoc has.before (mention ∷ []) more));
          counted = omega (
            arith,
            has.counted,
            length-append others (bytes ∷ []),
            length-append has.before (mention ∷ []),
          );
          as_many = omega (
            arith,
            has.as_many,
            length-append has.sets (members ∷ []),
            length-append has.before (mention ∷ []),
          );
          few = omega (arith, reads.few, has.counted, length-append has.before (mention ∷ []));
          filled_is = same_draft (wishes ∙ (ap (λ d. filled d.wishes members) has.filled_is
              ∙ (ap (λ w. filled w members) e
              ∙ filled_at has.before has.sets mention more members has.as_many)))
              (alphabet ∙ ap (λ d. d.alphabet) has.filled_is) (value ∙ ap (λ d. d.value) has.filled_is);
          read = λ told. sets_at old.files has.before others has.sets mention bytes members (has.read told)
              (subst (λ f. HoldsFile f mention.name bytes) has.same.only_reads.files
              (reads.there (has.same.only_reads.told ∙ told)))
              reads.lists;
        })
      where
        same_draft : {w : List Wish} → next.wishes ≡ w → next.alphabet ≡ draft.alphabet → next.value ≡ draft.value
            → next ≡ record draft { wishes = w }
        same_draft {w} wishes_are alphabet_is value_is =
            ap (λ a. record { alphabet = a; value = next.value; wishes = next.wishes }) alphabet_is
            ∙ (ap (λ v. record { alphabet = draft.alphabet; value = v; wishes = next.wishes }) value_is
            ∙ ap (λ l. record { alphabet = draft.alphabet; value = draft.value; wishes = l }) wishes_are)

    -- until all are read
    pub all_filled : None ≡ first_wanted so_far.wishes → ReadsAll old draft so_far others
    all_filled none =
        let left : has.rest ≡ [] = none_left has.before has.sets has.rest has.as_many (wanted_in None none) in
        let all : mentions draft ≡ has.before =
        has.mentions_are ∙ (ap (λ l. has.before ++ l) left ∙ append-nil has.before) in record {
          sets = has.sets;
          few = subst (λ l. length l < 101) (sym all) has.few;
          filled_is = has.filled_is ∙ (ap (λ l. record draft { wishes = wishes_at has.before has.sets l }) left
              ∙ (ap (λ l. record draft { wishes = l }) (append-nil (with_members has.before has.sets))
              ∙ ap (λ l. record draft { wishes = with_members l has.sets }) (sym all)));
          read = λ told. subst (λ l. AreSets old.files l others has.sets) (sym all) (has.read told);
        }
