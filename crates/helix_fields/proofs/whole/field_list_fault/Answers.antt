use Rattle.std.proofs.Common.{◌≡◌, false, codes}
use Rattle.helix_places.specs.Members.{has_key, members_of, value_of}
use Rattle.helix_places.specs.Places.{Here, InMember}
use Rattle.helix_fields.specs.Whole.{is_list_within}
use Rattle.helix_fields.specs.RefusalLaws.{a_key, false_refused, no_key, not_both}
use Rattle.helix_fields.specs.SearchLaws.{below_says, top_says}
use Rattle.helix_fields.proofs.whole.field_list_fault.Goals as goal

pub returns-in-Some : goal.returns-in-Some
returns-in-Some c = below_says c.args.v.now (λ v. has_key (codes "fields") (members_of v) ≡ false)
    (InMember (codes "fields") (Here (λ fields. is_list_within 1 64 fields ≡ false))) c.refused_at.result
    (λ none. not_both (has_key (codes "fields") (members_of c.args.v.now))
    (a_key (value_of (codes "fields") (members_of c.args.v.now)) c.in-Some.fields.now c.in-Some.ensures) none)
    (false_refused c.args.v.now c.in-Some.fields.now (codes "fields") (is_list_within 1 64) c.in-Some.ensures
    c.is_list_within.result c.is_list_within.ensures c.refused_at.result c.refused_at.ensures)

pub returns-in-None : goal.returns-in-None
returns-in-None c = top_says c.args.v.now (λ v. has_key (codes "fields") (members_of v) ≡ false)
    (InMember (codes "fields") (Here (λ fields. is_list_within 1 64 fields ≡ false))) c.top.result c.top.ensures
    (no_key (value_of (codes "fields") (members_of c.args.v.now)) c.in-None.ensures)
