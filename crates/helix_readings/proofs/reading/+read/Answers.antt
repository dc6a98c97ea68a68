use Rattle.std.proofs.Common.{◌≡◌, Some}
use Rattle.helix_keywords.specs.declared.form.Form.TheVariants as forms
use Rattle.helix_readings.proofs.Conditions.{else_reads, if_else_reads, if_reads}
use Rattle.helix_readings.proofs.Lists.{empty_list, list_reads, next_part, no_part, not_empty}
use Rattle.helix_readings.proofs.Giving.{form_reads, found_by_form, nothing_reads, object_reads}
use Rattle.helix_readings.proofs.reading.+read.Goals as goal

pub read_constraint-returns-in-Some : goal.read_constraint-returns-in-Some
read_constraint-returns-in-Some t c = object_reads c.args.fields.now c.args.sets.now c.args.place.now c.args.v.now
    c.in-Some.members.now c.read_object.result c.in-Some.ensures.some c.read_object.ensures

pub read_constraint-returns-in-None : goal.read_constraint-returns-in-None
read_constraint-returns-in-None t c = nothing_reads c.args.fields.now c.args.sets.now c.args.place.now c.args.v.now
    c.in-None.ensures.none

pub read_if-returns-in-Some : goal.read_if-returns-in-Some
read_if-returns-in-Some t c = if_reads c.args.fields.now c.args.sets.now c.args.place.now c.args.members.now
    c.in-Some.condition c.in_ok-condition.field-0 c.read_then.result c.in_ok-condition.ensures c.in-Some.is
    c.read_then.ensures

pub read_if_else-returns-in-Some : goal.read_if_else-returns-in-Some
read_if_else-returns-in-Some t c = if_else_reads c.args.fields.now c.args.sets.now c.args.place.now
    c.args.members.now c.in-Some.condition c.in_ok-condition.field-0 c.read_then_else.result
    c.in_ok-condition.ensures c.in-Some.is c.read_then_else.ensures

pub read_then_else-returns-in-Some : goal.read_then_else-returns-in-Some
read_then_else-returns-in-Some t c = else_reads c.args.fields.now c.args.sets.now c.args.place.now
    c.args.members.now c.args.condition c.in-Some.consequent c.in_ok-consequent.field-0 c.read_else.result
    c.in_ok-consequent.ensures c.in-Some.is c.read_else.ensures

pub read_list-returns-then-is_empty_list : goal.read_list-returns-then-is_empty_list
read_list-returns-then-is_empty_list t c = empty_list c.args.fields.now c.args.sets.now c.args.place.now
    c.args.v.now c.in-Some.items.now c.in-Some.ensures.some (c.is_empty_list.ensures.0 c.if-is_empty_list.true)

pub read_list-returns-else-is_empty_list : goal.read_list-returns-else-is_empty_list
read_list-returns-else-is_empty_list t c = list_reads c.args.fields.now c.args.sets.now c.args.place.now
    c.args.v.now c.in-Some.items.now c.read_parts.result c.in-Some.ensures.some
    (not_empty c.in-Some.items.now c.is_empty_list.result c.is_empty_list.ensures c.if-is_empty_list.false)
    c.read_parts.ensures

pub read_object-returns-in-Some-Atom : goal.read_object-returns-in-Some-Atom
read_object-returns-in-Some-Atom t c =
    let form_is : c.form_of.result ≡ Some (forms.Atom c.in-Some-Atom.keyword) =
    let whole = c.in-Some-Atom.is in let part = c.in-Some-Atom.field-0-is in cc in
    form_reads c.args.fields.now c.args.sets.now c.args.place.now c.args.members.now c.form_of.result
    c.form_of.ensures (Some (forms.Atom c.in-Some-Atom.keyword)) c.atomic.result form_is c.atomic.ensures

pub read_object-returns-in-Some-Related : goal.read_object-returns-in-Some-Related
read_object-returns-in-Some-Related t c =
    let form_is : c.form_of.result ≡ Some (forms.Related c.in-Some-Related.keyword) =
    let whole = c.in-Some-Related.is in let part = c.in-Some-Related.field-0-is in cc in
    found_by_form c.args.fields.now c.args.sets.now c.args.place.now c.args.members.now c.form_of.result
    c.form_of.ensures (Some (forms.Related c.in-Some-Related.keyword)) c.related.result form_is c.related.ensures

pub read_parts-returns-in-None : goal.read_parts-returns-in-None
read_parts-returns-in-None t c = no_part c.args.fields.now c.args.sets.now c.args.place.now c.args.items.now
    c.loop-i.i c.index-items-i.result c.loop-i-test.true c.index-items-i.is c.in_ok-inner.inner
    c.in_ok-inner.ensures c.in_ok-part.field-0 c.in_ok-part.ensures c.in-None.is

pub read_parts-loop-i-preserved : goal.read_parts-loop-i-preserved
read_parts-loop-i-preserved t c = next_part c.args.fields.now c.args.sets.now c.args.place.now c.args.items.now
    c.loop-i.i c.index-items-i.result c.loop-i-test.true c.index-items-i.is c.in_ok-inner.inner
    c.in_ok-inner.ensures c.in_ok-part.field-0 c.in-Some.part c.loop-i.parts c.push.new.self c.loop-i.invariant
    c.in_ok-part.ensures c.in-Some.is c.in_ok-push-in-Some.ensures.ok
