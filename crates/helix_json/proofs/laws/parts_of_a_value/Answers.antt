use Rattle.helix_json.specs.ValueLaws.{numbers_of_items, numbers_of_members, keys_of_items, keys_of_members, nesting_of_items, nesting_of_members}
use Rattle.helix_json.proofs.laws.parts_of_a_value.Goals as goal

pub returns-clause-numbers_of_items : goal.returns-clause-numbers_of_items
returns-clause-numbers_of_items c = numbers_of_items

pub returns-clause-numbers_of_members : goal.returns-clause-numbers_of_members
returns-clause-numbers_of_members c = numbers_of_members

pub returns-clause-keys_of_items : goal.returns-clause-keys_of_items
returns-clause-keys_of_items c = keys_of_items

pub returns-clause-keys_of_members : goal.returns-clause-keys_of_members
returns-clause-keys_of_members c = keys_of_members

pub returns-clause-nesting_of_items : goal.returns-clause-nesting_of_items
returns-clause-nesting_of_items c = nesting_of_items

pub returns-clause-nesting_of_members : goal.returns-clause-nesting_of_members
returns-clause-nesting_of_members c = nesting_of_members
