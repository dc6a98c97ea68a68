use Rattle.std.proofs.Common.{◌≡◌, ◌+◌, ◌*◌, ◌≤◌, ◌++◌, take, vec_len, vec_capacity, encode_utf8_all}
use Rattle.json.specs.Print.{escape}
use Rattle.helix_output.proofs.put.put_json_string.Given as goal

abbrev pub invariant-loop-code : goal.invariant-loop-code
invariant-loop-code l = record {
  bytes : l.out.items ≡ l.initial.out.items ++ escape (encode_utf8_all (take l.code-index l.text));
  len : vec_len l.out ≤ vec_len l.initial.out + 4 * l.code-index;
  capacity : vec_capacity l.initial.out ≤ vec_capacity l.out;
}
